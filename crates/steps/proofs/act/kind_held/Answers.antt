use Rattle.rules.specs.Schema.{schema_of}
use Rattle.format.specs.Contents.{contents_at}
use Rattle.format.specs.declared.Channel.{Channel}
use Rattle.steps.proofs.ActLaws.{kind_plain, kind_channel, kind_of_made, kind_of_none}
use native.Mathlib.Omega.{arith}
use mathlib.Core.Path.{ap, ◌∙◌}
use lib.ListN.{get_or}
use Rattle.steps.proofs.act.kind_held.Goals as goal

pub returns-then-v-lt257 : goal.returns-then-v-lt257
returns-then-v-lt257 c =
    let a = c.args in
    kind_plain (schema_of (contents_at a.file.now a.head)) a.beside.now (get_or a.beside.now 1 0) a.v c.if-v-lt257.true

pub returns-then-v-lt385 : goal.returns-then-v-lt385
returns-then-v-lt385 c =
    let a = c.args in
    ap (λ (y : Channel). y.kind.0) c.channel-it.ensures
    ∙ kind_channel (schema_of (contents_at a.file.now a.head)) a.beside.now (get_or a.beside.now 1 0) a.v c.if-v-lt257.false c.if-v-lt385.true

pub made_at-it-requires : goal.made_at-it-requires
made_at-it-requires c =
    let p = c.requires in
    (p.1, omega (arith, p.2, c.if-i-from.true, c.from.ensures, c.made_count.ensures))

pub returns-then-i-from : goal.returns-then-i-from
returns-then-i-from c =
    let a = c.args in
    kind_of_made (schema_of (contents_at a.file.now a.head)) a.beside.now (get_or a.beside.now 1 0) a.v c.from-i.result c.made_at-it.result c.if-v-lt385.false c.from-i.ensures
    (omega (arith, c.if-i-from.true, c.from.ensures, c.made_count.ensures)) c.made_at-it.ensures

pub returns : goal.returns
returns c =
    let a = c.args in
    kind_of_none (schema_of (contents_at a.file.now a.head)) a.beside.now (get_or a.beside.now 1 0) a.v c.from-i.result c.if-v-lt385.false c.from-i.ensures
    (omega (arith, c.if-i-from.false, c.from.ensures, c.made_count.ensures))
