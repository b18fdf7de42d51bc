use mathlib.Core.Bool.{true, false}
use Rattle.format.specs.Contents.{contents_at}
use Rattle.rules.specs.Schema.{schema_of}
use Rattle.steps.specs.Threads.{value}
use Rattle.steps.specs.Beside.{made_of}
use Rattle.running.proofs.WayLaws.{worked_on}
use Rattle.running.proofs.pairs.works_on.Goals as goal

pub returns-then-may : goal.returns-then-may
returns-then-may c =
    let a = c.args in
    let v = c.value-over in
    let k = c.kind_held in
    let p = c.may in
    worked_on (schema_of (contents_at a.file.now a.head)) (made_of a.beside.now) a.table.now a.t.mask k.result.0 v.result (value a.t a.x) p.result true v.ensures k.ensures p.ensures.0 c.if-may.true

pub returns : goal.returns
returns c =
    let a = c.args in
    let v = c.value-over in
    let k = c.kind_held in
    let p = c.may in
    worked_on (schema_of (contents_at a.file.now a.head)) (made_of a.beside.now) a.table.now a.t.mask k.result.0 v.result (value a.t a.x) p.result false v.ensures k.ensures p.ensures.0 c.if-may.false
