use mathlib.Core.Path.{sym, ◌∙◌}
use native.Mathlib.Omega.{arith}
use lib.ListN.{get_or}
use Rattle.format.specs.Contents.{contents_at}
use Rattle.format.proofs.ContentsLaws.{users_held, kinds_held}
use Rattle.rules.specs.Schema.{schema_of}
use Rattle.lending.proofs.JudgeLaws.{made_owner, made_kind, made_fits_lem, made_done}
use Rattle.lending.proofs.judging.made_fit.Goals as goal

pub returns-then-not-in_count : goal.returns-then-not-in_count
returns-then-not-in_count c =
    let a = c.args in
    let l = c.loop-k in
    let it = c.made_at-it in
    let owner = sym c.in_count.ensures ∙ c.if-not-in_count.true in
    λ bytes. sym (made_owner (schema_of (contents_at bytes a.head)) a.beside.now (get_or a.beside.now 1 0) l.k a.head.count.users a.head.count.kinds (users_held bytes a.head) (kinds_held bytes a.head) it.result it.ensures (omega arith) owner) ∙ l.invariant bytes

pub returns-then-not-in_count-2 : goal.returns-then-not-in_count-2
returns-then-not-in_count-2 c =
    let a = c.args in
    let l = c.loop-k in
    let it = c.made_at-it in
    let owner = sym c.in_count.ensures ∙ c.if-not-in_count.false in
    let kind = sym c.in_count-in-loop-k.ensures ∙ c.if-not-in_count-2.true in
    λ bytes. sym (made_kind (schema_of (contents_at bytes a.head)) a.beside.now (get_or a.beside.now 1 0) l.k a.head.count.users a.head.count.kinds (users_held bytes a.head) (kinds_held bytes a.head) it.result it.ensures (omega arith) owner kind) ∙ l.invariant bytes

pub loop-k-preserved : goal.loop-k-preserved
loop-k-preserved c =
    let a = c.args in
    let l = c.loop-k in
    let it = c.made_at-it in
    let owner = sym c.in_count.ensures ∙ c.if-not-in_count.false in
    let kind = sym c.in_count-in-loop-k.ensures ∙ c.if-not-in_count-2.false in
    λ bytes. sym (made_fits_lem (schema_of (contents_at bytes a.head)) a.beside.now (get_or a.beside.now 1 0) l.k a.head.count.users a.head.count.kinds (users_held bytes a.head) (kinds_held bytes a.head) it.result it.ensures (omega arith) owner kind) ∙ l.invariant bytes

pub returns : goal.returns
returns c =
    let a = c.args in
    let l = c.loop-k in
    λ bytes. sym (made_done (schema_of (contents_at bytes a.head)) a.beside.now (get_or a.beside.now 1 0) l.k a.head.count.users a.head.count.kinds (users_held bytes a.head) (kinds_held bytes a.head) (omega arith)) ∙ l.invariant bytes
