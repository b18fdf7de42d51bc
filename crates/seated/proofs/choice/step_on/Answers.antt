use Prim.Native.Nat.{ℕ}
use mathlib.Core.Path.{ap, ◌∙◌}
use Rattle.format.specs.Contents.{contents_at}
use Rattle.naming.specs.Scopes.{awaited_by}
use Rattle.steps.specs.Choice.{clinic_of}
use Rattle.choices.proofs.TriedLaws.{one_chose}
use Rattle.seated.specs.SeatedTables.{owners_passed}
use Rattle.seated.proofs.ChoseLaws.{step_room, stepped}
use Rattle.seated.proofs.choice.step_on.Goals as goal

pub pass_on-requires : goal.pass_on-requires
pass_on-requires c =
    let a = c.args in
    let q = c.requires in
    let g = c.go_through-went in
    let chose = one_chose (awaited_by a.table.now) (clinic_of (contents_at a.file.now a.head)) a.threads.now a.beside.now _ _ a.i a.p g.result g.ensures in
    (q.4, step_room (awaited_by a.table.now) (clinic_of (contents_at a.file.now a.head)) a.threads.now a.beside.now _ _ a.i a.p q.3 g.result.last chose c.from.result (c.from.ensures ∙ c.thread_count-count.ensures))

pub returns : goal.returns
returns c =
    let a = c.args in
    let q = c.requires in
    let g = c.go_through-went in
    let chose = one_chose (awaited_by a.table.now) (clinic_of (contents_at a.file.now a.head)) a.threads.now a.beside.now _ _ a.i a.p g.result g.ensures in
    stepped (awaited_by a.table.now) (clinic_of (contents_at a.file.now a.head)) a.threads.now a.beside.now a.owners.now _ _ _ a.i a.p q.3 q.4 g.result.last c.sat_of.result chose
    (c.pass_on.ensures ∙ ap (λ (x : ℕ). owners_passed a.owners.now x a.i g.result.last) (c.from.ensures ∙ c.thread_count-count.ensures)) c.sat_of.ensures
