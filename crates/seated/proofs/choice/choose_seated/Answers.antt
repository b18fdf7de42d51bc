use Rattle.format.specs.Contents.{contents_at}
use Rattle.naming.specs.Scopes.{awaited_by}
use Rattle.seated.proofs.ChoseLaws.{chose_waits, chose_steps}
use Rattle.seated.proofs.choice.choose_seated.Goals as goal

pub has_to_wait-requires : goal.has_to_wait-requires
has_to_wait-requires c = (c.requires.0, c.requires.3, c.requires.4)

pub returns-then-has_to_wait : goal.returns-then-has_to_wait
returns-then-has_to_wait c =
    let a = c.args in
    let q = c.requires in
    chose_waits (awaited_by a.table.now) (contents_at a.file.now a.head) a.seats.now a.threads.now a.beside.now a.owners.now a.lines.now q.4 a.i a.p c.has_to_wait.result _ c.has_to_wait.ensures c.if-has_to_wait.true

pub step_on-requires : goal.step_on-requires
step_on-requires c = (c.requires.0, c.requires.1, c.requires.2, c.requires.4.sized, c.requires.4.owners)

pub returns : goal.returns
returns c =
    let a = c.args in
    let q = c.requires in
    chose_steps (awaited_by a.table.now) (contents_at a.file.now a.head) a.seats.now a.threads.now a.beside.now a.owners.now a.lines.now q.4 a.i a.p c.has_to_wait.result _ c.has_to_wait.ensures c.if-has_to_wait.false c.step_on.result _ _ _ c.step_on.ensures
