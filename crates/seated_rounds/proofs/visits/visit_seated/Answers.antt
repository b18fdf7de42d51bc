use native.Mathlib.Omega.{arith}
use Rattle.format.specs.Contents.{contents_at}
use Rattle.naming.specs.Scopes.{awaited_by}
use Rattle.seated_rounds.proofs.SeatedVisitLaws.{lone_refused, met-told, lone_waits, lone_steps, lone_ends}
use borrow.Author.Rules.{rules}
use Rattle.seated_rounds.proofs.visits.visit_seated.Goals as goal

pub choose_one-sat-requires : goal.choose_one-sat-requires
choose_one-sat-requires c = let q = c.requires in (q.0, q.1, q.2, q.3, q.4)

pub meet_seated-requires : goal.meet_seated-requires
meet_seated-requires c =
    let a = c.args in
    let q = c.requires in
    let g = c.choose_one-sat in
    let (_, few, _) = lone_refused (contents_at a.file.now a.head) a.seats.now a.threads.now a.beside.now a.owners.now a.lines.now q.4 a.i a.there a.moved q.5 q.6 q.7 (awaited_by a.table.now) g.result _ _ _ _ g.ensures _ c.in-Refused.is in
    (q.0, q.1, q.2, q.3, g.ensures.kept, q.5, q.6, few)

pub overflow_add-result : goal.overflow_add-result
overflow_add-result c = omega (arith, c.requires.5, c.requires.6, c.requires.7, c.requires.4.sized.threads)

pub overflow_sub-result : goal.overflow_sub-result
overflow_sub-result c = omega (arith, c.requires.5, c.requires.6, c.requires.7, c.requires.4.sized.threads)

pub close_up-requires : goal.close_up-requires
close_up-requires c = let q = c.requires in (q.5, omega (arith, q.6, q.7, q.4.sized.threads))

pub overflow_add-result-in-Steps : goal.overflow_add-result-in-Steps
overflow_add-result-in-Steps c = omega (arith, c.requires.5, c.requires.6, c.requires.7, c.requires.4.sized.threads)

pub with_moved-requires : goal.with_moved-requires
with_moved-requires c = let q = c.requires in (q.5, omega (arith, q.6, q.7, q.4.sized.threads))

pub returns-in-Refused : goal.returns-in-Refused
returns-in-Refused c =
    let a = c.args in
    let q = c.requires in
    let g = c.choose_one-sat in
    let (same, _, by) = lone_refused (contents_at a.file.now a.head) a.seats.now a.threads.now a.beside.now a.owners.now a.lines.now q.4 a.i a.there a.moved q.5 q.6 q.7 (awaited_by a.table.now) g.result _ _ _ _ g.ensures _ c.in-Refused.is in
    met-told (contents_at a.file.now a.head) a.seats.now a.threads.now a.beside.now a.owners.now a.lines.now q.4 a.i a.there a.moved q.5 q.6 q.7 (awaited_by a.table.now) g.result _ _ _ _ g.ensures c.meet_seated.result _ _ _ _ same by c.meet_seated.ensures

pub returns-in-Waits : goal.returns-in-Waits
returns-in-Waits c =
    let a = c.args in
    let q = c.requires in
    let g = c.choose_one-sat in
    lone_waits (contents_at a.file.now a.head) a.seats.now a.threads.now a.beside.now a.owners.now a.lines.now q.4 a.i a.there a.moved q.5 q.6 q.7 (awaited_by a.table.now) g.result _ _ _ _ g.ensures c.in-Waits.is

pub returns-in-Ends : goal.returns-in-Ends
returns-in-Ends c =
    let a = c.args in
    let q = c.requires in
    let g = c.choose_one-sat in
    lone_ends (contents_at a.file.now a.head) a.seats.now a.threads.now a.beside.now a.owners.now a.lines.now q.4 a.i a.there a.moved q.5 q.6 q.7 (awaited_by a.table.now) g.result _ _ _ _ g.ensures c.close_up.result c.in-Ends.is c.close_up.ensures

pub returns-in-Steps : goal.returns-in-Steps
returns-in-Steps c =
    let a = c.args in
    let q = c.requires in
    let g = c.choose_one-sat in
    lone_steps (contents_at a.file.now a.head) a.seats.now a.threads.now a.beside.now a.owners.now a.lines.now q.4 a.i a.there a.moved q.5 q.6 q.7 (awaited_by a.table.now) g.result _ _ _ _ g.ensures c.with_moved.result c.in-Steps.is c.with_moved.ensures
