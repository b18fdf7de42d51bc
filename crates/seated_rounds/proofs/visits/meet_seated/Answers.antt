use native.Mathlib.Omega.{arith}
use Rattle.format.specs.Contents.{contents_at}
use Rattle.naming.specs.Scopes.{awaited_by}
use Rattle.seated_rounds.proofs.SeatedVisitLaws.{receiver_is, told_nothing, found_there, told_met}
use borrow.Author.Rules.{rules}
use Rattle.seated_rounds.proofs.visits.meet_seated.Goals as goal

pub receiver_for-p-requires : goal.receiver_for-p-requires
receiver_for-p-requires c = let q = c.requires in (q.0, q.1, q.2, q.4.sized, q.5, omega (arith, q.6, q.7), q.7)

pub overflow_add-result : goal.overflow_add-result
overflow_add-result c = omega (arith, c.requires.5, c.requires.6, c.requires.7, c.requires.4.sized.threads)

pub returns-then-p-eq0 : goal.returns-then-p-eq0
returns-then-p-eq0 c =
    let a = c.args in
    let q = c.requires in
    let is = receiver_is (contents_at a.file.now a.head) a.seats.now a.threads.now a.beside.now a.owners.now a.lines.now q.4 a.i a.there a.moved q.5 q.6 q.7 c.receiver_for-p.result c.receiver_for-p.ensures in
    told_nothing (contents_at a.file.now a.head) a.seats.now a.threads.now a.beside.now a.owners.now a.lines.now q.4 a.i a.there a.moved q.5 q.6 q.7 c.receiver_for-p.result is c.if-p-eq0.true

pub choose_one-requires : goal.choose_one-requires
choose_one-requires c = let q = c.requires in (q.0, q.1, q.2, q.3, q.4)

pub overflow_add-result-2 : goal.overflow_add-result-2
overflow_add-result-2 c = omega (arith, c.requires.5, c.requires.6, c.requires.7, c.requires.4.sized.threads)

pub with_moved-requires : goal.with_moved-requires
with_moved-requires c =
    let a = c.args in
    let q = c.requires in
    let is = receiver_is (contents_at a.file.now a.head) a.seats.now a.threads.now a.beside.now a.owners.now a.lines.now q.4 a.i a.there a.moved q.5 q.6 q.7 c.receiver_for-p.result c.receiver_for-p.ensures in
    let (l, h) = found_there (contents_at a.file.now a.head) a.seats.now a.threads.now a.beside.now a.owners.now a.lines.now q.4 a.i a.there a.moved q.5 q.6 q.7 c.receiver_for-p.result is c.if-p-eq0.false in
    (l, omega (arith, h, q.7, q.4.sized.threads))

pub with_moved-requires-2 : goal.with_moved-requires-2
with_moved-requires-2 c = let q = c.requires in (q.5, omega (arith, q.6, q.7, q.4.sized.threads))

pub returns : goal.returns
returns c =
    let a = c.args in
    let q = c.requires in
    let g = c.choose_one in
    let is = receiver_is (contents_at a.file.now a.head) a.seats.now a.threads.now a.beside.now a.owners.now a.lines.now q.4 a.i a.there a.moved q.5 q.6 q.7 c.receiver_for-p.result c.receiver_for-p.ensures in
    told_met (contents_at a.file.now a.head) a.seats.now a.threads.now a.beside.now a.owners.now a.lines.now q.4 a.i a.there a.moved q.5 q.6 q.7 (awaited_by a.table.now) g.result _ _ _ _ c.receiver_for-p.result g.ensures c.with_moved.result c.with_moved-2.result is c.if-p-eq0.false c.with_moved.ensures c.with_moved-2.ensures
