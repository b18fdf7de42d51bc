use native.Mathlib.Omega.{arith}
use Rattle.format.specs.Contents.{contents_at}
use Rattle.steps.specs.Choice.{clinic_of}
use Rattle.dispatching.proofs.VisitLaws.{told_nothing, found_there, told_met}
use Rattle.dispatching.proofs.visits.meet.Goals as goal

pub returns-then-p-eq0 : goal.returns-then-p-eq0
returns-then-p-eq0 c =
    let a = c.args in
    let q = c.requires in
    told_nothing (clinic_of (contents_at a.file.now a.head)) a.threads.now a.beside.now q.3 a.i a.there a.moved q.4 q.5 q.6 c.receiver_for-p.result c.pass_by.result c.receiver_for-p.ensures c.if-p-eq0.true c.pass_by.ensures

pub with_moved-requires : goal.with_moved-requires
with_moved-requires c =
    let a = c.args in
    let q = c.requires in
    let (l, h) = found_there (clinic_of (contents_at a.file.now a.head)) a.threads.now a.beside.now q.3 a.i a.there a.moved q.4 q.5 q.6 c.receiver_for-p.result c.receiver_for-p.ensures c.if-p-eq0.false in
    (l, omega (arith, h, q.6, q.3.threads))

pub returns : goal.returns
returns c =
    let a = c.args in
    let q = c.requires in
    told_met (clinic_of (contents_at a.file.now a.head)) a.threads.now a.beside.now q.3 a.i a.there a.moved q.4 q.5 q.6 _ c.receiver_for-p.result c.go_through.result _ _ c.with_moved.result c.with_moved-2.result
    c.receiver_for-p.ensures c.if-p-eq0.false c.go_through.ensures c.with_moved.ensures c.with_moved-2.ensures
