use Prim.Native.Nat.{◌+◌}
use native.Mathlib.Omega.{arith}
use Rattle.format.specs.Contents.{contents_at}
use Rattle.steps.specs.Choice.{clinic_of}
use Rattle.dispatching.proofs.ReceiverLaws.{silent, found, passed, none}
use Rattle.dispatching.proofs.visits.receiver_for.Goals as goal

pub returns-then-over-eq0 : goal.returns-then-over-eq0
returns-then-over-eq0 c =
    let a = c.args in
    let q = c.requires in
    silent (clinic_of (contents_at a.file.now a.head)) a.threads.now a.beside.now a.i q.4 q.5 a.moved a.there q.6
    c.thread_at-own.result c.from.result c.sends_on-over.result c.from.ensures c.thread_at-own.ensures c.sends_on-over.ensures c.if-over-eq0.true

pub returns-then-is_free : goal.returns-then-is_free
returns-then-is_free c =
    let a = c.args in
    let q = c.requires in
    found (clinic_of (contents_at a.file.now a.head)) a.threads.now a.beside.now a.i q.4 q.5 a.moved a.there q.6
    c.thread_at-own.result c.from.result c.sends_on-over.result c.from.ensures c.thread_at-own.ensures c.sends_on-over.ensures c.if-over-eq0.false
    c.loop-p.p c.is_free.result _ (omega arith) c.loop-p-test.true c.is_free.ensures c.if-is_free.true c.loop-p.invariant

pub loop-p-preserved : goal.loop-p-preserved
loop-p-preserved c =
    let a = c.args in
    let q = c.requires in
    passed (clinic_of (contents_at a.file.now a.head)) a.threads.now a.beside.now a.i q.4 q.5 a.moved a.there q.6
    c.thread_at-own.result c.from.result c.sends_on-over.result c.from.ensures c.thread_at-own.ensures c.sends_on-over.ensures c.if-over-eq0.false
    c.loop-p.p c.is_free.result _ (omega arith) c.loop-p-test.true c.is_free.ensures c.if-is_free.false c.loop-p.invariant

pub returns-else-over-eq0 : goal.returns-else-over-eq0
returns-else-over-eq0 c =
    let a = c.args in
    let q = c.requires in
    none (clinic_of (contents_at a.file.now a.head)) a.threads.now a.beside.now a.i q.4 q.5 a.moved a.there q.6 c.loop-p.p _ (omega arith) c.loop-p.invariant

pub returns-else-is_free : goal.returns-else-is_free
returns-else-is_free c =
    let a = c.args in
    let q = c.requires in
    let on = passed (clinic_of (contents_at a.file.now a.head)) a.threads.now a.beside.now a.i q.4 q.5 a.moved a.there q.6
    c.thread_at-own.result c.from.result c.sends_on-over.result c.from.ensures c.thread_at-own.ensures c.sends_on-over.ensures c.if-over-eq0.false
    c.loop-p.p c.is_free.result _ (omega arith) c.loop-p-test.true c.is_free.ensures c.if-is_free.false c.loop-p.invariant in
    none (clinic_of (contents_at a.file.now a.head)) a.threads.now a.beside.now a.i q.4 q.5 a.moved a.there q.6 (c.loop-p.p + 1) _ (omega arith) on
