use mathlib.Core.Path.{sym, ◌∙◌}
use Rattle.rows.proofs.StandLaws.{threads_begin, thread_other, thread_same, threads_end}
use native.Mathlib.Omega.{arith}
use Rattle.rows.proofs.compare.same_threads.Goals as goal

pub loop-k-init : goal.loop-k-init
loop-k-init c = let a = c.args in threads_begin a.states.now a.threads.now a.at a.n

pub returns-then-not-same_thread : goal.returns-then-not-same_thread
returns-then-not-same_thread c =
    let a = c.args in
    let l = c.loop-k in
    let other = sym c.same_thread.ensures ∙ c.if-not-same_thread.true in
    thread_other a.states.now a.threads.now a.at a.n l.k (omega arith) c.thread_at.result c.thread_at.ensures other ∙ sym l.invariant

pub loop-k-preserved : goal.loop-k-preserved
loop-k-preserved c =
    let a = c.args in
    let l = c.loop-k in
    let same = sym c.same_thread.ensures ∙ c.if-not-same_thread.false in
    l.invariant ∙ thread_same a.states.now a.threads.now a.at a.n l.k (omega arith) c.thread_at.result c.thread_at.ensures same

pub returns : goal.returns
returns c =
    let a = c.args in
    let l = c.loop-k in
    threads_end a.states.now a.threads.now a.at a.n l.k (omega arith) ∙ sym l.invariant
