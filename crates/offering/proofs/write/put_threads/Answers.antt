use Prim.Native.Nat.{◌+◌, ◌*◌}
use Rattle.offering.proofs.WriteLaws.{threads_begin, threads_turn, threads_end}
use native.Mathlib.Omega.{arith}
use Rattle.offering.proofs.write.put_threads.Goals as goal

pub loop-k-init : goal.loop-k-init
loop-k-init c = let a = c.args in threads_begin a.threads.now a.out.now a.at a.n

pub loop-k-preserved : goal.loop-k-preserved
loop-k-preserved c =
    let a = c.args in
    let l = c.loop-k in
    threads_turn a.threads.now l.out c.put_thread.new.out _ a.at a.n l.k c.thread_at.result (omega arith) c.thread_at.ensures c.put_thread.ensures l.invariant

pub returns : goal.returns
returns c =
    let a = c.args in
    let l = c.loop-k in
    threads_end a.threads.now l.out _ a.n l.k (a.at + 12 * l.k) (omega arith) l.invariant
