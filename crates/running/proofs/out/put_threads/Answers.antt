use native.Mathlib.Omega.{arith}
use Prim.Native.Nat.{◌+◌, ◌*◌}
use Rattle.running.proofs.PutLaws.{threads_turn, threads_end}
use borrow.Author.Rules.{rules}
use Rattle.running.proofs.out.put_threads.Goals as goal

pub loop-i-preserved : goal.loop-i-preserved
loop-i-preserved c =
    let a = c.args in
    let l = c.loop-i in
    let t = c.thread_at in
    let g = c.put_thread in (
      search rules,
      threads_turn a.threads.now l.out g.new.out _ a.base a.count l.i t.result (omega arith) t.ensures g.ensures l.invariant.1,
    )

pub returns : goal.returns
returns c =
    let a = c.args in
    let l = c.loop-i in
    threads_end a.threads.now l.out _ a.count l.i (2 * (a.base + 12 * l.i)) (omega arith) l.invariant.1
