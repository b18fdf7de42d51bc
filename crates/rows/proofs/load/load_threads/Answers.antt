use Prim.Native.Nat.{ℕ}
use mathlib.Core.Path.{◌≡◌, subst}
use Rattle.steps.specs.Records.{threads_in}
use Rattle.rows.specs.Rows.{row_threads}
use Rattle.rows.proofs.LoadLaws.{threads_none, threads_more}
use native.Mathlib.Omega.{arith}
use Rattle.rows.proofs.load.load_threads.Goals as goal

pub loop-k-init : goal.loop-k-init
loop-k-init c = threads_none _ _ _

pub loop-k-preserved : goal.loop-k-preserved
loop-k-preserved c =
    let a = c.args in
    let l = c.loop-k in
    threads_more l.threads _ a.states.now a.at l.k c.thread_from.result (omega arith) c.thread_from.ensures c.put_thread.ensures l.invariant

pub returns : goal.returns
returns c =
    let a = c.args in
    let l = c.loop-k in
    let all : l.k ≡ a.n = omega arith in
    (subst (λ (x : ℕ). threads_in l.threads 0 x ≡ row_threads a.states.now a.at x) all l.invariant, omega arith)
