use Prim.Native.Nat.{◌+◌, ◌*◌, ◌-◌}
use mathlib.Core.Path.{◌≡◌}
use Rattle.steps.specs.Records.{threads_in}
use Rattle.running.specs.Run.{thread_words}
use Rattle.rows.specs.Rows.{stands_at}
use Rattle.rows.proofs.compare.same_threads.Given as goal

-- The invariant: the words of the first k threads are the same.
abbrev pub invariant-loop-k : goal.invariant-loop-k
invariant-loop-k l = stands_at l.states l.at (thread_words (threads_in l.threads 0 l.n)) ≡ stands_at l.states (l.at + 12 * l.k) (thread_words (threads_in l.threads (12 * l.k) (l.n - l.k)))
