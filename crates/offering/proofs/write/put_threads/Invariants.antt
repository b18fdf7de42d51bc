use Prim.Native.Nat.{◌+◌, ◌*◌, ◌-◌}
use mathlib.Core.Path.{◌≡◌}
use lib.Seq.{sets}
use Rattle.running.specs.Run.{thread_words}
use Rattle.steps.specs.Records.{threads_in}
use Rattle.offering.proofs.write.put_threads.Given as goal

-- The invariant: the first k threads are put.
abbrev pub invariant-loop-k : goal.invariant-loop-k
invariant-loop-k l = sets l.out (l.at + 12 * l.k) (thread_words (threads_in l.threads (12 * l.k) (l.n - l.k))) ≡ sets l.initial.out l.at (thread_words (threads_in l.threads 0 l.n))
