use Prim.Native.Nat.{◌+◌, ◌*◌, ◌-◌}
use mathlib.Core.Path.{◌≡◌}
use lib.ListN.{length}
use lib.Seq.{sets}
use Rattle.format.specs.Words.{bytes_of}
use Rattle.running.specs.Run.{thread_words}
use Rattle.steps.specs.Records.{threads_in}
use Rattle.running.proofs.out.put_threads.Given as goal

abbrev pub invariant-loop-i : goal.invariant-loop-i
invariant-loop-i l = (length l.out ≡ length l.initial.out)
    × (sets l.out (2 * (l.base + 12 * l.i)) (bytes_of (thread_words (threads_in l.threads (12 * l.i) (l.count - l.i)))) ≡ sets l.initial.out (2 * l.base) (bytes_of (thread_words (threads_in l.threads 0 l.count))))
