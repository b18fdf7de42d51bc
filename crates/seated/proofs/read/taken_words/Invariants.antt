use mathlib.Core.Path.{◌≡◌}
use lib.ListN.{length, take}
use Rattle.masks.specs.Mask.{held}
use Rattle.format.specs.Contents.{tabled}
use Rattle.steps.specs.Records.{threads_in}
use Rattle.steps.specs.Beside.{thread_count}
use Rattle.seating.specs.SeatTables.{gathered}
use Rattle.seated.proofs.read.taken_words.Given as goal

-- The invariant: the first k words are filled.
abbrev pub invariant-loop-k : goal.invariant-loop-k
invariant-loop-k l = (length l.all ≡ 16) × (take l.k l.all ≡ tabled (λ role. held 32 (gathered (threads_in l.threads 0 (thread_count l.beside)) l.owners role 0)) 1 l.k)
