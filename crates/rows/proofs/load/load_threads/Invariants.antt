use mathlib.Core.Path.{◌≡◌}
use Rattle.steps.specs.Records.{threads_in}
use Rattle.rows.specs.Rows.{row_threads}
use Rattle.rows.proofs.load.load_threads.Given as goal

-- The invariant: the first k threads are put.
abbrev pub invariant-loop-k : goal.invariant-loop-k
invariant-loop-k l = threads_in l.threads 0 l.k ≡ row_threads l.states l.at l.k
