use mathlib.Core.Path.{◌≡◌}
use mathlib.Core.Bool.{not, ◌||◌}
use lib.Dec.{eqb}
use lib.ListN.{drop}
use Rattle.running.specs.Ways.{stands_in}
use Rattle.running.proofs.pairs.stands_in.Given as goal

abbrev pub invariant-loop-k : goal.invariant-loop-k
invariant-loop-k l = (not (eqb l.found 0) || stands_in l.x (drop l.k l.table)) ≡ stands_in l.x l.table
