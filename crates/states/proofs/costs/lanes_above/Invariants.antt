use mathlib.Core.Path.{◌≡◌}
use lib.Dec.{ltb}
use lib.ListN.{get_or}
use Rattle.states.specs.Kept.{gather}
use Rattle.states.proofs.costs.lanes_above.Given as goal

abbrev pub invariant-loop-q : goal.invariant-loop-q
invariant-loop-q l = (l.set ≡ gather l.q (λ q. ltb l.least (get_or l.lanes q 0)))
