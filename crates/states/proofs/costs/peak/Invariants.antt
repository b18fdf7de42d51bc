use mathlib.Core.Path.{◌≡◌}
use lib.ListN.{get_or}
use Rattle.states.specs.Kept.{highest}
use Rattle.states.proofs.costs.peak.Given as goal

abbrev pub invariant-loop-q : goal.invariant-loop-q
invariant-loop-q l = l.high ≡ highest l.base l.q (λ q. get_or l.lanes q 0)
