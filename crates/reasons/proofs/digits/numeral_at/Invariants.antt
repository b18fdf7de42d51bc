use mathlib.Core.Path.{◌≡◌}
use Prim.Native.Nat.{◌-◌, ◌<◌, ◌^◌}
use lib.ListN.{drop}
use Rattle.reasons.specs.Reasons.{numeral}
use Rattle.reasons.proofs.digits.numeral_at.Given as goal

abbrev pub invariant-loop-b : goal.invariant-loop-b
invariant-loop-b l = (numeral (5 - l.b-index) l.a (drop l.b-index l.next) ≡ numeral 5 0 (drop l.at l.s)) × (l.a < 10 ^ l.b-index)
