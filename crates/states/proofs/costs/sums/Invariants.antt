use Prim.Native.Nat.{◌+◌}
use mathlib.Core.Path.{◌≡◌}
use lib.ListN.{length, get_or, take}
use Rattle.states.specs.States.{up}
use Rattle.states.proofs.costs.sums.Given as goal

abbrev pub invariant-loop-q : goal.invariant-loop-q
invariant-loop-q l = (length l.out ≡ 16) × (take l.q l.out ≡ up 0 l.q (λ q. get_or l.one q 0 + get_or l.two q 0))
