use mathlib.Core.Path.{◌≡◌}
use lib.ListN.{length, take}
use Rattle.states.specs.States.{up}
use Rattle.states.specs.Kept.{rank}
use Rattle.states.proofs.costs.ranks.Given as goal

abbrev pub invariant-loop-q : goal.invariant-loop-q
invariant-loop-q l = (length l.out ≡ 16) × (take l.q l.out ≡ up 0 l.q (rank l.us))
