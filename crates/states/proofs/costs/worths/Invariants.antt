use mathlib.Core.Path.{◌≡◌}
use lib.ListN.{length, take}
use Rattle.states.specs.States.{up}
use Rattle.states.specs.Kept.{worth_at}
use Rattle.states.proofs.costs.worths.Given as goal

abbrev pub invariant-loop-q : goal.invariant-loop-q
invariant-loop-q l = (length l.us ≡ 16) × (take l.q l.us ≡ up 0 l.q (worth_at l.roles l.saving l.more))
