use Prim.Native.Nat.{◌-◌, ◌≤◌}
use mathlib.Core.Path.{◌≡◌}
use Rattle.steps.proofs.TableLaws.{down}
use Rattle.seated.proofs.choice.move_down.Given as goal

-- The invariant: the sessions from the gap up to k have moved down.
abbrev pub invariant-loop-k : goal.invariant-loop-k
invariant-loop-k l = (l.at ≤ l.k) × (l.owners ≡ down l.initial.owners l.at 1 (l.k - l.at))
