use Prim.Native.Nat.{◌+◌, ◌≤◌}
use mathlib.Core.Path.{◌≡◌}
use mathlib.Core.List.{[], ◌∷◌, map}
use lib.ListN.{length, get_or, drop}
use lib.Seq.{sets}
use Rattle.format.specs.Contents.{contents_at}
use Rattle.format.specs.Stacks.{stacked}
use Rattle.states.specs.States.{packed}
use Rattle.states.specs.Kept.{followed}
use Rattle.states.proofs.PassLaws.{Under}
use Rattle.states.proofs.pass.follow.Given as goal

abbrev pub invariant-loop-i : goal.invariant-loop-i
invariant-loop-i l = (l.depth ≤ l.i) × (length l.stack ≡ length l.initial.stack) × (get_or l.stack 0 0 ≡ 0) × (length l.turns ≡ 1025)
    × Under 31 (l.from ∷ stacked 0 l.stack (l.depth + 1))
    × (sets l.turns (l.i + 1) (map packed (followed (drop l.i (contents_at l.file l.head).nodes) (drop l.i l.words) (l.from ∷ stacked 0 l.stack (l.depth + 1))))
    ≡ sets l.initial.turns 1 (map packed (followed (contents_at l.file l.head).nodes l.words [])))
