use Prim.Native.Nat.{◌+◌, ◌-◌, ◌≤◌}
use mathlib.Core.Path.{◌≡◌}
use lib.ListN.{length, drop}
use Rattle.format.specs.Contents.{contents_at}
use Rattle.format.specs.Stacks.{stacked}
use Rattle.trees.specs.Shape.{shape_from, roots, shape_answer}
use Rattle.trees.proofs.ShapeLaws.{blank}
use Rattle.trees.proofs.shape.walk.Given as goal

abbrev pub invariant-loop-i : goal.invariant-loop-i
invariant-loop-i l = (length l.stack ≡ 1057) × (stacked blank l.stack l.i ≡ roots (drop (l.sessions - l.i) (contents_at l.file l.head).sessions))

abbrev pub invariant-loop-i-2 : goal.invariant-loop-i-2
invariant-loop-i-2 l = (length l.stack ≡ 1057) × (l.depth ≤ 32 + l.i)
    × (shape_from (l.i + 1) (drop (l.i + 1 - 1) (contents_at l.file l.head).nodes) (stacked blank l.stack l.depth) ≡ shape_answer (contents_at l.file l.head))
