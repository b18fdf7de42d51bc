use Prim.Native.Nat.{◌+◌, ◌-◌, ◌≤◌}
use mathlib.Core.Path.{◌≡◌}
use lib.ListN.{drop}
use lib.Dec.{eqb}
use Rattle.format.specs.Contents.{contents_at}
use Rattle.trees.specs.Shape.{shape_answer}
use Rattle.trees.proofs.SoundLaws.{held, accepts, waits}
use Rattle.trees.proofs.sound.sound_by.Given as goal

abbrev pub invariant-loop-i : goal.invariant-loop-i
invariant-loop-i l = held l.stack (l.i + 1) ≡ waits (drop (l.sessions - l.i) (contents_at l.file l.head).sessions) (l.nodes + 1)

abbrev pub invariant-loop-i-2 : goal.invariant-loop-i-2
invariant-loop-i-2 l = (l.depth ≤ l.sessions + l.i)
    × (accepts (l.i + 1) (drop (l.i + 1 - 1) (contents_at l.file l.head).nodes) l.bound (held l.stack l.depth) ≡ eqb (shape_answer (contents_at l.file l.head)).number 0)
