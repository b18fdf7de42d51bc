use Prim.Native.Nat.{◌+◌}
use mathlib.Core.Path.{◌≡◌}
use lib.ListN.{length, drop}
use Rattle.format.specs.Contents.{contents_at}
use Rattle.format.specs.Writing.{nodes_put}
use Rattle.turning.proofs.put_nodes.Given as goal

abbrev pub invariant-loop-i : goal.invariant-loop-i
invariant-loop-i l = (length l.out ≡ length l.initial.out)
    × (nodes_put l.whole (l.i + 1) (drop l.i (contents_at l.file l.head).nodes) l.out ≡ nodes_put l.whole 1 (contents_at l.file l.head).nodes l.initial.out)
