use Prim.Native.Nat.{suc}
use mathlib.Core.Path.{◌≡◌}
use lib.ListN.{get_or, drop}
use Rattle.format.specs.Contents.{contents_at}
use Rattle.trees.specs.Ends.{table_from}
use Rattle.trees.proofs.ends.ends.Given as goal

abbrev pub invariant-loop-i : goal.invariant-loop-i
invariant-loop-i l = (get_or l.ends 0 0 ≡ 0) × (drop (suc l.i) l.ends ≡ table_from (suc l.i) (drop l.i (contents_at l.file l.head).nodes))
