use Prim.Native.Nat.{◌*◌}
use lib.ListN.{drop}
use lib.Seq.{paste}
use mathlib.Core.Path.{◌≡◌}
use Rattle.merging.proofs.writers.move_words.Given as goal

-- the first i bytes are copied
abbrev pub invariant-loop-i : goal.invariant-loop-i
invariant-loop-i l = l.out ≡ paste l.initial.out (2 * l.at) (drop (2 * l.from) l.file) l.i
