use Prim.Native.Nat.{suc, ◌+◌, ◌*◌, ◌-◌, ◌≤◌}
use mathlib.Core.Path.{◌≡◌}
use lib.ListN.{length}
use Rattle.seated.specs.SeatedTables.{lines_in}
use Rattle.rows.specs.Rows.{line_words}
use Rattle.offering.proofs.write.lines_length.Given as goal

-- The invariant: the words of the first r lines are counted.
abbrev pub invariant-loop-r : goal.invariant-loop-r
invariant-loop-r l = (l.n ≤ 33 * l.r) × (length (line_words (lines_in l.lines) 1 l.roles) ≡ l.n + length (line_words (lines_in l.lines) (suc l.r) (l.roles - l.r)))
