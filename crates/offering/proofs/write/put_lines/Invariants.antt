use Prim.Native.Nat.{suc, ◌+◌, ◌-◌, ◌≤◌}
use mathlib.Core.Path.{◌≡◌}
use lib.ListN.{length}
use lib.Seq.{sets}
use Rattle.seated.specs.SeatedTables.{lines_in}
use Rattle.rows.specs.Rows.{line_words}
use Rattle.offering.proofs.write.put_lines.Given as goal

-- The invariant: the first r lines are put.
abbrev pub invariant-loop-r : goal.invariant-loop-r
invariant-loop-r l = (l.on + length (line_words (lines_in l.lines) (suc l.r) (l.roles - l.r)) ≤ length l.out)
    × (sets l.out l.on (line_words (lines_in l.lines) (suc l.r) (l.roles - l.r)) ≡ sets l.initial.out l.at (line_words (lines_in l.lines) 1 l.roles))
