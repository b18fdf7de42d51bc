use Prim.Native.Nat.{suc, ◌+◌, ◌*◌, ◌-◌, ◌≤◌}
use mathlib.Core.Path.{◌≡◌}
use Rattle.seated.specs.SeatedTables.{lines_in}
use Rattle.rows.specs.Rows.{line_words, stands_at}
use Rattle.rows.proofs.compare.same_lines.Given as goal

-- The invariant: the first r lines are the same.
abbrev pub invariant-loop-r : goal.invariant-loop-r
invariant-loop-r l = (l.on ≤ l.at + 33 * l.r) × (stands_at l.states l.at (line_words (lines_in l.lines) 1 l.roles) ≡ stands_at l.states l.on (line_words (lines_in l.lines) (suc l.r) (l.roles - l.r)))
