use Rattle.rows.proofs.LoadLaws.{LinesPut}
use Rattle.rows.proofs.load.load_lines.Given as goal

-- The invariant: the first r lines are put.
abbrev pub invariant-loop-r : goal.invariant-loop-r
invariant-loop-r l = LinesPut l.states l.at l.roles l.on l.r l.lines
