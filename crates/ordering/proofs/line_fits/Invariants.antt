use mathlib.Core.Path.{◌≡◌}
use lib.ListN.{drop}
use Rattle.masks.specs.Mask.{has}
use Rattle.seating.specs.SeatTables.{line_row}
use Rattle.ordering.specs.Order.{line_fits}
use Rattle.ordering.proofs.line_fits.Given as goal

-- The invariant: the first of the line, so many, may wait, and are seen.
abbrev pub invariant-loop-k : goal.invariant-loop-k
invariant-loop-k l = line_fits l.n (has l.mask) (line_row l.lines l.row) ≡ line_fits l.n (has l.seen) (drop l.k-index l.k-items)
