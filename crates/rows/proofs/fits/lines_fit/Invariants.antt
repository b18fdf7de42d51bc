use Prim.Native.Nat.{◌+◌, ◌*◌, ◌-◌, ◌≤◌}
use mathlib.Core.Path.{◌≡◌}
use Rattle.rows.specs.Fits.{lines_fit}
use Rattle.rows.proofs.fits.lines_fit.Given as goal

-- The invariant: the first r lines fit.
abbrev pub invariant-loop-r : goal.invariant-loop-r
invariant-loop-r l = (l.on ≤ l.at + 65536 * l._r) × (lines_fit l.states l.at l.roles ≡ lines_fit l.states l.on (l.roles - l._r))
