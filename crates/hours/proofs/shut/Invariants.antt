use mathlib.Core.Path.{◌≡◌}
use Rattle.hours.specs.Hours.{contains, roles_of, any_row}
use Rattle.hours.proofs.shut.Given as goal

abbrev pub invariant-loop-i : goal.invariant-loop-i
invariant-loop-i l = (l.named ≡ roles_of l.hours any_row l.i) × (l.inside ≡ roles_of l.hours (contains l.minute) l.i)
