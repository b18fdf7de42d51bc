use mathlib.Core.Path.{◌≡◌}
use Rattle.seats.specs.Seats.{seats_in}
use Rattle.seated.specs.SeatedTables.{seated_in}
use Rattle.ordering.specs.Order.{roles_fit}
use Rattle.ordering.proofs.in_order.Given as goal

-- The invariant: the roles above r fit.
abbrev pub invariant-loop-r : goal.invariant-loop-r
invariant-loop-r l = roles_fit l.n (seats_in l.seats) (seated_in l.threads l.beside l.owners l.lines) 16 ≡ roles_fit l.n (seats_in l.seats) (seated_in l.threads l.beside l.owners l.lines) l.r
