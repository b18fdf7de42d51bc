use Prim.Native.Nat.{◌+◌, ◌-◌, ◌≤◌, ◌<◌}
use mathlib.Core.Path.{◌≡◌}
use Rattle.format.specs.Contents.{contents_at}
use Rattle.seats.specs.Seats.{sits, count_to, seated_start}
use Rattle.seated.proofs.start.start_count.Given as goal

-- The invariant: so many of the sessions before j start with the role.
abbrev pub invariant-loop-j : goal.invariant-loop-j
invariant-loop-j l = (l.j ≤ l.k + 1) × (l.n < l.j) × (l.n ≡ count_to (λ x. sits (seated_start (contents_at l.file l.head)) x l.role.0) (l.j - 1))
