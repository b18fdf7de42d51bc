use Prim.Native.Nat.{◌+◌, ◌-◌, ◌≤◌}
use mathlib.Core.Path.{◌≡◌}
use Rattle.format.specs.Contents.{contents_at}
use Rattle.seats.specs.Seats.{limited_of, seated_start, overfills}
use Rattle.seated.proofs.start.overfill.Given as goal

-- The invariant: whether the first k sessions overfill one of the roles before r.
abbrev pub invariant-loop-r : goal.invariant-loop-r
invariant-loop-r l = (l.r ≤ l.r-end + 1) × (l.over ≡ overfills (limited_of (contents_at l.file l.head) l.seats) (seated_start (contents_at l.file l.head)) (l.r - 1) l.k)
