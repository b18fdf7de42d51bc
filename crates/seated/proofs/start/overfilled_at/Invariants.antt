use Prim.Native.Nat.{◌+◌, ◌-◌, ◌≤◌}
use mathlib.Core.Path.{◌≡◌}
use lib.ListN.{length}
use Rattle.format.specs.Contents.{contents_at}
use Rattle.seats.specs.Seats.{limited_of, seated_start, overfills, lowest_to}
use Rattle.seated.proofs.start.overfilled_at.Given as goal

-- The invariant: none of the sessions before k overfills a role.
abbrev pub invariant-loop-k : goal.invariant-loop-k
invariant-loop-k l = (l.k ≤ l.k-end + 1) × (lowest_to (overfills (limited_of (contents_at l.file l.head) l.seats) (seated_start (contents_at l.file l.head)) (length l.seats)) (l.k - 1) ≡ 0)
