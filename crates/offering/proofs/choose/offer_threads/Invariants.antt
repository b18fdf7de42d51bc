use Prim.Native.Nat.{◌+◌, ◌*◌, ◌-◌, ◌≤◌}
use mathlib.Core.Path.{◌≡◌}
use lib.ListN.{length}
use Rattle.format.specs.Contents.{contents_at}
use Rattle.seats.specs.Seats.{limited_of}
use Rattle.rows.specs.Rows.{seated_at}
use Rattle.offering.specs.Offers.{threads_offered, offers_of, output_of, offers_put, begun, Holds}
use Rattle.offering.proofs.choose.offer_threads.Given as goal

-- The invariant: the choices of the threads before i are tried.
abbrev pub invariant-loop-i : goal.invariant-loop-i
invariant-loop-i l = (l.i ≤ l.count + 1) × (l.count ≤ 64) × (l.count ≡ length (seated_at (length l.seats) l.state 0).state.threads)
    × Holds (limited_of (contents_at l.file l.head) l.seats) (seated_at (length l.seats) l.state 0) l.threads l.beside l.owners l.lines
    × (l.on.count ≤ 65 * (l.i - 1)) × (l.on.length ≤ 97500 * (l.i - 1)) × (l.on.length ≤ length l.out)
    × (offers_put (length l.seats) (output_of l.on l.out) (threads_offered (limited_of (contents_at l.file l.head) l.seats) (seated_at (length l.seats) l.state 0) l.i (l.count + 1 - l.i))
    ≡ offers_put (length l.seats) (begun l.initial.out) (offers_of (limited_of (contents_at l.file l.head) l.seats) (seated_at (length l.seats) l.state 0)))
