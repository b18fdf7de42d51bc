use Prim.Native.Nat.{◌+◌, ◌*◌, ◌-◌, ◌≤◌}
use mathlib.Core.Path.{◌≡◌}
use lib.ListN.{length}
use Rattle.format.specs.Contents.{contents_at}
use Rattle.seats.specs.Seats.{limited_of}
use Rattle.rows.specs.Rows.{seated_at}
use Rattle.offering.specs.Offers.{partners_offered, output_of, offers_put, Holds}
use Rattle.offering.proofs.choose.offer_partners.Given as goal

-- The invariant: the choices with the partners before p are tried.
abbrev pub invariant-loop-p : goal.invariant-loop-p
invariant-loop-p l = Holds (limited_of (contents_at l.file l.head) l.seats) (seated_at (length l.seats) l.state 0) l.threads l.beside l.owners l.lines
    × (l.on.count ≤ l.initial.on.count + l.p) × (l.on.length ≤ l.initial.on.length + 1500 * l.p) × (l.on.length ≤ length l.out)
    × (offers_put (length l.seats) (output_of l.on l.out) (partners_offered (limited_of (contents_at l.file l.head) l.seats) (seated_at (length l.seats) l.state 0) l.i l.p (l.count + 1 - l.p))
    ≡ offers_put (length l.seats) (output_of l.initial.on l.initial.out) (partners_offered (limited_of (contents_at l.file l.head) l.seats) (seated_at (length l.seats) l.state 0) l.i 0 (l.count + 1)))
