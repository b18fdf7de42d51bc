use Prim.Native.Nat.{◌+◌, ◌-◌}
use mathlib.Core.Path.{◌≡◌}
use lib.ListN.{length}
use Rattle.seats.specs.Seats.{SeatedState}
use Rattle.rows.specs.Rows.{seated_at}
use Rattle.certifying.specs.Certificate.{Certificate, partners_tried}
use Rattle.certifying.specs.Kept.{certificate_at, Trying}
use Rattle.certifying.proofs.explore.try_partners.Given as goal

-- The invariant: what the partners below p are answered, those from p on are left to be.
abbrev pub invariant-loop-p : goal.invariant-loop-p
invariant-loop-p l = let K : Certificate = certificate_at l.file l.head l.seats l.states l.places l.next in
    let S : SeatedState = seated_at (length l.seats) l.states l.at in
    Trying K l.at l.threads l.beside l.owners l.lines × (partners_tried K S l.i 0 (l.count + 1) l.initial.on ≡ partners_tried K S l.i l.p (l.count + 1 - l.p) l.on)
