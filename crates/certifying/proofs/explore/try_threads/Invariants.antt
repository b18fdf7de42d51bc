use Prim.Native.Nat.{◌+◌, ◌-◌}
use mathlib.Core.Path.{◌≡◌}
use lib.ListN.{length}
use Rattle.seats.specs.Seats.{SeatedState}
use Rattle.rows.specs.Rows.{seated_at}
use Rattle.certifying.specs.Certificate.{Certificate, threads_tried, row_tried}
use Rattle.certifying.specs.Kept.{certificate_at, Trying}
use Rattle.certifying.proofs.explore.try_threads.Given as goal

-- The invariant: what the threads below i are answered, those from i on are left to be.
abbrev pub invariant-loop-i : goal.invariant-loop-i
invariant-loop-i l = let K : Certificate = certificate_at l.file l.head l.seats l.states l.places l.next in
    let S : SeatedState = seated_at (length l.seats) l.states l.at in
    Trying K l.at l.threads l.beside l.owners l.lines × (row_tried K S l.initial.on ≡ threads_tried K S l.i (l.count + 1 - l.i) l.on)
