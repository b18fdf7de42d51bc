use Prim.Native.Nat.{◌-◌, ◌≤◌}
use mathlib.Core.Path.{◌≡◌}
use lib.ListN.{length}
use Rattle.steps.specs.Records.{thread_table_words}
use Rattle.steps.specs.Beside.{beside_words}
use Rattle.certifying.specs.Certificate.{Certificate, rows_tried}
use Rattle.certifying.specs.Kept.{certificate_at, KnownRows}
use Rattle.certifying.proofs.explore.try_rows.Given as goal

-- The invariant: what the rows below j are answered, those from j on are left to be; the known rows are states in order.
abbrev pub invariant-loop-j : goal.invariant-loop-j
invariant-loop-j l = let K : Certificate = certificate_at l.file l.head l.seats l.states l.places l.next in
    (l.j ≤ l.on.known) × (length l.threads ≡ thread_table_words) × (length l.beside ≡ beside_words) × (length l.owners ≡ 64) × (length l.lines ≡ 528) × KnownRows K l.on.known
    × (rows_tried K 0 (length l.places) l.initial.on ≡ rows_tried K l.j (length l.places - l.j) l.on)

abbrev pub decreases-loop-j : goal.decreases-loop-j
decreases-loop-j l = length l.places - l.j
