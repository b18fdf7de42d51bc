use Prim.Native.Nat.{◌-◌}
use mathlib.Core.Path.{◌≡◌}
use lib.ListN.{length}
use Rattle.steps.specs.Records.{thread_table_words}
use Rattle.steps.specs.Beside.{beside_words}
use Rattle.certifying.specs.Certificate.{Certificate}
use Rattle.certifying.specs.Kept.{certificate_at}
use Rattle.certifying.specs.Parts.{search_at, part_tried}
use Rattle.certifying.proofs.parts.try_part.Given as goal

-- The invariant: what the rows before j are answered, those from j on are left to be.
abbrev pub invariant-loop-j : goal.invariant-loop-j
invariant-loop-j l = let K : Certificate = certificate_at l.file l.head l.seats l.states l.places l.next in
    (length l.threads ≡ thread_table_words) × (length l.beside ≡ beside_words) × (length l.owners ≡ 64) × (length l.lines ≡ 528)
    × (part_tried K l.part.end l.part.from (l.part.to - l.part.from) (search_at l.next l.part.begin) ≡ part_tried K l.part.end l.j (l.part.to - l.j) l.on)
