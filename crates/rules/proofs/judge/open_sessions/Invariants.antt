use Prim.Native.Nat.{◌-◌}
use mathlib.Core.Path.{◌≡◌}
use mathlib.Core.List.{[], map}
use lib.ListN.{length, drop}
use Rattle.format.specs.Contents.{contents_at}
use Rattle.rules.specs.Schema.{schema_of}
use Rattle.rules.specs.Checking.{openings_from}
use Rattle.rules.specs.Kept.{context_of, waiting, Waits, Given}
use Rattle.rules.proofs.judge.open_sessions.Given as goal

abbrev pub invariant-loop-depth : goal.invariant-loop-depth
invariant-loop-depth l = (length l.stack ≡ length l.initial.stack) × Waits (Given (schema_of (contents_at l.file l.head))) 0 (waiting l.stack l.depth)
    × (map (context_of []) (waiting l.stack l.depth) ≡ openings_from (drop (l.sessions - l.depth) (contents_at l.file l.head).sessions))
