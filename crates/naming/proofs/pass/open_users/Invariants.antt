use Prim.Native.Nat.{◌-◌}
use mathlib.Core.Path.{◌≡◌}
use mathlib.Core.List.{[], map}
use lib.ListN.{length, drop}
use Rattle.format.specs.Contents.{contents_at}
use Rattle.format.specs.Stacks.{stacked}
use Rattle.rules.specs.Schema.{schema_of}
use Rattle.rules.specs.Checking.{openings_from}
use Rattle.naming.specs.Scopes.{scope_of}
use Rattle.rules.specs.Kept.{context_of, Waits, unmasked, Ownable}
use Rattle.naming.specs.Kept.{queued}
use Rattle.naming.proofs.pass.open_users.Given as goal

abbrev pub invariant-loop-depth : goal.invariant-loop-depth
invariant-loop-depth l = (length l.stack ≡ length l.initial.stack) × Waits Ownable 0 (queued (schema_of (contents_at l.file l.head)) l.stack l.depth)
    × (map (context_of []) (queued (schema_of (contents_at l.file l.head)) l.stack l.depth) ≡ map unmasked (openings_from (drop (l.sessions - l.depth) (contents_at l.file l.head).sessions)))
    × (length l.waits ≡ length l.initial.waits) × (stacked 0 l.waits l.depth ≡ map scope_of (map unmasked (openings_from (drop (l.sessions - l.depth) (contents_at l.file l.head).sessions))))
