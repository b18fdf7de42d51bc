use Prim.Native.Nat.{◌+◌, ◌≤◌, ◌<◌}
use mathlib.Core.Path.{◌≡◌}
use mathlib.Core.List.{◌∷◌, map}
use lib.ListN.{length}
use Rattle.format.specs.Contents.{contents_at}
use Rattle.rules.specs.Schema.{schema_of}
use Rattle.rules.specs.Kept.{NameTable, context_of, waiting, Waits, Given}
use Rattle.rules.proofs.NameLaws.{Held}
use Rattle.rules.proofs.PassLaws.{Left}
use Rattle.rules.proofs.judge.walk.Given as goal

-- The invariant: n + 1 is the node due, `here` is its context, the contexts on the stack have fewer and fewer variables from its top down, and what is
-- left from here gives what the whole gives.
abbrev pub invariant-loop-n : goal.invariant-loop-n
invariant-loop-n l = (length l.stack ≡ length l.initial.stack) × (length l.names ≡ length l.initial.names) × (length l.roles ≡ 1025) × (l.depth + 2 ≤ l.head.count.sessions + (l.n + 1)) × (l.here.bound < l.n + 1)
    × Given (schema_of (contents_at l.file l.head)) l.here × NameTable (schema_of (contents_at l.file l.head)) l.head.count.users l.head.count.channels l.names
    × Held l.names l.here.bound × Waits (Given (schema_of (contents_at l.file l.head))) l.here.bound (waiting l.stack l.depth)
    × Left (contents_at l.file l.head) l.initial.roles (l.n + 1) (context_of l.names l.here ∷ map (context_of l.names) (waiting l.stack l.depth)) l.first l.roles
