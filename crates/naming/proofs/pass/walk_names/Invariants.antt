use Prim.Native.Nat.{◌+◌, ◌≤◌, ◌<◌}
use mathlib.Core.Path.{◌≡◌}
use mathlib.Core.List.{◌∷◌, map}
use lib.ListN.{length}
use Rattle.format.specs.Contents.{contents_at}
use Rattle.format.specs.Stacks.{stacked}
use Rattle.rules.specs.Schema.{schema_of}
use Rattle.naming.specs.Scopes.{scope_of}
use Rattle.rules.specs.Kept.{NameTable, context_of, Waits, Ownable}
use Rattle.naming.specs.Kept.{bare_point, queued}
use Rattle.rules.proofs.NameLaws.{Held}
use Rattle.naming.proofs.ScopePass.{Scoping}
use Rattle.naming.proofs.pass.walk_names.Given as goal

-- The invariant: n + 1 is the node due, `user` and `bound` are its context's, the contexts on the stack have fewer and fewer variables from its top down,
-- and what is left from here gives the first of 9 and 10 of all, and the table. Where there is room for the node, `here` is its context as one number,
-- and so are those that wait beside the stack.
abbrev pub invariant-loop-n : goal.invariant-loop-n
invariant-loop-n l = (length l.stack ≡ length l.initial.stack) × (length l.names ≡ length l.initial.names) × (l.depth + 2 ≤ l.head.count.sessions + (l.n + 1)) × (l.bound < l.n + 1) × (l.user < 65534)
    × NameTable (schema_of (contents_at l.file l.head)) l.head.count.users l.head.count.channels l.names × Held l.names l.bound
    × Waits Ownable l.bound (queued (schema_of (contents_at l.file l.head)) l.stack l.depth)
    × Scoping (contents_at l.file l.head) l.initial.scopes (l.n + 1) (context_of l.names (bare_point (schema_of (contents_at l.file l.head)) l.user l.bound) ∷ map (context_of l.names) (queued (schema_of (contents_at l.file l.head)) l.stack l.depth)) l.scopes
    × (length l.waits ≡ length l.initial.waits) × (l.n + 1 < length l.scopes → l.here ≡ scope_of (context_of l.names (bare_point (schema_of (contents_at l.file l.head)) l.user l.bound)))
    × (l.n + 1 < length l.scopes → stacked 0 l.waits l.depth ≡ map scope_of (map (context_of l.names) (queued (schema_of (contents_at l.file l.head)) l.stack l.depth))) × (length l.scopes ≡ length l.initial.scopes)
