use mathlib.Core.Path.{◌≡◌}
use lib.ListN.{length}
use Rattle.format.specs.Contents.{contents_at}
use Rattle.rules.specs.declared.Way.TheVariants.{Sends, Receives}
use Rattle.rules.specs.Schema.{schema_of}
use Rattle.rules.specs.Kept.{grants_to, Beyond}
use Rattle.rules.proofs.grants.fill_grants.Given as goal

-- The invariant: the tables have the roles 1 to i.
abbrev pub invariant-loop-i : goal.invariant-loop-i
invariant-loop-i l = (length l.sends ≡ length l.initial.sends) × (length l.receives ≡ length l.initial.receives)
    × (l.sends ≡ grants_to (schema_of (contents_at l.file l.head)) Sends l.i 0 (length l.initial.sends)) × (l.receives ≡ grants_to (schema_of (contents_at l.file l.head)) Receives l.i 0 (length l.initial.receives))
    × Beyond (schema_of (contents_at l.file l.head)) Sends l.i × Beyond (schema_of (contents_at l.file l.head)) Receives l.i
