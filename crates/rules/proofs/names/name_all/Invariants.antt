use mathlib.Core.Path.{◌≡◌}
use lib.ListN.{length, drop}
use Rattle.format.specs.Contents.{contents_at}
use Rattle.rules.specs.Schema.{schema_of}
use Rattle.rules.specs.Kept.{NameTable}
use Rattle.rules.proofs.names.name_all.Given as goal

abbrev pub invariant-loop-i : goal.invariant-loop-i
invariant-loop-i l = (length l.names ≡ length l.initial.names) × NameTable (schema_of (contents_at l.file l.head)) l.head.count.users l.i l.names × (drop 512 l.names ≡ drop 512 l.initial.names)
