use mathlib.Core.Path.{◌≡◌}
use lib.ListN.{length}
use Rattle.format.specs.Contents.{contents_at}
use Rattle.choices.proofs.RunLaws.{Opened}
use Rattle.choices.proofs.list.open_threads.Given as goal

-- The invariant: the threads of the first sessions stand in the table.
abbrev pub invariant-loop-i : goal.invariant-loop-i
invariant-loop-i l = (length l.threads ≡ 768) × Opened (contents_at l.file l.head).sessions l.threads l.i
