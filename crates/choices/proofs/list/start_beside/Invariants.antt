use Prim.Native.Nat.{◌-◌}
use mathlib.Core.Path.{◌≡◌}
use lib.ListN.{length}
use Rattle.format.specs.Contents.{contents_at}
use Rattle.naming.specs.Scopes.{awaited_by}
use Rattle.choices.proofs.RunLaws.{Counting}
use Rattle.choices.proofs.list.start_beside.Given as goal

-- The invariant: counting the sessions that are left from here gives what counting them all gives.
abbrev pub invariant-loop-k : goal.invariant-loop-k
invariant-loop-k l = (length l.beside ≡ 162) × Counting (contents_at l.file l.head) (awaited_by l.table) l.initial.beside l.beside (l.k - 1)
