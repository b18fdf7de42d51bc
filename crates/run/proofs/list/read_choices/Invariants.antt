use Prim.Native.Nat.{◌≤◌}
use mathlib.Core.Path.{◌≡◌}
use lib.ListN.{length}
use Rattle.run.proofs.list.read_choices.Given as goal

-- What is kept stays within the buffer, whose length does not change.
abbrev pub invariant-loop : goal.invariant-loop
invariant-loop g l = (l.kept ≤ 262144) × (length l.buffer ≡ 278528)
