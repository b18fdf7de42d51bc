use Prim.Native.Nat.{◌≤◌}
use mathlib.Core.Path.{◌≡◌}
use lib.ListN.{length}
use Rattle.streams.proofs.read_or_cut.Given as goal

-- What is kept stays within the buffer, whose length does not change.
abbrev pub invariant-loop : goal.invariant-loop
invariant-loop g l = (l.kept ≤ 6910) × (length l.buffer ≡ 16384)
