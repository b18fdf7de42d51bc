use mathlib.Core.Path.{◌≡◌}
use mathlib.Core.Bool.{◌&&◌}
use lib.ListN.{length, drop}
use Rattle.lending.specs.Lent.{same}
use Rattle.lending.proofs.judging.tally_fits.Given as goal

-- The invariant: what is found so far and what is left from here decide.
abbrev pub invariant-loop-k : goal.invariant-loop-k
invariant-loop-k l = (length l.lent ≡ 32) × (length l.theirs ≡ 32) × (l.alike && same (drop l.k l.lent) (drop l.k l.theirs) ≡ l.initial.alike && same l.lent l.theirs)
