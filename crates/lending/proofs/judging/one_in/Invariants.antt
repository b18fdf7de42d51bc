use mathlib.Core.Path.{◌≡◌}
use lib.ListN.{length}
use Rattle.lending.proofs.TotalsLaws.{one_upto}
use Rattle.lending.proofs.judging.one_in.Given as goal

-- The invariant: the kinds gone through so far have their one more.
abbrev pub invariant-loop-k : goal.invariant-loop-k
invariant-loop-k l = (length l.all ≡ 32) × (l.all ≡ one_upto l.initial.all l.kind.0 l.k)
