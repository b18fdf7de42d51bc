use Prim.Native.Nat.{◌-◌}
use Rattle.sheets.proofs.MostLaws.{Passed}
use Rattle.sheets.proofs.most.most_in.Given as goal

abbrev pub invariant-loop-k : goal.invariant-loop-k
invariant-loop-k l = Passed l.file l.head l.turns l.most l.at (l.k - 1)
