use lib.ListN.{drop}
use lib.Seq.{paste}
use mathlib.Core.Path.{◌≡◌}
use Rattle.rows.proofs.words.copy_words.Given as goal

-- the first k words are copied
abbrev pub invariant-loop-k : goal.invariant-loop-k
invariant-loop-k l = l.table ≡ paste l.initial.table l.to (drop l.at l.states) l.k
