use mathlib.Core.Path.{◌≡◌}
use Prim.Native.Nat.{◌+◌}
use lib.ListN.{drop}
use Rattle.phrases.specs.Phrases.{phrases, leading}
use Rattle.phrases.proofs.phrase_at.Given as goal

abbrev pub invariant-loop-i : goal.invariant-loop-i
invariant-loop-i l = l.i + leading (drop l.i phrases) (drop l.at l.s) ≡ leading phrases (drop l.at l.s)
