use mathlib.Core.Path.{◌≡◌}
use Rattle.certifying.specs.Known.{known_by}
use Rattle.certifying.proofs.parts.known_by.Given as goal

-- The invariant: the rows that are known after c words.
abbrev pub invariant-loop-c : goal.invariant-loop-c
invariant-loop-c l = l.known ≡ known_by l.next l.c
