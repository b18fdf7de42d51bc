-- Whether a run has left a state in an output of zeros.
use Rattle.std.specs.Prelude.{Bool, not, ◌||◌, List, ℕ, eqb}
use Rattle.format.specs.Words.{word_at}
use Rattle.format.specs.declared.Verdict.{Verdict}

-- it went to the end of the list, or was halted: the second word of a state is the refusal
abbrev pub has_state : Verdict → List ℕ → Bool
has_state v out = eqb v.number 0 || not (eqb (word_at out 1) 0)
