-- The rounds of a run, in the words of document 02.
use Rattle.std.specs.Prelude.{ℕ, List}
use Rattle.steps.specs.Choice.{Clinic, State}
use Rattle.running_exact.specs.Steps.{Steps}
use Rattle.rounds.specs.Rounds.{RoundState, VisitsFrom, begun, Rounds}
use Rattle.dispatching.specs.Dispatch.{threads_of}

-- no choice of a run waits
abbrev pub NoWait : State → ℕ → State → Type 0
NoWait s i s' = ⊥

abbrev pub IsRound : Clinic → State → List ℕ → State → Type 0
IsRound C s ws s' = Rounds threads_of (Steps C) NoWait s ws s'

-- the first k visits of a round, what they add to its choices and what they leave
abbrev pub VisitsOf : Clinic → State → ℕ → List ℕ → RoundState State → Type 0
VisitsOf C s k ws g = VisitsFrom threads_of (Steps C) NoWait 1 k (begun threads_of (Steps C) NoWait s) ws g
