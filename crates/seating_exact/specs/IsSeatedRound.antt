-- The rounds of a seated run, in the words of document 02; and what is answered and written where one is asked for.
use Rattle.std.specs.Prelude.{ℕ, ◌-◌, ◌%◌, ◌≤◌, ◌≡◌, List, ◌++◌, length, replicate}
use Rattle.format.specs.Answers.{fine, refused}
use Rattle.running_exact.specs.Output.{state_bytes}
use Rattle.rounds.specs.Round.{waits, steps}
use Rattle.rounds.specs.Rounds.{RoundState, VisitsFrom, begun, Rounds}
use Rattle.dispatching.specs.declared.Round.{Round}
use Rattle.seats.specs.Seats.{Limited, SeatedState, seated_ran_of}
use Rattle.seats.specs.SeatOrder.{SeatedStep}
use Rattle.seating.specs.SeatedRunning.{seated_running, seated_over}
use Rattle.seating.specs.SeatedRound.{seated_threads, seated_rounding, seated_round_over}

-- a choice that goes on; and a lone one that gets no seat, which is done and is no step
abbrev pub GoesOn : Limited → SeatedState → ℕ → ℕ → SeatedState → Type 0
GoesOn L S i p S' = SeatedStep L S i p (steps S')

abbrev pub GetsNone : Limited → SeatedState → ℕ → SeatedState → Type 0
GetsNone L S i S' = SeatedStep L S i 0 (waits S')

abbrev pub IsSeatedRound : Limited → SeatedState → List ℕ → SeatedState → Type 0
IsSeatedRound L S ws S' = Rounds seated_threads (GoesOn L) (GetsNone L) S ws S'

-- the first k visits of a round, what they add to its choices and what they leave
abbrev pub SeatedVisits : Limited → SeatedState → ℕ → List ℕ → RoundState SeatedState → Type 0
SeatedVisits L S k ws g = VisitsFrom seated_threads (GoesOn L) (GetsNone L) 1 k (begun seated_threads (GoesOn L) (GetsNone L) S) ws g

-- after the list ws, which nothing stopped, the round has the choices rs: the run through both lists is done and written, and rs is handed back, 0 past the last
pub record SeatedRoundTold (f ws table rs : List ℕ) (room : ℕ) : Type 0 where
  pub ran : seated_running f (ws ++ rs) table room ≡ fine
  pub few : length rs ≤ 128
  pub even : length rs % 2 ≡ 0
  pub answer : seated_rounding f ws table room ≡ record {
    number = 0;
    place = 0;
    length = state_bytes (length (seated_ran_of f table (ws ++ rs)).seating.state.made) (length (seated_ran_of f table (ws ++ rs)).seating.state.threads);
    words = rs ++ replicate (128 - length rs) 0;
  }
  pub written : (out : List ℕ) → length out ≡ room → seated_round_over f ws table out ≡ seated_over f (ws ++ rs) table out

-- a list that stops: the halted run's answer and output, and no round
pub record SeatedRoundStopped (f ws table : List ℕ) (room number place : ℕ) : Type 0 where
  pub ran : seated_running f ws table room ≡ refused number place
  pub answer : seated_rounding f ws table room ≡ record {
    number = number;
    place = place;
    length = state_bytes (length (seated_ran_of f table ws).seating.state.made) (length (seated_ran_of f table ws).seating.state.threads);
    words = replicate 128 0;
  }
  pub written : (out : List ℕ) → length out ≡ room → seated_round_over f ws table out ≡ seated_over f ws table out
