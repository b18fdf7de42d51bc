-- What is answered and written where a round is asked for.
use Rattle.std.specs.Prelude.{ℕ, ◌-◌, ◌%◌, ◌≤◌, ◌<◌, ◌≡◌, ◌⊎◌, List, ◌++◌, length, replicate}
use Rattle.format.specs.Answers.{fine, refused}
use Rattle.choices.specs.Choices.{ran_of}
use Rattle.running.specs.Run.{running, run_over}
use Rattle.running_exact.specs.Output.{state_bytes}
use Rattle.dispatching.specs.declared.Round.{Round}
use Rattle.dispatching.specs.Dispatch.{rounding, round_over}

-- 17: an odd number of words of choices, or over 65,471 choices; and an output under 1,800 bytes
abbrev pub UnlistedForRound : List ℕ → Type 0
UnlistedForRound ws = (length ws % 2 ≡ 1) ⊎ (130942 < length ws)

abbrev pub RoundUnfit : List ℕ → ℕ → Type 0
RoundUnfit ws room = (room < 1800) ⊎ UnlistedForRound ws

abbrev pub ListedForRound : List ℕ → Type 0
ListedForRound ws = (length ws % 2 ≡ 0) × (length ws ≤ 130942)

abbrev pub RoundFit : List ℕ → ℕ → Type 0
RoundFit ws room = (1800 ≤ room) × ListedForRound ws

-- a refusal in place of a round: length 0, and 128 words of 0
abbrev pub no_round_at : ℕ → ℕ → Round
no_round_at n p = record { number = n; place = p; length = 0; words = replicate 128 0 }

-- after the list ws, which nothing stopped, the round has the choices rs: the run through both lists is done and written, and rs is handed back, 0 past the last
pub record Answered (f ws rs : List ℕ) (room : ℕ) : Type 0 where
  pub ran : running f (ws ++ rs) room ≡ fine
  pub few : length rs ≤ 128
  pub even : length rs % 2 ≡ 0
  pub answer : rounding f ws room ≡ record {
    number = 0;
    place = 0;
    length = state_bytes (length (ran_of f (ws ++ rs)).state.made) (length (ran_of f (ws ++ rs)).state.threads);
    words = rs ++ replicate (128 - length rs) 0;
  }
  pub written : (out : List ℕ) → length out ≡ room → round_over f ws out ≡ run_over f (ws ++ rs) out

-- a list that stops: the halted run's answer and output, and no round
pub record Stopped (f ws : List ℕ) (room number place : ℕ) : Type 0 where
  pub ran : running f ws room ≡ refused number place
  pub answer : rounding f ws room ≡ record {
    number = number;
    place = place;
    length = state_bytes (length (ran_of f ws).state.made) (length (ran_of f ws).state.threads);
    words = replicate 128 0;
  }
  pub written : (out : List ℕ) → length out ≡ room → round_over f ws out ≡ run_over f ws out
