-- A list of choices of a run with seats, gone through in the tables.
use Rattle.std.specs.Prelude.{ℕ, ◌≡◌, List, [], ◌∷◌, length, take}
use Rattle.format.specs.Contents.{Contents}
use Rattle.steps.specs.Kept.{state_in, Sized}
use Rattle.steps.specs.Beside.{thread_count, start_beside}
use Rattle.choices.specs.Choices.{start}
use Rattle.rounds.specs.Rounds.{numbers}
use Rattle.rounds.specs.Round.{Taken, refuses, waits, steps}
use Rattle.seats.specs.Seats.{Limited, SeatedState, seated_choice, seated_run, waits_in, last_in}
use Rattle.seated.specs.declared.SeatedWent.{SeatedWent}
use Rattle.seated.specs.SeatedTables.{seated_in, Seated, beside_sat}

-- the words beside the threads after a list of choices
abbrev pub beside_on : Taken SeatedState → List ℕ → (SeatedState → List ℕ) → List ℕ
beside_on (refuses n) b go = b
beside_on (waits S') b go = go S'
beside_on (steps S') b go = go S'

unfoldable pub seated_beside : (ℕ → ℕ) → Limited → SeatedState → List ℕ → List ℕ → List ℕ
seated_beside kind L S b [] = b
seated_beside kind L S b (i ∷ []) = b
seated_beside kind L S b (i ∷ p ∷ ws) =
    beside_on (seated_choice L S i p) (beside_sat kind L S b i p) (λ S'. seated_beside kind L S' (beside_sat kind L S b i p) ws)

-- what is told of a run from the state S through a list, and what it leaves in the tables
pub record SeatedThrough (kind : ℕ → ℕ) (L : Limited) (S : SeatedState) (b ws : List ℕ) (r : SeatedWent) (w' b' os' ls' : List ℕ) : Type 0 where
  pub told : r ≡ record { count = (seated_run L S ws).count; refusal = (seated_run L S ws).refusal; waited = waits_in L S ws; last = last_in L S 0 ws }
  pub state : seated_in w' b' os' ls' ≡ (seated_run L S ws).seating
  pub beside : b' ≡ seated_beside kind L S b ws
  pub kept : Seated L w' b' os' ls'

-- the start in the tables, with the threads' sessions
pub record SeatedOpen (kind : ℕ → ℕ) (C : Contents) (b w' b' os' : List ℕ) : Type 0 where
  pub state : state_in w' b' ≡ start C
  pub owners : take (thread_count b') os' ≡ numbers 1 (length C.sessions)
  pub beside : b' ≡ start_beside kind b (start C).threads
  pub sized : Sized w' b'
  pub long : length os' ≡ 64
