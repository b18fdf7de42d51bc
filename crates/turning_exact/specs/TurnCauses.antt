-- What turning a file of a version answers, in the words of the request.
use Rattle.std.specs.Prelude.{ℕ, ◌≤◌, ◌<◌, ◌≡◌, ◌≢◌, List, length}
use Rattle.format.specs.Header.{version_at}
use Rattle.format.specs.declared.Written.{Written}
use Rattle.reading_exact.specs.Refusals.{Refusable}

-- "then 1 to 5, another version being 2"; all at place 0
pub data TurnCause (from : ℕ) (f : List ℕ) (n : ℕ) : Type 0 where
  of_head : n ≤ 5 → Refusable f n 0 → TurnCause from f n
  other_version : n ≡ 2 → version_at f ≢ from → TurnCause from f n

-- what turning answers with so much room: 17, the lowest of what is wrong, or the length of the turned file
pub data TurnAnswers (from : ℕ) (f : List ℕ) (room : ℕ) : Written → Type 0 where
  no_room : room < 6908 → TurnAnswers from f room (record { number = 17; place = 0; length = 0 })
  refused : (n : ℕ) → 6908 ≤ room → TurnCause from f n → ((m : ℕ) → TurnCause from f m → n ≤ m) → TurnAnswers from f room (record { number = n; place = 0; length = 0 })
  turned : 6908 ≤ room → ((n : ℕ) → TurnCause from f n → ⊥) → TurnAnswers from f room (record { number = 0; place = 0; length = length f })
