-- How a run with seats keeps its state: the run's own tables, each thread's session in a table of 64 words, and the lines in one of 16 rows.
use Rattle.std.specs.Prelude.{ℕ, zero, suc, ◌+◌, ◌-◌, ◌≤◌, ◌<◌, ◌≡◌, Bool, true, false, cond, not, ◌&&◌, List, [], ◌∷◌, eqb, length, get_or, set, take, drop}
use Rattle.std.proofs.Math.Seq.{paste}
use Rattle.masks.specs.Mask.{has}
use Rattle.format.specs.Contents.{in_count}
use Rattle.format.specs.declared.Node.{Node}
use Rattle.steps.specs.declared.Answer.{Answer}
use Rattle.steps.specs.declared.Answer.TheVariants as answers
use Rattle.steps.specs.Choice.{Clinic, State, thread_at, choice, outcome}
use Rattle.steps.specs.Kept.{state_in, Sized}
use Rattle.steps.specs.Beside.{thread_count, beside_by}
use Rattle.rounds.specs.Round.{Taken, refuses, waits, steps}
use Rattle.seats.specs.Seats.{Limited, SeatedState, line_with, relined, asks_seat, gets_seat, lines_joined, lines_left, owners_by, seated_by, seated_choice}
use Rattle.seats.specs.SeatOrder.{Ordered}
use Rattle.seating.specs.SeatTables.{line_in, LineRows}
use Rattle.seated.specs.declared.Sat.{Sat}
use Rattle.seated.specs.declared.Sat.TheVariants as sat

-- the lines of the roles 1 to 16; no other number has one
abbrev pub lines_in : List ℕ → ℕ → List ℕ
lines_in w r = cond (in_count 16 r) (line_in w r) []

abbrev pub seated_in : List ℕ → List ℕ → List ℕ → List ℕ → SeatedState
seated_in w b os ls = record { state = state_in w b; owners = take (thread_count b) os; lines = lines_in ls }

-- tables of the right sizes that hold a state in order
pub record Seated (L : Limited) (w b os ls : List ℕ) : Type 0 where
  pub sized : Sized w b
  pub owners : length os ≡ 64
  pub rows : LineRows ls
  pub ordered : Ordered L (seated_in w b os ls)

-- the role for which a choice may ask for a seat: a thread of the list, alone, at an on of a role that is its user's and has a limit; 0 for none
unfoldable pub role_asked : Limited → State → ℕ → ℕ → ℕ
role_asked L s i p =
    let n : Node = L.clinic.node (thread_at s i).node in
    cond (in_count (length s.threads) i && eqb p 0)
    (cond (eqb n.tag 7) (cond (has (L.clinic.schema.assigned (thread_at s i).user) n.f1) (cond (eqb (L.seats n.f1) 0) 0 n.f1) 0) 0) 0

-- the lines after the answer about a seat for session k in a role, 0 has it, 1 gets one, 2 has to wait: the head that gets one leaves its line, one that has to wait joins it once
abbrev pub LineUp : List ℕ → ℕ → ℕ → ℕ → List ℕ → Type 0
LineUp w r k answer v =
    LineRows v × (lines_in v ≡ cond (eqb answer 0) (lines_in w) (relined (lines_in w) r (cond (eqb answer 1) (drop 1 (line_in w r)) (line_with (line_in w r) k))))

-- the sessions of so many threads after an answer: a new last thread has its maker's; an end takes its away, and those after it move down
abbrev pub owners_passed : List ℕ → ℕ → ℕ → Answer → List ℕ
owners_passed os count i (answers.Refused n) = os
owners_passed os count i answers.Moves = os
owners_passed os count i answers.Adds = set os count (get_or os (i - 1) 0)
owners_passed os count i (answers.Makes m) = os
owners_passed os count i answers.Ends = paste os (i - 1) (drop (i - 1 + 1) os) (count - 1 - (i - 1))
owners_passed os count i answers.Meets = os

-- the thread is one of so many, and there is room for what is added
abbrev pub PassRoom : ℕ → ℕ → Answer → Type 0
PassRoom count i (answers.Refused n) = Unit {0}
PassRoom count i answers.Moves = Unit {0}
PassRoom count i answers.Adds = (0 < i) × (i ≤ count) × (count < 64)
PassRoom count i (answers.Makes m) = Unit {0}
PassRoom count i answers.Ends = (0 < i) × (i ≤ count) × (count ≤ 64)
PassRoom count i answers.Meets = Unit {0}

-- what is told of a seated choice that came to `a` in the state S, and of what it left
abbrev pub SatTold : Sat → Taken SeatedState → SeatedState → SeatedState → Type 0
SatTold (sat.Refused n) a S S' = (a ≡ refuses n) × (S' ≡ S)
SatTold sat.Waits a S S' = a ≡ waits S'
SatTold sat.Ends a S S' = (a ≡ steps S') × (suc (length S'.state.threads) ≡ length S.state.threads)
SatTold sat.Steps a S S' = (a ≡ steps S') × (length S.state.threads ≤ length S'.state.threads)

abbrev pub sat_of : Answer → Sat
sat_of (answers.Refused n) = sat.Refused n
sat_of answers.Moves = sat.Steps
sat_of answers.Adds = sat.Steps
sat_of (answers.Makes m) = sat.Steps
sat_of answers.Ends = sat.Ends
sat_of answers.Meets = sat.Steps

-- whether a choice has to wait, and the lines then: joined where it does, left by a head that gets its seat
abbrev pub must_wait : Limited → SeatedState → ℕ → ℕ → Bool
must_wait L S i p = asks_seat L S i p && not (gets_seat L S i)

pub record WaitTold (L : Limited) (S : SeatedState) (i p : ℕ) (r : Bool) (ls : List ℕ) : Type 0 where
  pub answer : r ≡ must_wait L S i p
  pub rows : LineRows ls
  pub lines : lines_in ls ≡ cond (must_wait L S i p) (lines_joined L S i) (cond (asks_seat L S i p) (lines_left L S i) S.lines)

-- a plain choice carried out in the tables, with the threads' sessions, whatever the lines
pub record SteppedOn (kind : ℕ → ℕ) (C : Clinic) (i p : ℕ) (r : Sat) (w b os w' b' os' : List ℕ) : Type 0 where
  pub told : (lines' : ℕ → List ℕ) → SatTold r (seated_by (owners_by (take (thread_count b) os) i (C.node (thread_at (state_in w b) i).node).tag) lines' (choice C (state_in w b) i p))
      (record { state = state_in w b; owners = take (thread_count b) os; lines = lines' }) (record { state = state_in w' b'; owners = take (thread_count b') os'; lines = lines' })
  pub beside : b' ≡ beside_by kind b (outcome C (state_in w b) i p)
  pub sized : Sized w' b'
  pub owners : length os' ≡ 64

-- the words beside the threads after a seated choice: as they were where it waits
abbrev pub beside_sat : (ℕ → ℕ) → Limited → SeatedState → List ℕ → ℕ → ℕ → List ℕ
beside_sat kind L S b i p = cond (must_wait L S i p) b (beside_by kind b (outcome L.clinic S.state i p))

-- a seated choice carried out in the tables
pub record ChoseSeated (kind : ℕ → ℕ) (L : Limited) (i p : ℕ) (r : Sat) (w b os ls w' b' os' ls' : List ℕ) : Type 0 where
  pub told : SatTold r (seated_choice L (seated_in w b os ls) i p) (seated_in w b os ls) (seated_in w' b' os' ls')
  pub beside : b' ≡ beside_sat kind L (seated_in w b os ls) b i p
  pub kept : Seated L w' b' os' ls'
