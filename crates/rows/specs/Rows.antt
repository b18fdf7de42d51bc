-- A state of a seated run as words: the run's output from its third word on, then the threads' sessions, then for each
-- role how many wait and their sessions.
use Rattle.std.specs.Prelude.{ℕ, zero, suc, ◌+◌, ◌*◌, ◌≤◌, ◌<◌, ◌≡◌, Bool, true, ◌&&◌, List, [], ◌∷◌, ◌++◌, eqb, ltb, length, get_or, take, drop}
use Rattle.steps.specs.declared.Thread.{Thread}
use Rattle.steps.specs.Choice.{State}
use Rattle.steps.specs.Beside.{made_in, made_words}
use Rattle.steps.specs.Kept.{Sized}
use Rattle.running.specs.Run.{thread_words}
use Rattle.seats.specs.Seats.{SeatedState}
use Rattle.seating.specs.SeatTables.{LineRows}
use Rattle.seated.specs.SeatedTables.{seated_in}

-- the lines of role r and those after it, so many
unfoldable pub line_words : (ℕ → List ℕ) → ℕ → ℕ → List ℕ
line_words lines r zero = []
line_words lines r (suc k) = length (lines r) ∷ lines r ++ line_words lines (suc r) k

unfoldable pub row_words : ℕ → SeatedState → List ℕ
row_words roles S =
    length S.state.threads ∷ length S.state.made
    ∷ made_words S.state.made ++ (thread_words S.state.threads ++ (S.owners ++ line_words S.lines 1 roles))

-- the words stand in a table from p on
unfoldable pub stands_at : List ℕ → ℕ → List ℕ → Bool
stands_at s p [] = true
stands_at s p (w ∷ ws) = ltb p (length s) && (eqb (get_or s p 0) w && stands_at s (p + 1) ws)

-- the state that is read from p on; the fourth word of a thread, the number of its roles, is not looked at
abbrev pub row_thread : List ℕ → ℕ → Thread
row_thread s p = record {
  user = get_or s p 0;
  node = get_or s (p + 1) 0;
  mask = get_or s (p + 2) 0;
  vars = get_or s (p + 4) 0 ∷ get_or s (p + 5) 0 ∷ get_or s (p + 6) 0 ∷ get_or s (p + 7) 0
      ∷ get_or s (p + 8) 0 ∷ get_or s (p + 9) 0 ∷ get_or s (p + 10) 0 ∷ get_or s (p + 11) 0 ∷ [];
}

unfoldable pub row_threads : List ℕ → ℕ → ℕ → List Thread
row_threads s p zero = []
row_threads s p (suc k) = row_thread s p ∷ row_threads s (p + 12) k

-- so many lines, one after the other
unfoldable pub row_lines : List ℕ → ℕ → ℕ → List (List ℕ)
row_lines s p zero = []
row_lines s p (suc k) = take (get_or s p 0) (drop (p + 1) s) ∷ row_lines s (p + 1 + get_or s p 0) k

-- where the threads' words begin, the sessions and the lines
abbrev pub threads_from : List ℕ → ℕ → ℕ
threads_from s p = p + 2 + 2 * get_or s (p + 1) 0

abbrev pub owners_from : List ℕ → ℕ → ℕ
owners_from s p = threads_from s p + 12 * get_or s p 0

abbrev pub lines_from : List ℕ → ℕ → ℕ
lines_from s p = owners_from s p + get_or s p 0

abbrev pub state_at : List ℕ → ℕ → State
state_at s p = record {
  threads = row_threads s (threads_from s p) (get_or s p 0);
  made = made_in s (p + 2) (get_or s (p + 1) 0);
}

abbrev pub lines_at : ℕ → List ℕ → ℕ → ℕ → List ℕ
lines_at roles s p r = get_or ([] ∷ row_lines s (lines_from s p) roles) r []

abbrev pub seated_at : ℕ → List ℕ → ℕ → SeatedState
seated_at roles s p = record {
  state = state_at s p;
  owners = take (get_or s p 0) (drop (owners_from s p) s);
  lines = lines_at roles s p;
}

-- so many lines from p on, none of more than 32, with all their words
abbrev pub LinesFit : List ℕ → ℕ → ℕ → Type 0
LinesFit s p zero = Unit {0}
LinesFit s p (suc k) = (p + 1 + get_or s p 0 ≤ length s) × (get_or s p 0 ≤ 32) × LinesFit s (p + 1 + get_or s p 0) k

-- a state of at most 64 threads and 64 made channels, with all its words
pub record RowFits (roles : ℕ) (s : List ℕ) (p : ℕ) : Type 0 where
  pub threads : get_or s p 0 ≤ 64
  pub made : get_or s (p + 1) 0 ≤ 64
  pub words : lines_from s p ≤ length s
  pub lines : LinesFit s (lines_from s p) roles

-- in a table of lines nobody waits in the rows from r on
abbrev pub NoLines : List ℕ → ℕ → Type 0
NoLines ls r = (j : ℕ) → r ≤ j → j < 16 → get_or ls (33 * j) 0 ≡ 0

-- the tables hold the state of the row from p on
pub record Loaded (roles : ℕ) (s : List ℕ) (p : ℕ) (w b os ls : List ℕ) : Type 0 where
  pub sized : Sized w b
  pub owners : length os ≡ 64
  pub rows : LineRows ls
  pub state : seated_in w b os ls ≡ seated_at roles s p
