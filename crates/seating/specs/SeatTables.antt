-- How a run with seats keeps what a choice asks about: the sessions in a role as a mask, and the lines in one table.
use Rattle.std.specs.Prelude.{ℕ, zero, suc, ◌+◌, ◌*◌, ◌-◌, ◌≤◌, ◌<◌, ◌≡◌, length, get_or, set, take, drop, Bool, true, false, cond, List, [], ◌∷◌, leb}
use Rattle.std.proofs.Math.Seq.{paste}
use Rattle.masks.specs.Mask.{has, with, held}
use Rattle.seats.specs.Seats.{is_next}
use Rattle.format.specs.Contents.{in_count}
use Rattle.steps.specs.declared.Thread.{Thread}

-- a mask of sessions with one put in, where it is one of 32
unfoldable pub with_session : ℕ → ℕ → ℕ
with_session m k = cond (in_count 32 k) (with m k) m

abbrev pub put_session : ℕ → ℕ → ℕ → ℕ → ℕ
put_session m active r k = cond (has active r) (with_session m k) m

-- the sessions that have a role, put into a mask in the threads' order
unfoldable pub gathered : List Thread → List ℕ → ℕ → ℕ → ℕ
gathered [] os r m = m
gathered (t ∷ ts) [] r m = m
gathered (t ∷ ts) (o ∷ os) r m = gathered ts os r (put_session m t.mask r o)

-- the lines in one table of 16 rows: 33 words each, how many wait and then their sessions
abbrev pub line_row : List ℕ → ℕ → List ℕ
line_row w row = take (get_or w (33 * row) 0) (drop (33 * row + 1) w)

-- in none of the rows more than 32 wait
pub record LineRows (w : List ℕ) : Type 0 where
  pub words : length w ≡ 528
  pub few : (row : ℕ) → row < 16 → get_or w (33 * row) 0 ≤ 32

-- the line of a role, from role 1 on
abbrev pub line_in : List ℕ → ℕ → List ℕ
line_in w r = line_row w (r - 1)

-- one more at the end of a row
abbrev pub joined_row : List ℕ → ℕ → ℕ → List ℕ
joined_row w row k = set (set w (33 * row + 1 + get_or w (33 * row) 0) k) (33 * row) (get_or w (33 * row) 0 + 1)

-- the head of a row gone, those behind it moved up
abbrev pub left_row : List ℕ → ℕ → List ℕ
left_row w row = set (paste w (33 * row + 1) (drop (33 * row + 1 + 1) w) (get_or w (33 * row) 0 - 1)) (33 * row) (get_or w (33 * row) 0 - 1)

-- 0 where a session has a role with so many seats, 1 where it gets a seat, 2 where it has to wait
unfoldable pub seat_answer : List Thread → List ℕ → List ℕ → ℕ → ℕ → ℕ → ℕ
seat_answer ts os line r limit k =
    cond (has (gathered ts os r 0) k) 0 (cond (leb limit (held 32 (gathered ts os r 0))) 2 (cond (is_next line k) 1 2))
