-- A certificate for all schedules: the states that a search found, where each begins, and for each choice that is done
-- the number of the state that follows.
use Rattle.std.specs.Prelude.{ℕ, zero, suc, ◌+◌, Bool, cond, ◌&&◌, List, eqb, leb, ltb, length, get_or, Option, None, Some}
use Rattle.format.specs.declared.Verdict.{Verdict}
use Rattle.format.specs.Contents.{Contents, contents_of}
use Rattle.rounds.specs.Round.{Taken, refuses, waits, steps}
use Rattle.seats.specs.Seats.{Limited, limited_of, SeatedState, seated_choice, seated_start}
use Rattle.running.specs.Run.{unready}
use Rattle.seated.specs.SeatedEntry.{seats_bar}
use Rattle.certifying.specs.declared.Closing.{Closing}
use Rattle.certifying.specs.declared.Search.{Search}
use Rattle.rows.specs.Rows.{row_words, stands_at, seated_at}

pub record Certificate : Type 0 where
  pub limited : Limited
  pub roles : ℕ
  pub states : List ℕ
  pub places : List ℕ
  pub next : List ℕ

abbrev pub certificate_of : Contents → List ℕ → List ℕ → List ℕ → List ℕ → Certificate
certificate_of C seats states places next = record {
  limited = limited_of C seats;
  roles = length seats;
  states = states;
  places = places;
  next = next;
}

-- where row k begins, and its state; rows are counted from 0 on
abbrev pub row_place : Certificate → ℕ → ℕ
row_place K k = get_or K.places k 0

abbrev pub row_state : Certificate → ℕ → SeatedState
row_state K k = seated_at K.roles K.states (row_place K k)

-- row k has the words of a state
abbrev pub is_row : Certificate → ℕ → SeatedState → Bool
is_row K k S = stands_at K.states (row_place K k) (row_words K.roles S)

-- A choice leads to a state: the word at the cursor is the number of a known row, or of the first that isn't known yet,
-- and the row has the state's words.
unfoldable pub arrives : ℕ → List ℕ → List ℕ → List ℕ → SeatedState → Search → Option Search
arrives roles states places next S q =
    let k : ℕ = get_or next q.cursor 0 in
    cond (ltb q.cursor (length next)
    && (leb k q.known && (ltb k (length places) && stands_at states (get_or places k 0) (row_words roles S))))
    (Some (record { known = cond (eqb k q.known) (q.known + 1) q.known; cursor = q.cursor + 1 })) None

abbrev pub taken_tried : Certificate → Taken SeatedState → Search → Option Search
taken_tried K (refuses n) q = Some q
taken_tried K (waits S) q = arrives K.roles K.states K.places K.next S q
taken_tried K (steps S) q = arrives K.roles K.states K.places K.next S q

abbrev pub choice_tried : Certificate → SeatedState → ℕ → ℕ → Search → Option Search
choice_tried K S i p q = taken_tried K (seated_choice K.limited S i p) q

abbrev pub onward : Option Search → (Search → Option Search) → Option Search
onward None go = None
onward (Some q) go = go q

-- what holds of a search that goes on
abbrev pub IfPasses : Option Search → (Search → Type 0) → Type 0
IfPasses None P = Unit {0}
IfPasses (Some q) P = P q

-- the choices of thread i with so many partners from p on
unfoldable pub partners_tried : Certificate → SeatedState → ℕ → ℕ → ℕ → Search → Option Search
partners_tried K S i p zero q = Some q
partners_tried K S i p (suc n) q = onward (choice_tried K S i p q) (λ x. partners_tried K S i (p + 1) n x)

-- so many threads from i on, each alone and with each thread as partner
unfoldable pub threads_tried : Certificate → SeatedState → ℕ → ℕ → Search → Option Search
threads_tried K S i zero q = Some q
threads_tried K S i (suc n) q =
    onward (partners_tried K S i 0 (length S.state.threads + 1) q) (λ x. threads_tried K S (i + 1) n x)

abbrev pub row_tried : Certificate → SeatedState → Search → Option Search
row_tried K S q = threads_tried K S 1 (length S.state.threads) q

abbrev pub row_onward : Option Search → ℕ → (Search → ℕ) → ℕ
row_onward None j go = j + 1
row_onward (Some q) j go = go q

-- so many rows from j on, as far as they are known: 0, or the number from 1 on of the first that fails, or of the first
-- that is never reached
unfoldable pub rows_tried : Certificate → ℕ → ℕ → Search → ℕ
rows_tried K j zero q = 0
rows_tried K j (suc n) q =
    cond (ltb j q.known) (row_onward (row_tried K (row_state K j) q) j (λ x. rows_tried K (j + 1) n x)) (q.known + 1)

-- the first row is known once it is the start
abbrev pub search_begins : Search
search_begins = record { known = 1; cursor = 0 }

unfoldable pub row_at_fault : Certificate → SeatedState → ℕ
row_at_fault K S = cond (is_row K 0 S) (rows_tried K 0 (length K.places) search_begins) 1

abbrev pub closed_fine : Closing
closed_fine = record { number = 0; place = 0; row = 0 }

abbrev pub closed_by : Verdict → Closing
closed_by v = record { number = v.number; place = v.place; row = 0 }

abbrev pub fault_at : ℕ → Closing
fault_at k = cond (eqb k 0) closed_fine (record { number = 18; place = 0; row = k })

-- 17: no row, or 2 ^ 32 - 1 rows or more
abbrev pub some_rows : ℕ → Bool
some_rows n = ltb 0 n && ltb n 4294967295

-- of what a file holds: 17 for the table of seats and 26 for the start, as for a seated run; then 18 at the row at
-- fault
abbrev pub after_seats : Contents → List ℕ → ℕ → Closing
after_seats C seats k = cond (eqb (seats_bar C seats).number 0) (fault_at k) (closed_by (seats_bar C seats))

abbrev pub closing_by : Contents → List ℕ → List ℕ → List ℕ → List ℕ → Closing
closing_by C seats states places next =
    after_seats C seats (row_at_fault (certificate_of C seats states places next) (seated_start C))

-- 17 where what is lent can't be judged, then 1 to 10
abbrev pub after_reading : Bool → List ℕ → Closing → Closing
after_reading b f x = let v : Verdict = unready b f in cond (eqb v.number 0) x (closed_by v)

unfoldable pub closing : List ℕ → List ℕ → List ℕ → List ℕ → List ℕ → Closing
closing f seats states places next =
    after_reading (some_rows (length places)) f (closing_by (contents_of f) seats states places next)
