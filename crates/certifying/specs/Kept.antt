-- How the check keeps its tables, and which rows are known.
use Rattle.certifying.specs.declared.Search.{Search}
use Rattle.std.specs.Prelude.{ℕ, ◌≤◌, ◌<◌, ◌≡◌, Bool, true, false, List, length, Option}
use Rattle.format.specs.declared.Head.{Head}
use Rattle.format.specs.Header.{Laid}
use Rattle.format.specs.Contents.{contents_at}
use Rattle.rules.specs.Schema.{schema_of}
use Rattle.rules.specs.Kept.{Granting}
use Rattle.rules.specs.declared.Way.TheVariants.{Sends, Receives}
use Rattle.seats.specs.Seats.{SeatedState}
use Rattle.seats.specs.SeatOrder.{Ordered}
use Rattle.seated.specs.SeatedTables.{seated_in, Seated}
use Rattle.seated.specs.declared.Sat.{Sat}
use Rattle.seated.specs.declared.Sat.TheVariants as sat
use Rattle.rows.specs.Rows.{seated_at, RowFits}
use Rattle.certifying.specs.Certificate.{Certificate, certificate_of, row_place, row_state}

abbrev pub is_done : Sat → Bool
is_done (sat.Refused n) = false
is_done sat.Waits = true
is_done sat.Ends = true
is_done sat.Steps = true

-- the certificate of what is lent
abbrev pub certificate_at : List ℕ → Head → List ℕ → List ℕ → List ℕ → List ℕ → Certificate
certificate_at f h seats states places next = certificate_of (contents_at f h) seats states places next

-- what a choice asks for: a file that is laid out, who may send and receive, and seats of at most 16 roles
pub record Prepared (f : List ℕ) (h : Head) (sends receives seats : List ℕ) : Type 0 where
  pub laid : Laid f h
  pub may_send : Granting (schema_of (contents_at f h)) Sends sends
  pub may_receive : Granting (schema_of (contents_at f h)) Receives receives
  pub roles : length seats ≤ 16

-- while the row from p on is tried: it fits, and the tables hold its state
pub record Trying (K : Certificate) (p : ℕ) (w b os ls : List ℕ) : Type 0 where
  pub seated : Seated K.limited w b os ls
  pub state : seated_in w b os ls ≡ seated_at K.roles K.states p
  pub fits : RowFits K.roles K.states p
  pub small : p < 4294967296

-- what is answered about that row, whose state the tables hold again
pub record Tries (K : Certificate) (p : ℕ) (given : Certificate → SeatedState → Option Search) (answer : Option Search)
    (w b os ls : List ℕ) : Type 0 where
  pub answered : answer ≡ given K (seated_at K.roles K.states p)
  pub trying : Trying K p w b os ls

-- the rows below n are states in order
pub record KnownRows (K : Certificate) (n : ℕ) : Type 0 where
  pub within : n ≤ length K.places
  pub fits : (k : ℕ) → k < n → RowFits K.roles K.states (row_place K k)
  pub ordered : (k : ℕ) → k < n → Ordered K.limited (row_state K k)
