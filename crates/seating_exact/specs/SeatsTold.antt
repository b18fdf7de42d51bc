-- What is read of the state in which a seated run stands, and of what refuses before it.
use Rattle.std.specs.Prelude.{ℕ, ◌+◌, ◌*◌, ◌-◌, ◌≤◌, ◌<◌, ◌≡◌, ◌⊎◌, ◌≢◌, List, length, get_or, replicate}
use Rattle.format.specs.Answers.{fine}
use Rattle.format.specs.Contents.{Contents, contents_of}
use Rattle.format.specs.declared.Verdict.{Verdict}
use Rattle.checking.specs.Check.{reading_names}
use Rattle.steps.specs.Choice.{clinic_of}
use Rattle.running.specs.declared.Totals.{Totals}
use Rattle.reading_exact.specs.File.{InCount}
use Rattle.lending_exact.specs.Waiting.{waiting_in}
use Rattle.seats.specs.Seats.{Limited, limited_of, SeatedState, waits_in, seated_start, seated_ran_of}
use Rattle.seats.specs.SeatOrder.{SessionsIn, LastAnswer}
use Rattle.seating.specs.declared.Seats.{Seats}
use Rattle.seating_exact.specs.SeatTable.{SeatTableMisfits, OverfullAt}

-- of a run of a file through a list, with a table
pub record SeatsTold (f table ws : List ℕ) (x : Seats) : Type 0 where
  -- how many choices were answered 26, and what the last one done was answered
  pub waited : x.waited ≡ waits_in (limited_of (contents_of f) table) (seated_start (contents_of f)) ws
  pub last : LastAnswer (limited_of (contents_of f) table) (seated_start (contents_of f)) ws x.last
  -- for each role, limited or not, the number of sessions with a thread that has it active
  pub taken : (r : ℕ) → InCount 16 r → SessionsIn (seated_ran_of f table ws).seating r (get_or x.taken (r - 1) 0)
  -- for each role how many wait, and its line from 32 × (r − 1) on, 0 past those waiting
  pub waiting : (r : ℕ) → InCount 16 r → get_or x.waiting (r - 1) 0 ≡ length ((seated_ran_of f table ws).seating.lines r)
  pub line : (r j : ℕ) → InCount 16 r → j < 32 → get_or x.line (32 * (r - 1) + j) 0 ≡ get_or ((seated_ran_of f table ws).seating.lines r) j 0
  -- no line has more than 32 sessions
  pub fits : (r : ℕ) → length ((seated_ran_of f table ws).seating.lines r) ≤ 32
  -- for each kind how many threads stand at a receive on a channel of that kind
  pub totals : (k : ℕ) → InCount 32 k → get_or x.totals (k - 1) 0 ≡ waiting_in (clinic_of (contents_of f)) (seated_ran_of f table ws).seating.state k

-- a refusal before the first choice: the rest is 0
abbrev pub no_seats_at : ℕ → ℕ → Seats
no_seats_at n p = record {
  number = n;
  place = p;
  waited = 0;
  last = 0;
  taken = replicate 16 0;
  waiting = replicate 16 0;
  line = replicate 512 0;
  totals = replicate 32 0;
}

-- as without seats: number, place and totals are those of the run, and nobody waits
pub record ReadsPlainly (x : Seats) (t : Totals) : Type 0 where
  pub number : x.number ≡ t.number
  pub place : x.place ≡ t.place
  pub totals : x.totals ≡ t.totals
  pub waited : x.waited ≡ 0
  pub last : x.last ≡ 0
  pub waiting : x.waiting ≡ replicate 16 0
  pub line : x.line ≡ replicate 512 0
