-- What the check of a certificate answers, by its cause, in the order of the refusals.
use Rattle.std.specs.Prelude.{ℕ, ◌≤◌, ◌<◌, ◌≡◌, ◌⊎◌, List, length}
use Rattle.format.specs.Answers.{fine, refused}
use Rattle.format.specs.Contents.{contents_of}
use Rattle.checking.specs.Check.{reading_names}
use Rattle.reading_exact.specs.Order.{OfFile}
use Rattle.seats.specs.Seats.{seated_start}
use Rattle.seating_exact.specs.SeatTable.{SeatTableFits, SeatTableMisfits, OverfullAt, StartFits}
use Rattle.certifying.specs.declared.Closing.{Closing}
use Rattle.certifying.specs.Certificate.{certificate_of}
use Rattle.certifying_exact.specs.Numbered.{CertificateHolds, FaultAt}

-- 17: no row, or 2 ^ 32 - 1 rows or more
abbrev pub RowsUnfit : ℕ → Type 0
RowsUnfit n = (n ≡ 0) ⊎ (4294967295 ≤ n)

abbrev pub RowsFit : ℕ → Type 0
RowsFit n = (1 ≤ n) × (n < 4294967295)

-- nothing refuses before the rows are tried
pub record Triable (f seats : List ℕ) (n : ℕ) : Type 0 where
  pub rows : RowsFit n
  pub file : reading_names f ≡ fine
  pub table : SeatTableFits (contents_of f) seats
  pub start : StartFits (contents_of f) seats

abbrev pub closing_of : ℕ → ℕ → ℕ → Closing
closing_of n p k = record { number = n; place = p; row = k }

pub data ClosingCause (f seats states places next : List ℕ) (x : Closing) : Type 0 where
  -- 17 for the rows, 1 to 10, 17 for the table of seats, 26 for the start
  unfit : RowsUnfit (length places) → x ≡ closing_of 17 0 0 → ClosingCause f seats states places next x
  misread : RowsFit (length places) → (n p : ℕ) → OfFile n → reading_names f ≡ refused n p → x ≡ closing_of n p 0
      → ClosingCause f seats states places next x
  misfits : RowsFit (length places) → reading_names f ≡ fine → SeatTableMisfits (contents_of f) seats
      → x ≡ closing_of 17 0 0 → ClosingCause f seats states places next x
  overfull : RowsFit (length places) → reading_names f ≡ fine → SeatTableFits (contents_of f) seats
      → (k : ℕ) → OverfullAt (contents_of f) seats k → x ≡ closing_of 26 k 0 → ClosingCause f seats states places next x
  -- 18 at the row at fault, or 0
  faulty : Triable f seats (length places)
      → (k : ℕ) → FaultAt (certificate_of (contents_of f) seats states places next) (seated_start (contents_of f)) k
      → x ≡ closing_of 18 0 k → ClosingCause f seats states places next x
  holds : Triable f seats (length places)
      → CertificateHolds (certificate_of (contents_of f) seats states places next) (seated_start (contents_of f))
      → x ≡ closing_of 0 0 0 → ClosingCause f seats states places next x
