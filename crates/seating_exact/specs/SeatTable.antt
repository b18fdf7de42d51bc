-- A lent table of seats, and what stands against a run with it before the first choice.
use Rattle.std.specs.Prelude.{ℕ, ◌≤◌, ◌<◌, ◌≡◌, ◌⊎◌, ◌≢◌, List, length}
use Rattle.format.specs.Answers.{fine}
use Rattle.format.specs.Contents.{Contents, contents_of}
use Rattle.checking.specs.Check.{reading_names}
use Rattle.reading_exact.specs.File.{InCount}
use Rattle.seats.specs.Seats.{limited_of, seats_in, seated_start}
use Rattle.seats.specs.SeatOrder.{FirstOver}

-- one word a role, each at most 32
abbrev pub SeatTableFits : Contents → List ℕ → Type 0
SeatTableFits C table = (length table ≡ length C.roles) × ((r : ℕ) → InCount (length table) r → seats_in table r ≤ 32)

-- another number of words than roles, or a word above 32
abbrev pub SeatTableMisfits : Contents → List ℕ → Type 0
SeatTableMisfits C table = (length table ≢ length C.roles) ⊎ ((r : ℕ) × InCount (length table) r × (32 < seats_in table r))

-- session k is the lowest whose mask, taken in order, overfills a role
abbrev pub OverfullAt : Contents → List ℕ → ℕ → Type 0
OverfullAt C table k = FirstOver (limited_of C table) (seated_start C) k

abbrev pub StartFits : Contents → List ℕ → Type 0
StartFits C table = (k : ℕ) → OverfullAt C table k → ⊥

-- what refuses before the first choice: a list or an output that doesn't fit, the file, the table, or the start
abbrev pub SeatsBar : Type 0 → List ℕ → List ℕ → Type 0
SeatsBar Unfits f table = Unfits ⊎ ((reading_names f ≢ fine) ⊎ (SeatTableMisfits (contents_of f) table ⊎ ((k : ℕ) × OverfullAt (contents_of f) table k)))
