-- Two schedulers and a desk in literal words: the routine as its author wrote it, and as it was cut in spring.
use Rattle.std.specs.Prelude.{ℕ, ◌-◌, List, [], ◌∷◌, ◌++◌}
use Rattle.format.specs.Words.{bytes_of}
use Rattle.format.specs.declared.Channel.{Channel}
use Rattle.reading_exact.specs.Tree.{end, step, receive, send}
use Rattle.reading_exact.specs.File.{Routine, first, File}

-- The tables: users 1 and 2 are the schedulers, with role 1, which receives on kind 1 and sends on kind 2; user 3 is
-- the desk, with role 2, which sends on kind 1 and receives on kind 2. The schedulers own channels 1 and 2, of kind 1,
-- and the desk channel 3, of kind 2.
abbrev tables : List ℕ
tables = 1 ∷ 1 ∷ 2 ∷ 2 ∷ 0 ∷ 1 ∷ 0 ∷ 1 ∷ 0 ∷ 2 ∷ 0 ∷ 0 ∷ 0 ∷ 1 ∷ 1 ∷ 2 ∷ 1 ∷ 3 ∷ 2 ∷ []

-- The routine as its author wrote it: each scheduler reads a free bed and writes the booking; the desk tells both of
-- the same bed, the plain value 3, and takes a booking.
abbrev pub written : List ℕ
written =
    bytes_of (
    1 ∷ 3 ∷ 2 ∷ 2 ∷ 3 ∷ 3 ∷ 10 ∷ 13 ∷ 16 ∷ 24 ∷ 26 ∷ 32 ∷ 41 ∷ tables
    ++ (1 ∷ 0 ∷ 1 ∷ 2 ∷ 0 ∷ 4 ∷ 3 ∷ 0 ∷ 7
    ∷ 5 ∷ 257 ∷ 0 ∷ 6 ∷ 259 ∷ 512 ∷ 0 ∷ 0 ∷ 0
    ∷ 5 ∷ 258 ∷ 0 ∷ 6 ∷ 259 ∷ 512 ∷ 0 ∷ 0 ∷ 0
    ∷ 6 ∷ 257 ∷ 3 ∷ 6 ∷ 258 ∷ 3 ∷ 5 ∷ 259 ∷ 0 ∷ 0 ∷ 0 ∷ 0 ∷ []))

-- A channel by its owner and kind.
abbrev channel : ℕ → ℕ → Channel
channel owner kind = record { owner = owner; kind = record { 0 = kind } }

-- A scheduler's session: it receives on its channel, and sends on the desk's.
abbrev scheduler : ℕ → ℕ → Routine
scheduler user from = record { user = user; mask = 0; tree = step (receive from) (step (send 259 512) end) }

-- The routine as data.
abbrev pub as_data : File
as_data = record {
  users = 1 ∷ 1 ∷ 2 ∷ [];
  grants = first (record { sends = 2; receives = 1 } ∷ record { sends = 1; receives = 2 } ∷ []);
  kinds = 0 ∷ 0 ∷ [];
  channels = channel 1 1 ∷ channel 2 1 ∷ channel 3 2 ∷ [];
  sessions = scheduler 1 257 ∷ scheduler 2 258
      ∷ record { user = 3; mask = 0; tree = step (send 257 3) (step (send 258 3) (step (receive 259) end)) }
      ∷ [];
}

-- The routine as it was cut in spring: each scheduler's role goes off and on again between reading and writing.
abbrev pub cut : List ℕ
cut =
    bytes_of (
    1 ∷ 3 ∷ 2 ∷ 2 ∷ 3 ∷ 3 ∷ 20 ∷ 13 ∷ 16 ∷ 24 ∷ 26 ∷ 32 ∷ 41 ∷ tables
    ++ (1 ∷ 0 ∷ 1 ∷ 2 ∷ 0 ∷ 8 ∷ 3 ∷ 0 ∷ 15
    ∷ 7 ∷ 1 ∷ 0 ∷ 5 ∷ 257 ∷ 0 ∷ 8 ∷ 1 ∷ 0 ∷ 7 ∷ 1 ∷ 0 ∷ 6 ∷ 259 ∷ 512 ∷ 8 ∷ 1 ∷ 0 ∷ 0 ∷ 0 ∷ 0
    ∷ 7 ∷ 1 ∷ 0 ∷ 5 ∷ 258 ∷ 0 ∷ 8 ∷ 1 ∷ 0 ∷ 7 ∷ 1 ∷ 0 ∷ 6 ∷ 259 ∷ 512 ∷ 8 ∷ 1 ∷ 0 ∷ 0 ∷ 0 ∷ 0
    ∷ 7 ∷ 2 ∷ 0 ∷ 6 ∷ 257 ∷ 3 ∷ 6 ∷ 258 ∷ 3 ∷ 5 ∷ 259 ∷ 0 ∷ 8 ∷ 2 ∷ 0 ∷ 0 ∷ 0 ∷ 0 ∷ []))

-- The routine as it is placed: each scheduler's role is on from before reading to after writing.
abbrev pub as_placed : List ℕ
as_placed =
    bytes_of (
    1 ∷ 3 ∷ 2 ∷ 2 ∷ 3 ∷ 3 ∷ 16 ∷ 13 ∷ 16 ∷ 24 ∷ 26 ∷ 32 ∷ 41 ∷ tables
    ++ (1 ∷ 0 ∷ 1 ∷ 2 ∷ 0 ∷ 6 ∷ 3 ∷ 0 ∷ 11
    ∷ 7 ∷ 1 ∷ 0 ∷ 5 ∷ 257 ∷ 0 ∷ 6 ∷ 259 ∷ 512 ∷ 8 ∷ 1 ∷ 0 ∷ 0 ∷ 0 ∷ 0
    ∷ 7 ∷ 1 ∷ 0 ∷ 5 ∷ 258 ∷ 0 ∷ 6 ∷ 259 ∷ 512 ∷ 8 ∷ 1 ∷ 0 ∷ 0 ∷ 0 ∷ 0
    ∷ 7 ∷ 2 ∷ 0 ∷ 6 ∷ 257 ∷ 3 ∷ 6 ∷ 258 ∷ 3 ∷ 5 ∷ 259 ∷ 0 ∷ 8 ∷ 2 ∷ 0 ∷ 0 ∷ 0 ∷ 0 ∷ []))

-- The table of seats: one for role 1, no limit for role 2.
abbrev pub one_seat : List ℕ
one_seat = 1 ∷ 0 ∷ []

-- The table of hours: role 1 is open on Monday from 07:00 to 15:00, role 2 always.
abbrev pub morning : List ℕ
morning = 1 ∷ 420 ∷ 900 ∷ []

-- The day in spring: the first scheduler reads and goes off, the second reads.
abbrev pub spring_day : List ℕ
spring_day = 1 ∷ 0 ∷ 3 ∷ 0 ∷ 3 ∷ 1 ∷ 1 ∷ 0 ∷ 2 ∷ 0 ∷ 3 ∷ 2 ∷ []

-- That day in what is placed, as far as it goes: the first scheduler reads, the second asks for its role.
abbrev pub placed_day : List ℕ
placed_day = 1 ∷ 0 ∷ 3 ∷ 0 ∷ 3 ∷ 1 ∷ 2 ∷ 0 ∷ []

-- The first scheduler has switched its role on, and nothing else is done.
abbrev pub first_on : List ℕ
first_on = 1 ∷ 0 ∷ []
