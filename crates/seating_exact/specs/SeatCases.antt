-- Seated runs in literal words: a file, a table of seats, a list of choices, and what is answered, written and read.
use Rattle.std.specs.Prelude.{ℕ, ◌*◌, ◌-◌, ◌≡◌, List, [], ◌∷◌, ◌++◌, length, replicate}
use Rattle.format.specs.Words.{bytes_of}
use Rattle.format.specs.Answers.{fine, refused}
use Rattle.format.specs.declared.Verdict.{Verdict}
use Rattle.running_exact.specs.RunCases.{sevens, three, shows}
use Rattle.seating.specs.declared.Seats.{Seats}
use Rattle.seating.specs.SeatedRunning.{seated_running, seated_over, seated_length}
use Rattle.seating.specs.SeatsRead.{seats_after}
use Rattle.seating.specs.SeatedRound.{seated_rounding, seated_round_over}

pub data SeatCase : Type 0 where
  -- the answer and the words of the output
  runs_seated : List ℕ → List ℕ → List ℕ → Verdict → List ℕ → SeatCase
  -- the refusal with an output of so many bytes, where nothing is written, also of a round
  bars_seated : List ℕ → List ℕ → List ℕ → ℕ → ℕ → ℕ → SeatCase
  -- what is read of the seats
  reads_seats : List ℕ → List ℕ → List ℕ → Seats → SeatCase
  -- the round's words, and those of the output
  rounds_seated : List ℕ → List ℕ → List ℕ → List ℕ → List ℕ → SeatCase

abbrev pub SeatShown : SeatCase → Type 0
SeatShown (runs_seated ws table cs v xs) =
    (seated_running (bytes_of ws) cs table 1802 ≡ v) × (seated_length (bytes_of ws) cs table 1802 ≡ 2 * length xs)
    × (seated_over (bytes_of ws) cs table (sevens 1802) ≡ bytes_of xs ++ sevens (1802 - 2 * length xs))
SeatShown (bars_seated ws table cs room n p) =
    (seated_running (bytes_of ws) cs table room ≡ refused n p) × (seated_length (bytes_of ws) cs table room ≡ 0) × (seated_over (bytes_of ws) cs table (sevens room) ≡ sevens room)
    × (seated_rounding (bytes_of ws) cs table room ≡ record { number = n; place = p; length = 0; words = replicate 128 0 })
    × (seated_round_over (bytes_of ws) cs table (sevens room) ≡ sevens room)
SeatShown (reads_seats ws table cs x) = seats_after (bytes_of ws) cs table ≡ x
SeatShown (rounds_seated ws table cs rs xs) =
    (seated_rounding (bytes_of ws) cs table 1802 ≡ record { number = 0; place = 0; length = 2 * length xs; words = rs ++ replicate (128 - length rs) 0 })
    × (seated_round_over (bytes_of ws) cs table (sevens 1802) ≡ bytes_of xs ++ sevens (1802 - 2 * length xs))

-- three users, each with roles 1 and 2, and a channel of user 1; each user's session puts role 1 on and off, the first has role 2 active from its start; user 1 has a
-- fourth session, which receives on the channel
abbrev pub holders : List ℕ
holders =
    1 ∷ 3 ∷ 2 ∷ 1 ∷ 1 ∷ 4 ∷ 11 ∷ 13 ∷ 16 ∷ 24 ∷ 25 ∷ 27 ∷ 39
    ∷ 3 ∷ 3 ∷ 3
    ∷ 0 ∷ 0 ∷ 0 ∷ 0 ∷ 0 ∷ 0 ∷ 0 ∷ 0
    ∷ 0
    ∷ 1 ∷ 1
    ∷ 1 ∷ 2 ∷ 1 ∷ 2 ∷ 0 ∷ 4 ∷ 3 ∷ 0 ∷ 7 ∷ 1 ∷ 0 ∷ 10
    ∷ 7 ∷ 1 ∷ 0 ∷ 8 ∷ 1 ∷ 0 ∷ 0 ∷ 0 ∷ 0
    ∷ 7 ∷ 1 ∷ 0 ∷ 8 ∷ 1 ∷ 0 ∷ 0 ∷ 0 ∷ 0
    ∷ 7 ∷ 1 ∷ 0 ∷ 8 ∷ 1 ∷ 0 ∷ 0 ∷ 0 ∷ 0
    ∷ 5 ∷ 257 ∷ 0 ∷ 0 ∷ 0 ∷ 0 ∷ []

-- one seat in role 1, no limit in role 2
abbrev pub one_seat : List ℕ
one_seat = 1 ∷ 0 ∷ []

-- the fourth session's thread
abbrev pub fourth : List ℕ
fourth = shows 1 10 0 0 0

-- two users with roles 1 and 2; the first user's session forks, and both of its threads and the second's session put role 2 on and off
abbrev pub twins : List ℕ
twins =
    1 ∷ 2 ∷ 2 ∷ 0 ∷ 0 ∷ 2 ∷ 10 ∷ 13 ∷ 15 ∷ 23 ∷ 23 ∷ 23 ∷ 29
    ∷ 3 ∷ 3
    ∷ 0 ∷ 0 ∷ 0 ∷ 0 ∷ 0 ∷ 0 ∷ 0 ∷ 0
    ∷ 1 ∷ 0 ∷ 1 ∷ 2 ∷ 0 ∷ 8
    ∷ 1 ∷ 5 ∷ 0 ∷ 7 ∷ 2 ∷ 0 ∷ 8 ∷ 2 ∷ 0 ∷ 0 ∷ 0 ∷ 0 ∷ 7 ∷ 2 ∷ 0 ∷ 8 ∷ 2 ∷ 0 ∷ 0 ∷ 0 ∷ 0
    ∷ 7 ∷ 2 ∷ 0 ∷ 8 ∷ 2 ∷ 0 ∷ 0 ∷ 0 ∷ 0 ∷ []

-- what is read where a refusal comes before the first choice: its number and place, and nothing else
abbrev pub nothing_read : ℕ → ℕ → Seats
nothing_read n p = record {
  number = n;
  place = p;
  waited = 0;
  last = 0;
  taken = replicate 16 0;
  waiting = replicate 16 0;
  line = replicate 512 0;
  totals = replicate 32 0;
}

abbrev pub seat_cases : List SeatCase
seat_cases =
    -- session 1 forks into threads 1 and 3; 3 takes the one seat in role 2, session 2 waits, and 1, 3's twin, puts the role on without asking; 3's off leaves the seat taken
    runs_seated twins (0 ∷ 1 ∷ []) (1 ∷ 0 ∷ 3 ∷ 0 ∷ 2 ∷ 0 ∷ 1 ∷ 0 ∷ 3 ∷ 0 ∷ 2 ∷ 0 ∷ []) fine (6 ∷ 0 ∷ 3 ∷ 0 ∷ shows 1 3 2 1 0 ++ shows 2 8 0 0 0 ++ shows 1 7 0 0 0)
    ∷ reads_seats twins (0 ∷ 1 ∷ []) (1 ∷ 0 ∷ 3 ∷ 0 ∷ 2 ∷ 0 ∷ 1 ∷ 0 ∷ 3 ∷ 0 ∷ 2 ∷ 0 ∷ []) (record {
      number = 0;
      place = 0;
      waited = 2;
      last = 26;
      taken = 0 ∷ 1 ∷ replicate 14 0;
      waiting = 0 ∷ 1 ∷ replicate 14 0;
      line = replicate 32 0 ++ (2 ∷ replicate 479 0);
      totals = replicate 32 0;
    })
    -- session 1 takes the seat; 2 and 3 are answered 26, and only the line changes
    ∷ runs_seated holders one_seat (1 ∷ 0 ∷ 2 ∷ 0 ∷ 3 ∷ 0 ∷ []) fine (3 ∷ 0 ∷ 4 ∷ 0 ∷ shows 1 2 3 2 0 ++ shows 2 4 0 0 0 ++ shows 3 7 0 0 0 ++ fourth)
    -- a line of two, 2 before 3; role 2, without limit, has one session; one thread waits for kind 1
    ∷ reads_seats holders one_seat (1 ∷ 0 ∷ 2 ∷ 0 ∷ 3 ∷ 0 ∷ []) (record {
      number = 0;
      place = 0;
      waited = 2;
      last = 26;
      taken = 1 ∷ 1 ∷ replicate 14 0;
      waiting = 2 ∷ replicate 15 0;
      line = 2 ∷ 3 ∷ replicate 510 0;
      totals = 1 ∷ replicate 31 0;
    })
    -- the seat is free, but 3 is not the head; the head gets it and leaves the line
    ∷ runs_seated holders one_seat (1 ∷ 0 ∷ 2 ∷ 0 ∷ 3 ∷ 0 ∷ 1 ∷ 0 ∷ 3 ∷ 0 ∷ 2 ∷ 0 ∷ []) fine
    (6 ∷ 0 ∷ 4 ∷ 0 ∷ shows 1 3 2 1 0 ++ shows 2 5 1 1 0 ++ shows 3 7 0 0 0 ++ fourth)
    ∷ reads_seats holders one_seat (1 ∷ 0 ∷ 2 ∷ 0 ∷ 3 ∷ 0 ∷ 1 ∷ 0 ∷ 3 ∷ 0 ∷ 2 ∷ 0 ∷ []) (record {
      number = 0;
      place = 0;
      waited = 3;
      last = 0;
      taken = 1 ∷ 1 ∷ replicate 14 0;
      waiting = 1 ∷ replicate 15 0;
      line = 3 ∷ replicate 511 0;
      totals = 1 ∷ replicate 31 0;
    })
    -- with no limit nobody waits
    ∷ runs_seated holders (0 ∷ 0 ∷ []) (1 ∷ 0 ∷ 2 ∷ 0 ∷ 3 ∷ 0 ∷ []) fine (3 ∷ 0 ∷ 4 ∷ 0 ∷ shows 1 2 3 2 0 ++ shows 2 5 1 1 0 ++ shows 3 8 1 1 0 ++ fourth)
    -- a choice answered 26 counts as done: the third choice is refused
    ∷ runs_seated holders one_seat (1 ∷ 0 ∷ 2 ∷ 0 ∷ 5 ∷ 0 ∷ []) (refused 18 3) (2 ∷ 18 ∷ 4 ∷ 0 ∷ shows 1 2 3 2 0 ++ shows 2 4 0 0 0 ++ shows 3 7 0 0 0 ++ fourth)
    ∷ reads_seats holders one_seat (1 ∷ 0 ∷ 2 ∷ 0 ∷ 5 ∷ 0 ∷ []) (record {
      number = 18;
      place = 3;
      waited = 1;
      last = 26;
      taken = 1 ∷ 1 ∷ replicate 14 0;
      waiting = 1 ∷ replicate 15 0;
      line = 2 ∷ replicate 511 0;
      totals = 1 ∷ replicate 31 0;
    })
    -- 26 at the start: sessions 2 and 3 have role 1 active, and it has one seat
    ∷ bars_seated three (1 ∷ []) [] 1802 26 3
    ∷ runs_seated three (2 ∷ []) [] fine (0 ∷ 0 ∷ 3 ∷ 0 ∷ shows 1 1 0 0 0 ++ shows 2 2 1 1 0 ++ shows 3 3 1 1 0)
    -- a table one word short, one word long, and with a word above 32; an odd list; what is no file comes before the table
    ∷ bars_seated three [] [] 1802 17 0
    ∷ bars_seated three (2 ∷ 0 ∷ []) [] 1802 17 0
    ∷ bars_seated three (33 ∷ []) [] 1802 17 0
    ∷ bars_seated three (2 ∷ []) (1 ∷ []) 1802 17 0
    ∷ bars_seated (1 ∷ []) (33 ∷ []) [] 1802 1 0
    -- an output of 1,799 bytes; it comes before what is no file; one of 1,800 is enough, and then the start is judged
    ∷ bars_seated three (2 ∷ []) [] 1799 17 0
    ∷ bars_seated (1 ∷ []) (2 ∷ []) [] 0 17 0
    ∷ bars_seated three (1 ∷ []) [] 1800 26 3
    -- what is read where it is refused: no file; an odd list, also of no file; a table one word short, one with a word
    -- above 32; 26 at the start
    ∷ reads_seats (1 ∷ []) (33 ∷ []) [] (nothing_read 1 0)
    ∷ reads_seats three (2 ∷ []) (1 ∷ []) (nothing_read 17 0)
    ∷ reads_seats (1 ∷ []) (2 ∷ []) (1 ∷ []) (nothing_read 17 0)
    ∷ reads_seats holders (1 ∷ []) (1 ∷ 0 ∷ 2 ∷ 0 ∷ []) (nothing_read 17 0)
    ∷ reads_seats holders (1 ∷ 33 ∷ []) (1 ∷ 0 ∷ 2 ∷ 0 ∷ []) (nothing_read 17 0)
    ∷ reads_seats three (1 ∷ []) (2 ∷ 0 ∷ []) (nothing_read 26 3)
    -- a round: two visits get no seat, are in its list and did not do their step
    ∷ rounds_seated holders one_seat [] (1 ∷ 0 ∷ 2 ∷ 0 ∷ 3 ∷ 0 ∷ []) (3 ∷ 0 ∷ 4 ∷ 0 ∷ shows 1 2 3 2 0 ++ shows 2 4 0 0 0 ++ shows 3 7 0 0 0 ++ fourth)
    -- the next: 1 puts the role off, and 2, the head, gets the seat at its visit; 3 waits on
    ∷ rounds_seated holders one_seat (1 ∷ 0 ∷ 2 ∷ 0 ∷ 3 ∷ 0 ∷ []) (1 ∷ 0 ∷ 2 ∷ 0 ∷ 3 ∷ 0 ∷ []) (6 ∷ 0 ∷ 4 ∷ 0 ∷ shows 1 3 2 1 0 ++ shows 2 5 1 1 0 ++ shows 3 7 0 0 0 ++ fourth)
    ∷ []
