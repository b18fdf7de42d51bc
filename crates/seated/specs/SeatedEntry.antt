-- What a caller of a run with seats gets, of what a file holds.
use Rattle.std.specs.Prelude.{ℕ, ◌*◌, cond, ◌&&◌, List, eqb, length, replicate}
use Rattle.std.proofs.lemmas.List.Edits.{sets}
use Rattle.format.specs.Words.{bytes_of}
use Rattle.format.specs.Answers.{or_else}
use Rattle.format.specs.Contents.{Contents}
use Rattle.format.specs.declared.Verdict.{Verdict}
use Rattle.steps.specs.Beside.{beside_words, start_beside, totals_in}
use Rattle.choices.specs.Choices.{start, Ran}
use Rattle.running.specs.Run.{ran_words, stopped}
use Rattle.seats.specs.Seats.{Limited, limited_of, SeatedRan, seated_run, plainly, waits_in, last_in, seated_start}
use Rattle.seating.specs.declared.Seats.{Seats}
use Rattle.seating.specs.SeatedRunning.{seat_table_answer, seat_start_answer, seated_running, seated_length}
use Rattle.seating.specs.SeatsRead.{seats_of, no_seats}
use Rattle.format.specs.declared.Written.{Written}
use Rattle.seated.specs.SeatedLists.{seated_beside}

abbrev pub written_of : Verdict → ℕ → Written
written_of v n = record { number = v.number; place = v.place; length = n }

-- the answer of a seated run, with the bytes written
abbrev pub seated_written : List ℕ → List ℕ → List ℕ → ℕ → Written
seated_written f ws table room = written_of (seated_running f ws table room) (seated_length f ws table room)

-- what refuses before the first choice once 1 to 10 leave the file clean: 17 for the table, then 26 for the start
abbrev pub seats_bar : Contents → List ℕ → Verdict
seats_bar C table = or_else (seat_table_answer C table) (seat_start_answer C table)

abbrev pub ran_seated : Contents → List ℕ → List ℕ → SeatedRan
ran_seated C table ws = seated_run (limited_of C table) (seated_start C) ws

abbrev pub written_by : Contents → List ℕ → List ℕ → Written
written_by C table ws =
    cond (eqb (seats_bar C table).number 0) (written_of (stopped (plainly (ran_seated C table ws))) (2 * length (ran_words (plainly (ran_seated C table ws))))) (written_of (seats_bar C table) 0)

abbrev pub out_by : Contents → List ℕ → List ℕ → List ℕ → List ℕ
out_by C table ws out = cond (eqb (seats_bar C table).number 0) (sets out 0 (bytes_of (ran_words (plainly (ran_seated C table ws))))) out

-- what is read, with the totals of the words that the run keeps beside its threads
abbrev pub seats_by : (ℕ → ℕ) → Contents → List ℕ → List ℕ → Seats
seats_by kind C table ws =
    let R : SeatedRan = ran_seated C table ws in
    let L : Limited = limited_of C table in
    cond (eqb (seats_bar C table).number 0)
    (seats_of (stopped (plainly R)) L R.seating (waits_in L (seated_start C) ws) (last_in L (seated_start C) 0 ws)
    (totals_in (seated_beside kind L (seated_start C) (start_beside kind (replicate beside_words 0) (start C).threads) ws)))
    (no_seats (seats_bar C table))
