-- A run of a file with a table of seats: what refuses it, and its output.
use Rattle.std.specs.Prelude.{ℕ, ◌*◌, Bool, true, cond, ◌&&◌, List, [], ◌∷◌, eqb, leb, length}
use Rattle.std.proofs.lemmas.List.Edits.{sets}
use Rattle.format.specs.Words.{bytes_of}
use Rattle.format.specs.Answers.{fine, refused, or_else}
use Rattle.format.specs.Contents.{Contents, contents_of}
use Rattle.format.specs.declared.Verdict.{Verdict}
use Rattle.running.specs.Run.{ran_words, listed, stopped, unready}
use Rattle.seats.specs.Seats.{limited_of, seated_start, overfilled_at, plainly, seated_ran_of}

-- each word of a table at most 32
unfoldable pub small_seats : List ℕ → Bool
small_seats [] = true
small_seats (w ∷ ws) = leb w 32 && small_seats ws

-- 17 for the table: another number of words than roles, or a word above 32
unfoldable pub seat_table_answer : Contents → List ℕ → Verdict
seat_table_answer C table = cond (eqb (length table) (length C.roles) && small_seats table) fine (refused 17 0)

-- 26 at the lowest session that overfills a role
unfoldable pub seat_start_answer : Contents → List ℕ → Verdict
seat_start_answer C table =
    let k : ℕ = overfilled_at (limited_of C table) (seated_start C) (length table) in
    cond (eqb k 0) fine (refused 26 k)

-- what refuses before the first choice: 17, 1 to 10, 17 for the table, 26 for the start
abbrev pub seated_unready : Bool → List ℕ → List ℕ → Verdict
seated_unready fits f table = or_else (unready fits f) (or_else (seat_table_answer (contents_of f) table) (seat_start_answer (contents_of f) table))

-- an output that is long enough, and a list of choices
abbrev pub seated_unready_in : List ℕ → List ℕ → List ℕ → ℕ → Verdict
seated_unready_in f ws table room = seated_unready (listed (length ws) && leb 1800 room) f table

unfoldable pub seated_running : List ℕ → List ℕ → List ℕ → ℕ → Verdict
seated_running f ws table room = or_else (seated_unready_in f ws table room) (stopped (plainly (seated_ran_of f table ws)))

-- the output: nothing past the state is written, and nothing where the run is refused before the first choice
unfoldable pub seated_over : List ℕ → List ℕ → List ℕ → List ℕ → List ℕ
seated_over f ws table out =
    cond (eqb (seated_unready_in f ws table (length out)).number 0) (sets out 0 (bytes_of (ran_words (plainly (seated_ran_of f table ws))))) out

-- the bytes written, also of a halted run
unfoldable pub seated_length : List ℕ → List ℕ → List ℕ → ℕ → ℕ
seated_length f ws table room = cond (eqb (seated_unready_in f ws table room).number 0) (2 * length (ran_words (plainly (seated_ran_of f table ws)))) 0
