-- What is read of the state in which a seated run stands.
use Rattle.std.specs.Prelude.{ℕ, zero, suc, ◌-◌, cond, List, [], ◌∷◌, ◌++◌, eqb, length, replicate}
use Rattle.format.specs.Contents.{Contents, contents_of, tabled}
use Rattle.format.specs.declared.Verdict.{Verdict}
use Rattle.steps.specs.Beside.{total_words, totals_in}
use Rattle.running.specs.Run.{listed, stopped, beside_of_run}
use Rattle.seats.specs.Seats.{Limited, limited_of, SeatedState, seats_taken, SeatedRan, plainly, steps_only, waits_in, last_in, seated_start, seated_ran_of}
use Rattle.seating.specs.SeatedRunning.{seated_unready}
use Rattle.seating.specs.declared.Seats.{Seats}

-- a line in 32 words, 0 past those waiting
abbrev pub line_words : List ℕ → List ℕ
line_words l = l ++ replicate (32 - length l) 0

-- the lines of the roles r, r + 1, .., so many
unfoldable pub lines_from : (ℕ → List ℕ) → ℕ → ℕ → List ℕ
lines_from lines r zero = []
lines_from lines r (suc n) = line_words (lines r) ++ lines_from lines (suc r) n

-- the list without the choices that are answered 26, from the file's start
abbrev pub seated_steps_of : List ℕ → List ℕ → List ℕ → List ℕ
seated_steps_of f table ws = steps_only (limited_of (contents_of f) table) (seated_start (contents_of f)) ws

-- of a state, after so many choices answered 26, with what the last one done was answered and the totals
abbrev pub seats_of : Verdict → Limited → SeatedState → ℕ → ℕ → List ℕ → Seats
seats_of v L S waited last totals = record {
  number = v.number;
  place = v.place;
  waited = waited;
  last = last;
  taken = tabled (seats_taken L S) 1 16;
  waiting = tabled (λ r. length (S.lines r)) 1 16;
  line = lines_from S.lines 1 16;
  totals = totals;
}

abbrev pub no_seats : Verdict → Seats
no_seats v = record {
  number = v.number;
  place = v.place;
  waited = 0;
  last = 0;
  taken = replicate 16 0;
  waiting = replicate 16 0;
  line = replicate 512 0;
  totals = replicate total_words 0;
}

-- there is no output, so that the first 17 comes only for the list; the totals are those that the run keeps, to which a choice answered 26 does nothing
unfoldable pub seats_after : List ℕ → List ℕ → List ℕ → Seats
seats_after f ws table =
    let v : Verdict = seated_unready (listed (length ws)) f table in
    let L : Limited = limited_of (contents_of f) table in
    let S : SeatedState = seated_start (contents_of f) in
    let r : SeatedRan = seated_ran_of f table ws in
    cond (eqb v.number 0) (seats_of (stopped (plainly r)) L r.seating (waits_in L S ws) (last_in L S 0 ws) (totals_in (beside_of_run f (seated_steps_of f table ws)))) (no_seats v)
