-- A round asked for with a table of seats, after a run's choices.
use Rattle.std.specs.Prelude.{ℕ, ◌+◌, ◌*◌, ◌/◌, cond, ◌&&◌, List, [], eqb, leb, length}
use Rattle.std.proofs.lemmas.List.Edits.{sets}
use Rattle.format.specs.Words.{bytes_of}
use Rattle.format.specs.Contents.{Contents, contents_of}
use Rattle.format.specs.declared.Verdict.{Verdict}
use Rattle.choices.specs.Choices.{Ran}
use Rattle.running.specs.Run.{ran_words}
use Rattle.rounds.specs.Round.{Rounded, round}
use Rattle.dispatching.specs.declared.Round.{Round}
use Rattle.dispatching.specs.Dispatch.{threads_of, round_listed, round_answer, no_round}
use Rattle.seats.specs.Seats.{Limited, limited_of, SeatedState, seated_choice, SeatedRan, seated_run, seated_start}
use Rattle.seating.specs.SeatedRunning.{seated_unready}

abbrev pub seated_threads : SeatedState → ℕ
seated_threads S = threads_of S.state

-- a visit that gets no seat is a choice of the round, and no step
abbrev pub seated_round_of : Limited → SeatedState → Rounded SeatedState
seated_round_of L S = round seated_threads (seated_choice L) S

-- a list that a refusal stopped has no round
abbrev pub seated_round_by : Limited → ℕ → SeatedState → Rounded SeatedState
seated_round_by L refusal S = record {
  words = cond (eqb refusal 0) (seated_round_of L S).words [];
  state = cond (eqb refusal 0) (seated_round_of L S).state S;
}

-- of what a file holds: the run through a list, the round after it, and both
abbrev pub seated_ran_by : Contents → List ℕ → List ℕ → SeatedRan
seated_ran_by C table ws = seated_run (limited_of C table) (seated_start C) ws

abbrev pub after_seated_list : Contents → List ℕ → List ℕ → Rounded SeatedState
after_seated_list C table ws = seated_round_by (limited_of C table) (seated_ran_by C table ws).refusal (seated_ran_by C table ws).seating

abbrev pub seated_both_by : Contents → List ℕ → List ℕ → Ran
seated_both_by C table ws = record {
  count = (seated_ran_by C table ws).count + length (after_seated_list C table ws).words / 2;
  refusal = (seated_ran_by C table ws).refusal;
  state = (after_seated_list C table ws).state.state;
}

-- what refuses before the first choice is as for a seated run, but that 17 comes from 65,472 choices on
abbrev pub seated_round_unready : List ℕ → List ℕ → List ℕ → ℕ → Verdict
seated_round_unready f ws table room = seated_unready (round_listed (length ws) && leb 1800 room) f table

unfoldable pub seated_rounding : List ℕ → List ℕ → List ℕ → ℕ → Round
seated_rounding f ws table room =
    cond (eqb (seated_round_unready f ws table room).number 0)
    (round_answer (seated_both_by (contents_of f) table ws) (after_seated_list (contents_of f) table ws).words) (no_round (seated_round_unready f ws table room))

-- the output: that of the run through both lists, and nothing where the round is refused before the first choice
unfoldable pub seated_round_over : List ℕ → List ℕ → List ℕ → List ℕ → List ℕ
seated_round_over f ws table out =
    cond (eqb (seated_round_unready f ws table (length out)).number 0) (sets out 0 (bytes_of (ran_words (seated_both_by (contents_of f) table ws)))) out
