-- What a caller of a round with seats gets, of what a file holds.
use Rattle.std.specs.Prelude.{ℕ, cond, List, eqb}
use Rattle.std.proofs.lemmas.List.Edits.{sets}
use Rattle.format.specs.Words.{bytes_of}
use Rattle.format.specs.Contents.{Contents}
use Rattle.running.specs.Run.{ran_words}
use Rattle.dispatching.specs.declared.Round.{Round}
use Rattle.dispatching.specs.Dispatch.{round_answer, no_round}
use Rattle.seating.specs.SeatedRound.{after_seated_list, seated_both_by}
use Rattle.seated.specs.SeatedEntry.{seats_bar}

-- no round where the table or the start bars it
abbrev pub round_with_seats : Contents → List ℕ → List ℕ → Round
round_with_seats C table ws =
    cond (eqb (seats_bar C table).number 0) (round_answer (seated_both_by C table ws) (after_seated_list C table ws).words) (no_round (seats_bar C table))

abbrev pub round_out_by : Contents → List ℕ → List ℕ → List ℕ → List ℕ
round_out_by C table ws out = cond (eqb (seats_bar C table).number 0) (sets out 0 (bytes_of (ran_words (seated_both_by C table ws)))) out
