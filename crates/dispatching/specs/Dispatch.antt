-- A round asked for after a run's choices: what refuses it, its choices, and the output.
use Rattle.std.specs.Prelude.{ℕ, ◌+◌, ◌*◌, ◌-◌, ◌/◌, ◌%◌, Bool, cond, ◌&&◌, List, [], ◌++◌, eqb, leb, length, replicate}
use Rattle.std.proofs.lemmas.List.Edits.{sets}
use Rattle.format.specs.Words.{bytes_of}
use Rattle.format.specs.Contents.{Contents, contents_of}
use Rattle.format.specs.declared.Verdict.{Verdict}
use Rattle.steps.specs.Choice.{Clinic, clinic_of, State, Chosen, halts, goes, choice}
use Rattle.choices.specs.Choices.{Ran, start, run}
use Rattle.running.specs.Run.{ran_words, stopped, unready}
use Rattle.rounds.specs.Round.{Taken, refuses, steps, Rounded, round}
use Rattle.dispatching.specs.declared.Round.{Round}

abbrev pub threads_of : State → ℕ
threads_of s = length s.threads

-- a choice is refused or is a step; none waits
abbrev pub taken_of : Chosen → Taken State
taken_of (halts n) = refuses n
taken_of (goes s) = steps s

abbrev pub comes_to : Clinic → State → ℕ → ℕ → Taken State
comes_to C s i p = taken_of (choice C s i p)

abbrev pub round_of : Clinic → State → Rounded State
round_of C s = round threads_of (comes_to C) s

-- a list that a refusal stopped has no round
abbrev pub round_by : Clinic → ℕ → State → Rounded State
round_by C refusal s = record {
  words = cond (eqb refusal 0) (round_of C s).words [];
  state = cond (eqb refusal 0) (round_of C s).state s;
}

-- a run, with the round's choices done after its own
abbrev pub with_round : Ran → Rounded State → Ran
with_round r q = record { count = r.count + length q.words / 2; refusal = r.refusal; state = q.state }

-- 17: an odd number of words of choices, or over 65,471 choices
abbrev pub round_listed : ℕ → Bool
round_listed words = eqb (words % 2) 0 && leb words 130942

-- 128 words, 0 past the last
abbrev pub filled : List ℕ → List ℕ
filled ws = ws ++ replicate (128 - length ws) 0

-- the run's answer, the bytes of its output, and the round's choices
abbrev pub round_answer : Ran → List ℕ → Round
round_answer r ws = record { number = (stopped r).number; place = (stopped r).place; length = 2 * length (ran_words r); words = filled ws }

abbrev pub no_round : Verdict → Round
no_round v = record { number = v.number; place = v.place; length = 0; words = replicate 128 0 }

-- of what a file holds: the round after a list of choices, and the run through both
abbrev pub ran_by : Contents → List ℕ → Ran
ran_by C ws = run (clinic_of C) (start C) ws

abbrev pub after_list : Contents → List ℕ → Rounded State
after_list C ws = round_by (clinic_of C) (ran_by C ws).refusal (ran_by C ws).state

abbrev pub both_by : Contents → List ℕ → Ran
both_by C ws = with_round (ran_by C ws) (after_list C ws)

-- what refuses before the first choice is as for a run, but that 17 comes from 65,472 choices on
abbrev pub round_unready : List ℕ → List ℕ → ℕ → Verdict
round_unready f ws room = unready (round_listed (length ws) && leb 1800 room) f

unfoldable pub rounding : List ℕ → List ℕ → ℕ → Round
rounding f ws room =
    cond (eqb (round_unready f ws room).number 0) (round_answer (both_by (contents_of f) ws) (after_list (contents_of f) ws).words) (no_round (round_unready f ws room))

-- the output: that of the run through both lists, and nothing where 17 or 1 to 10 refuse
unfoldable pub round_over : List ℕ → List ℕ → List ℕ → List ℕ
round_over f ws out = cond (eqb (round_unready f ws (length out)).number 0) (sets out 0 (bytes_of (ran_words (both_by (contents_of f) ws)))) out
