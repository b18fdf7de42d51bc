-- A run of a file: what refuses it, its output, and the ready pair.
use Rattle.std.specs.Prelude.{ℕ, suc, ◌+◌, ◌%◌, Bool, true, false, cond, ◌&&◌, List, [], ◌∷◌, ◌++◌, eqb, leb, length, replicate}
use Rattle.std.proofs.lemmas.List.Edits.{sets}
use Rattle.masks.specs.Mask.{held}
use Rattle.format.specs.Words.{bytes_of}
use Rattle.format.specs.Answers.{fine, refused, or_else}
use Rattle.format.specs.Contents.{contents_of}
use Rattle.format.specs.declared.Verdict.{Verdict}
use Rattle.naming.specs.Scopes.{awaits}
use Rattle.checking.specs.Check.{reading_names}
use Rattle.steps.specs.declared.Thread.{Thread}
use Rattle.steps.specs.declared.Partner.TheVariants.{With}
use Rattle.steps.specs.declared.Outcome.{Outcome}
use Rattle.steps.specs.declared.Outcome.TheVariants.{Refused, Moves, Adds, Makes, Ends, Meets}
use Rattle.running.specs.declared.Ready.{Ready}
use Rattle.running.specs.declared.Totals.{Totals}
use Rattle.steps.specs.Choice.{Clinic, clinic_of, acting, State}
use Rattle.steps.specs.Beside.{made_words, beside_words, total_words, totals_in}
use Rattle.choices.specs.Choices.{start, Ran, ran_of}
use Rattle.choices.specs.Stored.{beside_run}

-- per thread user, node, mask, the number of roles it holds, its eight variables
unfoldable pub thread_words : List Thread → List ℕ
thread_words [] = []
thread_words (t ∷ ts) = t.user ∷ t.node ∷ t.mask ∷ held 16 t.mask ∷ t.vars ++ thread_words ts

-- choices done, refusal (0 if none), threads, made channels
unfoldable pub ran_words : Ran → List ℕ
ran_words r =
    r.count ∷ r.refusal ∷ length r.state.threads ∷ length r.state.made ∷ made_words r.state.made ++ thread_words r.state.threads

-- 17: an odd number of words of choices, or over 65,535 choices
abbrev pub listed : ℕ → Bool
listed words = eqb (words % 2) 0 && leb words 131070

-- a run halted at a choice has the choice's number as place
abbrev pub stopped : Ran → Verdict
stopped r = cond (eqb r.refusal 0) fine (refused r.refusal (r.count + 1))

-- what refuses before the first choice: 17, then 1 to 10
abbrev pub unready : Bool → List ℕ → Verdict
unready fits f = cond fits (reading_names f) (refused 17 0)

unfoldable pub running : List ℕ → List ℕ → ℕ → Verdict
running f ws room = or_else (unready (listed (length ws) && leb 1800 room) f) (stopped (ran_of f ws))

-- the output: nothing past the state is written, and nothing where 17 or 1 to 10 refuse
unfoldable pub run_over : List ℕ → List ℕ → List ℕ → List ℕ
run_over f ws out =
    cond (eqb (unready (listed (length ws) && leb 1800 (length out)) f).number 0) (sets out 0 (bytes_of (ran_words (ran_of f ws)))) out

-- The ready pair of a state: the lowest sender, then the lowest receiver that can meet it without refusal.

abbrev pub is_meeting : Outcome → Bool
is_meeting (Refused n) = false
is_meeting (Moves t) = false
is_meeting (Adds q) = false
is_meeting (Makes q) = false
is_meeting Ends = false
is_meeting (Meets q) = true

-- the first of the threads numbered from j on that a thread can meet, 0 if there is none
unfoldable pub receiver_from : Clinic → State → Thread → ℕ → List Thread → ℕ
receiver_from C s t j [] = 0
receiver_from C s t j (r ∷ rs) = cond (is_meeting (acting C (length s.threads) s.made t (With r))) j (receiver_from C s t (suc j) rs)

-- a sender without one is passed over; 0, 0 exactly if no pair exists
unfoldable pub pair_from : Clinic → State → ℕ → List Thread → ℕ × ℕ
pair_from C s i [] = (0, 0)
pair_from C s i (t ∷ ts) =
    let p : ℕ = receiver_from C s t 1 s.threads in
    cond (eqb p 0) (pair_from C s (suc i) ts) (i, p)

unfoldable pub ready_pair : Clinic → State → ℕ × ℕ
ready_pair C s = pair_from C s 1 s.threads

abbrev pub ready_of : Verdict → ℕ × ℕ → Ready
ready_of v q = cond (eqb v.number 0) (record { number = 0; place = 0; sender = q.0; receiver = q.1 }) (record { number = v.number; place = v.place; sender = 0; receiver = 0 })

-- the pair of the state after the list, or the refusal that stopped it with 0, 0; there is no output, so 17 comes only for the list
unfoldable pub ready : List ℕ → List ℕ → Ready
ready f ws =
    ready_of (or_else (unready (listed (length ws)) f) (stopped (ran_of f ws))) (ready_pair (clinic_of (contents_of f)) (ran_of f ws).state)

-- How many threads wait for each kind: the totals that a run keeps beside its threads.

-- the words that the run of a file keeps there
abbrev pub beside_of_run : List ℕ → List ℕ → List ℕ
beside_of_run f ws = beside_run (awaits (contents_of f)) (clinic_of (contents_of f)) (start (contents_of f)) (replicate beside_words 0) ws

abbrev pub totals_of : Verdict → List ℕ → Totals
totals_of v ts = record { number = v.number; place = v.place; totals = ts }

-- those of the state in which the run stands, halted or not; all 0 where 17 or 1 to 10 refuse
unfoldable pub totals_after : List ℕ → List ℕ → Totals
totals_after f ws =
    let v : Verdict = unready (listed (length ws)) f in
    cond (eqb v.number 0) (totals_of (stopped (ran_of f ws)) (totals_in (beside_of_run f ws))) (totals_of v (replicate total_words 0))
