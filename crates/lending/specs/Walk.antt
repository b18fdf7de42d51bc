-- How code takes a choice in the lent list: sizes and made channels first, then the counted records one by one, then the step by value, and what it
-- says is stored.
use Rattle.std.specs.Prelude.{ℕ, ◌+◌, ◌-◌, ◌%◌, ◌≤◌, ◌<◌, ◌≡◌, Bool, true, false, cond, ◌&&◌, List, [], ◌∷◌, length, get_or, set, take, drop, replicate, Result, Ok, Err}
use Rattle.std.proofs.Math.Seq.{paste}
use Rattle.format.specs.Answers.{fine, refused, or_else}
use Rattle.format.specs.Header.{Laid, head_at}
use Rattle.format.specs.Contents.{Contents, in_count, contents_at, contents_of}
use Rattle.format.specs.declared.Verdict.{Verdict}
use Rattle.format.specs.declared.Head.{Head}
use Rattle.reading.specs.Reading.{with_head}
use Rattle.rules.specs.Schema.{schema_of}
use Rattle.checking.specs.Check.{reading_names}
use Rattle.naming.specs.Scopes.{awaited_by}
use Rattle.steps.specs.declared.Thread.{Thread}
use Rattle.steps.specs.declared.Made.{Made}
use Rattle.lending.specs.declared.Tally.{Tally}
use Rattle.steps.specs.declared.Answer.{Answer}
use Rattle.steps.specs.declared.Answer.TheVariants as answers
use Rattle.steps.specs.declared.Outcome.{Outcome}
use Rattle.steps.specs.declared.Outcome.TheVariants.{Refused, Moves, Adds, Makes, Ends, Meets}
use Rattle.steps.specs.Choice.{Clinic, clinic_of, acting, Chosen, choice}
use Rattle.steps.specs.Acted.{partner_of}
use Rattle.steps.specs.Beside.{thread_count, made_count, made_of, beside_words, total_words, totals_in}
use Rattle.lending.specs.Lent.{sizes_fit, made_fits, thread_fits, every, same, totals_fit, state_of, chosen_answer, records_after, beside_after}
use Rattle.lending.specs.Scopes.{Scoped}

-- what refuses before the records are judged: the file by 1 to 10; then sizes and made channels, 18 at place 0
unfoldable pub admitted : List ℕ → ℕ → List ℕ → Result Head Verdict
admitted f records b =
    with_head (head_at f) (or_else (reading_names f) (cond (sizes_fit records b && every (made_fits (schema_of (contents_of f))) (made_of b)) fine (refused 18 0)))

-- sizes that such a list has
pub record Fitting (records : ℕ) (b : List ℕ) : Type 0 where
  pub list : records ≡ 64
  pub beside : length b ≡ beside_words
  pub threads : thread_count b ≤ 64
  pub made : made_count b ≤ 64

-- what a list that is let through has: the file's head, such sizes, and a table of what each node is reached with
abbrev pub Admits : List ℕ → ℕ → List ℕ → List ℕ → Result Head Verdict → Type 0
Admits f records b table it = (h : Head) → it ≡ Ok h → (h ≡ head_at f) × Laid f h × Fitting records b × Scoped (contents_at f h) table

-- what the way in says: what it refuses, and nothing where it gives a head
abbrev pub verdict_of : Result Head Verdict → Verdict
verdict_of (Ok h) = fine
verdict_of (Err v) = v

-- every counted record is as its node asks, and the totals are theirs
abbrev pub threads_fit : Contents → List Thread → List ℕ → Bool
threads_fit C l b = every (thread_fits C (made_of b)) (take (thread_count b) l) && totals_fit C (take (thread_count b) l) b

-- judging record by record: whether all so far are as their nodes ask, and how many of them wait for each kind
abbrev pub no_tally : Tally
no_tally = record { fits = true; totals = replicate total_words 0 }

unfoldable pub one_in : List ℕ → ℕ → List ℕ
one_in l k = cond (in_count total_words k) (set l (k - 1) ((get_or l (k - 1) 0 + 1) % 65536)) l

unfoldable pub tally_on : Contents → List ℕ → List Made → Tally → Thread → Tally
tally_on C table made s t = record { fits = s.fits && thread_fits C made t; totals = one_in s.totals (awaited_by table t.node) }

unfoldable pub tally_all : Contents → List ℕ → List Made → Tally → List Thread → Tally
tally_all C table made s [] = s
tally_all C table made s (t ∷ ts) = tally_all C table made (tally_on C table made s t) ts

abbrev pub tally_fits : List ℕ → Tally → Bool
tally_fits b s = s.fits && same (totals_in b) s.totals

-- a choice in a list of which sizes and made channels are right: its answer and what it leaves; 18 at place 0 and nothing changed where a record is not
-- as its node asks or a total is not theirs
abbrev pub chosen_of : Contents → List Thread → List ℕ → ℕ → ℕ → Chosen
chosen_of C l b i p = choice (clinic_of C) (state_of l b) i p

abbrev pub judged_answer : Contents → List Thread → List ℕ → ℕ → ℕ → Verdict
judged_answer C l b i p = cond (threads_fit C l b) (chosen_answer (chosen_of C l b i p)) (refused 18 0)

abbrev pub judged_records : Contents → List Thread → List ℕ → ℕ → ℕ → List Thread
judged_records C l b i p = cond (threads_fit C l b) (records_after l (chosen_of C l b i p)) l

abbrev pub judged_beside : Contents → List Thread → List ℕ → ℕ → ℕ → List ℕ
judged_beside C l b i p = cond (threads_fit C l b) (beside_after C b (chosen_of C l b i p)) b

-- the step by value: thread i is `own`, the partner p is `other` where it is a thread; 18 where there is no thread i
unfoldable pub outcome_on : Clinic → List ℕ → ℕ → Thread → ℕ → Thread → Outcome
outcome_on C b i own p other =
    cond (in_count (thread_count b) i) (acting C (thread_count b) (made_of b) own (partner_of (thread_count b) p other)) (Refused 18)

-- where code finds the second of the threads that an answer leaves: the new last one of n, or the partner's
abbrev pub second_at : ℕ → ℕ → Answer → ℕ
second_at n to (answers.Refused k) = to
second_at n to answers.Moves = to
second_at n to answers.Adds = n
second_at n to (answers.Makes m) = to
second_at n to answers.Ends = to
second_at n to answers.Meets = to

-- which records of a list with n threads are stored after what a choice of thread i with partner p comes to
abbrev pub stored_in : List Thread → ℕ → ℕ → ℕ → Outcome → List Thread
stored_in l n i p (Refused k) = l
stored_in l n i p (Moves t) = set l (i - 1) t
stored_in l n i p (Adds q) = set (set l (i - 1) q.first) n q.second
stored_in l n i p (Makes q) = set l (i - 1) q.thread
stored_in l n i p Ends = paste l (i - 1) (drop i l) (n - i)
stored_in l n i p (Meets q) = set (set l (i - 1) q.first) (p - 1) q.second

-- where the record of a thread of so many stands, from 0 on; the first for no thread
abbrev pub index_of : ℕ → ℕ → ℕ
index_of n i = cond (in_count n i) (i - 1) 0

-- what is stored lies in a list of so many records, of which n are threads
abbrev pub Storable : ℕ → ℕ → ℕ → ℕ → Answer → Type 0
Storable records n i p (answers.Refused k) = Unit {0}
Storable records n i p answers.Moves = (0 < i) × (i ≤ records)
Storable records n i p answers.Adds = (0 < i) × (i ≤ records) × (n < records)
Storable records n i p (answers.Makes m) = (0 < i) × (i ≤ records)
Storable records n i p answers.Ends = (0 < i) × (i ≤ n) × (n ≤ records)
Storable records n i p answers.Meets = (0 < i) × (i ≤ records) × (0 < p) × (p ≤ records)

-- the answer of a choice, which has place 1
abbrev pub answer_of : Answer → Verdict
answer_of (answers.Refused n) = refused n 1
answer_of answers.Moves = fine
answer_of answers.Adds = fine
answer_of (answers.Makes m) = fine
answer_of answers.Ends = fine
answer_of answers.Meets = fine
