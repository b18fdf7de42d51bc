-- A clinic with nothing planned (02, K7): zero bytes have every answer of the 26 bytes that they read as, and these answers in numbers; fewer bytes than a head has are refused.
use Prim.Native.Nat.{ℕ, zero, suc, ◌≤◌, ◌<◌}
use mathlib.Core.Path.{◌≡◌, refl, sym, ap, ◌∙◌}
use mathlib.Core.Logic.{inl, inr}
use mathlib.Core.Bool.{false}
use mathlib.Core.List.{List, [], ◌∷◌, ◌++◌}
use native.Mathlib.Omega.{arith}
use lib.ListN.{length, get_or, take, drop, replicate}
use lib.Seq.{sets-eq}
use borrow.Author.Tests.{eq-eqb, lt-ltb, le-leb}
use Rattle.format.specs.Words.{word_at, bytes_of}
use Rattle.format.specs.Answers.{fine, refused}
use Rattle.format.specs.Header.{WithJuniors, more, nothing_planned, head_bytes, from1, head_of}
use Rattle.format.specs.Contents.{in_count, tabled, contents_at, contents_of}
use Rattle.std.specs.Prelude.{Err}
use Rattle.format.proofs.ContentsLaws.{count_past}
use Rattle.format.proofs.HeadLaws.{juniors_iff}
use Rattle.reading_exact.proofs.Exact.{read_alike}
use Rattle.checking.specs.Check.{reading_names, checking}
use Rattle.checking.proofs.CheckLaws.{names_refused, check_refused}
use Rattle.checking_exact.proofs.CheckFirst.{check_fine}
use Rattle.placing.specs.Placing.{measuring, placing, no_place, placed_over}
use Rattle.placing.specs.declared.Placed.{Placed}
use Rattle.placing.proofs.PlaceLaws.{answers, too_small, head_refused}
use Rattle.placing_exact.proofs.PlacingExact.{out_written}
use Rattle.placing_exact.proofs.StarredCases.{unplanned}
use Rattle.steps.specs.declared.Thread.{Thread}
use Rattle.steps.specs.Beside.{made_in, made_words, waiting, waiting_from}
use Rattle.steps.specs.Choice.{Clinic, clinic_of, State, halts, done, outcome, choice}
use Rattle.choices.specs.Choices.{threads_from, run}
use Rattle.running.specs.Run.{thread_words, ran_words, running, run_over}
use Rattle.running_exact.proofs.RunAnswers.{run_through}
use Rattle.lending.specs.Lent.{state_of, every, same, may_be_lent, lending, choosing}
use Rattle.lending_exact.proofs.LendableLaws.{past_ten_one}
use Rattle.engine.specs.Alike.{Alike}
use Rattle.engine.proofs.SameContents.{alike}

pub nothing_held : contents_of [] ≡ contents_of nothing_planned
unfolding contents_at tabled
nothing_held = refl

pub nothing_alike : Alike [] nothing_planned
nothing_alike = alike [] nothing_planned (sym (read_alike [])) nothing_held refl refl

-- the check passes, and so does reading
pub nothing_checked : checking [] ≡ fine
unfolding bytes_of
nothing_checked = unplanned.0

pub nothing_named : reading_names [] ≡ fine
nothing_named = ((check_fine []).0 nothing_checked).0

-- placed as those 26 bytes
pub nothing_measured : measuring [] ≡ record { number = 0; place = 0; length = 26; on_steps = 0 }
nothing_measured = sym (answers [] 6874 (omega arith)) ∙ unplanned.1.1.0.0

pub nothing_placed : (room : ℕ) → 6874 ≤ room → placing [] room ≡ record { number = 0; place = 0; length = 26; on_steps = 0 }
nothing_placed room wide = answers [] room wide ∙ nothing_measured

pub nothing_short : (room : ℕ) → room < 6874 → placing [] room ≡ no_place 17 0
nothing_short room less = too_small [] room less

pub nothing_over : (out : List ℕ) → 6874 ≤ length out → placed_over [] out ≡ nothing_planned ++ drop 26 out
nothing_over out wide =
    out_written [] tt out (ap (λ (a : Placed). a.number) (nothing_placed (length out) wide)) ∙ ap (λ (g : List ℕ). g ++ drop (length g) out) unplanned.1.1.0.1

-- there is no thread to choose
none_counted : (i : ℕ) → in_count 0 i ≡ false
none_counted zero = refl
none_counted (suc i) = count_past 0 (suc i) (omega arith)

pub none_chosen : (C : Clinic) (s : State) → s.threads ≡ [] → (i p : ℕ) → choice C s i p ≡ halts 18
unfolding choice outcome done
none_chosen C s none i p = rw (none, none_counted i)

-- so a run has no threads, and its first choice is refused
pub nothing_run : (out : List ℕ) → 1800 ≤ length out → (running [] [] (length out) ≡ fine) × (run_over [] [] out ≡ replicate 8 0 ++ drop 8 out)
unfolding run_over run ran_words made_words thread_words threads_from contents_at tabled bytes_of
nothing_run out wide = (
  run_through [] [] (length out) (wide, (refl, omega arith)) nothing_named refl,
  rw (le-leb 1800 (length out) wide, nothing_named) (sets-eq (replicate 8 0) out 0 (omega (arith, wide))),
)

-- of a list of threads only the empty one may be lent
nothing_lent : (l : List Thread) (b : List ℕ) → length l ≡ 64 → length b ≡ 162 → get_or b 0 0 ≡ 0 → get_or b 1 0 ≡ 0 → take 32 (drop 130 b) ≡ replicate 32 0 → lending [] l b ≡ fine
unfolding lending may_be_lent every same made_in waiting waiting_from
nothing_lent l b records words threads made totals =
    rw (nothing_named, eq-eqb (length b) 162 words, eq-eqb (length l) 64 records, threads, made, totals)

pub nothing_chosen : (l : List Thread) (b : List ℕ) → length l ≡ 64 → length b ≡ 162 → get_or b 0 0 ≡ 0 → get_or b 1 0 ≡ 0 → take 32 (drop 130 b) ≡ replicate 32 0
    → (i p : ℕ) → choosing [] l b i p ≡ refused 18 1
nothing_chosen l b records words threads made totals i p =
    (past_ten_one [] l b i p 18 (omega arith) (λ e. omega (arith, e))).1
    (nothing_lent l b records words threads made totals, none_chosen (clinic_of (contents_of [])) (state_of l b) (ap (λ (n : ℕ). take n l) threads) i p)

-- 1 to 25 bytes, and up to 27 where the first word is 2 or 3
short_head : (f : List ℕ) → 1 ≤ length f → length f < head_bytes (word_at f 0) → head_of f ≡ Err 1
unfolding head_of from1
short_head [] some few = absurd (omega (arith, some))
short_head (x ∷ xs) some few = rw (lt-ltb (length (x ∷ xs)) (head_bytes (word_at (x ∷ xs) 0)) few)

short_answers : (f : List ℕ) → head_of f ≡ Err 1 → (reading_names f ≡ refused 1 0) × (checking f ≡ refused 1 0) × (measuring f ≡ no_place 1 0)
short_answers f e = (names_refused f 1 e, check_refused f 1 e, head_refused f 1 e)

pub short_one : (f : List ℕ) → 1 ≤ length f → length f ≤ 25 → (reading_names f ≡ refused 1 0) × (checking f ≡ refused 1 0) × (measuring f ≡ no_place 1 0)
short_one f some few = short_answers f (short_head f some (omega (arith, few)))

pub short_second : (f : List ℕ) → WithJuniors (word_at f 0) → length f ≤ 27 → (reading_names f ≡ refused 1 0) × (checking f ≡ refused 1 0) × (measuring f ≡ no_place 1 0)
short_second [] (inl e) few = absurd (omega (arith, e))
short_second [] (inr e) few = absurd (omega (arith, e))
short_second (x ∷ xs) two few =
    let f : List ℕ = x ∷ xs in
    let one : more (word_at f 0) ≡ 1 = rw ((juniors_iff (word_at f 0)).1 two) in
    short_answers f (short_head f (omega arith) (omega (arith, few, one)))
