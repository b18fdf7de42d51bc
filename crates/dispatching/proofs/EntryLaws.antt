-- Rounds of whole files: the round after a run, and what each way through the entry point answers.
use Prim.Native.Nat.{ℕ, zero, suc, ◌+◌, ◌*◌, ◌%◌, ◌≤◌, ◌<◌}
use mathlib.Core.Path.{◌≡◌, refl, ap, ap₂, ◌∙◌, subst}
use mathlib.Core.Bool.{true, false, ◌&&◌, and-eq-true_iff}
use mathlib.Core.List.{List}
use native.Mathlib.Omega.{arith}
use lib.Dec.{eqb, leb}
use lib.ListN.{length, replicate, length-append}
use lib.Seq.{sets}
use borrow.Author.Tests.{eq-eqb, ne_eqb, leb-true}
use Rattle.format.specs.Contents.{Contents, contents_at}
use Rattle.format.specs.Words.{bytes_of}
use Rattle.format.specs.Answers.{refused}
use Rattle.format.specs.declared.Head.{Head}
use Rattle.format.specs.declared.Verdict.{Verdict}
use Rattle.std.specs.Prelude.{Ok, Err}
use Rattle.checking.specs.Check.{reading_names, entered}
use Rattle.checking.proofs.CheckLaws.{entered_fine, entered_refused}
use Rattle.steps.specs.Choice.{Clinic, clinic_of, State}
use Rattle.steps.specs.Records.{threads_in}
use Rattle.steps.specs.Beside.{thread_count, made_count, made_in, made_words}
use Rattle.steps.specs.Kept.{state_in, Sized}
use Rattle.choices.specs.declared.Progress.{Progress}
use Rattle.choices.specs.Choices.{start}
use Rattle.choices.specs.Stored.{Gone}
use Rattle.running.specs.Run.{thread_words, ran_words, stopped}
use Rattle.steps.proofs.ActLaws.{length_made}
use Rattle.running.proofs.EntryLaws.{run_counts, progress_of}
use Rattle.running.proofs.PutLaws.{made_words_length}
use Rattle.rounds.specs.Round.{Rounded}
use Rattle.dispatching.specs.declared.Round.{Round}
use Rattle.dispatching.specs.Dispatch.{round_of, round_by, ran_by, after_list, both_by, round_listed, round_answer, no_round, rounding, round_over}
use Rattle.dispatching.specs.Visits.{HandedBack}

-- a stopped list has no round
pub none_added : (C : Clinic) (refusal : ℕ) (w b l : List ℕ) → (refusal ≡ 0 → ⊥) → Sized w b → l ≡ replicate 128 0 → HandedBack (round_by C refusal (state_in w b)) 0 w b l
none_added C refusal w b l n z e =
    let t = ne_eqb refusal 0 n in
    record { count = rw t; most = omega arith; words = rw t e; state = rw t; sized = z }

pub round_added : (C : Clinic) (refusal r : ℕ) (s : State) (w b l : List ℕ) → refusal ≡ 0 → HandedBack (round_of C s) r w b l → HandedBack (round_by C refusal s) r w b l
round_added C refusal r s w b l e A =
    let t = eq-eqb refusal 0 e in
    record { count = rw t A.count; most = A.most; words = rw t A.words; state = rw t A.state; sized = A.sized }

-- the words of an output
threads_words : (w : List ℕ) (p k : ℕ) → length (thread_words (threads_in w p k)) ≡ 12 * k
unfolding threads_in thread_words
threads_words w p zero = refl
threads_words w p (suc k) = omega (arith, threads_words w (p + 12) k)

pub output_words : (count refusal : ℕ) (w b : List ℕ) → 8 + 4 * made_count b + 24 * thread_count b ≡ 2 * length (ran_words (record { count = count; refusal = refusal; state = state_in w b }))
unfolding ran_words
output_words count refusal w b =
    omega (
      arith,
      length-append (made_words (made_in b 2 (made_count b))) (thread_words (threads_in w 0 (thread_count b))),
      made_words_length (made_in b 2 (made_count b)),
      length_made b 2 (made_count b),
      threads_words w 0 (thread_count b),
    )

-- a run, then its round
module _ (F : Contents) (ws : List ℕ) (own : Progress) (w₁ b₁ : List ℕ) (left : List ℕ) (gone : Gone (ran_by F ws) left own w₁ b₁)
    (more : ℕ) (w b l : List ℕ) (added : HandedBack (round_by (clinic_of F) own.refusal (state_in w₁ b₁)) more w b l) where
  same_round : round_by (clinic_of F) own.refusal (state_in w₁ b₁) ≡ after_list F ws
  same_round = ap₂ (λ (n : ℕ) (s : State). round_by (clinic_of F) n s) (ap (λ (x : Progress). x.refusal) gone.0) gone.1

  pub after_added : HandedBack (after_list F ws) more w b l
  after_added = subst (λ (q : Rounded State). HandedBack q more w b l) same_round added

  count-is : own.count ≡ (ran_by F ws).count
  count-is = ap (λ (x : Progress). x.count) gone.0

  refusal_is : own.refusal ≡ (ran_by F ws).refusal
  refusal_is = ap (λ (x : Progress). x.refusal) gone.0

  pub both_fit : length ws ≤ 130942 → own.count + more < 65536
  both_fit h = omega (arith, h, count-is, (run_counts (clinic_of F) (start F) ws).0, after_added.most)

  pub both_place : length ws ≤ 130942 → (own.refusal ≡ 0 → ⊥) → own.count + more < 65535
  both_place h n = omega (arith, h, count-is, (run_counts (clinic_of F) (start F) ws).1 (λ z. n (refusal_is ∙ z)), after_added.most)

  pub both_is : ◌≡◌ {A = Progress} (record { count = own.count + more; refusal = own.refusal }) (progress_of (both_by F ws))
  both_is = (λ j. record { count = count-is j + after_added.count j; refusal = refusal_is j })

  pub both_state : state_in w b ≡ (both_by F ws).state
  both_state = after_added.state

  pub answer_is : (v : Verdict) (n : ℕ) → v ≡ stopped (both_by F ws) → n ≡ 8 + 4 * made_count b + 24 * thread_count b
      → ◌≡◌ {A = Round} (record { number = v.number; place = v.place; length = n; words = l }) (round_answer (both_by F ws) (after_list F ws).words)
  answer_is v n ev en =
      let long : n ≡ 2 * length (ran_words (both_by F ws)) =
      en ∙ output_words (both_by F ws).count (both_by F ws).refusal w b
      ∙ ap (λ (s : State). 2 * length (ran_words (record { count = (both_by F ws).count; refusal = (both_by F ws).refusal; state = s }))) both_state in
      (λ j. record { number = (ev j).number; place = (ev j).place; length = long j; words = after_added.words j })

-- 17, as code tests it
pub fits_round : (words room : ℕ) → round_listed words && leb 1800 room ≡ true → (words ≤ 130942) × (1800 ≤ room)
fits_round words room e =
    let (a, c) = (and-eq-true_iff (round_listed words) (leb 1800 room)).0 e in
    (leb-true words 130942 ((and-eq-true_iff (eqb (words % 2) 0) (leb words 130942)).0 a).1, leb-true 1800 room c)

pub round_unfit : (f ws out : List ℕ) (y : Round) → round_listed (length ws) && leb 1800 (length out) ≡ false → y ≡ no_round (refused 17 0)
    → (y ≡ rounding f ws (length out)) × (out ≡ round_over f ws out)
unfolding rounding round_over
round_unfit f ws out y e ey = (ey ∙ rw e, rw e)

module _ (f ws out : List ℕ) (fits : round_listed (length ws) && leb 1800 (length out) ≡ true) where
  pub round_refused : (v : Verdict) (y : Round) → entered f ≡ Err v → y ≡ no_round v → (y ≡ rounding f ws (length out)) × (out ≡ round_over f ws out)
  unfolding rounding round_over
  round_refused v y e ey =
      let (loud, same) = entered_refused f v e in
      let test = ne_eqb (reading_names f).number 0 loud in
      (ey ∙ ap no_round same ∙ rw (fits, test), rw (fits, test))

  pub round_done : (h : Head) (y : Round) (out' : List ℕ) → entered f ≡ Ok h
      → y ≡ round_answer (both_by (contents_at f h) ws) (after_list (contents_at f h) ws).words
      → out' ≡ sets out 0 (bytes_of (ran_words (both_by (contents_at f h) ws))) → (y ≡ rounding f ws (length out)) × (out' ≡ round_over f ws out)
  unfolding rounding round_over
  round_done h y out' e ey eo = let (laid, same, clean) = entered_fine f h e in (ey ∙ rw (fits, clean, same), eo ∙ rw (fits, clean, same))
