-- What a choice leaves as it was: all, where it is refused; else the records past the threads and the words between the made channels and the totals.
use Prim.Native.Nat.{ℕ, suc, ◌+◌, ◌*◌, ◌<◌, ◌≤◌}
use Rattle.naming.specs.Scopes.{awaits}
use Rattle.steps.specs.Beside.{totals_for}
use Rattle.steps.proofs.TableLaws.{sets_other}
use mathlib.Core.Path.{◌≡◌, refl, sym, ap, ◌∙◌, subst}
use mathlib.Core.Logic.{◌≢◌}
use mathlib.Core.Bool.{true, and-eq-true_iff}
use mathlib.Core.List.{List, [], ◌∷◌}
use native.Mathlib.Omega.{arith}
use lib.ListN.{length, get_or, set, drop, length-set}
use lib.Seq.{get_or-set_same, get_or-set_other, drop-set-lt, sets, length-sets}
use Rattle.format.specs.Contents.{contents_of}
use Rattle.format.specs.Answers.{fine}
use Rattle.steps.specs.declared.Thread.{Thread}
use Rattle.steps.specs.Choice.{State, goes}
use Rattle.steps.specs.Beside.{made_words}
use Rattle.lending.specs.Lent.{sizes_fit, may_be_lent, lending, chosen_in, choosing, records_after, beside_after, records_over, beside_over}
use Rattle.lending.proofs.SizeLaws.{sizes_true}
use Rattle.reading_exact.proofs.FirstLaws.{number_of}
use Rattle.lending_exact.proofs.LentAnswers.{OfChoice, unread, unfit, halted, carried, of_choice, left_by, lending_fine}
use Rattle.running.proofs.PutLaws.{made_words_length}

-- past a run of stores
drop_sets : {A : Type 0} (vs : List A) (l : List A) (i : ℕ) → drop (i + length vs) (sets l i vs) ≡ drop (i + length vs) l
drop_sets [] l i = refl
drop_sets (v ∷ vs) l i =
    let e : i + suc (length vs) ≡ suc i + length vs = omega arith in
    ap (λ (k : ℕ). drop k (sets (set l i v) (suc i) vs)) e ∙ drop_sets vs (set l i v) (suc i) ∙ drop-set-lt (suc i + length vs) l i v (omega arith)
    ∙ ap (λ (k : ℕ). drop k l) (sym e)

-- before one
get_d_sets_before : {A : Type 0} (vs : List A) (l : List A) (i j : ℕ) (d : A) → j < i → get_or (sets l i vs) j d ≡ get_or l j d
get_d_sets_before [] l i j d h = refl
get_d_sets_before (v ∷ vs) l i j d h = get_d_sets_before vs (set l i v) (suc i) j d (omega arith) ∙ get_or-set_other l i j v d (λ z. omega arith)

module _ (f : List ℕ) (l : List Thread) (b : List ℕ) (i p : ℕ) where
  -- what is judged fit to be lent has 162 words
  sized : may_be_lent (contents_of f) l b ≡ true → length b ≡ 162
  unfolding may_be_lent
  sized h = (sizes_true (length l) b ((and-eq-true_iff (sizes_fit (length l) b) _).0 h).0).0

  -- A refused choice changes nothing.
  pub refused_unchanged : (choosing f l b i p).number ≢ 0 → (records_over f l b i p ≡ l) × (beside_over f l b i p ≡ b)
  refused_unchanged loud = go (of_choice f l b i p)
    where
      go : OfChoice f l b i p → (records_over f l b i p ≡ l) × (beside_over f l b i p ≡ b)
      go (unread n q o e h S) = (S.records, S.beside)
      go (unfit e h k S) = (S.records, S.beside)
      go (halted n over e h S) = (S.records, S.beside)
      go (carried s e h S) = absurd (loud (number_of S.answer))

  -- The list and the words keep their lengths.
  pub lengths_kept : (length (records_over f l b i p) ≡ length l) × (length (beside_over f l b i p) ≡ length b)
  lengths_kept =
      left_by f l b (λ x y. (length x ≡ length l) × (length y ≡ length b)) i p (refl, refl)
      (λ s e h. (length-sets l 0 s.threads, length-sets (sets b 0 (length s.threads ∷ length s.made ∷ made_words s.made)) 130 (totals_for (awaits (contents_of f)) s.threads) ∙ length-sets b 0 (length s.threads ∷ length s.made ∷ made_words s.made)))

  -- where a choice is carried out, the counts stand first
  counts_stored : (s : State) → length b ≡ 162
      → (get_or (beside_after (contents_of f) b (goes s)) 0 0 ≡ length s.threads) × (get_or (beside_after (contents_of f) b (goes s)) 1 0 ≡ length s.made)
  counts_stored s words =
      let n : ℕ = length s.threads in
      let m : ℕ = length s.made in
      let T : List ℕ = totals_for (awaits (contents_of f)) s.threads in
      let long : 1 < length (set b 0 n) = omega (arith, words, length-set b 0 n) in (
        get_d_sets_before T (sets (set (set b 0 n) 1 m) 2 (made_words s.made)) 130 0 0 (omega arith) ∙ get_d_sets_before (made_words s.made) (set (set b 0 n) 1 m) 2 0 0 (omega arith) ∙ get_or-set_other (set b 0 n) 1 0 m 0 (λ z. omega arith)
            ∙ get_or-set_same b 0 n 0 (omega (arith, words)),
        get_d_sets_before T (sets (set (set b 0 n) 1 m) 2 (made_words s.made)) 130 1 0 (omega arith) ∙ get_d_sets_before (made_words s.made) (set (set b 0 n) 1 m) 2 1 0 (omega arith) ∙ get_or-set_same (set b 0 n) 1 m 0 long,
      )

  -- Records past the count after the choice keep what they held, and so do the words between the made channels and the totals.
  pub past_kept : (drop (get_or (beside_over f l b i p) 0 0) (records_over f l b i p) ≡ drop (get_or (beside_over f l b i p) 0 0) l)
      × ((k : ℕ) → 2 + 2 * get_or (beside_over f l b i p) 1 0 ≤ k → k < 130 → get_or (beside_over f l b i p) k 0 ≡ get_or b k 0)
  past_kept = left_by f l b (λ x y. (drop (get_or y 0 0) x ≡ drop (get_or y 0 0) l) × ((k : ℕ) → 2 + 2 * get_or y 1 0 ≤ k → k < 130 → get_or y k 0 ≡ get_or b k 0)) i p (refl, λ k past low. refl) after
    where
      after : (s : State) → lending f l b ≡ fine → chosen_in f l b i p ≡ goes s
          → (drop (get_or (beside_after (contents_of f) b (goes s)) 0 0) (records_after l (goes s)) ≡ drop (get_or (beside_after (contents_of f) b (goes s)) 0 0) l)
          × ((k : ℕ) → 2 + 2 * get_or (beside_after (contents_of f) b (goes s)) 1 0 ≤ k → k < 130 → get_or (beside_after (contents_of f) b (goes s)) k 0 ≡ get_or b k 0)
      after s e h =
          let ws : List ℕ = length s.threads ∷ length s.made ∷ made_words s.made in
          let (count, number) = counts_stored s (sized ((lending_fine f l b).0 e).1) in
          let threads : 0 + length s.threads ≡ get_or (beside_after (contents_of f) b (goes s)) 0 0 = omega (arith, count) in (
            subst (λ (k : ℕ). drop k (records_after l (goes s)) ≡ drop k l) threads (drop_sets s.threads l 0),
            λ k past low. get_d_sets_before (totals_for (awaits (contents_of f)) s.threads) (sets b 0 ws) 130 k 0 low
                ∙ sets_other ws b 0 k 0 (λ j lt q. omega (arith, lt, q, past, number, made_words_length s.made)),
          )
