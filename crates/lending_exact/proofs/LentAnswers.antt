-- The ways through a choice in what is lent: the file refuses, what is lent refuses, the choice is refused, or it is carried out.
use Prim.Native.Nat.{ℕ, ◌≤◌, ◌<◌}
use mathlib.Core.Path.{◌≡◌, refl, sym, ap, subst}
use mathlib.Core.Logic.{◌↔◌}
use mathlib.Core.Bool.{Bool, true, false, cond}
use mathlib.Core.List.{List}
use native.Mathlib.Omega.{arith}
use borrow.Author.Tests.{ne_eqb}
use Rattle.format.specs.Contents.{contents_of}
use Rattle.format.specs.Answers.{fine, refused}
use Rattle.format.specs.declared.Verdict.{Verdict}
use Rattle.checking.specs.Check.{reading_names}
use Rattle.steps.specs.declared.Thread.{Thread}
use Rattle.steps.specs.Choice.{clinic_of, State, Chosen, halts, goes}
use Rattle.reading_exact.proofs.FirstLaws.{number_of, both_fine}
use Rattle.reading_exact.specs.Order.{OfFile}
use Rattle.reading_exact.proofs.Turns.{some_of_file}
use Rattle.placing_exact.proofs.AnswerStages.{among_fine, names_among, Named, names_fine, names_wrong, names_of}
use Rattle.running_exact.proofs.Agree.{refused_number}
use Rattle.running_exact.proofs.AnswerCases.{past_ten}
use Rattle.lending.specs.Lent.{state_of, may_be_lent, lending, chosen_answer, chosen_in, choosing, records_after, beside_after, records_over, beside_over}

-- equal answers have equal places
pub place_of : {v w : Verdict} → v ≡ w → v.place ≡ w.place
place_of e = ap (λ (x : Verdict). x.place) e

-- the answer of a choice, the records and the words after it
pub record Leaves (f : List ℕ) (l : List Thread) (b : List ℕ) (i p : ℕ) (v : Verdict) (l' : List Thread) (b' : List ℕ) : Type 0 where
  pub answer : choosing f l b i p ≡ v
  pub records : records_over f l b i p ≡ l'
  pub beside : beside_over f l b i p ≡ b'

-- what refuses, if anything does
pub data OfChoice (f : List ℕ) (l : List Thread) (b : List ℕ) (i p : ℕ) : Type 0 where
  unread : (n q : ℕ) → OfFile n → reading_names f ≡ refused n q → lending f l b ≡ refused n q → Leaves f l b i p (refused n q) l b → OfChoice f l b i p
  unfit : reading_names f ≡ fine → may_be_lent (contents_of f) l b ≡ false → lending f l b ≡ refused 18 0 → Leaves f l b i p (refused 18 0) l b → OfChoice f l b i p
  halted : (n : ℕ) → (10 < n) × (n < 21) → lending f l b ≡ fine → chosen_in f l b i p ≡ halts n → Leaves f l b i p (refused n 1) l b → OfChoice f l b i p
  carried : (s : State) → lending f l b ≡ fine → chosen_in f l b i p ≡ goes s → Leaves f l b i p fine (records_after l (goes s)) (beside_after (contents_of f) b (goes s)) → OfChoice f l b i p

module _ (f : List ℕ) (l : List Thread) (b : List ℕ) where
  -- what refuses before the choice is the answer, and nothing changes
  refuses : (i p n q : ℕ) → 1 ≤ n → lending f l b ≡ refused n q → Leaves f l b i p (refused n q) l b
  unfolding choosing records_over beside_over
  refuses i p n q low e =
      let loud = ne_eqb n 0 (λ z. omega (arith, low)) in
      record { answer = rw (e, loud); records = rw (e, loud); beside = rw (e, loud) }

  -- where nothing does, all is the choice's
  pub chooses : (i p : ℕ) → lending f l b ≡ fine → (o : Chosen) → chosen_in f l b i p ≡ o → Leaves f l b i p (chosen_answer o) (records_after l o) (beside_after (contents_of f) b o)
  unfolding choosing records_over beside_over
  chooses i p e o h = record { answer = rw (e, h); records = rw (e, h); beside = rw (e, h) }

  -- every choice goes one of the ways
  pub of_choice : (i p : ℕ) → OfChoice f l b i p
  unfolding lending
  of_choice i p = go (names_of f) (may_be_lent (contents_of f) l b) refl
    where
      chosen : lending f l b ≡ fine → (o : Chosen) → chosen_in f l b i p ≡ o → OfChoice f l b i p
      chosen e (halts n) h = let (low, high, other) = past_ten n (refused_number (clinic_of (contents_of f)) (state_of l b) i p n h) in halted n (low, high) e h (chooses i p e (halts n) h)
      chosen e (goes s) h = carried s e h (chooses i p e (goes s) h)

      go : Named (reading_names f) → (t : Bool) → may_be_lent (contents_of f) l b ≡ t → OfChoice f l b i p
      go (names_fine e) true h = chosen (rw (e, h)) (chosen_in f l b i p) refl
      go (names_fine e) false h = let z : lending f l b ≡ refused 18 0 = rw (e, h) in unfit e h z (refuses i p 18 0 (omega arith) z)
      go (names_wrong o) t h =
          let low = some_of_file (reading_names f).number o in
          let loud = ne_eqb (reading_names f).number 0 (λ z. omega (arith, low)) in
          let z : lending f l b ≡ reading_names f = rw loud in
          unread (reading_names f).number (reading_names f).place o refl z (refuses i p (reading_names f).number (reading_names f).place low z)

  -- what holds of the records and words that are left holds of those after the choice
  pub left_has : (P : List Thread → List ℕ → Type 0) {i p : ℕ} {v : Verdict} {l' : List Thread} {b' : List ℕ}
      → Leaves f l b i p v l' b' → P l' b' → P (records_over f l b i p) (beside_over f l b i p)
  left_has P {i} {p} {v} {l'} {b'} S h = subst (λ (x : List Thread). P x (beside_over f l b i p)) (sym S.records) (subst (P l') (sym S.beside) h)

  -- so what holds before it, and after one that is carried out, holds after any
  pub left_by : (P : List Thread → List ℕ → Type 0) (i p : ℕ) → P l b
      → ((s : State) → lending f l b ≡ fine → chosen_in f l b i p ≡ goes s → P (records_after l (goes s)) (beside_after (contents_of f) b (goes s)))
      → P (records_over f l b i p) (beside_over f l b i p)
  left_by P i p before after = go (of_choice i p)
    where
      go : OfChoice f l b i p → P (records_over f l b i p) (beside_over f l b i p)
      go (unread n q o e h S) = left_has P S before
      go (unfit e h k S) = left_has P S before
      go (halted n over e h S) = left_has P S before
      go (carried s e h S) = left_has P S (after s e h)

  -- nothing refuses before the choice exactly where 1 to 10 let the file through and what is lent is judged to be fit
  pub lending_fine : (lending f l b ≡ fine) ↔ ((reading_names f ≡ fine) × (may_be_lent (contents_of f) l b ≡ true))
  unfolding lending
  lending_fine =
      let both = both_fine (reading_names f) (cond (may_be_lent (contents_of f) l b) fine (refused 18 0)) (among_fine 2 20 (reading_names f) (omega arith) (names_among f)) in
      (λ h. let (e, z) = both.0 h in (e, judged (may_be_lent (contents_of f) l b) z), λ (e, h). rw (e, h))
    where
      judged : (t : Bool) → cond t fine (refused 18 0) ≡ fine → t ≡ true
      judged true z = refl
      judged false z = absurd (omega (arith, number_of z))
