-- What the start of a lent list answers: the file by 1 to 10, then the lengths.
use Prim.Native.Nat.{ℕ, ◌≤◌}
use mathlib.Core.Path.{◌≡◌, refl, sym, ap, ◌∙◌}
use mathlib.Core.Logic.{◌↔◌, ◌⊎◌, ◌≢◌, inl, inr}
use mathlib.Core.Bool.{Bool, true, false, cond, ◌&&◌}
use mathlib.Core.List.{List}
use native.Mathlib.Omega.{arith}
use lib.Dec.{eqb}
use borrow.Author.Tests.{eqb-true, eqb-false, eq-eqb, ne_eqb}
use Rattle.format.specs.Answers.{fine, refused}
use Rattle.checking.specs.Check.{reading_names}
use Rattle.steps.specs.Beside.{beside_words}
use Rattle.reading_exact.specs.Order.{OfFile}
use Rattle.reading_exact.proofs.FirstLaws.{number_of}
use Rattle.reading_exact.proofs.Turns.{not_of_file, some_of_file}
use Rattle.placing_exact.proofs.AnswerStages.{Named, names_fine, names_wrong, names_of}
use Rattle.lending.specs.Starting.{starting}

-- lengths that a lent list hasn't
abbrev Unfit : ℕ → ℕ → Type 0
Unfit records words = (records ≢ 64) ⊎ (words ≢ beside_words)

-- the ways through a start
data OfStart (f : List ℕ) (records words : ℕ) : Type 0 where
  unread : (n q : ℕ) → OfFile n → reading_names f ≡ refused n q → starting f records words ≡ refused n q → OfStart f records words
  unfit : reading_names f ≡ fine → Unfit records words → starting f records words ≡ refused 18 0 → OfStart f records words
  started : reading_names f ≡ fine → (records ≡ 64) × (words ≡ beside_words) → starting f records words ≡ fine → OfStart f records words

module _ (f : List ℕ) (records words : ℕ) where
  of_start : OfStart f records words
  unfolding starting
  of_start = go (names_of f) (eqb records 64) (eqb words beside_words) refl refl
    where
      go : Named (reading_names f) → (x y : Bool) → eqb records 64 ≡ x → eqb words beside_words ≡ y → OfStart f records words
      go (names_fine e) true true h k = started e (eqb-true records 64 h, eqb-true words beside_words k) (rw (e, h, k))
      go (names_fine e) true false h k = unfit e (inr (eqb-false words beside_words k)) (rw (e, h, k))
      go (names_fine e) false y h k = unfit e (inl (eqb-false records 64 h)) (rw (e, h))
      go (names_wrong o) x y h k = unread (reading_names f).number (reading_names f).place o refl (rw (ne_eqb (reading_names f).number 0 (λ z. omega (arith, some_of_file (reading_names f).number o, z))))

  -- 1 to 10 come first, and are the file's
  pub start_ten : (n q : ℕ) → OfFile n → (starting f records words ≡ refused n q) ↔ (reading_names f ≡ refused n q)
  start_ten n q o = (to of_start, from of_start)
    where
      to : OfStart f records words → starting f records words ≡ refused n q → reading_names f ≡ refused n q
      to (unread m r of e s) z = e ∙ sym s ∙ z
      to (unfit e h s) z = absurd (not_of_file n 18 o (omega arith) (omega arith) (sym (number_of (sym s ∙ z))))
      to (started e h s) z = absurd (omega (arith, some_of_file n o, number_of (sym s ∙ z)))

      from : OfStart f records words → reading_names f ≡ refused n q → starting f records words ≡ refused n q
      from (unread m r of e s) z = s ∙ sym e ∙ z
      from (unfit e h s) z = absurd (omega (arith, some_of_file n o, number_of (sym e ∙ z)))
      from (started e h s) z = absurd (omega (arith, some_of_file n o, number_of (sym e ∙ z)))

  -- 18 at place 0 for another number of records or of words
  pub start_eighteen : (starting f records words ≡ refused 18 0) ↔ ((reading_names f ≡ fine) × Unfit records words)
  start_eighteen = (to of_start, from of_start)
    where
      to : OfStart f records words → starting f records words ≡ refused 18 0 → (reading_names f ≡ fine) × Unfit records words
      to (unread m r of e s) z = absurd (not_of_file m 18 of (omega arith) (omega arith) (number_of (sym s ∙ z)))
      to (unfit e h s) z = (e, h)
      to (started e h s) z = absurd (omega (arith, number_of (sym s ∙ z)))

      misfit : (records ≡ 64) × (words ≡ beside_words) → Unfit records words → ⊥
      misfit h (inl k) = k h.0
      misfit h (inr k) = k h.1

      from : OfStart f records words → (reading_names f ≡ fine) × Unfit records words → starting f records words ≡ refused 18 0
      from (unread m r of e s) z = absurd (omega (arith, some_of_file m of, number_of (sym e ∙ z.0)))
      from (unfit e h s) z = s
      from (started e h s) z = absurd (misfit h z.1)

  -- nothing else is refused
  pub start_fine : (starting f records words ≡ fine) ↔ ((reading_names f ≡ fine) × (records ≡ 64) × (words ≡ beside_words))
  start_fine = (to of_start, from of_start)
    where
      to : OfStart f records words → starting f records words ≡ fine → (reading_names f ≡ fine) × (records ≡ 64) × (words ≡ beside_words)
      to (unread m r of e s) z = absurd (omega (arith, some_of_file m of, number_of (sym s ∙ z)))
      to (unfit e h s) z = absurd (omega (arith, number_of (sym s ∙ z)))
      to (started e h s) z = (e, h.0, h.1)

      from : OfStart f records words → (reading_names f ≡ fine) × (records ≡ 64) × (words ≡ beside_words) → starting f records words ≡ fine
      from (unread m r of e s) z = absurd (omega (arith, some_of_file m of, number_of (sym e ∙ z.0)))
      from (unfit e (inl k) s) z = absurd (k z.1)
      from (unfit e (inr k) s) z = absurd (k z.2)
      from (started e h s) z = s
