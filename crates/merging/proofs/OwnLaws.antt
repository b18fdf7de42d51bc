-- A file's own refusal: that of 1 to 10, or 2 for another version than 1, after 1.
use Prim.Native.Nat.{ℕ}
use mathlib.Core.Path.{◌≡◌, refl, sym, ap, ap₂, ◌∙◌}
use mathlib.Core.Bool.{Bool, true, false, cond, ◌||◌, true≢false}
use mathlib.Core.List.{List, [], ◌∷◌}
use native.Mathlib.Omega.{arith}
use lib.Dec.{eqb}
use borrow.Author.Tests.{eqb-true, eqb-false, eq-eqb, ne_eqb}
use Rattle.format.specs.Words.{word_at}
use Rattle.format.specs.Answers.{refused, first_of}
use Rattle.format.specs.Header.{head_at, version_at, from1, from2, from3, from4, from5, head_of}
use Rattle.format.specs.Contents.{contents_at, tabled}
use Rattle.tables.specs.Records.{records_answer, section_answer}
use Rattle.trees.specs.Shape.{shape_from, roots, shape_answer}
use Rattle.format.specs.declared.Head.{Head}
use Rattle.format.specs.declared.Verdict.{Verdict}
use Rattle.format.proofs.AnswerLaws.{NoRefusal}
use Rattle.reading.specs.Reading.{reading, with_head}
use Rattle.std.specs.Prelude.{Ok, Err}
use Rattle.reading.proofs.ReadingLaws.{head_given, refusal_given}
use Rattle.rules.specs.Checking.{reached, openings_from, first_by, names_answer}
use Rattle.checking.specs.Check.{reading_names, entered}
use Rattle.merging.specs.Merging.{own_answer}
use Rattle.merging.specs.Writers.{own_entered}

-- zero bytes are not refused
nothing_refused : (reading_names []).number ≡ 0
unfolding reading_names reading head_of from1 from2 from3 from4 from5 records_answer section_answer first_of shape_answer shape_from roots contents_at tabled names_answer first_by reached openings_from
nothing_refused = refl

-- a file that is refused has its version in its first word
first_word : (f : List ℕ) (w : Verdict) → entered f ≡ Err w → word_at f 0 ≡ version_at f
unfolding entered
first_word [] w e = absurd ((refusal_given (head_at []) (reading_names []) w e).0 nothing_refused)
first_word (b ∷ bs) w e = refl

module _ (f : List ℕ) where
  -- a version 1 file's is that of 1 to 10
  pub own_first : version_at f ≡ 1 → entered f ≡ own_entered f
  unfolding entered own_entered own_answer
  own_first e = rw (eq-eqb (version_at f) 1 e) (go (eqb (reading_names f).number 1))
    where
      go : (b : Bool) → with_head (head_at f) (reading_names f) ≡ with_head (head_at f) (cond (b || true) (reading_names f) (refused 2 0))
      go true = refl
      go false = refl

  pub own_refused : (w : Verdict) → entered f ≡ Err w → Err (cond (eqb w.number 1 || eqb (word_at f 0) 1) w (refused 2 0)) ≡ own_entered f
  unfolding entered own_entered own_answer
  own_refused w e =
      let (loud, is) = refusal_given (head_at f) (reading_names f) w e in
      ap₂ (λ (v : Verdict) (k : ℕ). Err (cond (eqb v.number 1 || eqb k 1) v (refused 2 0))) is (first_word f w e) ∙ go (eqb (reading_names f).number 1 || eqb (version_at f) 1) loud
    where
      go : (b : Bool) → (NoRefusal (reading_names f) → ⊥) → Err (cond b (reading_names f) (refused 2 0)) ≡ with_head (head_at f) (cond b (reading_names f) (refused 2 0))
      go true loud = rw (ne_eqb (reading_names f).number 0 loud)
      go false loud = refl

  pub own_headed : (h : Head) → entered f ≡ Ok h → cond (eqb h.version 1) (Ok h) (Err (refused 2 0)) ≡ own_entered f
  unfolding entered own_entered own_answer
  own_headed h e =
      let (quiet, same) = head_given (head_at f) (reading_names f) h e in
      let two : (reading_names f).number ≡ 1 → ⊥ = λ one. omega (arith, quiet, one) in
      ap (λ (k : Head). cond (eqb k.version 1) (Ok k) (Err (refused 2 0))) same ∙ go (eqb (reading_names f).number 1) (eqb (version_at f) 1) (ne_eqb (reading_names f).number 1 two) quiet
    where
      go : (a b : Bool) → a ≡ false → NoRefusal (reading_names f) → cond b (Ok (head_at f)) (Err (refused 2 0)) ≡ with_head (head_at f) (cond (a || b) (reading_names f) (refused 2 0))
      go true b n quiet = absurd (true≢false n)
      go false true n quiet = rw (eq-eqb (reading_names f).number 0 quiet)
      go false false n quiet = refl

  -- another version is 2, but for what 1 refuses
  own_else : (version_at f ≡ 1 → ⊥) → own_answer f ≡ cond (eqb (reading_names f).number 1) (reading_names f) (refused 2 0)
  unfolding own_answer
  own_else other = rw (ne_eqb (version_at f) 1 other) (go (eqb (reading_names f).number 1))
    where
      go : (b : Bool) → cond (b || false) (reading_names f) (refused 2 0) ≡ cond b (reading_names f) (refused 2 0)
      go true = refl
      go false = refl

  -- a head is that of a clean file of version 1
  pub own_fine : (h : Head) → own_entered f ≡ Ok h → (entered f ≡ Ok h) × (h.version ≡ 1) × NoRefusal (own_answer f) × (h ≡ head_at f)
  unfolding own_entered
  own_fine h e = let (quiet, same) = head_given (head_at f) (own_answer f) h e in go (eqb (version_at f) 1) refl quiet same
    where
      go : (b : Bool) → eqb (version_at f) 1 ≡ b → NoRefusal (own_answer f) → h ≡ head_at f → (entered f ≡ Ok h) × (h.version ≡ 1) × NoRefusal (own_answer f) × (h ≡ head_at f)
      go true v quiet same = (own_first (eqb-true (version_at f) 1 v) ∙ e, ap (λ (k : Head). k.version) same ∙ eqb-true (version_at f) 1 v, quiet, same)
      go false v quiet same = absurd (loud (eqb (reading_names f).number 1) refl (sym (ap (λ (w : Verdict). w.number) (own_else (eqb-false (version_at f) 1 v))) ∙ quiet))
        where
          loud : (c : Bool) → eqb (reading_names f).number 1 ≡ c → (cond c (reading_names f) (refused 2 0)).number ≡ 0 → ⊥
          loud true q z = omega (arith, eqb-true (reading_names f).number 1 q, z)
          loud false q z = omega (arith, z)

  pub own_loud : (w : Verdict) → own_entered f ≡ Err w → (NoRefusal (own_answer f) → ⊥) × (w ≡ own_answer f)
  unfolding own_entered
  own_loud w e = refusal_given (head_at f) (own_answer f) w e
