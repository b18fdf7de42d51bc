-- A sound notice by its tests, the stages of the answer, and the part that is cut out of whichever notice holds it.
use Prim.Native.Nat.{ℕ, ◌+◌, ◌-◌, ◌≤◌, ◌<◌}
use mathlib.Core.Path.{◌≡◌, refl, sym, ap, ap₂, ◌∙◌, subst}
use mathlib.Core.Bool.{Bool, true, false, cond, and-eq-true_iff}
use mathlib.Core.List.{List}
use native.Mathlib.Omega.{arith}
use lib.Dec.{eqb, leb}
use lib.ListN.{length, take, drop, length-drop}
use lib.Seq.{take_all}
use borrow.Author.Tests.{eqb-true, eq-eqb, ne_eqb, le-leb, lt-leb}
use Rattle.format.specs.declared.Verdict.{Verdict}
use Rattle.checking.specs.Check.{reading_names}
use Rattle.notices.specs.Notices.{first_day, length_word, file_of, is_sound, second_holds, unheld, held, plan_in_force, of_notice, place_of}
use Rattle.notices.specs.declared.InForce.{InForce}

module _ (n : List ℕ) where
  pub wrong_length : (length n ≡ 4 + length_word n → ⊥) → false ≡ is_sound n
  unfolding is_sound
  wrong_length l = rw (ne_eqb (length n) (4 + length_word n) l) refl

  -- as the code cuts the file out
  pub right_length : length n ≡ 4 + length_word n → (v : Verdict) → v ≡ reading_names (take (length n - 4) (drop 4 n)) → eqb v.number 0 ≡ is_sound n
  unfolding is_sound
  right_length l v e =
      let whole : take (length n - 4) (drop 4 n) ≡ drop 4 n = take_all (length n - 4) (drop 4 n) (omega (arith, length-drop 4 n)) in
      rw (eq-eqb (length n) (4 + length_word n) l) (ap (λ (w : Verdict). eqb w.number 0) (e ∙ ap reading_names whole))

  sound_length : is_sound n ≡ true → length n ≡ 4 + length_word n
  unfolding is_sound
  sound_length h = eqb-true (length n) (4 + length_word n) ((and-eq-true_iff (eqb (length n) (4 + length_word n)) (eqb (reading_names (file_of n)).number 0)).0 h).0

module _ (f g : List ℕ) (day : ℕ) where
  -- the stages of the answer
  abbrev later : Bool
  later = second_holds (first_day f) (first_day g) day

  pub first_wrong : is_sound f ≡ false → unheld 27 1 ≡ plan_in_force f g day
  unfolding plan_in_force
  first_wrong e = rw e refl

  pub second_wrong : is_sound f ≡ true → is_sound g ≡ false → unheld 27 2 ≡ plan_in_force f g day
  unfolding plan_in_force
  second_wrong e d = rw (e, d) refl

  module _ (e : is_sound f ≡ true) (d : is_sound g ≡ true) where
    by_days : (b : Bool) → later ≡ b → cond b (held 2 (length_word g)) (cond (leb (first_day f) day) (held 1 (length_word f)) (unheld 28 0)) ≡ plan_in_force f g day
    unfolding plan_in_force
    by_days b h =
        ap (λ (x : Bool). cond x (held 2 (length_word g)) (cond (leb (first_day f) day) (held 1 (length_word f)) (unheld 28 0))) (sym h) ∙ rw (e, d) refl

    pub second_later : later ≡ true → held 2 (length_word g) ≡ plan_in_force f g day
    second_later h = by_days true h

    pub first_later : later ≡ false → first_day f ≤ day → held 1 (length_word f) ≡ plan_in_force f g day
    first_later h l = ap (λ (x : Bool). cond x (held 1 (length_word f)) (unheld 28 0)) (sym (le-leb (first_day f) day l)) ∙ by_days false h

    pub neither_begun : later ≡ false → day < first_day f → unheld 28 0 ≡ plan_in_force f g day
    neither_begun h l = ap (λ (x : Bool). cond x (held 1 (length_word f)) (unheld 28 0)) (sym (lt-leb (first_day f) day l)) ∙ by_days false h

  -- the part lies within its notice
  abbrev Fits : InForce → Type 0
  Fits r = r.at + r.length ≤ length (of_notice r f g)

  pub part_fits : Fits (plan_in_force f g day)
  unfolding plan_in_force
  part_fits = go (is_sound f) (is_sound g) (second_holds (first_day f) (first_day g) day) (leb (first_day f) day) refl refl
    where
      go : (a b x y : Bool) → is_sound f ≡ a → is_sound g ≡ b
          → Fits (cond a (cond b (cond x (held 2 (length_word g)) (cond y (held 1 (length_word f)) (unheld 28 0))) (unheld 27 2)) (unheld 27 1))
      go false b x y e d = omega arith
      go true false x y e d = omega arith
      go true true true y e d = omega (arith, sound_length g d)
      go true true false true e d = omega (arith, sound_length f e)
      go true true false false e d = omega arith

  -- as the code finds it: p is the answer, the part goes from x to y
  module _ (p : InForce) (e : p ≡ plan_in_force f g day) (x y : ℕ) (at : x ≡ p.at) (end : y ≡ x + p.length) where
    fits : Fits p
    fits = subst Fits (sym e) part_fits

    cut : (n : List ℕ) → take (y - x) (drop x n) ≡ take p.length (drop p.at n)
    cut n = let k : y - x ≡ p.length = omega (arith, end) in ap₂ (λ (i j : ℕ). take i (drop j n)) k at

    placed : (q : ℕ × ℕ) → ◌≡◌ {A = ℕ × ℕ} (q.0, x + q.1) (q.0, p.at + q.1)
    placed q = ap {B = ℕ × ℕ} (λ (i : ℕ). (q.0, i + q.1)) at

    module _ (a b : ℕ × ℕ) where
      abbrev Handed : Bool → InForce → Type 0
      Handed s r =
          (take (y - x) (drop x (cond s g f)) ≡ take r.length (drop r.at (of_notice r f g)))
          × (◌≡◌ {A = ℕ × ℕ} ((cond s b a).0, x + (cond s b a).1) (place_of r a b))

      handed : (s : Bool) → eqb p.notice 2 ≡ s → Handed s (plan_in_force f g day)
      handed s k =
          subst (Handed s) e
          (subst
          (λ (t : Bool).
          (take (y - x) (drop x (cond s g f)) ≡ take p.length (drop p.at (cond t g f)))
          × (◌≡◌ {A = ℕ × ℕ} ((cond s b a).0, x + (cond s b a).1) ((cond t b a).0, p.at + (cond t b a).1)))
          (sym k)
          (cut (cond s g f), placed (cond s b a)))

      pub of_second : p.notice ≡ 2 → (y ≤ length g) × Handed true (plan_in_force f g day)
      of_second k =
          let t : eqb p.notice 2 ≡ true = eq-eqb p.notice 2 k in
          let l : p.at + p.length ≤ length g = subst (λ (s : Bool). p.at + p.length ≤ length (cond s g f)) t fits in
          (omega (arith, l, at, end), handed true t)

      pub of_first : (p.notice ≡ 2 → ⊥) → (y ≤ length f) × Handed false (plan_in_force f g day)
      of_first k =
          let t : eqb p.notice 2 ≡ false = ne_eqb p.notice 2 k in
          let l : p.at + p.length ≤ length f = subst (λ (s : Bool). p.at + p.length ≤ length (cond s g f)) t fits in
          (omega (arith, l, at, end), handed false t)
