-- Orders with 22 and 23 in their turns, and the sooner of two answers by node.
use Prim.Native.Nat.{ℕ, ◌+◌, ◌*◌, ◌≤◌, ◌<◌}
use mathlib.Core.Path.{◌≡◌, refl, sym, ap, ◌∙◌, subst}
use mathlib.Core.Logic.{◌↔◌, ◌⊎◌, inl, inr, ◌≢◌}
use mathlib.Core.Bool.{Bool, true, false, cond}
use native.Mathlib.Omega.{arith}
use lib.Dec.{eqb, ltb}
use borrow.Author.Tests.{eqb-true, eqb-false, eq-eqb, ne_eqb, lt-ltb, le-ltb, ltb-true, ltb-false}
use Rattle.format.specs.Answers.{fine, refused}
use Rattle.format.specs.declared.Verdict.{Verdict}
use Rattle.checking_at.specs.CheckAt.{sooner}
use Rattle.reading_exact.specs.Order.{Order, Sooner, FirstAt, First}
use Rattle.reading_exact.proofs.FirstLaws.{Both, number_of, first-none, first_some, first_raise}
use Rattle.hours_exact.specs.HourFaults.{with_hours}

-- neither 22 nor 23
abbrev pub Other : ℕ → Type 0
Other n = (n ≢ 22) × (n ≢ 23)

module _ (o : Order) where
  pub stage_other : (n : ℕ) → Other n → (with_hours o).stage n ≡ 2 * o.stage n
  stage_other n (a, b) = rw (ne_eqb n 22 a, ne_eqb n 23 b)

  pub stage_table : (n : ℕ) → n ≡ 22 → (with_hours o).stage n ≡ 1
  stage_table n e = rw (eq-eqb n 22 e)

  pub stage_row : (n : ℕ) → n ≡ 23 → (with_hours o).stage n ≡ 2 * o.stage 8 + 1
  stage_row n e = rw (ne_eqb n 22 (λ z. omega (arith, e, z)), eq-eqb n 23 e)

  -- the other numbers come as they came
  sooner_hours : (n p m q : ℕ) → Other n → Other m → Sooner o n p m q → Sooner (with_hours o) n p m q
  sooner_hours n p m q a b (inl l) = inl (omega (arith, l, stage_other n a, stage_other m b))
  sooner_hours n p m q a b (inr (e, l)) = inr (omega (arith, e, stage_other n a, stage_other m b), l)

  pub first_hours : (R : ℕ → ℕ → Type 0) (v : Verdict) → ((n p : ℕ) → R n p → Other n) → First o R v → First (with_hours o) R v
  first_hours R v others = first_raise o (with_hours o) R v (λ n p m q r s. sooner_hours n p m q (others n p r) (others m q s))

-- the sooner of two answers, of one stage, where at one place the first's come first
module _ (o : Order) (R Q : ℕ → ℕ → Type 0) (k : ℕ) (R-stage : (n p : ℕ) → R n p → o.stage n ≡ k) (Q-stage : (n p : ℕ) → Q n p → o.stage n ≡ k)
    (turns : (n p m : ℕ) → R n p → Q m p → o.turn n ≤ o.turn m) (R-some : (n p : ℕ) → R n p → 1 ≤ n) (Q-some : (n p : ℕ) → Q n p → 1 ≤ n) where
  -- of one stage no earlier refusal has a later place
  not_after : (n p m q : ℕ) → o.stage n ≡ o.stage m → Sooner o n p m q → p ≤ q
  not_after n p m q e (inl l) = absurd (omega (arith, e, l))
  not_after n p m q e (inr (_, inl l)) = omega arith
  not_after n p m q e (inr (_, inr (z, _))) = omega arith

  pub sooner_first : (v w : Verdict) → First o R v → First o Q w → First o (Both R Q) (sooner v w)
  sooner_first v w (inl (e, none)) b = subst (First o (Both R Q)) (sym is) (first-none o R Q w none b)
    where
      is : sooner v w ≡ w
      is = rw (eq-eqb v.number 0 (number_of e))
  sooner_first v w (inr (n, p, e, (r, low))) (inl (i, none)) =
      subst (First o (Both R Q)) (sym (is ∙ e)) (first_some o R Q n p (r, low) (λ m q s. absurd (none m q s)))
    where
      is : sooner v w ≡ v
      is = rw (ne_eqb v.number 0 (λ z. omega (arith, R-some n p r, number_of e, z)), eq-eqb w.number 0 (number_of i))
  sooner_first v w (inr (n, p, e, (r, low))) (inr (m, q, i, (s, least))) = go (ltb q p) refl
    where
      is : sooner v w ≡ cond (ltb q p) (refused m q) (refused n p)
      is = rw (e, i, ne_eqb n 0 (λ z. omega (arith, R-some n p r, z)), ne_eqb m 0 (λ z. omega (arith, Q-some m q s, z)))

      before : q < p → (j x : ℕ) → Both R Q j x → Sooner o m q j x
      before l j x (inl h) = inr (Q-stage m q s ∙ sym (R-stage j x h), inl (omega (arith, l, not_after n p j x (R-stage n p r ∙ sym (R-stage j x h)) (low j x h))))
      before l j x (inr h) = least j x h

      after : p ≤ q → (j x : ℕ) → Q j x → Sooner o n p j x
      after l j x h = inr (R-stage n p r ∙ sym (Q-stage j x h), at (eqb p x) refl)
        where
          at : (b : Bool) → eqb p x ≡ b → (p < x) ⊎ ((p ≡ x) × (o.turn n ≤ o.turn j))
          at true z = let same = eqb-true p x z in inr (same, turns n p j r (subst (Q j) (sym same) h))
          at false z = inl (omega (arith, l, eqb-false p x z, not_after m q j x (Q-stage m q s ∙ sym (Q-stage j x h)) (least j x h)))

      go : (b : Bool) → ltb q p ≡ b → First o (Both R Q) (sooner v w)
      go true z = subst (First o (Both R Q)) (sym (is ∙ ap (λ b. cond b (refused m q) (refused n p)) z)) (inr (m, q, refl, (inr s, before (ltb-true q p z))))
      go false z =
          subst (First o (Both R Q)) (sym (is ∙ ap (λ b. cond b (refused m q) (refused n p)) z)) (first_some o R Q n p (r, low) (after (ltb-false q p z)))

-- both are fine where the sooner is
pub sooner_fine : (v w : Verdict) → (v.number ≡ 0 → v ≡ fine) → (w.number ≡ 0 → w ≡ fine) → (sooner v w ≡ fine) ↔ ((v ≡ fine) × (w ≡ fine))
sooner_fine v w sure-v sure-w = (to (eqb v.number 0) refl (eqb w.number 0) refl, λ (a, b). rw (a, b))
  where
    to : (a : Bool) → eqb v.number 0 ≡ a → (b : Bool) → eqb w.number 0 ≡ b → cond a w (cond b v (cond (ltb w.place v.place) w v)) ≡ fine → (v ≡ fine) × (w ≡ fine)
    to true e b i h = (sure-v (eqb-true v.number 0 e), h)
    to false e true i h = absurd (eqb-false v.number 0 e (number_of h))
    to false e false i h = absurd (neither (ltb w.place v.place) h)
      where
        neither : (c : Bool) → cond c w v ≡ fine → ⊥
        neither true h = eqb-false w.number 0 i (number_of h)
        neither false h = eqb-false v.number 0 e (number_of h)
