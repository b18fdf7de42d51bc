-- The choice as a function agrees with the steps as a relation, and with what the refusals object to.
use Prim.Native.Nat.{ℕ, ◌≤◌}
use mathlib.Core.Path.{◌≡◌, refl, sym, ap, ◌∙◌, subst}
use mathlib.Core.Logic.{◌↔◌, ◌⊎◌, inl, inr}
use mathlib.Core.Bool.{Bool, true, false, cond}
use native.Mathlib.Nat.{le_antisymm}
use native.Mathlib.Omega.{arith}
use lib.Dec.{eqb}
use borrow.Author.Tests.{eqb-true}
use Rattle.steps.specs.Choice.{Clinic, State, Chosen, halts, goes, choice}
use Rattle.reading_exact.specs.Order.{Sooner}
use Rattle.running_exact.specs.Steps.{Steps}
use Rattle.running_exact.specs.Conditions.{
  Condition,
  no_thread_lem,
  partner,
  no_receiver,
  receive_first,
  not_assigned,
  not_active,
  sender_unable,
  receiver_unable,
  unequal,
  channels_differ,
  threads_full,
  channels_full,
  choice_order,
  FirstRefusal,
}
use Rattle.running_exact.proofs.ChoiceSteps.{StepOrRefusal, choice_step_or_refusal}
use Rattle.running_exact.proofs.StepsChosen.{steps_choice, condition_halts}

-- the refusals that a choice may get
abbrev pub Number : ℕ → Type 0
Number n = (n ≡ 18) ⊎ ((n ≡ 11) ⊎ ((n ≡ 12) ⊎ ((n ≡ 13) ⊎ ((n ≡ 19) ⊎ (n ≡ 20)))))

pub positive : (n : ℕ) → Number n → 1 ≤ n
positive n (inl e) = omega (arith, e)
positive n (inr (inl e)) = omega (arith, e)
positive n (inr (inr (inl e))) = omega (arith, e)
positive n (inr (inr (inr (inl e)))) = omega (arith, e)
positive n (inr (inr (inr (inr (inl e))))) = omega (arith, e)
positive n (inr (inr (inr (inr (inr e))))) = omega (arith, e)

-- the order is that of turns, in which no two refusals are one
by_turn : (n m : ℕ) → Sooner choice_order n 0 m 0 → choice_order.turn n ≤ choice_order.turn m
by_turn n m (inl l) = absurd (omega arith)
by_turn n m (inr (_, inl l)) = absurd (omega arith)
by_turn n m (inr (_, inr (_, l))) = l

same_turn : (n k : ℕ) → 1 ≤ n → 1 ≤ k → choice_order.turn n ≡ choice_order.turn k → n ≡ k
same_turn n k l m e = go (eqb n 18) (eqb k 18) refl refl e
  where
    go : (a b : Bool) → eqb n 18 ≡ a → eqb k 18 ≡ b → ◌≡◌ {A = ℕ} (cond a 0 n) (cond b 0 k) → n ≡ k
    go true true p q e = eqb-true n 18 p ∙ sym (eqb-true k 18 q)
    go true false p q e = let never : ⊥ = omega (arith, e, m) in absurd never
    go false true p q e = let never : ⊥ = omega (arith, e, l) in absurd never
    go false false p q e = e

abbrev Halting : Chosen → Type 0
Halting (halts n) = Unit {0}
Halting (goes s) = ⊥

module _ (C : Clinic) (s : State) where
  same_halt : (i p n k : ℕ) → choice C s i p ≡ halts n → choice C s i p ≡ halts k → n ≡ k
  same_halt i p n k a b = cc (a, b)

  pub never_both : (i p n : ℕ) (s' : State) → choice C s i p ≡ halts n → choice C s i p ≡ goes s' → ⊥
  never_both i p n s' a b = subst Halting (sym a ∙ b) tt

  pub choice_steps : (i p : ℕ) (s' : State) → choice C s i p ≡ goes s' → Steps C s i p s'
  choice_steps i p s' e = subst (StepOrRefusal C s i p) e (choice_step_or_refusal C s i p)

  pub halts_condition : (i p n : ℕ) → choice C s i p ≡ halts n → Condition C s i p n
  halts_condition i p n e = subst (StepOrRefusal C s i p) e (choice_step_or_refusal C s i p)

  -- A choice is done with a result exactly where it is a step to that result.
  pub agree : (i p : ℕ) (s' : State) → (choice C s i p ≡ goes s') ↔ Steps C s i p s'
  agree i p s' = (choice_steps i p s', steps_choice C s i p s')

  -- A step has one result.
  pub one_result : (i p : ℕ) (s' s'' : State) → Steps C s i p s' → Steps C s i p s'' → s' ≡ s''
  one_result i p s' s'' a b = cc (steps_choice C s i p s' a, steps_choice C s i p s'' b)

  condition_number : (i p n : ℕ) → Condition C s i p n → Number n
  condition_number i p k (no_thread_lem h) = inl refl
  condition_number i p k (partner n st l z) = inl refl
  condition_number i p k (no_receiver n st six h) = inl refl
  condition_number i p k (receive_first n st five) = inl refl
  condition_number i p k (not_assigned n st e h) = inr (inl refl)
  condition_number i p k (not_active n st e h) = inr (inr (inl refl))
  condition_number i p k (sender_unable n m st six at five h) = inr (inr (inr (inl refl)))
  condition_number i p k (receiver_unable n m st six at five h) = inr (inr (inr (inl refl)))
  condition_number i p k (unequal n st e h) = inr (inr (inr (inr (inl refl))))
  condition_number i p k (channels_differ n m st six at five h) = inr (inr (inr (inr (inl refl))))
  condition_number i p k (threads_full n st e l) = inr (inr (inr (inr (inr refl))))
  condition_number i p k (channels_full n st e l) = inr (inr (inr (inr (inr refl))))

  -- A refused choice has one of the six numbers.
  pub refused_number : (i p n : ℕ) → choice C s i p ≡ halts n → Number n
  refused_number i p n e = condition_number i p n (halts_condition i p n e)

  pub refused_positive : (i p n : ℕ) → choice C s i p ≡ halts n → 1 ≤ n
  refused_positive i p n e = positive n (refused_number i p n e)

  -- A choice is refused with a number exactly where that is the first, in the order 18, 11, 12, 13, 19, 20, whose condition holds.
  pub refused_first : (i p n : ℕ) → (choice C s i p ≡ halts n) ↔ FirstRefusal C s i p n
  refused_first i p n = (λ e. ((halts_condition i p n e, refl), first e), back)
    where
      first : choice C s i p ≡ halts n → (m q : ℕ) → Condition C s i p m × (q ≡ 0) → Sooner choice_order n 0 m q
      first e m q (c, z) =
          let (k, h, l) = condition_halts C s i p m c in
          inr (refl, inr (sym z, subst (λ (x : ℕ). choice_order.turn x ≤ choice_order.turn m) (same_halt i p k n h e) l))

      back : FirstRefusal C s i p n → choice C s i p ≡ halts n
      back ((c, _), least) =
          let (k, h, l) = condition_halts C s i p n c in
          let d : Condition C s i p k = halts_condition i p k h in
          let e : choice_order.turn k ≡ choice_order.turn n = le_antisymm l (by_turn n k (least k 0 (d, refl))) in
          h ∙ ap halts (same_turn k n (positive k (condition_number i p k d)) (positive n (condition_number i p n c)) e)

  -- A choice is done exactly where no condition holds.
  pub done_free : (i p : ℕ) → ((s' : State) × (choice C s i p ≡ goes s')) ↔ ((n : ℕ) → Condition C s i p n → ⊥)
  done_free i p = (to, go (choice C s i p) refl)
    where
      to : (s' : State) × (choice C s i p ≡ goes s') → (n : ℕ) → Condition C s i p n → ⊥
      to (s', e) n c = let (k, h, l) = condition_halts C s i p n c in never_both i p k s' h e

      go : (o : Chosen) → choice C s i p ≡ o → ((n : ℕ) → Condition C s i p n → ⊥) → (s' : State) × (choice C s i p ≡ goes s')
      go (halts n) e f = absurd (f n (halts_condition i p n e))
      go (goes s') e f = (s', e)
