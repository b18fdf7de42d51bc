-- Answers that are the first refusal in an order: in other words or another order, of two answers, and of items in a row.
use Prim.Native.Nat.{ℕ, zero, suc, ◌+◌, ◌≤◌, ◌<◌}
use mathlib.Core.Path.{◌≡◌, refl, sym, ap, ◌∙◌, subst}
use mathlib.Core.Logic.{◌↔◌, ◌⊎◌, inl, inr}
use mathlib.Core.Bool.{Bool, true, false, cond, true≢false}
use native.Mathlib.Omega.{arith}
use lib.Dec.{eqb, leb}
use borrow.Author.Tests.{eqb-true, eqb-false, leb-true, leb-false}
use Rattle.format.specs.Answers.{fine, refused, or_else, first_of}
use Rattle.format.specs.declared.Verdict.{Verdict}
use Rattle.format.proofs.AnswerLaws.{quiet_first, loud_first, both_quiet}
use Rattle.reading_exact.specs.Order.{Order, in_turn, Sooner, FirstAt, First}

abbrev pub Both : (ℕ → ℕ → Type 0) → (ℕ → ℕ → Type 0) → ℕ → ℕ → Type 0
Both R Q n p = R n p ⊎ Q n p

abbrev None : (ℕ → ℕ → Type 0) → Type 0
None R = (n p : ℕ) → R n p → ⊥

-- refusals have a number
abbrev Numbered : (ℕ → ℕ → Type 0) → Type 0
Numbered R = (n p : ℕ) → R n p → 1 ≤ n

pub number_of : {v w : Verdict} → v ≡ w → v.number ≡ w.number
number_of = ap (λ (x : Verdict). x.number)

-- of two answers both have number 0
pub both_zero : (v w : Verdict) → ((or_else v w).number ≡ 0) ↔ ((v.number ≡ 0) × (w.number ≡ 0))
both_zero v w = both_quiet (λ x. x.number ≡ 0) v w (λ z. z)

-- both are fine, where a first one of number 0 is
pub both_fine : (v w : Verdict) → (v.number ≡ 0 → v ≡ fine) → (or_else v w ≡ fine) ↔ ((v ≡ fine) × (w ≡ fine))
both_fine v w sure =
    let (to, from) = both_quiet (λ x. x ≡ fine) v w number_of in
    (λ h. let (z, e) = to h in (sure z, e), λ (h, k). from (number_of h, k))

-- another order, in which what holds comes alike
pub first_raise : (o u : Order) (R : ℕ → ℕ → Type 0) (v : Verdict) → ((n p m q : ℕ) → R n p → R m q → Sooner o n p m q → Sooner u n p m q)
    → First o R v → First u R v
first_raise o u R v raise (inl h) = inl h
first_raise o u R v raise (inr (n, p, e, (r, low))) = inr (n, p, e, (r, λ m q s. raise n p m q r s (low m q s)))

module _ (o : Order) where
  -- one number's lowest place comes first
  pub lowest : (n p m q : ℕ) → n ≡ m → p ≤ q → Sooner o n p m q
  lowest n p m q e l = inr (ap o.stage e, go (eqb p q) refl)
    where
      go : (b : Bool) → eqb p q ≡ b → (p < q) ⊎ ((p ≡ q) × (o.turn n ≤ o.turn m))
      go true z = inr (eqb-true p q z, omega (arith, ap o.turn e))
      go false z = inl (omega (arith, eqb-false p q z))

  -- an answer of number 0 is fine, and nothing holds
  pub first_zero : (R : ℕ → ℕ → Type 0) (v : Verdict) → Numbered R → First o R v → v.number ≡ 0 → (v ≡ fine) × None R
  first_zero R v some (inl h) z = h
  first_zero R v some (inr (n, p, e, (r, low))) z = absurd (omega (arith, some n p r, sym (number_of e) ∙ z))

  pub first_clear : (R : ℕ → ℕ → Type 0) (v : Verdict) → First o R v → None R → v ≡ fine
  first_clear R v (inl (e, none)) clear = e
  first_clear R v (inr (n, p, e, (r, low))) clear = absurd (clear n p r)

  -- the same objections in other words
  pub first-map : (R Q : ℕ → ℕ → Type 0) (v : Verdict) → ((n p : ℕ) → R n p → Q n p) → ((n p : ℕ) → Q n p → R n p) → First o R v → First o Q v
  first-map R Q v f g (inl (e, none)) = inl (e, λ n p r. none n p (g n p r))
  first-map R Q v f g (inr (n, p, e, (r, low))) = inr (n, p, e, (f n p r, λ m q s. low m q (g m q s)))

  -- of two kinds of objections, where none of the first holds
  pub first-none : (R Q : ℕ → ℕ → Type 0) (v : Verdict) → None R → First o Q v → First o (Both R Q) v
  first-none R Q v none = first-map Q (Both R Q) v (λ n p. inr) back
    where
      back : (n p : ℕ) → Both R Q n p → Q n p
      back n p (inl r) = absurd (none n p r)
      back n p (inr s) = s

  -- and where one does, which comes before the second's
  pub first_some : (R Q : ℕ → ℕ → Type 0) (n p : ℕ) → FirstAt o R n p → ((m q : ℕ) → Q m q → Sooner o n p m q) → First o (Both R Q) (refused n p)
  first_some R Q n p (r, low) later = inr (n, p, refl, (inl r, least))
    where
      least : (m q : ℕ) → Both R Q m q → Sooner o n p m q
      least m q (inl s) = low m q s
      least m q (inr s) = later m q s

  -- the first of two answers, where the second's objections come after the first's; the second may count on there being none of the first's
  pub first_or : (R Q : ℕ → ℕ → Type 0) (v w : Verdict) → Numbered R → ((n p m q : ℕ) → R n p → Q m q → Sooner o n p m q)
      → First o R v → (None R → First o Q w) → First o (Both R Q) (or_else v w)
  first_or R Q v w some later (inl (e, none)) b = subst (First o (Both R Q)) (sym (quiet_first v w (number_of e))) (first-none R Q w none (b none))
  first_or R Q v w some later (inr (n, p, e, h)) b =
      subst (First o (Both R Q)) (sym (loud_first v w (λ z. omega (arith, some n p h.0, number_of e)) ∙ e))
      (first_some R Q n p h (λ m q. later n p m q h.0))

  -- the same where the first has the numbers whose turn is up to k, and the second those after, which are of later stages
  pub first_split : (R : ℕ → ℕ → Type 0) (k : ℕ) (v w : Verdict) → Numbered R → ((n m : ℕ) → in_turn n ≤ k → k < in_turn m → o.stage n < o.stage m)
      → First o (λ n p. R n p × (in_turn n ≤ k)) v → (((n p : ℕ) → R n p × (in_turn n ≤ k) → ⊥) → First o (λ n p. R n p × (k < in_turn n)) w) → First o R (or_else v w)
  first_split R k v w some apart a b =
      first-map _ R (or_else v w) to (λ n p r. from n p r (leb (in_turn n) k) refl)
      (first_or (λ n p. R n p × (in_turn n ≤ k)) (λ n p. R n p × (k < in_turn n)) v w (λ n p r. some n p r.0) (λ n p m q r s. inl (apart n m r.1 s.1)) a b)
    where
      to : (n p : ℕ) → (R n p × (in_turn n ≤ k)) ⊎ (R n p × (k < in_turn n)) → R n p
      to n p (inl r) = r.0
      to n p (inr r) = r.0

      from : (n p : ℕ) → R n p → (b : Bool) → leb (in_turn n) k ≡ b → (R n p × (in_turn n ≤ k)) ⊎ (R n p × (k < in_turn n))
      from n p r true e = inl (r, leb-true (in_turn n) k e)
      from n p r false e = inr (r, leb-false (in_turn n) k e)

-- Answers by place: the answer from place i on, where nothing holds before.

module _ (o : Order) (R : ℕ → ℕ → Type 0) where
  abbrev pub FirstFrom : ℕ → Verdict → Type 0
  FirstFrom i v = ((n q : ℕ) → R n q → i ≤ q) → First o R v

  -- nothing holds at i
  pub first_on : (i : ℕ) (v : Verdict) → ((n : ℕ) → R n i → ⊥) → FirstFrom (suc i) v → FirstFrom i v
  first_on i v none rest low = rest (λ n q r. later n q r (eqb q i) refl)
    where
      later : (n q : ℕ) → R n q → (b : Bool) → eqb q i ≡ b → suc i ≤ q
      later n q r true e = absurd (none n (subst (R n) (eqb-true q i e) r))
      later n q r false e = omega (arith, eqb-false q i e, low n q r)

  -- n holds at i, of the stage of all that holds, and first by turn there
  pub first_here : (n i : ℕ) → R n i → ((m q : ℕ) → R m q → o.stage n ≡ o.stage m) → ((m : ℕ) → R m i → o.turn n ≤ o.turn m) → FirstFrom i (refused n i)
  first_here n i r staged turns low = inr (n, i, refl, (r, λ m q s. inr (staged m q s, go m q s (eqb q i) refl)))
    where
      go : (m q : ℕ) → R m q → (b : Bool) → eqb q i ≡ b → (i < q) ⊎ ((i ≡ q) × (o.turn n ≤ o.turn m))
      go m q s true e = let z = eqb-true q i e in inr (sym z, turns m (subst (R m) z s))
      go m q s false e = inl (omega (arith, eqb-false q i e, low m q s))

-- one of the items i, i + 1, .. (k of them) does not fit
abbrev pub Unfit : (ℕ → Bool) → ℕ → (ℕ → ℕ) → ℕ → ℕ → ℕ → ℕ → Type 0
Unfit fits number place i k n p = (n ≡ number) × (x : ℕ) × (i ≤ x) × (x < i + k) × (fits x ≡ false) × (p ≡ place x)

pub first-of : (o : Order) (fits : ℕ → Bool) (number : ℕ) (place : ℕ → ℕ) → ((x y : ℕ) → x ≤ y → place x ≤ place y) → (i k : ℕ)
    → First o (Unfit fits number place i k) (first_of fits (λ x. refused number (place x)) i k)
unfolding first_of
first-of o fits number place mono i zero = inl (refl, λ n p (e, x, l, h, f, z). omega arith)
first-of o fits number place mono i (suc k) = go (fits i) refl (first-of o fits number place mono (suc i) k)
  where
    go : (b : Bool) → fits i ≡ b → First o (Unfit fits number place (suc i) k) (first_of fits (λ x. refused number (place x)) (suc i) k)
        → First o (Unfit fits number place i (suc k)) (cond b (first_of fits (λ x. refused number (place x)) (suc i) k) (refused number (place i)))
    go true t rec = first-map o _ _ _ (λ n p (e, x, l, h, f, z). (e, x, omega arith, omega arith, f, z)) back rec
      where
        back : (n p : ℕ) → Unfit fits number place i (suc k) n p → Unfit fits number place (suc i) k n p
        back n p (e, x, l, h, f, z) = (e, x, later (eqb x i) refl, omega arith, f, z)
          where
            later : (b : Bool) → eqb x i ≡ b → suc i ≤ x
            later true q = absurd (true≢false (sym (ap fits (eqb-true x i q) ∙ t) ∙ f))
            later false q = omega (arith, eqb-false x i q)
    go false t rec = inr (number, place i, refl, ((refl, i, omega arith, omega arith, t, refl), least))
      where
        least : (m q : ℕ) → Unfit fits number place i (suc k) m q → Sooner o number (place i) m q
        least m q (e, x, l, h, f, z) = lowest o number (place i) m q (sym e) (subst (λ y. place i ≤ y) (sym z) (mono i x l))
