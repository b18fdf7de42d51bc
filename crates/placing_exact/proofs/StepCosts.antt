-- The on steps before a node, by its parent's state and its own.
use Prim.Native.Nat.{ℕ, zero, suc, ◌+◌, ◌≤◌}
use mathlib.Core.Path.{◌≡◌, refl, sym}
use mathlib.Core.Bool.{Bool, true, false, cond, ◌||◌, or-true}
use native.Mathlib.Omega.{arith}
use lib.Dec.{eqb, eqb-suc-zero}
use borrow.Author.Tests.{eq-eqb, ne_eqb}
use Rattle.optimum.specs.Optimum.{Bin, nil, node, States, weight}
use Rattle.states.specs.States.{Label, on_step}

-- at most one
pub on_most : (p : ℕ) (l : Label) (s : ℕ) → on_step p l s ≤ 1
on_most p l s = go (eqb s 0 || eqb s p)
  where
    go : (b : Bool) → cond b 0 1 ≤ 1
    go true = omega arith
    go false = omega arith

-- none where the state stays
pub on_same : (p : ℕ) (l : Label) → on_step p l p ≡ 0
on_same p l = rw (eq-eqb p p refl, or-true)

-- none before a node without a role
pub on_none : (p : ℕ) (l : Label) → on_step p l 0 ≡ 0
on_none p l = refl

-- one where the state turns to a role
pub on_other : (p : ℕ) (l : Label) (k : ℕ) → (p ≡ suc k → ⊥) → on_step p l (suc k) ≡ 1
on_other p l k h = rw (eqb-suc-zero, ne_eqb (suc k) p (λ (e : suc k ≡ p). h (sym e)))

-- another parent's state makes a difference of one at most
pub on_near : (p q : ℕ) (l : Label) (s : ℕ) → on_step p l s ≤ on_step q l s + 1
on_near p q l s = omega (arith, on_most p l s)

-- a parent without a role is the dearest
pub on_zero : (p : ℕ) (l : Label) (s : ℕ) → on_step p l s ≤ on_step 0 l s + 0
on_zero p l zero = omega (arith, on_none p l)
on_zero p l (suc k) = omega (arith, on_most p l (suc k), on_other 0 l k (λ e. omega arith))

-- the parent's state matters at the root alone
pub weight_parent : {N : Type 0} (w : ℕ → N → ℕ → ℕ) (p q d : ℕ) → ((n : N) (s : ℕ) → w p n s ≤ w q n s + d)
    → (t : Bin N) (a : States t) → weight w p t a ≤ weight w q t a + d
unfolding weight
weight_parent w p q d h nil a = omega arith
weight_parent w p q d h (node n l r) a = omega (arith, h n a.0)
