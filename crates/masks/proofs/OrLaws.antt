-- What two masks have together, for any width.
use mathlib.Core.Path.{◌≡◌, refl, sym, ap, ◌∙◌}
use mathlib.Core.Logic.{◌⊎◌, inl, inr}
use mathlib.Core.Bool.{Bool, true, false, ◌||◌, or-true}
use Prim.Native.Nat.{ℕ, zero, suc, ◌<◌, max}
use native.Mathlib.Omega.{arith}
use lib.Dec.{eqb}
use lib.Bits.{bit_or}
use Rattle.masks.specs.Mask.{has}
use Rattle.masks.proofs.Bits.{bit, bit_lt, bit_or_lem}

test_max : (p q : ℕ) → p < 2 → q < 2 → eqb (max p q) 1 ≡ (eqb p 1 || eqb q 1)
test_max zero zero h k = refl
test_max zero (suc zero) h k = refl
test_max zero (suc (suc q)) h k = absurd (omega arith)
test_max (suc zero) zero h k = refl
test_max (suc zero) (suc zero) h k = refl
test_max (suc zero) (suc (suc q)) h k = absurd (omega arith)
test_max (suc (suc p)) q h k = absurd (omega arith)

pub has_or : (a b x : ℕ) → has (bit_or a b) x ≡ (has a x || has b x)
unfolding has
has_or a b zero = refl
has_or a b (suc k) = ap (λ (d : ℕ). eqb d 1) (bit_or_lem a b k) ∙ test_max (bit a k) (bit b k) (bit_lt a k) (bit_lt b k)

-- an item of either is one of both together, and there are no others
pub or_left : (a b x : ℕ) → has a x ≡ true → has (bit_or a b) x ≡ true
or_left a b x h = has_or a b x ∙ ap (λ z. z || has b x) h

pub or_right : (a b x : ℕ) → has b x ≡ true → has (bit_or a b) x ≡ true
or_right a b x h = has_or a b x ∙ ap (λ z. has a x || z) h ∙ or-true (has a x)

pub or_split : (a b x : ℕ) → has (bit_or a b) x ≡ true → (has a x ≡ true) ⊎ (has b x ≡ true)
or_split a b x h = go (has a x) refl (sym (has_or a b x) ∙ h)
  where
    go : (p : Bool) → has a x ≡ p → (p || has b x) ≡ true → (has a x ≡ true) ⊎ (has b x ≡ true)
    go true e z = inl e
    go false e z = inr z
