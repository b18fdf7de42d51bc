-- What tests on tags say.
use Prim.Native.Nat.{ℕ}
use mathlib.Core.Path.{◌≡◌, refl}
use mathlib.Core.Logic.{◌⊎◌, inl, inr, ◌≢◌, ◌↔◌}
use mathlib.Core.Bool.{Bool, true, false, cond, ◌||◌, or-true, true≢false}
use lib.Dec.{eqb, ltb}
use borrow.Author.Tests.{eqb-true, eq-eqb, ne_eqb}
use Rattle.trees.specs.Shape.{used}

-- a number is one of two
pub one_of : (t x y : ℕ) → ((eqb t x || eqb t y) ≡ true) ↔ ((t ≡ x) ⊎ (t ≡ y))
one_of t x y = (λ h. to (eqb t x) refl h, back)
  where
    to : (a : Bool) → eqb t x ≡ a → (a || eqb t y) ≡ true → (t ≡ x) ⊎ (t ≡ y)
    to true e h = inl (eqb-true t x e)
    to false e h = inr (eqb-true t y h)

    back : (t ≡ x) ⊎ (t ≡ y) → (eqb t x || eqb t y) ≡ true
    back (inl e) = rw (eq-eqb t x e)
    back (inr e) = rw (eq-eqb t y e) (or-true (eqb t x))

-- tags with no field in use, and with at most one
pub no_field : (t : ℕ) → (ltb 0 (used t) ≡ false) ↔ ((t ≡ 0) ⊎ (t ≡ 2))
no_field t = (λ h. to (eqb t 0 || eqb t 2) refl (eqb t 4 || eqb t 6) h, λ h. rw ((one_of t 0 2).1 h))
  where
    to : (a : Bool) → (eqb t 0 || eqb t 2) ≡ a → (b : Bool) → ltb 0 (cond a 0 (cond b 2 1)) ≡ false → (t ≡ 0) ⊎ (t ≡ 2)
    to true e b h = (one_of t 0 2).0 e
    to false e true h = absurd (true≢false h)
    to false e false h = absurd (true≢false h)

pub one_field : (t : ℕ) → (ltb 1 (used t) ≡ false) ↔ ((t ≢ 4) × (t ≢ 6))
one_field t = (λ h. (λ e. true≢false (rw e at h), λ e. true≢false (rw e at h)), back)
  where
    go : (a b : Bool) → b ≡ false → ltb 1 (cond a 0 (cond b 2 1)) ≡ false
    go true b e = refl
    go false true e = absurd (true≢false e)
    go false false e = refl

    back : (t ≢ 4) × (t ≢ 6) → ltb 1 (used t) ≡ false
    back h = go (eqb t 0 || eqb t 2) (eqb t 4 || eqb t 6) (rw (ne_eqb t 4 h.0, ne_eqb t 6 h.1))
