-- All that has to be 0 in a node with one child, as one sum.
use Prim.Native.Nat.{ℕ, ◌+◌, ◌/◌}
use mathlib.Core.Path.{◌≡◌, refl, ap₂, ◌∙◌}
use mathlib.Core.Bool.{Bool, true, false, cond, not, ◌&&◌, ◌||◌}
use native.Mathlib.Omega.{arith}
use lib.Dec.{eqb, leb}
use borrow.Author.Tests.{eqb-true, eqb-false, eq-eqb, ne_eqb, leb-true, leb-false}

sum_none : (a b : ℕ) → eqb (a + b) 0 ≡ (eqb a 0 && eqb b 0)
sum_none a b = go (eqb a 0) refl (eqb b 0) refl
  where
    go : (x : Bool) → eqb a 0 ≡ x → (y : Bool) → eqb b 0 ≡ y → eqb (a + b) 0 ≡ (x && y)
    go true e true f = eq-eqb (a + b) 0 (omega (arith, eqb-true a 0 e, eqb-true b 0 f))
    go true e false f = ne_eqb (a + b) 0 (λ z. eqb-false b 0 f (omega (arith, z)))
    go false e y f = ne_eqb (a + b) 0 (λ z. eqb-false a 0 e (omega (arith, z)))

left_none : (x : Bool) (f : ℕ) → eqb (cond x 0 f) 0 ≡ (x || eqb f 0)
left_none true f = refl
left_none false f = refl

room_none : (x : Bool) (b : ℕ) → eqb (cond (not x) 0 (b / 8)) 0 ≡ not (x && leb 8 b)
room_none false b = refl
room_none true b = go (leb 8 b) refl
  where
    go : (y : Bool) → leb 8 b ≡ y → eqb (b / 8) 0 ≡ not y
    go true e = ne_eqb (b / 8) 0 (λ z. let no : ⊥ = omega (arith, z, leb-true 8 b e) in absurd no)
    go false e = eq-eqb (b / 8) 0 (omega (arith, leb-false 8 b e))

-- two fields that are used or 0, and room for a variable
pub sum_exact : (t x y b : Bool) (f g c : ℕ)
    → (t && eqb (cond x 0 f + cond y 0 g + cond (not b) 0 (c / 8)) 0) ≡ ((t && ((x || eqb f 0) && (y || eqb g 0))) && not (b && leb 8 c))
sum_exact false x y b f g c = refl
sum_exact true x y b f g c =
    sum_none (cond x 0 f + cond y 0 g) (cond (not b) 0 (c / 8))
    ∙ ap₂ ◌&&◌ (sum_none (cond x 0 f) (cond y 0 g) ∙ ap₂ ◌&&◌ (left_none x f) (left_none y g)) (room_none b c)
