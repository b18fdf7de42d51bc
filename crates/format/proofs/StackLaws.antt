-- A stack in an array: what a store does to it.
use Prim.Native.Nat.{ℕ, zero, suc, ◌+◌, ◌-◌, ◌≤◌, ◌<◌}
use mathlib.Core.Path.{◌≡◌, refl, ap, ◌∙◌}
use mathlib.Core.Bool.{Bool, true, false, cond}
use mathlib.Core.List.{List, [], ◌∷◌, map}
use native.Mathlib.Omega.{arith}
use native.Mathlib.Numerals.{add-one}
use lib.ListN.{length, get_or, set, length-set}
use lib.Seq.{get_or-set_other, get_or-set_same}
use Rattle.format.specs.Stacks.{stacked}

module _ {A : Type 0} (z : A) where
  pub stacked_none : (a : List A) → stacked z a 0 ≡ []
  unfolding stacked
  stacked_none a = refl

  pub stacked_more : (a : List A) (d : ℕ) → stacked z a (d + 1) ≡ get_or a d z ∷ stacked z a d
  unfolding stacked
  stacked_more a d = rw (add-one d)

  pub stacked_top : (a : List A) (d : ℕ) → 0 < d → stacked z a d ≡ get_or a (d - 1) z ∷ stacked z a (d - 1)
  stacked_top a d pos = let back : d ≡ d - 1 + 1 = omega arith in ap (stacked z a) back ∙ stacked_more a (d - 1)

  pub stacked_set : (a : List A) (i : ℕ) (v : A) (d : ℕ) → d ≤ i → stacked z (set a i v) d ≡ stacked z a d
  unfolding stacked
  stacked_set a i v zero h = refl
  stacked_set a i v (suc d) h =
      let other : get_or (set a i v) d z ≡ get_or a d z = get_or-set_other a i d v z (λ e. let no : d ≡ i = e in omega arith) in
      rw (other, stacked_set a i v d (omega arith))

  pub stacked_push : (a : List A) (d : ℕ) (v : A) → d < length a → stacked z (set a d v) (d + 1) ≡ v ∷ stacked z a d
  stacked_push a d v h = stacked_more (set a d v) d ∙ rw (get_or-set_same a d v z h, stacked_set a d v d (omega arith))

  -- a value stored at the top and above it: the depth tells how often it counts
  pub stacked_spread : (a : List A) (d : ℕ) (v : A) (p q : Bool) → 0 < d → d < length a
      → stacked z (set (set a (d - 1) v) d v) (cond p (d - 1) (cond q (d + 1) d))
      ≡ cond p (stacked z a (d - 1)) (cond q (v ∷ v ∷ stacked z a (d - 1)) (v ∷ stacked z a (d - 1)))
  stacked_spread a d v true q pos h = stacked_set (set a (d - 1) v) d v (d - 1) (omega arith) ∙ stacked_set a (d - 1) v (d - 1) (omega arith)
  stacked_spread a d v false q pos h = go q
    where
      back : d - 1 + 1 ≡ d
      back = omega arith

      one : stacked z (set a (d - 1) v) d ≡ v ∷ stacked z a (d - 1)
      one = rw back at (stacked_push a (d - 1) v (omega arith))

      go : (q : Bool) → stacked z (set (set a (d - 1) v) d v) (cond q (d + 1) d) ≡ cond q (v ∷ v ∷ stacked z a (d - 1)) (v ∷ stacked z a (d - 1))
      go true = let long : d < length (set a (d - 1) v) = simp length-set h in stacked_push (set a (d - 1) v) d v long ∙ ap (v ∷◌) one
      go false = stacked_set (set a (d - 1) v) d v d (omega arith) ∙ one

  -- its elements as g reads them
  module _ {B : Type 0} (g : A → B) where
    pub read_none : (a : List A) → map g (stacked z a 0) ≡ []
    read_none a = ap (map g) (stacked_none a)

    pub read_top : (a : List A) (d : ℕ) → 0 < d → map g (stacked z a d) ≡ g (get_or a (d - 1) z) ∷ map g (stacked z a (d - 1))
    read_top a d pos = ap (map g) (stacked_top a d pos)

    pub read_push : (a : List A) (d : ℕ) (v : A) (b : B) → d < length a → g v ≡ b → map g (stacked z (set a d v) (d + 1)) ≡ b ∷ map g (stacked z a d)
    read_push a d v b h e = ap (map g) (stacked_push a d v h) ∙ ap (λ (x : B). x ∷ map g (stacked z a d)) e
