-- What holds of every thread of a list holds after a thread is changed, added or removed.
use Prim.Native.Nat.{ℕ, zero, suc, ◌-◌, ◌≤◌}
use mathlib.Core.Path.{◌≡◌, subst}
use mathlib.Core.List.{List, [], ◌∷◌, ◌++◌}
use native.Mathlib.Omega.{arith}
use lib.ListN.{set, take, drop}
use Rattle.reading_exact.specs.Lists.{All}

module _ {A : Type 0} (P : A → Type 0) where
  -- one changed
  pub all_set : (xs : List A) (i : ℕ) (a : A) → P a → All P xs → All P (set xs i a)
  all_set [] i a p h = tt
  all_set (x ∷ xs) zero a p h = (p, h.1)
  all_set (x ∷ xs) (suc i) a p h = (h.0, all_set xs i a p h.1)

  -- a new last one
  pub all_snoc : (xs : List A) (a : A) → P a → All P xs → All P (xs ++ (a ∷ []))
  all_snoc [] a p h = (p, tt)
  all_snoc (x ∷ xs) a p h = (h.0, all_snoc xs a p h.1)

  all_gone : (xs : List A) (i : ℕ) → All P xs → All P (take i xs ++ drop (suc i) xs)
  all_gone [] zero h = tt
  all_gone [] (suc i) h = tt
  all_gone (x ∷ xs) zero h = h.1
  all_gone (x ∷ xs) (suc i) h = (h.0, all_gone xs i h.1)

  -- one removed, numbered from 1
  pub all_removed : (xs : List A) (i : ℕ) → 1 ≤ i → All P xs → All P (take (i - 1) xs ++ drop i xs)
  all_removed xs zero l h = absurd (omega arith)
  all_removed xs (suc i) l h = let e : i ≡ suc i - 1 = omega arith in subst (λ (k : ℕ). All P (take k xs ++ drop (suc i) xs)) e (all_gone xs i h)
