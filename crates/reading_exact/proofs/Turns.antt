-- The numbers in their order: 21 after 6, every other by itself.
use Prim.Native.Nat.{ℕ, ◌*◌, ◌≤◌, ◌<◌}
use mathlib.Core.Path.{◌≡◌, refl}
use mathlib.Core.Logic.{inl, inr, ◌≢◌}
use mathlib.Core.Bool.{Bool, true, false, cond}
use native.Mathlib.Omega.{arith}
use lib.Dec.{eqb}
use borrow.Author.Tests.{eqb-true, eqb-false, ne_eqb}
use Rattle.reading_exact.specs.Order.{in_turn, OfFile}

pub turn_of : (n : ℕ) → n ≢ 21 → in_turn n ≡ 2 * n
turn_of n other = rw (ne_eqb n 21 other)

-- by its turn: a refusal of the file, or one of those after
pub of_file_turn : (n : ℕ) → OfFile n → (1 ≤ n) × (in_turn n ≤ 20)
of_file_turn n (inl (low, high)) = (low, omega (arith, high, turn_of n (λ e. omega (arith, e, high))))
of_file_turn n (inr e) = rw e (omega arith)

pub turn_of_file : (n : ℕ) → 1 ≤ n → in_turn n ≤ 20 → OfFile n
turn_of_file n low high = go (eqb n 21) refl
  where
    go : (b : Bool) → eqb n 21 ≡ b → OfFile n
    go true e = inr (eqb-true n 21 e)
    go false e = inl (low, omega (arith, high, turn_of n (eqb-false n 21 e)))

-- and none of the numbers between
pub not_of_file : (n k : ℕ) → OfFile n → 10 < k → k < 21 → n ≢ k
not_of_file n k (inl (low, high)) a b e = omega (arith, high, a, e)
not_of_file n k (inr is) a b e = omega (arith, is, b, e)

pub some_of_file : (n : ℕ) → OfFile n → 1 ≤ n
some_of_file n o = (of_file_turn n o).0

pub turn_some : (n : ℕ) → 1 ≤ n → 2 ≤ in_turn n
turn_some n l = go (eqb n 21)
  where
    go : (b : Bool) → 2 ≤ cond b 13 (2 * n)
    go true = omega arith
    go false = omega (arith, l)
