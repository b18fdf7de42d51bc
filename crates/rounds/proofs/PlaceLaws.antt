-- Lists without one item, and with one more.
use Prim.Native.Nat.{ℕ, zero, suc, ◌+◌, ◌≤◌, ◌<◌}
use mathlib.Core.Path.{◌≡◌, refl, ap, ◌∙◌}
use mathlib.Core.List.{List, [], ◌∷◌, ◌++◌}
use native.Mathlib.Omega.{arith}
use native.Mathlib.Nat.{le_of_suc-le-suc, not-suc-le-zero}
use lib.ListN.{length, get_or}
use Rattle.rounds.specs.Round.{without_item}
use Rattle.rounds.specs.Rounds.{numbers}

module _ {A : Type 0} (d : A) where
  pub without_item_below : (xs : List A) (i j : ℕ) → j < i → get_or (without_item xs i) j d ≡ get_or xs j d
  without_item_below [] zero j l = absurd (not-suc-le-zero l)
  without_item_below [] (suc i) j l = refl
  without_item_below (x ∷ xs) zero j l = absurd (not-suc-le-zero l)
  without_item_below (x ∷ xs) (suc i) zero l = refl
  without_item_below (x ∷ xs) (suc i) (suc j) l = without_item_below xs i j (le_of_suc-le-suc l)

  pub without_item_above : (xs : List A) (i j : ℕ) → i ≤ j → get_or (without_item xs i) j d ≡ get_or xs (suc j) d
  without_item_above [] zero j l = refl
  without_item_above [] (suc i) j l = refl
  without_item_above (x ∷ xs) zero j l = refl
  without_item_above (x ∷ xs) (suc i) zero l = absurd (not-suc-le-zero l)
  without_item_above (x ∷ xs) (suc i) (suc j) l = without_item_above xs i j (le_of_suc-le-suc l)

  -- one more, of the value read past the end
  pub get_d_snoc : (xs : List A) (j : ℕ) → get_or (xs ++ (d ∷ [])) j d ≡ get_or xs j d
  get_d_snoc [] zero = refl
  get_d_snoc [] (suc j) = refl
  get_d_snoc (x ∷ xs) zero = refl
  get_d_snoc (x ∷ xs) (suc j) = get_d_snoc xs j

pub length_without_item : {A : Type 0} (xs : List A) (i : ℕ) → i < length xs → suc (length (without_item xs i)) ≡ length xs
length_without_item [] i l = absurd (not-suc-le-zero l)
length_without_item (x ∷ xs) zero l = refl
length_without_item (x ∷ xs) (suc i) l = ap suc (length_without_item xs i (le_of_suc-le-suc l))

pub numbers_at : (v k j : ℕ) → j < k → get_or (numbers v k) j 0 ≡ v + j
unfolding numbers
numbers_at v zero j l = absurd (not-suc-le-zero l)
numbers_at v (suc k) zero l = omega arith
numbers_at v (suc k) (suc j) l = let e : suc v + j ≡ v + suc j = omega arith in numbers_at (suc v) k j (le_of_suc-le-suc l) ∙ e

pub numbers_past : (v k j : ℕ) → k ≤ j → get_or (numbers v k) j 0 ≡ 0
unfolding numbers
numbers_past v zero j l = refl
numbers_past v (suc k) zero l = absurd (not-suc-le-zero l)
numbers_past v (suc k) (suc j) l = numbers_past (suc v) k j (le_of_suc-le-suc l)
