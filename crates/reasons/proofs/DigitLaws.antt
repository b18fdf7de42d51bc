-- Digits, written and read.
use Prim.Native.Nat.{ℕ, zero, suc, ◌+◌, ◌-◌, ◌*◌, ◌/◌, ◌%◌, ◌^◌, ◌≤◌, ◌<◌}
use mathlib.Core.Path.{◌≡◌, refl, sym}
use mathlib.Core.Bool.{Bool, true, false, cond, not, ◌&&◌, and-eq-true_iff}
use mathlib.Core.List.{List, [], ◌∷◌, ◌++◌}
use native.Mathlib.Omega.{arith}
use native.Mathlib.Nat.{le_of_suc-le-suc, not-suc-le-zero}
use lib.Dec.{eqb}
use lib.ListN.{length, length-append}
use borrow.Author.Tests.{eqb-true, le-leb, not-true}
use Rattle.reasons.specs.IsReason.{decimal_value}
use Rattle.reasons.specs.Reasons.{digits_of, numeral, digits_at, past_digits, is_digit}

unfoldable pub all_digits : List ℕ → Bool
all_digits [] = true
all_digits (c ∷ s) = is_digit c && all_digits s

-- a list that doesn't begin with a digit
unfoldable pub no_digit_first : List ℕ → Bool
no_digit_first [] = true
no_digit_first (c ∷ s) = not (is_digit c)

value_snoc : (l : List ℕ) (a c : ℕ) → decimal_value a (l ++ (c ∷ [])) ≡ 10 * decimal_value a l + (c - 48)
unfolding decimal_value
value_snoc [] a c = refl
value_snoc (d ∷ l) a c = value_snoc l (10 * a + (d - 48)) c

digits_snoc : (l : List ℕ) (c : ℕ) → all_digits l ≡ true → is_digit c ≡ true → all_digits (l ++ (c ∷ [])) ≡ true
unfolding all_digits
digits_snoc [] c h k = rw k refl
digits_snoc (d ∷ l) c h k =
    let x = (and-eq-true_iff (is_digit d) (all_digits l)).0 h in
    (and-eq-true_iff (is_digit d) (all_digits (l ++ (c ∷ [])))).1 (x.0, digits_snoc l c x.1 k)

a_digit : (n : ℕ) → is_digit (48 + n % 10) ≡ true
a_digit n = rw (le-leb 48 (48 + n % 10) (omega arith), le-leb (48 + n % 10) 57 (omega arith)) refl

pub digits_are : (k n : ℕ) → all_digits (digits_of k n) ≡ true
unfolding digits_of all_digits
digits_are zero n = refl
digits_are (suc k) n = go (eqb n 0) (digits_are k (n / 10))
  where
    go : (b : Bool) → all_digits (digits_of k (n / 10)) ≡ true → all_digits (cond b [] (digits_of k (n / 10) ++ ((48 + n % 10) ∷ []))) ≡ true
    go true h = refl
    go false h = digits_snoc (digits_of k (n / 10)) (48 + n % 10) h (a_digit n)

pub digits_length : (k n : ℕ) → length (digits_of k n) ≤ k
unfolding digits_of
digits_length zero n = omega arith
digits_length (suc k) n = go (eqb n 0) (digits_length k (n / 10))
  where
    go : (b : Bool) → length (digits_of k (n / 10)) ≤ k → length (cond b [] (digits_of k (n / 10) ++ ((48 + n % 10) ∷ []))) ≤ suc k
    go true h = omega arith
    go false h = omega (arith, h, length-append (digits_of k (n / 10)) ((48 + n % 10) ∷ []))

pub digits_value : (k n : ℕ) → n < 10 ^ k → decimal_value 0 (digits_of k n) ≡ n
unfolding digits_of decimal_value
digits_value zero n l = omega (arith, l)
digits_value (suc k) n l = go (eqb n 0) refl (digits_value k (n / 10) (omega (arith, l)))
  where
    go : (b : Bool) → eqb n 0 ≡ b → decimal_value 0 (digits_of k (n / 10)) ≡ n / 10 → decimal_value 0 (cond b [] (digits_of k (n / 10) ++ ((48 + n % 10) ∷ []))) ≡ n
    go true e h = sym (eqb-true n 0 e)
    go false e h = omega (arith, h, value_snoc (digits_of k (n / 10)) 0 (48 + n % 10))

-- what follows digits is told from them where it begins with none
pub numeral_of : (k a : ℕ) (ds x : List ℕ) → length ds ≤ k → all_digits ds ≡ true → no_digit_first x ≡ true → numeral k a (ds ++ x) ≡ decimal_value a ds
unfolding numeral decimal_value all_digits no_digit_first
numeral_of zero a [] x l h p = refl
numeral_of zero a (c ∷ ds) x l h p = absurd (not-suc-le-zero l)
numeral_of (suc k) a [] [] l h p = refl
numeral_of (suc k) a [] (c ∷ x) l h p = rw (not-true (is_digit c) p) refl
numeral_of (suc k) a (c ∷ ds) x l h p =
    let y = (and-eq-true_iff (is_digit c) (all_digits ds)).0 h in
    rw y.0 (numeral_of k (10 * a + (c - 48)) ds x (le_of_suc-le-suc l) y.1 p)

pub past_of : (k : ℕ) (ds x : List ℕ) → length ds ≤ k → all_digits ds ≡ true → no_digit_first x ≡ true → past_digits k (ds ++ x) ≡ x
unfolding digits_at all_digits no_digit_first
past_of zero [] x l h p = refl
past_of zero (c ∷ ds) x l h p = absurd (not-suc-le-zero l)
past_of (suc k) [] [] l h p = refl
past_of (suc k) [] (c ∷ x) l h p = rw (not-true (is_digit c) p) refl
past_of (suc k) (c ∷ ds) x l h p =
    let y = (and-eq-true_iff (is_digit c) (all_digits ds)).0 h in
    rw y.0 (past_of k ds x (le_of_suc-le-suc l) y.1 p)
