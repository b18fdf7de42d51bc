-- Where digits end, turn by turn.
use Prim.Native.Nat.{ℕ, zero, suc, ◌+◌, ◌-◌, ◌*◌, ◌^◌, ◌≤◌, ◌<◌}
use mathlib.Core.Path.{◌≡◌, refl, sym, ap, ◌∙◌}
use mathlib.Core.Bool.{true, false, cond}
use mathlib.Core.List.{List, [], ◌∷◌}
use native.Mathlib.Omega.{arith}
use native.Mathlib.Nat.{not-suc-le-zero}
use lib.ListN.{length, take, drop, get_or, drop_of_length-le}
use lib.Seq.{drop-cons}
use Rattle.reasons.specs.Reasons.{digits_at, numeral, is_digit}
use Rattle.std.specs.List.{prefix_len}
use Rattle.std.specs.Char.{is_ascii_digit}
use Rattle.std.proofs.Math.Numerals.{add-one, one-add}
use Rattle.std.proofs.Math.Nat.{pow-le-pow_right, pow-succ'}

-- how many the digits among the first k bytes are, from the start on
pub digits_taken : (k : ℕ) (s : List ℕ) → prefix_len is_ascii_digit (take k s) ≡ digits_at k s
unfolding digits_at
digits_taken zero s = refl
digits_taken (suc k) [] = refl
digits_taken (suc k) (c ∷ s) = ap (λ (n : ℕ). cond (is_digit c) n 0) (one-add (prefix_len is_ascii_digit (take k s)) ∙ ap suc (digits_taken k s))

-- what the first k bytes say is what all say
pub numeral_taken : (k a : ℕ) (s : List ℕ) → numeral k a (take k s) ≡ numeral k a s
unfolding numeral
numeral_taken zero a s = refl
numeral_taken (suc k) a [] = refl
numeral_taken (suc k) a (c ∷ s) = ap (λ (n : ℕ). cond (is_digit c) n a) (numeral_taken k (10 * a + (c - 48)) s)

numeral_nil : (k a : ℕ) → numeral k a [] ≡ a
unfolding numeral
numeral_nil zero a = refl
numeral_nil (suc k) a = refl

pub numeral_end : (k a i : ℕ) (s : List ℕ) → length s ≤ i → a ≡ numeral k a (drop i s)
numeral_end k a i s h = sym (ap (numeral k a) (drop_of_length-le s {i = i} h) ∙ numeral_nil k a)

numeral_other : (k a c : ℕ) (s : List ℕ) → is_digit c ≡ false → numeral k a (c ∷ s) ≡ a
unfolding numeral
numeral_other zero a c s h = refl
numeral_other (suc k) a c s h = rw h refl

pub numeral_no : (k a i : ℕ) (s : List ℕ) → i < length s → is_digit (get_or s i 0) ≡ false → a ≡ numeral k a (drop i s)
numeral_no k a i s l h = sym (ap (numeral k a) (drop-cons s i 0 l) ∙ numeral_other k a (get_or s i 0) (drop (suc i) s) h)

pub numeral_turn : (k a i : ℕ) (s : List ℕ) → 0 < k → i < length s → is_digit (get_or s i 0) ≡ true
    → numeral (k - 1) (10 * a + (get_or s i 0 - 48)) (drop (i + 1) s) ≡ numeral k a (drop i s)
unfolding numeral
numeral_turn zero a i s p l h = absurd (not-suc-le-zero p)
numeral_turn (suc k) a i s p l h =
    ap (λ (n : ℕ). numeral n (10 * a + (get_or s i 0 - 48)) (drop (i + 1) s)) (let e : suc k - 1 ≡ k = omega arith in e)
    ∙ ap (λ (n : ℕ). numeral k (10 * a + (get_or s i 0 - 48)) (drop n s)) (let e : i + 1 ≡ suc i = omega arith in e)
    ∙ sym (ap (numeral (suc k) a) (drop-cons s i 0 l) ∙ rw h refl)

-- what so many digits can say at most
pub below_more : (a i d : ℕ) → a < 10 ^ i → d < 10 → 10 * a + d < 10 ^ (i + 1)
below_more a i d l m = let e : 10 ^ (i + 1) ≡ 10 * 10 ^ i = ap (λ (n : ℕ). 10 ^ n) (add-one i) ∙ pow-succ' 10 i in omega (arith, l, m, e)

pub below_five : (a i : ℕ) → i ≤ 5 → a < 10 ^ i → a ≤ 99999
below_five a i h l = omega (arith, l, pow-le-pow_right {n = 10} (omega arith) h)
