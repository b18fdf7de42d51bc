-- Where the first of two notices ends.
use Prim.Native.Nat.{ℕ, ◌+◌, ◌*◌, ◌≤◌, min}
use mathlib.Core.Path.{◌≡◌, refl, ap₂}
use mathlib.Core.Bool.{Bool, true, false, cond, and-eq-true_iff}
use mathlib.Core.List.{List, ◌++◌}
use native.Mathlib.Omega.{arith}
use lib.Dec.{eqb, ltb}
use lib.ListN.{length, length-append, get_or-append}
use borrow.Author.Tests.{eqb-true, ltb-true, ltb-false}
use Rattle.checking.specs.Check.{reading_names}
use Rattle.notices.specs.Notices.{length_word, file_of, is_sound}
use Rattle.inforce.specs.FirstNotice.{first_end}

-- by its length word, or with the input where that ends before
pub ends_first : (b : List ℕ) (end r : ℕ) → end ≡ 4 + length_word b → r ≡ min end (length b) → (r ≡ first_end b) × (r ≤ length b)
unfolding first_end
ends_first b end r e is = (go (ltb (4 + length_word b) (length b)) refl, omega arith)
  where
    go : (x : Bool) → ltb (4 + length_word b) (length b) ≡ x → r ≡ cond x (4 + length_word b) (length b)
    go true h = omega (arith, e, is, ltb-true (4 + length_word b) (length b) h)
    go false h = omega (arith, e, is, ltb-false (4 + length_word b) (length b) h)

-- a sound notice ends where what follows it begins
pub sound_ends : (n rest : List ℕ) → is_sound n ≡ true → first_end (n ++ rest) ≡ length n
unfolding first_end is_sound
sound_ends n rest h = go (ltb (4 + length_word (n ++ rest)) (length (n ++ rest))) refl
  where
    long : length n ≡ 4 + length_word n
    long = eqb-true (length n) (4 + length_word n) ((and-eq-true_iff (eqb (length n) (4 + length_word n)) (eqb (reading_names (file_of n)).number 0)).0 h).0

    same : length_word (n ++ rest) ≡ length_word n
    same =
        ap₂ (λ (x y : ℕ). x + 256 * y) (get_or-append n rest 0 2 (omega (arith, long))) (get_or-append n rest 0 3 (omega (arith, long)))

    go : (b : Bool) → ltb (4 + length_word (n ++ rest)) (length (n ++ rest)) ≡ b → cond b (4 + length_word (n ++ rest)) (length (n ++ rest)) ≡ length n
    go true e = omega (arith, long, same)
    go false e = omega (arith, long, same, ltb-false (4 + length_word (n ++ rest)) (length (n ++ rest)) e, length-append n rest)
