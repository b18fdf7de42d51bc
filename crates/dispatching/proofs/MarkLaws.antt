-- Marks kept as one number: none, one more, one place less.
use Prim.Native.Nat.{ℕ, zero, suc, ◌+◌, ◌*◌, ◌-◌, ◌/◌, ◌%◌, ◌^◌, ◌≤◌, ◌<◌}
use mathlib.Core.Path.{◌≡◌, refl, sym, ap, ap₂, ◌∙◌}
use mathlib.Core.Bool.{Bool, true, false}
use mathlib.Core.List.{List, ◌∷◌}
use native.Mathlib.Omega.{arith}
use native.Mathlib.Nat.{mod-lt, lt_of_le_of_lt, le_trans, mul-le-mul_right, div-le_self, div-mul-le_self, mod-eq_of_lt}
use lib.Bits.{bit_or, or_shifted}
use lib.Dec.{eqb}
use lib.ListN.{set, replicate}
use lib.Pow.{pow_pos, shr-shr, high, low, field, mod-mod-pow}
use Rattle.masks.specs.Mask.{has, with}
use Rattle.masks.proofs.Bits.{one_bit}
use Rattle.masks.proofs.Laws.{has_none, has_with_same, has_with_other}
use Rattle.rounds.specs.Round.{without_item}
use Rattle.dispatching.specs.Marks.{marks_from, close_up}

both : (x y : Bool) (xs ys : List Bool) → x ≡ y → xs ≡ ys → x ∷ xs ≡ y ∷ ys
both x y xs ys e f = ap₂ (λ (z : Bool) (zs : List Bool). z ∷ zs) e f

-- nobody has moved
pub marks_none : (p k : ℕ) → marks_from p k 0 ≡ replicate k false
unfolding marks_from
marks_none p zero = refl
marks_none p (suc k) = both (has 0 p) false (marks_from (suc p) k 0) (replicate k false) (has_none p) (marks_none (suc p) k)

-- masks that agree on the numbers in question
marks_same : (p k m n d : ℕ) → ((x : ℕ) → p ≤ x → has m (x + d) ≡ has n x) → marks_from (p + d) k m ≡ marks_from p k n
unfolding marks_from
marks_same p zero m n d h = refl
marks_same p (suc k) m n d h =
    let e : suc (p + d) ≡ suc p + d = omega arith in
    both (has m (p + d)) (has n p) (marks_from (suc (p + d)) k m) (marks_from (suc p) k n) (h p (omega arith))
    (ap (λ (x : ℕ). marks_from x k m) e ∙ marks_same (suc p) k m n d (λ x l. h x (omega (arith, l))))

marks_above : (p k m n : ℕ) → ((x : ℕ) → p ≤ x → has m x ≡ has n x) → marks_from p k m ≡ marks_from p k n
marks_above p k m n h =
    let z : p + 0 ≡ p = omega arith in
    ap (λ (x : ℕ). marks_from x k m) (sym z) ∙ marks_same p k m n 0 (λ x l. let y : x + 0 ≡ x = omega arith in ap (has m) y ∙ h x l)

-- the thread of number p + d has moved
pub marks_with : (p k m d : ℕ) → 1 ≤ p → marks_from p k (with m (p + d)) ≡ set (marks_from p k m) d true
unfolding marks_from
marks_with p zero m d l = refl
marks_with p (suc k) m zero l =
    let z : p + 0 ≡ p = omega arith in
    both (has (with m (p + 0)) p) true (marks_from (suc p) k (with m (p + 0))) (marks_from (suc p) k m)
    (ap (λ (x : ℕ). has (with m x) p) z ∙ has_with_same m p l)
    (marks_above (suc p) k (with m (p + 0)) m (λ x h. has_with_other m (p + 0) x (λ e. omega (arith, e, h))))
marks_with p (suc k) m (suc d) l =
    let e : p + suc d ≡ suc p + d = omega arith in
    both (has (with m (p + suc d)) p) (has m p) (marks_from (suc p) k (with m (p + suc d))) (set (marks_from (suc p) k m) d true)
    (has_with_other m (p + suc d) p (λ h. omega (arith, h)))
    (ap (λ (x : ℕ). marks_from (suc p) k (with m x)) e ∙ marks_with (suc p) k m d (omega arith))

mod_below : (m j : ℕ) → m % 2 ^ j < 2 ^ j
mod_below m j = mod-lt m (pow_pos j)

-- the low digits decide a digit below them
low_digit : (a b j k : ℕ) → k < j → a % 2 ^ j ≡ b % 2 ^ j → a / 2 ^ k % 2 ≡ b / 2 ^ k % 2
low_digit a b j k l e =
    let z : (j - (1 + k)) + (1 + k) ≡ j = omega (arith, l) in
    let down : (n : ℕ) → n % 2 ^ j % 2 ^ (1 + k) ≡ n % 2 ^ (1 + k) =
    (λ n. ap (λ (x : ℕ). n % 2 ^ x % 2 ^ (1 + k)) (sym z) ∙ mod-mod-pow n (j - (1 + k)) (1 + k)) in
    sym (field a 1 k) ∙ ap (λ (x : ℕ). x / 2 ^ k) (sym (down a) ∙ ap (λ (x : ℕ). x % 2 ^ (1 + k)) e ∙ down b) ∙ field b 1 k

close_below : (m j k : ℕ) → k < j → has (close_up m (suc j)) (suc k) ≡ has m (suc k)
unfolding has close_up
close_below m j k l =
    ap (λ (x : ℕ). eqb x 1) (low_digit (m / 2 ^ suc j * 2 ^ j + m % 2 ^ j) m j k l (low (m / 2 ^ suc j) j (mod_below m j)))

close_above : (m j d : ℕ) → has (close_up m (suc j)) (suc (j + d)) ≡ has m (suc (suc (j + d)))
unfolding has close_up
close_above m j d =
    let c : ℕ = m / 2 ^ suc j * 2 ^ j + m % 2 ^ j in
    let e : c / 2 ^ j ≡ m / 2 ^ suc j = high (m / 2 ^ suc j) j (mod_below m j) in
    let z : suc j + d ≡ suc (j + d) = omega arith in
    ap (λ (x : ℕ). eqb (x % 2) 1) (sym (shr-shr c j d) ∙ ap (λ (x : ℕ). x / 2 ^ d) e ∙ shr-shr m (suc j) d ∙ ap (λ (x : ℕ). m / 2 ^ x) z)

-- the thread of number p + d is gone
pub marks_gone : (p k m d : ℕ) → d ≤ k → marks_from (suc p) k (close_up m (suc p + d)) ≡ without_item (marks_from (suc p) (suc k) m) d
unfolding marks_from
marks_gone p k m zero l =
    let z : suc p + 0 ≡ suc p = omega arith in
    let y : suc p + 1 ≡ suc (suc p) = omega arith in
    ap (λ (x : ℕ). marks_from (suc p) k (close_up m x)) z ∙ sym (marks_same (suc p) k m (close_up m (suc p)) 1 up) ∙ ap (λ (x : ℕ). marks_from x k m) y
  where
    up : (x : ℕ) → suc p ≤ x → has m (x + 1) ≡ has (close_up m (suc p)) x
    up x h =
        let e : x ≡ suc (p + (x - suc p)) = omega (arith, h) in
        let f : x + 1 ≡ suc (suc (p + (x - suc p))) = omega (arith, h) in
        ap (has m) f ∙ sym (close_above m p (x - suc p)) ∙ ap (has (close_up m (suc p))) (sym e)
marks_gone p zero m (suc d) l = let never : ⊥ = omega (arith, l) in absurd never
marks_gone p (suc k) m (suc d) l =
    let e : suc p + suc d ≡ suc (suc p) + d = omega arith in
    let f : suc p + suc d ≡ suc (p + suc d) = omega arith in
    both (has (close_up m (suc p + suc d)) (suc p)) (has m (suc p)) (marks_from (suc (suc p)) k (close_up m (suc p + suc d))) (without_item (marks_from (suc (suc p)) (suc k) m) d)
    (ap (λ (x : ℕ). has (close_up m x) (suc p)) f ∙ close_below m (p + suc d) p (omega arith))
    (ap (λ (x : ℕ). marks_from (suc (suc p)) k (close_up m x)) e ∙ marks_gone (suc p) k m d (omega (arith, l)))

-- as code has it, in 64 bits
pub close_form : (m p : ℕ) → 1 ≤ p → p ≤ 64 → m < 2 ^ 64 → bit_or (m / 2 ^ (p - 1) / 2 * 2 ^ (p - 1) % 2 ^ 64) (m % (1 * 2 ^ (p - 1) % 2 ^ 64)) ≡ close_up m p
unfolding close_up
close_form m p l h fits =
    let j : ℕ = p - 1 in
    let z : p ≡ suc j = omega (arith, l) in
    let y : j + 1 ≡ suc j = omega arith in
    let one : 1 * 2 ^ j % 2 ^ 64 ≡ 2 ^ j = one_bit 64 j (omega (arith, l, h)) in
    let half : m / 2 ^ j / 2 ≡ m / 2 ^ suc j = shr-shr m j 1 ∙ ap (λ (x : ℕ). m / 2 ^ x) y in
    let less : m / 2 ^ j / 2 * 2 ^ j < 2 ^ 64 = lt_of_le_of_lt (le_trans (mul-le-mul_right (2 ^ j) (div-le_self (m / 2 ^ j) 2)) (div-mul-le_self m (2 ^ j))) fits in
    ap (λ (x : ℕ). bit_or x (m % (1 * 2 ^ j % 2 ^ 64))) (mod-eq_of_lt less) ∙ ap (λ (x : ℕ). bit_or (m / 2 ^ j / 2 * 2 ^ j) (m % x)) one
    ∙ or_shifted (m / 2 ^ j / 2) j (m % 2 ^ j) (mod_below m j) ∙ ap (λ (x : ℕ). x * 2 ^ j + m % 2 ^ j) half ∙ ap (close_up m) (sym z)
