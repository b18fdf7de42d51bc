-- A mask without the items of another, for any width.
use mathlib.Core.Path.{◌≡◌, refl, sym, ap, ◌∙◌}
use mathlib.Core.Logic.{◌↔◌}
use mathlib.Core.Bool.{Bool, true, false, not, ◌&&◌, and-eq-true_iff}
use Prim.Native.Nat.{ℕ, zero, suc, ◌<◌, max}
use native.Mathlib.Omega.{arith}
use lib.Dec.{eqb}
use lib.Bits.{bit_and, bit_or, differ}
use Rattle.masks.specs.Mask.{has, minus, Within, NamesOnly}
use Rattle.masks.proofs.Bits.{bit, bit_lt, bit_or_lem, bit_xor_lem}
use Rattle.masks.proofs.Laws.{has_none, has_and, extensional, empty}

test_minus : (p q : ℕ) → p < 2 → q < 2 → eqb (differ (max p q) q) 1 ≡ (eqb p 1 && not (eqb q 1))
test_minus zero zero h k = refl
test_minus zero (suc zero) h k = refl
test_minus zero (suc (suc q)) h k = absurd (omega arith)
test_minus (suc zero) zero h k = refl
test_minus (suc zero) (suc zero) h k = refl
test_minus (suc zero) (suc (suc q)) h k = absurd (omega arith)
test_minus (suc (suc p)) q h k = absurd (omega arith)

pub has_minus : (m s x : ℕ) → has (minus m s) x ≡ (has m x && not (has s x))
unfolding has minus
has_minus m s zero = refl
has_minus m s (suc k) =
    ap (λ (d : ℕ). eqb d 1) (bit_xor_lem (bit_or m s) s k ∙ ap (λ (d : ℕ). differ d (bit s k)) (bit_or_lem m s k))
    ∙ test_minus (bit m k) (bit s k) (bit_lt m k) (bit_lt s k)

-- in words
pub minus_iff : (m s x : ℕ) → (has (minus m s) x ≡ true) ↔ ((has m x ≡ true) × (has s x ≡ false))
minus_iff m s x = (
  λ h. let (i, o) = (and-eq-true_iff (has m x) (not (has s x))).0 (sym (has_minus m s x) ∙ h) in (i, back (has s x) o),
  λ (i, o). has_minus m s x ∙ (and-eq-true_iff (has m x) (not (has s x))).1 (i, ap not o),
)
  where
    back : (b : Bool) → not b ≡ true → b ≡ false
    back true h = sym h
    back false h = refl

pub minus_within : (m s : ℕ) → Within (minus m s) m
minus_within m s x h = ((minus_iff m s x).0 h).0

pub minus_names : (n m s : ℕ) → NamesOnly n m → NamesOnly n (minus m s)
minus_names n m s h x i = h x (minus_within m s x i)

-- nothing taken out, and from nothing
and-true : (b : Bool) → (b && true) ≡ b
and-true true = refl
and-true false = refl

pub minus_none : (m : ℕ) → minus m 0 ≡ m
minus_none m = extensional (minus m 0) m (λ x. has_minus m 0 x ∙ ap (λ b. has m x && not b) (has_none x) ∙ and-true (has m x))

pub none_minus : (s : ℕ) → minus 0 s ≡ 0
none_minus s = empty (minus 0 s) (λ x. has_minus 0 s x ∙ ap (λ b. b && not (has s x)) (has_none x))

-- of what two masks share
and_swap : (p q r : Bool) → ((p && not r) && q) ≡ ((p && q) && not r)
and_swap true true r = and-true (not r)
and_swap true false true = refl
and_swap true false false = refl
and_swap false q r = refl

pub and_minus : (a b s : ℕ) → bit_and (minus a s) b ≡ minus (bit_and a b) s
and_minus a b s = extensional (bit_and (minus a s) b) (minus (bit_and a b) s) (λ x.
    has_and (minus a s) b x ∙ ap (λ p. p && has b x) (has_minus a s x) ∙ and_swap (has a x) (has b x) (has s x)
    ∙ ap (λ p. p && not (has s x)) (sym (has_and a b x)) ∙ sym (has_minus (bit_and a b) s x))
