-- Laws of writing one list after another.
use Prim.Native.Nat.{ℕ, zero, suc, ◌+◌, ◌/◌, ◌%◌, ◌≤◌, ◌<◌}
use mathlib.Core.Path.{◌≡◌, refl, sym, ap, ◌∙◌, subst}
use mathlib.Core.Bool.{Bool, true, false, cond}
use mathlib.Core.List.{List, [], ◌∷◌, ◌++◌, append_assoc}
use native.Mathlib.Omega.{arith}
use lib.Dec.{eqb}
use lib.ListN.{length, length-append, take, drop, set, length-drop, take-append-drop}
use lib.Seq.{take_at, drop-drop, length-take-le, drop-append-add, set_split}
use borrow.Author.Tests.{eqb-true}
use Rattle.phrases.specs.Phrases.{put_into}
use Rattle.reasons.specs.Reasons.{digits_of, last_digit}
use Rattle.reasons.proofs.DigitLaws.{digits_length}

pub put_nil : (l : List ℕ) (at : ℕ) → put_into l at [] ≡ l
unfolding put_into
put_nil l at = ap (λ (n : ℕ). take at l ++ drop n l) (let e : at + 0 ≡ at = omega arith in e) ∙ take-append-drop at l

pub put_one : (l : List ℕ) (at c : ℕ) → at < length l → set l at c ≡ put_into l at (c ∷ [])
unfolding put_into
put_one l at c h = set_split l at c h ∙ ap (λ (n : ℕ). take at l ++ (c ∷ drop n l)) (let e : suc at ≡ at + 1 = omega arith in e)

pub put_length : (l a : List ℕ) (at : ℕ) → at + length a ≤ length l → length (put_into l at a) ≡ length l
unfolding put_into
put_length l a at h =
    let e = length-append (take at l) (a ++ drop (at + length a) l) in
    let f = length-append a (drop (at + length a) l) in
    let g = length-drop (at + length a) l in
    let k = length-take-le at l (omega (arith, h)) in
    omega (arith, e, f, g, k, h)

-- one list after another is both at once
pub put_put : (l a b : List ℕ) (at : ℕ) → at + length a ≤ length l → put_into (put_into l at a) (at + length a) b ≡ put_into l at (a ++ b)
unfolding put_into
put_put l a b at h =
    let p = take at l ++ a in
    let q = drop (at + length a) l in
    let k : length p ≡ at + length a = length-append (take at l) a ∙ ap (λ (n : ℕ). n + length a) (length-take-le at l (omega (arith, h))) in
    let s : take at l ++ (a ++ q) ≡ p ++ q = sym (append_assoc (take at l) a q) in
    let d : drop (at + length a + length b) (p ++ q) ≡ drop (at + length (a ++ b)) l =
    ap (λ (n : ℕ). drop (n + length b) (p ++ q)) (sym k) ∙ drop-append-add p q (length b) ∙ drop-drop (length b) (at + length a) l
    ∙ ap (λ (n : ℕ). drop n l) (let e : at + length a + length b ≡ at + length (a ++ b) = omega (arith, length-append a b) in e) in
    ap (λ (m : List ℕ). take (at + length a) m ++ (b ++ drop (at + length a + length b) m)) s
    ∙ ap (λ (m : List ℕ). m ++ (b ++ drop (at + length a + length b) (p ++ q))) (take_at p q (at + length a) k)
    ∙ ap (λ (m : List ℕ). p ++ (b ++ m)) d
    ∙ append_assoc (take at l) a (b ++ drop (at + length (a ++ b)) l)
    ∙ ap (λ (m : List ℕ). take at l ++ m) (sym (append_assoc a b (drop (at + length (a ++ b)) l)))

-- what a writer did: a list a put at `at`, and the place after it
abbrev pub Wrote : List ℕ → ℕ → List ℕ → List ℕ → ℕ → Type 0
Wrote l at a m j = (j ≡ at + length a) × (m ≡ put_into l at a)

pub wrote_more : (l a b m o : List ℕ) (at j k : ℕ) → at + length a ≤ length l → Wrote l at a m j → Wrote m j b o k → Wrote l at (a ++ b) o k
wrote_more l a b m o at j k h x y = (
  omega (arith, x.0, y.0, length-append a b),
  y.1 ∙ ap (λ (q : List ℕ). put_into q j b) x.1 ∙ ap (λ (n : ℕ). put_into (put_into l at a) n b) x.0 ∙ put_put l a b at h,
)

digits-zero : (k : ℕ) → digits_of k 0 ≡ []
unfolding digits_of
digits-zero zero = refl
digits-zero (suc k) = refl

pub digits_last : (k n : ℕ) → digits_of (suc k) n ≡ digits_of k (n / 10) ++ last_digit n
unfolding digits_of last_digit
digits_last k n = go (eqb n 0) refl
  where
    append-nil : (l : List ℕ) → l ++ [] ≡ l
    append-nil [] = refl
    append-nil (c ∷ l) = ap (λ m. c ∷ m) (append-nil l)

    go : (b : Bool) → eqb n 0 ≡ b → cond b [] (digits_of k (n / 10) ++ ((48 + n % 10) ∷ [])) ≡ digits_of k (n / 10) ++ cond b [] ((48 + n % 10) ∷ [])
    go true e = sym (append-nil (digits_of k (n / 10)) ∙ ap (digits_of k) (let z : n / 10 ≡ 0 = omega (arith, eqb-true n 0 e) in z) ∙ digits-zero k)
    go false e = refl

pub last_length : (n : ℕ) → length (last_digit n) ≤ 1
unfolding last_digit
last_length n = go (eqb n 0)
  where
    go : (b : Bool) → length (cond b [] ((48 + n % 10) ∷ [])) ≤ 1
    go true = omega arith
    go false = omega arith

wrote_digit : (l m o : List ℕ) (at j i k n : ℕ) → at + k ≤ length l → length (digits_of k (n / 10)) ≤ k → Wrote l at (digits_of k (n / 10)) m j → Wrote m j (last_digit n) o i
    → Wrote l at (digits_of (suc k) n) o i
wrote_digit l m o at j i k n h d x y =
    subst (λ (q : List ℕ). Wrote l at q o i) (sym (digits_last k n)) (wrote_more l (digits_of k (n / 10)) (last_digit n) m o at j i (omega (arith, h, d)) x y)

wrote_none : (l : List ℕ) (at x : ℕ) → Wrote l at (digits_of 0 x) l at
unfolding digits_of
wrote_none l at x = (omega arith, sym (put_nil l at))

-- five digits one after the other
pub five : (l m₁ m₂ m₃ m₄ m₅ : List ℕ) (at j₁ j₂ j₃ j₄ j₅ n : ℕ) → at + 5 ≤ length l
    → Wrote l at (last_digit (n / 10 / 10 / 10 / 10)) m₁ j₁ → Wrote m₁ j₁ (last_digit (n / 10 / 10 / 10)) m₂ j₂ → Wrote m₂ j₂ (last_digit (n / 10 / 10)) m₃ j₃
    → Wrote m₃ j₃ (last_digit (n / 10)) m₄ j₄ → Wrote m₄ j₄ (last_digit n) m₅ j₅ → Wrote l at (digits_of 5 n) m₅ j₅
five l m₁ m₂ m₃ m₄ m₅ at j₁ j₂ j₃ j₄ j₅ n h a b c d e =
    let n₁ = n / 10 in
    let n₂ = n₁ / 10 in
    let n₃ = n₂ / 10 in
    let n₄ = n₃ / 10 in
    let z : Wrote l at (digits_of 0 (n₄ / 10)) l at = wrote_none l at (n₄ / 10) in
    wrote_digit l m₄ m₅ at j₄ j₅ 4 n (omega (arith, h)) (digits_length 4 n₁)
    (wrote_digit l m₃ m₄ at j₃ j₄ 3 n₁ (omega (arith, h)) (digits_length 3 n₂)
    (wrote_digit l m₂ m₃ at j₂ j₃ 2 n₂ (omega (arith, h)) (digits_length 2 n₃)
    (wrote_digit l m₁ m₂ at j₁ j₂ 1 n₃ (omega (arith, h)) (digits_length 1 n₄)
    (wrote_digit l l m₁ at at j₁ 0 n₄ (omega (arith, h)) (digits_length 0 (n₄ / 10)) z a) b) c) d) e

-- a sentence's four parts one after the other
pub four_parts : (l m₁ m₂ m₃ m₄ a b d e : List ℕ) (j₁ j₂ j₃ j₄ : ℕ) → length a + (length b + (length d + length e)) ≤ length l
    → Wrote l 0 a m₁ j₁ → Wrote m₁ j₁ b m₂ j₂ → Wrote m₂ j₂ d m₃ j₃ → Wrote m₃ j₃ e m₄ j₄ → (j₄ ≡ length (a ++ (b ++ (d ++ e)))) × (m₄ ≡ put_into l 0 (a ++ (b ++ (d ++ e))))
four_parts l m₁ m₂ m₃ m₄ a b d e j₁ j₂ j₃ j₄ h x y z w =
    let ab = wrote_more l a b m₁ m₂ 0 j₁ j₂ (omega (arith, h)) x y in
    let abd = wrote_more l (a ++ b) d m₂ m₃ 0 j₂ j₃ (omega (arith, h, length-append a b)) ab z in
    let all = wrote_more l ((a ++ b) ++ d) e m₃ m₄ 0 j₃ j₄ (omega (arith, h, length-append a b, length-append (a ++ b) d)) abd w in
    let s : ((a ++ b) ++ d) ++ e ≡ a ++ (b ++ (d ++ e)) = append_assoc (a ++ b) d e ∙ append_assoc a b (d ++ e) in
    (omega (arith, all.0, ap length s), all.1 ∙ ap (put_into l 0) s)
