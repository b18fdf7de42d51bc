-- How many of 1 to n meet a test.
use Prim.Native.Nat.{ℕ, zero, suc, ◌+◌, ◌≤◌, ◌<◌}
use mathlib.Core.Path.{◌≡◌, refl, sym, ap, ◌∙◌, subst}
use mathlib.Core.Logic.{◌⊎◌, inl, inr}
use mathlib.Core.Bool.{Bool, true, false, cond}
use native.Mathlib.Omega.{arith}
use lib.Dec.{eqb}
use borrow.Author.Tests.{eqb-true, eqb-false}
use Rattle.seats.specs.Seats.{count_to}
use Rattle.seats.proofs.LineLaws.{never}

-- one more item, with a test that implies another
more : (a b : Bool) (x y : ℕ) → (a ≡ true → b ≡ true) → x ≤ y → cond a 1 0 + x ≤ cond b 1 0 + y
more true true x y f l = omega (arith, l)
more true false x y f l = never (f refl) refl
more false true x y f l = omega (arith, l)
more false false x y f l = omega (arith, l)

-- where every one of 1 to n that meets the one test meets the other
pub count_below : (q q' : ℕ → Bool) (n : ℕ) → ((k : ℕ) → k ≤ n → q k ≡ true → q' k ≡ true) → count_to q n ≤ count_to q' n
unfolding count_to
count_below q q' zero f = omega arith
count_below q q' (suc n) f =
    more (q (suc n)) (q' (suc n)) (count_to q n) (count_to q' n) (f (suc n) (omega arith)) (count_below q q' n (λ k l. f k (omega (arith, l))))

-- all but one
pub count_one : (q q' : ℕ → Bool) (x n : ℕ) → ((k : ℕ) → q k ≡ true → (q' k ≡ true) ⊎ (k ≡ x)) → count_to q n ≤ suc (count_to q' n)
unfolding count_to
count_one q q' x zero f = omega arith
count_one q q' x (suc n) f = go (q (suc n)) (q' (suc n)) refl refl (count_one q q' x n f)
  where
    go : (a b : Bool) → q (suc n) ≡ a → q' (suc n) ≡ b → count_to q n ≤ suc (count_to q' n) → cond a 1 0 + count_to q n ≤ suc (cond b 1 0 + count_to q' n)
    go true true e d l = omega (arith, l)
    go false true e d l = omega (arith, l)
    go false false e d l = omega (arith, l)
    go true false e d l = last (f (suc n) e)
      where
        last : (q' (suc n) ≡ true) ⊎ (suc n ≡ x) → 1 + count_to q n ≤ suc (0 + count_to q' n)
        last (inl h) = never h d
        last (inr h) = omega (arith, count_below q q' n (λ k m a. rest k m (f k a)))
          where
            rest : (k : ℕ) → k ≤ n → (q' k ≡ true) ⊎ (k ≡ x) → q' k ≡ true
            rest k m (inl a) = a
            rest k m (inr a) = let no : ⊥ = omega (arith, m, a, h) in absurd no

-- one, and two
pub count_some : (q : ℕ → Bool) (a n : ℕ) → 1 ≤ a → a ≤ n → q a ≡ true → 1 ≤ count_to q n
unfolding count_to
count_some q a zero l m h = let no : ⊥ = omega (arith, l, m) in absurd no
count_some q a (suc n) l m h = go (eqb a (suc n)) refl (count_some q a n l)
  where
    go : (b : Bool) → eqb a (suc n) ≡ b → (a ≤ n → q a ≡ true → 1 ≤ count_to q n) → 1 ≤ cond (q (suc n)) 1 0 + count_to q n
    go true e f =
        let t : q (suc n) ≡ true = ap q (sym (eqb-true a (suc n) e)) ∙ h in
        subst (λ (b : Bool). 1 ≤ cond b 1 0 + count_to q n) (sym t) (omega arith)
    go false e f =
        let d : (a ≡ suc n) → ⊥ = eqb-false a (suc n) e in
        let low : a ≤ n = omega (arith, m, d) in
        let one : 1 ≤ count_to q n = f low h in
        omega (arith, one)

pub count_two : (q : ℕ → Bool) (a b n : ℕ) → 1 ≤ a → a < b → b ≤ n → q a ≡ true → q b ≡ true → 2 ≤ count_to q n
unfolding count_to
count_two q a b zero l m o h k = let no : ⊥ = omega (arith, m, o) in absurd no
count_two q a b (suc n) l m o h k = go (eqb b (suc n)) refl (λ (z : b ≤ n). count_two q a b n l m z h k)
  where
    go : (c : Bool) → eqb b (suc n) ≡ c → (b ≤ n → 2 ≤ count_to q n) → 2 ≤ cond (q (suc n)) 1 0 + count_to q n
    go true e f =
        let w : b ≡ suc n = eqb-true b (suc n) e in
        let t : q (suc n) ≡ true = ap q (sym w) ∙ k in
        let one : 1 ≤ count_to q n = count_some q a n l (omega (arith, m, w)) h in
        subst (λ (x : Bool). 2 ≤ cond x 1 0 + count_to q n) (sym t) (omega (arith, one))
    go false e f =
        let d : (b ≡ suc n) → ⊥ = eqb-false b (suc n) e in
        let low : b ≤ n = omega (arith, o, d) in
        let two : 2 ≤ count_to q n = f low in
        omega (arith, two)

-- of more numbers at least as many
pub count_more : (q : ℕ → Bool) (k n : ℕ) → k ≤ n → count_to q k ≤ count_to q n
unfolding count_to
count_more q k zero l = let e : k ≡ 0 = omega (arith, l) in subst (λ (x : ℕ). count_to q x ≤ 0) (sym e) (omega arith)
count_more q k (suc n) l = go (eqb k (suc n)) refl (count_more q k n)
  where
    go : (b : Bool) → eqb k (suc n) ≡ b → (k ≤ n → count_to q k ≤ count_to q n) → count_to q k ≤ cond (q (suc n)) 1 0 + count_to q n
    go true e f = subst (λ (x : ℕ). count_to q x ≤ cond (q (suc n)) 1 0 + count_to q n) (sym (eqb-true k (suc n) e)) (omega arith)
    go false e f =
        let d : (k ≡ suc n) → ⊥ = eqb-false k (suc n) e in
        let low : k ≤ n = omega (arith, l, d) in
        omega (arith, f low)

-- one more at least, where the second test has one that the first has not
pub count_strict : (q q' : ℕ → Bool) (x n : ℕ) → ((k : ℕ) → q k ≡ true → q' k ≡ true) → 1 ≤ x → x ≤ n → q x ≡ false → q' x ≡ true
    → suc (count_to q n) ≤ count_to q' n
unfolding count_to
count_strict q q' x zero f l m a b = let no : ⊥ = omega (arith, l, m) in absurd no
count_strict q q' x (suc n) f l m a b = go (eqb x (suc n)) refl (λ (z : x ≤ n). count_strict q q' x n f l z a b)
  where
    go : (c : Bool) → eqb x (suc n) ≡ c → (x ≤ n → suc (count_to q n) ≤ count_to q' n)
        → suc (cond (q (suc n)) 1 0 + count_to q n) ≤ cond (q' (suc n)) 1 0 + count_to q' n
    go true e g =
        let w : x ≡ suc n = eqb-true x (suc n) e in
        let i : q (suc n) ≡ false = ap q (sym w) ∙ a in
        let j : q' (suc n) ≡ true = ap q' (sym w) ∙ b in
        let h : count_to q n ≤ count_to q' n = count_below q q' n (λ k z. f k) in
        subst (λ (c : Bool). suc (cond c 1 0 + count_to q n) ≤ cond (q' (suc n)) 1 0 + count_to q' n) (sym i)
        (subst (λ (c : Bool). suc (0 + count_to q n) ≤ cond c 1 0 + count_to q' n) (sym j) (omega (arith, h)))
    go false e g =
        let d : (x ≡ suc n) → ⊥ = eqb-false x (suc n) e in
        let low : x ≤ n = omega (arith, m, d) in
        let h : suc (count_to q n) ≤ count_to q' n = g low in
        let j = more (q (suc n)) (q' (suc n)) (suc (count_to q n)) (count_to q' n) (f (suc n)) h in
        omega (arith, j)

pub count_all : (q : ℕ → Bool) (n : ℕ) → count_to q n ≤ n
unfolding count_to
count_all q zero = omega arith
count_all q (suc n) = go (q (suc n)) (count_all q n)
  where
    go : (b : Bool) → count_to q n ≤ n → cond b 1 0 + count_to q n ≤ suc n
    go true l = omega (arith, l)
    go false l = omega (arith, l)
