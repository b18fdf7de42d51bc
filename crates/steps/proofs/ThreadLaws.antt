-- The variable that a binder takes, found from the left; what a thread's operand stands for.
use Prim.Native.Nat.{ℕ, suc, ◌+◌, ◌-◌, ◌≤◌, ◌<◌}
use mathlib.Core.Path.{◌≡◌, refl, sym, ap, ap₂, subst, ◌∙◌}
use mathlib.Core.Bool.{Bool, true, false, cond, not, ◌&&◌}
use mathlib.Core.List.{List, map}
use native.Mathlib.Omega.{arith}
use lib.Dec.{eqb}
use lib.ListN.{length, length-map, get_or, set, drop, get_or-eq_default, drop_of_length-le}
use lib.Seq.{drop-cons, set_out, set-get_or}
use borrow.Author.Tests.{eqb-true, eqb-false, eq-eqb, ne_eqb, lt-ltb, le-ltb}
use Rattle.steps.specs.declared.Thread.{Thread}
use Rattle.steps.specs.Threads.{value, first_free}

-- where none of the first k is free, the first free one is sought from k on
abbrev pub Sought : List ℕ → ℕ → Type 0
Sought l k = first_free l ≡ k + first_free (drop k l)

free_from : (l : List ℕ) (k : ℕ) → k < length l → first_free (drop k l) ≡ cond (eqb (get_or l k 0) 0) 0 (suc (first_free (drop (suc k) l)))
unfolding first_free
free_from l k h = rw (drop-cons l k 0 h)

pub free_here : (l : List ℕ) (k : ℕ) → k < length l → Sought l k → get_or l k 0 ≡ 0 → k ≡ first_free l
free_here l k h s e =
    let f : first_free (drop k l) ≡ 0 = free_from l k h ∙ rw (eq-eqb (get_or l k 0) 0 e) in
    omega (arith, s, f)

pub free_later : (l : List ℕ) (k : ℕ) → k < length l → Sought l k → (get_or l k 0 ≡ 0 → ⊥) → Sought l (k + 1)
free_later l k h s e =
    let f : first_free (drop k l) ≡ suc (first_free (drop (suc k) l)) = free_from l k h ∙ rw (ne_eqb (get_or l k 0) 0 e) in
    let g : first_free l ≡ k + 1 + first_free (drop (suc k) l) = omega (arith, s, f) in
    let d : suc k ≡ k + 1 = omega arith in
    g ∙ ap (λ (j : ℕ). k + 1 + first_free (drop j l)) d

pub free_none : (l : List ℕ) (k : ℕ) → length l ≤ k → Sought l k → k ≡ first_free l
unfolding first_free
free_none l k h s = let f : first_free (drop k l) ≡ 0 = rw (drop_of_length-le l h) in omega (arith, s, f)

-- an operand for itself, a variable's value, and none
pub value_itself : (t : Thread) (x : ℕ) → x < 512 → x ≡ value t x
unfolding value
value_itself t x h = rw (lt-ltb x 512 h)

pub value_variable : (t : Thread) (x i : ℕ) → x ≡ 512 + i → get_or t.vars i 0 ≡ value t x
unfolding value
value_variable t x i e = let d : i ≡ x - 512 = omega arith in rw (le-ltb x 512 (omega arith), ← d)

pub value_none : (t : Thread) (x : ℕ) → 520 ≤ x → length t.vars ≡ 8 → 0 ≡ value t x
value_none t x h l =
    let d : x ≡ 512 + (x - 512) = omega arith in
    sym (get_or-eq_default t.vars 0 {n = x - 512} (omega arith)) ∙ value_variable t x (x - 512) d

-- a binder that passes over the variables: k of them are done, and none was free where it is still open
abbrev pub Passed : List ℕ → ℕ → ℕ → Bool → List ℕ → Type 0
Passed l v k true m = (m ≡ l) × Sought l k
Passed l v k false m = m ≡ set l (first_free l) v

-- the next variable, with what is stored in it
pub pass_more : (l : List ℕ) (v k : ℕ) (o free : Bool) (m : List ℕ) (x : ℕ) → k < length l → free ≡ o && eqb (get_or m k 0) 0 → x ≡ cond free v (get_or m k 0)
    → Passed l v k o m → Passed l v (k + 1) (o && not free) (set m k x)
pass_more l v k false free m x h e q p =
    let stays : x ≡ get_or m k 0 = q ∙ ap (λ (b : Bool). cond b v (get_or m k 0)) e in
    ap (set m k) stays ∙ set-get_or m k 0 ∙ p
pass_more l v k true free m x h e q (same, sought) = go (eqb (get_or m k 0) 0) refl
  where
    go : (b : Bool) → eqb (get_or m k 0) 0 ≡ b → Passed l v (k + 1) (true && not free) (set m k x)
    go true z =
        let here : k ≡ first_free l = free_here l k h sought (ap (λ (y : List ℕ). get_or y k 0) (sym same) ∙ eqb-true (get_or m k 0) 0 z) in
        let taken : free ≡ true = e ∙ z in
        let given : x ≡ v = q ∙ ap (λ (b : Bool). cond b v (get_or m k 0)) taken in
        subst (λ (b : Bool). Passed l v (k + 1) (true && not b) (set m k x)) (sym taken)
        (ap (set m k) given ∙ ap₂ (λ (y : List ℕ) (j : ℕ). set y j v) same here)
    go false z =
        let some : get_or l k 0 ≡ 0 → ⊥ = λ w. eqb-false (get_or m k 0) 0 z (ap (λ (y : List ℕ). get_or y k 0) same ∙ w) in
        let left : free ≡ false = e ∙ z in
        let stays : x ≡ get_or m k 0 = q ∙ ap (λ (b : Bool). cond b v (get_or m k 0)) left in
        subst (λ (b : Bool). Passed l v (k + 1) (true && not b) (set m k x)) (sym left)
        (ap (set m k) stays ∙ set-get_or m k 0 ∙ same, free_later l k h sought some)

-- past the last one
pub passed_all : (l : List ℕ) (v k : ℕ) (o : Bool) (m : List ℕ) → length l ≤ k → Passed l v k o m → m ≡ set l (first_free l) v
passed_all l v k false m h p = p
passed_all l v k true m h (same, sought) = same ∙ sym (set_out l k v h) ∙ ap (λ (j : ℕ). set l j v) (free_none l k h sought)

-- what owning an array tells is of the list of its elements' parts
pub unmapped : {A B : Type 0} (f : A → B) (l : List A) (n : ℕ) → length (map f l) ≡ n → length l ≡ n
unmapped f l n e = sym (length-map l f) ∙ e
