-- The words of the choices, and which inputs are a list.
use Prim.Native.Nat.{ℕ, suc, ◌+◌, ◌-◌, ◌/◌, ◌%◌, ◌≤◌, ◌<◌}
use mathlib.Core.Path.{◌≡◌, refl, sym, ap, subst, ◌∙◌}
use mathlib.Core.Bool.{Bool, true, false, ◌&&◌}
use mathlib.Core.List.{List, ◌++◌}
use native.Mathlib.Omega.{arith}
use native.Mathlib.Numerals.{add-one}
use lib.Dec.{eqb, leb, ltb}
use lib.ListN.{length, set, take, length-append}
use lib.Seq.{sets, length-take-le, take_all, take-take, take-append-le}
use borrow.Author.Tests.{eqb-true, leb-true, leb-false, ltb-true, ltb-false, eq-eqb, le-leb, lt-leb}
use Rattle.format.specs.Words.{word_at}
use Rattle.running.specs.Run.{listed}
use Rattle.streams.specs.Kept.{kept_by}
use Rattle.run.specs.WordList.{enough_bytes, list_words, words_of_bytes}

-- A loop that puts words, one a turn: those still to come, from where they go.
pub words_begin : (f l : List ℕ) (n : ℕ) → sets l 0 (words_of_bytes f 0 (n - 0)) ≡ sets l 0 (words_of_bytes f 0 n)
words_begin f l n = let c : n - 0 ≡ n = omega arith in rw c

pub words_turn : (f l whole : List ℕ) (n i v : ℕ) → i < n → v ≡ word_at f i → sets l i (words_of_bytes f i (n - i)) ≡ whole
    → sets (set l i v) (i + 1) (words_of_bytes f (i + 1) (n - (i + 1))) ≡ whole
unfolding words_of_bytes
words_turn f l whole n i v h e inv =
    let more : n - i ≡ suc (n - suc i) = omega (arith, h) in
    let one : i + 1 ≡ suc i = add-one i in
    rw (e, one) (subst (λ (k : ℕ). sets l i (words_of_bytes f i k) ≡ whole) more inv)

pub words_end : (f l whole : List ℕ) (n i : ℕ) → n ≤ i → sets l i (words_of_bytes f i (n - i)) ≡ whole → l ≡ whole
unfolding words_of_bytes
words_end f l whole n i h inv =
    let z : n - i ≡ 0 = omega (arith, h) in
    subst (λ (k : ℕ). sets l i (words_of_bytes f i k) ≡ whole) z inv

-- What is kept of an input is a list exactly where the input is one: whole choices, and at most 65,535.
pub list_stands : (n : ℕ) → listed (list_words (enough_bytes n)) ≡ (eqb (n % 4) 0 && leb n 262140)
list_stands n = go (ltb n 262144) refl (eqb (n % 4) 0) refl (leb n 262140) refl
  where
    short : (x : Bool) → eqb (n % 4) 0 ≡ x → (y : Bool) → leb n 262140 ≡ y → listed (list_words n) ≡ (eqb (n % 4) 0 && leb n 262140)
    short true p true q =
        let whole : n % 4 ≡ 0 = eqb-true (n % 4) 0 p in
        rw (p, q, eq-eqb (n / 2 % 2) 0 (omega (arith, whole)), le-leb (n / 2) 131070 (omega (arith, leb-true n 262140 q)))
    short true p false q =
        let whole : n % 4 ≡ 0 = eqb-true (n % 4) 0 p in
        rw (p, q, eq-eqb (n / 2 % 2) 0 (omega (arith, whole)), lt-leb (n / 2) 131070 (omega (arith, whole, leb-false n 262140 q)))
    short false p y q = rw p

    over : (x : Bool) → eqb (n % 4) 0 ≡ x → leb n 262140 ≡ false → false ≡ (eqb (n % 4) 0 && leb n 262140)
    over true p long = rw (p, long)
    over false p long = rw p

    go : (b : Bool) → ltb n 262144 ≡ b → (x : Bool) → eqb (n % 4) 0 ≡ x → (y : Bool) → leb n 262140 ≡ y
        → listed (list_words (enough_bytes n)) ≡ (eqb (n % 4) 0 && leb n 262140)
    go true e x p y q =
        let all : enough_bytes n ≡ n = omega (arith, ltb-true n 262144 e) in
        ap (λ (k : ℕ). listed (list_words k)) all ∙ short x p y q
    go false e x p y q =
        let most : enough_bytes n ≡ 262144 = omega (arith, ltb-false n 262144 e) in
        let long : leb n 262140 ≡ false = lt-leb n 262140 (omega (arith, ltb-false n 262144 e)) in
        ap (λ (k : ℕ). listed (list_words k)) most ∙ over x p long

-- What is kept of the pieces of an input, one after the other, is its start.
pub choices_kept : (input piece : List ℕ) → kept_by enough_bytes (take (enough_bytes (length input)) input) piece ≡ take (enough_bytes (length (input ++ piece))) (input ++ piece)
choices_kept input piece = go (leb (length input) 262144) refl
  where
    go : (b : Bool) → leb (length input) 262144 ≡ b → kept_by enough_bytes (take (enough_bytes (length input)) input) piece ≡ take (enough_bytes (length (input ++ piece))) (input ++ piece)
    go true e =
        let short = leb-true (length input) 262144 e in
        let all : take (enough_bytes (length input)) input ≡ input = take_all (enough_bytes (length input)) input (omega (arith, short)) in
        ap (λ (k : List ℕ). kept_by enough_bytes k piece) all
    go false e =
        let long : 262144 < length input = leb-false (length input) 262144 e in
        let cut : enough_bytes (length input) ≡ 262144 = omega (arith, long) in
        let kept : List ℕ = take 262144 input in
        let size : length kept ≡ 262144 = length-take-le 262144 input (omega (arith, long)) in
        let both : enough_bytes (length (kept ++ piece)) ≡ 262144 = omega (arith, length-append kept piece, size) in
        let whole : enough_bytes (length (input ++ piece)) ≡ 262144 = omega (arith, length-append input piece, long) in
        ap (λ (n : ℕ). kept_by enough_bytes (take n input) piece) cut
        ∙ ap (λ (n : ℕ). take n (kept ++ piece)) both
        ∙ take-append-le 262144 kept piece (omega (arith, size))
        ∙ take-take 262144 262144 input (omega arith)
        ∙ sym (take-append-le 262144 input piece (omega (arith, long)))
        ∙ ap (λ (n : ℕ). take n (input ++ piece)) (sym whole)
