-- Every meaning begins with its number, by one test computed over the table.
use Prim.Native.Nat.{ℕ, ◌+◌, ◌-◌, ◌≤◌}
use mathlib.Core.Path.{◌≡◌, refl, sym, ap, ◌∙◌, subst}
use mathlib.Core.Bool.{Bool, true, and-eq-true_iff, true≢false}
use mathlib.Core.List.{List, [], ◌∷◌, ◌++◌}
use native.Mathlib.Omega.{arith}
use lib.Dec.{eqb}
use borrow.Author.Tests.{eqb-true, le-leb}
use Rattle.phrases.specs.Table.{in_words, last_number, meaning_row}
use Rattle.phrases.specs.Phrases.{phrases, phrase, spelled, prefix}
use Rattle.phrases.proofs.PhraseLaws.{at_each, at_each_lem}
use Rattle.reasons.specs.Reasons.{digits_of, has_meaning, meaning}

prefix_of : (p s : List ℕ) → prefix p s ≡ true → (rest : List ℕ) × (s ≡ p ++ rest)
unfolding prefix
prefix_of [] s h = (s, refl)
prefix_of (x ∷ p) [] h = absurd (true≢false (sym h))
prefix_of (x ∷ p) (y ∷ s) h =
    let k = (and-eq-true_iff (eqb x y) (prefix p s)).0 h in
    let (rest, e) = prefix_of p s k.1 in
    (rest, ap (λ (z : ℕ). z ∷ s) (sym (eqb-true x y k.0)) ∙ ap (λ (q : List ℕ). x ∷ q) e)

abbrev pub numbered : ℕ → List ℕ
numbered n = spelled "Refused " ++ (digits_of 5 n ++ spelled ": ")

abbrev number_test : ℕ → Bool
number_test i = prefix (numbered (1 + i)) (phrase (meaning_row (1 + i)))

numbers : at_each number_test last_number ≡ true
unfolding at_each prefix phrase phrases spelled in_words digits_of
numbers = refl

pub number_said : (n : ℕ) → 1 ≤ n → n ≤ last_number → (rest : List ℕ) × (meaning n ≡ numbered n ++ rest)
unfolding meaning has_meaning
number_said n l u =
    let e : 1 + (n - 1) ≡ n = omega (arith, l) in
    let t : prefix (numbered n) (phrase (meaning_row n)) ≡ true =
    subst (λ (m : ℕ). prefix (numbered m) (phrase (meaning_row m)) ≡ true) e (at_each_lem number_test last_number numbers (n - 1) (omega (arith, l, u))) in
    rw (le-leb 1 n l, le-leb n last_number u) (prefix_of (numbered n) (phrase (meaning_row n)) t)
