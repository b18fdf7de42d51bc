-- A written sentence compared.
use Prim.Native.Nat.{ℕ, ◌+◌}
use mathlib.Core.Path.{◌≡◌, refl, sym, ap, ◌∙◌}
use mathlib.Core.Bool.{Bool, true, ◌&&◌}
use mathlib.Core.List.{List, [], ◌∷◌}
use lib.Dec.{eqb}
use Rattle.std.specs.Cmp.Lexicographic.{pointwise}
use lib.ListN.{length, drop, take}
use lib.Seq.{take-append_seam}
use Rattle.phrases.specs.Phrases.{same_bytes, put_into}
use Rattle.reasons.specs.declared.Reason.{Reason}
use Rattle.reasons.specs.Reasons.{is_reason, sentence, is_sentence}

-- what `==` tests of two lists
pointwise-same_bytes : (p s : List ℕ) → pointwise eqb p s ≡ same_bytes p s
unfolding same_bytes
pointwise-same_bytes [] [] = refl
pointwise-same_bytes [] (y ∷ s) = refl
pointwise-same_bytes (x ∷ p) [] = refl
pointwise-same_bytes (x ∷ p) (y ∷ s) = ap (λ (b : Bool). eqb x y && b) (pointwise-same_bytes p s)

pub compared : (r : Reason) (out m s : List ℕ) (k : ℕ) → is_reason r ≡ true → k ≡ length (sentence r) → m ≡ put_into out 0 (sentence r)
    → pointwise eqb (take k m) s ≡ is_sentence r s
unfolding put_into
compared r out m s k v e f =
    let t : take k m ≡ sentence r =
    ap (λ (n : ℕ). take n m) e ∙ ap (take (length (sentence r))) f ∙ take-append_seam (sentence r) (drop (0 + length (sentence r)) out) in
    ap (λ (p : List ℕ). pointwise eqb p s) t ∙ pointwise-same_bytes (sentence r) s ∙ sym (ap (λ (b : Bool). b && same_bytes (sentence r) s) v)
