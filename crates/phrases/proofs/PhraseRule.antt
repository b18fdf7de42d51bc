-- The rule of the table, by one test that is computed over the whole of it, and what follows at each pair of phrases.
use Prim.Native.Nat.{ℕ, zero, suc, ◌<◌}
use mathlib.Core.Path.{◌≡◌, refl, sym, ap, ◌∙◌}
use mathlib.Core.Bool.{Bool, true, false, cond, and-eq-true_iff, true≢false}
use mathlib.Core.List.{List, [], ◌∷◌, ◌++◌}
use native.Mathlib.Nat.{le_of_suc-le-suc, not-suc-le-zero}
use lib.Dec.{eqb}
use lib.ListN.{length, get_or}
use borrow.Author.Tests.{eqb-true, eq-eqb}
use Rattle.phrases.specs.Phrases.{phrases, spelled, prefix, separate, separate_from, all_separate, leading}
use Rattle.phrases.specs.Table.{in_words}

pub rule : all_separate phrases ≡ true
unfolding all_separate separate_from prefix phrases spelled in_words
rule = refl

prefix_self : (p x : List ℕ) → prefix p (p ++ x) ≡ true
unfolding prefix
prefix_self [] x = refl
prefix_self (c ∷ p) x = rw (eq-eqb c c refl) (prefix_self p x)

-- of two lists that stand at the start of a third one stands at the start of the other
not_both : (p q s : List ℕ) → prefix p s ≡ true → prefix q s ≡ true → separate p q ≡ true → ⊥
unfolding prefix
not_both [] q s h k a = true≢false (sym a)
not_both (c ∷ p) [] s h k a = true≢false (sym ((and-eq-true_iff true false).0 a).1)
not_both (c ∷ p) (d ∷ q) [] h k a = true≢false (sym h)
not_both (c ∷ p) (d ∷ q) (e ∷ s) h k a =
    let x = (and-eq-true_iff (eqb c e) (prefix p s)).0 h in
    let y = (and-eq-true_iff (eqb d e) (prefix q s)).0 k in
    let same_bytes : c ≡ d = eqb-true c e x.0 ∙ sym (eqb-true d e y.0) in
    not_both p q s x.1 y.1 (rw (eq-eqb c d same_bytes, eq-eqb d c (sym same_bytes)) at a)

separate_at : (p : List ℕ) (ps : List (List ℕ)) (i : ℕ) → i < length ps → separate_from p ps ≡ true → separate p (get_or ps i []) ≡ true
unfolding separate_from
separate_at p [] i l h = absurd (not-suc-le-zero l)
separate_at p (q ∷ qs) zero l h = ((and-eq-true_iff (separate p q) (separate_from p qs)).0 h).0
separate_at p (q ∷ qs) (suc i) l h = separate_at p qs i (le_of_suc-le-suc l) ((and-eq-true_iff (separate p q) (separate_from p qs)).0 h).1

-- so what a phrase of the table begins is told by it
pub told : (ps : List (List ℕ)) → all_separate ps ≡ true → (i : ℕ) → i < length ps → (x : List ℕ) → leading ps (get_or ps i [] ++ x) ≡ i
unfolding all_separate leading
told [] h i l x = absurd (not-suc-le-zero l)
told (p ∷ ps) h zero l x = rw (prefix_self p x)
told (p ∷ ps) h (suc i) l x =
    let k = (and-eq-true_iff (separate_from p ps) (all_separate ps)).0 h in
    go (prefix p (get_or ps i [] ++ x)) refl (told ps k.1 i (le_of_suc-le-suc l) x) (separate_at p ps i (le_of_suc-le-suc l) k.0)
  where
    go : (b : Bool) → prefix p (get_or ps i [] ++ x) ≡ b → leading ps (get_or ps i [] ++ x) ≡ i → separate p (get_or ps i []) ≡ true
        → ◌≡◌ {A = ℕ} (cond b 0 (suc (leading ps (get_or ps i [] ++ x)))) (suc i)
    go true e n a = absurd (not_both p (get_or ps i []) (get_or ps i [] ++ x) e (prefix_self (get_or ps i []) x) a)
    go false e n a = ap suc n
