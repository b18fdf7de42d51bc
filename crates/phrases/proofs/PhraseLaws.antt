-- Laws of copying and of comparing parts of lists.
use Prim.Native.Nat.{ℕ, zero, suc, ◌+◌, ◌-◌, ◌<◌, ◌≤◌}
use mathlib.Core.Path.{◌≡◌, refl, sym, ap, ◌∙◌}
use mathlib.Core.Bool.{Bool, true, false, cond, ◌&&◌, and-eq-true_iff, true≢false}
use mathlib.Core.List.{List, [], ◌∷◌, ◌++◌}
use native.Mathlib.Omega.{arith}
use Rattle.std.proofs.Math.Numerals.{add-one}
use native.Mathlib.Nat.{not-suc-le-zero}
use lib.Dec.{eqb, leb, ltb}
use Rattle.std.proofs.lemmas.List.{take_all}
use Rattle.std.specs.List.{starts_with}
use borrow.Rule.Slice.PartMut.{put_mid}
use lib.ListN.{length, get_or, take, drop, drop_of_length-le, get_or-eq_default}
use lib.Seq.{slice, slice-cons, drop-cons, drop-drop}
use borrow.Author.Tests.{eqb-true, eqb-false, ne_eqb, leb-true, ltb-true, ltb-false}
use Rattle.phrases.specs.Phrases.{same_bytes, prefix, put_into, phrases, phrase, spelled, leading, all_text, laid_out, all_starts, starts_after}
use Rattle.phrases.specs.Table.{in_words, row_count, byte_count}

-- what `starts_with` tests
pub starts_with-prefix : (p s : List ℕ) → starts_with eqb s p ≡ prefix p s
unfolding prefix
starts_with-prefix [] s = refl
starts_with-prefix (x ∷ p) [] = refl
starts_with-prefix (x ∷ p) (y ∷ s) = ap (λ (b : Bool). eqb x y && b) (starts_with-prefix p s)

-- a part of a text doesn't stand where its first byte differs, and where no byte is left
pub step_differ : (t s : List ℕ) (i to j : ℕ) → i < to → to ≤ length t → j < length s → (get_or t i 0 ≡ get_or s j 0 → ⊥)
    → false ≡ prefix (slice i to t) (drop j s)
unfolding prefix
step_differ t s i to j l m k e =
    sym (ap (λ (q : List ℕ). prefix q (drop j s)) (slice-cons i to t 0 l m)
    ∙ ap (prefix (get_or t i 0 ∷ slice (suc i) to t)) (drop-cons s j 0 k)
    ∙ ap (λ (b : Bool). b && prefix (slice (suc i) to t) (drop (suc j) s)) (ne_eqb (get_or t i 0) (get_or s j 0) e))

pub step_short : (t s : List ℕ) (i to j : ℕ) → i < to → to ≤ length t → length s ≤ j → false ≡ prefix (slice i to t) (drop j s)
unfolding prefix
step_short t s i to j l m k =
    sym (ap (λ (q : List ℕ). prefix q (drop j s)) (slice-cons i to t 0 l m) ∙ ap (prefix (get_or t i 0 ∷ slice (suc i) to t)) (drop_of_length-le s k))

-- a test at all of 0 to k - 1
unfoldable pub at_each : (ℕ → Bool) → ℕ → Bool
at_each f zero = true
at_each f (suc k) = f k && at_each f k

pub at_each_lem : (f : ℕ → Bool) (k : ℕ) → at_each f k ≡ true → (i : ℕ) → i < k → f i ≡ true
unfolding at_each
at_each_lem f zero h i l = absurd (not-suc-le-zero l)
at_each_lem f (suc k) h i l =
    let x = (and-eq-true_iff (f k) (at_each f k)).0 h in
    go (eqb i k) refl x.0 (λ m. at_each_lem f k x.1 i m)
  where
    go : (b : Bool) → eqb i k ≡ b → f k ≡ true → (i < k → f i ≡ true) → f i ≡ true
    go true e x m = ap f (eqb-true i k e) ∙ x
    go false e x m = m (omega (arith, l, eqb-false i k e))

pub same_bytes_lem : (p s : List ℕ) → same_bytes p s ≡ true → p ≡ s
unfolding same_bytes
same_bytes_lem [] [] h = refl
same_bytes_lem [] (y ∷ s) h = absurd (true≢false (sym h))
same_bytes_lem (x ∷ p) [] h = absurd (true≢false (sym h))
same_bytes_lem (x ∷ p) (y ∷ s) h =
    let k = (and-eq-true_iff (eqb x y) (same_bytes p s)).0 h in
    rw (eqb-true x y k.0, same_bytes_lem p s k.1) refl

-- computed over the table: where each phrase stands in the text
abbrev span_test : ℕ → Bool
span_test i = leb (get_or all_starts i 0) (get_or all_starts (i + 1) 0) && (leb (get_or all_starts (i + 1) 0) byte_count && (eqb (get_or all_starts (i + 1) 0 - get_or all_starts i 0) (length (phrase i)) && same_bytes (slice (get_or all_starts i 0) (get_or all_starts (i + 1) 0) all_text) (phrase i)))

spans : at_each span_test row_count ≡ true
unfolding at_each same_bytes all_text laid_out all_starts starts_after phrases phrase spelled in_words
spans = refl

pub starts_length : length all_starts ≡ row_count + 1
unfolding all_starts starts_after phrases spelled in_words
starts_length = refl

pub text_length : length all_text ≡ byte_count
unfolding all_text laid_out phrases spelled in_words
text_length = refl

pub many : length phrases ≡ row_count
unfolding phrases spelled in_words
many = refl

pub record Span (i : ℕ) : Type 0 where
  pub from_to : get_or all_starts i 0 ≤ get_or all_starts (i + 1) 0
  pub in-text : get_or all_starts (i + 1) 0 ≤ byte_count
  pub long : get_or all_starts (i + 1) 0 - get_or all_starts i 0 ≡ length (phrase i)
  pub reads : slice (get_or all_starts i 0) (get_or all_starts (i + 1) 0) all_text ≡ phrase i

pub span : (i : ℕ) → i < row_count → Span i
span i l =
    let a = get_or all_starts i 0 in
    let b = get_or all_starts (i + 1) 0 in
    let x = (and-eq-true_iff (leb a b) (leb b byte_count && (eqb (b - a) (length (phrase i)) && same_bytes (slice a b all_text) (phrase i)))).0 (at_each_lem span_test row_count spans i l) in
    let y = (and-eq-true_iff (leb b byte_count) (eqb (b - a) (length (phrase i)) && same_bytes (slice a b all_text) (phrase i))).0 x.1 in
    let z = (and-eq-true_iff (eqb (b - a) (length (phrase i))) (same_bytes (slice a b all_text) (phrase i))).0 y.1 in
    record { from_to = leb-true a b x.0; in-text = leb-true b byte_count y.0; long = eqb-true (b - a) (length (phrase i)) z.0; reads = same_bytes_lem (slice a b all_text) (phrase i) z.1 }

pub past_table : (i : ℕ) → row_count ≤ i → 0 ≡ length (phrase i)
unfolding phrase
past_table i l = sym (ap length (get_or-eq_default phrases [] {n = i} (omega (arith, l, many))))

-- a turn of the search over the table
standing_turn : (ps : List (List ℕ)) (i : ℕ) (s : List ℕ) → i < length ps
    → leading (drop i ps) s ≡ cond (prefix (get_or ps i []) s) 0 (suc (leading (drop (suc i) ps) s))
unfolding leading
standing_turn ps i s l = ap (λ (q : List (List ℕ)). leading q s) (drop-cons ps i [] l)

pub stands_here : (i : ℕ) (s : List ℕ) → i < row_count → prefix (phrase i) s ≡ true → i + leading (drop i phrases) s ≡ i
unfolding phrase
stands_here i s l h =
    let e : leading (drop i phrases) s ≡ 0 = standing_turn phrases i s (omega (arith, l, many)) ∙ ap (λ (b : Bool). cond b 0 (suc (leading (drop (suc i) phrases) s))) h in
    omega (arith, e)

pub stands_later : (i : ℕ) (s : List ℕ) → i < row_count → prefix (phrase i) s ≡ false → i + 1 + leading (drop (i + 1) phrases) s ≡ i + leading (drop i phrases) s
unfolding phrase
stands_later i s l h =
    let e : leading (drop i phrases) s ≡ suc (leading (drop (suc i) phrases) s) =
    standing_turn phrases i s (omega (arith, l, many)) ∙ ap (λ (b : Bool). cond b 0 (suc (leading (drop (suc i) phrases) s))) h in
    let d : leading (drop (i + 1) phrases) s ≡ leading (drop (suc i) phrases) s = ap (λ (n : ℕ). leading (drop n phrases) s) (add-one i) in
    omega (arith, e, d)

pub stands_nowhere : (i : ℕ) (s : List ℕ) → i ≡ row_count → i + leading (drop i phrases) s ≡ row_count
unfolding leading
stands_nowhere i s e =
    let d : leading (drop i phrases) s ≡ 0 = ap (λ (q : List (List ℕ)). leading q s) (drop_of_length-le phrases {i = i} (omega (arith, e, many))) in
    omega (arith, e, d)

-- the part of the text from a phrase's start to the next one's
pub part : (t : List ℕ) (i a b : ℕ) → i < row_count → t ≡ all_text → a ≡ get_or all_starts i 0 → b ≡ get_or all_starts (i + 1) 0
    → slice a b t ≡ phrase i
part t i a b l et ea eb =
    ap (slice a b) et ∙ ap (λ (k : ℕ). slice k b all_text) ea ∙ ap (λ (k : ℕ). slice (get_or all_starts i 0) k all_text) eb ∙ (span i l).reads

-- what the test of all of a phrase says
pub whole : (p q s : List ℕ) → p ≡ q → prefix q s ≡ prefix (slice 0 (length p) p) s
whole p q s e = ap (λ (l : List ℕ). prefix l s) (sym (take_all (length p) p (omega arith) ∙ e))

-- a copied phrase is put
pub put_mid-put : (d bs : List ℕ) (at k : ℕ) → k ≡ length bs → put_mid at k d bs ≡ put_into d at bs
unfolding put_into
put_mid-put d bs at k e = ap (λ (q : List ℕ). take at d ++ (bs ++ q)) (drop-drop k at d ∙ ap (λ (n : ℕ). drop (at + n) d) e)

-- bounds, for casts and sums
leading_within : (ps : List (List ℕ)) (s : List ℕ) → leading ps s ≤ length ps
unfolding leading
leading_within [] s = omega arith
leading_within (p ∷ ps) s = go (prefix p s) (leading_within ps s)
  where
    go : (b : Bool) → leading ps s ≤ length ps → cond b 0 (suc (leading ps s)) ≤ suc (length ps)
    go true h = omega arith
    go false h = omega (arith, h)

pub leading_most : (s : List ℕ) → leading phrases s ≤ row_count
leading_most s = omega (arith, leading_within phrases s, many)

pub phrase_most : (i : ℕ) → length (phrase i) ≤ byte_count
phrase_most i = go (ltb i row_count) refl
  where
    go : (b : Bool) → ltb i row_count ≡ b → length (phrase i) ≤ byte_count
    go true h = let w = span i (ltb-true i row_count h) in omega (arith, w.long, w.in-text)
    go false h = omega (arith, past_table i (ltb-false i row_count h))
