-- A section is its records' words, one record after the other. What it takes to read one back, whatever its records are.
use Prim.Native.Nat.{ℕ, zero, suc, ◌+◌, ◌*◌, ◌-◌}
use mathlib.Core.Path.{◌≡◌, refl, sym, ap, ap₂, ◌∙◌, subst}
use mathlib.Core.List.{List, [], ◌∷◌, ◌++◌, append_assoc}
use native.Mathlib.Nat.{zero-add, mul-suc, mul-zero}
use native.Mathlib.Omega.{arith}
use lib.ListN.{length, get_or, length-append}
use lib.Seq.{get_or-append-add}
use Rattle.format.specs.Words.{word_at, bytes_of}
use Rattle.format.specs.Sections.{words_from}
use Rattle.format.specs.Contents.{tabled}
use Rattle.format.proofs.WriteLaws.{words_joined}
use Rattle.reading_exact.proofs.Bytes.{word_back}

-- from the word p on, the file holds these words
abbrev pub Holds : List ℕ → ℕ → List ℕ → Type 0
Holds f p l = (n : ℕ) → word_at f (p + n) ≡ get_or l n 0

pub holds_all : (ws : List ℕ) → Holds (bytes_of ws) 0 ws
holds_all ws n = ap (word_at (bytes_of ws)) (zero-add n) ∙ word_back ws n

pub holds_past : (f : List ℕ) (p k : ℕ) (a b : List ℕ) → length a ≡ k → Holds f p (a ++ b) → Holds f (p + k) b
holds_past f p k a b e h n =
    let there : p + k + n ≡ p + (length a + n) = omega arith in
    ap (word_at f) there ∙ h (length a + n) ∙ get_or-append-add a b n 0

pub holds_words : (f : List ℕ) (p : ℕ) (ws : List ℕ) → Holds f p ws → words_from f p (length ws) ≡ ws
unfolding words_from
holds_words f p [] h = refl
holds_words f p (w ∷ ws) h =
    let z : p + 0 ≡ p = omega arith in
    ap₂ {C = List ℕ} (λ v vs. v ∷ vs) (ap (word_at f) (sym z) ∙ h 0)
    (holds_words f (suc p) ws (λ n. let y : suc p + n ≡ p + suc n = omega arith in ap (word_at f) y ∙ h (suc n)))

-- the words of a list of records
unfoldable pub cat : {A : Type 0} → (A → List ℕ) → List A → List ℕ
cat enc [] = []
cat enc (x ∷ xs) = enc x ++ cat enc xs

-- records of type A, of c words each, that `read` takes from the file at an offset; a section's first stands at the offset at
module _ {A : Type 0} (enc : A → List ℕ) (c : ℕ) (fixed : (x : A) → length (enc x) ≡ c) where
  pub length_cat : (xs : List A) → length (cat enc xs) ≡ c * length xs
  unfolding cat
  length_cat [] = sym (mul-zero c)
  length_cat (x ∷ xs) = length-append (enc x) (cat enc xs) ∙ omega (arith, fixed x, length_cat xs, mul-suc c (length xs))

  module _ (f : List ℕ) (read : ℕ → A) (at : ℕ) where
    -- the section's record of a number
    abbrev row : ℕ → A
    row n = read (at + c * (n - 1))

    first : at ≡ at + c * 0
    first = omega (arith, mul-zero c)

    next : (j : ℕ) → at + c * j + c ≡ at + c * suc j
    next j = omega (arith, mul-suc c j)

    row_suc : (j : ℕ) → row (suc j) ≡ read (at + c * j)
    row_suc j = let e : suc j - 1 ≡ j = omega arith in ap (λ (n : ℕ). read (at + c * n)) e

    words_from_lem : ((p : ℕ) → enc (read p) ≡ words_from f p c) → (j k : ℕ) → cat enc (tabled row (suc j) k) ≡ words_from f (at + c * j) (c * k)
    unfolding cat tabled words_from
    words_from_lem same j zero = rw mul-zero
    words_from_lem same j (suc k) =
        let more : c * suc k ≡ c + c * k = omega (arith, mul-suc c k) in
        let here : enc (row (suc j)) ≡ words_from f (at + c * j) c = ap enc (row_suc j) ∙ same (at + c * j) in
        let rest : cat enc (tabled row (suc (suc j)) k) ≡ words_from f (at + c * j + c) (c * k) = words_from_lem same (suc j) k ∙ ap (λ (p : ℕ). words_from f p (c * k)) (sym (next j)) in
        rw more (ap₂ {C = List ℕ} (λ a b. a ++ b) here rest ∙ sym (words_joined f (at + c * j) c (c * k)))

    pub rows_words : ((p : ℕ) → enc (read p) ≡ words_from f p c) → (k : ℕ) → cat enc (tabled row 1 k) ≡ words_from f at (c * k)
    rows_words same k = words_from_lem same 0 k ∙ ap (λ (p : ℕ). words_from f p (c * k)) (sym first)

    module _ (back : (p : ℕ) (x : A) (post : List ℕ) → Holds f p (enc x ++ post) → read p ≡ x) where
      back_from : (j : ℕ) (xs : List A) (post : List ℕ) → Holds f (at + c * j) (cat enc xs ++ post) → tabled row (suc j) (length xs) ≡ xs
      unfolding cat tabled
      back_from j [] post h = refl
      back_from j (x ∷ xs) post h =
          let g : Holds f (at + c * j) (enc x ++ (cat enc xs ++ post)) = rw append_assoc at h in
          let more = subst (λ (p : ℕ). Holds f p (cat enc xs ++ post)) (next j) (holds_past f (at + c * j) c (enc x) (cat enc xs ++ post) (fixed x) g) in
          ap₂ {C = List A} (λ a b. a ∷ b) (row_suc j ∙ back (at + c * j) x (cat enc xs ++ post) g) (back_from (suc j) xs post more)

      pub rows_back : (xs : List A) (post : List ℕ) → Holds f at (cat enc xs ++ post) → tabled row 1 (length xs) ≡ xs
      rows_back xs post h = back_from 0 xs post (subst (λ (p : ℕ). Holds f p (cat enc xs ++ post)) first h)
