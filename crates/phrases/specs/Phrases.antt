-- The phrases as bytes, which of them stands at the start of a list, and the rule of the table.
use Rattle.std.specs.Prelude.{ℕ, suc, ◌+◌, Bool, true, false, cond, ◌&&◌, not, List, [], ◌∷◌, ◌++◌, map, eqb, length, get_or, take, drop}
use Prim.Native.Char.{code}
use Prim.Native.String.{String}
use Prim.Native.String as S
use Rattle.phrases.specs.Table.{in_words}

-- a text's bytes
unfoldable pub spelled : String → List ℕ
spelled S.[] = []
spelled (S.◌∷◌ c s) = code c ∷ spelled s

unfoldable pub phrases : List (List ℕ)
phrases = map spelled in_words

-- the phrase in a row of the table, no bytes past it
unfoldable pub phrase : ℕ → List ℕ
phrase row = get_or phrases row []

-- all phrases one after the other, and where each starts
unfoldable pub laid_out : List (List ℕ) → List ℕ
laid_out [] = []
laid_out (p ∷ ps) = p ++ laid_out ps

unfoldable pub starts_after : ℕ → List (List ℕ) → List ℕ
starts_after at [] = at ∷ []
starts_after at (p ∷ ps) = at ∷ starts_after (at + length p) ps

unfoldable pub all_text : List ℕ
all_text = laid_out phrases

unfoldable pub all_starts : List ℕ
all_starts = starts_after 0 phrases

-- a list stands at the start of another
unfoldable pub prefix : List ℕ → List ℕ → Bool
prefix [] s = true
prefix (x ∷ p) [] = false
prefix (x ∷ p) (y ∷ s) = eqb x y && prefix p s

-- "The rule is shown over the whole table of phrases": of any two neither stands at the start of the other
abbrev pub separate : List ℕ → List ℕ → Bool
separate p q = not (prefix p q) && not (prefix q p)

unfoldable pub separate_from : List ℕ → List (List ℕ) → Bool
separate_from p [] = true
separate_from p (q ∷ qs) = separate p q && separate_from p qs

unfoldable pub all_separate : List (List ℕ) → Bool
all_separate [] = true
all_separate (p ∷ ps) = separate_from p ps && all_separate ps

-- the first phrase that stands at the start of a list; as many as there are, where none does
unfoldable pub leading : List (List ℕ) → List ℕ → ℕ
leading [] s = 0
leading (p ∷ ps) s = cond (prefix p s) 0 (suc (leading ps s))

-- two lists compared
unfoldable pub same_bytes : List ℕ → List ℕ → Bool
same_bytes [] [] = true
same_bytes [] (y ∷ s) = false
same_bytes (x ∷ p) [] = false
same_bytes (x ∷ p) (y ∷ s) = eqb x y && same_bytes p s

-- a list put into another at a place
unfoldable pub put_into : List ℕ → ℕ → List ℕ → List ℕ
put_into l at bs = take at l ++ (bs ++ drop (at + length bs) l)
