-- The choices: how many of their bytes are kept, and the words that these are run as.
use Rattle.std.specs.Prelude.{ℕ, zero, suc, ◌/◌, ◌%◌, min, cond, List, [], ◌∷◌, eqb}
use Rattle.format.specs.Words.{word_at}

-- a list has at most 262,140 bytes, and one of 262,144 is too long, like any longer one
abbrev pub enough_bytes : ℕ → ℕ
enough_bytes length = min length 262144

-- 1 word, an odd list, where the last choice is not whole
abbrev pub list_words : ℕ → ℕ
list_words bytes = cond (eqb (bytes % 4) 0) (bytes / 2) 1

-- so many words of a list of bytes, from an offset on
unfoldable pub words_of_bytes : List ℕ → ℕ → ℕ → List ℕ
words_of_bytes f p zero = []
words_of_bytes f p (suc k) = word_at f p ∷ words_of_bytes f (suc p) k
