-- The group's input: up to 1,000 files in a row, each after one word with its length in bytes.
use Rattle.std.specs.Prelude.{ℕ, zero, suc, ◌+◌, ◌/◌, ◌%◌, List, [], ◌∷◌, ◌++◌, Bool, cond, leb, length, take, drop}
use Rattle.format.specs.Words.{word_at}

-- the length that the first word says
unfoldable pub said : List ℕ → ℕ
said l = word_at l 0

-- the length word and all its bytes are there: a missing byte of the word counts as 0
abbrev pub is_whole : List ℕ → Bool
is_whole l = leb (2 + said l) (length l)

-- a whole record's bytes with its length word, else 0
abbrev pub size_of : List ℕ → ℕ
size_of l = cond (is_whole l) (2 + said l) 0

-- at most k files, up to the first record that isn't whole, and what stands after them
unfoldable pub whole_up_to : ℕ → List ℕ → List (List ℕ)
whole_up_to zero l = []
whole_up_to (suc k) l = cond (is_whole l) (take (said l) (drop 2 l) ∷ whole_up_to k (drop (said l) (drop 2 l))) []

unfoldable pub rest_up_to : ℕ → List ℕ → List ℕ
rest_up_to zero l = l
rest_up_to (suc k) l = cond (is_whole l) (rest_up_to k (drop (said l) (drop 2 l))) l

-- "The sheet ends after 1,000 files or at the first record that isn't whole"
abbrev pub whole_files : List ℕ → List (List ℕ)
whole_files l = whole_up_to 1000 l

abbrev pub rest_of : List ℕ → List ℕ
rest_of l = rest_up_to 1000 l
