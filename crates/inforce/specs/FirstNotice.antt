-- Two notices one after the other: where the first ends.
use Rattle.std.specs.Prelude.{ℕ, ◌+◌, cond, List, ltb, length}
use Rattle.notices.specs.Notices.{length_word}

-- The first notice ends after its two words and as many bytes as its length word says, or where the input ends.
unfoldable pub first_end : List ℕ → ℕ
first_end both = cond (ltb (4 + length_word both) (length both)) (4 + length_word both) (length both)
