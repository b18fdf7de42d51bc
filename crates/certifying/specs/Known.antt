-- How many rows are known after so many choices, by the list of numbers of rows alone.
use Rattle.std.specs.Prelude.{ℕ, zero, suc, max, List, get_or}

-- 1, or one more than the largest of the first c words, whichever is more
unfoldable pub known_by : List ℕ → ℕ → ℕ
known_by next zero = 1
known_by next (suc c) = max (known_by next c) (suc (get_or next c 0))
