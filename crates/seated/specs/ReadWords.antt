-- The words of a line, as code reads them.
use Rattle.std.specs.Prelude.{ℕ, ◌+◌, ◌*◌, cond, List, ltb, get_or}

-- word `at` of a row: 0 past those waiting
abbrev pub line_word : List ℕ → ℕ → ℕ → ℕ
line_word w row at = cond (ltb at (get_or w (33 * row) 0)) (get_or w (33 * row + 1 + at) 0) 0
