-- Whether a row fits, as a test.
use Rattle.std.specs.Prelude.{ℕ, zero, suc, ◌+◌, Bool, true, ◌&&◌, List, leb, length, get_or}
use Rattle.rows.specs.Rows.{lines_from}

-- so many lines from p on, none of more than 32, with all their words
unfoldable pub lines_fit : List ℕ → ℕ → ℕ → Bool
lines_fit s p zero = true
lines_fit s p (suc k) = (leb (p + 1 + get_or s p 0) (length s) && leb (get_or s p 0) 32) && lines_fit s (p + 1 + get_or s p 0) k

-- the words before the lines: at most 64 threads and 64 made channels, with all their words
abbrev pub front_fits : List ℕ → ℕ → Bool
front_fits s p = leb (get_or s p 0) 64 && leb (get_or s (p + 1) 0) 64 && leb (lines_from s p) (length s)

abbrev pub row_fits : ℕ → List ℕ → ℕ → Bool
row_fits roles s p = front_fits s p && lines_fit s (lines_from s p) roles
