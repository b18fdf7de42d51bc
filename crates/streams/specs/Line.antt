-- The line of a refusal.
use Rattle.std.specs.Prelude.{ℕ, cond, List, [], ◌∷◌, ◌++◌, ltb}
use Rattle.io.specs.Digits.{last_digits}

-- how many decimal digits a word has
abbrev pub places : ℕ → ℕ
places n = cond (ltb n 10) 1 (cond (ltb n 100) 2 (cond (ltb n 1000) 3 (cond (ltb n 10000) 4 5)))

-- a word in decimal, in ASCII, the first digit first, without zeros in front
unfoldable pub decimal : ℕ → List ℕ
decimal n = last_digits 10 (places n) n

-- `refused`, the number, the place, and a newline
unfoldable pub refused_line : ℕ → ℕ → List ℕ
refused_line number place =
    (114 ∷ 101 ∷ 102 ∷ 117 ∷ 115 ∷ 101 ∷ 100 ∷ 32 ∷ []) ++ decimal number ++ (32 ∷ []) ++ decimal place ++ (10 ∷ [])
