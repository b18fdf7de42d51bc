-- A file by rows and the same by columns, in words: the booking of the paper with a mask of juniors for each role.
use Rattle.std.specs.Prelude.{ℕ, List, [], ◌∷◌, ◌++◌}

-- its words between the version and the nodes
abbrev pub between : List ℕ
between = 2 ∷ 2 ∷ 2 ∷ 2 ∷ 1 ∷ 3 ∷ 14 ∷ 16 ∷ 24 ∷ 26 ∷ 28 ∷ 32 ∷ 35 ∷ 3 ∷ 0 ∷ 1 ∷ 0 ∷ 0 ∷ 0 ∷ 3 ∷ 0 ∷ 0 ∷ 0 ∷ 0 ∷ 1 ∷ 0 ∷ 0 ∷ 2 ∷ 1 ∷ 2 ∷ 2 ∷ 1 ∷ 0 ∷ 1 ∷ []

-- two sends and an end
abbrev pub row_booking : List ℕ
row_booking = 2 ∷ between ++ (6 ∷ 257 ∷ 2 ∷ 6 ∷ 258 ∷ 2 ∷ 0 ∷ 0 ∷ 0 ∷ [])

-- all tags, then all f1, then all f2
abbrev pub column_booking : List ℕ
column_booking = 3 ∷ between ++ (6 ∷ 6 ∷ 0 ∷ 257 ∷ 258 ∷ 0 ∷ 2 ∷ 2 ∷ 0 ∷ [])
