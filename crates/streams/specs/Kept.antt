-- What is kept of an input that comes in pieces.
use Rattle.std.specs.Prelude.{ℕ, List, [], ◌∷◌, ◌++◌, length, take}
use Rattle.reading.specs.Long.{enough}

-- of the bytes kept so far and the piece behind them, the first, as many as stand for so many
abbrev pub kept_by : (ℕ → ℕ) → List ℕ → List ℕ → List ℕ
kept_by most kept piece = take (most (length (kept ++ piece))) (kept ++ piece)

-- of a clinic file
abbrev pub kept_of : List ℕ → List ℕ → List ℕ
kept_of kept piece = kept_by enough kept piece

-- after all pieces, in order
unfoldable pub kept_of_pieces : List ℕ → List (List ℕ) → List ℕ
kept_of_pieces kept [] = kept
kept_of_pieces kept (p ∷ ps) = kept_of_pieces (kept_of kept p) ps
