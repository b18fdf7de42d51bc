-- "Up to 1,000 files in a row, each after one word with its length in bytes": as bytes are written, with no reading.
use Rattle.std.specs.Prelude.{ℕ, ◌/◌, ◌%◌, ◌≤◌, ◌<◌, ◌≡◌, List, [], ◌∷◌, ◌++◌, length}
use Rattle.reading_exact.specs.Lists.{All}

-- a file's record: its length in one word, low byte first, then the file
abbrev pub record_of : List ℕ → List ℕ
record_of f = length f % 256 ∷ length f / 256 ∷ f

-- in a row
unfoldable pub records_of : List (List ℕ) → List ℕ
records_of [] = []
records_of (f ∷ fs) = record_of f ++ records_of fs

-- no whole record stands at the front
unfoldable pub Broken : List ℕ → Type 0
Broken l = (f t : List ℕ) → length f < 65536 → l ≡ record_of f ++ t → ⊥

-- "The sheet ends after 1,000 files or at the first record that isn't whole"
pub data Ends (fs : List (List ℕ)) (rest : List ℕ) (k : ℕ) : Type 0 where
  full : length fs ≡ k → Ends fs rest k
  broken : Broken rest → Ends fs rest k

-- an input is the records of its whole files, at most k, and a rest
pub record WholeFiles (k : ℕ) (input : List ℕ) (fs : List (List ℕ)) (rest : List ℕ) : Type 0 where
  pub joined : input ≡ records_of fs ++ rest
  pub short : All (λ f. length f < 65536) fs
  pub few : length fs ≤ k
  pub ends : Ends fs rest k
