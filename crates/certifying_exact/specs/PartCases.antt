-- Parts of certificates in literal words, and what is answered.
use Rattle.std.specs.Prelude.{ℕ, ◌≡◌, List, [], ◌∷◌}
use Rattle.format.specs.Words.{bytes_of}
use Rattle.certifying.specs.declared.Closing.{Closing}
use Rattle.certifying.specs.declared.Part.{Part}
use Rattle.certifying.specs.Parts.{closing_part}
use Rattle.certifying_exact.specs.CertificateCases.{enders, sitters, waits, endings}

-- a file, a table of seats, states, places and `next`, and a part of them; number and row of the answer
pub data PartCase : Type 0 where
  answers : List ℕ → List ℕ → List ℕ → List ℕ → List ℕ → Part → ℕ → ℕ → PartCase

abbrev pub PartShown : PartCase → Type 0
PartShown (answers ws seats states places next P n k) =
    closing_part (bytes_of ws) seats states places next P ≡ record { number = n; place = 0; row = k }

abbrev pub part : ℕ → ℕ → ℕ → ℕ → Part
part from to begin end = record { from = from; to = to; begin = begin; end = end }

-- parts of the four states of two sessions that end
abbrev pub of_endings : Part → ℕ → ℕ → PartCase
of_endings P n k = answers enders (0 ∷ []) endings (0 ∷ 29 ∷ 45 ∷ 61 ∷ []) (1 ∷ 2 ∷ 3 ∷ 3 ∷ []) P n k

-- two rows with the same words: no thread is left, and a session waits for the one seat of role 1
abbrev pub of_line : ℕ → Part → ℕ → ℕ → PartCase
of_line session P n k = answers sitters (1 ∷ []) (0 ∷ 0 ∷ waits session) (0 ∷ 0 ∷ []) (1 ∷ []) P n k

abbrev pub part_cases : List PartCase
part_cases =
    -- the whole in two parts, in one, and a row that has no choice
    of_endings (part 0 2 0 3) 0 0
    ∷ of_endings (part 2 4 3 4) 0 0
    ∷ of_endings (part 0 4 0 4) 0 0
    ∷ of_endings (part 3 4 4 4) 0 0
    -- words that end too early or too late, and a part that begins at another row's words
    ∷ of_endings (part 0 2 0 2) 18 2
    ∷ of_endings (part 0 2 0 4) 18 2
    ∷ of_endings (part 2 4 2 4) 18 4
    -- a row that isn't known yet, and one whose choice isn't
    ∷ of_endings (part 1 2 0 1) 18 2
    ∷ answers enders (0 ∷ []) endings (0 ∷ 29 ∷ 45 ∷ 61 ∷ []) (1 ∷ 2 ∷ 3 ∷ 2 ∷ []) (part 2 4 3 4) 18 3
    -- row 0 is not the start; a part that begins later doesn't ask
    ∷ answers enders (0 ∷ []) endings (29 ∷ 0 ∷ 45 ∷ 61 ∷ []) (1 ∷ 2 ∷ 3 ∷ 3 ∷ []) (part 0 1 0 2) 18 1
    ∷ answers enders (0 ∷ []) endings (29 ∷ 0 ∷ 45 ∷ 61 ∷ []) (1 ∷ 2 ∷ 3 ∷ 3 ∷ []) (part 3 4 4 4) 0 0
    -- no row, no such rows, and no such words
    ∷ of_endings (part 2 2 3 3) 17 0
    ∷ of_endings (part 0 5 0 4) 17 0
    ∷ of_endings (part 0 2 3 0) 17 0
    ∷ of_endings (part 0 4 0 5) 17 0
    -- a row in order that nothing leads to is for the other parts to refuse; a line with a session that there is none
    -- of, and a row without all its words
    ∷ of_line 1 (part 1 2 1 1) 0 0
    ∷ of_line 3 (part 1 2 1 1) 18 2
    ∷ answers sitters (1 ∷ []) (0 ∷ 0 ∷ 1 ∷ []) (0 ∷ 0 ∷ []) (1 ∷ []) (part 1 2 1 1) 18 2
    ∷ []
