-- Sheets of inputs in literal words and bytes.
use Rattle.std.specs.Prelude.{ℕ, ◌≡◌, List, [], ◌∷◌, ◌++◌}
use Rattle.format.specs.Words.{bytes_of}
use Rattle.sheets.specs.Sheets.{sheet_of}
use Rattle.sheets.specs.Entries.{entry_of}
use Rattle.sheets.specs.declared.Sheet.{Sheet}

-- an input, by its words or its bytes, and its sheet
pub data SheetCase : Type 0 where
  of_words : List ℕ → Sheet → SheetCase
  of_bytes : List ℕ → Sheet → SheetCase

abbrev pub SheetShown : SheetCase → Type 0
SheetShown (of_words ws s) = sheet_of entry_of (bytes_of ws) ≡ s
SheetShown (of_bytes bs s) = sheet_of entry_of bs ≡ s

-- the booking of document 01, in 41 words: one session with one on step
abbrev booking : List ℕ
booking =
    1 ∷ 2 ∷ 2 ∷ 2 ∷ 2 ∷ 1 ∷ 3 ∷ 13 ∷ 15 ∷ 23 ∷ 25 ∷ 29 ∷ 32
    ∷ 3 ∷ 0
    ∷ 1 ∷ 0 ∷ 0 ∷ 0 ∷ 3 ∷ 0 ∷ 0 ∷ 0
    ∷ 0 ∷ 0
    ∷ 2 ∷ 1 ∷ 2 ∷ 2
    ∷ 1 ∷ 0 ∷ 1
    ∷ 6 ∷ 257 ∷ 2 ∷ 6 ∷ 258 ∷ 2 ∷ 0 ∷ 0 ∷ 0 ∷ []

-- a role for each kind, in 62 words: three sessions, with sends on kind 1, on kinds 1, 2, 1, and on kind 2, which are placed with 1, 3 and 1 on steps
abbrev three_sessions : List ℕ
three_sessions =
    1 ∷ 2 ∷ 2 ∷ 2 ∷ 2 ∷ 3 ∷ 8 ∷ 13 ∷ 15 ∷ 23 ∷ 25 ∷ 29 ∷ 38
    ∷ 3 ∷ 0
    ∷ 1 ∷ 0 ∷ 0 ∷ 0 ∷ 2 ∷ 0 ∷ 0 ∷ 0
    ∷ 0 ∷ 0
    ∷ 2 ∷ 1 ∷ 2 ∷ 2
    ∷ 1 ∷ 0 ∷ 1 ∷ 1 ∷ 0 ∷ 3 ∷ 1 ∷ 0 ∷ 7
    ∷ 6 ∷ 257 ∷ 2 ∷ 0 ∷ 0 ∷ 0
    ∷ 6 ∷ 257 ∷ 2 ∷ 6 ∷ 258 ∷ 2 ∷ 6 ∷ 257 ∷ 2 ∷ 0 ∷ 0 ∷ 0
    ∷ 6 ∷ 258 ∷ 2 ∷ 0 ∷ 0 ∷ 0 ∷ []

-- a send by a user without a role, in 26 words: refused with 15
abbrev unroled : List ℕ
unroled = 1 ∷ 1 ∷ 0 ∷ 1 ∷ 1 ∷ 1 ∷ 2 ∷ 13 ∷ 14 ∷ 14 ∷ 15 ∷ 17 ∷ 20 ∷ 0 ∷ 0 ∷ 1 ∷ 1 ∷ 1 ∷ 0 ∷ 1 ∷ 6 ∷ 257 ∷ 1 ∷ 0 ∷ 0 ∷ 0 ∷ []

-- refusals of 1 and 15
abbrev refusals : ℕ → ℕ → List ℕ
refusals one fifteen =
    one ∷ 0 ∷ 0 ∷ 0 ∷ 0 ∷ 0 ∷ 0 ∷ 0 ∷ 0 ∷ 0 ∷ 0 ∷ 0 ∷ 0 ∷ 0
    ∷ fifteen ∷ 0 ∷ 0 ∷ 0 ∷ 0 ∷ 0 ∷ 0 ∷ 0 ∷ 0 ∷ 0 ∷ 0 ∷ 0 ∷ 0 ∷ 0 ∷ []

abbrev pub sheet_cases : List SheetCase
sheet_cases =
    -- the booking; a clinic with nothing planned, in zero bytes; the three sessions; two refused files, the second of 2 bytes; then 6 bytes are said and 2 are there
    of_words (82 ∷ booking ++ 0 ∷ 124 ∷ three_sessions ++ 52 ∷ unroled ++ 2 ∷ 1 ∷ 6 ∷ 1 ∷ [])
    (record { files = 5; refused = refusals 1 1; sessions = 4; on_steps = 6; most = 3; quotient = 1500; remainder = 0 })
    -- in another order, with nothing after them
    ∷ of_words (2 ∷ 1 ∷ 124 ∷ three_sessions ++ 52 ∷ unroled ++ 0 ∷ 82 ∷ booking)
    (record { files = 5; refused = refusals 1 1; sessions = 4; on_steps = 6; most = 3; quotient = 1500; remainder = 0 })
    -- a remainder
    ∷ of_words (82 ∷ booking ++ 124 ∷ three_sessions ++ 124 ∷ three_sessions)
    (record { files = 3; refused = refusals 0 0; sessions = 7; on_steps = 11; most = 3; quotient = 1571; remainder = 3 })
    -- a file of one byte, and half a length word after it; no file
    ∷ of_bytes (1 ∷ 0 ∷ 7 ∷ 0 ∷ []) (record { files = 1; refused = refusals 1 0; sessions = 0; on_steps = 0; most = 0; quotient = 0; remainder = 0 })
    ∷ of_bytes [] (record { files = 0; refused = refusals 0 0; sessions = 0; on_steps = 0; most = 0; quotient = 0; remainder = 0 })
    ∷ []
