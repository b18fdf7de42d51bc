-- Two files in literal words, with one session in common: a fork of two sends that role 2 alone permits.
use Rattle.std.specs.Prelude.{ℕ, ◌≡◌, List, [], ◌∷◌}
use Rattle.format.specs.Words.{bytes_of}
use Rattle.format.specs.Contents.{contents_of}
use Rattle.format.specs.declared.Channel.{Channel}
use Rattle.format.specs.declared.Node.{Node}
use Rattle.placing.specs.Placing.{placing, placed_bytes}
use Rattle.reading_exact.specs.Tree.{send, Tree, end, fork, step, words}
use Rattle.reading_exact.specs.File.{Grants, first, File}
use Rattle.wards.specs.Ward.{from_root}

-- it is the only session: two users, of whom the first has roles 1 and 2
abbrev pub alone : List ℕ
alone =
    1 ∷ 2 ∷ 2 ∷ 2 ∷ 2 ∷ 1 ∷ 5 ∷ 13 ∷ 15 ∷ 23 ∷ 25 ∷ 29 ∷ 32
    ∷ 3 ∷ 0
    ∷ 1 ∷ 0 ∷ 0 ∷ 0 ∷ 3 ∷ 0 ∷ 0 ∷ 0
    ∷ 0 ∷ 0
    ∷ 2 ∷ 1 ∷ 2 ∷ 2
    ∷ 1 ∷ 0 ∷ 1
    ∷ 1 ∷ 4 ∷ 0 ∷ 6 ∷ 258 ∷ 2 ∷ 0 ∷ 0 ∷ 0 ∷ 6 ∷ 258 ∷ 2 ∷ 0 ∷ 0 ∷ 0 ∷ []

-- it is the second session: three users, the second has role 1, and in the first session sends on channel 1
abbrev pub beside : List ℕ
beside =
    1 ∷ 3 ∷ 2 ∷ 2 ∷ 2 ∷ 2 ∷ 7 ∷ 13 ∷ 16 ∷ 24 ∷ 26 ∷ 30 ∷ 36
    ∷ 3 ∷ 1 ∷ 2
    ∷ 1 ∷ 0 ∷ 0 ∷ 0 ∷ 3 ∷ 0 ∷ 0 ∷ 0
    ∷ 0 ∷ 0
    ∷ 2 ∷ 1 ∷ 2 ∷ 2
    ∷ 2 ∷ 0 ∷ 1 ∷ 1 ∷ 0 ∷ 3
    ∷ 6 ∷ 257 ∷ 3 ∷ 0 ∷ 0 ∷ 0
    ∷ 1 ∷ 6 ∷ 0 ∷ 6 ∷ 258 ∷ 2 ∷ 0 ∷ 0 ∷ 0 ∷ 6 ∷ 258 ∷ 2 ∷ 0 ∷ 0 ∷ 0 ∷ []

-- what both agree on: the roles, the kinds, the channels, and the session's tree
abbrev roles : Grants
roles = first (record { sends = 1; receives = 0 } ∷ record { sends = 3; receives = 0 } ∷ [])

abbrev kinds : List ℕ
kinds = 0 ∷ 0 ∷ []

abbrev channels : List Channel
channels = record { owner = 2; kind = record { 0 = 1 } } ∷ record { owner = 2; kind = record { 0 = 2 } } ∷ []

abbrev routine : Tree
routine = fork (step (send 258 2) end) (step (send 258 2) end)

-- the two files as data
abbrev pub alone_file : File
alone_file = record { users = 3 ∷ 0 ∷ []; grants = roles; kinds = kinds; channels = channels; sessions = record { user = 1; mask = 0; tree = routine } ∷ [] }

abbrev pub beside_file : File
beside_file = record {
  users = 3 ∷ 1 ∷ 2 ∷ [];
  grants = roles;
  kinds = kinds;
  channels = channels;
  sessions = record { user = 2; mask = 0; tree = step (send 257 3) end } ∷ record { user = 1; mask = 0; tree = routine } ∷ [];
}

-- both placed
abbrev pub alone_placed : List ℕ
alone_placed =
    1 ∷ 2 ∷ 2 ∷ 2 ∷ 2 ∷ 1 ∷ 8 ∷ 13 ∷ 15 ∷ 23 ∷ 25 ∷ 29 ∷ 32
    ∷ 3 ∷ 0
    ∷ 1 ∷ 0 ∷ 0 ∷ 0 ∷ 3 ∷ 0 ∷ 0 ∷ 0
    ∷ 0 ∷ 0
    ∷ 2 ∷ 1 ∷ 2 ∷ 2
    ∷ 1 ∷ 0 ∷ 1
    ∷ 7 ∷ 2 ∷ 0 ∷ 1 ∷ 6 ∷ 0 ∷ 6 ∷ 258 ∷ 2 ∷ 8 ∷ 2 ∷ 0 ∷ 0 ∷ 0 ∷ 0 ∷ 6 ∷ 258 ∷ 2 ∷ 8 ∷ 2 ∷ 0 ∷ 0 ∷ 0 ∷ 0 ∷ []

abbrev pub beside_placed : List ℕ
beside_placed =
    1 ∷ 3 ∷ 2 ∷ 2 ∷ 2 ∷ 2 ∷ 12 ∷ 13 ∷ 16 ∷ 24 ∷ 26 ∷ 30 ∷ 36
    ∷ 3 ∷ 1 ∷ 2
    ∷ 1 ∷ 0 ∷ 0 ∷ 0 ∷ 3 ∷ 0 ∷ 0 ∷ 0
    ∷ 0 ∷ 0
    ∷ 2 ∷ 1 ∷ 2 ∷ 2
    ∷ 2 ∷ 0 ∷ 1 ∷ 1 ∷ 0 ∷ 5
    ∷ 7 ∷ 1 ∷ 0 ∷ 6 ∷ 257 ∷ 3 ∷ 8 ∷ 1 ∷ 0 ∷ 0 ∷ 0 ∷ 0
    ∷ 7 ∷ 2 ∷ 0 ∷ 1 ∷ 10 ∷ 0 ∷ 6 ∷ 258 ∷ 2 ∷ 8 ∷ 2 ∷ 0 ∷ 0 ∷ 0 ∷ 0 ∷ 6 ∷ 258 ∷ 2 ∷ 8 ∷ 2 ∷ 0 ∷ 0 ∷ 0 ∷ 0 ∷ []

-- the session's nodes, counted from its root
abbrev pub ward : List Node
ward = words 7 2 0 ∷ words 1 5 0 ∷ words 6 258 2 ∷ words 8 2 0 ∷ words 0 0 0 ∷ words 6 258 2 ∷ words 8 2 0 ∷ words 0 0 0 ∷ []

-- words placed, the words of the placed file, and the number of the session there
abbrev pub WardShown : List ℕ → List ℕ → ℕ → Type 0
WardShown f g i =
    ((placing (bytes_of f) 6874).number ≡ 0) × (placed_bytes (bytes_of f) ≡ bytes_of g) × (from_root (contents_of (bytes_of g)) i 8 ≡ ward)
