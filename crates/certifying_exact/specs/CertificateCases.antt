-- Certificates in literal words: a file, a table of seats, states, places and `next`, and what is answered.
use Rattle.std.specs.Prelude.{ℕ, ◌≡◌, List, [], ◌∷◌, ◌++◌}
use Rattle.format.specs.Words.{bytes_of}
use Rattle.certifying.specs.declared.Closing.{Closing}
use Rattle.certifying.specs.Certificate.{closing, closed_fine}

pub data CertificateCase : Type 0 where
  accepts : List ℕ → List ℕ → List ℕ → List ℕ → List ℕ → CertificateCase
  -- with number and row
  rejects : List ℕ → List ℕ → List ℕ → List ℕ → List ℕ → ℕ → ℕ → CertificateCase

abbrev pub CertificateShown : CertificateCase → Type 0
CertificateShown (accepts ws seats states places next) = closing (bytes_of ws) seats states places next ≡ closed_fine
CertificateShown (rejects ws seats states places next n k) =
    closing (bytes_of ws) seats states places next ≡ record { number = n; place = 0; row = k }

-- a user with role 1 and two sessions, each of which only ends
abbrev pub enders : List ℕ
enders =
    1 ∷ 1 ∷ 1 ∷ 1 ∷ 1 ∷ 2 ∷ 2 ∷ 13 ∷ 14 ∷ 18 ∷ 19 ∷ 21 ∷ 27
    ∷ 1
    ∷ 0 ∷ 0 ∷ 0 ∷ 0
    ∷ 0
    ∷ 1 ∷ 1
    ∷ 1 ∷ 0 ∷ 1 ∷ 1 ∷ 0 ∷ 2
    ∷ 0 ∷ 0 ∷ 0 ∷ 0 ∷ 0 ∷ 0 ∷ []

-- each puts role 1 on, then ends
abbrev pub sitters : List ℕ
sitters =
    1 ∷ 1 ∷ 1 ∷ 1 ∷ 1 ∷ 2 ∷ 4 ∷ 13 ∷ 14 ∷ 18 ∷ 19 ∷ 21 ∷ 27
    ∷ 1
    ∷ 0 ∷ 0 ∷ 0 ∷ 0
    ∷ 0
    ∷ 1 ∷ 1
    ∷ 1 ∷ 0 ∷ 1 ∷ 1 ∷ 0 ∷ 3
    ∷ 7 ∷ 1 ∷ 0 ∷ 0 ∷ 0 ∷ 0 ∷ 7 ∷ 1 ∷ 0 ∷ 0 ∷ 0 ∷ 0 ∷ []

-- role 1 may send and receive: the first session sends user 1 to the second
abbrev pub meeters : List ℕ
meeters =
    1 ∷ 1 ∷ 1 ∷ 1 ∷ 1 ∷ 2 ∷ 4 ∷ 13 ∷ 14 ∷ 18 ∷ 19 ∷ 21 ∷ 27
    ∷ 1
    ∷ 1 ∷ 0 ∷ 1 ∷ 0
    ∷ 0
    ∷ 1 ∷ 1
    ∷ 1 ∷ 1 ∷ 1 ∷ 1 ∷ 1 ∷ 3
    ∷ 6 ∷ 257 ∷ 1 ∷ 0 ∷ 0 ∷ 0 ∷ 5 ∷ 257 ∷ 0 ∷ 0 ∷ 0 ∷ 0 ∷ []

-- one session that makes a channel, then ends
abbrev pub maker : List ℕ
maker =
    1 ∷ 1 ∷ 1 ∷ 1 ∷ 1 ∷ 1 ∷ 2 ∷ 13 ∷ 14 ∷ 18 ∷ 19 ∷ 21 ∷ 24
    ∷ 1
    ∷ 0 ∷ 0 ∷ 0 ∷ 0
    ∷ 0
    ∷ 1 ∷ 1
    ∷ 1 ∷ 0 ∷ 1
    ∷ 3 ∷ 1 ∷ 0 ∷ 0 ∷ 0 ∷ 0 ∷ []

-- a thread at a node without a role, and one with role 1
abbrev pub without : ℕ → List ℕ
without node = 1 ∷ node ∷ 0 ∷ 0 ∷ 0 ∷ 0 ∷ 0 ∷ 0 ∷ 0 ∷ 0 ∷ 0 ∷ 0 ∷ []

abbrev pub sitting : ℕ → List ℕ
sitting node = 1 ∷ node ∷ 1 ∷ 1 ∷ 0 ∷ 0 ∷ 0 ∷ 0 ∷ 0 ∷ 0 ∷ 0 ∷ 0 ∷ []

-- one with role 1 and a first variable
abbrev pub receiving : ℕ → ℕ → List ℕ
receiving node value = 1 ∷ node ∷ 1 ∷ 1 ∷ value ∷ 0 ∷ 0 ∷ 0 ∷ 0 ∷ 0 ∷ 0 ∷ 0 ∷ []

-- two threads, one and none, with the line of role 1
abbrev pub two : List ℕ → List ℕ → List ℕ → List ℕ
two t u line = 2 ∷ 0 ∷ t ++ (u ++ (1 ∷ 2 ∷ line))

abbrev pub one : List ℕ → ℕ → List ℕ → List ℕ
one t session line = 1 ∷ 0 ∷ t ++ (session ∷ line)

abbrev pub nobody : List ℕ
nobody = 0 ∷ []

abbrev pub waits : ℕ → List ℕ
waits session = 1 ∷ session ∷ []

abbrev pub endings : List ℕ
endings =
    two (without 1) (without 2) nobody ++ (one (without 2) 2 nobody ++ (one (without 1) 1 nobody ++ (0 ∷ 0 ∷ nobody)))

-- the last word, which is 0, left out
abbrev pub short_endings : List ℕ
short_endings =
    two (without 1) (without 2) nobody ++ (one (without 2) 2 nobody ++ (one (without 1) 1 nobody ++ (0 ∷ 0 ∷ [])))

-- the same states, the last one first
abbrev pub turned_endings : List ℕ
turned_endings = 0 ∷ 0 ∷ nobody ++ endings

-- the send and the receive, then the two ends in either order
abbrev pub meetings : List ℕ
meetings =
    two (sitting 1) (sitting 3) nobody ++ (two (sitting 2) (receiving 4 1) nobody
    ++ (one (receiving 4 1) 2 nobody ++ (one (sitting 2) 1 nobody ++ (0 ∷ 0 ∷ nobody))))

-- a thread before and after it made channel 385, of user 1 and kind 1, and no thread
abbrev pub makings : List ℕ
makings =
    one (without 1) 1 nobody
    ++ (1 ∷ 1 ∷ 1 ∷ 1 ∷ 1 ∷ 2 ∷ 0 ∷ 0 ∷ 385 ∷ 0 ∷ 0 ∷ 0 ∷ 0 ∷ 0 ∷ 0 ∷ 0 ∷ 1 ∷ nobody ++ (0 ∷ 1 ∷ 1 ∷ 1 ∷ nobody))

abbrev pub sittings : List ℕ
sittings =
    two (without 1) (without 3) nobody ++ (two (sitting 2) (without 3) nobody
    ++ (two (without 1) (sitting 4) nobody ++ (one (without 3) 2 nobody
    ++ (two (sitting 2) (without 3) (waits 2) ++ (two (without 1) (sitting 4) (waits 1)
    ++ (one (without 1) 1 nobody ++ (one (sitting 4) 2 nobody
    ++ (one (without 3) 2 (waits 2) ++ (one (without 1) 1 (waits 1)
    ++ (one (sitting 2) 1 nobody ++ (0 ∷ 0 ∷ nobody)))))))))))

abbrev pub sitting_places : List ℕ
sitting_places = 0 ∷ 29 ∷ 58 ∷ 87 ∷ 103 ∷ 133 ∷ 163 ∷ 179 ∷ 195 ∷ 212 ∷ 229 ∷ 245 ∷ []

abbrev pub sitting_next : List ℕ
sitting_next = 1 ∷ 2 ∷ 3 ∷ 4 ∷ 5 ∷ 6 ∷ 7 ∷ 8 ∷ 4 ∷ 5 ∷ 9 ∷ 10 ∷ 11 ∷ 7 ∷ 10 ∷ 11 ∷ []

abbrev pub certificate_cases : List CertificateCase
certificate_cases =
    accepts enders (0 ∷ []) endings (0 ∷ 29 ∷ 45 ∷ 61 ∷ []) (1 ∷ 2 ∷ 3 ∷ 3 ∷ [])
    -- words of `next` past those of the last row are not looked at
    ∷ accepts enders (0 ∷ []) endings (0 ∷ 29 ∷ 45 ∷ 61 ∷ []) (1 ∷ 2 ∷ 3 ∷ 3 ∷ 9 ∷ [])
    -- the first row is not the start, also where no choice leads out of it
    ∷ rejects enders (0 ∷ []) endings (61 ∷ []) [] 18 1
    ∷ rejects enders (0 ∷ []) endings (29 ∷ 0 ∷ 45 ∷ 61 ∷ []) (1 ∷ 2 ∷ 3 ∷ 3 ∷ []) 18 1
    -- a word of `next` that is one off, one that isn't known yet, and a missing one
    ∷ rejects enders (0 ∷ []) endings (0 ∷ 29 ∷ 45 ∷ 61 ∷ []) (1 ∷ 2 ∷ 2 ∷ 3 ∷ []) 18 2
    ∷ rejects enders (0 ∷ []) endings (0 ∷ 29 ∷ 45 ∷ 61 ∷ []) (2 ∷ 1 ∷ 3 ∷ 3 ∷ []) 18 1
    ∷ rejects enders (0 ∷ []) endings (0 ∷ 29 ∷ 45 ∷ 61 ∷ []) (1 ∷ 2 ∷ 3 ∷ []) 18 3
    -- a row that is missing, one that is never reached, and one whose last word is missing
    ∷ rejects enders (0 ∷ []) endings (0 ∷ 29 ∷ 45 ∷ []) (1 ∷ 2 ∷ 3 ∷ 3 ∷ []) 18 2
    ∷ rejects enders (0 ∷ []) endings (0 ∷ 29 ∷ 45 ∷ 61 ∷ 61 ∷ []) (1 ∷ 2 ∷ 3 ∷ 3 ∷ []) 18 5
    ∷ rejects enders (0 ∷ []) short_endings (0 ∷ 29 ∷ 45 ∷ 61 ∷ []) (1 ∷ 2 ∷ 3 ∷ 3 ∷ []) 18 2
    -- rows may begin anywhere; but a row that is missing is none, though its words stand at word 0
    ∷ accepts enders (0 ∷ []) turned_endings (3 ∷ 32 ∷ 48 ∷ 0 ∷ []) (1 ∷ 2 ∷ 3 ∷ 3 ∷ [])
    ∷ rejects enders (0 ∷ []) turned_endings (3 ∷ 32 ∷ 48 ∷ []) (1 ∷ 2 ∷ 3 ∷ 3 ∷ []) 18 2
    -- row 1 is not the first that is found
    ∷ rejects enders (0 ∷ []) endings (0 ∷ 61 ∷ 29 ∷ 45 ∷ 61 ∷ []) (2 ∷ 3 ∷ 4 ∷ 4 ∷ []) 18 1
    -- the number of rows, then the file, then the table of seats
    ∷ rejects (1 ∷ []) (33 ∷ []) [] [] [] 17 0
    ∷ rejects (1 ∷ []) (33 ∷ []) [] (0 ∷ []) [] 1 0
    -- no row; a table of seats that has no word for role 1, and one above 32
    ∷ rejects enders (0 ∷ []) endings [] (1 ∷ 2 ∷ 3 ∷ 3 ∷ []) 17 0
    ∷ rejects enders [] endings (0 ∷ 29 ∷ 45 ∷ 61 ∷ []) (1 ∷ 2 ∷ 3 ∷ 3 ∷ []) 17 0
    ∷ rejects enders (33 ∷ []) endings (0 ∷ 29 ∷ 45 ∷ 61 ∷ []) (1 ∷ 2 ∷ 3 ∷ 3 ∷ []) 17 0
    -- a meeting with the last thread; it does not lead to the start
    ∷ accepts meeters (0 ∷ []) meetings (0 ∷ 29 ∷ 58 ∷ 74 ∷ 90 ∷ []) (1 ∷ 2 ∷ 3 ∷ 4 ∷ 4 ∷ [])
    ∷ rejects meeters (0 ∷ []) meetings (0 ∷ 29 ∷ 58 ∷ 74 ∷ 90 ∷ []) (0 ∷ 1 ∷ 2 ∷ 3 ∷ 4 ∷ 4 ∷ []) 18 1
    -- a made channel stays; a row without its two words is another
    ∷ accepts maker (0 ∷ []) makings (0 ∷ 16 ∷ 34 ∷ []) (1 ∷ 2 ∷ [])
    ∷ rejects maker (0 ∷ []) (makings ++ (0 ∷ 0 ∷ nobody)) (0 ∷ 16 ∷ 39 ∷ []) (1 ∷ 2 ∷ []) 18 2
    -- one seat: each waits for the other
    ∷ accepts sitters (1 ∷ []) sittings sitting_places sitting_next
    -- the state that waits is no state without a line
    ∷ rejects sitters (1 ∷ []) sittings sitting_places
    (1 ∷ 2 ∷ 3 ∷ 1 ∷ 5 ∷ 6 ∷ 7 ∷ 8 ∷ 4 ∷ 5 ∷ 9 ∷ 10 ∷ 11 ∷ 7 ∷ 10 ∷ 11 ∷ []) 18 2
    -- with two seats nobody waits
    ∷ rejects sitters (2 ∷ []) sittings sitting_places sitting_next 18 2
    ∷ []
