-- Offers in literal words: a file, a table of seats, a lent state and an output, and what is answered and written.
use Rattle.std.specs.Prelude.{ℕ, ◌≡◌, List, [], ◌∷◌, ◌++◌, replicate}
use Rattle.format.specs.Words.{bytes_of}
use Rattle.certifying_exact.specs.CertificateCases.{enders, sitters, without, sitting, two, one, nobody, waits}
use Rattle.offering.specs.Offers.{offering}

pub data OfferCase : Type 0 where
  -- number, place, count and length, and the output
  answers : List ℕ → List ℕ → List ℕ → List ℕ → ℕ → ℕ → ℕ → ℕ → List ℕ → OfferCase
  -- number and place, and an output of three words that stays
  declines : List ℕ → List ℕ → List ℕ → ℕ → ℕ → OfferCase

abbrev pub OfferShown : OfferCase → Type 0
OfferShown (answers ws seats state out n p c l written) =
    offering (bytes_of ws) seats state out
    ≡ record { answer = record { number = n; place = p; count = c; length = l }; out = written }
OfferShown (declines ws seats state n p) =
    offering (bytes_of ws) seats state (7 ∷ 8 ∷ 9 ∷ [])
    ≡ record { answer = record { number = n; place = p; count = 0; length = 0 }; out = 7 ∷ 8 ∷ 9 ∷ [] }

-- as `enders`, but each session starts with role 1
abbrev pub starters : List ℕ
starters =
    1 ∷ 1 ∷ 1 ∷ 1 ∷ 1 ∷ 2 ∷ 2 ∷ 13 ∷ 14 ∷ 18 ∷ 19 ∷ 21 ∷ 27
    ∷ 1
    ∷ 0 ∷ 0 ∷ 0 ∷ 0
    ∷ 0
    ∷ 1 ∷ 1
    ∷ 1 ∷ 1 ∷ 1 ∷ 1 ∷ 1 ∷ 2
    ∷ 0 ∷ 0 ∷ 0 ∷ 0 ∷ 0 ∷ 0 ∷ []

-- thread 1 ends; thread 2 does
abbrev pub first_ends : List ℕ
first_ends = 1 ∷ 0 ∷ 0 ∷ 16 ∷ one (without 2) 2 nobody

abbrev pub second_ends : List ℕ
second_ends = 2 ∷ 0 ∷ 0 ∷ 16 ∷ one (without 1) 1 nobody

abbrev pub offer_cases : List OfferCase
offer_cases =
    -- two offers, and words past them that stay
    answers enders (0 ∷ []) (two (without 1) (without 2) nobody) (replicate 42 9) 0 0 2 40
    (first_ends ++ (second_ends ++ (9 ∷ 9 ∷ [])))
    -- room for one
    ∷ answers enders (0 ∷ []) (two (without 1) (without 2) nobody) (replicate 39 9) 17 0 1 20
    (first_ends ++ replicate 19 9)
    -- room for none
    ∷ answers enders (0 ∷ []) (two (without 1) (without 2) nobody) (replicate 19 9) 17 0 0 0 (replicate 19 9)
    -- one seat: thread 1 ends, and thread 2 has to wait
    ∷ answers sitters (1 ∷ []) (two (sitting 2) (without 3) nobody) (replicate 55 9) 0 0 2 54
    ((1 ∷ 0 ∷ 0 ∷ 16 ∷ one (without 3) 2 nobody)
    ++ ((2 ∷ 0 ∷ 26 ∷ 30 ∷ two (sitting 2) (without 3) (waits 2)) ++ (9 ∷ [])))
    -- no threads, no offer
    ∷ answers enders (0 ∷ []) (0 ∷ 0 ∷ nobody) (9 ∷ []) 0 0 0 0 (9 ∷ [])
    -- no whole state; a word too many; a wrong number of roles held
    ∷ declines enders (0 ∷ []) (2 ∷ []) 18 0
    ∷ declines enders (0 ∷ []) (0 ∷ 0 ∷ 0 ∷ 0 ∷ []) 18 0
    ∷ declines enders (0 ∷ []) (1 ∷ 0 ∷ (1 ∷ 1 ∷ 0 ∷ 1 ∷ 0 ∷ 0 ∷ 0 ∷ 0 ∷ 0 ∷ 0 ∷ 0 ∷ 0 ∷ []) ++ (1 ∷ nobody)) 18 0
    -- a session that has the role waits; more sessions than seats; no such session; a line without limit
    ∷ declines sitters (1 ∷ []) (two (sitting 2) (without 3) (waits 1)) 18 0
    ∷ declines sitters (1 ∷ []) (two (sitting 2) (sitting 4) nobody) 18 0
    ∷ declines sitters (1 ∷ []) (one (without 3) 3 nobody) 18 0
    ∷ declines sitters (0 ∷ []) (two (sitting 2) (without 3) (waits 2)) 18 0
    -- a table of seats that has no word for role 1, and one above 32; a start that overfills role 1; no file
    ∷ declines enders [] (0 ∷ 0 ∷ nobody) 17 0
    ∷ declines enders (33 ∷ []) (0 ∷ 0 ∷ nobody) 17 0
    ∷ declines starters (1 ∷ []) (0 ∷ 0 ∷ nobody) 26 2
    ∷ declines (1 ∷ []) [] [] 1 0
    ∷ []
