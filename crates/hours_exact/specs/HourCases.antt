-- Cases with hours, in literal words.
use Rattle.std.specs.Prelude.{ℕ, zero, suc, ◌*◌, ◌≡◌, List, [], ◌∷◌, ◌++◌, length}
use Rattle.format.specs.Words.{bytes_of}
use Rattle.format.specs.Answers.{fine, refused}
use Rattle.format.specs.declared.Verdict.{Verdict}
use Rattle.checking_at.specs.CheckAt.{checking_at}
use Rattle.placing.specs.Placing.{no_place}
use Rattle.placing.specs.declared.Placed.{Placed}
use Rattle.placing_at.specs.PlaceAt.{placing_at, placed_bytes_at}

-- a file by its words, a table of hours and a minute, and what is said of them
pub data Case : Type 0 where
  -- the check's answer
  checks : List ℕ → List ℕ → ℕ → Verdict → Case
  -- the words of the placed file and its on steps
  places : List ℕ → List ℕ → ℕ → List ℕ → ℕ → Case
  -- placing's refusal
  refuses : List ℕ → List ℕ → ℕ → ℕ → ℕ → Case

abbrev pub Shown : Case → Type 0
Shown (checks ws t m v) = checking_at (bytes_of ws) t m ≡ v
Shown (places ws t m xs n) =
    (placing_at (bytes_of ws) t m 6908 ≡ record { number = 0; place = 0; length = 2 * length xs; on_steps = n }) × (placed_bytes_at (bytes_of ws) t m ≡ bytes_of xs)
Shown (refuses ws t m n p) = placing_at (bytes_of ws) t m 6908 ≡ no_place n p

-- two users, of whom the first has some roles; role 1 may send on kind 1, role 2 on both; two channels of user 2; one session of user 1
abbrev file : ℕ → ℕ → ℕ → List ℕ → List ℕ
file roles mask nodes words =
    1 ∷ 2 ∷ 2 ∷ 2 ∷ 2 ∷ 1 ∷ nodes ∷ 13 ∷ 15 ∷ 23 ∷ 25 ∷ 29 ∷ 32 ∷ roles ∷ 0 ∷ 1 ∷ 0 ∷ 0 ∷ 0 ∷ 3 ∷ 0 ∷ 0 ∷ 0 ∷ 0 ∷ 0 ∷ 2 ∷ 1 ∷ 2 ∷ 2 ∷ 1 ∷ mask ∷ 1 ∷ words

-- the booking, and as placed
abbrev booking : List ℕ
booking = file 3 0 3 (6 ∷ 257 ∷ 2 ∷ 6 ∷ 258 ∷ 2 ∷ 0 ∷ 0 ∷ 0 ∷ [])

abbrev placed : List ℕ
placed = file 3 0 5 (7 ∷ 2 ∷ 0 ∷ 6 ∷ 257 ∷ 2 ∷ 6 ∷ 258 ∷ 2 ∷ 8 ∷ 2 ∷ 0 ∷ 0 ∷ 0 ∷ 0 ∷ [])

-- one send that both roles permit
abbrev send : List ℕ
send = file 3 0 2 (6 ∷ 257 ∷ 2 ∷ 0 ∷ 0 ∷ 0 ∷ [])

-- a file of version 2: user 1 has role 2, whose junior is role 1, which may send on kind 1
abbrev senior : ℕ → List ℕ → List ℕ
senior nodes words =
    2 ∷ 2 ∷ 2 ∷ 2 ∷ 2 ∷ 1 ∷ nodes ∷ 14 ∷ 16 ∷ 24 ∷ 26 ∷ 28 ∷ 32 ∷ 35 ∷ 2 ∷ 0 ∷ 1 ∷ 0 ∷ 0 ∷ 0 ∷ 0 ∷ 0 ∷ 0 ∷ 0 ∷ 0 ∷ 1 ∷ 0 ∷ 0 ∷ 2 ∷ 1 ∷ 2 ∷ 2 ∷ 1 ∷ 0 ∷ 1 ∷ words

-- role 2 from 07:00 to 15:00 on Monday and Tuesday; role 1 until 07:00 on Monday
abbrev weekdays : List ℕ
weekdays = 2 ∷ 420 ∷ 900 ∷ 2 ∷ 1860 ∷ 2340 ∷ []

abbrev early : List ℕ
early = 1 ∷ 0 ∷ 420 ∷ []

-- so many rows, each with role 2's hours on Monday
unfoldable pub mondays : ℕ → List ℕ
mondays zero = []
mondays (suc n) = 2 ∷ 420 ∷ 900 ∷ mondays n

abbrev pub cases : List Case
cases =
    -- open from the first minute to the last before the end, and in the second row
    checks placed weekdays 419 (refused 24 1)
    ∷ checks placed weekdays 420 fine
    ∷ checks placed weekdays 899 fine
    ∷ checks placed weekdays 900 (refused 24 1)
    ∷ checks placed weekdays 1860 fine
    ∷ places booking weekdays 420 placed 1
    -- no open role permits the second send
    ∷ refuses booking weekdays 900 15 2
    -- role 1, which the smallest list has, is shut; the users' masks are written whole
    ∷ places send early 419 (file 3 0 4 (7 ∷ 1 ∷ 0 ∷ 6 ∷ 257 ∷ 2 ∷ 8 ∷ 1 ∷ 0 ∷ 0 ∷ 0 ∷ 0 ∷ [])) 1
    ∷ places send early 420 (file 3 0 4 (7 ∷ 2 ∷ 0 ∷ 6 ∷ 257 ∷ 2 ∷ 8 ∷ 2 ∷ 0 ∷ 0 ∷ 0 ∷ 0 ∷ [])) 1
    -- a role without rows is always open
    ∷ checks placed early 5000 fine
    -- an open senior keeps what its closed junior permits, and a closed one permits nothing
    ∷ places (senior 2 (6 ∷ 257 ∷ 2 ∷ 0 ∷ 0 ∷ 0 ∷ [])) early 420 (senior 4 (7 ∷ 2 ∷ 0 ∷ 6 ∷ 257 ∷ 2 ∷ 8 ∷ 2 ∷ 0 ∷ 0 ∷ 0 ∷ 0 ∷ [])) 1
    ∷ refuses (senior 2 (6 ∷ 257 ∷ 2 ∷ 0 ∷ 0 ∷ 0 ∷ [])) weekdays 0 15 1
    -- a closed starting role permits; on of it, though it is active, is 24
    ∷ checks (file 3 2 2 (6 ∷ 258 ∷ 2 ∷ 0 ∷ 0 ∷ 0 ∷ [])) weekdays 0 fine
    ∷ checks (file 3 2 3 (7 ∷ 2 ∷ 0 ∷ 6 ∷ 258 ∷ 2 ∷ 0 ∷ 0 ∷ 0 ∷ [])) weekdays 0 (refused 24 1)
    -- on of a closed role that is not assigned: 11; 24 after and before a 13
    ∷ checks (file 1 0 2 (7 ∷ 2 ∷ 0 ∷ 0 ∷ 0 ∷ 0 ∷ [])) weekdays 0 (refused 11 1)
    ∷ checks (file 3 0 3 (6 ∷ 257 ∷ 2 ∷ 7 ∷ 2 ∷ 0 ∷ 0 ∷ 0 ∷ 0 ∷ [])) weekdays 0 (refused 13 1)
    ∷ checks (file 3 0 4 (7 ∷ 2 ∷ 0 ∷ 8 ∷ 2 ∷ 0 ∷ 6 ∷ 257 ∷ 2 ∷ 0 ∷ 0 ∷ 0 ∷ [])) weekdays 0 (refused 24 1)
    -- 22: a minute past the week, a torn row; 22 before the file, after 17's turn
    ∷ checks booking weekdays 10080 (refused 22 0)
    ∷ checks (1 ∷ []) (2 ∷ 420 ∷ []) 0 (refused 22 0)
    ∷ refuses booking weekdays 10080 22 0
    -- 64 rows are fine, and the last of them opens the role; 65 are 22, before the rows are looked at
    ∷ checks placed (mondays 64) 420 fine
    ∷ checks placed (mondays 63 ++ (2 ∷ 1860 ∷ 2340 ∷ [])) 1860 fine
    ∷ places booking (mondays 64) 420 placed 1
    ∷ checks placed (mondays 65) 420 (refused 22 0)
    ∷ refuses booking (mondays 64 ++ (0 ∷ 0 ∷ 0 ∷ [])) 420 22 0
    -- 23: role 0, at its row, also with no file planned
    ∷ checks booking (2 ∷ 420 ∷ 900 ∷ 0 ∷ 0 ∷ 1 ∷ []) 0 (refused 23 2)
    ∷ refuses booking (0 ∷ 0 ∷ 1 ∷ []) 0 23 1
    ∷ checks [] (0 ∷ 0 ∷ 1 ∷ []) 0 (refused 23 1)
    -- 23: no such role, first not below end, end above 10,080, which 10,080 is not
    ∷ checks booking (2 ∷ 420 ∷ 900 ∷ 3 ∷ 0 ∷ 1 ∷ []) 0 (refused 23 2)
    ∷ checks booking (2 ∷ 900 ∷ 900 ∷ []) 0 (refused 23 1)
    ∷ refuses booking (2 ∷ 420 ∷ 10081 ∷ []) 0 23 1
    ∷ checks placed (2 ∷ 0 ∷ 10080 ∷ []) 10079 fine
    -- 8 before 23, 23 before 9
    ∷ checks (file 3 0 1 (9 ∷ 0 ∷ 0 ∷ [])) (3 ∷ 0 ∷ 1 ∷ []) 0 (refused 8 1)
    ∷ checks (file 3 0 2 (7 ∷ 3 ∷ 0 ∷ 0 ∷ 0 ∷ 0 ∷ [])) (3 ∷ 0 ∷ 1 ∷ []) 0 (refused 23 1)
    -- zero bytes: no role is there
    ∷ checks [] [] 10079 fine
    ∷ checks [] (1 ∷ 0 ∷ 1 ∷ []) 0 (refused 23 1)
    ∷ places [] [] 0 (1 ∷ 0 ∷ 0 ∷ 0 ∷ 0 ∷ 0 ∷ 0 ∷ 13 ∷ 13 ∷ 13 ∷ 13 ∷ 13 ∷ 13 ∷ []) 0
    ∷ []
