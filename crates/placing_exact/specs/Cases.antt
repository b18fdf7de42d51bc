-- The paper's starred cases, those of idle holding (02, K4), of version 2, of version 3 (02, K11) and of zero bytes (02, K7). Braces hold the roles that permit a step.
use Rattle.std.specs.Prelude.{ℕ, ◌*◌, ◌≡◌, List, [], ◌∷◌, ◌++◌, map, length}
use Rattle.format.specs.Words.{bytes_of}
use Rattle.format.specs.Answers.{fine, refused}
use Rattle.format.specs.Contents.{contents_of}
use Rattle.format.specs.declared.Verdict.{Verdict}
use Rattle.checking.specs.Check.{checking}
use Rattle.states.specs.declared.Turn.{Turn}
use Rattle.placing.specs.Placing.{turns_for, no_place, placing, placed_bytes}
use Rattle.placing.specs.declared.Placed.{Placed}

-- a file, by its words or its bytes, and what is said of it
pub data Case : Type 0 where
  -- the check's answer
  checks : List ℕ → Verdict → Case
  -- the words of the placed file and its on steps
  places : List ℕ → List ℕ → ℕ → Case
  -- the same by bytes: those of a file, and of the placed file
  places_bytes : List ℕ → List ℕ → ℕ → Case
  -- the states taken
  takes : List ℕ → List ℕ → Case
  -- placing's refusal
  refuses : List ℕ → ℕ → ℕ → Case

abbrev pub Shown : Case → Type 0
Shown (checks ws v) = checking (bytes_of ws) ≡ v
Shown (places ws xs n) =
    (placing (bytes_of ws) 6908 ≡ record { number = 0; place = 0; length = 2 * length xs; on_steps = n }) × (placed_bytes (bytes_of ws) ≡ bytes_of xs)
Shown (places_bytes f g n) = (placing f 6874 ≡ record { number = 0; place = 0; length = length g; on_steps = n }) × (placed_bytes f ≡ g)
Shown (takes ws ss) = map (λ (t : Turn). t.to) (turns_for (contents_of (bytes_of ws))) ≡ ss
Shown (refuses ws n p) = placing (bytes_of ws) 6908 ≡ no_place n p

-- the booking's tables (two users, two roles, two kinds, two channels of user 2), with the grants of the two roles, and one session of user 1
abbrev file : List ℕ → ℕ → List ℕ → List ℕ
file grants nodes words =
    1 ∷ 2 ∷ 2 ∷ 2 ∷ 2 ∷ 1 ∷ nodes ∷ 13 ∷ 15 ∷ 23 ∷ 25 ∷ 29 ∷ 32 ∷ 3 ∷ 0 ∷ grants ++ 0 ∷ 0 ∷ 2 ∷ 1 ∷ 2 ∷ 2 ∷ 1 ∷ 0 ∷ 1 ∷ words

-- the booking's grants: role 1 may send on kind 1, role 2 on both; and one role for each kind
abbrev both : List ℕ
both = 1 ∷ 0 ∷ 0 ∷ 0 ∷ 3 ∷ 0 ∷ 0 ∷ 0 ∷ []

abbrev apart : List ℕ
apart = 1 ∷ 0 ∷ 0 ∷ 0 ∷ 2 ∷ 0 ∷ 0 ∷ 0 ∷ []

-- one user without a role, one kind, a channel of the user, and two nodes
abbrev unroled : List ℕ → List ℕ
unroled words = 1 ∷ 1 ∷ 0 ∷ 1 ∷ 1 ∷ 1 ∷ 2 ∷ 13 ∷ 14 ∷ 14 ∷ 15 ∷ 17 ∷ 20 ∷ 0 ∷ 0 ∷ 1 ∷ 1 ∷ 1 ∷ 0 ∷ 1 ∷ words

-- two users, two roles, three kinds, a channel of each for user 2, and one session of user 1: role 1 may send on kinds 1 and 2, role 2 on kinds 1 and 3
abbrev theatre : ℕ → List ℕ → List ℕ
theatre nodes words =
    1 ∷ 2 ∷ 2 ∷ 3 ∷ 3 ∷ 1 ∷ nodes ∷ 13 ∷ 15 ∷ 23 ∷ 26 ∷ 32 ∷ 35 ∷ 3 ∷ 0 ∷ 3 ∷ 0 ∷ 0 ∷ 0 ∷ 5 ∷ 0 ∷ 0 ∷ 0 ∷ 0 ∷ 0 ∷ 0 ∷ 2 ∷ 1 ∷ 2 ∷ 2 ∷ 2 ∷ 3 ∷ 1 ∷ 0 ∷ 1 ∷ words

abbrev booking : List ℕ
booking = file both 3 (6 ∷ 257 ∷ 2 ∷ 6 ∷ 258 ∷ 2 ∷ 0 ∷ 0 ∷ 0 ∷ [])

abbrev placed : List ℕ
placed = file both 5 (7 ∷ 2 ∷ 0 ∷ 6 ∷ 257 ∷ 2 ∷ 6 ∷ 258 ∷ 2 ∷ 8 ∷ 2 ∷ 0 ∷ 0 ∷ 0 ∷ 0 ∷ [])

-- the booking in its 82 bytes, and placed in 94: version and counts, offsets, users, roles, kinds, channels, session, nodes
abbrev booking_bytes : List ℕ
booking_bytes =
    1 ∷ 0 ∷ 2 ∷ 0 ∷ 2 ∷ 0 ∷ 2 ∷ 0 ∷ 2 ∷ 0 ∷ 1 ∷ 0 ∷ 3 ∷ 0
    ∷ 13 ∷ 0 ∷ 15 ∷ 0 ∷ 23 ∷ 0 ∷ 25 ∷ 0 ∷ 29 ∷ 0 ∷ 32 ∷ 0
    ∷ 3 ∷ 0 ∷ 0 ∷ 0
    ∷ 1 ∷ 0 ∷ 0 ∷ 0 ∷ 0 ∷ 0 ∷ 0 ∷ 0 ∷ 3 ∷ 0 ∷ 0 ∷ 0 ∷ 0 ∷ 0 ∷ 0 ∷ 0
    ∷ 0 ∷ 0 ∷ 0 ∷ 0
    ∷ 2 ∷ 0 ∷ 1 ∷ 0 ∷ 2 ∷ 0 ∷ 2 ∷ 0
    ∷ 1 ∷ 0 ∷ 0 ∷ 0 ∷ 1 ∷ 0
    ∷ 6 ∷ 0 ∷ 1 ∷ 1 ∷ 2 ∷ 0 ∷ 6 ∷ 0 ∷ 2 ∷ 1 ∷ 2 ∷ 0 ∷ 0 ∷ 0 ∷ 0 ∷ 0 ∷ 0 ∷ 0 ∷ []

abbrev placed_booking : List ℕ
placed_booking =
    1 ∷ 0 ∷ 2 ∷ 0 ∷ 2 ∷ 0 ∷ 2 ∷ 0 ∷ 2 ∷ 0 ∷ 1 ∷ 0 ∷ 5 ∷ 0
    ∷ 13 ∷ 0 ∷ 15 ∷ 0 ∷ 23 ∷ 0 ∷ 25 ∷ 0 ∷ 29 ∷ 0 ∷ 32 ∷ 0
    ∷ 3 ∷ 0 ∷ 0 ∷ 0
    ∷ 1 ∷ 0 ∷ 0 ∷ 0 ∷ 0 ∷ 0 ∷ 0 ∷ 0 ∷ 3 ∷ 0 ∷ 0 ∷ 0 ∷ 0 ∷ 0 ∷ 0 ∷ 0
    ∷ 0 ∷ 0 ∷ 0 ∷ 0
    ∷ 2 ∷ 0 ∷ 1 ∷ 0 ∷ 2 ∷ 0 ∷ 2 ∷ 0
    ∷ 1 ∷ 0 ∷ 0 ∷ 0 ∷ 1 ∷ 0
    ∷ 7 ∷ 0 ∷ 2 ∷ 0 ∷ 0 ∷ 0 ∷ 6 ∷ 0 ∷ 1 ∷ 1 ∷ 2 ∷ 0 ∷ 6 ∷ 0 ∷ 2 ∷ 1 ∷ 2 ∷ 0 ∷ 8 ∷ 0 ∷ 2 ∷ 0 ∷ 0 ∷ 0 ∷ 0 ∷ 0 ∷ 0 ∷ 0 ∷ 0 ∷ 0 ∷ []

abbrev pub cases : List Case
cases =
    -- the booking, and as placed
    places booking placed 1
    ∷ places_bytes booking_bytes placed_booking 1
    ∷ checks booking (refused 13 1)
    ∷ checks placed fine
    -- fork of two {2} sends
    ∷ places (file apart 5 (1 ∷ 4 ∷ 0 ∷ 6 ∷ 258 ∷ 2 ∷ 0 ∷ 0 ∷ 0 ∷ 6 ∷ 258 ∷ 2 ∷ 0 ∷ 0 ∷ 0 ∷ []))
    (file apart 8 (7 ∷ 2 ∷ 0 ∷ 1 ∷ 6 ∷ 0 ∷ 6 ∷ 258 ∷ 2 ∷ 8 ∷ 2 ∷ 0 ∷ 0 ∷ 0 ∷ 0 ∷ 6 ∷ 258 ∷ 2 ∷ 8 ∷ 2 ∷ 0 ∷ 0 ∷ 0 ∷ 0 ∷ [])) 1
    -- {1}, {2}, {1}
    ∷ places (file apart 4 (6 ∷ 257 ∷ 2 ∷ 6 ∷ 258 ∷ 2 ∷ 6 ∷ 257 ∷ 2 ∷ 0 ∷ 0 ∷ 0 ∷ []))
    (file apart 10 (7 ∷ 1 ∷ 0 ∷ 6 ∷ 257 ∷ 2 ∷ 8 ∷ 1 ∷ 0 ∷ 7 ∷ 2 ∷ 0 ∷ 6 ∷ 258 ∷ 2 ∷ 8 ∷ 2 ∷ 0 ∷ 7 ∷ 1 ∷ 0 ∷ 6 ∷ 257 ∷ 2 ∷ 8 ∷ 1 ∷ 0 ∷ 0 ∷ 0 ∷ 0 ∷ [])) 3
    -- {1, 2} alone
    ∷ takes (file both 2 (6 ∷ 257 ∷ 2 ∷ 0 ∷ 0 ∷ 0 ∷ [])) (1 ∷ 0 ∷ [])
    -- {1}, compare, {1}
    ∷ takes (file apart 4 (6 ∷ 257 ∷ 2 ∷ 4 ∷ 1 ∷ 2 ∷ 6 ∷ 257 ∷ 2 ∷ 0 ∷ 0 ∷ 0 ∷ [])) (1 ∷ 1 ∷ 1 ∷ 0 ∷ [])
    -- {1}, compare, {2}
    ∷ takes (file apart 4 (6 ∷ 257 ∷ 2 ∷ 4 ∷ 1 ∷ 2 ∷ 6 ∷ 258 ∷ 2 ∷ 0 ∷ 0 ∷ 0 ∷ [])) (1 ∷ 0 ∷ 2 ∷ 0 ∷ [])
    -- no roles, new then end: the same file
    ∷ places (unroled (3 ∷ 1 ∷ 0 ∷ 0 ∷ 0 ∷ 0 ∷ [])) (unroled (3 ∷ 1 ∷ 0 ∷ 0 ∷ 0 ∷ 0 ∷ [])) 0
    -- send, no role
    ∷ refuses (unroled (6 ∷ 257 ∷ 1 ∷ 0 ∷ 0 ∷ 0 ∷ [])) 15 1
    -- off from mask 0
    ∷ checks (file apart 2 (8 ∷ 1 ∷ 0 ∷ 0 ∷ 0 ∷ 0 ∷ [])) (refused 12 1)
    -- on 1, on 1, off 1, {1}
    ∷ checks (file apart 5 (7 ∷ 1 ∷ 0 ∷ 7 ∷ 1 ∷ 0 ∷ 8 ∷ 1 ∷ 0 ∷ 6 ∷ 257 ∷ 2 ∷ 0 ∷ 0 ∷ 0 ∷ [])) (refused 13 4)
    -- on 1, fork, off 1 in one branch, {1} in the other
    ∷ checks (file apart 6 (7 ∷ 1 ∷ 0 ∷ 1 ∷ 5 ∷ 0 ∷ 8 ∷ 1 ∷ 0 ∷ 0 ∷ 0 ∷ 0 ∷ 6 ∷ 257 ∷ 2 ∷ 0 ∷ 0 ∷ 0 ∷ [])) fine
    -- {1, 2}, then a fork: five compares and {1} in one branch, {2} in the other; role 1 held through the compares costs as few on steps
    ∷ places (theatre 11 (6 ∷ 257 ∷ 2 ∷ 1 ∷ 10 ∷ 0 ∷ 4 ∷ 1 ∷ 1 ∷ 4 ∷ 1 ∷ 1 ∷ 4 ∷ 1 ∷ 1 ∷ 4 ∷ 1 ∷ 1 ∷ 4 ∷ 1 ∷ 1 ∷ 6 ∷ 258 ∷ 2 ∷ 0 ∷ 0 ∷ 0 ∷ 6 ∷ 259 ∷ 2 ∷ 0 ∷ 0 ∷ 0 ∷ []))
    (theatre 16 (7 ∷ 2 ∷ 0 ∷ 6 ∷ 257 ∷ 2 ∷ 1 ∷ 14 ∷ 0 ∷ 8 ∷ 2 ∷ 0 ∷ 4 ∷ 1 ∷ 1 ∷ 4 ∷ 1 ∷ 1 ∷ 4 ∷ 1 ∷ 1 ∷ 4 ∷ 1 ∷ 1 ∷ 4 ∷ 1 ∷ 1 ∷ 7 ∷ 1 ∷ 0 ∷ 6 ∷ 258 ∷ 2 ∷ 8 ∷ 1 ∷ 0 ∷ 0 ∷ 0 ∷ 0 ∷ 6 ∷ 259 ∷ 2 ∷ 8 ∷ 2 ∷ 0 ∷ 0 ∷ 0 ∷ 0 ∷ [])) 2
    -- the same with one compare, a repeat, a new, and a fork that ends in its first branch, in place of the five
    ∷ takes (theatre 7 (6 ∷ 257 ∷ 2 ∷ 1 ∷ 6 ∷ 0 ∷ 4 ∷ 1 ∷ 1 ∷ 6 ∷ 258 ∷ 2 ∷ 0 ∷ 0 ∷ 0 ∷ 6 ∷ 259 ∷ 2 ∷ 0 ∷ 0 ∷ 0 ∷ [])) (2 ∷ 2 ∷ 0 ∷ 1 ∷ 0 ∷ 2 ∷ 0 ∷ [])
    ∷ takes (theatre 7 (6 ∷ 257 ∷ 2 ∷ 1 ∷ 6 ∷ 0 ∷ 2 ∷ 0 ∷ 0 ∷ 6 ∷ 258 ∷ 2 ∷ 0 ∷ 0 ∷ 0 ∷ 6 ∷ 259 ∷ 2 ∷ 0 ∷ 0 ∷ 0 ∷ [])) (2 ∷ 2 ∷ 0 ∷ 1 ∷ 0 ∷ 2 ∷ 0 ∷ [])
    ∷ takes (theatre 7 (6 ∷ 257 ∷ 2 ∷ 1 ∷ 6 ∷ 0 ∷ 3 ∷ 1 ∷ 0 ∷ 6 ∷ 258 ∷ 2 ∷ 0 ∷ 0 ∷ 0 ∷ 6 ∷ 259 ∷ 2 ∷ 0 ∷ 0 ∷ 0 ∷ [])) (2 ∷ 2 ∷ 0 ∷ 1 ∷ 0 ∷ 2 ∷ 0 ∷ [])
    ∷ takes (theatre 8 (6 ∷ 257 ∷ 2 ∷ 1 ∷ 7 ∷ 0 ∷ 1 ∷ 5 ∷ 0 ∷ 0 ∷ 0 ∷ 0 ∷ 6 ∷ 258 ∷ 2 ∷ 0 ∷ 0 ∷ 0 ∷ 6 ∷ 259 ∷ 2 ∷ 0 ∷ 0 ∷ 0 ∷ [])) (2 ∷ 2 ∷ 0 ∷ 0 ∷ 1 ∷ 0 ∷ 2 ∷ 0 ∷ [])
    -- and with nothing in their place: as many of both, so that the smallest list is taken
    ∷ takes (theatre 6 (6 ∷ 257 ∷ 2 ∷ 1 ∷ 5 ∷ 0 ∷ 6 ∷ 258 ∷ 2 ∷ 0 ∷ 0 ∷ 0 ∷ 6 ∷ 259 ∷ 2 ∷ 0 ∷ 0 ∷ 0 ∷ [])) (1 ∷ 1 ∷ 1 ∷ 0 ∷ 2 ∷ 0 ∷ [])
    ∷ []

-- A file of version 2 in its words: the booking's tables with three roles and the masks of their juniors, one session of user 1, who has role 3 alone.
-- Role 1 may send on kind 1, role 2 on kind 2, role 3 on neither by its own record.
abbrev with_masks : List ℕ → ℕ → List ℕ → List ℕ
with_masks juniors nodes words =
    2 ∷ 2 ∷ 3 ∷ 2 ∷ 2 ∷ 1 ∷ nodes ∷ 14 ∷ 16 ∷ 28 ∷ 31 ∷ 33 ∷ 37 ∷ 40 ∷ 4 ∷ 0 ∷ 1 ∷ 0 ∷ 0 ∷ 0 ∷ 2 ∷ 0 ∷ 0 ∷ 0 ∷ 0 ∷ 0 ∷ 0 ∷ 0
    ∷ juniors ++ 0 ∷ 0 ∷ 2 ∷ 1 ∷ 2 ∷ 2 ∷ 1 ∷ 0 ∷ 1 ∷ words

-- a chain: role 3 has role 2 for a junior, and role 2 role 1
abbrev chain : List ℕ
chain = 0 ∷ 1 ∷ 2 ∷ []

-- two sends, on kind 1 and on kind 2
abbrev two_sends : List ℕ
two_sends = 6 ∷ 257 ∷ 2 ∷ 6 ∷ 258 ∷ 2 ∷ 0 ∷ 0 ∷ 0 ∷ []

-- with on of a role before them and off after them
abbrev in_role : ℕ → List ℕ
in_role role = 7 ∷ role ∷ 0 ∷ 6 ∷ 257 ∷ 2 ∷ 6 ∷ 258 ∷ 2 ∷ 8 ∷ role ∷ 0 ∷ 0 ∷ 0 ∷ 0 ∷ []

abbrev pub junior_cases : List Case
junior_cases =
    -- what the chain permits is placed in role 3, and the file keeps its version and masks
    places (with_masks chain 3 two_sends) (with_masks chain 5 (in_role 3)) 1
    ∷ checks (with_masks chain 5 (in_role 3)) fine
    -- one junior of two: kind 1 is not permitted
    ∷ refuses (with_masks (0 ∷ 0 ∷ 2 ∷ []) 3 two_sends) 15 1
    ∷ checks (with_masks (0 ∷ 0 ∷ 2 ∷ []) 5 (in_role 3)) (refused 13 2)
    -- no mask is as no junior
    ∷ refuses (with_masks (0 ∷ 0 ∷ 0 ∷ []) 3 two_sends) 15 1
    -- a junior isn't the user's to switch on
    ∷ checks (with_masks chain 5 (in_role 2)) (refused 11 1)
    -- a role's own number, a higher one, and one out of count are 21 at the mask's offset
    ∷ checks (with_masks (0 ∷ 2 ∷ 0 ∷ []) 3 two_sends) (refused 21 29)
    ∷ checks (with_masks (2 ∷ 0 ∷ 0 ∷ []) 3 two_sends) (refused 21 28)
    ∷ checks (with_masks (0 ∷ 0 ∷ 32768 ∷ []) 3 two_sends) (refused 21 30)
    -- 6 at a later place comes before it, and 7 after it
    ∷ checks (2 ∷ 2 ∷ 3 ∷ 2 ∷ 2 ∷ 1 ∷ 3 ∷ 14 ∷ 16 ∷ 28 ∷ 31 ∷ 33 ∷ 37 ∷ 40 ∷ 4 ∷ 0 ∷ 1 ∷ 0 ∷ 0 ∷ 0 ∷ 2 ∷ 0 ∷ 0 ∷ 0 ∷ 0 ∷ 0 ∷ 0 ∷ 0 ∷ 0 ∷ 2 ∷ 0 ∷ 0 ∷ 0 ∷ 2 ∷ 1 ∷ 2 ∷ 3 ∷ 1 ∷ 0 ∷ 1 ∷ two_sends) (refused 6 35)
    ∷ checks (2 ∷ 2 ∷ 3 ∷ 2 ∷ 2 ∷ 1 ∷ 3 ∷ 14 ∷ 16 ∷ 28 ∷ 31 ∷ 33 ∷ 37 ∷ 40 ∷ 4 ∷ 0 ∷ 1 ∷ 0 ∷ 0 ∷ 0 ∷ 2 ∷ 0 ∷ 0 ∷ 0 ∷ 0 ∷ 0 ∷ 0 ∷ 0 ∷ 0 ∷ 2 ∷ 0 ∷ 0 ∷ 0 ∷ 2 ∷ 1 ∷ 2 ∷ 2 ∷ 3 ∷ 0 ∷ 1 ∷ two_sends) (refused 21 29)
    -- 26 bytes whose first word is 2, the least file of version 2, and version 4
    ∷ checks (2 ∷ 0 ∷ 0 ∷ 0 ∷ 0 ∷ 0 ∷ 0 ∷ 13 ∷ 13 ∷ 13 ∷ 13 ∷ 13 ∷ 13 ∷ []) (refused 1 0)
    ∷ checks (2 ∷ 0 ∷ 0 ∷ 0 ∷ 0 ∷ 0 ∷ 0 ∷ 14 ∷ 14 ∷ 14 ∷ 14 ∷ 14 ∷ 14 ∷ 14 ∷ []) fine
    ∷ checks (4 ∷ 0 ∷ 0 ∷ 0 ∷ 0 ∷ 0 ∷ 0 ∷ 14 ∷ 14 ∷ 14 ∷ 14 ∷ 14 ∷ 14 ∷ 14 ∷ []) (refused 2 0)
    ∷ []

-- the same words in version 3
abbrev third : List ℕ → List ℕ
third [] = []
third (v ∷ ws) = 3 ∷ ws

abbrev pub column_cases : List Case
column_cases =
    -- all tags, then all f1, then all f2: the placed file has as many words between them as it has nodes
    places (third (with_masks chain 3 (6 ∷ 6 ∷ 0 ∷ 257 ∷ 258 ∷ 0 ∷ 2 ∷ 2 ∷ 0 ∷ []))) (third (with_masks chain 5 (7 ∷ 6 ∷ 6 ∷ 8 ∷ 0 ∷ 3 ∷ 257 ∷ 258 ∷ 3 ∷ 0 ∷ 0 ∷ 2 ∷ 2 ∷ 0 ∷ 0 ∷ []))) 1
    ∷ checks (third (with_masks chain 5 (7 ∷ 6 ∷ 6 ∷ 8 ∷ 0 ∷ 3 ∷ 257 ∷ 258 ∷ 3 ∷ 0 ∷ 0 ∷ 2 ∷ 2 ∷ 0 ∷ 0 ∷ []))) fine
    -- rows in a column file: 257 is no tag
    ∷ checks (third (with_masks chain 3 two_sends)) (refused 8 2)
    -- a mask of juniors is judged, at its offset
    ∷ checks (third (with_masks (0 ∷ 2 ∷ 0 ∷ []) 3 two_sends)) (refused 21 29)
    -- 26 bytes whose first word is 3, and the least file of version 3
    ∷ checks (3 ∷ 0 ∷ 0 ∷ 0 ∷ 0 ∷ 0 ∷ 0 ∷ 13 ∷ 13 ∷ 13 ∷ 13 ∷ 13 ∷ 13 ∷ []) (refused 1 0)
    ∷ checks (3 ∷ 0 ∷ 0 ∷ 0 ∷ 0 ∷ 0 ∷ 0 ∷ 14 ∷ 14 ∷ 14 ∷ 14 ∷ 14 ∷ 14 ∷ 14 ∷ []) fine
    ∷ []

-- "Zero bytes shall read as the version 1 file with all counts 0 .. One to 25 bytes still give 1": one byte and 25 are in the promise of all lengths (`short_refused`)
abbrev pub nothing_cases : List Case
nothing_cases =
    checks [] fine
    ∷ takes [] []
    ∷ places_bytes [] (1 ∷ 0 ∷ 0 ∷ 0 ∷ 0 ∷ 0 ∷ 0 ∷ 0 ∷ 0 ∷ 0 ∷ 0 ∷ 0 ∷ 0 ∷ 0 ∷ 13 ∷ 0 ∷ 13 ∷ 0 ∷ 13 ∷ 0 ∷ 13 ∷ 0 ∷ 13 ∷ 0 ∷ 13 ∷ 0 ∷ []) 0
    -- that file is placed as it is
    ∷ places (1 ∷ 0 ∷ 0 ∷ 0 ∷ 0 ∷ 0 ∷ 0 ∷ 13 ∷ 13 ∷ 13 ∷ 13 ∷ 13 ∷ 13 ∷ []) (1 ∷ 0 ∷ 0 ∷ 0 ∷ 0 ∷ 0 ∷ 0 ∷ 13 ∷ 13 ∷ 13 ∷ 13 ∷ 13 ∷ 13 ∷ []) 0
    -- 2 bytes, 24 and the 26 with an offset of 12
    ∷ checks (1 ∷ []) (refused 1 0)
    ∷ checks (1 ∷ 0 ∷ 0 ∷ 0 ∷ 0 ∷ 0 ∷ 0 ∷ 13 ∷ 13 ∷ 13 ∷ 13 ∷ 13 ∷ []) (refused 1 0)
    ∷ checks (1 ∷ 0 ∷ 0 ∷ 0 ∷ 0 ∷ 0 ∷ 0 ∷ 13 ∷ 13 ∷ 13 ∷ 13 ∷ 13 ∷ 12 ∷ []) (refused 4 0)
    ∷ []
