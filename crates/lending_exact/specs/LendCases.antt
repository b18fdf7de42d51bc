-- The lent list of threads in literal records and words: a file, the 64 records, the 162 words beside them, what a
-- start or a choice answers, and what it leaves.
use Rattle.std.specs.Prelude.{ℕ, zero, suc, ◌≡◌, List, [], ◌∷◌, ◌++◌, length, replicate}
use Rattle.format.specs.Words.{bytes_of}
use Rattle.format.specs.Answers.{fine, refused}
use Rattle.format.specs.declared.Verdict.{Verdict}
use Rattle.steps.specs.declared.Thread.{Thread}
use Rattle.lending.specs.Lent.{choosing, records_over, beside_over}
use Rattle.lending.specs.Starting.{starting, records_started, beside_started}

-- a file's words, records and the words beside them, and what is said of them: the answer, the records and the words
-- that are left
pub data LendCase : Type 0 where
  starts : List ℕ → List Thread → List ℕ → Verdict → List Thread → List ℕ → LendCase
  -- a choice of a thread with a partner
  chooses : List ℕ → List Thread → List ℕ → ℕ → ℕ → Verdict → List Thread → List ℕ → LendCase

abbrev pub LendShown : LendCase → Type 0
LendShown (starts ws l b v l' b') =
    (starting (bytes_of ws) (length l) (length b) ≡ v) × (records_started (bytes_of ws) l b ≡ l')
    × (beside_started (bytes_of ws) l b ≡ b')
LendShown (chooses ws l b i p v l' b') =
    (choosing (bytes_of ws) l b i p ≡ v) × (records_over (bytes_of ws) l b i p ≡ l')
    × (beside_over (bytes_of ws) l b i p ≡ b')

-- a choice that is carried out, and one that is refused: nothing changes
abbrev carried : List ℕ → List Thread → List ℕ → ℕ → ℕ → List Thread → List ℕ → LendCase
carried ws l b i p l' b' = chooses ws l b i p fine l' b'

abbrev refusing : List ℕ → List Thread → List ℕ → ℕ → ℕ → Verdict → LendCase
refusing ws l b i p v = chooses ws l b i p v l b

-- role 1 may send on kind 1, role 2 may receive; user 1 has role 1, user 2 has role 2 and channel 1; each has a session
-- in which its role is active: user 1 sends its own number, user 2 receives
abbrev meet : List ℕ
meet =
    1 ∷ 2 ∷ 2 ∷ 1 ∷ 1 ∷ 2 ∷ 4 ∷ 13 ∷ 15 ∷ 23 ∷ 24 ∷ 26 ∷ 32
    ∷ 1 ∷ 2
    ∷ 1 ∷ 0 ∷ 0 ∷ 0 ∷ 0 ∷ 0 ∷ 1 ∷ 0
    ∷ 0
    ∷ 2 ∷ 1
    ∷ 1 ∷ 1 ∷ 1 ∷ 2 ∷ 2 ∷ 3
    ∷ 6 ∷ 257 ∷ 1 ∷ 0 ∷ 0 ∷ 0 ∷ 5 ∷ 257 ∷ 0 ∷ 0 ∷ 0 ∷ 0 ∷ []

-- a user without roles makes a channel of kind 1
abbrev bare : List ℕ
bare = 1 ∷ 1 ∷ 0 ∷ 1 ∷ 0 ∷ 1 ∷ 2 ∷ 13 ∷ 14 ∷ 14 ∷ 15 ∷ 15 ∷ 18 ∷ 0 ∷ 0 ∷ 1 ∷ 0 ∷ 1 ∷ 3 ∷ 1 ∷ 0 ∷ 0 ∷ 0 ∷ 0 ∷ []

-- three users, of whom the third has role 1, and two kinds: there is a user 3, and no kind 3. The session, of user 3
-- with role 1 active: make a channel of kind 2, compare it with itself, role 1 off, receive on it
abbrev maker : List ℕ
maker =
    1 ∷ 3 ∷ 1 ∷ 2 ∷ 0 ∷ 1 ∷ 5 ∷ 13 ∷ 16 ∷ 20 ∷ 22 ∷ 22 ∷ 25
    ∷ 0 ∷ 0 ∷ 1
    ∷ 0 ∷ 0 ∷ 0 ∷ 0
    ∷ 0 ∷ 0
    ∷ 3 ∷ 1 ∷ 1
    ∷ 3 ∷ 2 ∷ 0 ∷ 4 ∷ 512 ∷ 512 ∷ 8 ∷ 1 ∷ 0 ∷ 5 ∷ 512 ∷ 0 ∷ 0 ∷ 0 ∷ 0 ∷ []

-- a thread of a user, at a node, with a mask and a first variable
abbrev at : ℕ → ℕ → ℕ → ℕ → Thread
at u j m v = record { user = u; node = j; mask = m; vars = v ∷ 0 ∷ 0 ∷ 0 ∷ 0 ∷ 0 ∷ 0 ∷ 0 ∷ [] }

-- a record that stands for no thread
abbrev other : Thread
other = at 9 9 9 9

-- 64 records, of which the last 63 or 62 stand for no thread
abbrev one : Thread → List Thread
one t = t ∷ replicate 63 other

abbrev two : Thread → Thread → List Thread
two t r = t ∷ r ∷ replicate 62 other

-- the totals: so many threads wait for kind 1, and none for another
abbrev waiting_one : ℕ → List ℕ
waiting_one n = n ∷ replicate 31 0

-- so many threads and made channels, 128 words, and the totals of so many threads that wait for kind 1
abbrev counts : ℕ → ℕ → ℕ → List ℕ
counts threads made n = threads ∷ made ∷ replicate 128 7 ++ waiting_one n

-- the words beside one thread: no channel is made; one is, with its owner and its kind, and so many threads wait for
-- kind 2
abbrev none_made : List ℕ
none_made = 1 ∷ 0 ∷ replicate 128 7 ++ replicate 32 0

abbrev one_made : ℕ → ℕ → ℕ → List ℕ
one_made owner kind n = 1 ∷ 1 ∷ owner ∷ kind ∷ replicate 126 7 ++ (0 ∷ n ∷ replicate 30 0)

-- so many made channels of user 3 and kind 2
unfoldable pub made : ℕ → List ℕ
made zero = []
made (suc n) = 3 ∷ 2 ∷ made n

-- 162 words that stand for nothing
abbrev any_words : List ℕ
any_words = replicate 162 7

abbrev pub lend_cases : List LendCase
lend_cases =
    -- a start: the first record is the session's thread, the others stay; one thread, no made channel, nobody waits
    starts maker (one other) any_words fine (one (at 3 1 1 0)) none_made
    -- two threads, in the sessions' order; thread 2 waits for kind 1
    ∷ starts meet (one other) any_words fine (two (at 1 1 1 0) (at 2 3 2 0)) (counts 2 0 1)
    -- what stood beside an earlier list goes, but for the made channels' words, which stand for nothing now
    ∷ starts maker (one (at 3 4 0 385)) (one_made 3 2 1) fine (one (at 3 1 1 0))
    (1 ∷ 0 ∷ 3 ∷ 2 ∷ replicate 126 7 ++ replicate 32 0)
    -- zero bytes: no thread, and every record stays
    ∷ starts [] (one other) any_words fine (one other) (counts 0 0 0)
    -- a record too few, one too many; a word too few, one too many; what is no file comes first
    ∷ starts maker (replicate 63 other) any_words (refused 18 0) (replicate 63 other) any_words
    ∷ starts maker (replicate 65 other) any_words (refused 18 0) (replicate 65 other) any_words
    ∷ starts maker (one other) (replicate 161 7) (refused 18 0) (one other) (replicate 161 7)
    ∷ starts maker (one other) (replicate 163 7) (refused 18 0) (one other) (replicate 163 7)
    ∷ starts (1 ∷ []) [] [] (refused 1 0) [] []
    -- a channel is made: word 2 is its owner, user 3, and word 3 its kind, 2; the thread holds 385
    ∷ carried maker (one (at 3 1 1 0)) none_made 1 0 (one (at 3 2 1 385)) (one_made 3 2 0)
    -- the same in a list in which user 1 has made a channel: the second stands at words 4 and 5, and the thread holds
    -- 386
    ∷ carried maker (one (at 3 1 1 0)) (one_made 1 2 0) 1 0 (one (at 3 2 1 386))
    (1 ∷ 2 ∷ 1 ∷ 2 ∷ 3 ∷ 2 ∷ replicate 124 7 ++ replicate 32 0)
    -- choices in a list with that made channel: a compare; an off, after which the thread waits for kind 2, the made
    -- channel's
    ∷ carried maker (one (at 3 2 1 385)) (one_made 3 2 0) 1 0 (one (at 3 3 1 385)) (one_made 3 2 0)
    ∷ carried maker (one (at 3 3 1 385)) (one_made 3 2 0) 1 0 (one (at 3 4 0 385)) (one_made 3 2 1)
    -- owner and kind the other way round: there is no kind 3, and such a list is not lent; nor one with an owner or a
    -- kind of 0
    ∷ refusing maker (one (at 3 2 1 385)) (one_made 2 3 0) 1 0 (refused 18 0)
    ∷ refusing maker (one (at 3 1 1 0)) (one_made 2 3 0) 1 0 (refused 18 0)
    ∷ refusing maker (one (at 3 1 1 0)) (one_made 0 2 0) 1 0 (refused 18 0)
    ∷ refusing maker (one (at 3 1 1 0)) (one_made 3 0 0) 1 0 (refused 18 0)
    -- 64 made channels may be lent, and a 65th can't be made; 65 may not
    ∷ refusing maker (one (at 3 1 1 0)) (1 ∷ 64 ∷ made 64 ++ replicate 32 0) 1 0 (refused 20 1)
    ∷ refusing maker (one (at 3 1 1 0)) (1 ∷ 65 ∷ made 64 ++ replicate 32 0) 1 0 (refused 18 0)
    -- a made channel of kind 1, where rule 1 gives the variable kind 2
    ∷ refusing maker (one (at 3 2 1 385)) (one_made 2 1 0) 1 0 (refused 18 0)
    -- thread 1 sends to thread 2, which holds what is sent: records 1 and 2 change
    ∷ carried meet (two (at 1 1 1 0) (at 2 3 2 0)) (counts 2 0 1) 1 2 (two (at 1 2 1 0) (at 2 4 2 1)) (counts 2 0 0)
    -- thread 1 ends, and thread 2 is thread 1: record 2 keeps what it held
    ∷ carried meet (two (at 1 2 1 0) (at 2 4 2 1)) (counts 2 0 0) 1 0 (two (at 2 4 2 1) (at 2 4 2 1)) (counts 1 0 0)
    -- there is no thread 3
    ∷ refusing meet (two (at 1 1 1 0) (at 2 3 2 0)) (counts 2 0 1) 3 0 (refused 18 1)
    -- thread 1 has lost its role: it may be lent, but not send
    ∷ refusing meet (two (at 1 1 0 0) (at 2 3 2 0)) (counts 2 0 1) 1 2 (refused 13 1)
    -- a role that is not assigned; another session's user; no such node; a variable not bound yet; a bound one that
    -- holds nothing
    ∷ refusing meet (two (at 1 1 3 0) (at 2 3 2 0)) (counts 2 0 1) 1 2 (refused 18 0)
    ∷ refusing meet (two (at 2 1 2 0) (at 2 3 2 0)) (counts 2 0 1) 1 2 (refused 18 0)
    ∷ refusing meet (two (at 1 5 1 0) (at 2 3 2 0)) (counts 2 0 1) 1 2 (refused 18 0)
    ∷ refusing meet (two (at 1 1 1 1) (at 2 3 2 0)) (counts 2 0 1) 1 2 (refused 18 0)
    ∷ refusing meet (two (at 1 1 1 0) (at 2 4 2 0)) (counts 2 0 0) 1 0 (refused 18 0)
    -- the third record is counted; a count over 64; too few records; too few words
    ∷ refusing meet (two (at 1 1 1 0) (at 2 3 2 0)) (counts 3 0 1) 1 2 (refused 18 0)
    ∷ refusing meet (two (at 1 1 1 0) (at 2 3 2 0)) (counts 65 0 1) 1 2 (refused 18 0)
    ∷ refusing meet (at 1 1 1 0 ∷ at 2 3 2 0 ∷ []) (counts 2 0 1) 1 2 (refused 18 0)
    ∷ refusing meet (two (at 1 1 1 0) (at 2 3 2 0)) (2 ∷ 0 ∷ []) 1 2 (refused 18 0)
    -- a total too low, too high, and of a kind that the file doesn't have
    ∷ refusing meet (two (at 1 1 1 0) (at 2 3 2 0)) (counts 2 0 0) 1 2 (refused 18 0)
    ∷ refusing meet (two (at 1 1 1 0) (at 2 3 2 0)) (counts 2 0 2) 1 2 (refused 18 0)
    ∷ refusing meet (two (at 1 1 1 0) (at 2 3 2 0)) (2 ∷ 0 ∷ replicate 128 7 ++ (1 ∷ 1 ∷ replicate 30 0)) 1 2
    (refused 18 0)
    -- a channel is made: its owner and kind stand beside, and the thread holds 385
    ∷ carried bare (one (at 1 1 0 0)) (counts 1 0 0) 1 0 (one (at 1 2 0 385)) (one_made 1 1 0)
    -- a made channel of a kind that is not there; a value that no made channel has
    ∷ refusing bare (one (at 1 2 0 385)) (one_made 1 2 0) 1 0 (refused 18 0)
    ∷ refusing bare (one (at 1 2 0 386)) (one_made 1 1 0) 1 0 (refused 18 0)
    -- what is no file is refused first
    ∷ refusing (1 ∷ []) [] [] 1 0 (refused 1 0)
    -- zero bytes: nothing but no thread and no made channel may be lent, and no choice can be done
    ∷ refusing [] (one other) (counts 0 0 0) 1 0 (refused 18 1)
    ∷ refusing [] (one other) (counts 1 0 0) 1 0 (refused 18 0)
    ∷ []
