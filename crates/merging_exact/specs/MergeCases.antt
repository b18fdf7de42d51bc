-- Files merged, and refused, in literal words.
use Rattle.std.specs.Prelude.{ℕ, zero, suc, ◌+◌, ◌*◌, ◌≡◌, List, [], ◌∷◌, ◌++◌, length, replicate}
use Rattle.format.specs.Words.{bytes_of}
use Rattle.format.specs.Answers.{fine, refused}
use Rattle.format.specs.Contents.{Contents, no_node}
use Rattle.format.specs.declared.Verdict.{Verdict}
use Rattle.merging.specs.Merging.{join_answer, merging, merged_bytes}

-- two files by their words, and what is said of them
pub data MergeCase : Type 0 where
  -- the words of the merged file
  merges : List ℕ → List ℕ → List ℕ → MergeCase
  -- how many words it has
  fits : List ℕ → List ℕ → ℕ → MergeCase
  -- the refusal with an output of so many bytes: number and place
  is_refused : List ℕ → List ℕ → ℕ → ℕ → ℕ → MergeCase
  -- of what two files hold, whatever is wrong with either: whether tables and sums let them be merged
  joins : Contents → Contents → Verdict → MergeCase

abbrev pub MergeShown : MergeCase → Type 0
MergeShown (merges a b c) =
    (merging (bytes_of a) (bytes_of b) 6874 ≡ record { number = 0; place = 0; length = 2 * length c }) × (merged_bytes (bytes_of a) (bytes_of b) ≡ bytes_of c)
MergeShown (fits a b n) = merging (bytes_of a) (bytes_of b) 6874 ≡ record { number = 0; place = 0; length = 2 * n }
MergeShown (is_refused a b room n p) = merging (bytes_of a) (bytes_of b) room ≡ record { number = n; place = p; length = 0 }
MergeShown (joins C D v) = join_answer C D ≡ v

-- the booking of document 01: role 1 may send on kind 1, role 2 on both
abbrev booking : List ℕ
booking =
    1 ∷ 2 ∷ 2 ∷ 2 ∷ 2 ∷ 1 ∷ 3 ∷ 13 ∷ 15 ∷ 23 ∷ 25 ∷ 29 ∷ 32
    ∷ 3 ∷ 0
    ∷ 1 ∷ 0 ∷ 0 ∷ 0 ∷ 3 ∷ 0 ∷ 0 ∷ 0
    ∷ 0 ∷ 0
    ∷ 2 ∷ 1 ∷ 2 ∷ 2
    ∷ 1 ∷ 0 ∷ 1
    ∷ 6 ∷ 257 ∷ 2 ∷ 6 ∷ 258 ∷ 2 ∷ 0 ∷ 0 ∷ 0 ∷ []

-- a clinic with the same roles and kinds, and all sorts of operands: a user with role 2, active at the start, one without a role, one channel of kind 2 of the first user, and one session, a fork:
-- new of kind 2, send user 1 on variable 512, compare 512 with channel 1, end; receive on channel 1, on of role 2, end
abbrev clinic : List ℕ
clinic =
    1 ∷ 2 ∷ 2 ∷ 2 ∷ 1 ∷ 1 ∷ 8 ∷ 13 ∷ 15 ∷ 23 ∷ 25 ∷ 27 ∷ 30
    ∷ 2 ∷ 0
    ∷ 1 ∷ 0 ∷ 0 ∷ 0 ∷ 3 ∷ 0 ∷ 0 ∷ 0
    ∷ 0 ∷ 0
    ∷ 1 ∷ 2
    ∷ 1 ∷ 2 ∷ 1
    ∷ 1 ∷ 6 ∷ 0 ∷ 3 ∷ 2 ∷ 0 ∷ 6 ∷ 512 ∷ 1 ∷ 4 ∷ 512 ∷ 257 ∷ 0 ∷ 0 ∷ 0 ∷ 5 ∷ 257 ∷ 0 ∷ 7 ∷ 2 ∷ 0 ∷ 0 ∷ 0 ∷ 0 ∷ []

-- both, the booking first
abbrev booking_and_clinic : List ℕ
booking_and_clinic =
    1 ∷ 4 ∷ 2 ∷ 2 ∷ 3 ∷ 2 ∷ 11 ∷ 13 ∷ 17 ∷ 25 ∷ 27 ∷ 33 ∷ 39
    ∷ 3 ∷ 0 ∷ 2 ∷ 0
    ∷ 1 ∷ 0 ∷ 0 ∷ 0 ∷ 3 ∷ 0 ∷ 0 ∷ 0
    ∷ 0 ∷ 0
    ∷ 2 ∷ 1 ∷ 2 ∷ 2 ∷ 3 ∷ 2
    ∷ 1 ∷ 0 ∷ 1 ∷ 3 ∷ 2 ∷ 4
    ∷ 6 ∷ 257 ∷ 2 ∷ 6 ∷ 258 ∷ 2 ∷ 0 ∷ 0 ∷ 0
    ∷ 1 ∷ 9 ∷ 0 ∷ 3 ∷ 2 ∷ 0 ∷ 6 ∷ 512 ∷ 3 ∷ 4 ∷ 512 ∷ 259 ∷ 0 ∷ 0 ∷ 0 ∷ 5 ∷ 259 ∷ 0 ∷ 7 ∷ 2 ∷ 0 ∷ 0 ∷ 0 ∷ 0 ∷ []

-- and the clinic first
abbrev clinic_and_booking : List ℕ
clinic_and_booking =
    1 ∷ 4 ∷ 2 ∷ 2 ∷ 3 ∷ 2 ∷ 11 ∷ 13 ∷ 17 ∷ 25 ∷ 27 ∷ 33 ∷ 39
    ∷ 2 ∷ 0 ∷ 3 ∷ 0
    ∷ 1 ∷ 0 ∷ 0 ∷ 0 ∷ 3 ∷ 0 ∷ 0 ∷ 0
    ∷ 0 ∷ 0
    ∷ 1 ∷ 2 ∷ 4 ∷ 1 ∷ 4 ∷ 2
    ∷ 1 ∷ 2 ∷ 1 ∷ 3 ∷ 0 ∷ 9
    ∷ 1 ∷ 6 ∷ 0 ∷ 3 ∷ 2 ∷ 0 ∷ 6 ∷ 512 ∷ 1 ∷ 4 ∷ 512 ∷ 257 ∷ 0 ∷ 0 ∷ 0 ∷ 5 ∷ 257 ∷ 0 ∷ 7 ∷ 2 ∷ 0 ∷ 0 ∷ 0 ∷ 0
    ∷ 6 ∷ 258 ∷ 4 ∷ 6 ∷ 259 ∷ 4 ∷ 0 ∷ 0 ∷ 0 ∷ []

-- a file of no records but users without a role
abbrev users : ℕ → List ℕ
users n = 1 ∷ n ∷ 0 ∷ 0 ∷ 0 ∷ 0 ∷ 0 ∷ 13 ∷ (13 + n) ∷ (13 + n) ∷ (13 + n) ∷ (13 + n) ∷ (13 + n) ∷ replicate n 0

-- so many channels of one user and of one kind
unfoldable pub channel_rows : ℕ → List ℕ
channel_rows zero = []
channel_rows (suc n) = 1 ∷ 1 ∷ channel_rows n

abbrev channels : ℕ → List ℕ
channels n = 1 ∷ 1 ∷ 0 ∷ 1 ∷ n ∷ 0 ∷ 0 ∷ 13 ∷ 14 ∷ 14 ∷ 15 ∷ (15 + 2 * n) ∷ (15 + 2 * n) ∷ 0 ∷ 0 ∷ channel_rows n

-- so many sessions of one user, the first at node i, each an end
unfoldable pub session_rows : ℕ → ℕ → List ℕ
session_rows i zero = []
session_rows i (suc n) = 1 ∷ 0 ∷ i ∷ session_rows (suc i) n

abbrev sessions : ℕ → List ℕ
sessions n = 1 ∷ 1 ∷ 0 ∷ 0 ∷ 0 ∷ n ∷ n ∷ 13 ∷ 14 ∷ 14 ∷ 14 ∷ 14 ∷ (14 + 3 * n) ∷ 0 ∷ session_rows 1 n ++ replicate (3 * n) 0

-- so many users without a role, and a session of one of them that compares two users
abbrev comparing : ℕ → ℕ → ℕ → ℕ → List ℕ
comparing n user x y =
    1 ∷ n ∷ 0 ∷ 0 ∷ 0 ∷ 1 ∷ 2 ∷ 13 ∷ (13 + n) ∷ (13 + n) ∷ (13 + n) ∷ (13 + n) ∷ (16 + n)
    ∷ replicate n 0 ++ (user ∷ 0 ∷ 1 ∷ 4 ∷ x ∷ y ∷ 0 ∷ 0 ∷ 0 ∷ [])

-- what a file holds that has no records but so many nodes
abbrev nodes_only : ℕ → Contents
nodes_only n = record {
  users = [];
  roles = [];
  juniors = [];
  kinds = [];
  channels = [];
  sessions = [];
  nodes = replicate n no_node;
}

-- a file of version 2 with all counts 0, and one whose count of users is out of range
abbrev second : ℕ → List ℕ
second n = 2 ∷ n ∷ 0 ∷ 0 ∷ 0 ∷ 0 ∷ 0 ∷ 14 ∷ 14 ∷ 14 ∷ 14 ∷ 14 ∷ 14 ∷ 14 ∷ []

-- one role, which may send on kind s, and one kind, which carries c
abbrev tables : ℕ → ℕ → List ℕ
tables s c = 1 ∷ 0 ∷ 1 ∷ 1 ∷ 0 ∷ 0 ∷ 0 ∷ 13 ∷ 13 ∷ 17 ∷ 18 ∷ 18 ∷ 18 ∷ s ∷ 0 ∷ 0 ∷ 0 ∷ c ∷ []

-- one role, and four kinds, with the same words
abbrev one_role : List ℕ
one_role = 1 ∷ 0 ∷ 1 ∷ 0 ∷ 0 ∷ 0 ∷ 0 ∷ 13 ∷ 13 ∷ 17 ∷ 17 ∷ 17 ∷ 17 ∷ 0 ∷ 0 ∷ 0 ∷ 0 ∷ []

abbrev four_kinds : List ℕ
four_kinds = 1 ∷ 0 ∷ 0 ∷ 4 ∷ 0 ∷ 0 ∷ 0 ∷ 13 ∷ 13 ∷ 13 ∷ 17 ∷ 17 ∷ 17 ∷ 0 ∷ 0 ∷ 0 ∷ 0 ∷ []

abbrev pub merge_cases : List MergeCase
merge_cases =
    merges booking clinic booking_and_clinic
    ∷ merges clinic booking clinic_and_booking
    ∷ merges (users 0) (users 0) (users 0)
    ∷ merges (users 2) (users 3) (users 5)
    -- the users that the second file compares are counted on from the first file's; those that the first compares stay
    ∷ merges (users 3) (comparing 2 2 1 2) (comparing 5 5 4 5)
    ∷ merges (comparing 2 2 1 2) (users 3) (comparing 5 2 1 2)
    -- zero bytes read as the file with all counts 0
    ∷ merges [] [] (users 0)
    ∷ merges [] (users 3) (users 3)
    ∷ merges (users 3) [] (users 3)
    ∷ is_refused booking [] 6874 25 0
    -- sums at their limits, and one above
    ∷ merges (users 16) (users 16) (users 32)
    ∷ is_refused (users 16) (users 17) 6874 3 0
    ∷ fits (channels 32) (channels 32) 144
    ∷ is_refused (channels 32) (channels 33) 6874 3 0
    ∷ fits (sessions 16) (sessions 16) 207
    ∷ is_refused (sessions 17) (sessions 16) 6874 3 0
    -- 512 nodes and 512 fit, 512 and 513 don't, nor do 1,024 and 1
    ∷ joins (nodes_only 512) (nodes_only 512) fine
    ∷ joins (nodes_only 512) (nodes_only 513) (refused 3 0)
    ∷ joins (nodes_only 1024) (nodes_only 1) (refused 3 0)
    ∷ joins (nodes_only 0) (nodes_only 1024) fine
    -- 17 comes first
    ∷ is_refused booking clinic 6873 17 0
    ∷ is_refused (1 ∷ []) (1 ∷ []) 0 17 0
    -- the first file's own refusal before the second's; 1 before another version
    ∷ is_refused (2 ∷ []) (second 0) 6874 1 0
    ∷ is_refused (second 0) (1 ∷ []) 6874 2 0
    ∷ is_refused (second 33) booking 6874 2 0
    ∷ is_refused (users 33) (1 ∷ []) 6874 3 0
    ∷ is_refused booking (1 ∷ []) 6874 1 0
    ∷ is_refused booking (second 0) 6874 2 0
    ∷ is_refused booking (users 33) 6874 3 0
    -- 25: another number of roles or kinds, another word of a role, another of a kind; before 3 for the sums
    ∷ is_refused booking (users 1) 6874 25 0
    ∷ is_refused (tables 0 0) (tables 1 0) 6874 25 0
    ∷ is_refused one_role four_kinds 6874 25 0
    ∷ is_refused (tables 0 0) (tables 0 1) 6874 25 0
    ∷ is_refused (channels 33) (users 32) 6874 25 0
    ∷ []
