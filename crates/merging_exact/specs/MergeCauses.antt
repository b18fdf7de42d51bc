-- When merging is refused, and with what, in the words of document 02.
use Rattle.std.specs.Prelude.{ℕ, ◌≤◌, ◌<◌, ◌≡◌, ◌≢◌, List, length}
use Rattle.format.specs.Header.{version_at}
use Rattle.format.specs.Contents.{contents_of}
use Rattle.merging.specs.Merging.{merged_bytes}
use Rattle.format.specs.declared.Written.{Written}
use Rattle.reading_exact.specs.Order.{OfFile, FirstAt}
use Rattle.checking_exact.specs.Faults.{Objection, check_order}
use Rattle.merging_exact.specs.Sums.{SameTables, SumsFit}

-- what can be wrong with one of the files: 1 to 10, and 2 for another version than 1
pub data OwnCause (f : List ℕ) (n p : ℕ) : Type 0 where
  objected : OfFile n → Objection f n p → OwnCause f n p
  other_version : n ≡ 2 → p ≡ 0 → version_at f ≢ 1 → OwnCause f n p

-- "its own refusal": the first of these, in the order of the check's
abbrev pub OwnRefusal : List ℕ → ℕ → ℕ → Type 0
OwnRefusal f n p = FirstAt check_order (OwnCause f) n p

-- it has passed 1 to 10
abbrev pub Passes : List ℕ → Type 0
Passes f = (n p : ℕ) → OwnCause f n p → ⊥

-- a refusal: nothing is written
abbrev pub unwritten : ℕ → ℕ → Written
unwritten n p = record { number = n; place = p; length = 0 }

-- what merging f and g answers with so much room, each in its turn
pub data Answers (f g : List ℕ) (room : ℕ) : Written → Type 0 where
  -- "An output under 6,874 bytes is 17 and comes first."
  no_room : room < 6874 → Answers f g room (unwritten 17 0)
  -- "A file refused at 1 to 10 gives its own refusal, the first file's before the second's"
  of_first : (n p : ℕ) → 6874 ≤ room → OwnRefusal f n p → Answers f g room (unwritten n p)
  of_second : (n p : ℕ) → 6874 ≤ room → Passes f → OwnRefusal g n p → Answers f g room (unwritten n p)
  -- "25, tables of roles or kinds differ, place 0, after both files have passed 1 to 10 and before 3 for the sums"
  differ : 6874 ≤ room → Passes f → Passes g → (SameTables (contents_of f) (contents_of g) → ⊥) → Answers f g room (unwritten 25 0)
  -- "sums beyond a count's limit give 3 at place 0"
  beyond : 6874 ≤ room → Passes f → Passes g → SameTables (contents_of f) (contents_of g) → (SumsFit (contents_of f) (contents_of g) → ⊥) → Answers f g room (unwritten 3 0)
  -- else they are merged; the length answered is that of what is written
  merged : 6874 ≤ room → Passes f → Passes g → SameTables (contents_of f) (contents_of g) → SumsFit (contents_of f) (contents_of g)
      → Answers f g room (record { number = 0; place = 0; length = length (merged_bytes f g) })
