-- Turning a file to columns, and back to rows: 17 first of all, then 1 to 5, "another version being 2" at its turn; else the file of the other version that
-- holds the same.
use Rattle.std.specs.Prelude.{ℕ, cond, ◌||◌, List, eqb, ltb, length, Result, Ok, Err}
use Rattle.std.proofs.lemmas.List.Edits.{sets}
use Rattle.format.specs.Answers.{not_written}
use Rattle.format.specs.Header.{version_at, largest, head_of}
use Rattle.format.specs.Contents.{contents_of}
use Rattle.format.specs.Writing.{encoded}
use Rattle.format.specs.declared.Head.{Head}
use Rattle.format.specs.declared.Written.{Written}

-- the refusal of 1 to 5, or 0
abbrev pub head_number : Result Head ℕ → ℕ
head_number (Ok h) = 0
head_number (Err n) = n

-- a file that is no file of the version that is turned is refused with 2, unless 1 is wrong with it
unfoldable pub turn_refusal : ℕ → List ℕ → ℕ
turn_refusal from f = cond (eqb (head_number (head_of f)) 1 || eqb (version_at f) from) (head_number (head_of f)) 2

-- the file of a version that holds what these bytes hold
abbrev pub turned_to : ℕ → List ℕ → List ℕ
turned_to to f = encoded to (contents_of f)

-- "Version 3 holds the node section as all tags, then all f1, then all f2; the rest is version 2"
abbrev pub in_columns : List ℕ → List ℕ
in_columns f = turned_to 3 f

abbrev pub in_rows : List ℕ → List ℕ
in_rows f = turned_to 2 f

-- a file of the version `from` is turned: it is as long as it was
unfoldable pub turning : ℕ → List ℕ → ℕ → Written
turning from f room =
    cond (ltb room largest) (not_written 17 0)
    (cond (eqb (turn_refusal from f) 0) (record { number = 0; place = 0; length = length f }) (not_written (turn_refusal from f) 0))

-- the output: the turned file, and past it what was there; where anything is refused, all of what was there
unfoldable pub turned_over : ℕ → ℕ → List ℕ → List ℕ → List ℕ
turned_over from to f out = cond (eqb (turning from f (length out)).number 0) (sets out 0 (turned_to to f)) out

-- a head of another version: counts and offsets stay
abbrev pub with_version : Head → ℕ → Head
with_version h v = record { version = v; count = h.count; at = h.at }
