-- Placing a file's bytes for a minute of the week: 17, then 22, then 1 to 8, 23, 9 and 10, then 14 to 16 by the open roles, then the placed file.
use Rattle.std.specs.Prelude.{ℕ, cond, List, map, eqb, ltb, length}
use Rattle.std.proofs.lemmas.List.Edits.{sets}
use Rattle.masks.specs.Mask.{minus}
use Rattle.format.specs.Answers.{or_else}
use Rattle.format.specs.Header.{version_at, room_for}
use Rattle.format.specs.Contents.{Contents, contents_of}
use Rattle.format.specs.declared.Verdict.{Verdict}
use Rattle.hours.specs.Hours.{table_answer, shut}
use Rattle.checking_at.specs.CheckAt.{reading_names_at}
use Rattle.states.specs.declared.Turn.{Turn}
use Rattle.placing.specs.Placing.{turns_for, placeable, no_place, answer_by, bytes_by}
use Rattle.placing.specs.declared.Placed.{Placed}

-- what the file holds, with the roles of the mask s taken from every user's mask
abbrev pub open_contents : ℕ → Contents → Contents
open_contents s C = record {
  users = map (λ m. minus m s) C.users;
  roles = C.roles;
  juniors = C.juniors;
  kinds = C.kinds;
  channels = C.channels;
  sessions = C.sessions;
  nodes = C.nodes;
}

-- the turns, by the open roles
abbrev pub turns_at : List ℕ → List ℕ → ℕ → List Turn
turns_at f t m = turns_for (open_contents (shut t m) (contents_of f))

-- all that a file, a table of hours and a minute can be refused for: 22, then 1 to 8, 23, 9 and 10, then 14 to 16
unfoldable pub judging_at : List ℕ → List ℕ → ℕ → Verdict
judging_at f t m = or_else (table_answer t m) (or_else (reading_names_at f t) (placeable (open_contents (shut t m) (contents_of f))))

-- what a file comes to in an output long enough
unfoldable pub measuring_at : List ℕ → List ℕ → ℕ → Placed
measuring_at f t m = answer_by (version_at f) (contents_of f) (turns_at f t m) (judging_at f t m)

-- 17 first of all
unfoldable pub placing_at : List ℕ → List ℕ → ℕ → ℕ → Placed
placing_at f t m room = cond (ltb room (room_for f)) (no_place 17 0) (measuring_at f t m)

-- the bytes of the placed file: its users' masks are the input's
unfoldable pub placed_bytes_at : List ℕ → List ℕ → ℕ → List ℕ
placed_bytes_at f t m = bytes_by (version_at f) (contents_of f) (turns_at f t m)

-- the output: the placed file, and past it what was there; where anything is refused, all of what was there
unfoldable pub placed_over_at : List ℕ → List ℕ → ℕ → List ℕ → List ℕ
placed_over_at f t m out = cond (eqb (placing_at f t m (length out)).number 0) (sets out 0 (placed_bytes_at f t m)) out
