-- Placing a file's bytes: 17 first of all, then 1 to 10, then 14 to 16, then the placed file.
use Rattle.std.specs.Prelude.{ℕ, suc, Bool, false, Result, Ok, Err, cond, ◌&&◌, ◌||◌, ◌≡◌, List, [], ◌∷◌, map, eqb, leb, ltb, length, drop}
use Rattle.std.proofs.lemmas.List.Edits.{sets}
use Rattle.format.specs.Answers.{fine, refused, or_else, first_of}
use Rattle.format.specs.Header.{version_at, length_for, room_for}
use Rattle.format.specs.Contents.{Contents, item, no_session, no_node, contents_of}
use Rattle.format.specs.Writing.{head_for, encoded}
use Rattle.format.specs.declared.Verdict.{Verdict}
use Rattle.rules.specs.Candidates.{candidates_in}
use Rattle.checking.specs.Check.{reading_names}
use Rattle.states.specs.States.{Label, needs, labelled, turns_of, packed}
use Rattle.states.specs.declared.Turn.{Turn}
use Rattle.groups.specs.Groups.{sizes_of, ons_of, starts_from, starts_of, placed_contents}
use Rattle.groups.specs.declared.Sums.{Sums}
use Rattle.placing.specs.declared.Placed.{Placed}

-- the nodes as placing sees them, and what becomes of each
abbrev pub labels_in : Contents → List Label
labels_in C = labelled C.nodes (candidates_in C)

-- each node's roles stand in a table, at its number; and these are its candidates
abbrev pub labels_from : Contents → List ℕ → List Label
labels_from C roles = labelled C.nodes (drop 1 roles)

abbrev pub Labelled : Contents → List ℕ → Type 0
Labelled C roles = labels_from C roles ≡ labels_in C

abbrev pub turns_for : Contents → List Turn
turns_for C = turns_of (labels_in C)

-- 14: a starting mask (place 0)
unfoldable pub masks_answer : Contents → Verdict
masks_answer C = first_of (λ n. eqb (item no_session C.sessions n).mask 0) (λ n. refused 14 0) 1 (length C.sessions)

-- 14: on or off present (place: that node)
unfoldable pub switches_answer : Contents → Verdict
switches_answer C = first_of (λ n. ltb (item no_node C.nodes n).tag 7) (λ n. refused 14 n) 1 (length C.nodes)

-- 15: no role of the user permits the node
unfoldable pub unserved_from : ℕ → List Label → Verdict
unserved_from i [] = fine
unserved_from i (l ∷ ls) = cond (needs l.tag && eqb l.roles 0) (refused 15 i) (unserved_from (suc i) ls)

-- 16: the result has over 1,024 nodes (place 0)
abbrev pub size_answer : ℕ → Verdict
size_answer nodes = cond (leb nodes 1024) fine (refused 16 0)

-- refused before there are turns: 14 or 15
abbrev pub unsettled : Result Sums Verdict → Bool
unsettled (Ok sums) = false
unsettled (Err v) = eqb v.number 14 || eqb v.number 15

-- what a decision leaves in the tables: what they held, or, once there are turns, these and the starts, each at its node's number
abbrev pub Settled : Result Sums Verdict → List Turn → List ℕ → List ℕ → List ℕ → List ℕ → Type 0
Settled d ts turns turns' starts starts' =
    (turns' ≡ cond (unsettled d) turns (sets turns 1 (map packed ts))) × (starts' ≡ cond (unsettled d) starts (sets starts 1 (starts_from 1 ts)))

-- 15 and 16, by the nodes as placing sees them
abbrev pub settling : List Label → Verdict
settling ls = or_else (unserved_from 1 ls) (size_answer (sizes_of (turns_of ls)))

-- 14 (masks before nodes), 15, 16, where the nodes are seen so
abbrev pub placeable_by : Contents → List Label → Verdict
placeable_by C ls = or_else (or_else (masks_answer C) (switches_answer C)) (settling ls)

unfoldable pub placeable : Contents → Verdict
placeable C = placeable_by C (labels_in C)

-- all that a file can be refused for: 1 to 10, then 14 to 16
unfoldable pub judging : List ℕ → Verdict
judging f = or_else (reading_names f) (placeable (contents_of f))

-- what is decided before anything is written: 14 to 16, or the sums where nothing is refused
abbrev pub summed : List Turn → Sums
summed ts = record { nodes = sizes_of ts; on_steps = ons_of ts }

abbrev pub decided : Verdict → List Turn → Result Sums Verdict
decided v ts = cond (eqb v.number 0) (Ok (summed ts)) (Err v)

abbrev pub no_place : ℕ → ℕ → Placed
no_place n p = record { number = n; place = p; length = 0; on_steps = 0 }

-- where nothing is refused: the length of the file placed by these turns in bytes, and the number of on steps
abbrev pub placed_by : ℕ → Contents → List Turn → Placed
placed_by version C ts = record { number = 0; place = 0; length = length_for (head_for version C).at.nodes (sizes_of ts); on_steps = ons_of ts }

abbrev pub placed_in : ℕ → Contents → Placed
placed_in version C = placed_by version C (turns_for C)

abbrev pub answer_by : ℕ → Contents → List Turn → Verdict → Placed
answer_by version C ts v = cond (eqb v.number 0) (placed_by version C ts) (no_place v.number v.place)

-- the same of the sums where nothing is refused, for a file whose nodes begin at an offset
abbrev pub answered : ℕ → Sums → Placed
answered at sums = record { number = 0; place = 0; length = length_for at sums.nodes; on_steps = sums.on_steps }

-- of a file that 1 to 10 leave clean, with each node's roles in a table
abbrev pub answer_from : ℕ → Contents → List ℕ → Placed
answer_from version C roles = answer_by version C (turns_of (labels_from C roles)) (placeable_by C (labels_from C roles))

abbrev pub placed_answer : ℕ → Contents → Verdict → Placed
placed_answer version C v = answer_by version C (turns_for C) v

-- what a file comes to in an output long enough
unfoldable pub measuring : List ℕ → Placed
measuring f = placed_answer (version_at f) (contents_of f) (judging f)

-- 17 first of all: output under 6,874 bytes, or under 6,908 where the file's first word is 2 or 3
unfoldable pub placing : List ℕ → ℕ → Placed
placing f room = cond (ltb room (room_for f)) (no_place 17 0) (measuring f)

-- the bytes of the file placed by these turns, which keeps its version
abbrev pub bytes_by : ℕ → Contents → List Turn → List ℕ
bytes_by version C ts = encoded version (placed_contents C ts (starts_of ts))

unfoldable pub placed_bytes : List ℕ → List ℕ
placed_bytes f = bytes_by (version_at f) (contents_of f) (turns_for (contents_of f))

-- the output: the placed file, and past it what was there; where anything is refused, all of what was there
abbrev pub over_by : ℕ → Contents → List Turn → Verdict → List ℕ → List ℕ
over_by version C ts v out = cond (eqb v.number 0) (sets out 0 (bytes_by version C ts)) out

abbrev pub over_from : ℕ → Contents → List ℕ → List ℕ → List ℕ
over_from version C roles out = over_by version C (turns_of (labels_from C roles)) (placeable_by C (labels_from C roles)) out

unfoldable pub placed_over : List ℕ → List ℕ → List ℕ
placed_over f out = cond (eqb (placing f (length out)).number 0) (sets out 0 (placed_bytes f)) out
