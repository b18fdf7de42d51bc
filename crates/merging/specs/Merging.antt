-- Merging two files' bytes: 17 first of all, then the first file's own refusal, then the second's, then 25, then 3 for the sums, then the merged file.
use Rattle.std.specs.Prelude.{ℕ, cond, ◌||◌, List, eqb, ltb, length}
use Rattle.std.proofs.lemmas.List.Edits.{sets}
use Rattle.format.specs.Answers.{fine, refused, or_else, not_written}
use Rattle.format.specs.Header.{version_at, length_for}
use Rattle.format.specs.Contents.{Contents, contents_of}
use Rattle.format.specs.Writing.{head_for, encoded}
use Rattle.format.specs.declared.Verdict.{Verdict}
use Rattle.format.specs.declared.Written.{Written}
use Rattle.checking.specs.Check.{reading_names}
use Rattle.merging.specs.Merged.{merged_contents, same_tables, sums_fit}

-- a file's own refusal, 1 to 10: another version than 1 is 2, at 2's turn, after 1
unfoldable pub own_answer : List ℕ → Verdict
own_answer f = cond (eqb (reading_names f).number 1 || eqb (version_at f) 1) (reading_names f) (refused 2 0)

-- after both files have passed 1 to 10: 25 where the tables differ, then 3 for the sums
abbrev pub join_answer : Contents → Contents → Verdict
join_answer C D = cond (same_tables C D) (cond (sums_fit C D) fine (refused 3 0)) (refused 25 0)

unfoldable pub both_answer : List ℕ → List ℕ → Verdict
both_answer f g = or_else (own_answer f) (or_else (own_answer g) (join_answer (contents_of f) (contents_of g)))

-- the length in bytes of a file of version 1 that holds this
abbrev pub first_length : Contents → ℕ
first_length C = length_for (head_for 1 C).at.nodes (length C.nodes)

abbrev pub written_for : Contents → Verdict → Written
written_for C v = cond (eqb v.number 0) (record { number = 0; place = 0; length = first_length C }) (not_written v.number v.place)

-- "An output under 6,874 bytes is 17 and comes first."
unfoldable pub merging : List ℕ → List ℕ → ℕ → Written
merging f g room = cond (ltb room 6874) (not_written 17 0) (written_for (merged_contents (contents_of f) (contents_of g)) (both_answer f g))

unfoldable pub merged_bytes : List ℕ → List ℕ → List ℕ
merged_bytes f g = encoded 1 (merged_contents (contents_of f) (contents_of g))

-- the output: the merged file, and past it what was there; where anything is refused, all of what was there
unfoldable pub merged_over : List ℕ → List ℕ → List ℕ → List ℕ
merged_over f g out = cond (eqb (merging f g (length out)).number 0) (sets out 0 (merged_bytes f g)) out
