-- The check of a file's bytes for a minute of the week: 22, then 1 to 8, 23, 9 and 10 together, then 11 to 13 and 24 by node.
use Rattle.format.specs.declared.Head.{Head}
use Rattle.std.specs.Prelude.{ℕ, Bool, cond, not, ◌&&◌, List, eqb, ltb, length, Result}
use Rattle.masks.specs.Mask.{has}
use Rattle.format.specs.Answers.{refused, or_else, first_of}
use Rattle.format.specs.Header.{head_at}
use Rattle.format.specs.Contents.{Contents, item, no_node, contents_of}
use Rattle.format.specs.declared.Verdict.{Verdict}
use Rattle.format.specs.declared.Node.{Node}
use Rattle.reading.specs.Reading.{reading, with_head}
use Rattle.rules.specs.Checking.{names_answer, roles_answer}
use Rattle.hours.specs.Hours.{table_answer, rows_answer, shut}

-- 24: on of a role of the mask s of shut roles, whether it is active or not; the place is the node
abbrev pub opens_shut : ℕ → Node → Bool
opens_shut s n = eqb n.tag 7 && has s n.f1

unfoldable pub shut_answer : ℕ → Contents → Verdict
shut_answer s C = first_of (λ n. not (opens_shut s (item no_node C.nodes n))) (λ n. refused 24 n) 1 (length C.nodes)

-- of two answers the one at the lower node, and at one node the first
abbrev pub sooner : Verdict → Verdict → Verdict
sooner v w = cond (eqb v.number 0) w (cond (eqb w.number 0) v (cond (ltb w.place v.place) w v))

-- 11 to 13 and 24
unfoldable pub roles_answer_at : ℕ → Contents → Verdict
roles_answer_at s C = sooner (roles_answer C) (shut_answer s C)

-- 1 to 8, then 23, which has the count of roles
unfoldable pub reading_at : List ℕ → List ℕ → Verdict
reading_at f t = or_else (reading f) (rows_answer (length (contents_of f).roles) t)

unfoldable pub opened_at : List ℕ → List ℕ → Result Head Verdict
opened_at f t = with_head (head_at f) (reading_at f t)

-- then 9 and 10
unfoldable pub reading_names_at : List ℕ → List ℕ → Verdict
reading_names_at f t = or_else (reading_at f t) (names_answer (contents_of f))

-- the way in by these
unfoldable pub entered_at : List ℕ → List ℕ → Result Head Verdict
entered_at f t = with_head (head_at f) (reading_names_at f t)

-- f is the file, t the table of hours, m the minute: 22 first of all
unfoldable pub checking_at : List ℕ → List ℕ → ℕ → Verdict
checking_at f t m = or_else (table_answer t m) (or_else (reading_names_at f t) (roles_answer_at (shut t m) (contents_of f)))
