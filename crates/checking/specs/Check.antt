-- The check of a file's bytes, whole: 1 to 8 (21 among them), then 9 and 10 together, then 11 to 13.
use Rattle.format.specs.declared.Head.{Head}
use Rattle.std.specs.Prelude.{ℕ, ◌≡◌, List, cond, eqb, Result, Ok, Err}
use Rattle.std.proofs.lemmas.List.Edits.{sets}
use Rattle.format.specs.Answers.{fine, or_else}
use Rattle.format.specs.Header.{head_at}
use Rattle.format.specs.Contents.{contents_at, contents_of}
use Rattle.format.specs.declared.Verdict.{Verdict}
use Rattle.reading.specs.Reading.{reading, with_head, opened}
use Rattle.rules.specs.Checking.{names_answer, roles_answer, judgement}
use Rattle.rules.specs.Candidates.{candidates_in}
use Rattle.naming.specs.Scopes.{scopes_in}
use Rattle.checking.specs.declared.Examined.{Examined}

-- 1 to 10
unfoldable pub reading_names : List ℕ → Verdict
reading_names f = or_else (reading f) (names_answer (contents_of f))

-- 1 to 13
unfoldable pub checking : List ℕ → Verdict
checking f = or_else (reading f) (or_else (names_answer (contents_of f)) (roles_answer (contents_of f)))

-- the way in by 1 to 10
unfoldable pub entered : List ℕ → Result Head Verdict
entered f = with_head (head_at f) (reading_names f)

-- the table of what each node is reached with after that: unchanged where 1 to 8 refuse
unfoldable pub scoped : List ℕ → List ℕ → List ℕ
scoped f old = cond (eqb (reading f).number 0) (sets old 1 (scopes_in (contents_of f))) old

-- the way in, with 11 to 13 where nothing of 1 to 10 is refused
abbrev pub examined : List ℕ → Examined
examined f = record { names = entered f; roles = cond (eqb (reading_names f).number 0) (roles_answer (contents_of f)) fine }

-- the table of candidates after that: unchanged where 1 to 8 refuse
unfoldable pub surveyed : List ℕ → List ℕ → List ℕ
surveyed f old = cond (eqb (reading f).number 0) (sets old 1 (candidates_in (contents_of f))) old

-- the same of a file whose way in was judged: a head is one that 1 to 8 gave, and where there is none all stays
abbrev pub Admitted : List ℕ → Result Head Verdict → Type 0
Admitted f (Ok h) = opened f ≡ Ok h
Admitted f (Err v) = Unit {0}

abbrev pub examined_from : List ℕ → Result Head Verdict → Examined
examined_from f (Ok h) = record { names = with_head h (judgement (contents_at f h)).names; roles = (judgement (contents_at f h)).roles }
examined_from f (Err v) = record { names = Err v; roles = fine }

abbrev pub surveyed_from : List ℕ → Result Head Verdict → List ℕ → List ℕ
surveyed_from f (Ok h) old = sets old 1 (candidates_in (contents_at f h))
surveyed_from f (Err v) old = old
