-- Reading a file: the first of the refusals 1 to 8, by number, 21 after 6, and within a number at the lowest place. Where "1 to 8" is written, 21 is among them.
use Rattle.std.specs.Prelude.{ℕ, cond, List, eqb, Result, Ok, Err}
use Rattle.format.specs.Answers.{refused, or_else}
use Rattle.format.specs.Header.{head_at, head_of}
use Rattle.format.specs.Contents.{Contents, contents_at}
use Rattle.tables.specs.Records.{records_answer}
use Rattle.trees.specs.Shape.{shape_answer}
use Rattle.format.specs.declared.Verdict.{Verdict}
use Rattle.format.specs.declared.Head.{Head}

-- 6 to 8
abbrev pub body_answer : Head → Contents → Verdict
body_answer h C = or_else (records_answer h C) (shape_answer C)

abbrev pub reading_by : List ℕ → Result Head ℕ → Verdict
reading_by f (Err n) = refused n 0
reading_by f (Ok h) = body_answer h (contents_at f h)

unfoldable pub reading : List ℕ → Verdict
reading f = reading_by f (head_of f)

-- a file's head where an answer refuses nothing, and else that answer
abbrev pub with_head : Head → Verdict → Result Head Verdict
with_head h v = cond (eqb v.number 0) (Ok h) (Err v)

-- the way in by 1 to 8
unfoldable pub opened : List ℕ → Result Head Verdict
opened f = with_head (head_at f) (reading f)
