-- The lent list and the words beside it, as a file starts.
use Rattle.std.specs.Prelude.{ℕ, cond, ◌&&◌, List, eqb, length}
use Rattle.format.specs.Answers.{fine, refused, or_else}
use Rattle.format.specs.Contents.{contents_of}
use Rattle.format.specs.declared.Verdict.{Verdict}
use Rattle.checking.specs.Check.{reading_names}
use Rattle.steps.specs.declared.Thread.{Thread}
use Rattle.steps.specs.Choice.{goes}
use Rattle.steps.specs.Beside.{beside_words}
use Rattle.choices.specs.Choices.{start}
use Rattle.lending.specs.Lent.{records_after, beside_after}

-- what refuses: the file by 1 to 10; then another number of records or of words beside them, 18 at place 0
unfoldable pub starting : List ℕ → ℕ → ℕ → Verdict
starting f records words = or_else (reading_names f) (cond (eqb records 64 && eqb words beside_words) fine (refused 18 0))

-- the start's threads, counts and totals; records past the threads and words between the counts and the totals stay, and everything where it is refused
unfoldable pub records_started : List ℕ → List Thread → List ℕ → List Thread
records_started f l b = cond (eqb (starting f (length l) (length b)).number 0) (records_after l (goes (start (contents_of f)))) l

unfoldable pub beside_started : List ℕ → List Thread → List ℕ → List ℕ
beside_started f l b = cond (eqb (starting f (length l) (length b)).number 0) (beside_after (contents_of f) b (goes (start (contents_of f)))) b
