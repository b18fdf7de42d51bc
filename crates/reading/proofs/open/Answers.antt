use mathlib.Core.Path.{sym, ap, ◌∙◌}
use Rattle.format.proofs.HeadLaws.{head_laid}
use Rattle.reading.specs.Reading.{with_head}
use Rattle.reading.proofs.ReadingLaws.{opened_by_head, opened_by_body}
use Rattle.reading.proofs.open.Goals as goal

pub body-requires : goal.body-requires
body-requires c = head_laid c.args.file.now c.in-Ok.head (sym c.in-Ok.ensures)

pub returns-in-Err : goal.returns-in-Err
returns-in-Err c = opened_by_head c.args.file.now _ (sym c.in-Err.ensures)

pub returns-in-Ok : goal.returns-in-Ok
returns-in-Ok c = let h = c.in-Ok.head in c.with_head.ensures ∙ ap (with_head h) c.body.ensures ∙ opened_by_body c.args.file.now h (sym c.in-Ok.ensures)
