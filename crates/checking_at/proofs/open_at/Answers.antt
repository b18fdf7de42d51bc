use Rattle.std.proofs.lemmas.Result.{err_from_is_err_and}
use mathlib.Core.Path.{sym, ap, ◌∙◌}
use Rattle.reading.specs.Reading.{with_head}
use Rattle.checking_at.proofs.CheckAtLaws.{opened_at_early, opened_at_late}
use Rattle.checking_at.proofs.open_at.Goals as goal

pub returns-in_err-head : goal.returns-in_err-head
returns-in_err-head c =
    let a = c.args in
    let p = err_from_is_err_and c.from_residual.result c.from_residual.ensures.1 in
    rw (p.1, p.2) (opened_at_early a.file.now a.hours.now _ (sym c.in_err-head.ensures))

pub returns : goal.returns
returns c =
    let a = c.args in
    let h = c.in_ok-head.head in
    c.with_head.ensures ∙ ap (with_head h) c.rows_answer.ensures
    ∙ opened_at_late a.file.now a.hours.now h (sym c.in_ok-head.ensures)
