use Rattle.std.proofs.lemmas.Result.{err_from_is_err_and}
use mathlib.Core.Path.{sym, ap, ◌∙◌}
use Rattle.reading.specs.Reading.{with_head}
use Rattle.reading.proofs.ReadingLaws.{opened_fine}
use Rattle.checking.proofs.CheckLaws.{entered_early, scoped_early, entered_late, scoped_late, owned}
use Rattle.checking.proofs.enter_scoped.Goals as goal

pub judge_names-requires : goal.judge_names-requires
judge_names-requires c =
    let f = c.args.file.now in
    ((opened_fine f _ (sym c.in_ok-head.ensures)).0, owned f _ (sym c.in_ok-head.ensures))

pub returns-in_err-head : goal.returns-in_err-head
returns-in_err-head c =
    let a = c.args in
    let refused = sym c.in_err-head.ensures in
    let p = err_from_is_err_and c.from_residual.result c.from_residual.ensures.1 in
    rw (p.1, p.2) (entered_early a.file.now _ refused, scoped_early a.file.now _ refused a.scopes.now)

pub returns : goal.returns
returns c =
    let a = c.args in
    let h = c.in_ok-head.head in
    let judged = c.judge_names.ensures in (
      c.with_head.ensures ∙ ap (with_head h) judged.0 ∙ entered_late a.file.now h (sym c.in_ok-head.ensures),
      judged.1 ∙ scoped_late a.file.now h (sym c.in_ok-head.ensures) a.scopes.now,
    )
