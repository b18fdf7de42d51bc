use mathlib.Core.Bool.{not}
use mathlib.Core.Path.{ap, sym, ◌∙◌}
use lib.ListN.{length}
use Rattle.checking.proofs.CheckLaws.{entered_fine}
use Rattle.running.proofs.EntryLaws.{fits_listed, test_fails, test_holds}
use Rattle.seated.proofs.EntryLaws.{seated_unfit, seated_refused, seated_done}
use Rattle.seated.proofs.run_seated.Goals as goal

pub returns-then-not-is_listed-out : goal.returns-then-not-is_listed-out
returns-then-not-is_listed-out c =
    let a = c.args in
    seated_unfit a.file.now a.choices.now a.seats.now a.out.now c.not_written.result (test_fails _ _ _ c.is_listed.ensures (ap not c.if-not-is_listed-out.true)) c.not_written.ensures

pub run_into-requires : goal.run_into-requires
run_into-requires c =
    let a = c.args in
    let (list, room) = fits_listed (length a.choices.now) (length a.out.now) (test_holds _ _ _ c.is_listed.ensures (ap not c.if-not-is_listed-out.false)) in
    ((entered_fine a.file.now _ (sym c.enter-answer.ensures ∙ c.in-Ok.is)).0, list, room)

pub returns-in-Err : goal.returns-in-Err
returns-in-Err c =
    let a = c.args in
    seated_refused a.file.now a.choices.now a.seats.now a.out.now (test_holds _ _ _ c.is_listed.ensures (ap not c.if-not-is_listed-out.false)) _ c.not_written-in-Err.result (sym c.enter-answer.ensures ∙ c.in-Err.is) c.not_written-in-Err.ensures

pub returns-in-Ok : goal.returns-in-Ok
returns-in-Ok c =
    let a = c.args in
    let g = c.run_into in
    seated_done a.file.now a.choices.now a.seats.now a.out.now (test_holds _ _ _ c.is_listed.ensures (ap not c.if-not-is_listed-out.false)) _ g.result _ (sym c.enter-answer.ensures ∙ c.in-Ok.is) g.ensures.0 g.ensures.1
