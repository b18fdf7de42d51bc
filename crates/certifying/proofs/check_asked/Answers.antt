use mathlib.Core.Path.{sym, ◌∙◌}
use Rattle.format.specs.Contents.{Contents}
use Rattle.checking.proofs.CheckLaws.{entered_fine}
use Rattle.certifying.specs.Parts.{closing_asked_by}
use Rattle.certifying.proofs.EntryLaws.{not_asked, file_refused, file_fine}
use Rattle.certifying.proofs.check_asked.Goals as goal

pub returns-then-not-fits_asked : goal.returns-then-not-fits_asked
returns-then-not-fits_asked c =
    let a = c.args in
    not_asked a.file.now _ (λ (C : Contents). closing_asked_by C a.seats.now a.states.now a.places.now a.next.now a.asked) (sym c.fits_asked.ensures ∙ c.if-not-fits_asked.true)

pub closed_in-requires : goal.closed_in-requires
closed_in-requires c =
    let fine = entered_fine c.args.file.now _ (sym c.enter-answer.ensures ∙ c.in-Ok.is) in
    (fine.0, sym c.fits_asked.ensures ∙ c.if-not-fits_asked.false)

pub returns-in-Err : goal.returns-in-Err
returns-in-Err c =
    let a = c.args in
    file_refused a.file.now _ (λ (C : Contents). closing_asked_by C a.seats.now a.states.now a.places.now a.next.now a.asked) (sym c.fits_asked.ensures ∙ c.if-not-fits_asked.false) _ (sym c.enter-answer.ensures ∙ c.in-Err.is)

pub returns-in-Ok : goal.returns-in-Ok
returns-in-Ok c =
    let a = c.args in
    c.closed_in.ensures ∙ file_fine a.file.now _ (λ (C : Contents). closing_asked_by C a.seats.now a.states.now a.places.now a.next.now a.asked) (sym c.fits_asked.ensures ∙ c.if-not-fits_asked.false) _ (sym c.enter-answer.ensures ∙ c.in-Ok.is)
