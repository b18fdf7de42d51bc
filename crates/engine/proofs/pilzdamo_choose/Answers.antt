use Rattle.std.proofs.Common.{◌∙◌, sym, refl}
use Rattle.lending.proofs.AdmitLaws.{admitted_fine, admitted_refused}
use Rattle.engine.proofs.pilzdamo_choose.Goals as goal

-- it refuses, and the list and the words stay
pub returns-in-Err : goal.returns-in-Err
returns-in-Err c =
    let a = c.args in
    let (answer, records, words) = admitted_refused a.file.now a.threads.now a.beside.now a.thread a.partner c.in-Err.first (sym c.in-Err.ensures.0) in
    (sym answer, sym records, sym words)

pub choose_by-requires : goal.choose_by-requires
choose_by-requires c =
    let (at, laid, fit, scoped) = c.in-Ok.ensures.2 c.in-Ok.head refl in
    (laid, c.in-Ok.ensures.1, scoped, fit)

-- it lets through, and the rest is a choice in a list of which sizes and made channels are right
pub returns-in-Ok : goal.returns-in-Ok
returns-in-Ok c =
    let a = c.args in
    let (answer, records, words) = admitted_fine a.file.now a.threads.now a.beside.now a.thread a.partner c.in-Ok.head (sym c.in-Ok.ensures.0) in
    (c.choose_by.ensures.0 ∙ sym answer, c.choose_by.ensures.1 ∙ sym records, c.choose_by.ensures.2 ∙ sym words)
