use mathlib.Core.Path.{◌≡◌, sym, ap, ◌∙◌}
use Rattle.checking.proofs.CheckLaws.{entered_fine}
use Rattle.offering.specs.Offers.{Offering}
use Rattle.offering.proofs.EntryLaws.{file_refused, file_fine}
use borrow.Author.Rules.{rules}
use Rattle.offering.proofs.find_offers.Goals as goal

pub offers_with-requires : goal.offers_with-requires
offers_with-requires c =
    let a = c.args in
    (entered_fine a.file.now _ (sym c.enter-answer.ensures ∙ c.in-Ok.is)).0

pub returns-in-Err : goal.returns-in-Err
returns-in-Err c =
    let a = c.args in
    let refused = file_refused a.file.now a.seats.now a.state.now a.out.now _ (sym c.enter-answer.ensures ∙ c.in-Err.is) in
    (c.none.ensures ∙ ap (λ (x : Offering). x.answer) refused, ap (λ (x : Offering). x.out) refused)

pub returns-in-Ok : goal.returns-in-Ok
returns-in-Ok c =
    let a = c.args in
    let fine = file_fine a.file.now a.seats.now a.state.now a.out.now _ (sym c.enter-answer.ensures ∙ c.in-Ok.is) in
    (c.offers_with.ensures.0 ∙ ap (λ (x : Offering). x.answer) fine, c.offers_with.ensures.1 ∙ ap (λ (x : Offering). x.out) fine)
