use mathlib.Core.Path.{refl, sym, ap, ◌∙◌}
use lib.ListN.{replicate}
use Rattle.checking.specs.declared.Examined.{Examined}
use Rattle.placing.proofs.PlaceLaws.{names_loud, measuring_refused, surveyed_labels, measure_from}
use Rattle.placing.proofs.measure.Goals as goal

pub measure_body-requires : goal.measure_body-requires
measure_body-requires c =
    let told = sym (ap (λ (x : Examined). x.names) c.examine.ensures.0) ∙ c.in-Ok.is in
    (told, (surveyed_labels c.args.file.now c.in-Ok.head told (replicate 1025 0) _ c.examine.ensures.1 refl).1)

pub returns-in-Err : goal.returns-in-Err
returns-in-Err c =
    let f = c.args.file.now in
    let w = c.in-Err.first in
    let (e, loud) = names_loud f w (sym (ap (λ (x : Examined). x.names) c.examine.ensures.0) ∙ c.in-Err.is) in
    c.no_place.ensures ∙ sym (measuring_refused f w e loud)

pub returns-in-Ok : goal.returns-in-Ok
returns-in-Ok c =
    let f = c.args.file.now in
    let h = c.in-Ok.head in
    let told = sym (ap (λ (x : Examined). x.names) c.examine.ensures.0) ∙ c.in-Ok.is in
    let labels = (surveyed_labels f h told (replicate 1025 0) _ c.examine.ensures.1 refl).0 in
    c.measure_body.ensures ∙ measure_from f h told c.examine.new.roles labels
