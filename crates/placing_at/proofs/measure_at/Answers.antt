use mathlib.Core.Path.{sym, ap, subst, ◌∙◌}
use Rattle.format.specs.declared.Verdict.{Verdict}
use Rattle.format.proofs.AnswerLaws.{NoRefusal}
use Rattle.hours.specs.Hours.{table_answer}
use Rattle.hours.proofs.TableLaws.{table_exact}
use Rattle.checking_at.proofs.CheckAtLaws.{admitted_at, way_found}
use Rattle.placing.specs.Placing.{no_place}
use Rattle.placing_at.proofs.PlaceAtLaws.{measuring_refused_at, table_loud, names_loud_at, closed_labels, measure_from_at, entered_plain}
use borrow.Author.Rules.{rules}
use Rattle.placing_at.proofs.measure_at.Goals as goal

pub returns-then-first-ne0 : goal.returns-then-first-ne0
returns-then-first-ne0 c =
    let a = c.args in
    let v : Verdict = table_answer a.hours.now a.minute in
    let e = c.table_answer-first.ensures in
    let loud : NoRefusal v → ⊥ = λ q. c.if-first-ne0.true (ap (λ (v : Verdict). v.number) e ∙ q) in
    c.no_place.ensures ∙ ap (λ (v : Verdict). no_place v.number v.place) e ∙ sym (measuring_refused_at a.file.now a.hours.now a.minute v (table_loud a.file.now a.hours.now a.minute loud) loud)

pub open_at-requires : goal.open_at-requires
open_at-requires c = ((table_exact c.args.hours.now c.args.minute).0 (subst NoRefusal c.table_answer-first.ensures c.if-first-ne0.false)).1

pub examine_opened-requires : goal.examine_opened-requires
examine_opened-requires c = (admitted_at c.args.file.now c.args.hours.now _ (sym c.open_at.ensures), search rules)

pub shut-requires : goal.shut-requires
shut-requires c = ((table_exact c.args.hours.now c.args.minute).0 (subst NoRefusal c.table_answer-first.ensures c.if-first-ne0.false)).1

pub measure_body-requires : goal.measure_body-requires
measure_body-requires c =
    let a = c.args in
    let f = a.file.now in
    let t = a.hours.now in
    let h = c.in-Ok.head in
    let table = subst NoRefusal c.table_answer-first.ensures c.if-first-ne0.false in
    let told = sym (way_found f t _ _ c.open_at.ensures c.examine_opened.ensures.0) ∙ c.in-Ok.is in
    let labels = closed_labels f t a.minute table h told _ c.open_at.ensures _ c.examine_opened.ensures.1 _ c.shut.ensures _ c.close.ensures in
    (entered_plain f t a.minute h told, labels.1)

pub returns-in-Err : goal.returns-in-Err
returns-in-Err c =
    let a = c.args in
    let f = a.file.now in
    let t = a.hours.now in
    let w = c.in-Err.first in
    let told = sym (way_found f t _ _ c.open_at.ensures c.examine_opened.ensures.0) ∙ c.in-Err.is in
    let (e, loud) = names_loud_at f t a.minute (subst NoRefusal c.table_answer-first.ensures c.if-first-ne0.false) w told in
    c.no_place-in-Err.ensures ∙ sym (measuring_refused_at f t a.minute w e loud)

pub returns-in-Ok : goal.returns-in-Ok
returns-in-Ok c =
    let a = c.args in
    let f = a.file.now in
    let t = a.hours.now in
    let h = c.in-Ok.head in
    let table = subst NoRefusal c.table_answer-first.ensures c.if-first-ne0.false in
    let told = sym (way_found f t _ _ c.open_at.ensures c.examine_opened.ensures.0) ∙ c.in-Ok.is in
    let labels = closed_labels f t a.minute table h told _ c.open_at.ensures _ c.examine_opened.ensures.1 _ c.shut.ensures _ c.close.ensures in
    c.measure_body.ensures ∙ measure_from_at f t a.minute table h told c.close.new.roles labels.0
