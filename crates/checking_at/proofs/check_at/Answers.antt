use mathlib.Core.Path.{sym, ap, subst, ◌∙◌}
use Rattle.format.specs.Contents.{contents_at}
use Rattle.format.specs.declared.Verdict.{Verdict}
use Rattle.format.proofs.AnswerLaws.{NoRefusal}
use Rattle.hours.proofs.TableLaws.{table_exact}
use Rattle.checking.specs.declared.Examined.{Examined}
use Rattle.checking_at.specs.CheckAt.{shut_answer, sooner}
use Rattle.checking_at.proofs.CheckAtLaws.{admitted_at, way_found, entered_at_fine, head_laid, roles_from, check_at_table, check_at_early, check_at_late}
use borrow.Author.Rules.{rules}
use Rattle.checking_at.proofs.check_at.Goals as goal

pub returns-then-first-ne0 : goal.returns-then-first-ne0
returns-then-first-ne0 c =
    let a = c.args in
    let e = c.table_answer-first.ensures in
    e ∙ check_at_table a.file.now a.hours.now a.minute (λ q. c.if-first-ne0.true (ap (λ (v : Verdict). v.number) e ∙ q))

pub open_at-requires : goal.open_at-requires
open_at-requires c = ((table_exact c.args.hours.now c.args.minute).0 (subst NoRefusal c.table_answer-first.ensures c.if-first-ne0.false)).1

pub examine_opened-found-requires : goal.examine_opened-found-requires
examine_opened-found-requires c = (admitted_at c.args.file.now c.args.hours.now _ (sym c.open_at.ensures), search rules)

pub shut-requires : goal.shut-requires
shut-requires c = ((table_exact c.args.hours.now c.args.minute).0 (subst NoRefusal c.table_answer-first.ensures c.if-first-ne0.false)).1

pub shut_on-requires : goal.shut_on-requires
shut_on-requires c =
    let a = c.args in
    let way = way_found a.file.now a.hours.now _ _ c.open_at.ensures c.examine_opened-found.ensures.0 in
    head_laid a.file.now a.hours.now c.in-Ok.head (sym way ∙ c.in-Ok.is)

pub returns-in-Err : goal.returns-in-Err
returns-in-Err c =
    let a = c.args in
    let way = way_found a.file.now a.hours.now _ _ c.open_at.ensures c.examine_opened-found.ensures.0 in
    check_at_early a.file.now a.hours.now a.minute (subst NoRefusal c.table_answer-first.ensures c.if-first-ne0.false) c.in-Err.first (sym way ∙ c.in-Err.is)

pub returns-in-Ok : goal.returns-in-Ok
returns-in-Ok c =
    let a = c.args in
    let f = a.file.now in
    let t = a.hours.now in
    let h = c.in-Ok.head in
    let told = sym (way_found f t _ _ c.open_at.ensures c.examine_opened-found.ensures.0) ∙ c.in-Ok.is in
    let roles = ap (λ (x : Examined). x.roles) c.examine_opened-found.ensures.0 ∙ roles_from f t (entered_at_fine f t h told).0 _ (sym c.open_at.ensures) in
    c.sooner.ensures
    ∙ ap (sooner c.examine_opened-found.result.roles) (c.shut_on.ensures ∙ ap (λ k. shut_answer k (contents_at f h)) c.shut.ensures)
    ∙ check_at_late f t a.minute (subst NoRefusal c.table_answer-first.ensures c.if-first-ne0.false) h _ told roles
