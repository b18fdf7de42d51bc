use mathlib.Core.Path.{sym, ap, subst, ◌∙◌}
use native.Mathlib.Omega.{arith}
use Prim.Native.Nat.{◌≤◌}
use lib.ListN.{length}
use Rattle.format.specs.Header.{room_for}
use Rattle.format.specs.declared.Verdict.{Verdict}
use Rattle.format.proofs.AnswerLaws.{NoRefusal}
use Rattle.hours.specs.Hours.{table_answer}
use Rattle.hours.proofs.TableLaws.{table_exact}
use Rattle.checking_at.proofs.CheckAtLaws.{admitted_at, way_found}
use Rattle.placing.specs.Placing.{no_place}
use Rattle.placing_at.proofs.PlaceAtLaws.{too_small_at, refused_at, over_kept_at, table_loud, names_loud_at, closed_labels, answer_from_at, over_from_at, entered_plain}
use borrow.Author.Rules.{rules}
use Rattle.placing_at.proofs.place_at.Goals as goal

pub returns-then-out-room_for : goal.returns-then-out-room_for
returns-then-out-room_for c =
    let a = c.args in
    let e = too_small_at a.file.now a.hours.now a.minute (length a.out.now) (omega (arith, c.if-out-room_for.true, c.room_for.ensures)) in
    (c.no_place.ensures ∙ sym e, sym (over_kept_at a.file.now a.hours.now a.minute a.out.now 17 0 (λ z. let no_way : ⊥ = omega (arith, z) in no_way) e))

pub returns-then-first-ne0 : goal.returns-then-first-ne0
returns-then-first-ne0 c =
    let a = c.args in
    let v : Verdict = table_answer a.hours.now a.minute in
    let e = c.table_answer-first.ensures in
    let loud : NoRefusal v → ⊥ = λ q. c.if-first-ne0.true (ap (λ (v : Verdict). v.number) e ∙ q) in
    let p = refused_at a.file.now a.hours.now a.minute (length a.out.now) v (omega (arith, c.if-out-room_for.false, c.room_for.ensures)) (table_loud a.file.now a.hours.now a.minute loud) loud in
    (c.no_place-then-first-ne0.ensures ∙ ap (λ (v : Verdict). no_place v.number v.place) e ∙ sym p, sym (over_kept_at a.file.now a.hours.now a.minute a.out.now v.number v.place loud p))

pub open_at-requires : goal.open_at-requires
open_at-requires c = ((table_exact c.args.hours.now c.args.minute).0 (subst NoRefusal c.table_answer-first.ensures c.if-first-ne0.false)).1

pub examine_opened-requires : goal.examine_opened-requires
examine_opened-requires c = (admitted_at c.args.file.now c.args.hours.now _ (sym c.open_at.ensures), search rules)

pub shut-requires : goal.shut-requires
shut-requires c = ((table_exact c.args.hours.now c.args.minute).0 (subst NoRefusal c.table_answer-first.ensures c.if-first-ne0.false)).1

pub place_body-requires : goal.place_body-requires
place_body-requires c =
    let a = c.args in
    let f = a.file.now in
    let t = a.hours.now in
    let h = c.in-Ok.head in
    let table = subst NoRefusal c.table_answer-first.ensures c.if-first-ne0.false in
    let told = sym (way_found f t _ _ c.open_at.ensures c.examine_opened.ensures.0) ∙ c.in-Ok.is in
    let labels = closed_labels f t a.minute table h told _ c.open_at.ensures _ c.examine_opened.ensures.1 _ c.shut.ensures _ c.close.ensures in
    (entered_plain f t a.minute h told, labels.1, omega (arith, c.if-out-room_for.false, c.room_for.ensures))

pub returns-in-Err : goal.returns-in-Err
returns-in-Err c =
    let a = c.args in
    let f = a.file.now in
    let t = a.hours.now in
    let w = c.in-Err.first in
    let told = sym (way_found f t _ _ c.open_at.ensures c.examine_opened.ensures.0) ∙ c.in-Err.is in
    let (e, loud) = names_loud_at f t a.minute (subst NoRefusal c.table_answer-first.ensures c.if-first-ne0.false) w told in
    let p = refused_at f t a.minute (length a.out.now) w (omega (arith, c.if-out-room_for.false, c.room_for.ensures)) e loud in
    (c.no_place-in-Err.ensures ∙ sym p, sym (over_kept_at f t a.minute a.out.now w.number w.place loud p))

pub returns-in-Ok : goal.returns-in-Ok
returns-in-Ok c =
    let a = c.args in
    let f = a.file.now in
    let t = a.hours.now in
    let h = c.in-Ok.head in
    let table = subst NoRefusal c.table_answer-first.ensures c.if-first-ne0.false in
    let told = sym (way_found f t _ _ c.open_at.ensures c.examine_opened.ensures.0) ∙ c.in-Ok.is in
    let labels = closed_labels f t a.minute table h told _ c.open_at.ensures _ c.examine_opened.ensures.1 _ c.shut.ensures _ c.close.ensures in
    let roles = c.close.new.roles in
    let wide : room_for f ≤ length a.out.now = omega (arith, c.if-out-room_for.false, c.room_for.ensures) in
    let e = c.place_body.ensures in (
      e.0 ∙ answer_from_at f t a.minute table h told roles labels.0 (length a.out.now) wide,
      e.1 ∙ over_from_at f t a.minute table h told roles labels.0 a.out.now wide,
    )
