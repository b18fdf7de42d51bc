use Prim.Native.Nat.{◌≤◌}
use mathlib.Core.Path.{refl, sym, ap, ◌∙◌}
use native.Mathlib.Omega.{arith}
use lib.ListN.{length}
use Rattle.format.specs.Contents.{contents_at}
use Rattle.format.specs.declared.Verdict.{Verdict}
use Rattle.format.proofs.ContentsLaws.{roles_held}
use Rattle.seated.proofs.EntryLaws.{bar_clear}
use Rattle.seated_rounds.proofs.EntryLaws.{into_barred, both_fit, both_place, into_done}
use borrow.Author.Rules.{rules}
use Rattle.seated_rounds.proofs.round_into.Goals as goal

pub returns-then-bar-ne0 : goal.returns-then-bar-ne0
returns-then-bar-ne0 c =
    let a = c.args in
    into_barred (contents_at a.file.now a.head) a.seats.now a.choices.now a.out.now c.seats_bar-bar.result c.seats_bar-bar.ensures c.no_round.result c.if-bar-ne0.true c.no_round.ensures

pub run_seated_by-own-requires : goal.run_seated_by-own-requires
run_seated_by-own-requires c =
    let a = c.args in
    let p = c.requires in
    let clear = bar_clear (contents_at a.file.now a.head) a.seats.now (sym (ap (λ (v : Verdict). v.number) c.seats_bar-bar.ensures) ∙ c.if-bar-ne0.false) in
    let short : length a.seats.now ≤ 16 = omega (arith, clear.0, roles_held a.file.now a.head, p.0.roles) in
    (p.0, refl, refl, refl, refl, refl, refl, refl, refl, short, omega (arith, p.1), clear.1)

pub add_round_seated-more-requires : goal.add_round_seated-more-requires
add_round_seated-more-requires c =
    let a = c.args in
    let p = c.requires in
    let clear = bar_clear (contents_at a.file.now a.head) a.seats.now (sym (ap (λ (v : Verdict). v.number) c.seats_bar-bar.ensures) ∙ c.if-bar-ne0.false) in
    let short : length a.seats.now ≤ 16 = omega (arith, clear.0, roles_held a.file.now a.head, p.0.roles) in
    let own = c.run_seated_by-own.ensures in
    (p.0, own.1, own.2, short, own.0.kept, refl)

pub overflow_add-both : goal.overflow_add-both
overflow_add-both c =
    let a = c.args in
    let fit = both_fit (contents_at a.file.now a.head) a.seats.now a.choices.now a.out.now c.seats_bar-bar.result c.seats_bar-bar.ensures _ _ c.run_seated_by-own.result _ _ _ _ c.run_seated_by-own.ensures.0 c.add_round_seated-more.result _ _ _ _ _ c.add_round_seated-more.ensures c.requires.1 in
    omega (arith, fit)

pub put_state-requires : goal.put_state-requires
put_state-requires c = (c.add_round_seated-more.ensures.kept.sized, c.requires.2)

pub stopped_at-verdict-requires : goal.stopped_at-verdict-requires
stopped_at-verdict-requires c =
    let a = c.args in
    both_place (contents_at a.file.now a.head) a.seats.now a.choices.now a.out.now c.seats_bar-bar.result c.seats_bar-bar.ensures _ _ c.run_seated_by-own.result _ _ _ _ c.run_seated_by-own.ensures.0 c.add_round_seated-more.result _ _ _ _ _ c.add_round_seated-more.ensures c.requires.1

pub returns : goal.returns
returns c =
    let a = c.args in
    into_done (contents_at a.file.now a.head) a.seats.now a.choices.now a.out.now c.seats_bar-bar.result c.seats_bar-bar.ensures _ _ c.run_seated_by-own.result _ _ _ _ c.run_seated_by-own.ensures.0 c.add_round_seated-more.result _ _ _ _ _ c.add_round_seated-more.ensures c.stopped_at-verdict.result c.output_length.result _ c.if-bar-ne0.false c.stopped_at-verdict.ensures c.output_length.ensures c.put_state.ensures
