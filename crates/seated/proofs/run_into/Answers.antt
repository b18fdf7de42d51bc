use mathlib.Core.Path.{refl, sym, ap, ◌∙◌}
use native.Mathlib.Omega.{arith}
use Rattle.format.specs.Contents.{contents_at}
use Rattle.format.specs.declared.Verdict.{Verdict}
use Rattle.format.proofs.ContentsLaws.{roles_held}
use Rattle.seated.proofs.EntryLaws.{bar_clear, into_barred, went_word, into_done}
use Rattle.seated.proofs.run_into.Goals as goal

pub returns-then-bar-ne0 : goal.returns-then-bar-ne0
returns-then-bar-ne0 c =
    let a = c.args in
    into_barred (contents_at a.file.now a.head) a.seats.now a.choices.now a.out.now c.seats_bar-bar.result c.seats_bar-bar.ensures c.not_written.result c.if-bar-ne0.true c.not_written.ensures

pub run_seated_by-went-requires : goal.run_seated_by-went-requires
run_seated_by-went-requires c =
    let a = c.args in
    let p = c.requires in
    let zero = c.if-bar-ne0.false in
    let clear = bar_clear (contents_at a.file.now a.head) a.seats.now (sym (ap (λ (v : Verdict). v.number) c.seats_bar-bar.ensures) ∙ zero) in
    (p.0, refl, refl, refl, refl, refl, refl, refl, refl, omega (arith, clear.0, roles_held a.file.now a.head, p.0.roles), p.1, clear.1)

pub put_state-requires : goal.put_state-requires
put_state-requires c = (c.run_seated_by-went.ensures.0.kept.sized, c.requires.2)

pub stopped_at-verdict-requires : goal.stopped_at-verdict-requires
stopped_at-verdict-requires c =
    let a = c.args in
    went_word (contents_at a.file.now a.head) a.seats.now a.choices.now a.out.now c.seats_bar-bar.result c.seats_bar-bar.ensures _ _ c.run_seated_by-went.result _ _ _ _ c.run_seated_by-went.ensures.0 c.requires.1

pub output_length-requires : goal.output_length-requires
output_length-requires c = (c.run_seated_by-went.ensures.0.kept.sized.threads, c.run_seated_by-went.ensures.0.kept.sized.made)

pub returns : goal.returns
returns c =
    let a = c.args in
    into_done (contents_at a.file.now a.head) a.seats.now a.choices.now a.out.now c.seats_bar-bar.result c.seats_bar-bar.ensures _ _ c.run_seated_by-went.result _ _ _ _ c.run_seated_by-went.ensures.0 c.stopped_at-verdict.result c.output_length.result _ c.if-bar-ne0.false c.stopped_at-verdict.ensures c.output_length.ensures c.put_state.ensures
