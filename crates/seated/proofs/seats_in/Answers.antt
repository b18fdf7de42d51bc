use mathlib.Core.List.{[]}
use mathlib.Core.Path.{refl, sym, ap, ◌∙◌}
use native.Mathlib.Omega.{arith}
use Rattle.format.specs.Contents.{contents_at}
use Rattle.format.specs.declared.Verdict.{Verdict}
use Rattle.format.proofs.ContentsLaws.{roles_held, sessions_held}
use Rattle.naming.specs.Scopes.{awaited_by}
use Rattle.seated.proofs.EntryLaws.{bar_clear, went_word}
use Rattle.seated.proofs.SeatsLaws.{read_barred, read_done}
use Rattle.seated.proofs.seats_in.Goals as goal

pub returns-then-bar-ne0 : goal.returns-then-bar-ne0
returns-then-bar-ne0 c =
    let a = c.args in
    read_barred (awaited_by a.table.now) (contents_at a.file.now a.head) a.seats.now a.choices.now c.seats_bar-bar.result c.seats_bar-bar.ensures c.no_seats.result c.if-bar-ne0.true c.no_seats.ensures

pub run_seated_by-went-requires : goal.run_seated_by-went-requires
run_seated_by-went-requires c =
    let a = c.args in
    let p = c.requires in
    let zero = c.if-bar-ne0.false in
    let clear = bar_clear (contents_at a.file.now a.head) a.seats.now (sym (ap (λ (v : Verdict). v.number) c.seats_bar-bar.ensures) ∙ zero) in
    (p.0, refl, refl, refl, refl, refl, refl, refl, refl, omega (arith, clear.0, roles_held a.file.now a.head, p.0.roles), p.1, clear.1)

pub stopped_at-verdict-requires : goal.stopped_at-verdict-requires
stopped_at-verdict-requires c =
    let a = c.args in
    went_word (contents_at a.file.now a.head) a.seats.now a.choices.now [] c.seats_bar-bar.result c.seats_bar-bar.ensures _ _ c.run_seated_by-went.result _ _ _ _ c.run_seated_by-went.ensures.0 c.requires.1

pub taken_words-taken-requires : goal.taken_words-taken-requires
taken_words-taken-requires c = (c.run_seated_by-went.ensures.0.kept.sized, c.run_seated_by-went.ensures.0.kept.owners)

pub waiting_words-waiting-requires : goal.waiting_words-waiting-requires
waiting_words-waiting-requires c = c.run_seated_by-went.ensures.0.kept.rows

pub line_words-line-requires : goal.line_words-line-requires
line_words-line-requires c = c.run_seated_by-went.ensures.0.kept.rows

pub totals_of-totals-requires : goal.totals_of-totals-requires
totals_of-totals-requires c = c.run_seated_by-went.ensures.0.kept.sized.beside

pub returns : goal.returns
returns c =
    let a = c.args in
    read_done (awaited_by a.table.now) (contents_at a.file.now a.head) a.seats.now a.choices.now c.seats_bar-bar.result c.seats_bar-bar.ensures c.run_seated_by-went.result _ _ _ _ (omega (arith, sessions_held a.file.now a.head, c.requires.0.sessions)) c.run_seated_by-went.ensures.0 c.stopped_at-verdict.result c.taken_words-taken.result c.waiting_words-waiting.result c.line_words-line.result c.totals_of-totals.result c.if-bar-ne0.false c.stopped_at-verdict.ensures c.taken_words-taken.ensures c.waiting_words-waiting.ensures c.line_words-line.ensures c.totals_of-totals.ensures
