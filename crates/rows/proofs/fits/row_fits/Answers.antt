use Prim.Native.Nat.{◌+◌, ◌*◌}
use mathlib.Core.Path.{refl, ◌∙◌}
use mathlib.Core.Bool.{true, false}
use Rattle.rows.proofs.FitLaws.{row_by_parts}
use Rattle.rows.proofs.fits.row_fits.Goals as goal

pub returns-then-not-n-m : goal.returns-then-not-n-m
returns-then-not-n-m c =
    let a = c.args in
    let n = c.from-n.result in
    let m = c.from-m.result in
    row_by_parts a.roles a.states.now a.at n m (a.at + 2 + 2 * m + 12 * n + n) (c.from-n.ensures ∙ c.word_at.ensures)
    (c.from-m.ensures ∙ c.word_at-2.ensures) refl false c.if-not-n-m.true

pub returns : goal.returns
returns c =
    c.lines_fit.ensures ∙ (let a = c.args in
    let n = c.from-n.result in
    let m = c.from-m.result in
    row_by_parts a.roles a.states.now a.at n m (a.at + 2 + 2 * m + 12 * n + n) (c.from-n.ensures ∙ c.word_at.ensures)
    (c.from-m.ensures ∙ c.word_at-2.ensures) refl true c.if-not-n-m.false)
