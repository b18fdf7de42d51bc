use Prim.Native.Nat.{◌+◌, ◌-◌}
use mathlib.Core.Path.{◌≡◌, sym, ap, ◌∙◌}
use mathlib.Core.Bool.{Bool, ◌&&◌}
use native.Mathlib.Omega.{arith}
use Rattle.rows.specs.Fits.{lines_fit}
use Rattle.rows.proofs.FitLaws.{line_more, lines_over}
use Rattle.rows.proofs.fits.lines_fit.Goals as goal

pub loop-r-init : goal.loop-r-init
loop-r-init c =
    let a = c.args in
    let all : a.roles ≡ a.roles - 0 = omega arith in
    (omega arith, ap (lines_fit a.states.now a.at) all)

pub returns-then-not-end-states : goal.returns-then-not-end-states
returns-then-not-end-states c =
    let a = c.args in
    let l = c.loop-r in
    let more = line_more a.states.now l.on a.roles l._r c.from-n.result (omega arith) (c.from-n.ensures ∙ c.word_at.ensures) in
    sym (l.invariant.1 ∙ more ∙ ap (λ (b : Bool). b && lines_fit a.states.now (l.on + 1 + c.from-n.result) (a.roles - (l._r + 1))) c.if-not-end-states.true)

pub loop-r-preserved : goal.loop-r-preserved
loop-r-preserved c =
    let a = c.args in
    let l = c.loop-r in
    let more = line_more a.states.now l.on a.roles l._r c.from-n.result (omega arith) (c.from-n.ensures ∙ c.word_at.ensures) in
    (omega arith, l.invariant.1 ∙ more ∙ ap (λ (b : Bool). b && lines_fit a.states.now (l.on + 1 + c.from-n.result) (a.roles - (l._r + 1))) c.if-not-end-states.false)

pub returns : goal.returns
returns c =
    let a = c.args in
    let l = c.loop-r in
    lines_over a.states.now l.on a.roles l._r (omega arith) ∙ sym l.invariant.1
