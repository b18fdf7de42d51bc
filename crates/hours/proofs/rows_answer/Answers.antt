use mathlib.Core.Path.{◌≡◌, sym, ap, ◌∙◌}
use Prim.Native.Nat.{◌+◌, ◌-◌}
use native.Mathlib.Omega.{arith}
use Rattle.format.specs.Answers.{refused}
use Rattle.format.proofs.AnswerLaws.{first_stops, first_goes_on, first_ends, first_last}
use Rattle.hours.specs.Hours.{rows, row_at, row_fits, rows_answer}
use Rattle.hours.proofs.rows_answer.Goals as goal
use Rattle.hours.proofs.rows_answer.Goals.{After-row_fits}

pub loop-n-init : goal.loop-n-init
unfolding rows_answer
loop-n-init c =
    let all : rows c.args.hours.now + 1 - 1 ≡ rows c.args.hours.now = omega arith in rw all

-- the test of the row in hand
tested : (c : After-row_fits) → row_fits c.args.roles (row_at c.args.hours.now (c.loop-n.n - 1)) ≡ c.row_fits.result
tested c = sym (c.row_fits.ensures ∙ ap (row_fits c.args.roles) c.row_at.ensures)

pub returns-then-not-row_fits : goal.returns-then-not-row_fits
returns-then-not-row_fits c =
    let a = c.args in
    ap (refused 23) c.narrow.ensures ∙ sym (first_stops _ _ c.loop-n.n (rows a.hours.now) (omega arith) (tested (goal.at.returns-then-not-row_fits c).After-row_fits ∙ c.if-not-row_fits.true)) ∙ c.loop-n.invariant

pub loop-n-preserved : goal.loop-n-preserved
loop-n-preserved c =
    let a = c.args in
    sym (first_goes_on _ _ c.loop-n.n (rows a.hours.now) (omega arith) (tested (goal.at.loop-n-preserved c).After-row_fits ∙ c.if-not-row_fits.false)) ∙ c.loop-n.invariant

pub returns : goal.returns
returns c = sym (first_ends _ _ c.loop-n.n (rows c.args.hours.now) (omega arith)) ∙ c.loop-n.invariant

pub returns-else-not-row_fits : goal.returns-else-not-row_fits
returns-else-not-row_fits c =
    let a = c.args in
    sym (first_last _ _ c.loop-n.n (rows a.hours.now) (omega arith) (tested (goal.at.returns-else-not-row_fits c).After-row_fits ∙ c.if-not-row_fits.false)) ∙ c.loop-n.invariant
