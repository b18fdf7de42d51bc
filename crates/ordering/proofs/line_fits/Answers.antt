use mathlib.Core.Path.{sym, ◌∙◌}
use Rattle.ordering.proofs.OrderLaws.{line_other, line_same, line-end}
use Rattle.ordering.proofs.line_fits.Goals as goal

pub returns-then-not-may_wait : goal.returns-then-not-may_wait
returns-then-not-may_wait c =
    let l = c.loop-k in
    line_other _ c.args.n l.k-index l.seen c.loop-k-test.true (sym c.may_wait.ensures ∙ c.if-not-may_wait.true) ∙ sym l.invariant

pub loop-k-preserved : goal.loop-k-preserved
loop-k-preserved c =
    let l = c.loop-k in
    rw c.with_waiting-seen.ensures (l.invariant ∙ line_same _ c.args.n l.k-index l.seen c.loop-k-test.true (sym c.may_wait.ensures ∙ c.if-not-may_wait.false))

pub returns : goal.returns
returns c =
    let l = c.loop-k in
    line-end _ c.args.n l.k-index l.seen c.loop-k-test.false ∙ sym l.invariant
