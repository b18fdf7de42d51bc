use mathlib.Core.Path.{sym, ◌∙◌}
use mathlib.Core.Bool.{true, false}
use Rattle.running.specs.Ways.{stands_in}
use Rattle.running.proofs.PairLaws.{left_none, left_by}
use Rattle.running.proofs.pairs.left_out.Goals as goal

pub returns-then-over-eq0 : goal.returns-then-over-eq0
returns-then-over-eq0 c =
    let a = c.args in
    left_none a.over a.count (stands_in a.over a.ins.now) c.if-over-eq0.true

pub returns-then-stands_in : goal.returns-then-stands_in
returns-then-stands_in c =
    let a = c.args in
    left_by a.over a.count true (stands_in a.over a.ins.now) c.if-over-eq0.false (sym c.stands_in.ensures ∙ c.if-stands_in.true)

pub returns : goal.returns
returns c =
    let a = c.args in
    left_by a.over a.count false (stands_in a.over a.ins.now) c.if-over-eq0.false (sym c.stands_in.ensures ∙ c.if-stands_in.false)
