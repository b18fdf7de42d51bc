use borrow.Author.Tests.{eq-eqb, ne_eqb}
use Rattle.merging.proofs.own.own_head.Goals as goal

pub returns-then-head-eq1 : goal.returns-then-head-eq1
returns-then-head-eq1 c = rw (eq-eqb _ _ c.if-head-eq1.true)

pub returns : goal.returns
returns c = rw (ne_eqb _ _ c.if-head-eq1.false)
