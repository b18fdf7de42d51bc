use native.Mathlib.Omega.{arith}
use borrow.Author.Tests.{eq-eqb, ne_eqb}
use Rattle.running.proofs.stopped_at.Goals as goal

pub returns-then-progress-eq0 : goal.returns-then-progress-eq0
returns-then-progress-eq0 c = rw (eq-eqb _ 0 c.if-progress-eq0.true)

pub overflow_add-result : goal.overflow_add-result
overflow_add-result c = omega (arith, c.requires c.if-progress-eq0.false)

pub returns : goal.returns
returns c = rw (ne_eqb _ 0 c.if-progress-eq0.false)
