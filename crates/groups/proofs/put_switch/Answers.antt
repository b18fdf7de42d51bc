use mathlib.Core.Path.{refl}
use native.Mathlib.Omega.{arith}
use borrow.Author.Tests.{eq-eqb, ne_eqb}
use Rattle.format.specs.Writing.{nodes_put}
use Rattle.groups.proofs.put_switch.Goals as goal

pub returns-then-from-to : goal.returns-then-from-to
unfolding nodes_put
returns-then-from-to c = rw (eq-eqb _ _ c.if-from-to.true) (omega arith, refl)

pub returns-then-role-eq0 : goal.returns-then-role-eq0
unfolding nodes_put
returns-then-role-eq0 c = rw (ne_eqb _ _ c.if-from-to.false, eq-eqb _ _ c.if-role-eq0.true) (omega arith, refl)

pub returns : goal.returns
unfolding nodes_put
returns c = rw (ne_eqb _ _ c.if-from-to.false, ne_eqb _ _ c.if-role-eq0.false) (omega arith, c.put_node.ensures)
