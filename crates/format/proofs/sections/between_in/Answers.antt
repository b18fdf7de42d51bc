use native.Mathlib.Omega.{arith}
use borrow.Author.Tests.{eq-eqb, ne_eqb}
use Rattle.format.proofs.sections.between_in.Goals as goal

pub returns-then-version-eq3 : goal.returns-then-version-eq3
returns-then-version-eq3 c = (rw (eq-eqb _ _ c.if-version-eq3.true) c.from.ensures, omega (arith, c.from.ensures))

pub returns : goal.returns
returns c = (rw (ne_eqb _ _ c.if-version-eq3.false), omega arith)
