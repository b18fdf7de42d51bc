use native.Mathlib.Omega.{arith}
use mathlib.Core.Path.{sym, ◌∙◌}
use Rattle.trees.proofs.shape.bound_below.Goals as goal

pub overflow_add-result : goal.overflow_add-result
overflow_add-result c = omega (arith, c.requires (sym c.binds_one.ensures ∙ c.if-binds_one.true))

pub returns-then-binds_one : goal.returns-then-binds_one
returns-then-binds_one c = rw (sym c.binds_one.ensures ∙ c.if-binds_one.true)

pub returns : goal.returns
returns c = rw (sym c.binds_one.ensures ∙ c.if-binds_one.false)
