use native.Mathlib.Omega.{arith}
use Rattle.format.proofs.header.more_for.Goals as goal

pub returns-then-has_juniors : goal.returns-then-has_juniors
returns-then-has_juniors c = (rw (← c.has_juniors.ensures, c.if-has_juniors.true), omega arith)

pub returns : goal.returns
returns c = (rw (← c.has_juniors.ensures, c.if-has_juniors.false), omega arith)
