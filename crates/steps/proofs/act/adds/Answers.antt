use borrow.Author.Tests.{lt-ltb, le-ltb}
use Rattle.steps.proofs.act.adds.Goals as goal

pub returns-then-threads-lt64 : goal.returns-then-threads-lt64
returns-then-threads-lt64 c = rw (lt-ltb _ _ c.if-threads-lt64.true)

pub returns : goal.returns
returns c = rw (le-ltb _ _ c.if-threads-lt64.false) c.refused.ensures
