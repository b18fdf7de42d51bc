use Rattle.format.proofs.header.junior_records.Goals as goal

pub returns-then-has_juniors : goal.returns-then-has_juniors
returns-then-has_juniors c = rw (← c.has_juniors.ensures, c.if-has_juniors.true)

pub returns : goal.returns
returns c = rw (← c.has_juniors.ensures, c.if-has_juniors.false)
