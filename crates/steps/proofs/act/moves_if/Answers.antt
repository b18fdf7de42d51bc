use Rattle.steps.proofs.act.moves_if.Goals as goal

pub returns-then-fits : goal.returns-then-fits
returns-then-fits c = rw c.if-fits.true c.sole.ensures

pub returns : goal.returns
returns c = rw c.if-fits.false c.refused.ensures
