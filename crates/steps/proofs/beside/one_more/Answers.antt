use Rattle.steps.specs.Beside.{one_more}
use Rattle.steps.proofs.beside.one_more.Goals as goal

pub returns : goal.returns
unfolding one_more
returns c = c.add_to.ensures
