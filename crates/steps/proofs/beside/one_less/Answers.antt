use Rattle.steps.specs.Beside.{one_less}
use Rattle.steps.proofs.beside.one_less.Goals as goal

pub returns : goal.returns
unfolding one_less
returns c = c.add_to.ensures
