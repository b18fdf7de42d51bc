use Rattle.certifying.specs.Certificate.{closing}
use Rattle.certifying.proofs.check_closed.Goals as goal

pub returns : goal.returns
unfolding closing
returns c = c.check_asked.ensures
