use Rattle.certifying.specs.Parts.{closing_part}
use Rattle.certifying.proofs.check_closed_part.Goals as goal

pub returns : goal.returns
unfolding closing_part
returns c = c.check_asked.ensures
