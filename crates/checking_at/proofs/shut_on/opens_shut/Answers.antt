use mathlib.Core.Path.{ap}
use mathlib.Core.Bool.{◌&&◌}
use lib.Dec.{eqb}
use Rattle.checking_at.proofs.shut_on.opens_shut.Goals as goal

pub returns : goal.returns
returns c = ap (λ b. eqb c.args.it.tag 7 && b) c.has_role.ensures
