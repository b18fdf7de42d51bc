use mathlib.Core.Path.{ap}
use lib.Dec.{eqb}
use Rattle.format.proofs.header.length_fits.Goals as goal

pub returns : goal.returns
returns c = ap (eqb c.args.len) c.length_for.ensures.0
