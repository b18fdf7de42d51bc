use mathlib.Core.Path.{refl}
use Rattle.reasons.specs.Reasons.{by_none}
use Rattle.reasons.proofs.by_none.Goals as goal

pub returns : goal.returns
unfolding by_none
returns c = refl
