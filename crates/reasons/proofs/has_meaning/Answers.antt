use mathlib.Core.Path.{refl}
use Rattle.reasons.specs.Reasons.{has_meaning}
use Rattle.reasons.proofs.has_meaning.Goals as goal

pub returns : goal.returns
unfolding has_meaning
returns c = refl
