use mathlib.Core.Path.{refl}
use Rattle.reasons.specs.Reasons.{by_choice}
use Rattle.reasons.proofs.by_choice.Goals as goal

pub returns : goal.returns
unfolding by_choice
returns c = refl
