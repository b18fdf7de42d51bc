use mathlib.Core.Path.{refl}
use Rattle.reasons.specs.Reasons.{at_node}
use Rattle.reasons.proofs.at_node.Goals as goal

pub returns : goal.returns
unfolding at_node
returns c = refl
