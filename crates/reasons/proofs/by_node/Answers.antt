use mathlib.Core.Path.{refl}
use Rattle.reasons.specs.Reasons.{by_node}
use Rattle.reasons.proofs.by_node.Goals as goal

pub returns : goal.returns
unfolding by_node
returns c = refl
