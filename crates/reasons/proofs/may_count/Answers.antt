use mathlib.Core.Path.{refl}
use Rattle.reasons.specs.Reasons.{may_count}
use Rattle.reasons.proofs.may_count.Goals as goal

pub returns : goal.returns
unfolding may_count
returns c = rw (c.by_choice.ensures, c.by_node.ensures, c.by_none.ensures) refl
