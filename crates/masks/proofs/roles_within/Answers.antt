use mathlib.Core.Path.{refl}
use Rattle.masks.specs.Mask.{within}
use Rattle.masks.proofs.roles_within.Goals as goal

-- `masks::roles_within` meets its contract, which is the definition.
pub returns : goal.returns
unfolding within
returns c = refl
