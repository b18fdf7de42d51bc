use mathlib.Core.Path.{refl}
use Rattle.masks.specs.Mask.{minus}
use Rattle.masks.proofs.roles_minus.Goals as goal

-- `masks::roles_minus` meets its contract, which is the definition.
pub returns : goal.returns
unfolding minus
returns c = refl
