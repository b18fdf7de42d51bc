use mathlib.Core.Path.{refl}
use Rattle.naming.specs.Scopes.{marked}
use Rattle.naming.proofs.scopes.marked.Goals as goal

pub returns : goal.returns
unfolding marked
returns c = refl
