use mathlib.Core.Path.{ap, ◌∙◌}
use mathlib.Core.Bool.{not, ◌||◌}
use lib.Bits.{bit_and}
use lib.Dec.{eqb}
use Rattle.masks.specs.Mask.{has}
use Rattle.rules.proofs.JuniorGrants.{joins_exactly}
use Rattle.rules.proofs.grants.role_permits.Goals as goal

pub returns : goal.returns
returns c =
    let a = c.args in
    let own = c.has_kind.ensures ∙ ap (λ g. has g a.kind.0) c.granted_by.ensures in
    let its = ap (λ b. b || not (eqb (bit_and a.lower a.juniors) 0)) own in
    (its, λ C here e. its ∙ joins_exactly C a.way a.role a.kind a.it a.juniors a.lower here e)
