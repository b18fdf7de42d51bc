use mathlib.Core.Path.{◌≡◌, sym, ap}
use native.Mathlib.Omega.{arith}
use Rattle.masks.specs.Mask.{has}
use Rattle.masks.proofs.Laws.{has_above}
use Rattle.masks.proofs.Forms.{has_form}
use Rattle.masks.proofs.has_role.Goals as goal

-- `masks::has_role` meets its contract. 0 is no item, a mask of 16 bits has none above 16, and the rest is the definition with the shift written out.
pub returns-then-role-eq0 : goal.returns-then-role-eq0
unfolding has
returns-then-role-eq0 c =
    let a = c.args in
    let e : a.role.0 ≡ 0 = omega arith in
    sym (ap (has a.mask) e)

pub returns-then-role-gt16 : goal.returns-then-role-gt16
returns-then-role-gt16 c = let a = c.args in sym (has_above 16 a.mask a.role.0 (omega arith) (omega arith))

pub returns : goal.returns
returns c = let a = c.args in has_form a.mask a.role.0 (omega arith)
