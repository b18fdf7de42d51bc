use mathlib.Core.Path.{◌≡◌, sym, ap}
use native.Mathlib.Omega.{arith}
use Rattle.masks.specs.Mask.{without}
use Rattle.masks.proofs.Laws.{has_above, without_absent}
use Rattle.masks.proofs.Forms.{without_form}
use Rattle.masks.proofs.without_role.Goals as goal

-- `masks::without_role` meets its contract: 0 and a role above 16 are in no mask of 16 bits, and the rest is the definition with the shift written out.
pub returns-then-role-eq0 : goal.returns-then-role-eq0
unfolding without
returns-then-role-eq0 c =
    let a = c.args in
    let e : a.role.0 ≡ 0 = omega arith in
    sym (ap (without a.mask) e)

pub returns-then-role-gt16 : goal.returns-then-role-gt16
returns-then-role-gt16 c = let a = c.args in sym (without_absent a.mask a.role.0 (has_above 16 a.mask a.role.0 (omega arith) (omega arith)))

pub returns : goal.returns
returns c = let a = c.args in without_form 16 a.mask a.role.0 (omega arith) (omega arith)
