use mathlib.Core.Path.{◌≡◌, sym, ap}
use native.Mathlib.Omega.{arith}
use Rattle.masks.specs.Mask.{with}
use Rattle.masks.proofs.Forms.{with_form}
use Rattle.masks.proofs.with_role.Goals as goal

-- `masks::with_role` meets its contract: 0 changes nothing, and the rest is the definition with the shift written out.
pub returns-then-role-eq0 : goal.returns-then-role-eq0
unfolding with
returns-then-role-eq0 c =
    let a = c.args in
    let e : a.role.0 ≡ 0 = omega arith in
    sym (ap (with a.mask) e)

pub returns : goal.returns
returns c = let a = c.args in with_form 16 a.mask a.role.0 (omega arith) (omega arith)
