use mathlib.Core.Path.{◌≡◌, sym, ap}
use native.Mathlib.Omega.{arith}
use Rattle.masks.specs.Mask.{has}
use Rattle.masks.proofs.Laws.{has_above}
use Rattle.masks.proofs.Forms.{has_form}
use Rattle.masks.proofs.has_kind.Goals as goal

-- `masks::has_kind` meets its contract, as `has_role` does, at 32 bits.
pub returns-then-kind-eq0 : goal.returns-then-kind-eq0
unfolding has
returns-then-kind-eq0 c =
    let a = c.args in
    let e : a.kind.0 ≡ 0 = omega arith in
    sym (ap (has a.mask) e)

pub returns-then-kind-gt32 : goal.returns-then-kind-gt32
returns-then-kind-gt32 c = let a = c.args in sym (has_above 32 a.mask a.kind.0 (omega arith) (omega arith))

pub returns : goal.returns
returns c = let a = c.args in has_form a.mask a.kind.0 (omega arith)
