use mathlib.Core.Path.{◌≡◌, sym, ap}
use native.Mathlib.Omega.{arith}
use Rattle.masks.specs.Mask.{has}
use Rattle.masks.proofs.Laws.{has_above}
use Rattle.masks.proofs.Forms.{has_form}
use Rattle.seating.proofs.sessions.has_session.Goals as goal

pub returns-then-k-eq0 : goal.returns-then-k-eq0
unfolding has
returns-then-k-eq0 c =
    let a = c.args in
    let e : a.k ≡ 0 = omega arith in
    sym (ap (has a.mask) e)

pub returns-then-k-gt32 : goal.returns-then-k-gt32
returns-then-k-gt32 c = let a = c.args in sym (has_above 32 a.mask a.k (omega arith) (omega arith))

pub returns : goal.returns
returns c = let a = c.args in has_form a.mask a.k (omega arith)
