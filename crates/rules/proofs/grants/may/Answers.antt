use Prim.Native.Nat.{ℕ}
use mathlib.Core.Path.{ap}
use mathlib.Core.Bool.{not}
use lib.Dec.{eqb}
use Rattle.rules.proofs.PermittedRoles.{may_iff}
use Rattle.rules.proofs.grants.may.Goals as goal

pub returns : goal.returns
returns c =
    let a = c.args in
    let e = ap (λ (m : ℕ). not (eqb m 0)) c.permitting.ensures.0 in
    (e, λ D w its. may_iff D w a.table.now a.roles a.kind its _ e)
