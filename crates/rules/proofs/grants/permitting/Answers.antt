use lib.ListN.{get_or, get_or-eq_default}
use native.Mathlib.Omega.{arith}
use mathlib.Core.Path.{sym, ap, ◌∙◌}
use lib.Bits.{bit_and, and_zero_r}
use Rattle.rules.proofs.PermittedRoles.{those_permitting}
use Rattle.rules.proofs.grants.permitting.Goals as goal

pub returns-then-k-table : goal.returns-then-k-table
returns-then-k-table c =
    let a = c.args in
    let e = ap (λ k. bit_and a.roles (get_or a.table.now k 0)) c.from-k.ensures in
    (e, λ D w its. those_permitting D w a.table.now a.roles a.kind its _ e)

pub returns : goal.returns
returns c =
    let a = c.args in
    let none = get_or-eq_default a.table.now 0 {n = a.kind.0} (omega (arith, c.from-k.ensures)) in
    let e = sym (ap (bit_and a.roles) none ∙ and_zero_r a.roles) in
    (e, λ D w its. those_permitting D w a.table.now a.roles a.kind its 0 e)
