use native.Mathlib.Omega.{arith}
use Rattle.seated.proofs.RoleLaws.{seats_none, seats_at, seats_past}
use Rattle.seated.proofs.choice.seats_of.Goals as goal

pub returns-then-role-eq0 : goal.returns-then-role-eq0
returns-then-role-eq0 c =
    let a = c.args in
    seats_none a.seats.now a.role.0 c.if-role-eq0.true

pub returns-then-at-seats : goal.returns-then-at-seats
returns-then-at-seats c =
    let a = c.args in
    seats_at a.seats.now a.role.0 c.from-at.result c.if-role-eq0.false (omega (arith, c.from-at.ensures, c.if-role-eq0.false))

pub returns : goal.returns
returns c =
    let a = c.args in
    seats_past a.seats.now a.role.0 c.from-at.result (omega (arith, c.from-at.ensures, c.if-role-eq0.false)) (omega arith)
