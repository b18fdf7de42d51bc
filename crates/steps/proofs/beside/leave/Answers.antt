use Prim.Native.Nat.{◌-◌}
use Rattle.naming.specs.Scopes.{awaited_by}
use Rattle.steps.proofs.TotalLaws.{kinds_none, less_none}
use Rattle.steps.proofs.beside.leave.Goals as goal

pub returns-then-table-eq0 : goal.returns-then-table-eq0
returns-then-table-eq0 c =
    let a = c.args in
    less_none a.beside.now (awaited_by a.table.now (a.next - 1)) (kinds_none a.table.now c.if-table-eq0.true (a.next - 1))
