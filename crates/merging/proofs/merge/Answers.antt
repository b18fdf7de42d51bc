use mathlib.Core.Path.{sym, ◌∙◌}
use native.Mathlib.Omega.{arith}
use Rattle.merging.proofs.MergeLaws.{too_small, first_refused}
use Rattle.merging.proofs.merge.Goals as goal

pub returns-then-out-lt-ROOM : goal.returns-then-out-lt-ROOM
returns-then-out-lt-ROOM c =
    let a = c.args in
    too_small a.first.now a.second.now a.out.now (omega (arith, c.if-out-lt-ROOM.true)) _ c.not_written.ensures

pub join_second-requires : goal.join_second-requires
join_second-requires c = (sym c.in-Ok.ensures, omega (arith, c.if-out-lt-ROOM.false))

pub returns-in-Err : goal.returns-in-Err
returns-in-Err c =
    let a = c.args in
    first_refused a.first.now a.second.now a.out.now (omega (arith, c.if-out-lt-ROOM.false)) _ (sym c.in-Err.ensures) _ c.not_written-in-Err.ensures
