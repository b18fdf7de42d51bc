use mathlib.Core.Path.{sym, ◌∙◌}
use Rattle.merging.proofs.MergeLaws.{second_refused}
use Rattle.merging.proofs.join_second.Goals as goal

pub join-requires : goal.join-requires
join-requires c =
    let p = c.requires in
    (p.0, sym c.in-Ok.ensures, p.1)

pub returns-in-Err : goal.returns-in-Err
returns-in-Err c =
    let a = c.args in
    let p = c.requires in
    second_refused a.first.now a.second.now a.out.now p.1 a.one _ p.0 (sym c.in-Err.ensures) _ c.not_written.ensures
