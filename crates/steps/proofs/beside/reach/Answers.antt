use mathlib.Core.Path.{ap, ◌∙◌}
use Rattle.naming.specs.Scopes.{awaited_by}
use Rattle.steps.specs.Beside.{one_more}
use Rattle.steps.proofs.TotalLaws.{kinds_none, more_none}
use Rattle.steps.proofs.beside.reach.Goals as goal

pub returns-then-table-eq0 : goal.returns-then-table-eq0
returns-then-table-eq0 c =
    let a = c.args in
    more_none a.beside.now (awaited_by a.table.now a.node) (kinds_none a.table.now c.if-table-eq0.true a.node)

pub returns : goal.returns
returns c = c.one_more.ensures ∙ ap (one_more c.args.beside.now) c.awaited_by.ensures
