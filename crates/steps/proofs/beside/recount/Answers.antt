use Prim.Native.Nat.{ℕ}
use mathlib.Core.Path.{sym, ap, ◌∙◌}
use mathlib.Core.List.{List}
use Rattle.naming.specs.Scopes.{awaited_by}
use Rattle.steps.specs.declared.Answer.{Answer}
use Rattle.steps.specs.Acted.{outcome_by}
use Rattle.steps.specs.Beside.{one_more, totals_by}
use Rattle.steps.proofs.beside.recount.Goals as goal

pub returns-in-Moves : goal.returns-in-Moves
returns-in-Moves c = let a = c.args in c.reach.ensures ∙ ap (λ (x : Answer). totals_by (awaited_by a.table.now) a.beside.now (outcome_by x a.it.first a.it.second)) (sym c.in-Moves.is)

pub returns-in-Adds : goal.returns-in-Adds
returns-in-Adds c =
    let a = c.args in
    c.reach-in-Adds-2.ensures ∙ ap (λ (l : List ℕ). one_more l (awaited_by a.table.now a.it.second.node)) c.reach-in-Adds.ensures
    ∙ ap (λ (x : Answer). totals_by (awaited_by a.table.now) a.beside.now (outcome_by x a.it.first a.it.second)) (sym c.in-Adds.is)

pub returns-in-Makes : goal.returns-in-Makes
returns-in-Makes c = let a = c.args in c.reach-in-Makes.ensures ∙ ap (λ (x : Answer). totals_by (awaited_by a.table.now) a.beside.now (outcome_by x a.it.first a.it.second)) (sym c.in-Makes.is)

pub returns-in-Meets : goal.returns-in-Meets
returns-in-Meets c =
    let a = c.args in
    c.reach-in-Meets-2.ensures
    ∙ ap (λ (l : List ℕ). one_more l (awaited_by a.table.now a.it.second.node)) (c.reach-in-Meets.ensures ∙ ap (λ (l : List ℕ). one_more l (awaited_by a.table.now a.it.first.node)) c.leave.ensures)
    ∙ ap (λ (x : Answer). totals_by (awaited_by a.table.now) a.beside.now (outcome_by x a.it.first a.it.second)) (sym c.in-Meets.is)
