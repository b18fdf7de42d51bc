use mathlib.Core.Path.{◌∙◌, sym, ap}
use mathlib.Core.Bool.{false≢true}
use borrow.Author.Tests.{eq-eqb, ne_eqb}
use Rattle.naming.specs.Scopes.{bind_scope}
use Rattle.naming.proofs.scopes.scope_after.Goals as goal

pub returns-then-not-wanted : goal.returns-then-not-wanted
returns-then-not-wanted c = λ e. absurd (false≢true (sym c.if-not-wanted.true ∙ e))

pub returns-then-step-bound : goal.returns-then-step-bound
returns-then-step-bound c = λ e. rw (eq-eqb _ _ c.if-step-bound.true)

pub returns : goal.returns
returns c =
    let a = c.args in
    λ e. rw (ne_eqb _ _ c.if-step-bound.false) (c.bind.ensures ∙ ap (bind_scope a.w) c.kind_of.ensures)
