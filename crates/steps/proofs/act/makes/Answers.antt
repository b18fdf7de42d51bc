use mathlib.Core.Path.{ap, ◌∙◌}
use borrow.Author.Tests.{lt-ltb, le-ltb}
use Rattle.steps.specs.declared.Answer.TheVariants as answers
use Rattle.steps.proofs.ActLaws.{leaving}
use Rattle.steps.proofs.act.makes.Goals as goal

pub returns-then-made-lt64 : goal.returns-then-made-lt64
returns-then-made-lt64 c =
    let a = c.args in
    rw (lt-ltb a.made 64 c.if-made-lt64.true)
    (c.sole.ensures ∙ ap (leaving (answers.Makes (record { owner = a.own.user; kind = a.kind }))) c.bound.ensures)

pub returns : goal.returns
returns c = rw (le-ltb _ _ c.if-made-lt64.false) c.refused.ensures
