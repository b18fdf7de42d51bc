use mathlib.Core.Path.{◌≡◌, sym, ap, ◌∙◌}
use mathlib.Core.Bool.{Bool}
use Rattle.format.specs.Contents.{contents_at}
use Rattle.masks.specs.Mask.{has}
use Rattle.rules.specs.Schema.{schema_of}
use Rattle.steps.specs.declared.Answer.TheVariants as answers
use Rattle.steps.proofs.ActLaws.{leaving, role_low}
use borrow.Author.Rules.{rules}
use Rattle.steps.proofs.act.switches_on.Goals as goal
use Rattle.steps.proofs.act.switches_on.Lts as lts
use Rattle.steps.proofs.act.switches_on.Tie as tie
use Rattle.steps.proofs.act.switches_on.Reads as reads

-- the test of the role
assigned : (c : lts.After-has_role tie.the-claims reads.Pre reads.Post) {b : Bool} → c.has_role.result ≡ b
    → let a = c.args in has ((schema_of (contents_at a.file.now a.head)).assigned a.own.user) a.role.0 ≡ b
assigned c h =
    let a = c.args in
    ap (λ m. has m a.role.0) (sym c.user_roles.ensures) ∙ sym c.has_role.ensures ∙ h

pub on-requires : goal.on-requires
on-requires c =
    (c.requires.1, role_low c.user_roles.result c.args.role.0 (search rules) (sym c.has_role.ensures ∙ c.if-has_role.true))

pub returns-then-has_role : goal.returns-then-has_role
returns-then-has_role c =
    rw (assigned c.before.before.before.before c.if-has_role.true) (c.sole.ensures ∙ ap (leaving answers.Moves) c.on.ensures)

pub returns : goal.returns
returns c = rw (assigned c.before.before.before c.if-has_role.false) c.refused.ensures
