use mathlib.Core.Path.{ap, ◌∙◌}
use Rattle.steps.specs.declared.Answer.TheVariants as answers
use Rattle.steps.proofs.ActLaws.{leaving}
use Rattle.steps.proofs.act.refused.Goals as goal

pub returns : goal.returns
returns c = c.sole.ensures ∙ ap (leaving (answers.Refused c.args.number)) c.no_thread.ensures
