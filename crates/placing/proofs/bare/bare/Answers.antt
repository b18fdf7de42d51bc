use mathlib.Core.Path.{ap₂, ◌∙◌}
use Rattle.format.specs.Answers.{or_else}
use Rattle.placing.proofs.bare.bare.Goals as goal

pub returns : goal.returns
returns c =
    c.or_else.ensures ∙ ap₂ or_else c.masks.ensures c.switches.ensures
