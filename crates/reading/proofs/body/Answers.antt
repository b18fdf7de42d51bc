use Rattle.format.specs.Answers.{or_else}
use mathlib.Core.Path.{ap₂, ◌∙◌}
use Rattle.reading.proofs.body.Goals as goal

pub returns : goal.returns
returns c = c.or_else.ensures ∙ ap₂ or_else c.records.ensures c.shape.ensures
