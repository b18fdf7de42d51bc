use Rattle.tables.specs.Records.{records_answer}
use Rattle.format.specs.Answers.{or_else}
use mathlib.Core.Path.{ap₂, ◌∙◌}
use Rattle.tables.proofs.records.Goals as goal

pub returns : goal.returns
unfolding records_answer
returns c =
    c.or_else-5.ensures
    ∙ ap₂ or_else c.section_answer-users.ensures
    (c.or_else-4.ensures
    ∙ ap₂ or_else c.section_answer-roles.ensures
    (c.or_else-3.ensures
    ∙ ap₂ or_else c.section_answer-kinds.ensures
    (c.or_else-2.ensures
    ∙ ap₂ or_else c.section_answer-channels.ensures
    (c.or_else.ensures
    ∙ ap₂ or_else c.section_answer-juniors.ensures c.section_answer-sessions.ensures))))
