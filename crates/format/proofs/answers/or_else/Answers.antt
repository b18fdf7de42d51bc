use mathlib.Core.Path.{sym}
use Rattle.format.proofs.AnswerLaws.{quiet_first, loud_first}
use Rattle.format.proofs.answers.or_else.Goals as goal

pub returns-then-first-eq0 : goal.returns-then-first-eq0
returns-then-first-eq0 c = sym (quiet_first _ _ c.if-first-eq0.true)

pub returns : goal.returns
returns c = sym (loud_first _ _ c.if-first-eq0.false)
