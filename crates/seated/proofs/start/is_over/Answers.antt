use Rattle.seated.proofs.StartLaws.{not_over, over_by}
use Rattle.seated.proofs.start.is_over.Goals as goal

pub returns-then-limit-eq0 : goal.returns-then-limit-eq0
returns-then-limit-eq0 c = not_over _ _ c.if-limit-eq0.true

pub returns : goal.returns
returns c = over_by _ _ _ c.if-limit-eq0.false c.start_count.ensures
