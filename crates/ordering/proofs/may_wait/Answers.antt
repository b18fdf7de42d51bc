use mathlib.Core.Path.{ap₂}
use mathlib.Core.Bool.{Bool, not, ◌&&◌}
use Rattle.ordering.proofs.may_wait.Goals as goal

pub returns : goal.returns
returns c = ap₂ (λ (x y : Bool). x && not y) c.in_count.ensures c.has_session.ensures
