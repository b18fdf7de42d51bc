use mathlib.Core.Path.{ap}
use Rattle.steps.specs.Threads.{masked}
use Rattle.steps.proofs.Thread.off.Goals as goal

pub returns : goal.returns
returns c = ap (masked c.args.self) c.without_role.ensures
