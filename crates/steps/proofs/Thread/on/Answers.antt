use mathlib.Core.Path.{ap}
use Rattle.steps.specs.Threads.{masked}
use Rattle.steps.proofs.Thread.on.Goals as goal

pub returns : goal.returns
returns c = ap (masked c.args.self) c.with_role.ensures
