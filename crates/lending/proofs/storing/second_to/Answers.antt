use mathlib.Core.Path.{sym, ap, subst}
use Prim.Native.Nat.{◌<◌, ◌^◌}
use Rattle.steps.specs.declared.Answer.{Answer}
use Rattle.lending.specs.Storing.{second_to}
use Rattle.lending.proofs.storing.second_to.Goals as goal

pub overflow_add-result : goal.overflow_add-result
overflow_add-result c = record { fits = subst (λ (x : Answer). second_to c.args.count c.args.p x < 2 ^ 64) c.in-Adds.is c.requires }

pub returns-in-Adds : goal.returns-in-Adds
returns-in-Adds c = ap (second_to c.args.count c.args.p) (sym c.in-Adds.is)
