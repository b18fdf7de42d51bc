use Prim.Native.Nat.{◌+◌}
use mathlib.Core.Path.{ap}
use Rattle.naming.proofs.pass.binding.Goals as goal

pub returns : goal.returns
returns c = let a = c.args in ap (λ k. record { wrong = a.wrong; binding = k; bound = a.bound + 1; awaits = a.awaits }) c.paired.ensures
