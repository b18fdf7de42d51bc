use mathlib.Core.Path.{refl}
use Rattle.states.specs.States.{up}
use Rattle.states.proofs.costs.lane_bits.Goals as goal

pub returns : goal.returns
unfolding up
returns c = refl
