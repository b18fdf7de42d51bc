use mathlib.Core.Path.{refl}
use native.Mathlib.Omega.{arith}
use lib.ListN.{length-set}
use Rattle.states.specs.States.{up}
use Rattle.states.specs.Kept.{rank}
use Rattle.states.proofs.LaneLaws.{fill_more}
use Rattle.states.proofs.costs.ranks.Goals as goal

pub loop-q-init : goal.loop-q-init
unfolding up
loop-q-init c = (refl, refl)

pub loop-q-preserved : goal.loop-q-preserved
loop-q-preserved c =
    let l = c.loop-q in
    (simp length-set l.invariant.0, fill_more l.out l.q _ (rank c.args.us.now) (omega arith) l.invariant.1 refl)
