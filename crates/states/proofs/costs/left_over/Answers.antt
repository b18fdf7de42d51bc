use mathlib.Core.Path.{refl}
use native.Mathlib.Omega.{arith}
use lib.ListN.{get_or, length-set}
use Prim.Native.Nat.{◌-◌}
use Rattle.states.specs.States.{up}
use Rattle.states.proofs.LaneLaws.{fill_more}
use Rattle.states.proofs.costs.left_over.Goals as goal

pub loop-q-init : goal.loop-q-init
unfolding up
loop-q-init c = (refl, refl)

pub loop-q-preserved : goal.loop-q-preserved
loop-q-preserved c =
    let l = c.loop-q in
    let a = c.args in
    (simp length-set l.invariant.0, fill_more l.out l.q _ (λ q. get_or a.us.now q 0 - a.least) (omega arith) l.invariant.1 c.saturating_sub.ensures)
