use mathlib.Core.Path.{refl}
use lib.ListN.{get_or}
use Rattle.states.specs.Kept.{highest}
use Rattle.states.proofs.LaneLaws.{highest_more}
use Rattle.states.proofs.costs.peak.Goals as goal

pub loop-q-init : goal.loop-q-init
unfolding highest
loop-q-init c = refl

pub loop-q-preserved : goal.loop-q-preserved
loop-q-preserved c =
    let l = c.loop-q in
    let a = c.args in
    highest_more a.base l.q (λ q. get_or a.lanes.now q 0) l.high _ c.larger-high.result l.invariant refl c.larger-high.ensures
