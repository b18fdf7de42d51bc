use mathlib.Core.Path.{◌≡◌, refl, ◌∙◌}
use native.Mathlib.Omega.{arith}
use lib.Dec.{ltb}
use lib.ListN.{get_or}
use Rattle.states.specs.Kept.{gather}
use Rattle.states.proofs.LaneLaws.{lane_bit, gather_more, gather_fits}
use Rattle.states.proofs.costs.lanes_above.Goals as goal

pub loop-q-init : goal.loop-q-init
unfolding gather
loop-q-init c = refl

pub overflow_add-set : goal.overflow_add-set
overflow_add-set c =
    let l = c.loop-q in
    let a = c.args in
    omega (
      arith,
      gather_fits l.q (λ q. ltb a.least (get_or a.lanes.now q 0)) (omega arith) l.set c.either-set.result l.invariant
          (c.either-set.ensures ∙ lane_bit a.bits.now c.requires (ltb a.least (get_or a.lanes.now l.q 0)) l.q (omega arith)),
    )

pub loop-q-preserved : goal.loop-q-preserved
loop-q-preserved c =
    let l = c.loop-q in
    let a = c.args in
    gather_more l.q (λ q. ltb a.least (get_or a.lanes.now q 0)) l.set c.either-set.result l.invariant
    (c.either-set.ensures ∙ lane_bit a.bits.now c.requires (ltb a.least (get_or a.lanes.now l.q 0)) l.q (omega arith))
