use native.Mathlib.Omega.{arith}
use Prim.Native.Nat.{◌+◌, ◌≤◌}
use Rattle.groups.proofs.WriteLaws.{starting, starting_next, starting_end}
use Rattle.groups.proofs.starts.Goals as goal
use Rattle.groups.proofs.starts.Goals.{else-loop-i-test, then-loop-i-test+else-i-i-end}

pub loop-i-init : goal.loop-i-init
loop-i-init c = let a = c.args in starting a.turns.now a.nodes a.starts.now

pub loop-i-preserved : goal.loop-i-preserved
loop-i-preserved c =
    let a = c.args in
    let l = c.loop-i in
    starting_next a.turns.now a.nodes _ l.i l.at l.ons l.starts (omega (arith, c.from-i-end.ensures)) (omega arith) l.invariant

pub returns : goal.returns
returns c =
    let a = c.args in
    let l = c.loop-i in
    let n = c.from-i-end.ensures in
    elim c.loop-i-test.branch [
      | else-loop-i-test w ↦ starting_end a.turns.now a.nodes _ l.i l.at l.ons l.starts _ _ _ (omega (arith, n)) l.invariant w.at-is w.ons-is w.starts-is
      | then-loop-i-test+else-i-i-end w ↦
          let less : l.i ≤ a.nodes = omega (arith, n) in
          starting_end a.turns.now a.nodes _ (l.i + 1) _ _ _ _ _ _ (omega (arith, n)) (starting_next a.turns.now a.nodes _ l.i l.at l.ons l.starts less (omega arith) l.invariant) w.at-is w.ons-is w.starts-is
    ]
