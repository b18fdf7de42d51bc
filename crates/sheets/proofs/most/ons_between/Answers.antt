use native.Mathlib.Omega.{arith}
use Rattle.sheets.proofs.MostLaws.{ons_next, ons_none}
use Rattle.sheets.proofs.most.ons_between.Goals as goal

pub loop-i-preserved : goal.loop-i-preserved
loop-i-preserved c =
    let a = c.args in
    let l = c.loop-i in
    let next = ons_next a.turns.now l.i a.end c.loop-i-test.true (omega arith) in
    (omega (arith, l.invariant.0, c.on_before-ons.ensures.1), omega (arith, l.invariant.1, c.on_before-ons.ensures.0, next))

pub returns : goal.returns
returns c =
    let a = c.args in
    let l = c.loop-i in
    omega (arith, l.invariant.1, ons_none a.turns.now l.i a.end c.loop-i-test.false)
