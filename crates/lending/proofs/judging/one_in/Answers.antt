use mathlib.Core.Path.{◌≡◌, refl, ap, ◌∙◌}
use native.Mathlib.Omega.{arith}
use lib.ListN.{length-set}
use Rattle.lending.specs.Walk.{one_in}
use Rattle.lending.proofs.TotalsLaws.{one_upto, one_none, one_on}
use Rattle.lending.proofs.judging.one_in.Goals as goal

pub loop-k-init : goal.loop-k-init
loop-k-init c = (c.requires, one_none c.args.totals c.args.kind.0)

pub loop-k-preserved : goal.loop-k-preserved
loop-k-preserved c =
    let l = c.loop-k in
    (length-set l.all c.from-at.result _ ∙ l.invariant.0, one_on c.args.totals l.all c.args.kind.0 l.k c.from-at.result _ _ l.invariant.1 c.from-at.ensures refl (omega arith) refl)

pub returns : goal.returns
unfolding one_in
returns c = let l = c.loop-k in let over : l.k ≡ 32 = omega arith in l.invariant.1 ∙ ap (one_upto c.args.totals c.args.kind.0) over
