use native.Mathlib.Omega.{arith}
use mathlib.Core.Path.{sym, ◌∙◌}
use mathlib.Core.Bool.{not}
use lib.Dec.{eqb}
use Rattle.running.proofs.WayLaws.{stands_turn, stands_end}
use Rattle.running.proofs.pairs.stands_in.Goals as goal

pub loop-k-preserved : goal.loop-k-preserved
loop-k-preserved c =
    let a = c.args in
    let l = c.loop-k in
    stands_turn a.table.now a.x l.k l.found (omega (arith, c.requires)) ∙ l.invariant

pub returns : goal.returns
returns c =
    let a = c.args in
    let l = c.loop-k in
    sym (stands_end a.table.now a.x l.k (not (eqb l.found 0)) (omega (arith, c.requires))) ∙ l.invariant
