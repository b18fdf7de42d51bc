use Rattle.rows.proofs.LoadLaws.{cleared_more}
use native.Mathlib.Omega.{arith}
use Rattle.rows.proofs.load.clear_lines.Goals as goal

pub loop-r-preserved : goal.loop-r-preserved
loop-r-preserved c = let l = c.loop-r in cleared_more l.lines l.r (omega arith) (omega arith) l.invariant

pub returns : goal.returns
returns c = let l = c.loop-r in (omega arith, λ j from below. l.invariant j (omega (arith, below)))
