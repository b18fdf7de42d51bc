use native.Mathlib.Omega.{arith}
use lib.ListN.{length-set}
use Rattle.steps.proofs.beside.add_made.Goals as goal

pub bounds-beside-at-2 : goal.bounds-beside-at-2
bounds-beside-at-2 c = simp length-set (omega arith)

pub returns : goal.returns
returns c = rw (c.from-at.ensures, c.made_count-n.ensures)
