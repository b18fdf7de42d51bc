use native.Mathlib.Omega.{arith}
use Rattle.masks.proofs.Forms.{has_form}
use Rattle.dispatching.proofs.marks.has_moved.Goals as goal

pub returns : goal.returns
returns c = has_form c.args.moved c.args.p (omega arith)
