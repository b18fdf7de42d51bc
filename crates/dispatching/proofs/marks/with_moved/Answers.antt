use native.Mathlib.Omega.{arith}
use Rattle.masks.proofs.Forms.{with_form}
use Rattle.dispatching.proofs.marks.with_moved.Goals as goal

pub returns : goal.returns
returns c = with_form 64 c.args.moved c.args.p (omega arith) (omega arith)
