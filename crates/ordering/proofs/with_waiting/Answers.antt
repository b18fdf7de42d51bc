use native.Mathlib.Omega.{arith}
use Rattle.masks.proofs.Forms.{with_form}
use Rattle.ordering.proofs.with_waiting.Goals as goal

pub returns : goal.returns
returns c = let a = c.args in with_form 32 a.mask a.k (omega arith) (omega arith)
