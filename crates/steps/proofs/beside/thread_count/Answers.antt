use mathlib.Core.Path.{sym}
use native.Mathlib.Omega.{arith}
use lib.ListN.{get_or-eq_default}
use Rattle.steps.proofs.beside.thread_count.Goals as goal

pub returns : goal.returns
returns c = sym (get_or-eq_default c.args.beside.now 0 {n = 0} (omega arith))
