use native.Mathlib.Omega.{arith}
use Rattle.inforce.proofs.FirstNoticeLaws.{ends_first}
use Rattle.inforce.proofs.first_end.Goals as goal

pub returns : goal.returns
returns c = ends_first c.args.both.now _ _ (omega (arith, c.from-end.ensures, c.word.ensures)) c.min.ensures
