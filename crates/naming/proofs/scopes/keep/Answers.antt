use mathlib.Core.Path.{sym, ap}
use lib.Seq.{set_out}
use lib.ListN.{set}
use Rattle.naming.specs.Scopes.{marked}
use Rattle.naming.proofs.scopes.keep.Goals as goal

pub returns-then-at-scopes : goal.returns-then-at-scopes
returns-then-at-scopes c = let a = c.args in ap (set a.scopes.now a.at) c.marked.ensures

pub returns-else-at-scopes : goal.returns-else-at-scopes
returns-else-at-scopes c = let a = c.args in sym (set_out a.scopes.now a.at (marked a.w a.kind.0) c.if-at-scopes.false)
