use mathlib.Core.Path.{ap, sym}
use native.Mathlib.Omega.{arith}
use lib.ListN.{get_or-eq_default}
use Rattle.naming.specs.Scopes.{awaited_in, awaited_by}
use Rattle.naming.proofs.scopes.awaited_by.Goals as goal

pub returns-then-i-table : goal.returns-then-i-table
returns-then-i-table c = ap (awaited_by c.args.table.now) c.from-i.ensures

pub returns : goal.returns
returns c = let t = c.args.table.now in sym (ap awaited_in (get_or-eq_default t 0 {n = c.args.node} (omega (arith, c.if-i-table.false, c.from-i.ensures))))
