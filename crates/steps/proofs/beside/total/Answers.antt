use mathlib.Core.Path.{sym, ◌∙◌}
use native.Mathlib.Omega.{arith}
use borrow.Author.Tests.{eq-eqb, ne_eqb}
use Rattle.format.proofs.ContentsLaws.{in_count_lem}
use Rattle.steps.specs.Beside.{total_in}
use Rattle.steps.proofs.beside.total.Goals as goal

pub returns-then-not-in_count : goal.returns-then-not-in_count
unfolding total_in
returns-then-not-in_count c = rw (sym c.in_count.ensures ∙ c.if-not-in_count.true)

pub bounds-beside-from : goal.bounds-beside-from
bounds-beside-from c = let some = in_count_lem 32 c.args.kind (sym c.in_count.ensures ∙ c.if-not-in_count.false) in omega (arith, some.1, c.from.ensures, c.if-beside-eq-BESIDE.true)

pub returns-then-beside-eq-BESIDE : goal.returns-then-beside-eq-BESIDE
unfolding total_in
returns-then-beside-eq-BESIDE c = rw (sym c.in_count.ensures ∙ c.if-not-in_count.false, eq-eqb _ _ c.if-beside-eq-BESIDE.true, ← c.from.ensures)

pub returns : goal.returns
unfolding total_in
returns c = rw (sym c.in_count.ensures ∙ c.if-not-in_count.false, ne_eqb _ _ c.if-beside-eq-BESIDE.false)
