use native.Mathlib.Omega.{arith}
use Rattle.seating.proofs.RowLaws.{next-none, next_head}
use Rattle.seating.proofs.lines.is_next.Goals as goal

pub returns-then-lines-at-eq0 : goal.returns-then-lines-at-eq0
returns-then-lines-at-eq0 c = let a = c.args in next-none a.lines.now a.row a.k (omega arith)

pub returns : goal.returns
returns c =
    let a = c.args in
    next_head a.lines.now a.row a.k (λ z. omega (arith, z)) (omega (arith, c.requires.0.words))
