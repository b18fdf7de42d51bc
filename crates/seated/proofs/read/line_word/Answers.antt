use mathlib.Core.Path.{refl}
use native.Mathlib.Omega.{arith}
use Rattle.seated.proofs.ReadLaws.{word_there, word_past}
use Rattle.seated.proofs.read.line_word.Goals as goal

pub returns-then-at-from : goal.returns-then-at-from
returns-then-at-from c = let a = c.args in word_there a.lines.now a.row a.at c.from.result _ c.from.ensures c.if-at-from.true refl

pub returns : goal.returns
returns c = let a = c.args in word_past a.lines.now a.row a.at c.from.result c.from.ensures (omega (arith, c.if-at-from.false))
