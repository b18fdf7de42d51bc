use mathlib.Core.Path.{sym, ◌∙◌}
use Rattle.format.proofs.WriteLaws.{offsets_put, offsets_put_first}
use Rattle.format.proofs.writing.put_offsets.Goals as goal

pub returns-then-has_juniors : goal.returns-then-has_juniors
returns-then-has_juniors c =
    let a = c.args in
    let one = c.put_three in
    let two = c.put_three-then-has_juniors in
    let three = c.put_word in
    rw (sym c.has_juniors.ensures ∙ c.if-has_juniors.true) (offsets_put a.out.now one.new.out two.new.out three.new.out a.at one.ensures two.ensures three.ensures)

pub returns : goal.returns
returns c =
    let a = c.args in
    let one = c.put_three-2 in
    let two = c.put_three-3 in
    rw (sym c.has_juniors.ensures ∙ c.if-has_juniors.false) (offsets_put_first a.out.now one.new.out two.new.out a.at one.ensures two.ensures)
