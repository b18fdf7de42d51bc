use mathlib.Core.Path.{◌≡◌, sym, ◌∙◌}
use mathlib.Core.Bool.{true, false}
use Rattle.format.specs.Contents.{in_count}
use Rattle.choices.proofs.list.looked_at.Goals as goal

pub returns-then-in_count : goal.returns-then-in_count
returns-then-in_count c =
    let a = c.args in
    let inside : in_count a.count a.p ≡ true = sym c.in_count.ensures ∙ c.if-in_count.true in
    sym (rw inside)

pub returns : goal.returns
returns c =
    let a = c.args in
    let outside : in_count a.count a.p ≡ false = sym c.in_count.ensures ∙ c.if-in_count.false in
    sym (rw outside)
