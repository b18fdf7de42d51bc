use mathlib.Core.Path.{◌≡◌, sym, ap, ◌∙◌}
use mathlib.Core.Bool.{Bool, true, false, ◌&&◌}
use Rattle.ordering.proofs.OrderLaws.{counted_step, counted_end}
use Rattle.ordering.proofs.are_counted.Goals as goal

first_fails : {a : Bool} (b : Bool) → a ≡ false → (a && b) ≡ false
first_fails b e = ap (λ (x : Bool). x && b) e

first_holds : {a : Bool} (b : Bool) → a ≡ true → (a && b) ≡ b
first_holds b e = ap (λ (x : Bool). x && b) e

pub returns-then-not-in_count : goal.returns-then-not-in_count
returns-then-not-in_count c =
    let a = c.args in
    let l = c.loop-owner in
    sym (l.invariant ∙ counted_step _ a.n l.owner-index c.loop-owner-test.true ∙ first_fails _ (sym c.in_count.ensures ∙ c.if-not-in_count.true))

pub loop-owner-preserved : goal.loop-owner-preserved
loop-owner-preserved c =
    let a = c.args in
    let l = c.loop-owner in
    l.invariant ∙ counted_step _ a.n l.owner-index c.loop-owner-test.true ∙ first_holds _ (sym c.in_count.ensures ∙ c.if-not-in_count.false)

pub returns : goal.returns
returns c =
    let l = c.loop-owner in
    counted_end _ c.args.n l.owner-index c.loop-owner-test.false ∙ sym l.invariant
