use mathlib.Core.Path.{◌≡◌, refl, sym, ◌∙◌}
use mathlib.Core.Bool.{true}
use native.Mathlib.Omega.{arith}
use Rattle.format.specs.Contents.{in_count}
use Rattle.format.proofs.ContentsLaws.{in_count_lem}
use Rattle.lending.proofs.index_of.Goals as goal
use Rattle.lending.proofs.index_of.Lts as lts
use Rattle.lending.proofs.index_of.Tie as tie
use Rattle.lending.proofs.index_of.Reads as reads

inside : (c : lts.Then1 tie.the-claims reads.Pre reads.Post) → in_count c.args.count c.args.i ≡ true
inside c = sym c.in_count.ensures ∙ c.if-in_count.true

pub overflow_sub-i : goal.overflow_sub-i
overflow_sub-i c = let some = in_count_lem c.args.count c.args.i (inside c) in omega (arith, some.0)

pub returns-then-in_count : goal.returns-then-in_count
returns-then-in_count c = rw (inside c.before) c.from.ensures

pub returns : goal.returns
returns c = rw (sym c.in_count.ensures ∙ c.if-in_count.false) refl
