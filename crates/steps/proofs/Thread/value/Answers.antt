use mathlib.Core.Path.{◌≡◌}
use lib.ListN.{length}
use native.Mathlib.Omega.{arith}
use Rattle.steps.proofs.ThreadLaws.{value_itself, value_variable, value_none}
use borrow.Author.Rules.{rules}
use Rattle.steps.proofs.Thread.value.Goals as goal

pub returns-then-x-lt512 : goal.returns-then-x-lt512
returns-then-x-lt512 c = value_itself c.args.self c.args.x c.if-x-lt512.true

pub returns-then-k-lt8 : goal.returns-then-k-lt8
returns-then-k-lt8 c =
    let a = c.args in
    value_variable a.self a.x c.from-k.result (omega (arith, c.from-k.ensures))

pub returns : goal.returns
returns c =
    let l : length c.args.self.vars ≡ 8 = search rules in
    value_none c.args.self c.args.x (omega (arith, c.from-k.ensures)) l
