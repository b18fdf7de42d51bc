use native.Mathlib.Omega.{arith}
use borrow.Author.Rules.{rules}
use Rattle.phrases.proofs.PhraseLaws.{span, past_table}
use Rattle.phrases.proofs.phrase_length.Goals as goal

pub overflow_sub-result : goal.overflow_sub-result
overflow_sub-result c =
    let a = c.args in
    omega (arith, c.start_of-then-i-lt-COUNT.ensures, c.start_of.ensures, (span a.i (search rules)).from_to)

pub returns-then-i-lt-COUNT : goal.returns-then-i-lt-COUNT
returns-then-i-lt-COUNT c =
    let a = c.args in
    omega (arith, c.start_of-then-i-lt-COUNT.ensures, c.start_of.ensures, (span a.i (search rules)).long)

pub returns : goal.returns
returns c = past_table c.args.i c.if-i-lt-COUNT.false
