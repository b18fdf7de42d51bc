use mathlib.Core.Path.{sym, ◌∙◌}
use native.Mathlib.Omega.{arith}
use borrow.Author.Rules.{rules}
use lib.ListN.{drop}
use Rattle.phrases.specs.Phrases.{phrase}
use Rattle.phrases.proofs.PhraseLaws.{whole, stands_here, stands_later, stands_nowhere}
use Rattle.phrases.proofs.phrase_at.Goals as goal

pub returns-then-stands : goal.returns-then-stands
returns-then-stands c =
    let s = drop c.args.at c.args.s.now in
    sym (stands_here c.loop-i.i s (search rules) (whole c.phrase_of-part.result.now (phrase c.loop-i.i) s c.phrase_of-part.ensures ∙ sym c.stands.ensures ∙ c.if-stands.true)) ∙ c.loop-i.invariant

pub loop-i-preserved : goal.loop-i-preserved
loop-i-preserved c =
    let s = drop c.args.at c.args.s.now in
    stands_later c.loop-i.i s (search rules) (whole c.phrase_of-part.result.now (phrase c.loop-i.i) s c.phrase_of-part.ensures ∙ sym c.stands.ensures ∙ c.if-stands.false) ∙ c.loop-i.invariant

pub returns : goal.returns
returns c = sym (stands_nowhere c.loop-i.i (drop c.args.at c.args.s.now) (omega arith)) ∙ c.loop-i.invariant
