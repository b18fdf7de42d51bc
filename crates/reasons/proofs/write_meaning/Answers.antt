use mathlib.Core.Path.{◌≡◌, sym, ◌∙◌}
use mathlib.Core.Bool.{true}
use native.Mathlib.Omega.{arith}
use Rattle.reasons.specs.Reasons.{has_meaning}
use Rattle.reasons.proofs.ReasonAnswers.{meant_short, meant_not, meant_yes, meaning_fits}
use Rattle.reasons.proofs.write_meaning.Goals as goal

pub returns-then-out-lt120 : goal.returns-then-out-lt120
returns-then-out-lt120 c = meant_short c.args.number c.args.out.now c.if-out-lt120.true

pub returns-then-not-has_meaning : goal.returns-then-not-has_meaning
returns-then-not-has_meaning c = meant_not c.args.number c.args.out.now c.if-out-lt120.false (sym c.has_meaning.ensures ∙ c.if-not-has_meaning.true)

pub put_phrase-requires : goal.put_phrase-requires
put_phrase-requires c =
    let w = meaning_fits c.args.number (sym c.has_meaning.ensures ∙ c.if-not-has_meaning.false) in
    (omega (arith, w.0), rw c.from.ensures (omega (arith, w.1, c.if-out-lt120.false)))

pub overflow_cast-result : goal.overflow_cast-result
overflow_cast-result c =
    let w = meaning_fits c.args.number (sym c.has_meaning.ensures ∙ c.if-not-has_meaning.false) in
    omega (arith, rw c.from.ensures at c.put_phrase.ensures.0, w.1)

pub returns : goal.returns
returns c =
    let a = c.args in
    let v : has_meaning a.number ≡ true = sym c.has_meaning.ensures ∙ c.if-not-has_meaning.false in
    meant_yes a.number a.out.now c.put_phrase.new.out c.put_phrase.result c.if-out-lt120.false v (rw c.from.ensures at c.put_phrase.ensures.0) (rw c.from.ensures at c.put_phrase.ensures.1)
