use mathlib.Core.Path.{sym, ◌∙◌}
use native.Mathlib.Omega.{arith}
use Rattle.reasons.specs.Reasons.{reason_of}
use Rattle.reasons.proofs.ReasonAnswers.{said_short, said_not, said_yes, sentence_most}
use Rattle.reasons.proofs.write_reason.Goals as goal

pub returns-then-out-lt120 : goal.returns-then-out-lt120
returns-then-out-lt120 c =
    let a = c.args in
    let r = reason_of a.number a.counts a.place a.tag in
    said_short r a.out.now c.if-out-lt120.true

pub returns-then-not-is_reason : goal.returns-then-not-is_reason
returns-then-not-is_reason c =
    let a = c.args in
    let r = reason_of a.number a.counts a.place a.tag in
    said_not r a.out.now c.if-out-lt120.false (sym c.is_reason.ensures ∙ c.if-not-is_reason.true)

pub overflow_cast-result : goal.overflow_cast-result
overflow_cast-result c =
    let a = c.args in
    let r = reason_of a.number a.counts a.place a.tag in
    omega (arith, c.put_sentence.ensures.0, sentence_most r (sym c.is_reason.ensures ∙ c.if-not-is_reason.false))

pub returns : goal.returns
returns c =
    let a = c.args in
    let r = reason_of a.number a.counts a.place a.tag in
    said_yes r a.out.now c.put_sentence.new.out c.put_sentence.result c.if-out-lt120.false (sym c.is_reason.ensures ∙ c.if-not-is_reason.false) c.put_sentence.ensures.0 c.put_sentence.ensures.1
