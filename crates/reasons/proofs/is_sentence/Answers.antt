use mathlib.Core.Path.{sym, ◌∙◌}
use mathlib.Core.List.{List}
use Prim.Native.Nat.{ℕ}
use native.Mathlib.Omega.{arith}
use lib.ListN.{length-take, replicate}
use Rattle.reasons.proofs.ReasonAnswers.{sentence_most}
use Rattle.reasons.proofs.SentenceCompared.{compared}
use Rattle.reasons.proofs.is_sentence.Goals as goal

pub slice_bounds-out-end : goal.slice_bounds-out-end
slice_bounds-out-end c = omega (arith, c.put_sentence-k.ensures.0, sentence_most c.args.r (sym c.is_reason.ensures ∙ c.if-not-is_reason.false))

pub slice_bounds-eq-end : goal.slice_bounds-eq-end
slice_bounds-eq-end c =
    omega (arith, c.put_sentence-k.ensures.0, sentence_most c.args.r (sym c.is_reason.ensures ∙ c.if-not-is_reason.false), length-take c.put_sentence-k.result c.put_sentence-k.new.out)

pub returns : goal.returns
returns c =
    let o : List ℕ = replicate 120 0 in
    c.eq.ensures ∙ compared c.args.r o c.put_sentence-k.new.out c.args.s.now c.put_sentence-k.result (sym c.is_reason.ensures ∙ c.if-not-is_reason.false) c.put_sentence-k.ensures.0 c.put_sentence-k.ensures.1
