use native.Mathlib.Omega.{arith}
use Rattle.run.proofs.WordLaws.{words_begin, words_turn, words_end}
use Rattle.run.proofs.list.put_words.Goals as goal

pub loop-i-init : goal.loop-i-init
loop-i-init c = words_begin c.args.bytes.now c.args.words.now _

pub loop-i-preserved : goal.loop-i-preserved
loop-i-preserved c =
    let l = c.loop-i in
    words_turn c.args.bytes.now l.words _ _ l.i c.inner_word.result (omega arith) c.inner_word.ensures l.invariant

pub returns : goal.returns
returns c =
    let l = c.loop-i in
    words_end c.args.bytes.now l.words _ _ l.i (omega arith) l.invariant
