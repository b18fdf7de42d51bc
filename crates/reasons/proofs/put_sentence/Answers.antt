use native.Mathlib.Omega.{arith}
use Rattle.reasons.specs.Reasons.{digits_of, sentence}
use Rattle.reasons.proofs.PartsWritten.{four_parts}
use Rattle.reasons.proofs.DigitLaws.{digits_length}
use Rattle.reasons.proofs.ReasonAnswers.{parts_in}
use Rattle.phrases.specs.Table.{ending_row, count_row, meaning_row}
use Rattle.phrases.specs.Phrases.{phrase}
use Rattle.reasons.proofs.put_sentence.Goals as goal

pub put_phrase-a-requires : goal.put_phrase-a-requires
put_phrase-a-requires c =
    let w = parts_in c.args.r c.requires.0 in
    (rw c.from.ensures w.number_row, rw c.from.ensures (omega (arith, w.room, c.requires.1)))

pub put_phrase-b-requires : goal.put_phrase-b-requires
put_phrase-b-requires c =
    let w = parts_in c.args.r c.requires.0 in
    (rw c.from-2.ensures w.counts_row, rw c.from-2.ensures (omega (arith, w.room, c.requires.1, rw c.from.ensures at c.put_phrase-a.ensures.0)))

pub put_digits-d-requires : goal.put_digits-d-requires
put_digits-d-requires c =
    let w = parts_in c.args.r c.requires.0 in
    omega (arith, w.room, c.requires.1, rw c.from-2.ensures at c.put_phrase-b.ensures.0, rw c.from.ensures at c.put_phrase-a.ensures.0)

pub put_phrase-requires : goal.put_phrase-requires
put_phrase-requires c =
    let w = parts_in c.args.r c.requires.0 in
    let ld = digits_length 5 c.args.r.place in
    (rw c.from-3.ensures w.tag_row, rw c.from-3.ensures (omega (arith, w.room, ld, c.requires.1, c.put_digits-d.ensures.0, rw c.from-2.ensures at c.put_phrase-b.ensures.0, rw c.from.ensures at c.put_phrase-a.ensures.0)))

pub returns : goal.returns
unfolding sentence
returns c =
    let a = c.args in
    let r = a.r in
    let w = parts_in r c.requires.0 in
    let ld = digits_length 5 r.place in
    four_parts a.out.now c.put_phrase-a.new.out c.put_phrase-b.new.out c.put_digits-d.new.out c.put_phrase.new.out
    (phrase (meaning_row r.number)) (phrase (count_row r.counts)) (digits_of 5 r.place) (phrase (ending_row r.tag))
    c.put_phrase-a.result c.put_phrase-b.result c.put_digits-d.result c.put_phrase.result
    (omega (arith, w.room, ld, c.requires.1))
    (rw c.from.ensures at c.put_phrase-a.ensures) (rw c.from-2.ensures at c.put_phrase-b.ensures) c.put_digits-d.ensures (rw c.from-3.ensures at c.put_phrase.ensures)
