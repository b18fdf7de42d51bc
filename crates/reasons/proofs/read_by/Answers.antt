use mathlib.Core.Path.{◌≡◌, refl, ◌∙◌}
use Prim.Native.Nat.{◌-◌}
use native.Mathlib.Omega.{arith}
use lib.ListN.{drop}
use Rattle.phrases.specs.Table.{count_row, meaning_row}
use Rattle.phrases.proofs.PhraseLaws.{leading_most, phrase_most}
use Rattle.reasons.specs.Reasons.{reason_of, guess}
use Rattle.reasons.proofs.GuessLaws.{guess_is, guess_kept, guess_dropped}
use Rattle.reasons.proofs.read_by.Goals as goal

pub overflow_add-b : goal.overflow_add-b
overflow_add-b c = omega (arith, c.phrase_length-a.ensures, c.phrase_length.ensures, phrase_most c.phrase_at-m.result, phrase_most c.phrase_at-c.result)

pub returns-then-p-gt65535 : goal.returns-then-p-gt65535
returns-then-p-gt65535 c =
    let s = c.args.s.now in
    let r = reason_of (c.phrase_at-m.result - meaning_row 0) (c.phrase_at-c.result - count_row 0) c.numeral_at-p.result c.phrase_at-t.result in
    let e : guess s ≡ r =
    guess_is s c.phrase_at-m.result c.phrase_length-a.result c.phrase_at-c.result c.phrase_length.result c.numeral_at-p.result c.digits_end.result c.phrase_at-t.result (c.phrase_at-m.result - meaning_row 0) (c.phrase_at-c.result - count_row 0)
    c.phrase_at-m.ensures c.phrase_length-a.ensures c.phrase_at-c.ensures c.phrase_length.ensures c.numeral_at-p.ensures.0 c.digits_end.ensures c.phrase_at-t.ensures refl refl in
    c.no_reason.ensures ∙ guess_dropped s r e c.if-p-gt65535.true

pub overflow_cast-guess : goal.overflow_cast-guess
overflow_cast-guess c = omega (arith, c.saturating_sub.ensures, c.phrase_at-m.ensures, leading_most c.args.s.now)

pub overflow_cast-guess-2 : goal.overflow_cast-guess-2
overflow_cast-guess-2 c = omega (arith, c.saturating_sub-2.ensures, c.phrase_at-c.ensures, leading_most (drop c.phrase_length-a.result c.args.s.now))

pub overflow_cast-guess-4 : goal.overflow_cast-guess-4
overflow_cast-guess-4 c = omega (arith, c.phrase_at-t.ensures, leading_most (drop c.digits_end.result c.args.s.now))

pub returns : goal.returns
returns c =
    let s = c.args.s.now in
    let r = reason_of c.saturating_sub.result c.saturating_sub-2.result c.numeral_at-p.result c.phrase_at-t.result in
    let e : guess s ≡ r =
    guess_is s c.phrase_at-m.result c.phrase_length-a.result c.phrase_at-c.result c.phrase_length.result c.numeral_at-p.result c.digits_end.result c.phrase_at-t.result c.saturating_sub.result c.saturating_sub-2.result
    c.phrase_at-m.ensures c.phrase_length-a.ensures c.phrase_at-c.ensures c.phrase_length.ensures c.numeral_at-p.ensures.0 c.digits_end.ensures c.phrase_at-t.ensures c.saturating_sub.ensures c.saturating_sub-2.ensures in
    c.confirmed.ensures ∙ guess_kept s r e
