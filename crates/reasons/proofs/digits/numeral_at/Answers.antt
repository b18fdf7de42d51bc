use mathlib.Core.Path.{◌≡◌, sym, ap, ◌∙◌}
use mathlib.Core.Bool.{true, false}
use Prim.Native.Nat.{◌+◌, ◌-◌}
use native.Mathlib.Omega.{arith}
use borrow.Author.Rules.{rules}
use lib.ListN.{drop, get_or}
use Rattle.reasons.specs.Reasons.{numeral, is_digit}
use Rattle.reasons.proofs.DigitsRead.{numeral_taken, numeral_end, numeral_no, numeral_turn, below_more, below_five}
use Rattle.reasons.proofs.digits.numeral_at.Goals as goal

pub loop-b-init : goal.loop-b-init
loop-b-init c = (ap (numeral 5 0) c.five_from-next.ensures.part ∙ numeral_taken 5 0 (drop c.args.at c.args.s.now), omega arith)

pub returns-then-not-is_ascii_digit : goal.returns-then-not-is_ascii_digit
returns-then-not-is_ascii_digit c =
    let i = c.loop-b.b-index in
    let next = c.five_from-next.result.now in
    let no : is_digit (get_or next i 0) ≡ false = sym c.is_ascii_digit.ensures.value ∙ c.if-not-is_ascii_digit.true in
    (numeral_no (5 - i) c.loop-b.a i next (search rules) no ∙ c.loop-b.invariant.0, below_five c.loop-b.a i (omega (arith, c.five_from-next.ensures.few)) c.loop-b.invariant.1)

pub loop-b-preserved : goal.loop-b-preserved
loop-b-preserved c =
    let i = c.loop-b.b-index in
    let a = c.loop-b.a in
    let next = c.five_from-next.result.now in
    let yes : is_digit (get_or next i 0) ≡ true = sym c.is_ascii_digit.ensures.value ∙ c.if-not-is_ascii_digit.false in
    let e : 5 - (i + 1) ≡ 5 - i - 1 = omega arith in
    let d : c.from.result ≡ get_or next i 0 - 48 = c.from.ensures in
    (rw (e, d) (numeral_turn (5 - i) a i next (omega (arith, c.five_from-next.ensures.few)) c.loop-b-test.true yes ∙ c.loop-b.invariant.0), below_more a i c.from.result c.loop-b.invariant.1 (omega (arith, c.if-not-is_ascii_digit.ensures.cases)))

pub returns : goal.returns
returns c =
    let i = c.loop-b.b-index in
    (numeral_end (5 - i) c.loop-b.a i c.five_from-next.result.now (search rules) ∙ c.loop-b.invariant.0, below_five c.loop-b.a i (omega (arith, c.five_from-next.ensures.few)) c.loop-b.invariant.1)
