use mathlib.Core.Path.{sym, ap, ◌∙◌}
use mathlib.Core.Bool.{cond, ◌||◌}
use native.Mathlib.Omega.{arith}
use lib.Dec.{eqb}
use Rattle.format.specs.Answers.{not_written}
use Rattle.turning.proofs.TurnLaws.{too_small, head_refused}
use Rattle.turning.proofs.turn.Goals as goal

pub returns-then-out-lt-LARGEST : goal.returns-then-out-lt-LARGEST
returns-then-out-lt-LARGEST c =
    let a = c.args in
    too_small a.from a.to a.file.now a.out.now (omega (arith, c.if-out-lt-LARGEST.true)) _ c.not_written.ensures

pub turn_headed-requires : goal.turn_headed-requires
turn_headed-requires c =
    let p = c.requires in
    (sym c.in-Ok.ensures, p.0, p.1, omega (arith, c.if-out-lt-LARGEST.false))

pub returns-in-Err : goal.returns-in-Err
returns-in-Err c =
    let a = c.args in
    let n = c.in-Err.number in
    let refusal = c.own_refusal.ensures ∙ ap (λ w. cond (eqb n 1 || eqb w a.from) n 2) c.word.ensures in
    head_refused a.from a.to a.file.now a.out.now (omega (arith, c.if-out-lt-LARGEST.false)) n (sym c.in-Err.ensures) _
    (c.not_written-in-Err.ensures ∙ ap (λ n. not_written n 0) refusal)
