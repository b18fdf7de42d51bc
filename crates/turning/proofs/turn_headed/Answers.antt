use mathlib.Core.Path.{ap, ◌∙◌}
use native.Mathlib.Omega.{arith}
use Rattle.format.specs.Header.{has_juniors}
use Rattle.format.proofs.HeadLaws.{head_laid}
use Rattle.turning.proofs.TurnLaws.{other_version, few_bytes, turned}
use Rattle.turning.proofs.turn_headed.Goals as goal

pub returns-then-head-from : goal.returns-then-head-from
returns-then-head-from c =
    let a = c.args in
    let p = c.requires in
    other_version a.from a.to a.file.now a.out.now p.3 a.head p.0 c.if-head-from.true _ c.not_written.ensures

pub put_turned-requires : goal.put_turned-requires
put_turned-requires c =
    let a = c.args in
    let p = c.requires in
    (head_laid a.file.now a.head p.0, ap has_juniors c.if-head-from.false ∙ p.1, p.2, p.3)

pub narrow-requires : goal.narrow-requires
narrow-requires c =
    let a = c.args in
    let p = c.requires in
    omega (arith, few_bytes a.from a.to a.file.now a.out.now p.3 a.head p.0)

pub returns : goal.returns
returns c =
    let a = c.args in
    let p = c.requires in
    turned a.from a.to a.file.now a.out.now p.3 a.head p.0 c.if-head-from.false _ c.put_turned.new.out
    (ap (λ n. record { number = 0; place = 0; length = n }) c.narrow.ensures) c.put_turned.ensures
