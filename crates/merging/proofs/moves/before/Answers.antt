use mathlib.Core.Path.{sym, ◌∙◌}
use native.Mathlib.Omega.{arith}
use Rattle.format.proofs.ContentsLaws.{in_count_lem}
use Rattle.merging.proofs.SectionLaws.{shifts_user, shifts_channel, shifts_none, few_channels}
use Rattle.merging.proofs.moves.before.Goals as goal

pub returns-then-in_count : goal.returns-then-in_count
returns-then-in_count c =
    let a = c.args in
    let is = sym c.in_count.ensures ∙ c.if-in_count.true in
    (shifts_user a.by.users a.by.channels a.x is, omega arith, omega (arith, in_count_lem 32 a.x is))

pub returns-then-x : goal.returns-then-x
returns-then-x c =
    let a = c.args in
    (shifts_channel a.by.users a.by.channels a.x (sym c.in_count.ensures ∙ c.if-in_count.false) c.if-x.true, omega arith, omega (arith, few_channels a.by.users a.by.channels a.x c.if-x.true))

pub returns : goal.returns
returns c =
    let a = c.args in
    (shifts_none a.by.users a.by.channels a.x (sym c.in_count.ensures ∙ c.if-in_count.false) c.if-x.false, omega arith, omega arith)
