use mathlib.Core.Path.{◌≡◌, refl, ap, ap₂, ◌∙◌}
use mathlib.Core.Bool.{true}
use native.Mathlib.Omega.{arith}
use Rattle.masks.specs.Mask.{minus}
use Rattle.hours.specs.Hours.{rows, contains, roles_of, any_row, shut}
use Rattle.hours.proofs.StepLaws.{roles_more}
use Rattle.hours.proofs.shut.Goals as goal

pub loop-i-init : goal.loop-i-init
unfolding roles_of
loop-i-init c = (refl, refl)

pub loop-i-preserved : goal.loop-i-preserved
loop-i-preserved c =
    let a = c.args in
    let l = c.loop-i in
    let it = c.row_at-it in (
      roles_more a.hours.now any_row l.i it.result l.named c.put_if-named.result true it.ensures l.invariant.0 refl c.put_if-named.ensures,
      roles_more a.hours.now (contains a.minute) l.i it.result l.inside c.put_if-inside.result c.contains.result it.ensures l.invariant.1 c.contains.ensures c.put_if-inside.ensures,
    )

pub returns : goal.returns
unfolding shut
returns c =
    let a = c.args in
    let l = c.loop-i in
    let all : l.i ≡ rows a.hours.now = omega arith in
    c.roles_minus.ensures ∙ ap₂ minus (l.invariant.0 ∙ ap (roles_of a.hours.now any_row) all) (l.invariant.1 ∙ ap (roles_of a.hours.now (contains a.minute)) all)
