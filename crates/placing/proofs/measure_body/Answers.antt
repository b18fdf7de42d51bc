use mathlib.Core.Path.{refl, sym, ◌∙◌}
use native.Mathlib.Omega.{arith}
use Rattle.checking.proofs.CheckLaws.{entered_fine}
use Rattle.placing.proofs.PlaceLaws.{sums_few, sums_answered}
use Rattle.placing.proofs.measure_body.Goals as goal

pub decide-requires : goal.decide-requires
decide-requires c = let a = c.args in ((entered_fine a.file.now a.head c.requires.0).0, c.requires.1, refl, refl)

pub answer_of-requires : goal.answer_of-requires
answer_of-requires c =
    let a = c.args in
    let laid = (entered_fine a.file.now a.head c.requires.0).0 in
    (omega (arith, laid), sums_few a.file.now a.head laid a.roles.now _ (sym c.in-Ok.ensures.0))

pub returns-in-Ok : goal.returns-in-Ok
returns-in-Ok c =
    let a = c.args in
    c.answer_of.ensures ∙ sums_answered a.file.now a.head (entered_fine a.file.now a.head c.requires.0).0 a.roles.now _ (sym c.in-Ok.ensures.0)
