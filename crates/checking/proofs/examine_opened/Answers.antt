use Rattle.format.specs.declared.Head.{Head}
use Rattle.format.specs.declared.Verdict.{Verdict}
use mathlib.Core.Path.{◌≡◌, sym, ap, subst, ◌∙◌}
use Rattle.reading.specs.Reading.{opened, with_head}
use Rattle.std.specs.Prelude.{Result, Ok}
use Rattle.reading.proofs.ReadingLaws.{opened_fine}
use Rattle.rules.specs.declared.Judged.{Judged}
use Rattle.checking.specs.Check.{Admitted, examined_from, surveyed_from}
use Rattle.checking.proofs.CheckLaws.{owned}
use Rattle.checking.proofs.examine_opened.Goals as goal

pub judge-judged-requires : goal.judge-judged-requires
judge-judged-requires c =
    let f = c.args.file.now in
    let told : opened f ≡ Ok c.in-Ok.head = subst (Admitted f) c.in-Ok.is c.requires.0 in
    ((opened_fine f _ told).0, owned f _ told, c.requires.1)

pub returns-in-Err : goal.returns-in-Err
returns-in-Err c =
    let a = c.args in
    let is = sym c.in-Err.is in
    (ap (examined_from a.file.now) is, ap (λ (o : Result Head Verdict). surveyed_from a.file.now o a.roles.now) is)

pub returns-in-Ok : goal.returns-in-Ok
returns-in-Ok c =
    let a = c.args in
    let h = c.in-Ok.head in
    let is = sym c.in-Ok.is in
    let j = c.judge-judged in (
      ap (λ (x : Result Head Verdict). record { names = x; roles = j.result.roles }) c.with_head.ensures
          ∙ ap (λ (x : Judged). record { names = with_head h x.names; roles = x.roles }) j.ensures.0
          ∙ ap (examined_from a.file.now) is,
      j.ensures.1 ∙ ap (λ (o : Result Head Verdict). surveyed_from a.file.now o a.roles.now) is,
    )
