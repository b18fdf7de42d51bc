use mathlib.Core.Path.{◌≡◌, sym, ap, subst, ◌∙◌}
use mathlib.Core.List.{List}
use Prim.Native.Nat.{ℕ}
use Rattle.std.specs.Prelude.{Err}
use Rattle.format.specs.Contents.{contents_at}
use Rattle.format.specs.declared.Verdict.{Verdict}
use Rattle.format.proofs.AnswerLaws.{NoRefusal}
use Rattle.states.specs.States.{Label, turns_of}
use Rattle.placing.specs.Placing.{labels_from, placeable_by, decided}
use Rattle.placing.proofs.DecideLaws.{decided_loud, settled_before, bare_number, bare_loud, bare_quiet, bare as of_bare}
use Rattle.placing.proofs.decide.decide.Goals as goal

pub returns-then-first-ne0 : goal.returns-then-first-ne0
returns-then-first-ne0 c =
    let a = c.args in
    let C = contents_at a.file.now a.head in
    let ls : List Label = labels_from C a.roles.now in
    let first : ◌≡◌ {A = Verdict} c.bare-first.result (of_bare C) = c.bare-first.ensures in
    let loud : NoRefusal (of_bare C) → ⊥ = λ q. c.if-first-ne0.true (ap (λ (x : Verdict). x.number) first ∙ q) in
    let e = bare_loud C ls loud in
    let number : ◌≡◌ {A = ℕ} c.bare-first.result.number 14 = ap (λ (x : Verdict). x.number) first ∙ bare_number C loud in (
      ap (λ (x : Verdict). Err x) (first ∙ sym e) ∙ sym (decided_loud (placeable_by C ls) (turns_of ls) (λ q. loud (subst NoRefusal e q))),
      settled_before (Err c.bare-first.result) (turns_of ls) a.turns.now a.starts.now (rw number),
    )

pub returns : goal.returns
returns c =
    let a = c.args in
    let C = contents_at a.file.now a.head in
    let ls : List Label = labels_from C a.roles.now in
    let s = c.settle in
    let quiet : NoRefusal (of_bare C) = sym (ap (λ (x : Verdict). x.number) c.bare-first.ensures) ∙ c.if-first-ne0.false in
    (s.ensures.0 ∙ ap (λ v. decided v (turns_of ls)) (sym (bare_quiet C ls quiet)), s.ensures.1)
