use mathlib.Core.Path.{ap, ap₂, ◌∙◌}
use native.Mathlib.Omega.{arith}
use Rattle.format.specs.Contents.{contents_at}
use Rattle.format.proofs.ContentsLaws.{roles_held, kinds_held}
use Rattle.rules.specs.Schema.{schema_of}
use Rattle.rules.specs.Kept.{receive_step, send_step}
use Rattle.rules.proofs.StepLaws.{step_repeat, step_new, step_compare, step_receive, step_send, step_on, step_off, step_other}
use Rattle.rules.proofs.steps.step_at.Goals as goal

pub returns-in-2 : goal.returns-in-2
returns-in-2 c =
    let a = c.args in
    let D = schema_of (contents_at a.file.now a.head) in
    let law = step_repeat D a.names.now a.here a.it in (
      c.staying.ensures ∙ law c.in-2.is,
      λ z. let no : ⊥ = omega (arith, c.in-2.is, z) in absurd no,
    )

pub returns-in-3 : goal.returns-in-3
returns-in-3 c =
    let a = c.args in
    let D = schema_of (contents_at a.file.now a.head) in
    let law = step_new D a.names.now a.here a.it (kinds_held a.file.now a.head) in (
      c.new_at.ensures ∙ law c.in-3.is,
      λ z. let no : ⊥ = omega (arith, c.in-3.is, z) in absurd no,
    )

pub returns-in-4 : goal.returns-in-4
returns-in-4 c =
    let a = c.args in
    let D = schema_of (contents_at a.file.now a.head) in
    let law = step_compare D a.names.now a.here a.it in (
      c.staying-in-4.ensures
          ∙ rw (
            c.graded-wrong.ensures,
            c.kind_of-in-4.ensures,
            c.kind_of.ensures,
            c.owner_of-in-4.ensures,
            c.owner_of.ensures,
            c.look_up-other.ensures,
            c.look_up-one.ensures,
          ) (law c.in-4.is),
      λ z. let no : ⊥ = omega (arith, c.in-4.is, z) in absurd no,
    )

pub returns-in-5 : goal.returns-in-5
returns-in-5 c =
    let a = c.args in
    let D = schema_of (contents_at a.file.now a.head) in
    let law = step_receive D a.names.now a.here a.it in (
      c.receive_at.ensures.0 ∙ ap (receive_step D a.here) c.look_up.ensures ∙ law c.in-5.is,
      λ z. rw c.look_up.ensures at c.receive_at.ensures.1,
    )

pub returns-in-6 : goal.returns-in-6
returns-in-6 c =
    let a = c.args in
    let D = schema_of (contents_at a.file.now a.head) in
    let law = step_send D a.names.now a.here a.it in (
      c.send_at.ensures ∙ ap₂ (send_step D a.here) c.look_up-on.ensures c.look_up-in-6.ensures ∙ law c.in-6.is,
      λ z. let no : ⊥ = omega (arith, c.in-6.is, z) in absurd no,
    )

pub returns-in-7 : goal.returns-in-7
returns-in-7 c =
    let a = c.args in
    let D = schema_of (contents_at a.file.now a.head) in
    let law = step_on D a.names.now a.here a.it (roles_held a.file.now a.head) in (
      c.on_at.ensures ∙ law c.in-7.is,
      λ z. let no : ⊥ = omega (arith, c.in-7.is, z) in absurd no,
    )

pub returns-in-8 : goal.returns-in-8
returns-in-8 c =
    let a = c.args in
    let D = schema_of (contents_at a.file.now a.head) in
    let law = step_off D a.names.now a.here a.it (roles_held a.file.now a.head) in (
      c.off_at.ensures ∙ law c.in-8.is,
      λ z. let no : ⊥ = omega (arith, c.in-8.is, z) in absurd no,
    )

pub returns-in_default : goal.returns-in_default
returns-in_default c =
    let a = c.args in
    let D = schema_of (contents_at a.file.now a.head) in
    let law = step_other D a.names.now a.here a.it (roles_held a.file.now a.head) in (
      c.staying-in_default.ensures ∙ rw (c.graded.ensures, c.in_count.ensures) (law c.in_default.in_default-own.rest.0.0.0.0.0.0.1 c.in_default.in_default-own.rest.0.0.0.0.0.1 c.in_default.in_default-own.rest.0.0.0.0.1 c.in_default.in_default-own.rest.0.0.0.1 c.in_default.in_default-own.rest.0.0.1 c.in_default.in_default-own.rest.0.1 c.in_default.in_default-own.rest.1),
      λ z. absurd (c.in_default.in_default-own.rest.0.0.0.1 z),
    )
