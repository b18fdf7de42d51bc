use Prim.Native.Nat.{ℕ, ◌+◌}
use mathlib.Core.Path.{◌≡◌, sym, ap, ap₂, ◌∙◌}
use native.Mathlib.Omega.{arith}
use Rattle.format.specs.Contents.{contents_at}
use Rattle.format.proofs.ContentsLaws.{roles_held, kinds_held}
use Rattle.rules.specs.Schema.{schema_of}
use Rattle.rules.specs.Kept.{kind_in, entry}
use Rattle.naming.specs.Kept.{bare_point, naming_from, awaited_at}
use Rattle.rules.proofs.StepLaws.{step_repeat, step_new, step_compare, step_receive, step_send}
use Rattle.naming.proofs.NamingLaws.{no_receive, its_channels, naming_other}
use Rattle.naming.proofs.pass.naming_at.Goals as goal

pub returns-in-2 : goal.returns-in-2
returns-in-2 c =
    let a = c.args in
    let D = schema_of (contents_at a.file.now a.head) in (
      c.staying.ensures ∙ ap₂ naming_from (sym (no_receive a.names.now a.bound a.it (λ z. omega (arith, c.in-2.is, z)))) (step_repeat D a.names.now (bare_point D a.user a.bound) a.it c.in-2.is),
      λ z. let no : ⊥ = omega (arith, c.in-2.is, z) in absurd no,
    )

pub returns-in-3 : goal.returns-in-3
returns-in-3 c =
    let a = c.args in
    let D = schema_of (contents_at a.file.now a.head) in
    let law = step_new D a.names.now (bare_point D a.user a.bound) a.it (kinds_held a.file.now a.head) c.in-3.is in (
      c.binding.ensures ∙ rw (c.graded.ensures, c.in_count.ensures) (ap₂ naming_from (sym (no_receive a.names.now a.bound a.it (λ z. omega (arith, c.in-3.is, z)))) law),
      λ z. let no : ⊥ = omega (arith, c.in-3.is, z) in absurd no,
    )

pub returns-in-4 : goal.returns-in-4
returns-in-4 c =
    let a = c.args in
    let D = schema_of (contents_at a.file.now a.head) in
    let law = step_compare D a.names.now (bare_point D a.user a.bound) a.it c.in-4.is in (
      c.staying-in-4.ensures
          ∙ rw (
            c.graded-in-4.ensures,
            c.kind_of-in-4.ensures,
            c.kind_of.ensures,
            c.owner_of-in-4.ensures,
            c.owner_of.ensures,
            c.look_up-other.ensures,
            c.look_up-one.ensures,
          ) (ap₂ naming_from (sym (no_receive a.names.now a.bound a.it (λ z. omega (arith, c.in-4.is, z)))) law),
      λ z. let no : ⊥ = omega (arith, c.in-4.is, z) in absurd no,
    )

pub returns-in-5 : goal.returns-in-5
returns-in-5 c =
    let a = c.args in
    let D = schema_of (contents_at a.file.now a.head) in
    let law = step_receive D a.names.now (bare_point D a.user a.bound) a.it c.in-5.is in
    let kind : c.kind_of-kind.result.0 ≡ awaited_at a.names.now a.bound a.it = c.kind_of-kind.ensures ∙ ap kind_in c.look_up-on.ensures ∙ sym (its_channels a.names.now a.bound a.it c.in-5.is) in (
      c.binding-in-5.ensures
          ∙ ap (λ (k : ℕ). record { wrong = c.graded-in-5.result; binding = entry c.carries.result.0 1; bound = a.bound + 1; awaits = k }) kind
          ∙ rw (c.carries.ensures, c.graded-in-5.ensures, c.kind_of-kind.ensures, c.owner_of-owner.ensures, c.look_up-on.ensures) (ap (naming_from (awaited_at a.names.now a.bound a.it)) law),
      λ z. rw (← c.look_up-on.ensures, ← c.kind_of-kind.ensures) (omega (arith, c.carries.ensures)),
    )

pub returns-in-6 : goal.returns-in-6
returns-in-6 c =
    let a = c.args in
    let D = schema_of (contents_at a.file.now a.head) in
    let law = step_send D a.names.now (bare_point D a.user a.bound) a.it c.in-6.is in (
      c.staying-in-6.ensures
          ∙ rw (
            c.graded-in-6.ensures,
            c.carries-in-6.ensures,
            c.kind_of-in-6.ensures,
            c.owner_of-in-6-2.ensures,
            c.owner_of-in-6.ensures,
            c.kind_of-kind-in-6.ensures,
            c.look_up-value.ensures,
            c.look_up-on-in-6.ensures,
          ) (ap₂ naming_from (sym (no_receive a.names.now a.bound a.it (λ z. omega (arith, c.in-6.is, z)))) law),
      λ z. let no : ⊥ = omega (arith, c.in-6.is, z) in absurd no,
    )

pub returns-in_default : goal.returns-in_default
returns-in_default c =
    let a = c.args in
    let m = c.in_default.in_default-own.rest in
    let law = naming_other (schema_of (contents_at a.file.now a.head)) a.names.now a.user a.bound a.it (roles_held a.file.now a.head) in (
      c.staying-in_default.ensures ∙ rw (c.graded-in_default.ensures, c.in_count-in_default.ensures) (law m.0.0.0.0.1 m.0.0.0.1 m.0.0.1 m.0.1 m.1),
      λ z. absurd (m.0.1 z),
    )
