-- What 9 and 10 ask at a node: rules 1 to 4, in words.
use Prim.Native.Nat.{ℕ, ◌≤◌, ◌<◌}
use mathlib.Core.Path.{◌≡◌, refl, sym, ap, ◌∙◌, subst}
use mathlib.Core.Logic.{◌↔◌}
use mathlib.Core.Bool.{Bool, true, false, cond, and-eq-true_iff}
use mathlib.Core.List.{List}
use native.Mathlib.Omega.{arith}
use lib.Dec.{eqb, ltb}
use borrow.Author.Tests.{eqb-true, eq-eqb, ltb-true, lt-ltb}
use Rattle.format.proofs.ContentsLaws.{in_count_iff}
use Rattle.rules.specs.Schema.{Schema}
use Rattle.rules.specs.Names.{Bound, named, kind_of}
use Rattle.rules.specs.Rules.{Context, names_fit, kinds_fit, wrong}
use Rattle.reading_exact.specs.Tree.{Step, repeat, new, compare, receive, send, Switch, on, off, step_node, switch_node}
use Rattle.reading_exact.specs.File.{InCount}
use Rattle.checking_exact.specs.Typing.{HasKind, Receivable}
use Rattle.checking_exact.proofs.OperandKinds.{Ranged, mine_iff, kind_at_lem, named_kind, kind_named}

abbrev pub StepFits : Schema → ℕ → List Bound → Step → Type 0
StepFits D u vs repeat = Unit {0}
StepFits D u vs (new k) = InCount D.kinds k
StepFits D u vs (compare a b) = (k : ℕ) × HasKind D vs a k × HasKind D vs b k
StepFits D u vs (receive c) = (k : ℕ) × HasKind D vs c k × Receivable D u vs c
StepFits D u vs (send c v) = (k : ℕ) × HasKind D vs c k × (1 ≤ k) × HasKind D vs v (D.carries k)

no_fault : (a b : Bool) → ◌≡◌ {A = ℕ} (cond a (cond b 0 10) 9) 0 → (a ≡ true) × (b ≡ true)
no_fault true true h = (refl, refl)
no_fault true false h = let no : ⊥ = omega arith in absurd no
no_fault false b h = let no : ⊥ = omega arith in absurd no

module _ (D : Schema) (R : Ranged D) (u : ℕ) (vs : List Bound) where
  -- both tests of a step
  abbrev Tested : Step → Type 0
  Tested s = (names_fit D vs (step_node s) ≡ true) × (kinds_fit D u vs (step_node s) ≡ true)

  kinds_tested : (s : Step) → Tested s → StepFits D u vs s
  unfolding names_fit kinds_fit
  kinds_tested repeat h = tt
  kinds_tested (new k) h = (in_count_iff D.kinds k).0 h.0
  kinds_tested (compare a b) h =
      let (p, q) = (and-eq-true_iff (named D vs a) (named D vs b)).0 h.0 in
      let e : kind_of D vs b ≡ kind_of D vs a = sym (eqb-true (kind_of D vs a) (kind_of D vs b) h.1) in
      (kind_of D vs a, named_kind D R vs a p, subst (HasKind D vs b) e (named_kind D R vs b q))
  kinds_tested (receive c) h = (kind_of D vs c, named_kind D R vs c h.0, (mine_iff D u vs c).0 h.1)
  kinds_tested (send c v) h =
      let (p, q) = (and-eq-true_iff (named D vs c) (named D vs v)).0 h.0 in
      let (l, e) = (and-eq-true_iff (ltb 0 (kind_of D vs c)) (eqb (kind_of D vs v) (D.carries (kind_of D vs c)))).0 h.1 in
      let carried : kind_of D vs v ≡ D.carries (kind_of D vs c) = eqb-true (kind_of D vs v) (D.carries (kind_of D vs c)) e in
      (kind_of D vs c, named_kind D R vs c p, omega (arith, ltb-true 0 (kind_of D vs c) l), subst (HasKind D vs v) carried (named_kind D R vs v q))

  tested_kinds : (s : Step) → StepFits D u vs s → Tested s
  unfolding names_fit kinds_fit
  tested_kinds repeat h = (refl, refl)
  tested_kinds (new k) h = ((in_count_iff D.kinds k).1 h, refl)
  tested_kinds (compare a b) (k, p, q) = (
    (and-eq-true_iff (named D vs a) (named D vs b)).1 (kind_named D R vs a k p, kind_named D R vs b k q),
    eq-eqb (kind_of D vs a) (kind_of D vs b) (kind_at_lem D R vs a k p ∙ sym (kind_at_lem D R vs b k q)),
  )
  tested_kinds (receive c) (k, p, q) = (kind_named D R vs c k p, (mine_iff D u vs c).1 q)
  tested_kinds (send c v) (k, p, l, q) =
      let e : kind_of D vs c ≡ k = kind_at_lem D R vs c k p in
      let o : 0 < kind_of D vs c = omega arith in (
        (and-eq-true_iff (named D vs c) (named D vs v)).1 (kind_named D R vs c k p, kind_named D R vs v (D.carries k) q),
        (and-eq-true_iff (ltb 0 (kind_of D vs c)) (eqb (kind_of D vs v) (D.carries (kind_of D vs c)))).1 (
          lt-ltb 0 (kind_of D vs c) o,
          eq-eqb (kind_of D vs v) (D.carries (kind_of D vs c)) (kind_at_lem D R vs v (D.carries k) q ∙ ap D.carries (sym e)),
        ),
      )

  module _ (m : ℕ) where
    abbrev context : Context
    context = record { user = u; mask = m; vars = vs }

    pub step_iff : (s : Step) → (wrong D context (step_node s) ≡ 0) ↔ StepFits D u vs s
    unfolding wrong
    step_iff s = (
      λ h. kinds_tested s (no_fault (names_fit D vs (step_node s)) (kinds_fit D u vs (step_node s)) h),
      λ h. let (a, b) = tested_kinds s h in rw (a, b),
    )

    pub switch_iff : (w : Switch) (r : ℕ) → (wrong D context (switch_node w r) ≡ 0) ↔ InCount D.roles r
    unfolding wrong names_fit kinds_fit
    switch_iff on r = (λ h. (in_count_iff D.roles r).0 (no_fault _ true h).0, λ h. rw ((in_count_iff D.roles r).1 h))
    switch_iff off r = (λ h. (in_count_iff D.roles r).0 (no_fault _ true h).0, λ h. rw ((in_count_iff D.roles r).1 h))
