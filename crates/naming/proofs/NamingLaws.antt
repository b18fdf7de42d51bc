-- The rules at one node for names alone, from those of all rules.
use Prim.Native.Nat.{ℕ, ◌+◌, ◌≤◌}
use mathlib.Core.Path.{◌≡◌, refl, sym, ap, ap₂, ◌∙◌}
use mathlib.Core.Bool.{Bool, true, false, cond}
use mathlib.Core.List.{List}
use lib.ListN.{length, set}
use native.Mathlib.Omega.{arith}
use lib.Dec.{eqb}
use borrow.Author.Tests.{eqb-true, eqb-false, eq-eqb, ne_eqb}
use Rattle.format.specs.Contents.{in_count}
use Rattle.format.specs.declared.Node.{Node}
use Rattle.rules.specs.declared.Point.{Point}
use Rattle.rules.specs.declared.RuleStep.{RuleStep}
use Rattle.naming.specs.declared.NameStep.{NameStep}
use Rattle.rules.specs.Schema.{Schema}
use Rattle.rules.specs.Names.{named}
use Rattle.rules.specs.Rules.{names_fit, wrong, child_of}
use Rattle.rules.specs.Kept.{kind_in, look, NameTable, vars_of, context_of, graded, staying, turning, step_of, unmasked}
use Rattle.naming.specs.Kept.{bare_point, naming_from, naming_of, awaited_at}
use Rattle.naming.specs.Scopes.{awaited}
use Rattle.rules.proofs.NameLaws.{Held, said}
use Rattle.rules.proofs.StepLaws.{Right, step_on, step_off, step_other}

-- a thread at any other node than a receive waits for no kind
pub no_receive : (t : List ℕ) (b : ℕ) (n : Node) → (n.tag ≡ 5 → ⊥) → awaited_at t b n ≡ 0
no_receive t b n other = rw (ne_eqb n.tag 5 other)

-- one at a receive waits for its channel's
pub its_channels : (t : List ℕ) (b : ℕ) (n : Node) → n.tag ≡ 5 → awaited_at t b n ≡ kind_in (look t b n.f1)
its_channels t b n five = rw (eq-eqb n.tag 5 five)

-- where a role is turned on or off and at any further tag
turned : (p : Point) (q : Bool) (b m : ℕ) → record { wrong = graded q true; binding = 0; bound = p.bound; awaits = 0 } ≡ naming_from 0 (cond q (turning p b m) (staying p 9 0 0))
turned p true b m = refl
turned p false b m = refl

pub naming_other : (D : Schema) (t : List ℕ) (u b : ℕ) (n : Node) {k : ℕ} → D.roles ≡ k → (n.tag ≡ 2 → ⊥) → (n.tag ≡ 3 → ⊥) → (n.tag ≡ 4 → ⊥) → (n.tag ≡ 5 → ⊥) → (n.tag ≡ 6 → ⊥)
    → record { wrong = graded (in_count k n.f1) true; binding = 0; bound = b; awaits = 0 } ≡ naming_of D t u b n
naming_other D t u b n {k} m x2 x3 x4 x5 x6 = go7 (eqb n.tag 7) refl
  where
    none : 0 ≡ awaited_at t b n
    none = sym (no_receive t b n x5)

    go8 : (n.tag ≡ 7 → ⊥) → (q : Bool) → eqb n.tag 8 ≡ q → record { wrong = graded (in_count k n.f1) true; binding = 0; bound = b; awaits = 0 } ≡ naming_of D t u b n
    go8 x7 true e = turned (bare_point D u b) (in_count k n.f1) _ _ ∙ ap₂ naming_from none (step_off D t (bare_point D u b) n m (eqb-true n.tag 8 e))
    go8 x7 false e = ap₂ naming_from none (step_other D t (bare_point D u b) n m x2 x3 x4 x5 x6 x7 (eqb-false n.tag 8 e))

    go7 : (q : Bool) → eqb n.tag 7 ≡ q → record { wrong = graded (in_count k n.f1) true; binding = 0; bound = b; awaits = 0 } ≡ naming_of D t u b n
    go7 true e = turned (bare_point D u b) (in_count k n.f1) _ _ ∙ ap₂ naming_from none (step_on D t (bare_point D u b) n m (eqb-true n.tag 7 e))
    go7 false e = go8 (eqb-false n.tag 7 e) (eqb n.tag 8) refl

-- what a node comes to
pub record NamesJudged (D : Schema) (t : List ℕ) (u b : ℕ) (n : Node) (s : NameStep) : Type 0 where
  pub wrong : s.wrong ≡ wrong D (context_of t (bare_point D u b)) n
  pub child : s.wrong ≡ 0 → unmasked (context_of (set t (512 + b) s.binding) (bare_point D u s.bound)) ≡ unmasked (child_of D (context_of t (bare_point D u b)) n)
  pub least : s.wrong ≡ 0 → b ≤ s.bound
  pub most : s.wrong ≡ 0 → s.bound ≤ b + 1
  pub held : s.wrong ≡ 0 → Held (set t (512 + b) s.binding) s.bound

pub told : (D : Schema) (t : List ℕ) (u b : ℕ) (n : Node) → Right D t (bare_point D u b) n (step_of D t (bare_point D u b) n) → NamesJudged D t u b n (naming_of D t u b n)
told D t u b n r =
    let s : RuleStep = step_of D t (bare_point D u b) n in
    let q : List ℕ = set t (512 + b) s.binding in
    record {
      wrong = r.wrong;
      child = λ z. ap (λ k. record { user = k; mask = 0; vars = vars_of k q s.child.bound }) (sym (r.goes z).user) ∙ ap unmasked (r.goes z).child;
      least = λ z. (r.goes z).least;
      most = λ z. (r.goes z).most;
      held = λ z. (r.goes z).held;
    }

-- a receive that is right names a channel, and the table of names has its kind
pub awaited_right : (D : Schema) (t : List ℕ) (u b : ℕ) (n : Node) → D.users ≤ 32 → D.channels ≤ 64 → NameTable D D.users D.channels t → 512 + b ≤ length t → Held t b
    → wrong D (context_of t (bare_point D u b)) n ≡ 0 → awaited_at t b n ≡ awaited D (context_of t (bare_point D u b)) n
unfolding wrong names_fit
awaited_right D t u b n users channels its long held good = go (eqb n.tag 5) refl
  where
    is_named : (p : Bool) (k : ℕ) → cond p k 9 ≡ 0 → p ≡ true
    is_named true k e = refl
    is_named false k e = let no : ⊥ = omega (arith, e) in absurd no

    go : (p : Bool) → eqb n.tag 5 ≡ p → awaited_at t b n ≡ awaited D (context_of t (bare_point D u b)) n
    go true e =
        let five : n.tag ≡ 5 = eqb-true n.tag 5 e in
        let fits : names_fit D (vars_of u t b) n ≡ named D (vars_of u t b) n.f1 = rw five in
        rw e ((said D u b t users channels its long held n.f1).1 (sym fits ∙ is_named (names_fit D (vars_of u t b) n) _ good))
    go false e = rw e
