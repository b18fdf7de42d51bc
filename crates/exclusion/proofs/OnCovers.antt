-- The role of a session's one on step permits all the session's sends and receives.
use Prim.Native.Nat.{ℕ, suc, ◌≤◌}
use mathlib.Core.Path.{◌≡◌, refl, sym, ap, ◌∙◌}
use mathlib.Core.Bool.{Bool, true, false, false≢true}
use mathlib.Core.List.{List, []}
use native.Mathlib.Omega.{arith}
use lib.Dec.{eqb, ltb}
use borrow.Author.Tests.{eqb-true, eqb-false, ltb-true, ltb-false}
use Rattle.masks.specs.Mask.{has, with}
use Rattle.masks.proofs.Laws.{has_none, has_pos, has_with_same, has_with_other}
use Rattle.format.specs.Contents.{Contents}
use Rattle.format.specs.declared.Node.{Node}
use Rattle.rules.specs.declared.Way.{Way}
use Rattle.rules.specs.declared.Way.TheVariants.{Sends, Receives}
use Rattle.rules.specs.Schema.{Schema, Permitted}
use Rattle.rules.specs.Names.{Bound}
use Rattle.reading_exact.specs.Tree.{Tree, end, fork, step, switch, on, off, Step, repeat, new, compare, receive, send}
use Rattle.reading_exact.specs.Tree.{step_node, past}
use Rattle.reading_exact.specs.Refusals.{nth, OneChild, child, first_child, second_child}
use Rattle.reading_exact.proofs.FollowedEnds.{written_follows}
use Rattle.checking_exact.specs.Typing.{ByRoles, r_end, r_fork, r_repeat, r_new, r_compare, r_receive, r_send, r_on}
use Rattle.checking_exact.specs.Typing.{r_off}
use Rattle.placing_exact.specs.Placement.{plain, on_steps}
use Rattle.seats.specs.SeatOrder.{InTreeOf}
use Rattle.seats.proofs.StepOwners.{fewer}
use Rattle.exclusion.proofs.SessionNodes.{WrittenAt, step_written, switch_written, fork_written}

-- every on step is of the role x
abbrev pub OnlyOn : ℕ → Tree → Type 0
OnlyOn x end = Unit {0}
OnlyOn x (fork a b) = OnlyOn x a × OnlyOn x b
OnlyOn x (step s t) = OnlyOn x t
OnlyOn x (switch on r t) = (r ≡ x) × OnlyOn x t
OnlyOn x (switch off r t) = OnlyOn x t

-- no role but x is in the mask
abbrev OnlyIn : ℕ → ℕ → Type 0
OnlyIn x m = (y : ℕ) → has m y ≡ true → y ≡ x

module _ (D : Schema) (u x : ℕ) where
  -- without its on and off steps the tree obeys the rules with that role alone active
  module _ (pos : 1 ≤ x) where
    permitted_by : (m : ℕ) (w : Way) (k : ℕ) → OnlyIn x m → Permitted D m w k → Permitted D (with 0 x) w k
    permitted_by m w k only (y, c, h, p) = (y, c, rw (only y h) (has_with_same 0 x pos), p)

    only_with : (m r : ℕ) → r ≡ x → OnlyIn x m → OnlyIn x (with m r)
    only_with m r e only y h = go (eqb r y) refl
      where
        go : (b : Bool) → eqb r y ≡ b → y ≡ x
        go true d = sym (eqb-true r y d) ∙ e
        go false d = only y (sym (has_with_other m r y (eqb-false r y d)) ∙ h)

    plain_roles : {vs : List Bound} {m : ℕ} {t : Tree} → ByRoles D u vs m t → OnlyOn x t → OnlyIn x m
        → ByRoles D u vs (with 0 x) (plain t)
    unfolding plain
    plain_roles r_end o w = r_end
    plain_roles (r_fork h g) o w = r_fork (plain_roles h o.0 w) (plain_roles g o.1 w)
    plain_roles (r_repeat h) o w = r_repeat (plain_roles h o w)
    plain_roles (r_new h) o w = r_new (plain_roles h o w)
    plain_roles (r_compare h) o w = r_compare (plain_roles h o w)
    plain_roles (r_receive {m = m} k q p h) o w = r_receive k q (permitted_by m Receives k w p) (plain_roles h o w)
    plain_roles (r_send {m = m} k q p h) o w = r_send k q (permitted_by m Sends k w p) (plain_roles h o w)
    plain_roles (r_on {m = m} {r = r} a h) o w = plain_roles h o.1 (only_with m r o.0 w)
    plain_roles (r_off {m = m} {r = r} a h) o w = plain_roles h o (λ y v. w y (fewer m r y v))

  -- and the role is the user's, where there is an on step
  assigned_by : {vs : List Bound} {m : ℕ} {t : Tree} → ByRoles D u vs m t → OnlyOn x t → 1 ≤ on_steps t
      → has (D.assigned u) x ≡ true
  unfolding on_steps
  assigned_by r_end o l = let never : ⊥ = omega (arith, l) in absurd never
  assigned_by (r_fork {a = a} {b = b} h g) o l =
      go (ltb 0 (on_steps a)) refl (λ z. assigned_by h o.0 z) (λ z. assigned_by g o.1 z)
    where
      go : (p : Bool) → ltb 0 (on_steps a) ≡ p → (1 ≤ on_steps a → has (D.assigned u) x ≡ true)
          → (1 ≤ on_steps b → has (D.assigned u) x ≡ true) → has (D.assigned u) x ≡ true
      go true e left right = left (ltb-true 0 (on_steps a) e)
      go false e left right = right (omega (arith, l, ltb-false 0 (on_steps a) e))
  assigned_by (r_repeat h) o l = assigned_by h o l
  assigned_by (r_new h) o l = assigned_by h o l
  assigned_by (r_compare h) o l = assigned_by h o l
  assigned_by (r_receive k q p h) o l = assigned_by h o l
  assigned_by (r_send k q p h) o l = assigned_by h o l
  assigned_by (r_on a h) o l = rw o.0 at a
  assigned_by (r_off a h) o l = assigned_by h o l

  -- so a tree that starts without a role is covered by it
  pub covered_by : {m : ℕ} {t : Tree} → ByRoles D u [] m t → m ≡ 0 → OnlyOn x t → 1 ≤ on_steps t
      → (has (D.assigned u) x ≡ true) × ByRoles D u [] (with 0 x) (plain t)
  covered_by {m} h bare o l =
      let held : has (D.assigned u) x ≡ true = assigned_by h o l in
      let none : OnlyIn x m = λ y v. absurd (false≢true (sym (has_none y) ∙ (rw bare at v))) in
      (held, plain_roles (has_pos (D.assigned u) x held) h o none)

one_child : (s : Step) → OneChild (step_node s).tag
one_child repeat = (omega arith, omega arith)
one_child (new k) = (omega arith, omega arith)
one_child (compare a b) = (omega arith, omega arith)
one_child (receive c) = (omega arith, omega arith)
one_child (send c v) = (omega arith, omega arith)

-- what is said of a session's nodes of tag 7 is said of its tree's on steps
module _ (C : Contents) (k x : ℕ)
    (all : (b : ℕ) → InTreeOf C k b → (nth C.nodes b).tag ≡ 7 → (nth C.nodes b).f1 ≡ x) where
  abbrev ns : List Node
  ns = C.nodes

  pub only_on : (t : Tree) (i : ℕ) → WrittenAt C.nodes t i → InTreeOf C k i → OnlyOn x t
  only_on end i W r = tt
  only_on (fork a b) i W r =
      let (c, e, A, B) = fork_written ns i a b W in
      let left_end = written_follows ns (suc i) a A.more A.positive A.written in
      (only_on a (suc i) A (first_child c e r), only_on b (past (suc i) a) B (second_child c e r left_end))
  only_on (step s t) i W r =
      let (c, n, T) = step_written ns i s t W in
      only_on t (suc i) T (child c (rw n (one_child s)) r)
  only_on (switch on v t) i W r =
      let (c, n, T) = switch_written ns i on v t W in
      let e : (nth ns i).tag ≡ 7 = ap (λ (m : Node). m.tag) n in
      let below : InTreeOf C k (suc i) = child c (omega (arith, e), omega (arith, e)) r in
      (sym (ap (λ (m : Node). m.f1) n) ∙ all i r e, only_on t (suc i) T below)
  only_on (switch off v t) i W r =
      let (c, n, T) = switch_written ns i off v t W in
      let e : (nth ns i).tag ≡ 8 = ap (λ (m : Node). m.tag) n in
      only_on t (suc i) T (child c (omega (arith, e), omega (arith, e)) r)
