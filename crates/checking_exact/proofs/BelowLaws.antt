-- What on and off make of a mask, and that the context computed for an only child is the one that rules 1 and 5 leave it.
use Prim.Native.Nat.{ℕ, ◌≤◌}
use mathlib.Core.Path.{◌≡◌, refl, sym, subst, ◌∙◌}
use mathlib.Core.Logic.{◌↔◌, ◌⊎◌, inl, inr, ◌≢◌}
use mathlib.Core.Bool.{Bool, true, false, not, ◌&&◌, ◌||◌, false≢true, not-eq-not}
use mathlib.Core.List.{List}
use native.Mathlib.Omega.{arith}
use lib.Dec.{eqb}
use borrow.Author.Tests.{eqb-true, eqb-false}
use Rattle.masks.specs.Mask.{has, with, without}
use Rattle.masks.proofs.Laws.{extensional, has_with, has_without}
use Rattle.format.specs.Contents.{in_count}
use Rattle.format.specs.declared.Node.{Node}
use Rattle.format.proofs.ContentsLaws.{in_count_lem, in_count_iff}
use Rattle.rules.specs.Schema.{Schema}
use Rattle.rules.specs.Names.{Bound, named, kind_of}
use Rattle.rules.specs.Rules.{Context, child_of}
use Rattle.reading_exact.specs.Tree.{words, on, Tree, switch}
use Rattle.reading_exact.specs.Refusals.{OneChild}
use Rattle.checking_exact.specs.Typing.{HasKind, ByRoles, r_on}
use Rattle.checking_exact.specs.Faults.{Nameless, received, on_role}
use Rattle.checking_exact.specs.Below.{Added, Removed, Below, repeats, makes, compares, receives, sends, turns_on, turns_off}
use Rattle.checking_exact.proofs.OperandKinds.{Ranged, kind_at_lem, named_kind}
use Rattle.checking_exact.proofs.NameFaults.{by_tag, nothing_iff}

-- what is switched on is assigned
pub on_assigned : (D : Schema) (u : ℕ) (vs : List Bound) (m r : ℕ) (t : Tree) → ByRoles D u vs m (switch on r t) → has (D.assigned u) r ≡ true
on_assigned D u vs m r t (r_on e h) = e

pub with_adds : (m r : ℕ) → 1 ≤ r → Added m r (with m r)
with_adds m r pos x = (λ h. to (eqb x r) refl (sym (has_with m r x pos) ∙ h), λ h. has_with m r x pos ∙ back (eqb x r) refl h)
  where
    to : (b : Bool) → eqb x r ≡ b → (b || has m x) ≡ true → (x ≡ r) ⊎ (has m x ≡ true)
    to true e h = inl (eqb-true x r e)
    to false e h = inr h

    back : (b : Bool) → eqb x r ≡ b → (x ≡ r) ⊎ (has m x ≡ true) → (b || has m x) ≡ true
    back true e h = refl
    back false e (inl s) = absurd (eqb-false x r e s)
    back false e (inr h) = h

pub without_removes : (m r : ℕ) → Removed m r (without m r)
without_removes m r x = (λ h. to (eqb x r) refl (sym (has_without m r x) ∙ h), λ h. has_without m r x ∙ back (eqb x r) refl h)
  where
    to : (b : Bool) → eqb x r ≡ b → (not b && has m x) ≡ true → (has m x ≡ true) × (x ≢ r)
    to true e h = absurd (false≢true h)
    to false e h = (h, eqb-false x r e)

    back : (b : Bool) → eqb x r ≡ b → (has m x ≡ true) × (x ≢ r) → (not b && has m x) ≡ true
    back true e h = absurd (h.1 (eqb-true x r e))
    back false e h = h.0

-- masks whose items are said alike are the same
one_mask : (P : ℕ → Type 0) (a b : ℕ) → ((x : ℕ) → (has a x ≡ true) ↔ P x) → ((x : ℕ) → (has b x ≡ true) ↔ P x) → a ≡ b
one_mask P a b p q = extensional a b (λ x. go x (has a x) refl)
  where
    go : (x : ℕ) (t : Bool) → has a x ≡ t → has a x ≡ has b x
    go x true e = e ∙ sym ((q x).1 ((p x).0 e))
    go x false e = e ∙ sym (not-eq-not.0 (λ h. false≢true (sym e ∙ (p x).1 ((q x).0 h))))

same_context : {c d : Context} → c.user ≡ d.user → c.mask ≡ d.mask → c.vars ≡ d.vars → c ≡ d
same_context u m v = λ i. record { user = u i; mask = m i; vars = v i }

module _ (D : Schema) (R : Ranged D) (c : Context) where
  has_a_kind : (n : Node) → n.tag ≡ 5 → (Nameless D c.vars n → ⊥) → HasKind D c.vars n.f1 (kind_of D c.vars n.f1)
  has_a_kind n t fit = go (named D c.vars n.f1) refl
    where
      go : (b : Bool) → named D c.vars n.f1 ≡ b → HasKind D c.vars n.f1 (kind_of D c.vars n.f1)
      go true e = named_kind D R c.vars n.f1 e
      go false e = absurd (fit (received t ((nothing_iff D R c.vars n.f1).0 e)))

  is_a_role : (n : Node) → n.tag ≡ 7 → (Nameless D c.vars n → ⊥) → 1 ≤ n.f1
  is_a_role n t fit = go (in_count D.roles n.f1) refl
    where
      go : (b : Bool) → in_count D.roles n.f1 ≡ b → 1 ≤ n.f1
      go true e = (in_count_lem D.roles n.f1 e).0
      go false e = absurd (fit (on_role t (λ w. false≢true (sym e ∙ (in_count_iff D.roles n.f1).1 w))))

  left_below : (t a b : ℕ) → t ≤ 8 → 2 ≤ t → (Nameless D c.vars (words t a b) → ⊥) → Below D c (words t a b) (child_of D c (words t a b))
  unfolding child_of
  left_below t a b =
      by_tag (λ t. 2 ≤ t → (Nameless D c.vars (words t a b) → ⊥) → Below D c (words t a b) (child_of D c (words t a b)))
      (λ l fit. let no : ⊥ = omega (arith, l) in absurd no)
      (λ l fit. let no : ⊥ = omega (arith, l) in absurd no)
      (λ l fit. repeats refl refl)
      (λ l fit. makes refl refl refl refl)
      (λ l fit. compares refl refl)
      (λ l fit. receives (kind_of D c.vars a) refl (has_a_kind (words 5 a b) refl fit) refl refl refl)
      (λ l fit. sends refl refl)
      (λ l fit. turns_on refl refl (with_adds c.mask a (is_a_role (words 7 a b) refl fit)) refl)
      (λ l fit. turns_off refl refl (without_removes c.mask a) refl)
      t

  below_one : (n : Node) (c' : Context) → Below D c n c' → (Nameless D c.vars n → ⊥) → child_of D c n ≡ c'
  unfolding child_of
  below_one n c' (repeats t e) fit = rw t (sym e)
  below_one n c' (makes t u m v) fit = rw t (same_context (sym u) (sym m) (sym v))
  below_one n c' (compares t e) fit = rw t (sym e)
  below_one n c' (receives k t h u m v) fit = rw (t, kind_at_lem D R c.vars n.f1 k h) (same_context (sym u) (sym m) (sym v))
  below_one n c' (sends t e) fit = rw t (sym e)
  below_one n c' (turns_on t u m v) fit =
      rw t (same_context (sym u) (one_mask _ _ _ (with_adds c.mask n.f1 (is_a_role n t fit)) m) (sym v))
  below_one n c' (turns_off t u m v) fit = rw t (same_context (sym u) (one_mask _ _ _ (without_removes c.mask n.f1) m) (sym v))

  pub child_below : (n : Node) → OneChild n.tag → (Nameless D c.vars n → ⊥) → (c' : Context) → (child_of D c n ≡ c') ↔ Below D c n c'
  child_below n one fit c' =
      (λ e. subst (Below D c n) e (left_below n.tag n.f1 n.f2 one.1 one.0 fit), λ b. below_one n c' b fit)
