-- The tests of 9 and 10 at one node say what these refusals object to there.
use Prim.Native.Nat.{ℕ, zero, suc, ◌≤◌}
use mathlib.Core.Path.{◌≡◌, refl, sym, ap, ◌∙◌}
use mathlib.Core.Logic.{◌↔◌, ◌⊎◌, inl, inr}
use mathlib.Core.Bool.{Bool, true, false, cond, ◌&&◌, true≢false, false≢true, not-eq-not, and-eq-true_iff}
use mathlib.Core.List.{List}
use native.Mathlib.Omega.{arith}
use lib.Dec.{eqb, ltb}
use borrow.Author.Tests.{eqb-false, ne_eqb, ltb-false}
use Rattle.format.specs.Contents.{in_count}
use Rattle.format.specs.declared.Node.{Node}
use Rattle.format.proofs.BoolLaws.{and_fails}
use Rattle.format.proofs.ContentsLaws.{in_count_iff}
use Rattle.rules.specs.Schema.{Schema}
use Rattle.rules.specs.Names.{Bound, named, kind_of, mine}
use Rattle.rules.specs.Rules.{Context, names_fit, kinds_fit, wrong}
use Rattle.reading_exact.specs.Tree.{words}
use Rattle.reading_exact.specs.File.{InCount}
use Rattle.checking_exact.specs.Typing.{HasKind, Receivable}
use Rattle.checking_exact.specs.Faults.{Nothing, Nameless, new_kind, compared, received, sent, on_role, off_role, Mismatched, plain_channel, not_carried, not_owned, unlike}
use Rattle.checking_exact.specs.Faults.{Fault, nameless, mismatched, not_assigned, not_active, cannot_receive, cannot_send}
use Rattle.checking_exact.proofs.OperandKinds.{Ranged, mine_iff, kind_at_lem, named_kind, kind_named}

-- a node's tag is one of nine
pub by_tag : (P : ℕ → Type 0) → P 0 → P 1 → P 2 → P 3 → P 4 → P 5 → P 6 → P 7 → P 8 → (t : ℕ) → t ≤ 8 → P t
by_tag P a b c d e f g h i zero l = a
by_tag P a b c d e f g h i (suc zero) l = b
by_tag P a b c d e f g h i (suc (suc zero)) l = c
by_tag P a b c d e f g h i (suc (suc (suc zero))) l = d
by_tag P a b c d e f g h i (suc (suc (suc (suc zero)))) l = e
by_tag P a b c d e f g h i (suc (suc (suc (suc (suc zero))))) l = f
by_tag P a b c d e f g h i (suc (suc (suc (suc (suc (suc zero)))))) l = g
by_tag P a b c d e f g h i (suc (suc (suc (suc (suc (suc (suc zero))))))) l = h
by_tag P a b c d e f g h i (suc (suc (suc (suc (suc (suc (suc (suc zero)))))))) l = i
by_tag P a b c d e f g h i (suc (suc (suc (suc (suc (suc (suc (suc (suc t))))))))) l = let never : ⊥ = omega arith in absurd never

-- a test against what it says, where it fails
pub fails_iff : (b : Bool) (P : Type 0) → (b ≡ true) ↔ P → (b ≡ false) ↔ (P → ⊥)
fails_iff b P t = (λ e p. false≢true (sym e ∙ t.1 p), λ h. not-eq-not.0 (λ e. h (t.0 e)))

and_not_left : (a b : Bool) → a ≡ false → (a && b) ≡ false
and_not_left a b e = rw e

and_not_right : (a b : Bool) → b ≡ false → (a && b) ≡ false
and_not_right true b e = e
and_not_right false b e = refl

module _ (D : Schema) (R : Ranged D) (vs : List Bound) where
  pub nothing_iff : (x : ℕ) → (named D vs x ≡ false) ↔ Nothing D vs x
  nothing_iff x =
      (λ e k h. false≢true (sym e ∙ kind_named D R vs x k h), λ h. not-eq-not.0 (λ e. h (kind_of D vs x) (named_kind D R vs x e)))

  out_iff : (n x : ℕ) → (in_count n x ≡ false) ↔ (InCount n x → ⊥)
  out_iff n x = fails_iff (in_count n x) (InCount n x) (in_count_iff n x)

  -- one of two operands names nothing
  pair_iff : (x y : ℕ) → ((named D vs x && named D vs y) ≡ false) ↔ (Nothing D vs x ⊎ Nothing D vs y)
  pair_iff x y = (λ h. and_fails (named D vs x) (named D vs y) h (λ e. inl ((nothing_iff x).0 e)) (λ _ e. inr ((nothing_iff y).0 e)), back)
    where
      back : Nothing D vs x ⊎ Nothing D vs y → (named D vs x && named D vs y) ≡ false
      back (inl h) = and_not_left (named D vs x) (named D vs y) ((nothing_iff x).1 h)
      back (inr h) = and_not_right (named D vs x) (named D vs y) ((nothing_iff y).1 h)

  names_fail : (t a b : ℕ) → t ≤ 8 → names_fit D vs (words t a b) ≡ false → Nameless D vs (words t a b)
  unfolding names_fit
  names_fail t a b =
      by_tag (λ t. names_fit D vs (words t a b) ≡ false → Nameless D vs (words t a b))
      (λ h. absurd (true≢false h))
      (λ h. absurd (true≢false h))
      (λ h. absurd (true≢false h))
      (λ h. new_kind refl ((out_iff D.kinds a).0 h))
      (λ h. compared refl ((pair_iff a b).0 h))
      (λ h. received refl ((nothing_iff a).0 h))
      (λ h. sent refl ((pair_iff a b).0 h))
      (λ h. on_role refl ((out_iff D.roles a).0 h))
      (λ h. off_role refl ((out_iff D.roles a).0 h))
      t

  nameless_fail : (t a b : ℕ) → Nameless D vs (words t a b) → names_fit D vs (words t a b) ≡ false
  unfolding names_fit
  nameless_fail t a b (new_kind e h) = rw e ((out_iff D.kinds a).1 h)
  nameless_fail t a b (compared e h) = rw e ((pair_iff a b).1 h)
  nameless_fail t a b (received e h) = rw e ((nothing_iff a).1 h)
  nameless_fail t a b (sent e h) = rw e ((pair_iff a b).1 h)
  nameless_fail t a b (on_role e h) = rw e ((out_iff D.roles a).1 h)
  nameless_fail t a b (off_role e h) = rw e ((out_iff D.roles a).1 h)

  -- operands that both name something have the kinds computed
  pub both_kinds : (x y : ℕ) → (named D vs x && named D vs y) ≡ true → HasKind D vs x (kind_of D vs x) × HasKind D vs y (kind_of D vs y)
  both_kinds x y h = let (p, q) = (and-eq-true_iff (named D vs x) (named D vs y)).0 h in (named_kind D R vs x p, named_kind D R vs y q)

  both_named : (x y k l : ℕ) → HasKind D vs x k → HasKind D vs y l → (named D vs x && named D vs y) ≡ true
  both_named x y k l p q = (and-eq-true_iff (named D vs x) (named D vs y)).1 (kind_named D R vs x k p, kind_named D R vs y l q)

  module _ (u : ℕ) where
    kinds_fail : (t a b : ℕ) → t ≤ 8 → names_fit D vs (words t a b) ≡ true → kinds_fit D u vs (words t a b) ≡ false → Mismatched D u vs (words t a b)
    unfolding names_fit kinds_fit
    kinds_fail t a b =
        by_tag (λ t. names_fit D vs (words t a b) ≡ true → kinds_fit D u vs (words t a b) ≡ false → Mismatched D u vs (words t a b))
        (λ n h. absurd (true≢false h))
        (λ n h. absurd (true≢false h))
        (λ n h. absurd (true≢false h))
        (λ n h. absurd (true≢false h))
        (λ n h. let (p, q) = both_kinds a b n in unlike (kind_of D vs a) (kind_of D vs b) refl p q (eqb-false (kind_of D vs a) (kind_of D vs b) h))
        (λ n h. not_owned (kind_of D vs a) refl (named_kind D R vs a n) ((fails_iff (mine D u vs a) (Receivable D u vs a) (mine_iff D u vs a)).0 h))
        (λ n h.
        let (p, q) = both_kinds a b n in
        and_fails (ltb 0 (kind_of D vs a)) (eqb (kind_of D vs b) (D.carries (kind_of D vs a))) h
        (λ e. plain_channel (kind_of D vs a) (kind_of D vs b) refl p q (omega (arith, ltb-false 0 (kind_of D vs a) e)))
        (λ _ e. not_carried (kind_of D vs a) (kind_of D vs b) refl p q (eqb-false (kind_of D vs b) (D.carries (kind_of D vs a)) e)))
        (λ n h. absurd (true≢false h))
        (λ n h. absurd (true≢false h))
        t

    mismatched_fail : (t a b : ℕ) → Mismatched D u vs (words t a b) → (names_fit D vs (words t a b) ≡ true) × (kinds_fit D u vs (words t a b) ≡ false)
    unfolding names_fit kinds_fit
    mismatched_fail t a b (plain_channel k l e p q z) =
        let w : kind_of D vs a ≡ 0 = kind_at_lem D R vs a k p ∙ z in
        (rw e (both_named a b k l p q), rw (e, w))
    mismatched_fail t a b (not_carried k l e p q z) =
        let other : kind_of D vs b ≡ D.carries (kind_of D vs a) → ⊥ = (λ w. z (sym (kind_at_lem D R vs b l q) ∙ w ∙ ap D.carries (kind_at_lem D R vs a k p))) in
        let test = ne_eqb (kind_of D vs b) (D.carries (kind_of D vs a)) other in
        (rw e (both_named a b k l p q), rw e (and_not_right (ltb 0 (kind_of D vs a)) (eqb (kind_of D vs b) (D.carries (kind_of D vs a))) test))
    mismatched_fail t a b (not_owned k e p z) =
        (rw e (kind_named D R vs a k p), rw e ((fails_iff (mine D u vs a) (Receivable D u vs a) (mine_iff D u vs a)).1 z))
    mismatched_fail t a b (unlike k l e p q z) = (
      rw e (both_named a b k l p q),
      rw e (ne_eqb (kind_of D vs a) (kind_of D vs b) (λ w. z (sym (kind_at_lem D R vs a k p) ∙ w ∙ kind_at_lem D R vs b l q))),
    )

module _ (D : Schema) (R : Ranged D) (c : Context) where
  -- 9 and 10
  pub wrong_fault : (x : Node) → x.tag ≤ 8 → (wrong D c x ≡ 0 → ⊥) → Fault D c x (wrong D c x) × (wrong D c x ≤ 10)
  unfolding wrong
  wrong_fault x l h = go (names_fit D c.vars x) refl (kinds_fit D c.user c.vars x) refl h
    where
      go : (a : Bool) → names_fit D c.vars x ≡ a → (b : Bool) → kinds_fit D c.user c.vars x ≡ b → (◌≡◌ {A = ℕ} (cond a (cond b 0 10) 9) 0 → ⊥)
          → Fault D c x (cond a (cond b 0 10) 9) × (cond a (cond b 0 10) 9 ≤ 10)
      go true e true g h = absurd (h refl)
      go true e false g h = (mismatched refl (kinds_fail D R c.vars c.user x.tag x.f1 x.f2 l e g), omega arith)
      go false e b g h = (nameless refl (names_fail D R c.vars x.tag x.f1 x.f2 l e), omega arith)

  nameless_wrong : (x : Node) → Nameless D c.vars x → wrong D c x ≡ 9
  unfolding wrong
  nameless_wrong x h = rw (nameless_fail D R c.vars x.tag x.f1 x.f2 h)

  mismatched_wrong : (x : Node) → Mismatched D c.user c.vars x → wrong D c x ≡ 10
  unfolding wrong
  mismatched_wrong x h = let (p, q) = mismatched_fail D R c.vars c.user x.tag x.f1 x.f2 h in rw (p, q)

  pub fault_wrong : (x : Node) (n : ℕ) → Fault D c x n → n ≤ 10 → wrong D c x ≡ n
  fault_wrong x n (nameless e h) l = nameless_wrong x h ∙ sym e
  fault_wrong x n (mismatched e h) l = mismatched_wrong x h ∙ sym e
  fault_wrong x n (not_assigned e t h) l = let never : ⊥ = omega arith in absurd never
  fault_wrong x n (not_active e t h) l = let never : ⊥ = omega arith in absurd never
  fault_wrong x n (cannot_receive k e t p h) l = let never : ⊥ = omega arith in absurd never
  fault_wrong x n (cannot_send k e t p h) l = let never : ⊥ = omega arith in absurd never

  pub names_fit_lem : (x : Node) → wrong D c x ≡ 0 → names_fit D c.vars x ≡ true
  unfolding wrong
  names_fit_lem x h = go (names_fit D c.vars x) refl h
    where
      go : (b : Bool) → names_fit D c.vars x ≡ b → ◌≡◌ {A = ℕ} (cond b (cond (kinds_fit D c.user c.vars x) 0 10) 9) 0 → names_fit D c.vars x ≡ true
      go true e h = e
      go false e h = let never : ⊥ = omega arith in absurd never
