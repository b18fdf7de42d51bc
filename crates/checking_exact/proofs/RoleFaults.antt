-- The tests of 11 to 13 at one node say what these refusals object to there.
use Prim.Native.Nat.{ℕ, ◌≤◌}
use mathlib.Core.Path.{◌≡◌, refl, ap, ◌∙◌}
use mathlib.Core.Bool.{Bool, true, false, cond}
use native.Mathlib.Omega.{arith}
use Rattle.masks.specs.Mask.{has}
use Rattle.format.specs.declared.Node.{Node}
use Rattle.rules.specs.declared.Way.{Way}
use Rattle.rules.specs.declared.Way.TheVariants.{Sends, Receives}
use Rattle.rules.specs.Schema.{Schema, Permitted}
use Rattle.rules.specs.Names.{kind_of}
use Rattle.rules.specs.Rules.{Context, names_fit, able, wrong, barred}
use Rattle.reading_exact.specs.Tree.{words}
use Rattle.checking_exact.specs.Typing.{HasKind}
use Rattle.checking_exact.specs.Faults.{Fault, nameless, mismatched, not_assigned, not_active, cannot_receive, cannot_send}
use Rattle.checking_exact.proofs.NameFaults.{by_tag, fails_iff, both_kinds, names_fit_lem}
use Rattle.rules.proofs.PermittedRoles.{able_iff}
use Rattle.checking_exact.proofs.OperandKinds.{Ranged, kind_at_lem, named_kind}

module _ (D : Schema) (R : Ranged D) (c : Context) where
  -- a test that bars with a number
  barred_by : (b : Bool) (x : Node) (n : ℕ) → (◌≡◌ {A = ℕ} (cond b 0 n) 0 → ⊥) → (b ≡ false → Fault D c x n × (11 ≤ n))
      → Fault D c x (cond b 0 n) × (11 ≤ cond b 0 n)
  barred_by true x n h g = absurd (h refl)
  barred_by false x n h g = g refl

  cannot : (m : ℕ) (w : Way) (k : ℕ) → able D m w k ≡ false → Permitted D m w k → ⊥
  cannot m w k = (fails_iff (able D m w k) (Permitted D m w k) (able_iff D m w k)).0

  -- what barred says at a node whose names fit
  abbrev Refused : ℕ → ℕ → ℕ → Type 0
  Refused t a b =
      names_fit D c.vars (words t a b) ≡ true → (barred D c (words t a b) ≡ 0 → ⊥)
      → Fault D c (words t a b) (barred D c (words t a b)) × (11 ≤ barred D c (words t a b))

  barred-told : (t a b : ℕ) → t ≤ 8 → Refused t a b
  unfolding names_fit barred
  barred-told t a b =
      by_tag (λ t. Refused t a b)
      (λ n h. absurd (h refl))
      (λ n h. absurd (h refl))
      (λ n h. absurd (h refl))
      (λ n h. absurd (h refl))
      (λ n h. absurd (h refl))
      (λ n h. barred_by (able D c.mask Receives (kind_of D c.vars a)) (words 5 a b) 13 h
      (λ e. (cannot_receive (kind_of D c.vars a) refl refl (named_kind D R c.vars a n) (cannot c.mask Receives (kind_of D c.vars a) e), omega arith)))
      (λ n h. barred_by (able D c.mask Sends (kind_of D c.vars a)) (words 6 a b) 13 h
      (λ e. (cannot_send (kind_of D c.vars a) refl refl (both_kinds D R c.vars a b n).0 (cannot c.mask Sends (kind_of D c.vars a) e), omega arith)))
      (λ n h. barred_by (has (D.assigned c.user) a) (words 7 a b) 11 h (λ e. (not_assigned refl refl e, omega arith)))
      (λ n h. barred_by (has c.mask a) (words 8 a b) 12 h (λ e. (not_active refl refl e, omega arith)))
      t

  -- 11 to 13, at a node that meets 9 and 10 clean
  pub barred_fault : (x : Node) → x.tag ≤ 8 → wrong D c x ≡ 0 → (barred D c x ≡ 0 → ⊥) → Fault D c x (barred D c x) × (11 ≤ barred D c x)
  barred_fault x l w = barred-told x.tag x.f1 x.f2 l (names_fit_lem D R c x w)

  cannot_bar : (m : ℕ) (w : Way) (x k : ℕ) → HasKind D c.vars x k → (Permitted D m w k → ⊥) → able D m w (kind_of D c.vars x) ≡ false
  cannot_bar m w x k p h = ap (able D m w) (kind_at_lem D R c.vars x k p) ∙ (fails_iff (able D m w k) (Permitted D m w k) (able_iff D m w k)).1 h

  bars : (t a b n : ℕ) → Fault D c (words t a b) n → 11 ≤ n → barred D c (words t a b) ≡ n
  unfolding barred
  bars t a b n (nameless e h) l = let never : ⊥ = omega arith in absurd never
  bars t a b n (mismatched e h) l = let never : ⊥ = omega arith in absurd never
  bars t a b n (not_assigned e z h) l = rw (z, e, h)
  bars t a b n (not_active e z h) l = rw (z, e, h)
  bars t a b n (cannot_receive k e z p h) l = let f = cannot_bar c.mask Receives a k p h in rw (z, e, f)
  bars t a b n (cannot_send k e z p h) l = let f = cannot_bar c.mask Sends a k p h in rw (z, e, f)

  pub fault_barred : (x : Node) (n : ℕ) → Fault D c x n → 11 ≤ n → barred D c x ≡ n
  fault_barred x n h l = bars x.tag x.f1 x.f2 n h l

-- the numbers of faults
pub fault_number : (D : Schema) (c : Context) (x : Node) (n : ℕ) → Fault D c x n → (9 ≤ n) × (n ≤ 13)
fault_number D c x n (nameless e h) = omega arith
fault_number D c x n (mismatched e h) = omega arith
fault_number D c x n (not_assigned e t h) = omega arith
fault_number D c x n (not_active e t h) = omega arith
fault_number D c x n (cannot_receive k e t p h) = omega arith
fault_number D c x n (cannot_send k e t p h) = omega arith
