-- Rule 6 as a test of masks says that an active role permits.
use Prim.Native.Nat.{ℕ, zero, suc, ◌≤◌}
use mathlib.Core.Path.{◌≡◌, refl, sym, ap, ◌∙◌}
use mathlib.Core.Logic.{◌↔◌}
use mathlib.Core.Bool.{Bool, true, false, cond, not, ◌&&◌, false≢true, and-eq-true_iff}
use mathlib.Core.List.{List}
use native.Mathlib.Omega.{arith}
use lib.Bits.{bit_and}
use lib.Dec.{eqb}
use lib.ListN.{get_or}
use borrow.Author.Tests.{eqb-true, eqb-false}
use Rattle.masks.specs.Mask.{has, with}
use Rattle.masks.specs.declared.ChannelKind.{ChannelKind}
use Rattle.masks.proofs.Laws.{has_none, has_with, has_and, has_pos}
use Rattle.masks.proofs.Meets.{meets_iff}
use Rattle.rules.specs.declared.Way.{Way}
use Rattle.rules.specs.Schema.{Schema, permits, permitting_to, permitting, Permitted, ThosePermitting}
use Rattle.rules.specs.Rules.{able}
use Rattle.rules.specs.Kept.{Granting}

module _ (D : Schema) (w : Way) (k : ChannelKind) where
  -- one of the roles 1 to n, and it permits
  abbrev Permits : ℕ → ℕ → Type 0
  Permits n r = ((1 ≤ r) × (r ≤ n)) × (permits D w (record { 0 = r }) k ≡ true)

  pub permitting_iff : (n r : ℕ) → (has (permitting_to D w k n) r ≡ true) ↔ Permits n r
  unfolding permitting_to
  permitting_iff zero r = (λ h. absurd (false≢true (sym (has_none r) ∙ h)), λ h. let no : ⊥ = omega arith in absurd no)
  permitting_iff (suc n) r = go (permits D w (record { 0 = suc n }) k) refl (permitting_iff n r) (eqb r (suc n)) refl
    where
      go : (b : Bool) → permits D w (record { 0 = suc n }) k ≡ b → (has (permitting_to D w k n) r ≡ true) ↔ Permits n r → (c : Bool) → eqb r (suc n) ≡ c
          → (has (cond b (with (permitting_to D w k n) (suc n)) (permitting_to D w k n)) r ≡ true) ↔ Permits (suc n) r
      go true p ih true e =
          let z : r ≡ suc n = eqb-true r (suc n) e in
          let q : permits D w (record { 0 = r }) k ≡ true = ap (λ (x : ℕ). permits D w (record { 0 = x }) k) z ∙ p in
          (λ h. ((omega arith, omega arith), q), λ h. has_with (permitting_to D w k n) (suc n) r (omega arith) ∙ rw e)
      go true p ih false e =
          let z = eqb-false r (suc n) e in
          let same : has (with (permitting_to D w k n) (suc n)) r ≡ has (permitting_to D w k n) r = has_with (permitting_to D w k n) (suc n) r (omega arith) ∙ rw e in
          (λ h. let (c, q) = ih.0 (sym same ∙ h) in ((c.0, omega arith), q), λ (c, q). same ∙ ih.1 ((c.0, omega arith), q))
      go false p ih true e =
          let z : r ≡ suc n = eqb-true r (suc n) e in
          let q : permits D w (record { 0 = r }) k ≡ false = ap (λ (x : ℕ). permits D w (record { 0 = x }) k) z ∙ p in
          (λ h. let ((a, b), q') = ih.0 h in ((a, omega arith), q'), λ (c, q'). absurd (false≢true (sym q ∙ q')))
      go false p ih false e =
          let z = eqb-false r (suc n) e in
          (λ h. let ((a, b), q) = ih.0 h in ((a, omega arith), q), λ (c, q). ih.1 ((c.0, omega arith), q))

pub able_iff : (D : Schema) (m : ℕ) (w : Way) (k : ℕ) → (able D m w k ≡ true) ↔ Permitted D m w k
unfolding able
able_iff D m w k = (to, back)
  where
    to : not (eqb (bit_and m (permitting D w k)) 0) ≡ true → Permitted D m w k
    to h =
        let (r, a, b) = (meets_iff m (permitting D w k)).0 h in
        let (c, q) = (permitting_iff D w (record { 0 = k }) D.roles r).0 b in
        (r, c, a, q)

    back : Permitted D m w k → not (eqb (bit_and m (permitting D w k)) 0) ≡ true
    back (r, c, a, q) = (meets_iff m (permitting D w k)).1 (r, a, (permitting_iff D w (record { 0 = k }) D.roles r).1 (c, q))

-- what a look into a table of grants says
module _ (D : Schema) (w : Way) (l : List ℕ) (m : ℕ) (k : ChannelKind) (its : Granting D w l) where
  pub those_permitting : (r : ℕ) → r ≡ bit_and m (get_or l k.0 0) → ThosePermitting D w m k r
  those_permitting r e x =
      let same : has r x.0 ≡ (has m x.0 && has (permitting D w k.0) x.0) =
      ap (λ (z : ℕ). has z x.0) (e ∙ ap (bit_and m) (its k.0)) ∙ has_and m (permitting D w k.0) x.0 in
      let is = permitting_iff D w k D.roles x.0 in (
        λ h. let both = (and-eq-true_iff (has m x.0) (has (permitting D w k.0) x.0)).0 (sym same ∙ h) in let (c, q) = is.0 both.1 in (c.1, both.0, q),
        λ (c, h, q). same ∙ (and-eq-true_iff (has m x.0) (has (permitting D w k.0) x.0)).1 (h, is.1 ((has_pos m x.0 h, c), q)),
      )

  pub may_iff : (b : Bool) → b ≡ not (eqb (bit_and m (get_or l k.0 0)) 0) → (b ≡ true) ↔ Permitted D m w k.0
  unfolding able
  may_iff b e =
      let same : b ≡ able D m w k.0 = e ∙ ap (λ (z : ℕ). not (eqb (bit_and m z) 0)) (its k.0) in
      (λ h. (able_iff D m w k.0).0 (sym same ∙ h), λ h. same ∙ (able_iff D m w k.0).1 h)
