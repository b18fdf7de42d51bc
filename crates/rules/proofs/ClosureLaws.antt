-- The effective grants are exactly what the records grant, through any chain of juniors.
use mathlib.Core.Path.{◌≡◌, refl, sym, ap, subst, ◌∙◌}
use mathlib.Core.Logic.{◌↔◌, ◌⊎◌, inl, inr}
use mathlib.Core.Bool.{Bool, true, false, cond, false≢true}
use Prim.Native.Nat.{ℕ, zero, suc, ◌≤◌, ◌<◌}
use native.Mathlib.Omega.{arith}
use lib.Bits.{bit_or, or_zero_r}
use lib.Dec.{eqb}
use borrow.Author.Tests.{eqb-true, eqb-false, ne_eqb}
use Rattle.masks.specs.Mask.{has, NamesOnly}
use Rattle.masks.proofs.Laws.{has_none, has_pos}
use Rattle.masks.proofs.OrLaws.{or_left, or_right, or_split}
use Rattle.rules.specs.Juniors.{Granted, by_own, by_junior, Lower, together, effective}

-- what the roles of a mask have together is what one of them has
pub together_split : (kinds : ℕ → ℕ) (m n x : ℕ) → has (together kinds m n) x ≡ true
    → (s : ℕ) × (s ≤ n) × (has m s ≡ true) × (has (kinds s) x ≡ true)
unfolding together
together_split kinds m zero x h = absurd (false≢true (sym (has_none x) ∙ h))
together_split kinds m (suc n) x h =
    go (together_split kinds m n x) (has m (suc n)) refl (or_split (together kinds m n) (cond (has m (suc n)) (kinds (suc n)) 0) x h)
  where
    go : (has (together kinds m n) x ≡ true → (s : ℕ) × (s ≤ n) × (has m s ≡ true) × (has (kinds s) x ≡ true))
        → (b : Bool) → has m (suc n) ≡ b → (has (together kinds m n) x ≡ true) ⊎ (has (cond b (kinds (suc n)) 0) x ≡ true)
        → (s : ℕ) × (s ≤ suc n) × (has m s ≡ true) × (has (kinds s) x ≡ true)
    go ih b e (inl p) = let (s, l, q, g) = ih p in (s, omega arith, q, g)
    go ih true e (inr p) = (suc n, omega arith, e, p)
    go ih false e (inr p) = absurd (false≢true (sym (has_none x) ∙ p))

pub together_join : (kinds : ℕ → ℕ) (m n x s : ℕ) → s ≤ n → has m s ≡ true → has (kinds s) x ≡ true → has (together kinds m n) x ≡ true
unfolding together
together_join kinds m zero x s l q g = let pos = has_pos m s q in absurd (omega arith)
together_join kinds m (suc n) x s l q g = go (λ l. together_join kinds m n x s l q g) (eqb s (suc n)) refl
  where
    go : (s ≤ n → has (together kinds m n) x ≡ true) → (b : Bool) → eqb s (suc n) ≡ b
        → has (bit_or (together kinds m n) (cond (has m (suc n)) (kinds (suc n)) 0)) x ≡ true
    go ih false e =
        let below : s ≤ n = omega (arith, eqb-false s (suc n) e) in
        or_left (together kinds m n) (cond (has m (suc n)) (kinds (suc n)) 0) x (ih below)
    go ih true e =
        let z : suc n ≡ s = sym (eqb-true s (suc n) e) in
        let top : has (cond (has m (suc n)) (kinds (suc n)) 0) x ≡ true = rw (z, q) g in
        or_right (together kinds m n) (cond (has m (suc n)) (kinds (suc n)) 0) x top

together_none : (kinds : ℕ → ℕ) (n : ℕ) → together kinds 0 n ≡ 0
unfolding together
together_none kinds zero = refl
together_none kinds (suc n) = rw (has_none (suc n), together_none kinds n) (or_zero_r 0)

module _ (own juniors : ℕ → ℕ) where
  -- what role n + 1 has from its juniors
  abbrev pub below : ℕ → ℕ
  below n = together (λ s. effective own juniors n s) (juniors (suc n)) n

  -- a later role doesn't change an earlier one
  pub effective_at : (n i : ℕ) → i < n → effective own juniors n (suc i) ≡ bit_or (own (suc i)) (below i)
  unfolding effective
  effective_at zero i l = absurd (omega arith)
  effective_at (suc n) i l = go (effective_at n i) (eqb (suc i) (suc n)) refl
    where
      go : (i < n → effective own juniors n (suc i) ≡ bit_or (own (suc i)) (below i)) → (b : Bool) → eqb (suc i) (suc n) ≡ b
          → cond b (bit_or (own (suc n)) (below n)) (effective own juniors n (suc i)) ≡ bit_or (own (suc i)) (below i)
      go ih true e = let z : n ≡ i = omega (arith, eqb-true (suc i) (suc n) e) in ap (λ (j : ℕ). bit_or (own (suc j)) (below j)) z
      go ih false e = let less : i < n = omega (arith, eqb-false (suc i) (suc n) e) in ih less

  -- a role that is none of 1 to n has none
  pub effective_out : (n r : ℕ) → n < r → effective own juniors n r ≡ 0
  unfolding effective
  effective_out zero r l = refl
  effective_out (suc n) r l = rw (ne_eqb r (suc n) (λ e. omega arith)) (effective_out n r (omega arith))

  pub effective_none : (n : ℕ) → effective own juniors n 0 ≡ 0
  unfolding effective
  effective_none zero = refl
  effective_none (suc n) = rw (ne_eqb 0 (suc n) (λ e. omega arith)) (effective_none n)

  -- and so it is the same for any count that it is in
  pub effective_any : (n m r : ℕ) → r ≤ n → r ≤ m → effective own juniors n r ≡ effective own juniors m r
  effective_any n m zero l k = effective_none n ∙ sym (effective_none m)
  effective_any n m (suc i) l k = effective_at n i (omega arith) ∙ sym (effective_at m i (omega arith))

  -- they grant nothing that the records don't
  sound : (kind n r : ℕ) → has (effective own juniors n r) kind ≡ true → Granted own juniors kind r
  unfolding effective
  sound kind zero r h = absurd (false≢true (sym (has_none kind) ∙ h))
  sound kind (suc n) r h = go (sound kind n) (eqb r (suc n)) refl h
    where
      top : ((s : ℕ) → has (effective own juniors n s) kind ≡ true → Granted own juniors kind s)
          → (has (own (suc n)) kind ≡ true) ⊎ (has (below n) kind ≡ true) → Granted own juniors kind (suc n)
      top ih (inl p) = by_own p
      top ih (inr p) =
          let (s, l, q, g) = together_split (λ s. effective own juniors n s) (juniors (suc n)) n kind p in
          by_junior s q (ih s g)

      go : ((s : ℕ) → has (effective own juniors n s) kind ≡ true → Granted own juniors kind s) → (b : Bool) → eqb r (suc n) ≡ b
          → has (cond b (bit_or (own (suc n)) (below n)) (effective own juniors n r)) kind ≡ true → Granted own juniors kind r
      go ih true e h =
          subst (λ (x : ℕ). Granted own juniors kind x) (sym (eqb-true r (suc n) e)) (top ih (or_split (own (suc n)) (below n) kind h))
      go ih false e h = ih r h

  -- and all that they do, where juniors have lower numbers
  from_own : (kind n r : ℕ) → 1 ≤ r → r ≤ n → has (own r) kind ≡ true → has (effective own juniors n r) kind ≡ true
  from_own kind n zero pos le h = absurd (omega arith)
  from_own kind n (suc i) pos le h = ap (λ (x : ℕ). has x kind) (effective_at n i (omega arith)) ∙ or_left (own (suc i)) (below i) kind h

  from_junior : (kind n r s : ℕ) → r ≤ n → has (juniors r) s ≡ true → s < r → has (effective own juniors n s) kind ≡ true
      → has (effective own juniors n r) kind ≡ true
  from_junior kind n zero s le q less h = absurd (omega arith)
  from_junior kind n (suc i) s le q less h =
      let its : has (effective own juniors i s) kind ≡ true = ap (λ (x : ℕ). has x kind) (effective_any i n s (omega arith) (omega arith)) ∙ h in
      ap (λ (x : ℕ). has x kind) (effective_at n i (omega arith))
      ∙ or_right (own (suc i)) (below i) kind (together_join (λ s. effective own juniors i s) (juniors (suc i)) i kind s (omega arith) q its)

  complete : (kind n : ℕ) → Lower juniors n → (r : ℕ) → 1 ≤ r → r ≤ n → Granted own juniors kind r → has (effective own juniors n r) kind ≡ true
  complete kind n low r pos le (by_own h) = from_own kind n r pos le h
  complete kind n low r pos le (by_junior s q g) =
      let less = low r pos le s q in
      from_junior kind n r s le q less (complete kind n low s (has_pos (juniors r) s q) (omega arith) g)

  pub closure : (kind n : ℕ) → Lower juniors n → (r : ℕ) → 1 ≤ r → r ≤ n → (has (effective own juniors n r) kind ≡ true) ↔ Granted own juniors kind r
  closure kind n low r pos le = (sound kind n r, complete kind n low r pos le)

  -- a role without juniors has its own record's
  pub own_only : (n r : ℕ) → juniors r ≡ 0 → 1 ≤ r → r ≤ n → effective own juniors n r ≡ own r
  own_only n zero none pos le = absurd (omega arith)
  own_only n (suc i) none pos le =
      effective_at n i (omega arith)
      ∙ ap (λ (m : ℕ). bit_or (own (suc i)) (together (λ s. effective own juniors i s) m i)) none
      ∙ ap (bit_or (own (suc i))) (together_none (λ s. effective own juniors i s) i)
      ∙ or_zero_r (own (suc i))

  -- they name only kinds in count where the records do
  pub names_kept : (kinds n : ℕ) → ((r : ℕ) → 1 ≤ r → r ≤ n → NamesOnly kinds (own r)) → (r : ℕ) → NamesOnly kinds (effective own juniors n r)
  unfolding effective
  names_kept kinds zero names r kind h = absurd (false≢true (sym (has_none kind) ∙ h))
  names_kept kinds (suc n) names r kind h = go (names_kept kinds n (λ s pos le. names s pos (omega arith))) (eqb r (suc n)) h
    where
      top : ((s : ℕ) → NamesOnly kinds (effective own juniors n s)) → (has (own (suc n)) kind ≡ true) ⊎ (has (below n) kind ≡ true) → kind ≤ kinds
      top ih (inl p) = names (suc n) (omega arith) (omega arith) kind p
      top ih (inr p) = let (s, l, q, g) = together_split (λ s. effective own juniors n s) (juniors (suc n)) n kind p in ih s kind g

      go : ((s : ℕ) → NamesOnly kinds (effective own juniors n s)) → (b : Bool)
          → has (cond b (bit_or (own (suc n)) (below n)) (effective own juniors n r)) kind ≡ true → kind ≤ kinds
      go ih true h = top ih (or_split (own (suc n)) (below n) kind h)
      go ih false h = ih r kind h

-- what is granted goes by the records in count
pub granted_same : (own juniors own' juniors' : ℕ → ℕ) (kind n : ℕ) → ((r : ℕ) → 1 ≤ r → r ≤ n → own r ≡ own' r) → ((r : ℕ) → 1 ≤ r → r ≤ n → juniors r ≡ juniors' r)
    → Lower juniors n → (r : ℕ) → 1 ≤ r → r ≤ n → Granted own juniors kind r → Granted own' juniors' kind r
granted_same own juniors own' juniors' kind n eo ej low r pos le (by_own h) = by_own (ap (λ (m : ℕ). has m kind) (sym (eo r pos le)) ∙ h)
granted_same own juniors own' juniors' kind n eo ej low r pos le (by_junior s q g) =
    let less = low r pos le s q in
    by_junior s (ap (λ (m : ℕ). has m s) (sym (ej r pos le)) ∙ q)
    (granted_same own juniors own' juniors' kind n eo ej low s (has_pos (juniors r) s q) (omega arith) g)
