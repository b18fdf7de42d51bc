-- The mask of shut roles says exactly which roles have rows and none that contains the minute.
use mathlib.Core.Path.{◌≡◌, refl, sym, ap, ap₂, ◌∙◌}
use mathlib.Core.Logic.{◌↔◌, inl, inr}
use mathlib.Core.Bool.{Bool, true, false, cond, not, ◌&&◌, ◌||◌, false≢true, and-eq-true_iff, not-eq-not}
use mathlib.Core.List.{List}
use Prim.Native.Nat.{ℕ, zero, suc, ◌≤◌, ◌<◌}
use native.Mathlib.Omega.{arith}
use lib.Dec.{eqb, leb, ltb}
use borrow.Author.Tests.{eqb-true, eqb-false, eq-eqb, ne_eqb, leb-true, leb-false, le-leb, ltb-true, lt-ltb}
use Rattle.masks.specs.Mask.{has, with, minus}
use Rattle.masks.proofs.Laws.{has_none, has_with}
use Rattle.masks.proofs.Minus.{has_minus}
use Rattle.hours.specs.Hours.{rows, row_at, contains, put, roles_of, any_row, shut, HasRows, Open}
use Rattle.hours.specs.declared.Row.{Row}

-- a role put in
has-put : (m x y : ℕ) → 1 ≤ y → y ≤ 16 → has (put m x) y ≡ (eqb y x || has m y)
unfolding with
has-put m zero y pos le = rw (ne_eqb y 0 (λ z. let no : ⊥ = omega (arith, pos, z) in no))
has-put m (suc k) y pos le = go (leb (suc k) 16) refl
  where
    go : (b : Bool) → leb (suc k) 16 ≡ b → has (cond b (with m (suc k)) m) y ≡ (eqb y (suc k) || has m y)
    go true e = has_with m (suc k) y (omega arith)
    go false e = let l = leb-false (suc k) 16 e in rw (ne_eqb y (suc k) (λ z. let no : ⊥ = omega (arith, l, z, le) in no))

-- the roles of the rows that pass a test
module _ (t : List ℕ) (p : Row → Bool) (r : ℕ) (pos : 1 ≤ r) (le : r ≤ 16) where
  abbrev Among : ℕ → Type 0
  Among k = (i : ℕ) × (i < k) × ((row_at t i).role ≡ r) × (p (row_at t i) ≡ true)

  roles_some : (k : ℕ) → has (roles_of t p k) r ≡ true → Among k
  unfolding roles_of
  roles_some zero h = let no : ⊥ = false≢true (sym (has_none r) ∙ h) in absurd no
  roles_some (suc k) h = go (roles_some k) (p (row_at t k)) refl h
    where
      more : Among k → Among (suc k)
      more (i, l, e, q) = (i, omega arith, e, q)

      top : (has (roles_of t p k) r ≡ true → Among k) → p (row_at t k) ≡ true → (b : Bool) → eqb r (row_at t k).role ≡ b
          → (b || has (roles_of t p k) r) ≡ true → Among (suc k)
      top ih e true z h = (k, omega arith, sym (eqb-true r (row_at t k).role z), e)
      top ih e false z h = more (ih h)

      go : (has (roles_of t p k) r ≡ true → Among k) → (b : Bool) → p (row_at t k) ≡ b
          → has (cond b (put (roles_of t p k) (row_at t k).role) (roles_of t p k)) r ≡ true → Among (suc k)
      go ih true e h = top ih e (eqb r (row_at t k).role) refl (sym (has-put (roles_of t p k) (row_at t k).role r pos le) ∙ h)
      go ih false e h = more (ih h)

  or-true : (b : Bool) → (b || true) ≡ true
  or-true true = refl
  or-true false = refl

  roles_all : (k i : ℕ) → i < k → (row_at t i).role ≡ r → p (row_at t i) ≡ true → has (roles_of t p k) r ≡ true
  unfolding roles_of
  roles_all zero i l e q = absurd (omega arith)
  roles_all (suc k) i l e q = go (λ l. roles_all k i l e q) (eqb i k) refl
    where
      later : has (roles_of t p k) r ≡ true → (b : Bool) → has (cond b (put (roles_of t p k) (row_at t k).role) (roles_of t p k)) r ≡ true
      later h true = has-put (roles_of t p k) (row_at t k).role r pos le ∙ ap (λ b. eqb r (row_at t k).role || b) h ∙ or-true (eqb r (row_at t k).role)
      later h false = h

      go : (i < k → has (roles_of t p k) r ≡ true) → (b : Bool) → eqb i k ≡ b
          → has (cond (p (row_at t k)) (put (roles_of t p k) (row_at t k).role) (roles_of t p k)) r ≡ true
      go ih true z =
          let ik = eqb-true i k z in
          let yes : p (row_at t k) ≡ true = ap (λ (j : ℕ). p (row_at t j)) (sym ik) ∙ q in
          let its : r ≡ (row_at t k).role = sym e ∙ ap (λ (j : ℕ). (row_at t j).role) ik in
          ap (λ b. has (cond b (put (roles_of t p k) (row_at t k).role) (roles_of t p k)) r) yes
          ∙ has-put (roles_of t p k) (row_at t k).role r pos le
          ∙ ap (λ b. b || has (roles_of t p k) r) (eq-eqb r (row_at t k).role its)
      go ih false z = let below : i < k = omega (arith, eqb-false i k z) in later (ih below) (p (row_at t k))

and-false : (b : Bool) → (b && false) ≡ false
and-false true = refl
and-false false = refl

-- a row's hours, as a test and in words
pub contains_iff : (m : ℕ) (r : Row) → (contains m r ≡ true) ↔ ((r.first ≤ m) × (m < r.end))
contains_iff m r =
    (λ h. let both = (and-eq-true_iff (leb r.first m) (ltb m r.end)).0 h in (leb-true r.first m both.0, ltb-true m r.end both.1), λ h. (and-eq-true_iff (leb r.first m) (ltb m r.end)).1 (le-leb r.first m h.0, lt-ltb m r.end h.1))

module _ (t : List ℕ) (m r : ℕ) (pos : 1 ≤ r) (le : r ≤ 16) where
  -- shut exactly where some row names the role and no row of it contains the minute
  pub shut_exactly : (has (shut t m) r ≡ true) ↔ (HasRows t r × ((i : ℕ) → i < rows t → (row_at t i).role ≡ r → contains m (row_at t i) ≡ false))
  unfolding shut
  shut_exactly = (to, back)
    where
      to : has (minus (roles_of t any_row (rows t)) (roles_of t (contains m) (rows t))) r ≡ true
          → HasRows t r × ((i : ℕ) → i < rows t → (row_at t i).role ≡ r → contains m (row_at t i) ≡ false)
      to h =
          let both = (and-eq-true_iff (has (roles_of t any_row (rows t)) r) (not (has (roles_of t (contains m) (rows t)) r))).0
          (sym (has_minus (roles_of t any_row (rows t)) (roles_of t (contains m) (rows t)) r) ∙ h) in
          let s = roles_some t any_row r pos le (rows t) both.0 in
          ((s.0, s.1, s.2), λ i l e. not-eq-not.0 (λ q. false≢true (sym (ap not (roles_all t (contains m) r pos le (rows t) i l e q)) ∙ both.1)))

      back : HasRows t r × ((i : ℕ) → i < rows t → (row_at t i).role ≡ r → contains m (row_at t i) ≡ false)
          → has (minus (roles_of t any_row (rows t)) (roles_of t (contains m) (rows t))) r ≡ true
      back ((i, l, e), none) =
          let off : has (roles_of t (contains m) (rows t)) r ≡ false = not-eq-not.0 (λ q.
          let s = roles_some t (contains m) r pos le (rows t) q in false≢true (sym (none s.0 s.1 s.2) ∙ s.3)) in
          has_minus (roles_of t any_row (rows t)) (roles_of t (contains m) (rows t)) r
          ∙ ap₂ (λ (a b : Bool). a && not b) (roles_all t any_row r pos le (rows t) i l e refl) off

  -- and open as the request has it: some row with first ≤ m and m < end, or no row at all
  pub open_exactly : (has (shut t m) r ≡ false) ↔ Open t m r
  unfolding shut
  open_exactly = (
    λ h. to (has (roles_of t any_row (rows t)) r) refl (has (roles_of t (contains m) (rows t)) r) refl
        (sym (has_minus (roles_of t any_row (rows t)) (roles_of t (contains m) (rows t)) r) ∙ h),
    back,
  )
    where
      to : (a : Bool) → has (roles_of t any_row (rows t)) r ≡ a → (b : Bool) → has (roles_of t (contains m) (rows t)) r ≡ b
          → (has (roles_of t any_row (rows t)) r && not (has (roles_of t (contains m) (rows t)) r)) ≡ false → Open t m r
      to a ea true eb h =
          let s = roles_some t (contains m) r pos le (rows t) eb in
          let w = (contains_iff m (row_at t s.0)).0 s.3 in
          inl (s.0, s.1, s.2, w.0, w.1)
      to false ea false eb h = inr (λ n. false≢true (sym ea ∙ roles_all t any_row r pos le (rows t) n.0 n.1 n.2 refl))
      to true ea false eb h = let no : ⊥ = false≢true (sym h ∙ ap₂ (λ (a b : Bool). a && not b) ea eb) in absurd no

      back : Open t m r → has (minus (roles_of t any_row (rows t)) (roles_of t (contains m) (rows t))) r ≡ false
      back (inr none) =
          let off : has (roles_of t any_row (rows t)) r ≡ false = not-eq-not.0 (λ q. let s = roles_some t any_row r pos le (rows t) q in none (s.0, s.1, s.2)) in
          has_minus (roles_of t any_row (rows t)) (roles_of t (contains m) (rows t)) r ∙ ap (λ a. a && not (has (roles_of t (contains m) (rows t)) r)) off
      back (inl (i, l, e, f, u)) =
          let on = roles_all t (contains m) r pos le (rows t) i l e ((contains_iff m (row_at t i)).1 (f, u)) in
          has_minus (roles_of t any_row (rows t)) (roles_of t (contains m) (rows t)) r
          ∙ ap (λ b. has (roles_of t any_row (rows t)) r && not b) on ∙ and-false (has (roles_of t any_row (rows t)) r)

-- a mask of 16 bits has no role above 16
put_most : (m x r : ℕ) → (has m r ≡ true → r ≤ 16) → has (put m x) r ≡ true → r ≤ 16
unfolding with
put_most m zero r most h = most h
put_most m (suc k) r most h = go (leb (suc k) 16) refl h
  where
    item : suc k ≤ 16 → (b : Bool) → eqb r (suc k) ≡ b → (b || has m r) ≡ true → r ≤ 16
    item l true e h = omega (arith, eqb-true r (suc k) e, l)
    item l false e h = most h

    go : (b : Bool) → leb (suc k) 16 ≡ b → has (cond b (with m (suc k)) m) r ≡ true → r ≤ 16
    go true e h = item (leb-true (suc k) 16 e) (eqb r (suc k)) refl (sym (has_with m (suc k) r (omega arith)) ∙ h)
    go false e h = most h

roles_most : (t : List ℕ) (p : Row → Bool) (k r : ℕ) → has (roles_of t p k) r ≡ true → r ≤ 16
unfolding roles_of
roles_most t p zero r h = let no : ⊥ = false≢true (sym (has_none r) ∙ h) in absurd no
roles_most t p (suc k) r h = go (p (row_at t k)) (roles_most t p k r) h
  where
    go : (b : Bool) → (has (roles_of t p k) r ≡ true → r ≤ 16) → has (cond b (put (roles_of t p k) (row_at t k).role) (roles_of t p k)) r ≡ true → r ≤ 16
    go true more h = put_most (roles_of t p k) (row_at t k).role r more h
    go false more h = more h

pub shut_most : (t : List ℕ) (m r : ℕ) → has (shut t m) r ≡ true → r ≤ 16
unfolding shut
shut_most t m r h =
    let both = (and-eq-true_iff (has (roles_of t any_row (rows t)) r) (not (has (roles_of t (contains m) (rows t)) r))).0
    (sym (has_minus (roles_of t any_row (rows t)) (roles_of t (contains m) (rows t)) r) ∙ h) in
    roles_most t any_row (rows t) r both.0
