-- 22 and 23 are refused exactly for their causes, 23 at the lowest row.
use Prim.Native.Nat.{ℕ, ◌+◌, ◌-◌, ◌*◌, ◌/◌, ◌%◌, ◌≤◌, ◌<◌}
use mathlib.Core.Path.{◌≡◌, refl, sym, ap, ◌∙◌, subst}
use mathlib.Core.Logic.{◌↔◌, ◌⊎◌, inl, inr}
use mathlib.Core.Bool.{Bool, true, false, cond, ◌&&◌, false≢true}
use mathlib.Core.List.{List}
use native.Mathlib.Omega.{arith}
use lib.Dec.{eqb, leb, ltb}
use lib.ListN.{length}
use borrow.Author.Tests.{eqb-true, eqb-false, leb-true, leb-false, ltb-true, ltb-false}
use Rattle.format.specs.Answers.{fine, refused}
use Rattle.format.specs.declared.Verdict.{Verdict}
use Rattle.hours.specs.Hours.{rows, row_at, table_fits, table_answer, TableFits, row_fits, RowFits, rows_answer}
use Rattle.hours.specs.declared.Row.{Row}
use Rattle.hours.proofs.TableLaws.{table_exact, row_iff}
use Rattle.reading_exact.specs.File.{InCount}
use Rattle.reading_exact.specs.Order.{Order, First}
use Rattle.reading_exact.specs.Refusals.{reading_order}
use Rattle.reading_exact.proofs.FirstLaws.{number_of, lowest, first_zero, first_clear, first-map, Unfit, first-of}
use Rattle.hours_exact.specs.OpenFile.{RowsFit}
use Rattle.hours_exact.specs.HourFaults.{TableFault, past_the_week, torn, too_many, RowFault, no_role, no_minute, past_the_end}

-- 22
module _ (t : List ℕ) (m : ℕ) where
  abbrev pub TableCause : ℕ → ℕ → Type 0
  TableCause n p = (n ≡ 22) × ((p ≡ 0) × TableFault t m)

  fits_fault : TableFits t m → TableFault t m → ⊥
  fits_fault (whole, few, week) (past_the_week l) = omega (arith, week, l)
  fits_fault (whole, few, week) (torn never) = never (rows t) whole
  fits_fault (whole, few, week) (too_many k e l) = omega (arith, few, e, l)

  fault_of : table_fits t m ≡ false → TableFault t m
  fault_of h = go (leb m 10079) refl (eqb (length t % 3) 0) refl (leb (length t / 3) 64) refl h
    where
      go : (a : Bool) → leb m 10079 ≡ a → (b : Bool) → eqb (length t % 3) 0 ≡ b → (c : Bool) → leb (length t / 3) 64 ≡ c → (b && c && a) ≡ false → TableFault t m
      go false e b i c j h = past_the_week (leb-false m 10079 e)
      go true e false i c j h = torn (λ k q. omega (arith, eqb-false (length t % 3) 0 i, q))
      go true e true i false j h = too_many (length t / 3) (omega (arith, eqb-true (length t % 3) 0 i)) (leb-false (length t / 3) 64 j)
      go true e true i true j h = absurd (false≢true (sym h))

  pub table_first : (o : Order) → First o TableCause (table_answer t m)
  unfolding table_answer
  table_first o = go (table_fits t m) refl
    where
      go : (b : Bool) → table_fits t m ≡ b → First o TableCause (cond b fine (refused 22 0))
      go true e = inl (refl, λ n p (a, (z, h)). fits_fault ((table_exact t m).0 (rw e)) h)
      go false e = inr (22, 0, refl, ((refl, (refl, fault_of e)), λ k q (a, (z, h)). lowest o 22 0 k q (sym a) (omega arith)))

  pub table_fine : (table_answer t m ≡ fine) ↔ TableFits t m
  table_fine = (
    λ e. (table_exact t m).0 (number_of e),
    λ fits. first_clear reading_order TableCause (table_answer t m) (table_first reading_order) (λ n p (a, (z, h)). fits_fault fits h),
  )

  pub table_zero : (table_answer t m).number ≡ 0 → table_answer t m ≡ fine
  table_zero z = table_fine.1 ((table_exact t m).0 z)

-- 23
module _ (roles : ℕ) (t : List ℕ) where
  abbrev pub RowCause : ℕ → ℕ → Type 0
  RowCause n p = (n ≡ 23) × RowFault roles t p

  abbrev fits : ℕ → Bool
  fits n = row_fits roles (row_at t (n - 1))

  abbrev Misfit : ℕ → ℕ → Type 0
  Misfit = Unfit fits 23 (λ n. n) 1 (rows t)

  row_fault : (p : ℕ) → InCount (rows t) p → fits p ≡ false → RowFault roles t p
  row_fault p c h = go (ltb 0 r.role) refl (leb r.role roles) refl (ltb r.first r.end) refl (leb r.end 10080) refl h
    where
      r : Row
      r = row_at t (p - 1)

      go : (w : Bool) → ltb 0 r.role ≡ w → (x : Bool) → leb r.role roles ≡ x → (y : Bool) → ltb r.first r.end ≡ y → (z : Bool) → leb r.end 10080 ≡ z
          → (w && x && y && z) ≡ false → RowFault roles t p
      go false e x i y j z k h = no_role c (λ (a, b). omega (arith, ltb-false 0 r.role e, a))
      go true e false i y j z k h = no_role c (λ (a, b). omega (arith, leb-false r.role roles i, b))
      go true e true i false j z k h = no_minute c (ltb-false r.first r.end j)
      go true e true i true j false k h = past_the_end c (leb-false r.end 10080 k)
      go true e true i true j true k h = absurd (false≢true (sym h))

  misfit : (p : ℕ) → (RowFits roles (row_at t (p - 1)) → ⊥) → InCount (rows t) p → Misfit 23 p
  misfit p never c = (refl, p, c.0, omega (arith, c.1), go (fits p) refl, refl)
    where
      go : (b : Bool) → fits p ≡ b → fits p ≡ false
      go true e = absurd (never ((row_iff roles (row_at t (p - 1))).0 e))
      go false e = e

  fault_row : (p : ℕ) → RowFault roles t p → Misfit 23 p
  fault_row p (no_role c never) = misfit p (λ (a, b, d, e). never (a, b)) c
  fault_row p (no_minute c l) = misfit p (λ (a, b, d, e). omega (arith, l, d)) c
  fault_row p (past_the_end c l) = misfit p (λ (a, b, d, e). omega (arith, l, e)) c

  pub rows_first : (o : Order) → First o RowCause (rows_answer roles t)
  unfolding rows_answer
  rows_first o =
      first-map o Misfit RowCause _ (λ n p (a, x, l, k, h, z). (a, subst (RowFault roles t) (sym z) (row_fault x (l, omega (arith, k)) h)))
      (λ n p (a, h). subst (λ (k : ℕ). Misfit k p) (sym a) (fault_row p h)) (first-of o fits 23 (λ n. n) (λ x y l. l) 1 (rows t))

  pub rows_fine : (rows_answer roles t ≡ fine) ↔ RowsFit roles t
  rows_fine = (
    λ e i l. sure (first_zero reading_order RowCause (rows_answer roles t) (λ n p h. omega (arith, h.0)) (rows_first reading_order) (number_of e)).1 i l,
    λ all. first_clear reading_order RowCause (rows_answer roles t) (rows_first reading_order) (λ n p (a, h). never all p h),
  )
    where
      never : RowsFit roles t → (p : ℕ) → RowFault roles t p → ⊥
      never all p h = let (a, x, l, k, f, z) = fault_row p h in false≢true (sym f ∙ (row_iff roles (row_at t (x - 1))).1 (all (x - 1) (omega (arith, l, k))))

      sure : ((n p : ℕ) → RowCause n p → ⊥) → (i : ℕ) → i < rows t → RowFits roles (row_at t i)
      sure none i l = go (row_fits roles (row_at t i)) refl
        where
          go : (b : Bool) → row_fits roles (row_at t i) ≡ b → RowFits roles (row_at t i)
          go true e = (row_iff roles (row_at t i)).0 e
          go false e =
              let z : i + 1 - 1 ≡ i = omega arith in
              absurd (none 23 (i + 1) (refl, row_fault (i + 1) (omega arith, omega (arith, l)) (ap (λ (j : ℕ). row_fits roles (row_at t j)) z ∙ e)))

  pub rows_zero : (rows_answer roles t).number ≡ 0 → rows_answer roles t ≡ fine
  rows_zero z = (first_zero reading_order RowCause (rows_answer roles t) (λ n p h. omega (arith, h.0)) (rows_first reading_order) z).0
