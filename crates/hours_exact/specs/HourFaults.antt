-- What each of 22, 23 and 24 objects to, and where, in the words of the request; and the orders in which they take their turns.
use Rattle.std.specs.Prelude.{ℕ, ◌+◌, ◌*◌, ◌-◌, ◌≤◌, ◌<◌, ◌≡◌, cond, List, eqb, length}
use Rattle.format.specs.Contents.{contents_of}
use Rattle.hours.specs.Hours.{rows, row_at, Open}
use Rattle.reading_exact.specs.File.{InCount}
use Rattle.reading_exact.specs.Order.{Order}
use Rattle.reading_exact.specs.Refusals.{nth}
use Rattle.checking_exact.specs.Faults.{Objection}

-- 22: a minute above 10,079, or a table not of whole rows or with over 64
pub data TableFault (t : List ℕ) (m : ℕ) : Type 0 where
  past_the_week : 10079 < m → TableFault t m
  torn : ((k : ℕ) → length t ≡ 3 * k → ⊥) → TableFault t m
  too_many : (k : ℕ) → length t ≡ 3 * k → 64 < k → TableFault t m

-- 23: a row with no such role, first not below end, or end above 10,080; p is the row, from 1
pub data RowFault (roles : ℕ) (t : List ℕ) (p : ℕ) : Type 0 where
  no_role : InCount (rows t) p → (InCount roles (row_at t (p - 1)).role → ⊥) → RowFault roles t p
  no_minute : InCount (rows t) p → (row_at t (p - 1)).end ≤ (row_at t (p - 1)).first → RowFault roles t p
  past_the_end : InCount (rows t) p → 10080 < (row_at t (p - 1)).end → RowFault roles t p

-- a refusal's number and place hold of a file, a table of hours and a minute
pub data ObjectionAt (f t : List ℕ) (m n p : ℕ) : Type 0 where
  of_table : n ≡ 22 → p ≡ 0 → TableFault t m → ObjectionAt f t m n p
  of_row : n ≡ 23 → RowFault (length (contents_of f).roles) t p → ObjectionAt f t m n p
  -- 1 to 13, as without hours
  without_hours : Objection f n p → ObjectionAt f t m n p
  -- 24: on of a closed role; the place is the node
  on_shut : n ≡ 24 → InCount (length (contents_of f).nodes) p → (nth (contents_of f).nodes p).tag ≡ 7 → InCount (length (contents_of f).roles) (nth (contents_of f).nodes p).f1
      → (Open t m (nth (contents_of f).nodes p).f1 → ⊥) → ObjectionAt f t m n p

-- an order with 22 directly after the first stage, which is 17's, and 23 directly after 8
abbrev pub with_hours : Order → Order
with_hours o = record { stage = λ n. cond (eqb n 22) 1 (cond (eqb n 23) (2 * o.stage 8 + 1) (2 * o.stage n)); turn = o.turn }
