-- Opening hours: a table of rows, three words each: a role, and the first and the end minute of the week in which it is open, counted from Monday 00:00.
use Rattle.std.specs.Prelude.{ℕ, zero, suc, ◌+◌, ◌-◌, ◌*◌, ◌/◌, ◌%◌, ◌≤◌, ◌<◌, ◌≡◌, ◌⊎◌, Bool, true, cond, ◌&&◌, List, length, get_or, eqb, leb, ltb}
use Rattle.masks.specs.Mask.{with, minus}
use Rattle.format.specs.Answers.{fine, refused, first_of}
use Rattle.format.specs.declared.Verdict.{Verdict}
use Rattle.hours.specs.declared.Row.{Row}

abbrev pub rows : List ℕ → ℕ
rows t = length t / 3

-- row i, the first being row 0
abbrev pub row_at : List ℕ → ℕ → Row
row_at t i = record { role = get_or t (3 * i) 0; first = get_or t (3 * i + 1) 0; end = get_or t (3 * i + 2) 0 }

-- 22: not of whole rows, over 64 rows, or a minute above 10,079
abbrev pub table_fits : List ℕ → ℕ → Bool
table_fits t m = eqb (length t % 3) 0 && leb (length t / 3) 64 && leb m 10079

unfoldable pub table_answer : List ℕ → ℕ → Verdict
table_answer t m = cond (table_fits t m) fine (refused 22 0)

-- 23: the first row with no such role, first not below end, or end above 10,080; its place is the row, from 1
abbrev pub row_fits : ℕ → Row → Bool
row_fits roles r = ltb 0 r.role && leb r.role roles && ltb r.first r.end && leb r.end 10080

unfoldable pub rows_answer : ℕ → List ℕ → Verdict
rows_answer roles t = first_of (λ n. row_fits roles (row_at t (n - 1))) (λ n. refused 23 n) 1 (rows t)

-- the row's hours contain the minute
abbrev pub contains : ℕ → Row → Bool
contains m r = leb r.first m && ltb m r.end

-- a role that a mask of 16 bits can have is put in
abbrev pub put : ℕ → ℕ → ℕ
put m x = cond (leb x 16) (with m x) m

-- the roles of those rows, of the first k, that pass a test
unfoldable pub roles_of : List ℕ → (Row → Bool) → ℕ → ℕ
roles_of t p zero = 0
roles_of t p (suc k) = cond (p (row_at t k)) (put (roles_of t p k) (row_at t k).role) (roles_of t p k)

abbrev pub any_row : Row → Bool
any_row r = true

-- the roles that are shut: those with rows, without those with a row that contains the minute
unfoldable pub shut : List ℕ → ℕ → ℕ
shut t m = minus (roles_of t any_row (rows t)) (roles_of t (contains m) (rows t))

-- The same in words.

-- whole rows, at most 64, and a minute of the week
abbrev pub TableFits : List ℕ → ℕ → Type 0
TableFits t m = (length t ≡ 3 * rows t) × (rows t ≤ 64) × (m ≤ 10079)

abbrev pub RowFits : ℕ → Row → Type 0
RowFits roles r = (1 ≤ r.role) × (r.role ≤ roles) × (r.first < r.end) × (r.end ≤ 10080)

-- a role has rows; it has a row with first ≤ m and m < end
abbrev pub HasRows : List ℕ → ℕ → Type 0
HasRows t r = (i : ℕ) × (i < rows t) × ((row_at t i).role ≡ r)

abbrev pub HasHour : List ℕ → ℕ → ℕ → Type 0
HasHour t m r = (i : ℕ) × (i < rows t) × ((row_at t i).role ≡ r) × ((row_at t i).first ≤ m) × (m < (row_at t i).end)

-- "A role is open at minute m if some row has first ≤ m and m < end. A role without rows is always open."
abbrev pub Open : List ℕ → ℕ → ℕ → Type 0
Open t m r = HasHour t m r ⊎ (HasRows t r → ⊥)
