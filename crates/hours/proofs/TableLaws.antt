-- 22 refuses nothing exactly where the table has whole rows, at most 64, and the minute is one of the week.
use mathlib.Core.Path.{◌≡◌, refl}
use mathlib.Core.Logic.{◌↔◌}
use mathlib.Core.Bool.{Bool, true, false, cond, ◌&&◌, and-eq-true_iff}
use mathlib.Core.List.{List}
use Prim.Native.Nat.{ℕ, ◌/◌, ◌%◌}
use native.Mathlib.Omega.{arith}
use lib.ListN.{length}
use lib.Dec.{eqb, leb, ltb}
use borrow.Author.Tests.{eqb-true, eq-eqb, leb-true, le-leb, ltb-true, lt-ltb}
use Rattle.format.specs.Answers.{fine, refused}
use Rattle.format.proofs.AnswerLaws.{NoRefusal}
use Rattle.hours.specs.Hours.{table_fits, table_answer, TableFits, row_fits, RowFits}
use Rattle.hours.specs.declared.Row.{Row}

pub table_exact : (t : List ℕ) (m : ℕ) → NoRefusal (table_answer t m) ↔ TableFits t m
unfolding table_answer
table_exact t m = (to (table_fits t m) refl, back)
  where
    to : (b : Bool) → table_fits t m ≡ b → NoRefusal (cond b fine (refused 22 0)) → TableFits t m
    to true e h =
        let two = (and-eq-true_iff (eqb (length t % 3) 0 && leb (length t / 3) 64) (leb m 10079)).0 e in
        let one = (and-eq-true_iff (eqb (length t % 3) 0) (leb (length t / 3) 64)).0 two.0 in
        let whole = eqb-true (length t % 3) 0 one.0 in
        (omega arith, leb-true (length t / 3) 64 one.1, leb-true m 10079 two.1)
    to false e h = absurd (omega arith)

    back : TableFits t m → NoRefusal (cond (table_fits t m) fine (refused 22 0))
    back (w, n, l) =
        let whole : length t % 3 ≡ 0 = omega arith in
        rw (eq-eqb (length t % 3) 0 whole, le-leb (length t / 3) 64 n, le-leb m 10079 l)

-- a row, as 23 tests it and in words
pub row_iff : (roles : ℕ) (r : Row) → (row_fits roles r ≡ true) ↔ RowFits roles r
row_iff roles r = (to, back)
  where
    to : row_fits roles r ≡ true → RowFits roles r
    to h =
        let c = (and-eq-true_iff (ltb 0 r.role && leb r.role roles && ltb r.first r.end) (leb r.end 10080)).0 h in
        let b = (and-eq-true_iff (ltb 0 r.role && leb r.role roles) (ltb r.first r.end)).0 c.0 in
        let a = (and-eq-true_iff (ltb 0 r.role) (leb r.role roles)).0 b.0 in
        (ltb-true 0 r.role a.0, leb-true r.role roles a.1, ltb-true r.first r.end b.1, leb-true r.end 10080 c.1)

    back : RowFits roles r → row_fits roles r ≡ true
    back (a, b, c, d) = rw (lt-ltb 0 r.role a, le-leb r.role roles b, lt-ltb r.first r.end c, le-leb r.end 10080 d)
