-- A row fits exactly if the test says so.
use Prim.Native.Nat.{ℕ, zero, suc, ◌+◌, ◌*◌, ◌-◌, ◌≤◌, ◌<◌}
use mathlib.Core.Path.{◌≡◌, refl, sym, ap, ◌∙◌}
use mathlib.Core.Logic.{◌↔◌}
use mathlib.Core.Bool.{Bool, true, ◌&&◌, and-eq-true_iff}
use mathlib.Core.List.{List}
use native.Mathlib.Omega.{arith}
use lib.Dec.{leb}
use lib.ListN.{length, get_or}
use borrow.Author.Tests.{leb-true, le-leb}
use Rattle.rows.specs.Rows.{lines_from, LinesFit, RowFits}
use Rattle.rows.specs.Fits.{lines_fit, front_fits, row_fits}

module _ (s : List ℕ) where
  -- one line more
  pub line_more : (on roles r n : ℕ) → r < roles → n ≡ get_or s on 0
      → lines_fit s on (roles - r) ≡ ((leb (on + 1 + n) (length s) && leb n 32) && lines_fit s (on + 1 + n) (roles - (r + 1)))
  unfolding lines_fit
  line_more on roles r n lt is =
      let some : roles - r ≡ suc (roles - (r + 1)) = omega (arith, lt) in
      ap (lines_fit s on) some
      ∙ sym (ap (λ (m : ℕ). (leb (on + 1 + m) (length s) && leb m 32) && lines_fit s (on + 1 + m) (roles - (r + 1))) is)

  pub lines_over : (on roles r : ℕ) → roles ≤ r → true ≡ lines_fit s on (roles - r)
  unfolding lines_fit
  lines_over on roles r le = let none : roles - r ≡ 0 = omega (arith, le) in sym (ap (lines_fit s on) none)

  lines_fit_iff : (p k : ℕ) → (lines_fit s p k ≡ true) ↔ LinesFit s p k
  unfolding lines_fit
  lines_fit_iff p zero = ((λ e. tt), λ u. refl)
  lines_fit_iff p (suc k) =
      let n : ℕ = get_or s p 0 in
      let whole = and-eq-true_iff (leb (p + 1 + n) (length s) && leb n 32) (lines_fit s (p + 1 + n) k) in
      let here = and-eq-true_iff (leb (p + 1 + n) (length s)) (leb n 32) in
      let rest = lines_fit_iff (p + 1 + n) k in (
        (λ e. let (a, b) = whole.0 e in let (c, d) = here.0 a in (leb-true (p + 1 + n) (length s) c, leb-true n 32 d, rest.0 b)),
        λ (a, b, c). whole.1 (here.1 (le-leb (p + 1 + n) (length s) a, le-leb n 32 b), rest.1 c),
      )

-- by the numbers that code reads
pub row_by_parts : (roles : ℕ) (s : List ℕ) (p n m on : ℕ) → n ≡ get_or s p 0 → m ≡ get_or s (p + 1) 0 → on ≡ p + 2 + 2 * m + 12 * n + n
    → (b : Bool) → (leb n 64 && leb m 64 && leb on (length s)) ≡ b → (b && lines_fit s on roles) ≡ row_fits roles s p
row_by_parts roles s p n m on en em eo b e =
    let place : on ≡ lines_from s p = omega (arith, en, em, eo) in
    ap (λ (x : Bool). x && lines_fit s on roles) (sym e)
    ∙ (λ i. (leb (en i) 64 && leb (em i) 64 && leb (place i) (length s)) && lines_fit s (place i) roles)

-- A row fits exactly if the test says so.
pub row_fits_iff : (roles : ℕ) (s : List ℕ) (p : ℕ) → (row_fits roles s p ≡ true) ↔ RowFits roles s p
row_fits_iff roles s p =
    let n : ℕ = get_or s p 0 in
    let m : ℕ = get_or s (p + 1) 0 in
    let end : ℕ = lines_from s p in
    let whole = and-eq-true_iff (front_fits s p) (lines_fit s end roles) in
    let front = and-eq-true_iff (leb n 64 && leb m 64) (leb end (length s)) in
    let counts = and-eq-true_iff (leb n 64) (leb m 64) in
    let lines = lines_fit_iff s end roles in (
      (λ e.
          let (a, b) = whole.0 e in
          let (c, d) = front.0 a in
          let (f, g) = counts.0 c in
          record { threads = leb-true n 64 f; made = leb-true m 64 g; words = leb-true end (length s) d; lines = lines.0 b }),
      λ F. whole.1 (front.1 (counts.1 (le-leb n 64 F.threads, le-leb m 64 F.made), le-leb end (length s) F.words), lines.1 F.lines),
    )
