-- Each figure of the sheet is the sum, the count or the maximum over its files, each by itself.
use Prim.Native.Nat.{ℕ, zero, suc, ◌+◌, ◌-◌, ◌*◌, ◌/◌, ◌%◌, ◌≤◌, ◌<◌, max}
use mathlib.Core.Path.{◌≡◌, refl, sym, ap, ap₂, ◌∙◌, subst}
use mathlib.Core.List.{List, [], ◌∷◌, ◌++◌, Memᴰ}
use mathlib.Core.Logic.{◌⊎◌, inl, inr}
use mathlib.Core.Bool.{Bool, true, false, cond}
use native.Mathlib.Omega.{arith}
use native.Mathlib.Nat.{div-add-mod', mod-lt}
use lib.Dec.{eqb, leb}
use borrow.Author.Tests.{eqb-true, eqb-false, eq-eqb, ne_eqb, leb-true, leb-false}
use lib.ListN.{length, get_or, set, replicate, length-set, get_or-replicate}
use lib.Seq.{get_or-set_same, get_or-set_other}
use Rattle.sheets.specs.declared.Entry.{Entry}
use Rattle.sheets.specs.declared.Sheet.{Sheet}
use Rattle.sheets.specs.Sheets.{counted, added, blank, closed, tally, sheet_for}
use Rattle.sheets.proofs.Loop.{length_counted}
use Rattle.sheets_exact.specs.Owed.{total}

counted_at : (l : List ℕ) (m n : ℕ) → 1 ≤ n → n - 1 < length l → get_or (counted l m) (n - 1) 0 ≡ get_or l (n - 1) 0 + cond (eqb m n) 1 0
counted_at l m n h r = go (eqb m 0) refl (eqb m n) refl
  where
    go : (a : Bool) → eqb m 0 ≡ a → (b : Bool) → eqb m n ≡ b → get_or (cond a l (set l (m - 1) (get_or l (m - 1) 0 + 1))) (n - 1) 0 ≡ get_or l (n - 1) 0 + cond b 1 0
    go true e true f = let no : ⊥ = omega (arith, eqb-true m 0 e, eqb-true m n f) in absurd no
    go true e false f = omega arith
    go false e true f =
        let q : m - 1 ≡ n - 1 = ap (λ (x : ℕ). x - 1) (eqb-true m n f) in
        ap (λ (x : ℕ). get_or (set l x (get_or l x 0 + 1)) (n - 1) 0) q ∙ get_or-set_same l (n - 1) (get_or l (n - 1) 0 + 1) 0 r
    go false e false f =
        get_or-set_other l (m - 1) (n - 1) (get_or l (m - 1) 0 + 1) 0 (λ w. eqb-false m n f (apart w (eqb-false m 0 e))) ∙ omega arith
      where
        apart : n - 1 ≡ m - 1 → (m ≡ 0 → ⊥) → m ≡ n
        apart w z = two m z w
          where
            two : (x : ℕ) → (x ≡ 0 → ⊥) → n - 1 ≡ x - 1 → x ≡ n
            two zero z w = absurd (z refl)
            two (suc x) z w = omega (arith, w)

-- the greatest figure of files
unfoldable pub greatest : (List ℕ → ℕ) → List (List ℕ) → ℕ
greatest g [] = 0
greatest g (f ∷ fs) = max (g f) (greatest g fs)

module _ (entry : List ℕ → Entry) where
  tally_files : (fs : List (List ℕ)) (s : Sheet) → (tally entry s fs).files ≡ s.files + length fs
  unfolding tally
  tally_files [] s = omega arith
  tally_files (f ∷ fs) s = tally_files fs (added s (entry f)) ∙ omega arith

  tally_room : (fs : List (List ℕ)) (s : Sheet) → length (tally entry s fs).refused ≡ length s.refused
  unfolding tally
  tally_room [] s = refl
  tally_room (f ∷ fs) s = tally_room fs (added s (entry f)) ∙ length_counted s.refused (entry f).number

  tally_each : (fs : List (List ℕ)) (s : Sheet) (n : ℕ) → 1 ≤ n → n - 1 < length s.refused
      → get_or (tally entry s fs).refused (n - 1) 0 ≡ get_or s.refused (n - 1) 0 + total (λ f. cond (eqb (entry f).number n) 1 0) fs
  unfolding tally total
  tally_each [] s n h r = omega arith
  tally_each (f ∷ fs) s n h r =
      tally_each fs (added s (entry f)) n h (omega (arith, length_counted s.refused (entry f).number))
      ∙ omega (arith, counted_at s.refused (entry f).number n h r)

  tally_sessions : (fs : List (List ℕ)) (s : Sheet) → (tally entry s fs).sessions ≡ s.sessions + total (λ f. (entry f).sessions) fs
  unfolding tally total
  tally_sessions [] s = omega arith
  tally_sessions (f ∷ fs) s = tally_sessions fs (added s (entry f)) ∙ omega arith

  tally_ons : (fs : List (List ℕ)) (s : Sheet) → (tally entry s fs).on_steps ≡ s.on_steps + total (λ f. (entry f).on_steps) fs
  unfolding tally total
  tally_ons [] s = omega arith
  tally_ons (f ∷ fs) s = tally_ons fs (added s (entry f)) ∙ omega arith

  tally_most : (fs : List (List ℕ)) (s : Sheet) → (tally entry s fs).most ≡ max s.most (greatest (λ f. (entry f).most) fs)
  unfolding tally greatest
  tally_most [] s = omega arith
  tally_most (f ∷ fs) s = tally_most fs (added s (entry f)) ∙ omega arith

  rate_of : (o n : ℕ) → 1 ≤ n → (o ≡ cond (eqb n 0) 0 (o / n) * n + cond (eqb n 0) 0 (o % n)) × (cond (eqb n 0) 0 (o % n) < n)
  rate_of o n h =
      let e : eqb n 0 ≡ false = ne_eqb n 0 (λ w. omega (arith, w)) in
      (rw e (sym (div-add-mod' o n)), rw e (mod-lt o h))

  none_of : (o n : ℕ) → n ≡ 0 → (cond (eqb n 0) 0 (o / n) ≡ 0) × (cond (eqb n 0) 0 (o % n) ≡ 0)
  none_of o n h = let e : eqb n 0 ≡ true = eq-eqb n 0 h in (rw e, rw e)

  -- figure by figure
  pub files_figure : (fs : List (List ℕ)) → (sheet_for entry fs).files ≡ length fs
  unfolding sheet_for
  files_figure fs = tally_files fs blank ∙ omega arith

  pub refused_room : (fs : List (List ℕ)) → length (sheet_for entry fs).refused ≡ 28
  unfolding sheet_for
  refused_room fs = tally_room fs blank

  pub refused_figure : (fs : List (List ℕ)) (n : ℕ) → 1 ≤ n → n ≤ 28 → get_or (sheet_for entry fs).refused (n - 1) 0 ≡ total (λ f. cond (eqb (entry f).number n) 1 0) fs
  unfolding sheet_for
  refused_figure fs n h k = tally_each fs blank n h (omega arith) ∙ omega (arith, get_or-replicate {A = ℕ} 28 (n - 1) 0 0 (omega arith))

  pub sessions_figure : (fs : List (List ℕ)) → (sheet_for entry fs).sessions ≡ total (λ f. (entry f).sessions) fs
  unfolding sheet_for
  sessions_figure fs = tally_sessions fs blank ∙ omega arith

  pub ons_figure : (fs : List (List ℕ)) → (sheet_for entry fs).on_steps ≡ total (λ f. (entry f).on_steps) fs
  unfolding sheet_for
  ons_figure fs = tally_ons fs blank ∙ omega arith

  pub most_figure : (fs : List (List ℕ)) → (sheet_for entry fs).most ≡ greatest (λ f. (entry f).most) fs
  unfolding sheet_for
  most_figure fs = tally_most fs blank ∙ omega arith

  pub rate_figure : (fs : List (List ℕ)) → 1 ≤ (sheet_for entry fs).sessions
      → (1000 * (sheet_for entry fs).on_steps ≡ (sheet_for entry fs).quotient * (sheet_for entry fs).sessions + (sheet_for entry fs).remainder) × ((sheet_for entry fs).remainder < (sheet_for entry fs).sessions)
  unfolding sheet_for
  rate_figure fs h = rate_of (1000 * (tally entry blank fs).on_steps) (tally entry blank fs).sessions h

  pub no_rate_figure : (fs : List (List ℕ)) → (sheet_for entry fs).sessions ≡ 0 → ((sheet_for entry fs).quotient ≡ 0) × ((sheet_for entry fs).remainder ≡ 0)
  unfolding sheet_for
  no_rate_figure fs h = none_of (1000 * (tally entry blank fs).on_steps) (tally entry blank fs).sessions h

-- the greatest is reached, unless it is 0, and nothing is above it
pub greatest_reached : (g : List ℕ → ℕ) (fs : List (List ℕ)) → (greatest g fs ≡ 0) ⊎ ((f : List ℕ) × Memᴰ f fs × (g f ≡ greatest g fs))
unfolding greatest
greatest_reached g [] = inl refl
greatest_reached g (f ∷ fs) = go (leb (greatest g fs) (g f)) refl (greatest_reached g fs)
  where
    go : (b : Bool) → leb (greatest g fs) (g f) ≡ b → (greatest g fs ≡ 0) ⊎ ((x : List ℕ) × Memᴰ x fs × (g x ≡ greatest g fs))
        → (max (g f) (greatest g fs) ≡ 0) ⊎ ((x : List ℕ) × Memᴰ x (f ∷ fs) × (g x ≡ max (g f) (greatest g fs)))
    go true e r = inr (f, Memᴰ.head refl, omega (arith, leb-true (greatest g fs) (g f) e))
    go false e (inl z) = let no : ⊥ = omega (arith, leb-false (greatest g fs) (g f) e, z) in absurd no
    go false e (inr (x, m, q)) = inr (x, Memᴰ.tail m, omega (arith, q, leb-false (greatest g fs) (g f) e))

pub greatest_above : (g : List ℕ → ℕ) (fs : List (List ℕ)) (f : List ℕ) → Memᴰ f fs → g f ≤ greatest g fs
unfolding greatest
greatest_above g [] f x' = elim x' [ ]
greatest_above g (x ∷ fs) f (Memᴰ.head e) = omega (arith, ap g e)
greatest_above g (x ∷ fs) f (Memᴰ.tail m) = omega (arith, greatest_above g fs f m)
