-- What a row of a part is answered, and the rows of a part one after the other.
use Prim.Native.Nat.{ℕ, suc, ◌+◌, ◌-◌, ◌≤◌, ◌<◌, max}
use mathlib.Core.Path.{◌≡◌, refl, sym, ap, ap₂, ◌∙◌, subst}
use mathlib.Core.Bool.{Bool, true, false, cond, ◌&&◌}
use mathlib.Core.List.{List}
use native.Mathlib.Numerals.{add-one}
use native.Mathlib.Omega.{arith}
use lib.Dec.{eqb, ltb}
use lib.ListN.{length, get_or}
use borrow.Author.Tests.{eq-eqb, ne_eqb, lt-ltb, le-ltb}
use Rattle.format.specs.Contents.{Contents}
use Rattle.seats.specs.Seats.{limited_of, seats_in, SeatedState}
use Rattle.seats.specs.SeatOrder.{Ordered}
use Rattle.seated.specs.SeatedTables.{seated_in}
use Rattle.rows.specs.Rows.{seated_at, Loaded}
use Rattle.rows.specs.Fits.{row_fits}
use Rattle.ordering.specs.Order.{in_order}
use Rattle.ordering.proofs.OrderLaws.{tables_ordered}
use Rattle.certifying.specs.declared.Search.{Search}
use Rattle.std.specs.Prelude.{Option, None, Some}
use Rattle.certifying.specs.Known.{known_by}
use Rattle.certifying.specs.Certificate.{Certificate, row_place, row_state, row_tried, row_onward}
use Rattle.certifying.specs.Parts.{row_tested, part_tried}

-- no word, and one word more
pub none_known_by : (next : List ℕ) → 1 ≡ known_by next 0
unfolding known_by
none_known_by next = refl

pub word_more : (next : List ℕ) (c known k m : ℕ) → known ≡ known_by next c → k ≡ get_or next c 0 → m ≡ max known (k + 1) → m ≡ known_by next (c + 1)
unfolding known_by
word_more next c known k m is word e = let h : m ≡ known_by next (suc c) = omega (arith, is, word, e) in h ∙ sym (ap (known_by next) (add-one c))

-- the tables hold a row's state, and are tested
pub order_tested : (C : Contents) (seats : List ℕ) → length seats ≤ 16 → (n : ℕ) → n ≡ length C.sessions → (s : List ℕ) (p : ℕ) (w b os ls : List ℕ)
    → Loaded (length seats) s p w b os ls
    → in_order n (seats_in seats) (seated_in w b os ls) ≡ true → Ordered (limited_of C seats) (seated_at (length seats) s p)
order_tested C seats few n sessions s p w b os ls D e =
    subst (Ordered (limited_of C seats)) D.state
    ((tables_ordered C seats few w b os ls).0 (sym (ap (λ (x : ℕ). in_order x (seats_in seats) (seated_in w b os ls)) sessions) ∙ e))

module _ (K : Certificate) (j : ℕ) (q : Search) where
  abbrev ordered : Bool
  ordered = in_order K.limited.sessions K.limited.seats (row_state K j)

  by_tests : (a b c : Bool) → ltb j q.known ≡ a → row_fits K.roles K.states (row_place K j) ≡ b → ordered ≡ c
      → (t : Option Search) → t ≡ cond (a && (b && c)) (row_tried K (row_state K j) q) None → t ≡ row_tested K j q
  by_tests a b c ea eb ec t is =
      is ∙ sym (ap (λ (x : Bool). cond (x && (row_fits K.roles K.states (row_place K j) && ordered)) (row_tried K (row_state K j) q) None) ea
      ∙ ap₂ (λ (x y : Bool). cond (a && (x && y)) (row_tried K (row_state K j) q) None) eb ec)

  pub row_unknown_yet : q.known ≤ j → None ≡ row_tested K j q
  row_unknown_yet le = by_tests false _ _ (le-ltb j q.known le) refl refl None refl

  module _ (known : j < q.known) (at : ℕ) (place : at ≡ row_place K j) where
    fits_at : row_fits K.roles K.states at ≡ row_fits K.roles K.states (row_place K j)
    fits_at = ap (row_fits K.roles K.states) place

    pub row_unfit : row_fits K.roles K.states at ≡ false → None ≡ row_tested K j q
    row_unfit e = by_tests true false _ (lt-ltb j q.known known) (sym fits_at ∙ e) refl None refl

    module _ (fits : row_fits K.roles K.states at ≡ true) (n : ℕ) (sessions : n ≡ K.limited.sessions) (S : SeatedState)
        (state : S ≡ seated_at K.roles K.states at) where
      order_at : in_order n K.limited.seats S ≡ ordered
      order_at = ap₂ (λ (x : ℕ) (T : SeatedState). in_order x K.limited.seats T) sessions (state ∙ ap (seated_at K.roles K.states) place)

      pub row_unordered : in_order n K.limited.seats S ≡ false → None ≡ row_tested K j q
      row_unordered e = by_tests true true false (lt-ltb j q.known known) (sym fits_at ∙ fits) (sym order_at ∙ e) None refl

      pub row_tested_lem : in_order n K.limited.seats S ≡ true → (t : Option Search) → t ≡ row_tried K (seated_at K.roles K.states at) q → t ≡ row_tested K j q
      row_tested_lem e t is =
          by_tests true true true (lt-ltb j q.known known) (sym fits_at ∙ fits) (sym order_at ∙ e) t
          (is ∙ ap (λ (x : ℕ). row_tried K (seated_at K.roles K.states x) q) place)

-- one row more, and none
module _ (K : Certificate) (e j n : ℕ) (q : Search) where
  module _ (lt : j < n) where
    part_on : part_tried K e j (n - j) q ≡ row_onward (row_tested K j q) j (λ x. part_tried K e (j + 1) (n - (j + 1)) x)
    unfolding part_tried
    part_on = let more : n - j ≡ suc (n - (j + 1)) = omega (arith, lt) in ap (λ (x : ℕ). part_tried K e j x q) more

    pub part_fails : (t : Option Search) → t ≡ row_tested K j q → t ≡ None → j + 1 ≡ part_tried K e j (n - j) q
    part_fails t is fails = sym (part_on ∙ ap (λ (x : Option Search). row_onward x j (λ y. part_tried K e (j + 1) (n - (j + 1)) y)) (sym is ∙ fails))

    pub part_passes : (t : Option Search) (q' : Search) → t ≡ row_tested K j q → t ≡ Some q' → part_tried K e j (n - j) q ≡ part_tried K e (j + 1) (n - (j + 1)) q'
    part_passes t q' is passes = part_on ∙ ap (λ (x : Option Search). row_onward x j (λ y. part_tried K e (j + 1) (n - (j + 1)) y)) (sym is ∙ passes)

  module _ (le : n ≤ j) where
    part_over : part_tried K e j (n - j) q ≡ cond (eqb q.cursor e) 0 j
    unfolding part_tried
    part_over = let none : n - j ≡ 0 = omega (arith, le) in ap (λ (x : ℕ). part_tried K e j x q) none

    pub part_ends : q.cursor ≡ e → 0 ≡ part_tried K e j (n - j) q
    part_ends is = sym (part_over ∙ ap (λ (b : Bool). cond b 0 j) (eq-eqb q.cursor e is))

    pub part_ends_elsewhere : (q.cursor ≡ e → ⊥) → j ≡ part_tried K e j (n - j) q
    part_ends_elsewhere ne = sym (part_over ∙ ap (λ (b : Bool). cond b 0 j) (ne_eqb q.cursor e ne))
