-- What the loop over an input keeps, over any account of what placing a file gives.
use Prim.Native.Nat.{ℕ, zero, suc, ◌+◌, ◌-◌, ◌≤◌, ◌<◌}
use mathlib.Core.Path.{◌≡◌, refl, sym, ap, ap₂, ◌∙◌, subst}
use mathlib.Core.List.{List, [], ◌∷◌}
use mathlib.Core.Bool.{Bool, true, false, cond}
use mathlib.Core.Logic.{◌⊎◌, inl, inr}
use denote.Bor.{Bor}
use Rattle.std.specs.Option.{MatchOption, option_copied}
use Rattle.std.specs.declared.option.Option.{Option}
use Rattle.std.specs.declared.option.Option.TheVariants.{None, Some}
use Rattle.std.specs.List.{slice_range}
use native.Mathlib.Omega.{arith}
use lib.Dec.{eqb, leb}
use borrow.Author.Tests.{leb-true, leb-false, le-leb, lt-leb, eqb-true, eqb-false}
use lib.ListN.{length, get_or, set, take, drop, length-drop, length-set}
use lib.Seq.{take_all, drop-drop, length-take-le, get_or-set_same, get_or-set_other, set_out}
use Rattle.states.proofs.AgreeLaws.{zeros}
use Rattle.sheets.specs.declared.Entry.{Entry}
use Rattle.sheets.specs.declared.Sheet.{Sheet}
use Rattle.sheets.specs.Files.{said, is_whole, whole_up_to, whole_files}
use Rattle.sheets.specs.Sheets.{counted, added, blank, closed, tally, sheet_for, sheet_of, Within, Small}

-- the first file
abbrev pub first_of : List ℕ → Option (List ℕ)
first_of l = cond (is_whole l) (Some (take (said l) (drop 2 l))) None

-- as the code finds it
pub first_got : (l : List ℕ) (n : ℕ) → n ≡ said l → (r : Option (Bor (List ℕ)))
    → MatchOption r ((2 + n < 2) ⊎ (length l < 2 + n)) (λ x. (2 ≤ 2 + n) × (2 + n ≤ length l) × (x.now ≡ slice_range l 2 (2 + n)) × (length x.now + 2 ≡ 2 + n))
    → option_copied r ≡ first_of l
first_got l n e None (inl h) = absurd (omega arith)
first_got l n e None (inr h) = rw (lt-leb (2 + said l) (length l) (omega arith))
first_got l n e (Some x) (a, b, is, d) =
    let all : 2 + n - 2 ≡ said l = omega (arith, e) in
    rw (le-leb (2 + said l) (length l) (omega arith)) (ap (λ (f : List ℕ). Some f) (is ∙ ap (λ (k : ℕ). take k (drop 2 l)) all))

first_none : (l : List ℕ) → None ≡ first_of l → is_whole l ≡ false
first_none l = go (is_whole l)
  where
    go : (b : Bool) → None ≡ cond b (Some (take (said l) (drop 2 l))) None → b ≡ false
    go false e = refl
    go true e = cc

first_some : (l f : List ℕ) → Some f ≡ first_of l → (is_whole l ≡ true) × (f ≡ take (said l) (drop 2 l)) × (length f ≡ said l) × (2 + length f ≤ length l)
first_some l f e = go (is_whole l) refl e
  where
    go : (b : Bool) → is_whole l ≡ b → Some f ≡ cond b (Some (take (said l) (drop 2 l))) None
        → (is_whole l ≡ true) × (f ≡ take (said l) (drop 2 l)) × (length f ≡ said l) × (2 + length f ≤ length l)
    go false w e = let no : ⊥ = cc in absurd no
    go true w e =
        let is : f ≡ take (said l) (drop 2 l) = cc in
        let h : 2 + said l ≤ length l = leb-true (2 + said l) (length l) w in
        let n : length f ≡ said l = ap length is ∙ length-take-le (said l) (drop 2 l) (omega (arith, length-drop 2 l)) in
        (w, is, n, omega (arith, h, n))

pub length_counted : (l : List ℕ) (m : ℕ) → length (counted l m) ≡ length l
length_counted l m = go (eqb m 0)
  where
    go : (b : Bool) → length (cond b l (set l (m - 1) (get_or l (m - 1) 0 + 1))) ≡ length l
    go true = refl
    go false = length-set l (m - 1) (get_or l (m - 1) 0 + 1)

pub small_blank : Small blank
small_blank = record { few = omega arith; room = refl; each = λ i. omega (arith, zeros 28 i); served = omega arith; ons = omega arith }

counted_small : (l : List ℕ) (m k : ℕ) → ((i : ℕ) → get_or l i 0 ≤ k) → (i : ℕ) → get_or (counted l m) i 0 ≤ k + 1
counted_small l m k h i = go (eqb m 0) (eqb i (m - 1)) refl (leb (length l) i) refl
  where
    go : (a b : Bool) → eqb i (m - 1) ≡ b → (c : Bool) → leb (length l) i ≡ c → get_or (cond a l (set l (m - 1) (get_or l (m - 1) 0 + 1))) i 0 ≤ k + 1
    go true b e c f = omega (arith, h i)
    go false false e c f = omega (arith, h i, get_or-set_other l (m - 1) i (get_or l (m - 1) 0 + 1) 0 (eqb-false i (m - 1) e))
    go false true e true f =
        omega (arith, h i, ap (λ (x : List ℕ). get_or x i 0) (set_out l (m - 1) (get_or l (m - 1) 0 + 1) (omega (arith, eqb-true i (m - 1) e, leb-true (length l) i f))))
    go false true e false f =
        subst (λ (x : ℕ). get_or (set l (m - 1) (get_or l (m - 1) 0 + 1)) x 0 ≤ k + 1) (sym (eqb-true i (m - 1) e))
        (omega (arith, h (m - 1), get_or-set_same l (m - 1) (get_or l (m - 1) 0 + 1) 0 (omega (arith, eqb-true i (m - 1) e, leb-false (length l) i f))))

pub small_added : (s : Sheet) (w : Entry) → Small s → Within w → s.files < 1000 → Small (added s w)
small_added s w m h l = record {
  few = omega arith;
  room = length_counted s.refused w.number ∙ m.room;
  each = counted_small s.refused w.number s.files m.each;
  served = omega (arith, m.served, h.served);
  ons = omega (arith, m.ons, h.ons);
}

module _ (entry : List ℕ → Entry) where
  -- the tally of what is left, into the sheet so far, is the whole tally
  abbrev pub Going : List ℕ → Sheet → List ℕ → Type 0
  Going l s left = tally entry s (whole_up_to (1000 - s.files) left) ≡ tally entry blank (whole_files l)

  read_stop : (k : ℕ) (l : List ℕ) → is_whole l ≡ false → whole_up_to k l ≡ []
  unfolding whole_up_to
  read_stop zero l e = refl
  read_stop (suc k) l e = rw e

  read_next : (k : ℕ) (l : List ℕ) → is_whole l ≡ true → whole_up_to (suc k) l ≡ take (said l) (drop 2 l) ∷ whole_up_to k (drop (said l) (drop 2 l))
  unfolding whole_up_to
  read_next k l e = rw e

  read_zero : (l : List ℕ) → whole_up_to 0 l ≡ []
  unfolding whole_up_to
  read_zero l = refl

  ends_with : (l : List ℕ) (s : Sheet) (fs : List (List ℕ)) → fs ≡ [] → tally entry s fs ≡ tally entry blank (whole_files l) → closed s ≡ sheet_of entry l
  unfolding sheet_of sheet_for tally
  ends_with l s fs e g = ap closed (sym (ap (tally entry s) e) ∙ g)

  pub stopped : (l : List ℕ) (s : Sheet) (left : List ℕ) → Going l s left → None ≡ first_of left → closed s ≡ sheet_of entry l
  stopped l s left g e = ends_with l s (whole_up_to (1000 - s.files) left) (read_stop (1000 - s.files) left (first_none left e)) g

  pub filled : (l : List ℕ) (s : Sheet) (left : List ℕ) → Going l s left → 1000 ≤ s.files → closed s ≡ sheet_of entry l
  filled l s left g h =
      let z : 1000 - s.files ≡ 0 = omega arith in
      ends_with l s (whole_up_to (1000 - s.files) left) (ap (λ (k : ℕ). whole_up_to k left) z ∙ read_zero left) g

  tally_cons : (s : Sheet) (f : List ℕ) (fs : List (List ℕ)) → tally entry s (f ∷ fs) ≡ tally entry (added s (entry f)) fs
  unfolding tally
  tally_cons s f fs = refl

  pub goes_on : (l : List ℕ) (s t : Sheet) (left f rest : List ℕ) → Going l s left → s.files < 1000 → Some f ≡ first_of left → t ≡ added s (entry f)
      → rest ≡ take (length left - (2 + length f)) (drop (2 + length f) left) → Going l t rest
  goes_on l s t left f rest g h e now cut =
      let (w, b, n, _) = first_some left f e in
      let is : rest ≡ drop (2 + length f) left = cut ∙ take_all (length left - (2 + length f)) (drop (2 + length f) left) (omega (arith, length-drop (2 + length f) left)) in
      let k : ℕ = 1000 - (s.files + 1) in
      let r : 1000 - s.files ≡ suc k = omega arith in
      let past : drop (said left) (drop 2 left) ≡ rest = drop-drop (said left) 2 left ∙ ap (λ (x : ℕ). drop (2 + x) left) (sym n) ∙ sym is in
      ap (λ (u : Sheet). tally entry u (whole_up_to (1000 - u.files) rest)) now
      ∙ sym (ap (λ (x : ℕ). tally entry s (whole_up_to x left)) r
      ∙ ap (tally entry s) (read_next k left w ∙ ap₂ (λ (x : List ℕ) (y : List ℕ). x ∷ whole_up_to k y) (sym b) past)
      ∙ tally_cons s f (whole_up_to k rest))
      ∙ g
