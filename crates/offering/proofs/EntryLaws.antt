-- What each way through the entry answers.
use Prim.Native.Nat.{ℕ}
use mathlib.Core.Path.{◌≡◌, refl, sym, ap, ◌∙◌}
use mathlib.Core.Bool.{Bool, true, false, cond}
use mathlib.Core.List.{List}
use lib.Dec.{eqb}
use lib.ListN.{length}
use borrow.Author.Tests.{eq-eqb, ne_eqb}
use Rattle.format.specs.Answers.{refused}
use Rattle.format.specs.declared.Head.{Head}
use Rattle.format.specs.declared.Verdict.{Verdict}
use Rattle.format.specs.Contents.{Contents, contents_at, contents_of}
use Rattle.std.specs.Prelude.{Ok, Err}
use Rattle.checking.specs.Check.{reading_names, entered}
use Rattle.checking.proofs.CheckLaws.{entered_fine, entered_refused}
use Rattle.seats.specs.Seats.{limited_of}
use Rattle.seated.specs.SeatedEntry.{seats_bar}
use Rattle.rows.specs.Rows.{seated_at}
use Rattle.offering.specs.Offers.{offers_of, Output, offers_put, begun, is_state, Offering, offering_of, refusing, offering_in, offering_by, offering}

module _ (C : Contents) (seats s out : List ℕ) where
  pub no_state : false ≡ is_state C seats s → refusing (refused 18 0) out ≡ offering_in C seats s out
  no_state e = rw (sym e)

  pub some_state : true ≡ is_state C seats s → (B : Output) → B ≡ offers_put (length seats) (begun out) (offers_of (limited_of C seats) (seated_at (length seats) s 0))
      → offering_of B ≡ offering_in C seats s out
  some_state e B put = rw (sym e) (ap offering_of put)

  module _ (v : Verdict) (is : v ≡ seats_bar C seats) where
    number_is : v.number ≡ (seats_bar C seats).number
    number_is = ap (λ (x : Verdict). x.number) is

    pub barred : (v.number ≡ 0 → ⊥) → refusing v out ≡ offering_by C seats s out
    barred bar =
        ap (λ (x : Verdict). refusing x out) is
        ∙ sym (ap (λ (x : Bool). cond x (offering_in C seats s out) (refusing (seats_bar C seats) out)) (ne_eqb (seats_bar C seats).number 0 (λ e. bar (number_is ∙ e))))

    pub not_barred : v.number ≡ 0 → offering_in C seats s out ≡ offering_by C seats s out
    not_barred none = sym (ap (λ (x : Bool). cond x (offering_in C seats s out) (refusing (seats_bar C seats) out)) (eq-eqb (seats_bar C seats).number 0 (sym number_is ∙ none)))

module _ (f seats s out : List ℕ) where
  pub file_refused : (v : Verdict) → entered f ≡ Err v → refusing v out ≡ offering f seats s out
  unfolding offering
  file_refused v e =
      let (bad, is) = entered_refused f v e in
      ap (λ (x : Verdict). refusing x out) is
      ∙ sym (ap (λ (x : Bool). cond x (offering_by (contents_of f) seats s out) (refusing (reading_names f) out)) (ne_eqb (reading_names f).number 0 bad))

  pub file_fine : (h : Head) → entered f ≡ Ok h → offering_by (contents_at f h) seats s out ≡ offering f seats s out
  unfolding offering
  file_fine h e =
      let (laid, is, clean) = entered_fine f h e in
      ap (λ (x : Head). offering_by (contents_at f x) seats s out) is
      ∙ sym (ap (λ (x : Verdict). cond (eqb x.number 0) (offering_by (contents_of f) seats s out) (refusing x out)) clean)
