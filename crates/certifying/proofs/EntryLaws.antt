-- What each way through the entry answers.
use Rattle.std.specs.Prelude.{Option, Some, None, Ok, Err}
use Prim.Native.Nat.{ℕ, ◌≤◌, ◌<◌}
use mathlib.Core.Path.{◌≡◌, sym, ap, ap₂, ◌∙◌}
use mathlib.Core.Bool.{Bool, true, false, cond, ◌||◌, and-eq-true_iff}
use mathlib.Core.List.{List, []}
use lib.Dec.{eqb, leb, ltb}
use lib.ListN.{length, get_or}
use borrow.Author.Tests.{eq-eqb, ne_eqb, ltb-true, leb-true}
use Rattle.format.specs.Answers.{refused}
use Rattle.format.specs.declared.Head.{Head}
use Rattle.format.specs.declared.Verdict.{Verdict}
use Rattle.format.specs.Contents.{Contents, contents_at, contents_of}
use Rattle.checking.specs.Check.{reading_names, entered}
use Rattle.checking.proofs.CheckLaws.{entered_fine, entered_refused}
use Rattle.running.specs.Run.{unready}
use Rattle.seats.specs.Seats.{SeatedState, seated_run, seated_start}
use Rattle.seated.specs.declared.SeatedWent.{SeatedWent}
use Rattle.seated.specs.SeatedEntry.{seats_bar}
use Rattle.seated.specs.SeatedLists.{SeatedThrough}
use Rattle.seated.specs.SeatedTables.{seated_in}
use Rattle.rows.specs.Rows.{row_words, stands_at}
use Rattle.certifying.specs.declared.Closing.{Closing}
use Rattle.certifying.specs.declared.Part.{Part}
use Rattle.certifying.specs.Certificate.{Certificate, certificate_of, is_row, row_at_fault, closed_by, fault_at, some_rows, after_seats, after_reading}
use Rattle.certifying.specs.Kept.{KnownRows}
use Rattle.certifying.specs.Parts.{part_at_fault, some_part, asked_fits, asked_from, asked_tried, asked_fault}
use Rattle.certifying.proofs.KnownLaws.{held_state, first-known}

pub some_rows_lem : (n : ℕ) → some_rows n ≡ true → (0 < n) × (n < 4294967295)
some_rows_lem n e = let (a, b) = (and-eq-true_iff (ltb 0 n) (ltb n 4294967295)).0 e in (ltb-true 0 n a, ltb-true n 4294967295 b)

-- a part of the rows and words that there are
pub record PartOf (rows words : ℕ) (P : Part) : Type 0 where
  pub some : 0 < rows
  pub few : rows < 4294967295
  pub rising : P.from < P.to
  pub within : P.to ≤ rows
  pub forward : P.begin ≤ P.end
  pub worded : P.end ≤ words

pub part_of : (rows words : ℕ) (P : Part) → some_part rows words P ≡ true → PartOf rows words P
part_of rows words P e =
    let (abcd, worded) = (and-eq-true_iff _ (leb P.end words)).0 e in
    let (abc, forward) = (and-eq-true_iff _ (leb P.begin P.end)).0 abcd in
    let (ab, within) = (and-eq-true_iff _ (leb P.to rows)).0 abc in
    let (rows_fit, rising) = (and-eq-true_iff (some_rows rows) (ltb P.from P.to)).0 ab in
    let (some, few) = some_rows_lem rows rows_fit in
    record {
      some = some;
      few = few;
      rising = ltb-true P.from P.to rising;
      within = leb-true P.to rows within;
      forward = leb-true P.begin P.end forward;
      worded = leb-true P.end words worded;
    }

pub asked_some : (rows words : ℕ) (a : Option Part) → asked_fits rows words a ≡ true → 0 < rows
asked_some rows words None e = (some_rows_lem rows e).0
asked_some rows words (Some P) e = (part_of rows words P e).some

module _ (C : Contents) (seats states places next : List ℕ) where
  abbrev K : Certificate
  K = certificate_of C seats states places next

  -- the first row against the start
  module _ (kind : ℕ → ℕ) (b₀ : List ℕ) (r : SeatedWent) (w b os ls : List ℕ) (opened : SeatedThrough kind K.limited (seated_start C) b₀ [] r w b os ls)
      (a : Option Part) (from : ℕ) (its : from ≡ asked_from a) (begun : Bool) (is : begun ≡
      (ltb 0 from || stands_at states (get_or places 0 0) (row_words (length seats) (seated_in w b os ls)))) where
    is_start : seated_in w b os ls ≡ seated_start C
    unfolding seated_run
    is_start = opened.state

    first_row : begun ≡ (ltb 0 (asked_from a) || is_row K 0 (seated_start C))
    first_row = is ∙ ap₂ (λ (x : ℕ) (S : SeatedState). ltb 0 x || is_row K 0 S) its is_start

    by_first : (a : Option Part) (x : Bool) → x ≡ (ltb 0 (asked_from a) || is_row K 0 (seated_start C)) → cond x (asked_tried K a) 1 ≡ asked_fault K (seated_start C) a
    unfolding row_at_fault part_at_fault
    by_first None x e = ap (λ (y : Bool). cond y (asked_tried K None) 1) e
    by_first (Some P) x e = ap (λ (y : Bool). cond y (asked_tried K (Some P)) 1) e

    pub start_differs : begun ≡ false → 1 ≡ asked_fault K (seated_start C) a
    start_differs e = by_first a false (sym e ∙ first_row)

    pub start-same : begun ≡ true → asked_tried K a ≡ asked_fault K (seated_start C) a
    start-same e = by_first a true (sym e ∙ first_row)

    pub start-known : begun ≡ true → length C.sessions ≤ 32 → 0 < length places → a ≡ None → KnownRows K 1
    start-known e few some all =
        first-known C seats states places next few (seated_in w b os ls) (held_state K.limited w b os ls opened.kept) some
        (sym (ap (λ (x : ℕ). ltb 0 x || is_row K 0 (seated_in w b os ls)) (its ∙ ap asked_from all)) ∙ sym is ∙ e)

-- the table of seats and the start
module _ (C : Contents) (seats : List ℕ) (v : Verdict) (is : v ≡ seats_bar C seats) (k : ℕ) where
  number_is : v.number ≡ (seats_bar C seats).number
  number_is = ap (λ (x : Verdict). x.number) is

  pub barred : (v.number ≡ 0 → ⊥) → closed_by v ≡ after_seats C seats k
  barred bar =
      ap closed_by is ∙ sym (ap (λ (x : Bool). cond x (fault_at k) (closed_by (seats_bar C seats)))
      (ne_eqb (seats_bar C seats).number 0 (λ e. bar (number_is ∙ e))))

  pub not_barred : v.number ≡ 0 → (x : ℕ) → x ≡ k → fault_at x ≡ after_seats C seats k
  not_barred none x e =
      ap fault_at e ∙ sym (ap (λ (b : Bool). cond b (fault_at k) (closed_by (seats_bar C seats))) (eq-eqb (seats_bar C seats).number 0 (sym number_is ∙ none)))

-- what is lent, and the file
module _ (f : List ℕ) (b : Bool) (x : Contents → Closing) where
  abbrev answered : Verdict → Closing
  answered v = cond (eqb v.number 0) (x (contents_of f)) (closed_by v)

  pub not_asked : b ≡ false → closed_by (refused 17 0) ≡ after_reading b f (x (contents_of f))
  not_asked e = sym (ap (λ (c : Bool). answered (unready c f)) e)

  module _ (asked : b ≡ true) where
    by_file : after_reading b f (x (contents_of f)) ≡ answered (reading_names f)
    by_file = ap (λ (c : Bool). answered (unready c f)) asked

    pub file_refused : (v : Verdict) → entered f ≡ Err v → closed_by v ≡ after_reading b f (x (contents_of f))
    file_refused v e =
        let (bad, is) = entered_refused f v e in
        ap closed_by is ∙ sym (by_file ∙ ap (λ (c : Bool). cond c (x (contents_of f)) (closed_by (reading_names f))) (ne_eqb (reading_names f).number 0 bad))

    pub file_fine : (h : Head) → entered f ≡ Ok h → x (contents_at f h) ≡ after_reading b f (x (contents_of f))
    file_fine h e = let (laid, is, clean) = entered_fine f h e in ap (λ (g : Head). x (contents_at f g)) is ∙ sym (by_file ∙ ap answered clean)
