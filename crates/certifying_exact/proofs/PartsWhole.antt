-- The parts of a chain are fine exactly where the whole certificate is.
use Prim.Native.Nat.{ℕ, zero, suc, ◌+◌, ◌-◌, ◌≤◌, ◌<◌}
use mathlib.Core.Path.{◌≡◌, refl, sym, ap, ap₂, ◌∙◌, subst}
use mathlib.Core.Bool.{Bool, true, false, cond, ◌&&◌, ◌||◌, and-eq-true_iff}
use mathlib.Core.List.{List, [], ◌∷◌}
use native.Mathlib.Omega.{arith}
use native.Mathlib.Numerals.{add-one}
use lib.Dec.{eqb, leb, ltb}
use lib.ListN.{length, get_or}
use borrow.Author.Tests.{eqb-true, eq-eqb, ltb-true, lt-ltb, le-leb}
use Rattle.format.specs.Header.{Laid, head_at}
use Rattle.format.specs.declared.Head.{Head}
use Rattle.format.specs.declared.Session.{Session}
use Rattle.format.specs.declared.Verdict.{Verdict}
use Rattle.format.specs.Contents.{Contents, contents_of}
use Rattle.format.proofs.ContentsLaws.{roles_held, sessions_held}
use Rattle.std.specs.Prelude.{Result, Ok, Err, Option, None, Some}
use Rattle.reading_exact.specs.Lists.{All}
use Rattle.checking.specs.Check.{reading_names, entered}
use Rattle.checking.proofs.CheckLaws.{entered_fine, entered_refused}
use Rattle.running.specs.Run.{unready}
use Rattle.choices.specs.Choices.{threads_from}
use Rattle.seats.specs.Seats.{Limited, limited_of, SeatedState, seated_start}
use Rattle.seats.specs.SeatOrder.{Ordered}
use Rattle.seated.specs.SeatedEntry.{seats_bar}
use Rattle.seated.proofs.EntryLaws.{bar_clear}
use Rattle.rows.specs.Fits.{row_fits}
use Rattle.rows.proofs.FitLaws.{row_fits_iff}
use Rattle.ordering.specs.Order.{in_order}
use Rattle.ordering.proofs.OrderLaws.{in_order_iff, past_seats}
use Rattle.certifying.specs.declared.Closing.{Closing}
use Rattle.certifying.specs.declared.Part.{Part}
use Rattle.certifying.specs.declared.Search.{Search}
use Rattle.certifying.specs.Known.{known_by}
use Rattle.certifying.specs.Certificate.{Certificate, certificate_of, row_place, row_state, is_row, row_tried, row_onward, rows_tried, search_begins, row_at_fault, closed_fine, closed_by, fault_at, some_rows, after_seats, after_reading, closing}
use Rattle.certifying.specs.Kept.{KnownRows}
use Rattle.certifying.specs.Parts.{is_ordered, row_tested, part_tried, search_at, part_at_fault, some_part, closing_part}
use Rattle.certifying.proofs.ExploreLaws.{row_on}
use Rattle.certifying.proofs.KnownLaws.{RowState, first-known, rows-known}
use Rattle.certifying.proofs.EntryLaws.{some_rows_lem, PartOf, part_of}
use Rattle.certifying_exact.specs.Numbered.{collect, done_in, done_before, Names}
use Rattle.certifying_exact.specs.Chains.{Chained, words_before, part_between}
use Rattle.certifying_exact.proofs.Numbering.{NamesFrom, Tried, passed, failed, row_tried_lem, before_next}
use Rattle.certifying_exact.proofs.Certified.{not_refused, no_fault, rows_some, clear, ready, explored, start_good}

never_passes : (q : Search) → None ≡ Some q → ⊥
never_passes q e = let z : ◌≡◌ {A = ℕ} 0 1 = cc in omega arith

same_search : (q x : Search) → Some q ≡ Some x → q ≡ x
same_search q x e = cc

module _ (K : Certificate) where
  abbrev at : ℕ → Search
  at c = search_at K.next c

  -- words that name rows are words that there are
  names_within : (Ts : List SeatedState) (c : ℕ) → c ≤ length K.next → NamesFrom K c Ts → c + length Ts ≤ length K.next
  names_within [] c le h = omega (arith, le)
  names_within (T ∷ Ts) c le (here, h) = omega (arith, names_within Ts (suc c) (omega (arith, here.given)) h)

  -- a row that passes has a word for each choice that is done
  row_passed : (S : SeatedState) (c : ℕ) (q : Search) → row_tried K S (at c) ≡ Some q
      → (q ≡ at (c + length (done_in K S))) × (c ≤ length K.next → c + length (done_in K S) ≤ length K.next)
  row_passed S c q e = go (row_tried_lem K S c)
    where
      go : Tried K (done_in K S) c (row_tried K S (at c))
          → (q ≡ at (c + length (done_in K S))) × (c ≤ length K.next → c + length (done_in K S) ≤ length K.next)
      go (passed h is) = (same_search q (at (c + length (done_in K S))) (sym e ∙ is), λ le. names_within (done_in K S) c le h)
      go (failed never is) = absurd (never_passes q (sym is ∙ e))

  -- a row of a part that passes
  tested : (j : ℕ) (q x : Search) → row_tested K j q ≡ Some x → (ltb j q.known ≡ true) × (row_tried K (row_state K j) q ≡ Some x)
  tested j q x e = go (ltb j q.known) refl (is_ordered K j) e
    where
      go : (a : Bool) → ltb j q.known ≡ a → (b : Bool) → cond (a && b) (row_tried K (row_state K j) q) None ≡ Some x
          → (ltb j q.known ≡ true) × (row_tried K (row_state K j) q ≡ Some x)
      go true ea true h = (ea, h)
      go true ea false h = absurd (never_passes x h)
      go false ea b h = absurd (never_passes x h)

  -- the rows of a part that is fine, and those after it
  rows_of_part : (m rest j c e : ℕ) → 1 ≤ j + m → part_tried K e j m (at c) ≡ 0 → rows_tried K j (m + rest) (at c) ≡ rows_tried K (j + m) rest (at e)
  unfolding part_tried
  rows_of_part zero rest j c e some h = go (eqb c e) refl h
    where
      go : (b : Bool) → eqb c e ≡ b → cond b 0 j ≡ 0 → rows_tried K j (zero + rest) (at c) ≡ rows_tried K (j + zero) rest (at e)
      go true t z =
          let all : zero + rest ≡ rest = omega arith in
          let here : j ≡ j + zero = omega arith in
          ap (λ (x : ℕ). rows_tried K j x (at c)) all ∙ ap₂ (λ (x y : ℕ). rows_tried K x rest (at y)) here (eqb-true c e t)
      go false t z = let no : ⊥ = omega (arith, some, z) in absurd no
  rows_of_part (suc m) rest j c e some h = go (row_tested K j (at c)) refl h (λ d. rows_of_part m rest (j + 1) d e (omega arith))
    where
      go : (t : Option Search) → row_tested K j (at c) ≡ t → row_onward t j (λ x. part_tried K e (j + 1) m x) ≡ 0
          → ((d : ℕ) → part_tried K e (j + 1) m (at d) ≡ 0 → rows_tried K (j + 1) (m + rest) (at d) ≡ rows_tried K (j + 1 + m) rest (at e))
          → rows_tried K j (suc m + rest) (at c) ≡ rows_tried K (j + suc m) rest (at e)
      go None is z later = let no : ⊥ = omega (arith, z) in absurd no
      go (Some x) is z later =
          let (known, tried) = tested j (at c) x is in
          let same : x ≡ at (c + length (done_in K (row_state K j))) = (row_passed (row_state K j) c x tried).0 in
          let count : suc m + rest ≡ j + suc (m + rest) - j = omega arith in
          let left : m + rest ≡ j + suc (m + rest) - (j + 1) = omega arith in
          let there : j + 1 + m ≡ j + suc m = omega arith in
          ap (λ (y : ℕ). rows_tried K j y (at c)) count ∙ row_on K j (j + suc (m + rest)) (at c) (omega arith)
          ∙ ap₂ (λ (b : Bool) (t : Option Search). cond b (row_onward t j (λ y. rows_tried K (j + 1) (j + suc (m + rest) - (j + 1)) y)) ((at c).known + 1)) known tried
          ∙ ap₂ (λ (y : ℕ) (q : Search). rows_tried K (j + 1) y q) (sym left) same
          ∙ later (c + length (done_in K (row_state K j))) (subst (λ (q : Search). part_tried K e (j + 1) m q ≡ 0) same z) ∙ ap
          (λ (y : ℕ). rows_tried K y rest (at e)) there

  abbrev PartFine : Part → Type 0
  PartFine P = (P.from < P.to) × (part_tried K P.end P.from (P.to - P.from) (at P.begin) ≡ 0)

  chain_rises : (Ps : List Part) (j c n : ℕ) → Chained j c Ps n → All PartFine Ps → j ≤ n
  chain_rises [] j c n is h = omega (arith, is)
  chain_rises (P ∷ Ps) j c n (from, begin, chain) ((lt, h), hs) = omega (arith, from, lt, chain_rises Ps P.to P.end n chain hs)

  chain_tried : (Ps : List Part) (j c n : ℕ) → Chained j c Ps n → All PartFine Ps → rows_tried K j (n - j) (at c) ≡ 0
  unfolding rows_tried
  chain_tried [] j c n is h = let none : n - j ≡ 0 = omega (arith, is) in ap (λ (x : ℕ). rows_tried K j x (at c)) none
  chain_tried (P ∷ Ps) j c n (from, begin, chain) ((lt, h), hs) =
      let high : P.to ≤ n = chain_rises Ps P.to P.end n chain hs in
      let count : n - j ≡ P.to - P.from + (n - P.to) = omega (arith, from, lt, high) in
      let there : P.from + (P.to - P.from) ≡ P.to = omega (arith, lt) in
      ap (λ (x : ℕ). rows_tried K j x (at c)) count ∙ ap₂ (λ (x y : ℕ). rows_tried K x (P.to - P.from + (n - P.to)) (at y)) (sym from) (sym begin)
      ∙ rows_of_part (P.to - P.from) (n - P.to) P.from P.begin P.end (omega (arith, lt)) h
      ∙ ap (λ (x : ℕ). rows_tried K x (n - P.to) (at P.end)) there ∙ chain_tried Ps P.to P.end n chain hs

-- nothing goes before
ready_once : (b : Bool) (f : List ℕ) → (unready b f).number ≡ 0 → (b ≡ true) × ((reading_names f).number ≡ 0)
ready_once true f e = (refl, e)
ready_once false f e = let no : ⊥ = omega (arith, e) in absurd no

fine_answer : (b : Bool) (f : List ℕ) (seats : List ℕ) (k : ℕ) → b ≡ true → (reading_names f).number ≡ 0 → (seats_bar (contents_of f) seats).number ≡ 0 → k ≡ 0
    → after_reading b f (after_seats (contents_of f) seats k) ≡ closed_fine
fine_answer b f seats k is clean clear none =
    ap (λ (x : Bool). after_reading x f (after_seats (contents_of f) seats k)) is
    ∙ ap (λ (x : Bool). cond x (after_seats (contents_of f) seats k) (closed_by (reading_names f))) (eq-eqb (reading_names f).number 0 clean)
    ∙ ap (λ (x : Bool). cond x (fault_at k) (closed_by (seats_bar (contents_of f) seats))) (eq-eqb (seats_bar (contents_of f) seats).number 0 clear)
    ∙ ap fault_at none

-- what a clean file holds
file_limits : (f : List ℕ) → (reading_names f).number ≡ 0 → (length (contents_of f).sessions ≤ 32) × (length (contents_of f).roles ≤ 16)
file_limits f clean = go (entered f) refl
  where
    go : (o : Result Head Verdict) → entered f ≡ o → (length (contents_of f).sessions ≤ 32) × (length (contents_of f).roles ≤ 16)
    go (Ok h) e =
        let (laid, is, fine) = entered_fine f h e in
        let same = subst (Laid f) is laid in
        (omega (arith, sessions_held f (head_at f), same.sessions), omega (arith, roles_held f (head_at f), same.roles))
    go (Err v) e = absurd ((entered_refused f v e).0 clean)

threads_count : (ss : List Session) → length (threads_from ss) ≡ length ss
unfolding threads_from
threads_count [] = refl
threads_count (s ∷ ss) = ap suc (threads_count ss)

module _ (f seats states places next : List ℕ) where
  abbrev C : Contents
  C = contents_of f

  abbrev K : Certificate
  K = certificate_of C seats states places next

  abbrev S : SeatedState
  S = seated_start C

  abbrev fine_part : Part → Type 0
  fine_part P = closing_part f seats states places next P ≡ closed_fine

  part_ready : (P : Part) → fine_part P
      → ((unready (some_part (length places) (length next) P) f).number ≡ 0) × (after_seats C seats (part_at_fault K S P) ≡ closed_fine)
  unfolding closing_part
  part_ready P e = not_refused (unready (some_part (length places) (length next) P) f) (after_seats C seats (part_at_fault K S P)) e

  part_clear : (P : Part) → fine_part P → ((seats_bar C seats).number ≡ 0) × (fault_at (part_at_fault K S P) ≡ closed_fine)
  part_clear P e = not_refused (seats_bar C seats) (fault_at (part_at_fault K S P)) (part_ready P e).1

  part_fits : (P : Part) → fine_part P → PartOf (length places) (length next) P × ((reading_names f).number ≡ 0)
  part_fits P e = let (fits, clean) = ready_once _ f (part_ready P e).0 in (part_of (length places) (length next) P fits, clean)

  part_tried_lem : (P : Part) → fine_part P → (ltb 0 P.from || is_row K 0 S ≡ true) × PartFine K P
  unfolding part_at_fault
  part_tried_lem P e = go (ltb 0 P.from || is_row K 0 S) refl (no_fault (part_at_fault K S P) (part_clear P e).1)
    where
      go : (b : Bool) → ltb 0 P.from || is_row K 0 S ≡ b → cond b (part_tried K P.end P.from (P.to - P.from) (search_at next P.begin)) 1 ≡ 0
          → (ltb 0 P.from || is_row K 0 S ≡ true) × PartFine K P
      go true is h = (is, ((part_fits P e).0.rising, h))
      go false is h = let no : ⊥ = omega (arith, h) in absurd no

  each_tried : (Ps : List Part) → All fine_part Ps → All (PartFine K) Ps
  each_tried [] h = tt
  each_tried (P ∷ Ps) (h, hs) = ((part_tried_lem P h).1, each_tried Ps hs)

  -- Parts that are chained from row 0 and word 0 to the last row, and are each fine: the whole is.
  pub chain_is_whole : (P : Part) (Ps : List Part) → Chained 0 0 (P ∷ Ps) (length places) → All fine_part (P ∷ Ps)
      → closing f seats states places next ≡ closed_fine
  unfolding closing row_at_fault known_by
  chain_is_whole P Ps (from, begin, chain) (h, hs) =
      let (fits, clean) = part_fits P h in
      let (asked, tried) = part_tried_lem P h in
      let first : is_row K 0 S ≡ true = sym (ap (λ (x : ℕ). ltb 0 x || is_row K 0 S) from) ∙ asked in
      let all : length places ≡ length places - 0 = omega arith in
      let rows : rows_tried K 0 (length places) search_begins ≡ 0 =
      ap (λ (x : ℕ). rows_tried K 0 x search_begins) all ∙ chain_tried K (P ∷ Ps) 0 0 (length places) (from, begin, chain) (each_tried (P ∷ Ps) (h, hs)) in
      fine_answer (some_rows (length places)) f seats (row_at_fault K S)
      ((and-eq-true_iff (ltb 0 (length places)) (ltb (length places) 4294967295)).1
      (lt-ltb 0 (length places) fits.some, lt-ltb (length places) 4294967295 fits.few)) clean
      (part_clear P h).0 (ap (λ (b : Bool). cond b (rows_tried K 0 (length places) search_begins) 1) first ∙ rows)

  module _ (fine : closing f seats states places next ≡ closed_fine) where
    whole_ready : (some_rows (length places) ≡ true) × ((reading_names f).number ≡ 0)
    whole_ready = ready_once (some_rows (length places)) f (ready f seats states places next fine).0

    bar : (seats_bar C seats).number ≡ 0
    bar = (clear f seats states places next fine).0

    sessions : length C.sessions ≤ 32
    sessions = (file_limits f whole_ready.1).0

    roles : length seats ≤ 16
    roles = omega (arith, (bar_clear C seats bar).0, (file_limits f whole_ready.1).1)

    start_state : RowState K.limited S
    start_state =
        let (eights, ordered) = start_good f seats states places next fine in
        record { eights = eights; few = (omega (arith, threads_count C.sessions, sessions), omega arith); ordered = ordered }

    -- the search when the rows before j are done
    record Stage (j : ℕ) : Type 0 where
      tried : rows_tried K j (length places - j) (at K (words_before K j)) ≡ 0
      known : KnownRows K (known_by next (words_before K j))
      worded : words_before K j ≤ length next

    stage_first : Stage 0
    unfolding done_before collect known_by
    stage_first = record {
      tried = let all : length places - 0 ≡ length places = omega arith in ap (λ (x : ℕ). rows_tried K 0 x search_begins) all
          ∙ (explored f seats states places next fine).1;
      known = first-known C seats states places next sessions S start_state (rows_some f seats states places next fine)
          (explored f seats states places next fine).0;
      worded = omega arith;
    }

    row_ordered : (n j : ℕ) → KnownRows K n → j < n → is_ordered K j ≡ true
    row_ordered n j R lt = (and-eq-true_iff (row_fits (length seats) states (row_place K j))
        (in_order (length C.sessions) K.limited.seats (row_state K j))).1 (
          (row_fits_iff (length seats) states (row_place K j)).1 (R.fits j lt),
          (in_order_iff K.limited (row_state K j) (λ r e. let none = past_seats seats r roles e in (none, (R.ordered j lt).unlimited r none))).1
              (R.ordered j lt),
        )

    -- a row of the whole passes in a part too
    stage_next : (j : ℕ) → j < length places → Stage j → (row_tested K j (at K (words_before K j)) ≡ Some (at K (words_before K (j + 1)))) × Stage (j + 1)
    stage_next j low G =
        by-known (ltb j (known_by next (words_before K j))) refl (row_tried K (row_state K j) (at K (words_before K j))) refl
        (sym (row_on K j (length places) (at K (words_before K j)) low) ∙ G.tried)
      where
        by-known : (b : Bool) → ltb j (known_by next (words_before K j)) ≡ b → (t : Option Search) → row_tried K (row_state K j) (at K (words_before K j)) ≡ t
            → cond b (row_onward t j (λ x. rows_tried K (j + 1) (length places - (j + 1)) x)) (known_by next (words_before K j) + 1) ≡ 0
            → (row_tested K j (at K (words_before K j)) ≡ Some (at K (words_before K (j + 1)))) × Stage (j + 1)
        by-known false e t is z = let no : ⊥ = omega (arith, z) in absurd no
        by-known true e None is z = let no : ⊥ = omega (arith, z) in absurd no
        by-known true e (Some x) is z =
            let lt : j < known_by next (words_before K j) = ltb-true j (known_by next (words_before K j)) e in
            let (same, within) = row_passed K (row_state K j) (words_before K j) x is in
            let on : x ≡ at K (words_before K (j + 1)) = same ∙ ap (at K) (before_next K j) in
            let passes : row_tried K (row_state K j) (at K (words_before K j)) ≡ Some (at K (words_before K (j + 1))) = is ∙ ap Some on in (
              ap₂ (λ (a b : Bool). cond (a && b) (row_tried K (row_state K j) (at K (words_before K j))) None) e
                  (row_ordered (known_by next (words_before K j)) j G.known lt) ∙ passes,
              record {
                tried = subst (λ (q : Search). rows_tried K (j + 1) (length places - (j + 1)) q ≡ 0) on z;
                known = rows-known C seats states places next sessions (at K (words_before K j)) (at K (words_before K (j + 1))) j G.known lt passes;
                worded = omega (arith, within G.worded, before_next K j);
              },
            )

    stages : (j : ℕ) → j ≤ length places → Stage j
    stages zero le = stage_first
    stages (suc j) le = subst Stage (add-one j) (stage_next j (omega (arith, le)) (stages j (omega (arith, le)))).1

    part_between_lem : (m j : ℕ) → j + m ≤ length places
        → (part_tried K (words_before K (j + m)) j m (at K (words_before K j)) ≡ 0) × (words_before K j ≤ words_before K (j + m))
    unfolding part_tried
    part_between_lem zero j le =
        let here : words_before K j ≡ words_before K (j + zero) = let z : j ≡ j + zero = omega arith in ap (words_before K) z in
        (ap (λ (b : Bool). cond b 0 j) (eq-eqb (words_before K j) (words_before K (j + zero)) here), omega (arith, here))
    part_between_lem (suc m) j le =
        let there : j + 1 + m ≡ j + suc m = omega arith in
        let (later, rises) = part_between_lem m (j + 1) (omega (arith, le)) in
        let passes = (stage_next j (omega (arith, le)) (stages j (omega (arith, le)))).0 in
        let same : words_before K (j + 1 + m) ≡ words_before K (j + suc m) = ap (words_before K) there in (
          ap (λ (t : Option Search). row_onward t j (λ x. part_tried K (words_before K (j + suc m)) (j + 1) m x)) passes
              ∙ ap (λ (e : ℕ). part_tried K e (j + 1) m (at K (words_before K (j + 1)))) (sym same) ∙ later,
          omega (arith, rises, before_next K j, same),
        )

    -- The whole is fine: so is each part of it, with the words of the choices that are done in its rows.
    pub whole_has_part : (j k : ℕ) → j < k → k ≤ length places → closing_part f seats states places next (part_between K j k) ≡ closed_fine
    unfolding closing_part part_at_fault
    whole_has_part j k lt le =
        let there : j + (k - j) ≡ k = omega (arith, lt) in
        let (tried, rises) = part_between_lem (k - j) j (omega (arith, lt, le)) in
        let upto : words_before K (j + (k - j)) ≡ words_before K k = ap (words_before K) there in
        let rows = some_rows_lem (length places) whole_ready.0 in
        let asked : ltb 0 j || is_row K 0 S ≡ true = or-true (ltb 0 j) (is_row K 0 S) (explored f seats states places next fine).0 in
        fine_answer (some_part (length places) (length next) (part_between K j k)) f seats (part_at_fault K S (part_between K j k))
        ((and-eq-true_iff _ (leb (words_before K k) (length next))).1 (
          (and-eq-true_iff _ (leb (words_before K j) (words_before K k))).1 (
            (and-eq-true_iff _ (leb k (length places))).1 (
              (and-eq-true_iff (some_rows (length places)) (ltb j k)).1 (whole_ready.0, lt-ltb j k lt),
              le-leb k (length places) le,
            ),
            le-leb (words_before K j) (words_before K k) (omega (arith, rises, upto)),
          ),
          le-leb (words_before K k) (length next) (stages k le).worded,
        ))
        whole_ready.1 bar
        (ap (λ (b : Bool). cond b (part_tried K (words_before K k) j (k - j) (at K (words_before K j))) 1) asked
        ∙ ap (λ (e : ℕ). part_tried K e j (k - j) (at K (words_before K j))) (sym upto) ∙ tried)
      where
        or-true : (a b : Bool) → b ≡ true → a || b ≡ true
        or-true true b e = refl
        or-true false b e = e
