-- A search that finds nothing amiss has tried each choice of each row, and reached each row.
use Prim.Native.Nat.{ℕ, zero, suc, ◌+◌, ◌-◌, ◌≤◌, ◌<◌}
use mathlib.Core.Path.{◌≡◌, refl, sym, ap, ap₂, ◌∙◌, subst}
use mathlib.Core.Bool.{Bool, true, false, cond, ◌&&◌}
use mathlib.Core.List.{List, [], ◌∷◌}
use native.Mathlib.Omega.{arith}
use lib.Dec.{eqb, leb, ltb}
use lib.ListN.{length, get_or}
use borrow.Author.Count.{below_more}
use borrow.Author.Tests.{eqb-true, eqb-false, ltb-true, ltb-false}
use Rattle.format.specs.Contents.{Contents}
use Rattle.reading_exact.specs.Lists.{All}
use Rattle.running_exact.proofs.OutputWords.{Eight}
use Rattle.rounds.specs.Round.{Taken, refuses, waits, steps}
use Rattle.seats.specs.Seats.{Limited, limited_of, SeatedState, seated_choice}
use Rattle.seats.specs.SeatOrder.{Ordered, AfterAnswer}
use Rattle.seats.proofs.SeatedKept.{choice_ordered}
use Rattle.schedules.specs.Tables.{LeadsTo, Yields, IsRow, TriedAt, Generated}
use Rattle.schedules.proofs.AllSchedules.{new_row_generated}
use Rattle.certifying.specs.declared.Search.{Search}
use Rattle.std.specs.Prelude.{Option, None, Some}
use Rattle.rows.specs.Rows.{row_words, stands_at}
use Rattle.certifying.specs.Certificate.{Certificate, certificate_of, row_place, row_state, is_row, arrives, taken_tried, choice_tried, onward, partners_tried, threads_tried, row_tried, row_onward, rows_tried, IfPasses}
use Rattle.certifying.proofs.ChoiceFits.{choice_eight}
use Rattle.rows.proofs.ReadLaws.{Readable, state_read}
use Rattle.certifying.proofs.KnownLaws.{ordered_readable}
use Rattle.certifying_exact.proofs.ChoiceBounds.{seated_threads}

module _ (C : Contents) (seats states places next : List ℕ) where
  abbrev K : Certificate
  K = certificate_of C seats states places next

  abbrev L : Limited
  L = limited_of C seats

  abbrev n : ℕ
  n = length places

  -- a state that its words give back
  abbrev pub Good : SeatedState → Type 0
  Good S = All Eight S.state.threads × Ordered L S

  both : (a : Taken SeatedState) → LeadsTo (λ T. All Eight T.state.threads) a → AfterAnswer a (Ordered L) → LeadsTo Good a
  both (refuses x) e o = tt
  both (waits T) e o = (e, o)
  both (steps T) e o = (e, o)

  good_after : (S : SeatedState) → Good S → (i p : ℕ) → LeadsTo Good (seated_choice L S i p)
  good_after S (e, o) i p = both (seated_choice L S i p) (choice_eight L S i p e) (choice_ordered L S o i p)

  pub good_read : (S : SeatedState) → Good S → (k : ℕ) → is_row K k S ≡ true → row_state K k ≡ S
  good_read S (e, o) k stands = state_read states (length seats) S (ordered_readable C seats S e o) (row_place K k) stands

  -- the known rows are states that a run comes to
  pub record Reached (m : ℕ) : Type 0 where
    pub within : m ≤ n
    pub good : (k : ℕ) → k < m → Good (row_state K k)
    pub words : (k : ℕ) → k < m → is_row K k (row_state K k) ≡ true
    pub generated : Generated (seated_choice L) seated_threads (row_state K) m

  abbrev Leads : Taken SeatedState → Type 0
  Leads a = LeadsTo (IsRow (seated_choice L) seated_threads (row_state K) n) a

  module _ (j : ℕ) where
    abbrev row : SeatedState
    row = row_state K j

    abbrev On : Search → Type 0
    On x = Reached x.known × (j < x.known)

    -- a choice that leads to a state
    arrived : (i p : ℕ) (q : Search) → On q → (T : SeatedState) → Good T → Yields (seated_choice L row i p) T
        → IfPasses (arrives (length seats) states places next T q) (λ x. IsRow (seated_choice L) seated_threads (row_state K) n T × On x)
    unfolding arrives
    arrived i p q (R, lt) T g yields = go (ltb q.cursor (length next)) (leb k q.known) (ltb k n) refl (is_row K k T) refl (eqb k q.known) refl
      where
        k : ℕ
        k = get_or next q.cursor 0

        go : (a b c : Bool) → ltb k n ≡ c → (d : Bool) → is_row K k T ≡ d → (e : Bool) → eqb k q.known ≡ e
            → IfPasses (cond (a && (b && (c && d))) (Some (record { known = cond e (q.known + 1) q.known; cursor = q.cursor + 1 })) None)
            (λ x. IsRow (seated_choice L) seated_threads (row_state K) n T × On x)
        go false b c ec d ed e ee = tt
        go true false c ec d ed e ee = tt
        go true true false ec d ed e ee = tt
        go true true true ec false ed e ee = tt
        go true true true ec true ed false ee = ((k, ltb-true k n ec, sym (good_read T g k ed)), (R, lt))
        go true true true ec true ed true ee =
            let is : k ≡ q.known = eqb-true k q.known ee in
            let low : k < n = ltb-true k n ec in
            let read : row_state K q.known ≡ T = ap (row_state K) (sym is) ∙ good_read T g k ed in
            let more : suc q.known ≡ q.known + 1 = omega arith in
            let R' : Reached (q.known + 1) = record {
              within = omega (arith, low, is);
              good = below_more (λ x. Good (row_state K x)) q.known R.good (subst Good (sym read) g);
              words = below_more (λ x. is_row K x (row_state K x) ≡ true) q.known R.words (ap₂ (is_row K) (sym is) read ∙ ed);
              generated = subst (Generated (seated_choice L) seated_threads (row_state K)) more
                  (new_row_generated (seated_choice L) seated_threads (row_state K) q.known j i p lt R.generated (subst (Yields (seated_choice L row i p)) (sym read) yields));
            } in
            ((k, low, sym (good_read T g k ed)), (R', omega (arith, lt)))

    choice_explored : (i p : ℕ) (q : Search) → On q → IfPasses (choice_tried K row i p q) (λ x. Leads (seated_choice L row i p) × On x)
    choice_explored i p q R = go (seated_choice L row i p) refl (good_after row (R.0.good j R.1) i p)
      where
        go : (a : Taken SeatedState) → seated_choice L row i p ≡ a → LeadsTo Good a → IfPasses (taken_tried K a q) (λ x. Leads a × On x)
        go (refuses x) e g = (tt, R)
        go (waits T) e g = arrived i p q R T g (subst (λ (y : Taken SeatedState). Yields y T) (sym e) refl)
        go (steps T) e g = arrived i p q R T g (subst (λ (y : Taken SeatedState). Yields y T) (sym e) refl)

    -- one that leads, and those after it
    first_and_later : (P : ℕ → Type 0) (a m : ℕ) → P a → ((x : ℕ) → a + 1 ≤ x → x < a + 1 + m → P x) → (x : ℕ) → a ≤ x → x < a + suc m → P x
    first_and_later P a m here later x from to = at (eqb x a) refl
      where
        at : (b : Bool) → eqb x a ≡ b → P x
        at true f = subst P (sym (eqb-true x a f)) here
        at false f = later x (omega (arith, from, eqb-false x a f)) (omega (arith, to))

    -- so many partners from p on
    abbrev PartnersLead : ℕ → ℕ → ℕ → Type 0
    PartnersLead i p m = (x : ℕ) → p ≤ x → x < p + m → Leads (seated_choice L row i x)

    partners_explored : (i p m : ℕ) (q : Search) → On q → IfPasses (partners_tried K row i p m q) (λ x. PartnersLead i p m × On x)
    unfolding partners_tried
    partners_explored i p zero q R = ((λ x from to. let no : ⊥ = omega (arith, from, to) in absurd no), R)
    partners_explored i p (suc m) q R = go (choice_tried K row i p q) (choice_explored i p q R) (λ x. partners_explored i (p + 1) m x)
      where
        then : (t : Option Search) → Leads (seated_choice L row i p) → IfPasses t (λ y. PartnersLead i (p + 1) m × On y) → IfPasses t (λ y. PartnersLead i p (suc m) × On y)
        then None here h = tt
        then (Some y) here (later, rest) = (first_and_later (λ x. Leads (seated_choice L row i x)) p m here later, rest)

        go : (t : Option Search) → IfPasses t (λ x. Leads (seated_choice L row i p) × On x)
            → ((x : Search) → On x → IfPasses (partners_tried K row i (p + 1) m x) (λ y. PartnersLead i (p + 1) m × On y))
            → IfPasses (onward t (λ x. partners_tried K row i (p + 1) m x)) (λ y. PartnersLead i p (suc m) × On y)
        go None h ih = tt
        go (Some x) (here, R') ih = then (partners_tried K row i (p + 1) m x) here (ih x R')

    -- so many threads from i on
    abbrev ThreadLeads : ℕ → Type 0
    ThreadLeads i = PartnersLead i 0 (length row.state.threads + 1)

    abbrev ThreadsLead : ℕ → ℕ → Type 0
    ThreadsLead i m = (x : ℕ) → i ≤ x → x < i + m → ThreadLeads x

    threads_explored : (i m : ℕ) (q : Search) → On q → IfPasses (threads_tried K row i m q) (λ x. ThreadsLead i m × On x)
    unfolding threads_tried
    threads_explored i zero q R = ((λ x from to. let no : ⊥ = omega (arith, from, to) in absurd no), R)
    threads_explored i (suc m) q R =
        go (partners_tried K row i 0 (length row.state.threads + 1) q) (partners_explored i 0 (length row.state.threads + 1) q R) (λ x. threads_explored (i + 1) m x)
      where
        then : (t : Option Search) → ThreadLeads i → IfPasses t (λ y. ThreadsLead (i + 1) m × On y) → IfPasses t (λ y. ThreadsLead i (suc m) × On y)
        then None here h = tt
        then (Some y) here (later, rest) = (first_and_later ThreadLeads i m here later, rest)

        go : (t : Option Search) → IfPasses t (λ x. ThreadLeads i × On x)
            → ((x : Search) → On x → IfPasses (threads_tried K row (i + 1) m x) (λ y. ThreadsLead (i + 1) m × On y))
            → IfPasses (onward t (λ x. threads_tried K row (i + 1) m x)) (λ y. ThreadsLead i (suc m) × On y)
        go None h ih = tt
        go (Some x) (here, R') ih = then (threads_tried K row (i + 1) m x) here (ih x R')

    pub row_explored : (q q' : Search) → Reached q.known → j < q.known → row_tried K row q ≡ Some q'
        → TriedAt (seated_choice L) seated_threads (row_state K) n j × (Reached q'.known × (j < q'.known))
    row_explored q q' R lt e =
        let h = subst (λ (t : Option Search). IfPasses t (λ x. ThreadsLead 1 (length row.state.threads) × On x)) e (threads_explored 1 (length row.state.threads) q (R, lt)) in
        ((λ i p one most small. h.0 i one (omega (arith, most)) p (omega arith) (omega (arith, small))), h.1)

  abbrev pub TriedFrom : ℕ → Type 0
  TriedFrom j = (x : ℕ) → j ≤ x → x < n → TriedAt (seated_choice L) seated_threads (row_state K) n x

  -- the rows from j on
  pub rows_explored : (m j : ℕ) (q : Search) → j + m ≡ n → j ≤ q.known → Reached q.known → rows_tried K j m q ≡ 0 → TriedFrom j × Reached n
  unfolding rows_tried
  rows_explored zero j q all le R e =
      ((λ x from to. let no : ⊥ = omega (arith, from, to, all) in absurd no), subst Reached (omega (arith, all, le, R.within)) R)
  rows_explored (suc m) j q all le R e = by-known (ltb j q.known) refl e (λ x. rows_explored m (j + 1) x)
    where
      Later : Type 0
      Later = (x : Search) → j + 1 + m ≡ n → j + 1 ≤ x.known → Reached x.known → rows_tried K (j + 1) m x ≡ 0 → TriedFrom (j + 1) × Reached n

      by_row : (t : Option Search) → row_tried K (row_state K j) q ≡ t → j < q.known → row_onward t j (λ x. rows_tried K (j + 1) m x) ≡ 0 → Later → TriedFrom j × Reached n
      by_row None is lt z later = let no : ⊥ = omega (arith, z) in absurd no
      by_row (Some x) is lt z later =
          let (here, on) = row_explored j q x R lt is in
          let (rest, whole) = later x (omega (arith, all)) (omega (arith, on.1)) on.0 z in
          (from_here here rest, whole)
        where
          from_here : TriedAt (seated_choice L) seated_threads (row_state K) n j → TriedFrom (j + 1) → TriedFrom j
          from_here here rest y from to = at (eqb y j) refl
            where
              at : (b : Bool) → eqb y j ≡ b → TriedAt (seated_choice L) seated_threads (row_state K) n y
              at true f = subst (TriedAt (seated_choice L) seated_threads (row_state K) n) (sym (eqb-true y j f)) here
              at false f = rest y (omega (arith, from, eqb-false y j f)) to

      by-known : (b : Bool) → ltb j q.known ≡ b → cond b (row_onward (row_tried K (row_state K j) q) j (λ x. rows_tried K (j + 1) m x)) (q.known + 1) ≡ 0 → Later → TriedFrom j × Reached n
      by-known true k z later = by_row (row_tried K (row_state K j) q) refl (ltb-true j q.known k) z later
      by-known false k z later = let no : ⊥ = omega (arith, z) in absurd no
