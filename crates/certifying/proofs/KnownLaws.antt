-- The rows that are known are states in order, and stay so.
use Prim.Native.Nat.{ℕ, zero, suc, ◌+◌, ◌≤◌, ◌<◌}
use mathlib.Core.Path.{◌≡◌, refl, sym, ap, subst}
use mathlib.Core.Bool.{Bool, true, false, cond, ◌&&◌}
use mathlib.Core.List.{List, [], ◌∷◌}
use native.Mathlib.Omega.{arith}
use lib.Dec.{eqb, leb, ltb}
use lib.ListN.{length, get_or}
use borrow.Author.Count.{below_more}
use borrow.Author.Tests.{eqb-true, eqb-false, leb-true, ltb-true}
use Rattle.format.specs.Contents.{Contents}
use Rattle.reading_exact.specs.Lists.{All}
use Rattle.steps.specs.Records.{threads_in}
use Rattle.steps.specs.Beside.{thread_count, made_count}
use Rattle.steps.proofs.TableLaws.{threads_length}
use Rattle.running_exact.proofs.OutputWords.{Eight}
use Rattle.rounds.specs.Round.{Taken, refuses, waits, steps}
use Rattle.schedules.specs.Tables.{LeadsTo}
use Rattle.seats.specs.Seats.{Limited, limited_of, SeatedState, seated_choice}
use Rattle.seats.specs.SeatOrder.{Ordered, AfterAnswer}
use Rattle.seats.proofs.SeatedKept.{choice_ordered}
use Rattle.seats.proofs.SeatedRuns.{line_fits}
use Rattle.seated.specs.SeatedTables.{seated_in, Seated}
use Rattle.certifying.specs.declared.Search.{Search}
use Rattle.std.specs.Prelude.{Option, None, Some}
use Rattle.rows.specs.Rows.{row_threads, threads_from, RowFits}
use Rattle.certifying.specs.Certificate.{Certificate, certificate_of, row_place, row_state, is_row, arrives, taken_tried, choice_tried, onward, partners_tried, threads_tried, row_tried, IfPasses}
use Rattle.certifying.specs.Kept.{KnownRows}
use Rattle.rows.proofs.StandLaws.{made_length}
use Rattle.rows.proofs.ReadLaws.{Readable, state_read, state_fits}
use Rattle.certifying.proofs.ChoiceFits.{Few, choice_eight, choice_few}

if_onward : (P : Search → Type 0) (t : Option Search) (go : Search → Option Search) → IfPasses t P → ((x : Search) → P x → IfPasses (go x) P) → IfPasses (onward t go) P
if_onward P None go h more = tt
if_onward P (Some q) go h more = more q h

-- what each choice of a state keeps, all of them keep
module _ (K : Certificate) (S : SeatedState) (P : Search → Type 0) (each : (i p : ℕ) (q : Search) → P q → IfPasses (choice_tried K S i p q) P) where
  partners_keep : (i p n : ℕ) (q : Search) → P q → IfPasses (partners_tried K S i p n q) P
  unfolding partners_tried
  partners_keep i p zero q h = h
  partners_keep i p (suc n) q h = if_onward P (choice_tried K S i p q) (λ x. partners_tried K S i (p + 1) n x) (each i p q h)
      (λ x g. partners_keep i (p + 1) n x g)

  threads_keep : (i n : ℕ) (q : Search) → P q → IfPasses (threads_tried K S i n q) P
  unfolding threads_tried
  threads_keep i zero q h = h
  threads_keep i (suc n) q h =
      if_onward P (partners_tried K S i 0 (length S.state.threads + 1) q) (λ x. threads_tried K S (i + 1) n x)
      (partners_keep i 0 (length S.state.threads + 1) q h) (λ x g. threads_keep (i + 1) n x g)

  pub row_keeps : (q q' : Search) → P q → row_tried K S q ≡ Some q' → P q'
  row_keeps q q' h e = subst (λ (t : Option Search). IfPasses t P) e (threads_keep 1 (length S.state.threads) q h)

-- a choice that leads to the row that is named for it: an earlier one, or the next
module _ (K : Certificate) (S : SeatedState) (q : Search) (P : Search → Type 0) where
  abbrev named : ℕ
  named = get_or K.next q.cursor 0

  pub if_arrives : (q.cursor < length K.next → named < q.known → named < length K.places → is_row K named S ≡ true → P
      (record { known = q.known; cursor = q.cursor + 1 }))
      → (q.cursor < length K.next → named ≡ q.known → named < length K.places → is_row K named S ≡ true → P
      (record { known = q.known + 1; cursor = q.cursor + 1 }))
      → IfPasses (arrives K.roles K.states K.places K.next S q) P
  unfolding arrives
  if_arrives old new = go (ltb q.cursor (length K.next)) refl (leb named q.known) refl (ltb named (length K.places)) refl (is_row K named S) refl
      (eqb named q.known) refl
    where
      go : (a : Bool) → ltb q.cursor (length K.next) ≡ a → (b : Bool) → leb named q.known ≡ b → (c : Bool) → ltb named (length K.places) ≡ c
          → (d : Bool) → is_row K named S ≡ d → (e : Bool) → eqb named q.known ≡ e
          → IfPasses (cond (a && (b && (c && d))) (Some (record { known = cond e (q.known + 1) q.known; cursor = q.cursor + 1 })) None) P
      go false ea b eb c ec d ed e ee = tt
      go true ea false eb c ec d ed e ee = tt
      go true ea true eb false ec d ed e ee = tt
      go true ea true eb true ec false ed e ee = tt
      go true ea true eb true ec true ed true ee =
          new (ltb-true q.cursor (length K.next) ea) (eqb-true named q.known ee) (ltb-true named (length K.places) ec) ed
      go true ea true eb true ec true ed false ee =
          old (ltb-true q.cursor (length K.next) ea) (omega (arith, leb-true named q.known eb, eqb-false named q.known ee))
          (ltb-true named (length K.places) ec) ed

-- what holds where no choice is refused holds of the trial
pub if_taken : (K : Certificate) (q : Search) (P : Search → Type 0) (Q : SeatedState → Type 0) → P q
    → ((T : SeatedState) → Q T → IfPasses (arrives K.roles K.states K.places K.next T q) P) → (a : Taken SeatedState) → LeadsTo Q a
    → IfPasses (taken_tried K a q) P
if_taken K q P Q h leads (refuses n) g = h
if_taken K q P Q h leads (waits T) g = leads T g
if_taken K q P Q h leads (steps T) g = leads T g

-- a table's threads have eight variables each
table_eights : (w : List ℕ) (p k : ℕ) → All Eight (threads_in w p k)
unfolding threads_in
table_eights w p zero = tt
table_eights w p (suc k) = (refl, table_eights w (p + 12) k)

past_seats : (l : List ℕ) (r : ℕ) → length l ≤ r → ◌≡◌ {A = ℕ} (get_or l r 0) 0
past_seats [] r le = refl
past_seats (x ∷ l) zero le = let no : ⊥ = omega (arith, le) in absurd no
past_seats (x ∷ l) (suc r) le = past_seats l r (omega (arith, le))

-- a state in order has lines of its own roles alone
pub ordered_readable : (C : Contents) (seats : List ℕ) (S : SeatedState) → All Eight S.state.threads → Ordered (limited_of C seats) S
    → Readable (length seats) S
ordered_readable C seats S eights O = record {
  vars = eights;
  owners = O.owners;
  nobody = O.unlimited 0 refl;
  others = λ r past. O.unlimited r (past_seats (0 ∷ seats) r (omega (arith, past)));
}

row_eights : (s : List ℕ) (p k : ℕ) → All Eight (row_threads s p k)
unfolding row_threads
row_eights s p zero = tt
row_eights s p (suc k) = (refl, row_eights s (p + 12) k)

row_count : (s : List ℕ) (p k : ℕ) → length (row_threads s p k) ≡ k
unfolding row_threads
row_count s p zero = refl
row_count s p (suc k) = ap suc (row_count s (p + 12) k)

-- a state that a row can have
pub record RowState (L : Limited) (S : SeatedState) : Type 0 where
  pub eights : All Eight S.state.threads
  pub few : Few S.state
  pub ordered : Ordered L S

pub held_state : (L : Limited) (w b os ls : List ℕ) → Seated L w b os ls → RowState L (seated_in w b os ls)
held_state L w b os ls Z = record {
  eights = table_eights w 0 (thread_count b);
  few = (omega (arith, threads_length w 0 (thread_count b), Z.sized.threads), omega (arith, made_length b 2 (made_count b), Z.sized.made));
  ordered = Z.ordered;
}

state_after : (L : Limited) (S : SeatedState) → RowState L S → (i p : ℕ) → LeadsTo (RowState L) (seated_choice L S i p)
state_after L S R i p = go (seated_choice L S i p) (choice_eight L S i p R.eights) (choice_few L S i p R.eights R.few)
    (choice_ordered L S R.ordered i p)
  where
    go : (a : Taken SeatedState) → LeadsTo (λ T. All Eight T.state.threads) a → LeadsTo (λ T. Few T.state) a → AfterAnswer a (Ordered L)
        → LeadsTo (RowState L) a
    go (refuses n) e f o = tt
    go (waits T) e f o = record { eights = e; few = f; ordered = o }
    go (steps T) e f o = record { eights = e; few = f; ordered = o }

module _ (C : Contents) (seats states places next : List ℕ) (sessions : length C.sessions ≤ 32) where
  abbrev K : Certificate
  K = certificate_of C seats states places next

  row-known : (S : SeatedState) → RowState K.limited S → (k : ℕ) → is_row K k S ≡ true
      → RowFits (length seats) states (row_place K k) × Ordered K.limited (row_state K k)
  row-known S R k stands =
      let readable : Readable (length seats) S = ordered_readable C seats S R.eights R.ordered in (
        state_fits states (length seats) S readable (row_place K k) stands R.few.0 R.few.1
            (λ r. omega (arith, line_fits K.limited S R.ordered r, sessions)),
        subst (Ordered K.limited) (sym (state_read states (length seats) S readable (row_place K k) stands)) R.ordered,
      )

  one_more_lem : (n k : ℕ) → KnownRows K n → k ≡ n → k < length places → RowFits (length seats) states (row_place K k) × Ordered K.limited (row_state K k)
      → KnownRows K (n + 1)
  one_more_lem n k R e row (fits, ordered) = record {
    within = omega (arith, row, e);
    fits = below_more (λ j. RowFits (length seats) states (row_place K j)) n R.fits (subst (λ (x : ℕ). RowFits (length seats) states (row_place K x)) e fits);
    ordered = below_more (λ j. Ordered K.limited (row_state K j)) n R.ordered (subst (λ (x : ℕ). Ordered K.limited (row_state K x)) e ordered);
  }

  none-known : KnownRows K 0
  none-known = record {
    within = omega arith;
    fits = λ k lt. let no : ⊥ = omega (arith, lt) in absurd no;
    ordered = λ k lt. let no : ⊥ = omega (arith, lt) in absurd no;
  }

  -- the first row has the start's words
  pub first-known : (S : SeatedState) → RowState K.limited S → 0 < length places → is_row K 0 S ≡ true → KnownRows K 1
  first-known S R some stands = one_more_lem 0 0 none-known refl some (row-known S R 0 stands)

  known_state : (n j : ℕ) → KnownRows K n → j < n → RowState K.limited (row_state K j)
  known_state n j R lt = record {
    eights = row_eights states (threads_from states (row_place K j)) (get_or states (row_place K j) 0);
    few = (
      omega (arith, row_count states (threads_from states (row_place K j)) (get_or states (row_place K j) 0), (R.fits j lt).threads),
      omega (arith, made_length states (row_place K j + 2) (get_or states (row_place K j + 1) 0), (R.fits j lt).made),
    );
    ordered = R.ordered j lt;
  }

  -- a known row that passes: rows that are known then are states in order too
  pub rows-known : (q q' : Search) (j : ℕ) → KnownRows K q.known → j < q.known → row_tried K (row_state K j) q ≡ Some q' → KnownRows K q'.known
  rows-known q q' j R lt e = row_keeps K (row_state K j) (λ x. KnownRows K x.known) each q q' R e
    where
      arrived : (x : Search) → KnownRows K x.known → (T : SeatedState) → RowState K.limited T
          → IfPasses (arrives (length seats) states places next T x) (λ y. KnownRows K y.known)
      arrived x h T t =
          if_arrives K T x (λ y. KnownRows K y.known) (λ _ _ _ _. h) (λ _ is low stands. one_more_lem x.known (get_or next x.cursor 0) h is low
          (row-known T t (get_or next x.cursor 0) stands))

      each : (i p : ℕ) (x : Search) → KnownRows K x.known → IfPasses (choice_tried K (row_state K j) i p x) (λ y. KnownRows K y.known)
      each i p x h =
          if_taken K x (λ y. KnownRows K y.known) (RowState K.limited) h (arrived x h) (seated_choice K.limited (row_state K j) i p)
          (state_after K.limited (row_state K j) (known_state q.known j R lt) i p)

-- a row that passes leaves no row less known
pub row_grows : (K : Certificate) (S : SeatedState) (q q' : Search) → row_tried K S q ≡ Some q' → q.known ≤ q'.known
row_grows K S q q' e = row_keeps K S (λ x. q.known ≤ x.known) each q q' (omega arith) e
  where
    anything : (a : Taken SeatedState) → LeadsTo (λ T. Unit {0}) a
    anything (refuses n) = tt
    anything (waits T) = tt
    anything (steps T) = tt

    each : (i p : ℕ) (x : Search) → q.known ≤ x.known → IfPasses (choice_tried K S i p x) (λ y. q.known ≤ y.known)
    each i p x h =
        if_taken K x (λ y. q.known ≤ y.known) (λ T. Unit {0}) h (λ T u. if_arrives K T x (λ y. q.known ≤ y.known) (λ _ _ _ _. h)
        (λ _ _ _ _. omega (arith, h)))
        (seated_choice K.limited S i p) (anything (seated_choice K.limited S i p))
