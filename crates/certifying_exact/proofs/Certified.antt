-- All schedules: what a certificate that is found fine says of every run of the file.
use Prim.Native.Nat.{ℕ, zero, suc, ◌+◌, ◌≤◌, ◌<◌}
use mathlib.Core.Path.{◌≡◌, refl, sym, ap, ◌∙◌, subst}
use mathlib.Core.Bool.{Bool, true, false, cond, true≢false}
use mathlib.Core.List.{List, [], ◌∷◌}
use native.Mathlib.Omega.{arith}
use lib.Dec.{eqb}
use lib.ListN.{length, get_or}
use borrow.Author.Tests.{eqb-true, eq-eqb}
use Rattle.format.specs.declared.Verdict.{Verdict}
use Rattle.format.specs.declared.Session.{Session}
use Rattle.format.specs.Contents.{Contents, contents_of}
use Rattle.reading_exact.specs.Lists.{All}
use Rattle.running.specs.Run.{unready}
use Rattle.running_exact.proofs.OutputWords.{Eight}
use Rattle.steps.specs.Choice.{State}
use Rattle.choices.specs.Choices.{threads_from, start, Ran, ran_of}
use Rattle.rounds.specs.Round.{Taken, refuses, waits, steps}
use Rattle.seats.specs.Seats.{Limited, limited_of, SeatedState, seated_choice, SeatedRan, follow_seated, seated_run, seated_start, seated_ran_of, plainly}
use Rattle.seats.specs.SeatOrder.{Ordered}
use Rattle.seats.proofs.SeatedStart.{start_ordered}
use Rattle.seats.proofs.SeatedPlain.{zeros_same}
use Rattle.seated.specs.SeatedEntry.{seats_bar}
use Rattle.seated.proofs.EntryLaws.{bar_clear}
use Rattle.schedules.specs.Tables.{after_choice, state_after, Closed}
use Rattle.schedules.proofs.AllSchedules.{every_state_is_a_row, every_row_has_a_path, path_ends, one_row_generated}
use Rattle.certifying.specs.declared.Closing.{Closing}
use Rattle.certifying.specs.Certificate.{Certificate, certificate_of, row_state, is_row, rows_tried, search_begins, row_at_fault, closed_fine, closed_by, fault_at, some_rows, closing_by, closing}
use Rattle.certifying.proofs.EntryLaws.{some_rows_lem}
use Rattle.certifying_exact.proofs.ChoiceBounds.{seated_threads, seated_refuses_unknown}
use Rattle.certifying_exact.proofs.Explored.{Good, good_read, Reached, TriedFrom, rows_explored}

run_state : (L : Limited) (ws : List ℕ) (S : SeatedState) → (seated_run L S ws).seating ≡ state_after (seated_choice L) S ws
unfolding seated_run state_after
run_state L [] S = refl
run_state L (i ∷ []) S = refl
run_state L (i ∷ p ∷ ws) S = go (seated_choice L S i p) (run_state L ws)
  where
    go : (a : Taken SeatedState) → ((T : SeatedState) → (seated_run L T ws).seating ≡ state_after (seated_choice L) T ws)
        → (follow_seated S a (λ T. seated_run L T ws)).seating ≡ after_choice S a (λ T. state_after (seated_choice L) T ws)
    go (refuses n) ih = refl
    go (waits T) ih = ih T
    go (steps T) ih = ih T

pub start_eight : (ss : List Session) → All Eight (threads_from ss)
unfolding threads_from
start_eight [] = tt
start_eight (s ∷ ss) = (refl, start_eight ss)

-- an answer that is fine comes by way of no refusal
pub not_refused : (v : Verdict) (x : Closing) → cond (eqb v.number 0) x (closed_by v) ≡ closed_fine → (v.number ≡ 0) × (x ≡ closed_fine)
not_refused v x e = go (eqb v.number 0) refl e
  where
    go : (b : Bool) → eqb v.number 0 ≡ b → cond b x (closed_by v) ≡ closed_fine → (v.number ≡ 0) × (x ≡ closed_fine)
    go true t h = (eqb-true v.number 0 t, h)
    go false t h =
        let zero_number : v.number ≡ 0 = ap (λ (c : Closing). c.number) h in
        let clash : true ≡ false = sym (eq-eqb v.number 0 zero_number) ∙ t in
        absurd (true≢false clash)

pub no_fault : (k : ℕ) → fault_at k ≡ closed_fine → k ≡ 0
no_fault k e = go (eqb k 0) refl e
  where
    go : (b : Bool) → eqb k 0 ≡ b → cond b closed_fine (record { number = 18; place = 0; row = k }) ≡ closed_fine → k ≡ 0
    go true t h = eqb-true k 0 t
    go false t h = let no : ⊥ = omega (arith, ap (λ (c : Closing). c.number) h) in absurd no

module _ (f seats states places next : List ℕ) (fine : closing f seats states places next ≡ closed_fine) where
  abbrev C : Contents
  C = contents_of f

  abbrev K : Certificate
  K = certificate_of C seats states places next

  abbrev L : Limited
  L = limited_of C seats

  abbrev S : SeatedState
  S = seated_start C

  pub ready : ((unready (some_rows (length places)) f).number ≡ 0) × (closing_by C seats states places next ≡ closed_fine)
  unfolding closing
  ready = not_refused (unready (some_rows (length places)) f) (closing_by C seats states places next) fine

  pub clear : ((seats_bar C seats).number ≡ 0) × (fault_at (row_at_fault K S) ≡ closed_fine)
  clear = not_refused (seats_bar C seats) (fault_at (row_at_fault K S)) ready.1

  pub rows_some : 0 < length places
  rows_some = go (some_rows (length places)) refl ready.0
    where
      go : (b : Bool) → some_rows (length places) ≡ b → (unready b f).number ≡ 0 → 0 < length places
      go true e h = (some_rows_lem (length places) e).0
      go false e h = let no : ⊥ = omega (arith, h) in absurd no

  pub explored : (is_row K 0 S ≡ true) × (rows_tried K 0 (length places) search_begins ≡ 0)
  unfolding row_at_fault
  explored = go (is_row K 0 S) refl (no_fault (row_at_fault K S) clear.1)
    where
      go : (b : Bool) → is_row K 0 S ≡ b → cond b (rows_tried K 0 (length places) search_begins) 1 ≡ 0 → (is_row K 0 S ≡ true) × (rows_tried K 0 (length places) search_begins ≡ 0)
      go true e h = (e, h)
      go false e h = let no : ⊥ = omega (arith, h) in absurd no

  pub start_good : Good C seats states places next S
  start_good = (start_eight C.sessions, start_ordered C seats (bar_clear C seats clear.0).1)

  first : S ≡ row_state K 0
  first = sym (good_read C seats states places next S start_good 0 explored.0)

  begins : Reached C seats states places next 1
  begins = record {
    within = rows_some;
    good = λ k lt. let z : 0 ≡ k = omega (arith, lt) in subst (λ (x : ℕ). Good C seats states places next (row_state K x)) z (subst (Good C seats states places next) first start_good);
    words = λ k lt. let z : 0 ≡ k = omega (arith, lt) in subst (λ (x : ℕ). is_row K x (row_state K x) ≡ true) z (subst (λ (T : SeatedState). is_row K 0 T ≡ true) first explored.0);
    generated = one_row_generated (seated_choice L) seated_threads (row_state K);
  }

  search : TriedFrom C seats states places next 0 × Reached C seats states places next (length places)
  search = rows_explored C seats states places next (length places) 0 search_begins (omega arith) (omega arith) begins explored.1

  pub table_closed : Closed (seated_choice L) seated_threads (row_state K) (length places) S
  table_closed = record { some = rows_some; first = first; tried = λ j low. search.0 j (omega arith) low }

  -- After every list of choices, of any words and any length, the run stands in a state of the table.
  pub schedule_is_a_row : (ws : List ℕ) → (k : ℕ) × (k < length places) × ((seated_ran_of f seats ws).seating ≡ row_state K k) × (is_row K k (seated_ran_of f seats ws).seating ≡ true)
  schedule_is_a_row ws =
      let (k, low, is) = every_state_is_a_row (seated_choice L) seated_threads (row_state K) (length places) (seated_refuses_unknown L) S table_closed ws in
      let same : (seated_ran_of f seats ws).seating ≡ row_state K k = run_state L ws S ∙ is in
      (k, low, same, ap (is_row K k) same ∙ search.1.words k low)

  -- Every row is the state after some list of choices.
  pub row_is_reached : (k : ℕ) → k < length places → (ws : List ℕ) × ((seated_ran_of f seats ws).seating ≡ row_state K k)
  row_is_reached k low =
      let (ws, path) = every_row_has_a_path (seated_choice L) seated_threads (row_state K) (length places) S first search.1.generated k low in
      (ws, run_state L ws S ∙ path_ends (seated_choice L) ws S (row_state K k) path)

  -- So what holds of all rows holds of every schedule.
  pub each_row_holds : (P : SeatedState → Type 0) → ((k : ℕ) → k < length places → P (row_state K k)) → (ws : List ℕ) → P (seated_ran_of f seats ws).seating
  each_row_holds P each ws =
      let (k, low, is, words) = schedule_is_a_row ws in
      subst P (sym is) (each k low)

  -- With a table of seats of zeros: the plain run.
  pub plain_schedule_is_a_row : All (λ w. w ≡ 0) seats → (ws : List ℕ) → (k : ℕ) × (k < length places) × ((ran_of f ws).state ≡ (row_state K k).state)
  plain_schedule_is_a_row zeros ws =
      let (k, low, is, words) = schedule_is_a_row ws in
      (k, low, sym (ap (λ (r : Ran). r.state) (zeros_same f seats zeros ws)) ∙ ap (λ (T : SeatedState). T.state) is)
