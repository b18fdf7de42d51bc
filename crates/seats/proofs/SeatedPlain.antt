-- Runs with seats against runs without.
use Prim.Native.Nat.{ℕ, zero, suc, ◌+◌, ◌≤◌, ◌<◌}
use mathlib.Core.Path.{◌≡◌, refl, sym, ap, ◌∙◌, subst}
use mathlib.Core.Logic.{◌≢◌}
use mathlib.Core.List.{List, [], ◌∷◌}
use native.Mathlib.Omega.{arith}
use lib.ListN.{get_or}
use Rattle.format.specs.Contents.{contents_of}
use Rattle.checking.specs.Check.{checking}
use Rattle.format.specs.Answers.{fine}
use Rattle.placing.specs.Placing.{placing, placed_bytes}
use Rattle.steps.specs.Choice.{State, Chosen, choice}
use Rattle.choices.specs.Choices.{start, Ran, follow, run, ran_of}
use Rattle.reading_exact.specs.Lists.{All}
use Rattle.running_exact.specs.Steps.{Steps}
use Rattle.running_exact.proofs.StepsChosen.{steps_choice}
use Rattle.running_exact.proofs.RunSafe.{NoRole, run_safe, placed_unbarred}
use Rattle.rounds.specs.Round.{Taken, refuses, waits, steps}
use Rattle.seats.specs.Seats.{Limited, limited_of, seats_in, SeatedState, owners_by, thread_node, lines_left, stand_in_line, seated_choice, SeatedRan, follow_seated, seated_run, plainly, steps_by, steps_only, waits_by, waits_in, seated_start, seated_ran_of}
use Rattle.seats.specs.SeatOrder.{AsksSeat, GetsSeat, SeatedStep, got_none, took_seat, asked_none, refused_plainly}
use Rattle.seats.proofs.SeatedTold.{choice_seated}

-- a run and one with seats agree, where so many choices of the latter were answered 26
pub record SameRun (R : Ran) (T : SeatedRan) (got_none : ℕ) : Type 0 where
  pub state : R.state ≡ T.seating.state
  pub refusal : R.refusal ≡ T.refusal
  pub count : T.count ≡ R.count + got_none

same_ran : {a b c d : ℕ} {s t : State} → a ≡ b → c ≡ d → s ≡ t
    → ◌≡◌ {A = Ran} (record { count = a; refusal = c; state = s }) (record { count = b; refusal = d; state = t })
same_ran x y z = cc (x, y, z)

module _ (L : Limited) where
  -- The choices answered 26 left out, the run without seats gives the same state and refuses alike.
  pub run_alike : (ws : List ℕ) (S : SeatedState) → SameRun (run L.clinic S.state (steps_only L S ws)) (seated_run L S ws) (waits_in L S ws)
  unfolding run seated_run steps_only waits_in
  run_alike [] S = record { state = refl; refusal = refl; count = refl }
  run_alike (i ∷ []) S = record { state = refl; refusal = refl; count = refl }
  run_alike (i ∷ p ∷ ws) S = go (seated_choice L S i p) (choice_seated L S i p) (run_alike ws)
    where
      Rest : Type 0
      Rest = (S' : SeatedState) → SameRun (run L.clinic S'.state (steps_only L S' ws)) (seated_run L S' ws) (waits_in L S' ws)

      on : (S' : SeatedState) → Steps L.clinic S.state i p S'.state → Rest
          → SameRun (run L.clinic S.state (i ∷ p ∷ steps_only L S' ws)) (follow_seated S (steps S') (λ T. seated_run L T ws)) (waits_in L S' ws)
      on S' st f =
          subst (λ (o : Chosen). SameRun (follow S.state o (λ s. run L.clinic s (steps_only L S' ws))) (follow_seated S (steps S') (λ T. seated_run L T ws)) (waits_in L S' ws))
          (sym (steps_choice L.clinic S.state i p S'.state st))
          (record { state = (f S').state; refusal = (f S').refusal; count = omega (arith, (f S').count) })

      go : (a : Taken SeatedState) → SeatedStep L S i p a → Rest
          → SameRun (run L.clinic S.state (steps_by a i p ws (λ S'. steps_only L S' ws))) (follow_seated S a (λ S'. seated_run L S' ws)) (waits_by a (λ S'. waits_in L S' ws))
      go a (got_none A G) f =
          record { state = (f (stand_in_line L S i)).state; refusal = (f (stand_in_line L S i)).refusal; count = omega (arith, (f (stand_in_line L S i)).count) }
      go a (took_seat A G s st) f = on _ st f
      go a (asked_none A s st) f = on _ st f
      go a (refused_plainly A n h) f =
          subst (λ (o : Chosen). SameRun (follow S.state o (λ s. run L.clinic s ws)) (follow_seated S (refuses n) (λ T. seated_run L T ws)) 0) (sym h)
          (record { state = refl; refusal = refl; count = refl })

  -- No limit: no choice is answered 26.
  module _ (free : (r : ℕ) → L.seats r ≡ 0) where
    none_asks : (S : SeatedState) (i p : ℕ) → AsksSeat L S i p → ⊥
    none_asks S i p A = omega (arith, A.limited, free (thread_node L S i).f1)

    pub all_steps : (ws : List ℕ) (S : SeatedState) → (steps_only L S ws ≡ ws) × (waits_in L S ws ≡ 0)
    unfolding steps_only waits_in
    all_steps [] S = (refl, refl)
    all_steps (i ∷ []) S = (refl, refl)
    all_steps (i ∷ p ∷ ws) S = go (seated_choice L S i p) (choice_seated L S i p) (all_steps ws)
      where
        go : (a : Taken SeatedState) → SeatedStep L S i p a → ((S' : SeatedState) → (steps_only L S' ws ≡ ws) × (waits_in L S' ws ≡ 0))
            → (steps_by a i p ws (λ S'. steps_only L S' ws) ≡ i ∷ p ∷ ws) × (waits_by a (λ S'. waits_in L S' ws) ≡ 0)
        go a (got_none A G) f = absurd (none_asks S i p A)
        go a (took_seat A G s st) f = absurd (none_asks S i p A)
        go a (asked_none A s st) f = (ap {B = List ℕ} (λ l. i ∷ p ∷ l) (f _).0, (f _).1)
        go a (refused_plainly A n h) f = (refl, refl)

    -- The run is the one without seats.
    pub run_same : (ws : List ℕ) (S : SeatedState) → plainly (seated_run L S ws) ≡ run L.clinic S.state ws
    run_same ws S =
        let (a, b) = all_steps ws S in
        let h : SameRun (run L.clinic S.state ws) (seated_run L S ws) (waits_in L S ws) =
        subst (λ (l : List ℕ). SameRun (run L.clinic S.state l) (seated_run L S ws) (waits_in L S ws)) a (run_alike ws S) in
        let c : (seated_run L S ws).count ≡ (run L.clinic S.state ws).count = omega (arith, h.count, b) in
        same_ran c (sym h.refusal) (sym h.state)

-- a table of zeros sets no limit
pub free_table : (table : List ℕ) → All (λ w. w ≡ 0) table → (r : ℕ) → seats_in table r ≡ 0
free_table table h zero = refl
free_table [] h (suc r) = refl
free_table (w ∷ table) h (suc zero) = h.0
free_table (w ∷ table) h (suc (suc r)) = free_table table h.1 (suc r)

-- With all words 0 the run of a file is the one without seats.
pub zeros_same : (f table : List ℕ) → All (λ w. w ≡ 0) table → (ws : List ℕ) → plainly (seated_ran_of f table ws) ≡ ran_of f ws
zeros_same f table h ws = run_same (limited_of (contents_of f) table) (free_table table h) ws (seated_start (contents_of f))

same_refusal : (f table ws : List ℕ)
    → (ran_of f (steps_only (limited_of (contents_of f) table) (seated_start (contents_of f)) ws)).refusal ≡ (seated_ran_of f table ws).refusal
same_refusal f table ws = (run_alike (limited_of (contents_of f) table) ws (seated_start (contents_of f))).refusal

-- A file that passes the check is not stopped for a role, with any table and any list.
pub seated_safe : (f : List ℕ) → checking f ≡ fine → (table ws : List ℕ)
    → ((seated_ran_of f table ws).refusal ≢ 11) × ((seated_ran_of f table ws).refusal ≢ 12) × ((seated_ran_of f table ws).refusal ≢ 13)
seated_safe f passes table ws = subst NoRole (same_refusal f table ws) (run_safe f passes (steps_only (limited_of (contents_of f) table) (seated_start (contents_of f)) ws))

-- A placed file is not stopped for a role, with any table and any list.
pub placed_seated : (f : List ℕ) → All (λ b. b < 256) f → (room : ℕ) → (placing f room).number ≡ 0 → (table ws : List ℕ)
    → ((seated_ran_of (placed_bytes f) table ws).refusal ≢ 11) × ((seated_ran_of (placed_bytes f) table ws).refusal ≢ 12) × ((seated_ran_of (placed_bytes f) table ws).refusal ≢ 13)
placed_seated f bytes room placed table ws =
    subst NoRole (same_refusal (placed_bytes f) table ws)
    (placed_unbarred f bytes room placed (steps_only (limited_of (contents_of (placed_bytes f)) table) (seated_start (contents_of (placed_bytes f))) ws))
