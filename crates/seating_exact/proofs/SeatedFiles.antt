-- Runs of a file with a table whose seats the start does not overfill: what holds at every moment, through any list of choices.
use Prim.Native.Nat.{ℕ, zero, suc, ◌-◌, ◌≤◌}
use mathlib.Core.Path.{◌≡◌, refl, ap}
use mathlib.Core.Logic.{◌≢◌, ◌↔◌}
use mathlib.Core.Bool.{true, false}
use mathlib.Core.List.{List, [], ◌∷◌}
use native.Mathlib.Omega.{arith}
use lib.ListN.{length, get_or, drop}
use Rattle.format.specs.Contents.{contents_of}
use Rattle.rounds.specs.Round.{Taken, waits}
use Rattle.reading_exact.specs.File.{InCount}
use Rattle.seats.specs.Seats.{Limited, limited_of, seats_in, SeatedState, sits, seats_taken, in_line, seated_choice, one_done, follow_seated, seated_run, seated_start, overfilled_at, seated_ran_of}
use Rattle.seats.specs.SeatOrder.{Distinct, ahead, LineStep, HasRole, StandsAtOn, Ordered, Always, Between, NoMoreBefore}
use Rattle.seats.proofs.SeatedRuns.{never_over, lines_sound, no_more_before, lines_move, moves_up, alone_in_it, run_ordered}
use Rattle.seats.proofs.SeatedStart.{start_ordered}
use Rattle.seats.proofs.LineThreads.{lines_stand}
use Rattle.seats.proofs.SessionCounts.{sits_iff}
use Rattle.seating_exact.specs.SeatTable.{StartFits}
use Rattle.seating_exact.proofs.SeatedCases.{start_fits_none, halted_number}

-- a table's word is its role's seats
pub table_word : (table : List ℕ) (r : ℕ) → InCount (length table) r → seats_in table r ≡ get_or table (r - 1) 0
table_word table zero c = let never : ⊥ = omega (arith, c.0) in absurd never
table_word table (suc r) c = let e : r ≡ suc r - 1 = omega arith in ap (λ (j : ℕ). get_or table j 0) e

-- a choice answered 26 is done, and the run goes on
pub wait_is_done : (L : Limited) (S : SeatedState) (i p : ℕ) (S' : SeatedState) → seated_choice L S i p ≡ waits S' → (ws : List ℕ) → seated_run L S (i ∷ p ∷ ws) ≡ one_done (seated_run L S' ws)
unfolding seated_run
wait_is_done L S i p S' e ws = ap (λ (a : Taken SeatedState). follow_seated S a (λ T. seated_run L T ws)) e

-- 26 is no run's refusal word
pub not_its_word : (f table ws : List ℕ) → (seated_ran_of f table ws).refusal ≢ 26
not_its_word f table ws z = omega (arith, z, (halted_number f table ws (λ q. omega (arith, q, z))).1)

module _ (f table : List ℕ) (fits : StartFits (contents_of f) table) (ws : List ℕ) where
  abbrev L : Limited
  L = limited_of (contents_of f) table

  abbrev S : SeatedState
  S = seated_start (contents_of f)

  started : Ordered L S
  started = start_ordered (contents_of f) table (start_fits_none f table fits)

  -- at no moment are there more sessions in a role with a limit than it has seats
  pub file_never_over : Always (λ T. (r : ℕ) → 1 ≤ seats_in table r → seats_taken L T r ≤ seats_in table r) L S ws
  file_never_over = never_over L ws S started

  -- in a line no session twice, none that has the role; no line for a role without limit
  pub file_lines : Always (λ T. (r : ℕ) → Distinct (T.lines r) × ((k : ℕ) → in_line k (T.lines r) ≡ true → sits T k r ≡ false) × (seats_in table r ≡ 0 → T.lines r ≡ [])) L S ws
  file_lines = lines_sound L ws S started

  -- each in a line has a thread that stands at an on of the role
  pub file_stands : Always (λ T. (r k : ℕ) → in_line k (T.lines r) ≡ true → (i : ℕ) × StandsAtOn L T k r i) L S ws
  file_stands = lines_stand L ws S started (λ r. refl)

  -- while it waits, a session never gets more sessions before it
  pub file_before : Between NoMoreBefore L S ws
  file_before = no_more_before L ws S started

  -- a line stays, or has one more at its end, or loses its head, which takes a seat
  pub file_moves : Between (λ T T'. (i : ℕ) × ((r : ℕ) → LineStep L T T' i r)) L S ws
  file_moves = lines_move L ws S started

  -- the state that the run stands in
  pub file_ordered : Ordered L (seated_ran_of f table ws).seating
  file_ordered = run_ordered L ws S started

  -- from a state of the run on, through any further choices: one seat, one session
  pub file_alone : (vs : List ℕ) (r k : ℕ) → seats_in table r ≡ 1 → Always (λ T. sits T k r ≡ true) L (seated_ran_of f table ws).seating vs
      → Always (λ T. (m : ℕ) → m ≢ k → sits T m r ≡ false) L (seated_ran_of f table ws).seating vs
  file_alone vs r k e h = alone_in_it L vs (seated_ran_of f table ws).seating r k file_ordered e h

  -- a session has a role exactly where one of its threads has it active
  pub file_has : (k r : ℕ) → (sits (seated_ran_of f table ws).seating k r ≡ true) ↔ HasRole (seated_ran_of f table ws).seating k r
  file_has k r = sits_iff L (seated_ran_of f table ws).seating file_ordered k r

  -- from a state of the run on, through further choices in all of which it waits: those before it are the same, less some of the first
  pub file_moves_up : (vs : List ℕ) (r k : ℕ) → Always (λ T. in_line k (T.lines r) ≡ true) L (seated_ran_of f table ws).seating vs
      → (j : ℕ) × (ahead k ((seated_run L (seated_ran_of f table ws).seating vs).seating.lines r) ≡ drop j (ahead k ((seated_ran_of f table ws).seating.lines r)))
  file_moves_up vs r k h = moves_up L vs (seated_ran_of f table ws).seating r k file_ordered h
