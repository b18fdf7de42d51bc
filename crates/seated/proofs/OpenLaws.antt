-- A run with seats from the file's start.
use Prim.Native.Nat.{ℕ, zero, suc, ◌+◌, ◌*◌, ◌-◌}
use mathlib.Core.Path.{◌≡◌, refl, sym, ap, ◌∙◌, subst}
use mathlib.Core.Bool.{Bool, true, false}
use mathlib.Core.List.{List, []}
use native.Mathlib.Omega.{arith}
use lib.ListN.{length, get_or, take, drop, replicate, length-replicate}
use Rattle.format.specs.Contents.{Contents, in_count}
use Rattle.steps.specs.Choice.{State}
use Rattle.steps.specs.Kept.{state_in, Sized}
use Rattle.steps.specs.Beside.{thread_count, start_beside}
use Rattle.steps.proofs.TableLaws.{threads_length}
use Rattle.choices.specs.Choices.{start}
use Rattle.choices.proofs.RunLaws.{threads_from_length}
use Rattle.rounds.specs.Rounds.{numbers}
use Rattle.seats.specs.Seats.{limited_of, SeatedState, seated_start, overfilled_at}
use Rattle.seats.specs.SeatOrder.{Ordered}
use Rattle.seats.proofs.SeatedStart.{start_ordered}
use Rattle.seating.specs.SeatTables.{LineRows}
use Rattle.seated.specs.declared.SeatedWent.{SeatedWent}
use Rattle.seated.specs.SeatedTables.{lines_in, seated_in, Seated}
use Rattle.seated.specs.SeatedLists.{SeatedThrough, SeatedOpen}

-- the run's own start, with each thread's session
pub opened : (kind : ℕ → ℕ) (C : Contents) (b w' b' os' : List ℕ) → state_in w' b' ≡ start C → Sized w' b' → b' ≡ start_beside kind b (start C).threads
    → (n : ℕ) → length C.sessions ≡ n → take n os' ≡ numbers 1 n → length os' ≡ 64 → SeatedOpen kind C b w' b' os'
opened kind C b w' b' os' state sized words n e eo long =
    let count : thread_count b' ≡ n = sym (threads_length w' 0 (thread_count b')) ∙ ap (λ (s : State). length s.threads) state ∙ threads_from_length C.sessions ∙ e in
    record {
      state = state;
      owners = ap (λ (k : ℕ). take k os') count ∙ eo ∙ ap (numbers 1) (sym e);
      beside = words;
      sized = sized;
      long = long;
    }

zeros_get : (n i : ℕ) → ◌≡◌ {A = ℕ} (get_or (replicate n 0) i 0) 0
zeros_get zero i = refl
zeros_get (suc n) zero = refl
zeros_get (suc n) (suc i) = zeros_get n i

no_lines : (r : ℕ) → lines_in (replicate 528 0) r ≡ []
no_lines r = go (in_count 16 r) refl
  where
    go : (b : Bool) → in_count 16 r ≡ b → lines_in (replicate 528 0) r ≡ []
    go true e = rw e (ap (λ (n : ℕ). take n (drop (33 * (r - 1) + 1) (replicate 528 0))) (zeros_get 528 (33 * (r - 1))))
    go false e = rw e

module _ (kind : ℕ → ℕ) (C : Contents) (table b₀ w b os ls : List ℕ) (O : SeatedOpen kind C b₀ w b os) (none : ls ≡ replicate 528 0) where
  pub open_state : seated_in w b os ls ≡ seated_start C
  open_state =
      let lines : lines_in ls ≡ (λ r. []) = ap lines_in none ∙ (λ j. λ r. no_lines r j) in
      λ j. record { state = O.state j; owners = O.owners j; lines = lines j }

  pub open_kept : overfilled_at (limited_of C table) (seated_start C) (length table) ≡ 0 → Seated (limited_of C table) w b os ls
  open_kept e = record {
    sized = O.sized;
    owners = O.long;
    rows = subst LineRows (sym none) (record { words = length-replicate {A = ℕ} 528 0; few = λ row l. omega (arith, zeros_get 528 (33 * row)) });
    ordered = subst (Ordered (limited_of C table)) (sym open_state) (start_ordered C table e);
  }

  pub open_through : (ws : List ℕ) (r : SeatedWent) (w' b' os' ls' : List ℕ) → SeatedThrough kind (limited_of C table) (seated_in w b os ls) b ws r w' b' os' ls'
      → SeatedThrough kind (limited_of C table) (seated_start C) (start_beside kind b₀ (start C).threads) ws r w' b' os' ls'
  open_through ws r w' b' os' ls' T =
      subst (λ (x : List ℕ). SeatedThrough kind (limited_of C table) (seated_start C) x ws r w' b' os' ls') O.beside
      (subst (λ (S : SeatedState). SeatedThrough kind (limited_of C table) S b ws r w' b' os' ls') open_state T)
