-- The words beside the threads of a seated run are those of the run without the choices answered 26.
use Prim.Native.Nat.{ℕ}
use mathlib.Core.Path.{◌≡◌, refl, sym, ap, ◌∙◌}
use mathlib.Core.Bool.{Bool, true, false, cond}
use mathlib.Core.List.{List, [], ◌∷◌}
use Rattle.steps.specs.declared.Outcome.{Outcome}
use Rattle.steps.specs.Choice.{Chosen, halts, goes, done, outcome, choice}
use Rattle.steps.specs.Beside.{beside_by}
use Rattle.choices.specs.Stored.{Tried, tried_by, on_from, tried}
use Rattle.rounds.specs.Round.{Taken, waits}
use Rattle.seats.specs.Seats.{Limited, SeatedState, thread_node, asks_seat, owners_by, seated_by, lines_left, stand_in_line, seated_choice, steps_by, steps_only}
use Rattle.seated.specs.SeatedTables.{must_wait}
use Rattle.seated.specs.SeatedLists.{beside_on, seated_beside}

module _ (kind : ℕ → ℕ) (L : Limited) where
  pub beside_steps : (ws : List ℕ) (S : SeatedState) (t : Tried) → (tried kind L.clinic S.state t (steps_only L S ws)).beside ≡ seated_beside kind L S t.beside ws
  unfolding tried steps_only seated_beside seated_choice choice
  beside_steps [] S t = refl
  beside_steps (i ∷ []) S t = refl
  beside_steps (i ∷ p ∷ ws) S t = step (beside_steps ws) (must_wait L S i p) (done S.state i p (outcome L.clinic S.state i p)) refl
    where
      o : Outcome
      o = outcome L.clinic S.state i p

      lines : ℕ → List ℕ
      lines = cond (asks_seat L S i p) (lines_left L S i) S.lines

      os : List ℕ
      os = owners_by S.owners i (thread_node L S i).tag

      came : Bool → Chosen → Taken SeatedState
      came must c = cond must (waits (stand_in_line L S i)) (seated_by os lines c)

      left : Bool → List ℕ
      left must = cond must t.beside (beside_by kind t.beside o)

      step : ((S' : SeatedState) (t' : Tried) → (tried kind L.clinic S'.state t' (steps_only L S' ws)).beside ≡ seated_beside kind L S' t'.beside ws)
          → (must : Bool) (c : Chosen) → c ≡ done S.state i p o
          → (tried kind L.clinic S.state t (steps_by (cond must (waits (stand_in_line L S i)) (seated_by os lines c)) i p ws (λ S'. steps_only L S' ws))).beside
          ≡ beside_on (cond must (waits (stand_in_line L S i)) (seated_by os lines c)) (left must) (λ S'. seated_beside kind L S' (left must) ws)
      step later true c e = later (stand_in_line L S i) t
      step later false (halts n) e =
          sym (ap (λ (x : Chosen). (on_from x (tried_by kind t.beside o) (λ s'. tried kind L.clinic s' (tried_by kind t.beside o) ws)).beside) e)
      step later false (goes s') e =
          sym (ap (λ (x : Chosen). (on_from x (tried_by kind t.beside o) (λ s''. tried kind L.clinic s'' (tried_by kind t.beside o) (steps_only L (record { state = s'; owners = os; lines = lines }) ws))).beside) e)
          ∙ later (record { state = s'; owners = os; lines = lines }) (tried_by kind t.beside o)
