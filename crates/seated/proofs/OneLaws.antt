-- One seated choice, as a list of one.
use Prim.Native.Nat.{ℕ, suc, ◌<◌}
use mathlib.Core.Path.{◌≡◌, refl, sym, ap, ◌∙◌}
use mathlib.Core.Bool.{Bool, true, false, cond, not, ◌&&◌, false≢true}
use mathlib.Core.List.{List, [], ◌∷◌}
use mathlib.Core.Logic.{◌⊎◌, inl, inr}
use native.Mathlib.Omega.{arith}
use lib.ListN.{length}
use Rattle.steps.specs.Choice.{Chosen, halts, goes, choice}
use Rattle.steps.specs.Beside.{thread_count}
use Rattle.steps.proofs.TableLaws.{threads_length}
use Rattle.choices.proofs.ChoiceLaws.{Halts, choice-told}
use Rattle.rounds.specs.Round.{Taken, refuses, waits, steps}
use Rattle.seats.specs.Seats.{Limited, SeatedState, SeatedRan, thread_node, asks_seat, gets_seat, owners_by, lines_left, stand_in_line, seated_by, seated_choice, follow_seated, seated_run, waits_by, waits_in}
use Rattle.seats.proofs.SeatedMoves.{owners_follow}
use Rattle.seated.specs.declared.SeatedWent.{SeatedWent}
use Rattle.seated.specs.declared.Sat.TheVariants as sat
use Rattle.seated.specs.SeatedTables.{seated_in, beside_sat, ChoseSeated}
use Rattle.seated.specs.SeatedLists.{beside_on, seated_beside, SeatedThrough}

-- a choice that is refused has a number
refused_some : (L : Limited) (S : SeatedState) (i p n : ℕ) → seated_choice L S i p ≡ refuses n → n ≡ 0 → ⊥
unfolding seated_choice
refused_some L S i p n e = go (asks_seat L S i p && not (gets_seat L S i)) (choice L.clinic S.state i p) (choice-told L.clinic S.state i p) e
  where
    is_refused : Taken SeatedState → Bool
    is_refused (refuses m) = true
    is_refused (waits T) = false
    is_refused (steps T) = false

    number : Taken SeatedState → ℕ
    number (refuses m) = m
    number (waits T) = 0
    number (steps T) = 0

    go : (x : Bool) (c : Chosen) → Halts c
        → cond x (waits (stand_in_line L S i)) (seated_by (owners_by S.owners i (thread_node L S i).tag) (cond (asks_seat L S i p) (lines_left L S i) S.lines) c) ≡ refuses n → n ≡ 0 → ⊥
    go true c h e z = absurd (false≢true (ap is_refused e))
    go false (halts m) h e z = h (ap number e ∙ z)
    go false (goes s) h e z = absurd (false≢true (ap is_refused e))

module _ (kind : ℕ → ℕ) (L : Limited) (w b os ls : List ℕ) (i p : ℕ) (r : SeatedWent) (w' b' os' ls' : List ℕ)
    (gone : SeatedThrough kind L (seated_in w b os ls) b (i ∷ p ∷ []) r w' b' os' ls') where
  abbrev S : SeatedState
  S = seated_in w b os ls

  abbrev S' : SeatedState
  S' = seated_in w' b' os' ls'

  ran_by : (a : Taken SeatedState) → seated_choice L S i p ≡ a → seated_run L S (i ∷ p ∷ []) ≡ follow_seated S a (λ T. seated_run L T [])
  unfolding seated_run
  ran_by a e = ap (λ (x : Taken SeatedState). follow_seated S x (λ T. seated_run L T [])) e

  none_left : (T : SeatedState) → seated_run L T [] ≡ record { count = 0; refusal = 0; seating = T }
  unfolding seated_run
  none_left T = refl

  refusal_by : (a : Taken SeatedState) → seated_choice L S i p ≡ a → r.refusal ≡ (follow_seated S a (λ T. seated_run L T [])).refusal
  refusal_by a e = ap (λ (x : SeatedWent). x.refusal) gone.told ∙ ap (λ (x : SeatedRan). x.refusal) (ran_by a e)

  state_by : (a : Taken SeatedState) → seated_choice L S i p ≡ a → S' ≡ (follow_seated S a (λ T. seated_run L T [])).seating
  state_by a e = gone.state ∙ ap (λ (x : SeatedRan). x.seating) (ran_by a e)

  waited_by : (a : Taken SeatedState) → seated_choice L S i p ≡ a → r.waited ≡ waits_by a (λ T. 0)
  unfolding waits_in
  waited_by a e = ap (λ (x : SeatedWent). x.waited) gone.told ∙ ap (λ (x : Taken SeatedState). waits_by x (λ T. 0)) e

  words : b' ≡ beside_sat kind L S b i p
  unfolding seated_beside
  words = gone.beside ∙ go (seated_choice L S i p)
    where
      go : (a : Taken SeatedState) → beside_on a (beside_sat kind L S b i p) (λ T. beside_sat kind L S b i p) ≡ beside_sat kind L S b i p
      go (refuses n) = refl
      go (waits T) = refl
      go (steps T) = refl

  before : length S.state.threads ≡ thread_count b
  before = threads_length w 0 (thread_count b)

  after : length S'.state.threads ≡ thread_count b'
  after = threads_length w' 0 (thread_count b')

  pub one_refused : (n : ℕ) → r.refusal ≡ n → (n ≡ 0 → ⊥) → ChoseSeated kind L i p (sat.Refused n) w b os ls w' b' os' ls'
  one_refused n is some = go (seated_choice L S i p) refl
    where
      go : (a : Taken SeatedState) → seated_choice L S i p ≡ a → ChoseSeated kind L i p (sat.Refused n) w b os ls w' b' os' ls'
      go (refuses m) e = record { told = (e ∙ ap refuses (sym (refusal_by (refuses m) e) ∙ is), state_by (refuses m) e); beside = words; kept = gone.kept }
      go (waits T) e = absurd (some (sym is ∙ refusal_by (waits T) e ∙ ap (λ (x : SeatedRan). x.refusal) (none_left T)))
      go (steps T) e = absurd (some (sym is ∙ refusal_by (steps T) e ∙ ap (λ (x : SeatedRan). x.refusal) (none_left T)))

  pub one_waits : (r.waited ≡ 0 → ⊥) → ChoseSeated kind L i p sat.Waits w b os ls w' b' os' ls'
  one_waits some = go (seated_choice L S i p) refl
    where
      go : (a : Taken SeatedState) → seated_choice L S i p ≡ a → ChoseSeated kind L i p sat.Waits w b os ls w' b' os' ls'
      go (refuses m) e = absurd (some (waited_by (refuses m) e))
      go (waits T) e = record { told = e ∙ ap waits (sym (state_by (waits T) e ∙ ap (λ (x : SeatedRan). x.seating) (none_left T))); beside = words; kept = gone.kept }
      go (steps T) e = absurd (some (waited_by (steps T) e))

  -- one that goes on, by the number of threads that it leaves
  step_is : (a : Taken SeatedState) → seated_choice L S i p ≡ a → r.refusal ≡ 0 → r.waited ≡ 0 → seated_choice L S i p ≡ steps S'
  step_is (refuses m) e none still = absurd (refused_some L S i p m e (sym (refusal_by (refuses m) e) ∙ none))
  step_is (waits T) e none still = let no : ◌≡◌ {A = ℕ} 1 0 = sym (waited_by (waits T) e) ∙ still in absurd (omega (arith, no))
  step_is (steps T) e none still = e ∙ ap steps (sym (state_by (steps T) e ∙ ap (λ (x : SeatedRan). x.seating) (none_left T)))

  pub one_ends : r.refusal ≡ 0 → r.waited ≡ 0 → thread_count b' < thread_count b → ChoseSeated kind L i p sat.Ends w b os ls w' b' os' ls'
  one_ends none still less =
      let is = step_is (seated_choice L S i p) refl none still in
      record { told = (is, one (owners_follow L S i p S' is)); beside = words; kept = gone.kept }
    where
      one : {A B C : Type 0} → ((length S'.state.threads ≡ length S.state.threads) × A) ⊎ (((length S'.state.threads ≡ suc (length S.state.threads)) × B) ⊎ ((suc (length S'.state.threads) ≡ length S.state.threads) × C))
          → suc (length S'.state.threads) ≡ length S.state.threads
      one (inl (same, _)) = let no : ⊥ = omega (arith, same, before, after, less) in absurd no
      one (inr (inl (more, _))) = let no : ⊥ = omega (arith, more, before, after, less) in absurd no
      one (inr (inr (fewer, _))) = fewer

  pub one_steps : r.refusal ≡ 0 → r.waited ≡ 0 → (thread_count b' < thread_count b → ⊥) → ChoseSeated kind L i p sat.Steps w b os ls w' b' os' ls'
  one_steps none still more = record {
    told = (step_is (seated_choice L S i p) refl none still, omega (arith, before, after, more));
    beside = words;
    kept = gone.kept;
  }
