-- A run is the steps in order up to the first refused choice.
use Prim.Native.Nat.{ℕ, suc, ◌+◌, ◌*◌, ◌/◌, ◌%◌, ◌≤◌}
use mathlib.Core.Path.{◌≡◌, refl, sym, ap, ◌∙◌, subst}
use mathlib.Core.Logic.{◌≢◌}
use mathlib.Core.List.{List, [], ◌∷◌}
use native.Mathlib.Omega.{arith}
use lib.ListN.{length, get_or, take}
use Rattle.steps.specs.Choice.{Clinic, State, Chosen, halts, goes, choice}
use Rattle.choices.specs.Choices.{Ran, follow, run}
use Rattle.running_exact.specs.Steps.{Chain}
use Rattle.running_exact.specs.Runs.{Refuses}
use Rattle.running_exact.proofs.StepsChosen.{steps_choice}
use Rattle.running_exact.proofs.Agree.{choice_steps, refused_positive}

two_more : (k : ℕ) → 2 * suc k ≡ suc (suc (2 * k))
two_more k = omega arith

abbrev wholly : ℕ → State → Ran
wholly k s = record { count = k; refusal = 0; state = s }

abbrev onemore : Ran → Ran
onemore r = record { count = suc r.count; refusal = r.refusal; state = r.state }

module _ (C : Clinic) where
  -- a choice, and a run after it
  chain_follow : (s : State) (i p : ℕ) (ws : List ℕ) (o : Chosen) → choice C s i p ≡ o → (go : State → Ran)
      → ((s' : State) → Chain C s' (take (2 * (go s').count) ws) (go s').state)
      → Chain C s (take (2 * (follow s o go).count) (i ∷ p ∷ ws)) (follow s o go).state
  chain_follow s i p ws (halts n) e go f = refl
  chain_follow s i p ws (goes s') e go f =
      subst (λ (k : ℕ). Chain C s (take k (i ∷ p ∷ ws)) (go s').state) (sym (two_more (go s').count)) (s', choice_steps C s i p s' e, f s')

  -- The choices done are steps, one after the other, from the first state to the last.
  pub run_chain : (ws : List ℕ) (s : State) → Chain C s (take (2 * (run C s ws).count) ws) (run C s ws).state
  unfolding run
  run_chain [] s = refl
  run_chain (i ∷ []) s = refl
  run_chain (i ∷ p ∷ ws) s = chain_follow s i p ws (choice C s i p) refl (λ s'. run C s' ws) (run_chain ws)

  refuses_follow : (s : State) (i p : ℕ) (ws : List ℕ) (o : Chosen) → choice C s i p ≡ o → (go : State → Ran)
      → ((s' : State) → (go s').refusal ≢ 0 → Refuses C ws (go s')) → (follow s o go).refusal ≢ 0 → Refuses C (i ∷ p ∷ ws) (follow s o go)
  refuses_follow s i p ws (halts n) e go f z = (omega arith, e)
  refuses_follow s i p ws (goes s') e go f z =
      let (l, h) = f s' z in
      let k : ℕ = (go s').count in
      let a : 2 * suc k ≡ suc (suc (2 * k)) = two_more k in
      let b : 2 * suc k + 1 ≡ suc (suc (2 * k + 1)) = omega arith in (
        omega (arith, l, b),
        ap (λ (x : ℕ). choice C (go s').state (get_or (i ∷ p ∷ ws) x 0) (get_or (i ∷ p ∷ ws) (2 * suc k + 1) 0)) a
            ∙ ap (λ (x : ℕ). choice C (go s').state (get_or ws (2 * k) 0) (get_or (i ∷ p ∷ ws) x 0)) b ∙ h,
      )

  -- A run stopped before the end of its list stopped at a choice that is refused with that number in the state it left.
  pub run_stopped : (ws : List ℕ) (s : State) → (run C s ws).refusal ≢ 0 → Refuses C ws (run C s ws)
  unfolding run
  run_stopped [] s z = absurd (z refl)
  run_stopped (i ∷ []) s z = absurd (z refl)
  run_stopped (i ∷ p ∷ ws) s z = refuses_follow s i p ws (choice C s i p) refl (λ s'. run C s' ws) (run_stopped ws) z

  whole_follow : (s : State) (i p : ℕ) (ws : List ℕ) (o : Chosen) → choice C s i p ≡ o → (go : State → Ran)
      → ((s' : State) → (go s').refusal ≡ 0 → length ws % 2 ≡ 0 → 2 * (go s').count ≡ length ws) → (follow s o go).refusal ≡ 0 → length ws % 2 ≡ 0
      → 2 * (follow s o go).count ≡ suc (suc (length ws))
  whole_follow s i p ws (halts n) e go f z even =
      let l : 1 ≤ n = refused_positive C s i p n e in
      let never : ⊥ = omega (arith, l, z) in
      absurd never
  whole_follow s i p ws (goes s') e go f z even = omega (arith, f s' z even)

  -- A run that nothing stopped did every choice of its list.
  pub run_whole : (ws : List ℕ) (s : State) → (run C s ws).refusal ≡ 0 → length ws % 2 ≡ 0 → 2 * (run C s ws).count ≡ length ws
  unfolding run
  run_whole [] s z even = refl
  run_whole (i ∷ []) s z even = let never : ⊥ = omega (arith, even) in absurd never
  run_whole (i ∷ p ∷ ws) s z even = whole_follow s i p ws (choice C s i p) refl (λ s'. run C s' ws) (run_whole ws) z (omega (arith, even))

  -- Whatever the steps lead to, the run says, with one choice done for each two words.
  pub chain_run : (ws : List ℕ) (s s'' : State) → Chain C s ws s'' → run C s ws ≡ record { count = length ws / 2; refusal = 0; state = s'' }
  unfolding run
  chain_run [] s s'' h = ap (wholly 0) h
  chain_run (i ∷ []) s s'' h = absurd h
  chain_run (i ∷ p ∷ ws) s s'' (s', st, h) =
      let k : suc (length ws / 2) ≡ suc (suc (length ws)) / 2 = omega arith in
      ap (λ (o : Chosen). follow s o (λ (x : State). run C x ws)) (steps_choice C s i p s' st) ∙ ap onemore (chain_run ws s' s'' h)
      ∙ ap (λ (x : ℕ). wholly x s'') k

  pub chain_even : (ws : List ℕ) (s s'' : State) → Chain C s ws s'' → length ws % 2 ≡ 0
  chain_even [] s s'' h = refl
  chain_even (i ∷ []) s s'' h = absurd h
  chain_even (i ∷ p ∷ ws) s s'' (s', st, h) = omega (arith, chain_even ws s' s'' h)
