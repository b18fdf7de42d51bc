-- What an answer comes to, carried out.
use Prim.Native.Nat.{ℕ, ◌+◌, ◌-◌}
use mathlib.Core.Path.{◌≡◌, refl, sym, ap, subst, ◌∙◌}
use mathlib.Core.List.{List, [], ◌∷◌, ◌++◌}
use Rattle.steps.specs.declared.Thread.{Thread}
use Rattle.steps.specs.declared.Made.{Made}
use Rattle.steps.specs.declared.Acted.{Acted}
use Rattle.steps.specs.declared.Answer.{Answer}
use Rattle.steps.specs.declared.Answer.TheVariants as answers
use Rattle.steps.specs.Choice.{State, changed, added, with_made, removed, done}
use Rattle.steps.specs.Kept.{state_in, Sized}
use Rattle.steps.specs.declared.Outcome.{Outcome}
use Rattle.steps.specs.Beside.{thread_count, with_threads, one_made, counts_by, totals_by, beside_by}
use Rattle.steps.proofs.TotalLaws.{aside_totals, aside_state}
use Rattle.choices.specs.Stored.{Chose}
use Rattle.steps.specs.Acted.{outcome_by}

-- a thread stored, then a thread or a made channel more
pub then_added : (s s1 s2 : State) (i : ℕ) (t u : Thread) → s1 ≡ changed s i t → s2 ≡ record { threads = s1.threads ++ (u ∷ []); made = s1.made } → s2 ≡ added s i t u
then_added s s1 s2 i t u e q = q ∙ ap (λ (x : State). record { threads = x.threads ++ (u ∷ []); made = x.made }) e

pub then_minted : (s s1 s2 : State) (i : ℕ) (t : Thread) (m : Made) → s1 ≡ changed s i t → s2 ≡ record { threads = s1.threads; made = s1.made ++ (m ∷ []) } → s2 ≡ with_made s i t m
then_minted s s1 s2 i t m e q = q ∙ ap (λ (x : State). record { threads = x.threads; made = x.made ++ (m ∷ []) }) e

module _ (w b : List ℕ) (i p : ℕ) (it : Acted) where
  abbrev Stored : Answer → List ℕ → List ℕ → Answer → Type 0
  Stored r w' b' a = Chose (counts_by b (outcome_by a it.first it.second)) (outcome_by a it.first it.second) i p r w b w' b'

  pub refused_stored : (n : ℕ) → it.answer ≡ answers.Refused n → Sized w b → Stored (answers.Refused n) w b it.answer
  unfolding done
  refused_stored n e z = subst (Stored (answers.Refused n) w b) (sym e) (refl, refl, refl, z)

  pub moves_stored : (w' : List ℕ) → it.answer ≡ answers.Moves → state_in w' b ≡ changed (state_in w b) i it.first → Sized w' b
      → Stored answers.Moves w' b it.answer
  unfolding done
  moves_stored w' e q z = subst (Stored answers.Moves w' b) (sym e) (refl, q, refl, z)

  pub adds_stored : (w' b' : List ℕ) → it.answer ≡ answers.Adds → state_in w' b' ≡ added (state_in w b) i it.first it.second
      → b' ≡ with_threads b (thread_count b + 1) → Sized w' b' → Stored answers.Adds w' b' it.answer
  unfolding done
  adds_stored w' b' e q r z = subst (Stored answers.Adds w' b') (sym e) (refl, q, r, z)

  pub makes_stored : (w' b' : List ℕ) (m : Made) → it.answer ≡ answers.Makes m → state_in w' b' ≡ with_made (state_in w b) i it.first m
      → b' ≡ one_made b m → Sized w' b' → Stored (answers.Makes m) w' b' it.answer
  unfolding done
  makes_stored w' b' m e q r z = subst (Stored (answers.Makes m) w' b') (sym e) (refl, q, r, z)

  pub ends_stored : (w' b' : List ℕ) → it.answer ≡ answers.Ends → state_in w' b' ≡ removed (state_in w b) i
      → b' ≡ with_threads b (thread_count b - 1) → Sized w' b' → Stored answers.Ends w' b' it.answer
  unfolding done
  ends_stored w' b' e q r z = subst (Stored answers.Ends w' b') (sym e) (refl, q, r, z)

  pub meets_stored : (w' : List ℕ) → it.answer ≡ answers.Meets → state_in w' b ≡ changed (changed (state_in w b) i it.first) p it.second → Sized w' b
      → Stored answers.Meets w' b it.answer
  unfolding done
  meets_stored w' e q z = subst (Stored answers.Meets w' b) (sym e) (refl, q, refl, z)

-- and then the totals
pub recounted : (kind : ℕ → ℕ) (o : Outcome) (i p : ℕ) (r : Answer) (w b w' b' d : List ℕ) → Chose (counts_by b o) o i p r w b w' b' → d ≡ totals_by kind b' o
    → Chose (beside_by kind b o) o i p r w b w' d
recounted kind o i p r w b w' b' d (told, state, words, sized) e =
    let same = aside_state w' b' (totals_by kind b' o) sized (aside_totals kind b' o) in
    (told, ap (state_in w') e ∙ same.0 ∙ state, e ∙ ap (λ (l : List ℕ). totals_by kind l o) words, subst (Sized w') (sym e) same.1)
