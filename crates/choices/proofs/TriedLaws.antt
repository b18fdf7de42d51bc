-- What a list of choices leaves beside the threads, and the answer of its last: what is left of it after some choices.
use Prim.Native.Nat.{ℕ, ◌+◌, ◌*◌, ◌/◌, ◌≤◌, ◌<◌}
use mathlib.Core.Path.{◌≡◌, refl, sym, ap, ◌∙◌, subst}
use mathlib.Core.List.{List, [], ◌∷◌}
use native.Mathlib.Omega.{arith}
use lib.ListN.{length, get_or, drop, length-drop}
use Rattle.steps.specs.declared.Outcome.{Outcome}
use Rattle.steps.specs.declared.Outcome.TheVariants.{Refused, Moves, Adds, Makes, Ends, Meets}
use Rattle.steps.specs.declared.Answer.{Answer}
use Rattle.steps.specs.declared.Answer.TheVariants as answers
use Rattle.steps.specs.Acted.{acted_of}
use Rattle.steps.specs.Choice.{Clinic, State, Chosen, done, outcome, choice}
use Rattle.steps.specs.Kept.{state_in, Sized, state_left}
use Rattle.steps.specs.Beside.{beside_by, start_beside}
use Rattle.choices.specs.Choices.{Ran, follow, run}
use Rattle.choices.specs.Stored.{Tried, untried, tried_by, on_from, tried, beside_run, Chose, Gone, Through}
use Rattle.choices.specs.declared.Went.{Went}
use Rattle.choices.proofs.RunLaws.{next, Refuses, refused_by}

-- what is left from here gives what the whole gives
abbrev pub LeftTried : (ℕ → ℕ) → Clinic → State → Tried → List ℕ → ℕ → State → Tried → Type 0
LeftTried kind C s t₀ ws k now t = tried kind C s t₀ ws ≡ tried kind C now t (drop (2 * k) ws)

module _ (kind : ℕ → ℕ) (C : Clinic) (s : State) (t₀ : Tried) (ws : List ℕ) (k : ℕ) (now now' : State) (t t' : Tried) (lt : k < length ws / 2) (left : LeftTried kind C s t₀ ws k now t)
    (o : Outcome) (is : o ≡ outcome C now (get_or ws (2 * k) 0) (get_or ws (2 * k + 1) 0))
    (kept : now' ≡ state_left now (done now (get_or ws (2 * k) 0) (get_or ws (2 * k + 1) 0) o)) (told : t' ≡ tried_by kind t.beside o) where
  abbrev chosen : Outcome → Chosen
  chosen x = done now (get_or ws (2 * k) 0) (get_or ws (2 * k + 1) 0) x

  abbrev rest : Tried → State → Tried
  rest u x = tried kind C x u (drop (2 * (k + 1)) ws)

  here : tried kind C s t₀ ws ≡ on_from (chosen o) t' (rest t')
  unfolding tried
  here =
      left ∙ ap (λ (l : List ℕ). tried kind C now t l) (next ws k lt)
      ∙ ap (λ (x : Outcome). on_from (chosen x) (tried_by kind t.beside x) (rest (tried_by kind t.beside x))) (sym is)
      ∙ ap (λ (u : Tried). on_from (chosen o) u (rest u)) (sym told)

  pub tried_halts : (n : ℕ) → answers.Refused n ≡ (acted_of o).answer → tried kind C s t₀ ws ≡ t'
  unfolding done
  tried_halts n e = here ∙ ap (λ (x : Outcome). on_from (chosen x) t' (rest t')) (refused_by o n e)

  pub tried_goes : (Refuses (acted_of o).answer → ⊥) → LeftTried kind C s t₀ ws (k + 1) now' t'
  unfolding done
  tried_goes none = go o none kept here
    where
      go : (x : Outcome) → (Refuses (acted_of x).answer → ⊥) → now' ≡ state_left now (chosen x) → tried kind C s t₀ ws ≡ on_from (chosen x) t' (rest t') → LeftTried kind C s t₀ ws (k + 1) now' t'
      go (Refused n) f q h = absurd (f tt)
      go (Moves u) f q h = h ∙ ap (rest t') (sym q)
      go (Adds u) f q h = h ∙ ap (rest t') (sym q)
      go (Makes u) f q h = h ∙ ap (rest t') (sym q)
      go Ends f q h = h ∙ ap (rest t') (sym q)
      go (Meets u) f q h = h ∙ ap (rest t') (sym q)

-- at the end no choice is left
pub tried_ends : (kind : ℕ → ℕ) (C : Clinic) (s : State) (t₀ : Tried) (ws : List ℕ) (k : ℕ) (now : State) (t : Tried) → k ≡ length ws / 2 → LeftTried kind C s t₀ ws k now t → tried kind C s t₀ ws ≡ t
unfolding tried
tried_ends kind C s t₀ ws k now t e left = left ∙ go (drop (2 * k) ws) (omega (arith, e, length-drop (2 * k) ws))
  where
    go : (l : List ℕ) → length l ≤ 1 → tried kind C now t l ≡ t
    go [] h = refl
    go (x ∷ []) h = refl
    go (x ∷ y ∷ l) h = let none : ⊥ = omega (arith, h) in absurd none

-- so many choices done, then a refusal or the end, are the answer
pub through : (R : Ran) (T : Tried) (k : ℕ) (w b : List ℕ) (c r : ℕ) (a : Answer) → R ≡ record { count = k; refusal = r; state = state_in w b } → T ≡ record { beside = b; last = a } → c ≡ k → Sized w b
    → Through R T (record { count = c; refusal = r; last = a }) w b
through R T k w b c r a e f q z = (
  (λ j. record { count = (q ∙ ap (λ (x : Ran). x.count) (sym e)) j; refusal = (sym e j).refusal; last = (sym f j).last }),
  ap (λ (x : Ran). x.state) (sym e),
  ap (λ (x : Tried). x.beside) (sym f),
  z,
)

-- a list of one choice is that choice
pub one_chosen : (kind : ℕ → ℕ) (C : Clinic) (s : State) (b : List ℕ) (i p : ℕ) → tried kind C s (untried b) (i ∷ p ∷ []) ≡ tried_by kind b (outcome C s i p)
unfolding tried done
one_chosen kind C s b i p = go (outcome C s i p)
  where
    go : (o : Outcome) → on_from (done s i p o) (tried_by kind b o) (λ x. tried kind C x (tried_by kind b o) []) ≡ tried_by kind b o
    go (Refused n) = refl
    go (Moves t) = refl
    go (Adds q) = refl
    go (Makes q) = refl
    go Ends = refl
    go (Meets q) = refl

pub one_state : (C : Clinic) (s : State) (i p : ℕ) → (run C s (i ∷ p ∷ [])).state ≡ state_left s (done s i p (outcome C s i p))
unfolding run choice done
one_state C s i p = go (outcome C s i p)
  where
    go : (o : Outcome) → (follow s (done s i p o) (λ x. run C x [])).state ≡ state_left s (done s i p o)
    go (Refused n) = refl
    go (Moves t) = refl
    go (Adds q) = refl
    go (Makes q) = refl
    go Ends = refl
    go (Meets q) = refl

pub one_chose : (kind : ℕ → ℕ) (C : Clinic) (w b w' b' : List ℕ) (i p : ℕ) (r : Went)
    → Through (run C (state_in w b) (i ∷ p ∷ [])) (tried kind C (state_in w b) (untried b) (i ∷ p ∷ [])) r w' b'
    → Chose (beside_by kind b (outcome C (state_in w b) i p)) (outcome C (state_in w b) i p) i p r.last w b w' b'
one_chose kind C w b w' b' i p r (told, state, words, sized) =
    let one = one_chosen kind C (state_in w b) b i p in (
      ap (λ (x : Went). x.last) told ∙ ap (λ (x : Tried). x.last) one,
      state ∙ one_state C (state_in w b) i p,
      words ∙ ap (λ (x : Tried). x.beside) one,
      sized,
    )

-- and without the last answer
through_gone : (R : Ran) (T : Tried) (r : Went) (w b : List ℕ) → Through R T r w b → Gone R T.beside (record { count = r.count; refusal = r.refusal }) w b
through_gone R T r w b (told, state, words, sized) = (ap (λ (x : Went). record { count = x.count; refusal = x.refusal }) told, state, sized, words)

-- a list gone through from tables that hold the start
pub gone_from : (kind : ℕ → ℕ) (C : Clinic) (s : State) (b₀ ws w b w' b' : List ℕ) (r : Went) → state_in w b ≡ s → b ≡ start_beside kind b₀ s.threads
    → Through (run C (state_in w b) ws) (tried kind C (state_in w b) (untried b) ws) r w' b' → Gone (run C s ws) (beside_run kind C s b₀ ws) (record { count = r.count; refusal = r.refusal }) w' b'
gone_from kind C s b₀ ws w b w' b' r state words through =
    subst (λ (x : State). Gone (run C x ws) (tried kind C x (untried (start_beside kind b₀ s.threads)) ws).beside (record { count = r.count; refusal = r.refusal }) w' b') state
    (subst (λ (l : List ℕ). Gone (run C (state_in w b) ws) (tried kind C (state_in w b) (untried l) ws).beside (record { count = r.count; refusal = r.refusal }) w' b') words (through_gone _ _ r w' b' through))
