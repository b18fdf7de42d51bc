-- Rounds of plain runs.
use Prim.Native.Nat.{ℕ, ◌+◌, ◌*◌, ◌/◌, ◌%◌, ◌-◌, ◌≤◌}
use mathlib.Core.Path.{◌≡◌, refl, sym, ap, ◌∙◌, subst}
use mathlib.Core.Logic.{◌↔◌, ◌⊎◌, inl, inr}
use mathlib.Core.List.{List, [], ◌∷◌, ◌++◌}
use native.Mathlib.Omega.{arith}
use lib.ListN.{length, take}
use lib.Seq.{take_all}
use Rattle.format.specs.Answers.{fine}
use Rattle.format.specs.Contents.{contents_of}
use Rattle.checking.specs.Check.{reading_names}
use Rattle.steps.specs.Choice.{Clinic, clinic_of, State, Chosen, halts, goes, thread_at, choice}
use Rattle.choices.specs.Choices.{run, start, ran_of}
use Rattle.running_exact.specs.Steps.{Steps, Chain}
use Rattle.running_exact.proofs.Agree.{choice_steps, never_both}
use Rattle.running_exact.proofs.StepsChosen.{steps_choice}
use Rattle.running_exact.proofs.RunChain.{run_chain, run_whole, chain_run}
use Rattle.running_exact.proofs.RunSafe.{run_kept}
use Rattle.rounds.specs.Rounds.{RoundState, Here, Path}
use Rattle.rounds.proofs.Rounding.{round_is, round_path, round_length, round_empty}
use Rattle.rounds.proofs.Living.{round_lively}
use Rattle.dispatching.specs.Dispatch.{threads_of, comes_to, round_of}
use Rattle.dispatching_exact.specs.IsRound.{NoWait, IsRound, VisitsOf}
use Rattle.dispatching_exact.proofs.PlainLaws.{lawful, HasLoneStep, Full, recorded}

module _ (C : Clinic) where
  path_chain : (ws : List ℕ) (s s'' : State) → Path threads_of (Steps C) NoWait s ws s'' → Chain C s ws s''
  path_chain [] s s'' e = e
  path_chain (i ∷ []) s s'' e = e
  path_chain (i ∷ p ∷ ws) s s'' (s', inl st, h) = (s', st, path_chain ws s' s'' h)
  path_chain (i ∷ p ∷ ws) s s'' (s', inr (z, st), h) = absurd st

  chain_append : (xs ys : List ℕ) (s s' s'' : State) → Chain C s xs s' → Chain C s' ys s'' → Chain C s (xs ++ ys) s''
  chain_append [] ys s s' s'' e h = subst (λ (x : State). Chain C x ys s'') (sym e) h
  chain_append (i ∷ []) ys s s' s'' e h = absurd e
  chain_append (i ∷ p ∷ xs) ys s s' s'' (t, st, e) h = (t, st, chain_append xs ys t s' s'' e h)

  -- 1. A list of words is a round of a state exactly if it is the computed one, and it leaves what that leaves.
  pub the-round : (s : State) (ws : List ℕ) (s' : State) → IsRound C s ws s' ↔ ((ws ≡ (round_of C s).words) × (s' ≡ (round_of C s).state))
  the-round s ws s' = round_is threads_of (comes_to C) (Steps C) NoWait (lawful C) s ws s'

  -- so there is one, and only one
  pub some_round : (s : State) → (ws : List ℕ) × (s' : State) × IsRound C s ws s'
  some_round s = ((round_of C s).words, (round_of C s).state, (the-round s (round_of C s).words (round_of C s).state).1 (refl, refl))

  pub one_round : (s : State) (ws xs : List ℕ) (s' s'' : State) → IsRound C s ws s' → IsRound C s xs s'' → (ws ≡ xs) × (s' ≡ s'')
  one_round s ws xs s' s'' a b =
      let (p, q) = (the-round s ws s').0 a in
      let (u, v) = (the-round s xs s'').0 b in
      (p ∙ sym u, q ∙ sym v)

  -- 2. The round's choices are steps, one after the other; none is refused.
  pub round_chain : (s : State) → Chain C s (round_of C s).words (round_of C s).state
  round_chain s = path_chain (round_of C s).words s (round_of C s).state (round_path threads_of (comes_to C) (Steps C) NoWait (lawful C) s)

  pub round_run : (s : State) → run C s (round_of C s).words ≡ record { count = length (round_of C s).words / 2; refusal = 0; state = (round_of C s).state }
  round_run s = chain_run C (round_of C s).words s (round_of C s).state (round_chain s)

  -- two words a choice, at most one choice a thread
  pub round_few : (s : State) → (length (round_of C s).words ≤ 2 * length s.threads) × (length (round_of C s).words % 2 ≡ 0)
  round_few s = round_length threads_of (comes_to C) (Steps C) NoWait (lawful C) s

  whole_chain : (s : State) (ws : List ℕ) → (run C s ws).refusal ≡ 0 → length ws % 2 ≡ 0 → Chain C s ws (run C s ws).state
  whole_chain s ws z even =
      let e : 2 * (run C s ws).count ≡ length ws = run_whole C ws s z even in
      subst (λ (x : List ℕ). Chain C s x (run C s ws).state) (ap (λ (k : ℕ). take k ws) e ∙ take_all (length ws) ws (omega arith)) (run_chain C ws s)

  -- after a list that nothing stopped: the run through the list and then the round
  pub round_after : (s : State) (ws : List ℕ) → (run C s ws).refusal ≡ 0 → length ws % 2 ≡ 0
      → run C s (ws ++ (round_of C (run C s ws).state).words)
      ≡ record { count = length (ws ++ (round_of C (run C s ws).state).words) / 2; refusal = 0; state = (round_of C (run C s ws).state).state }
  round_after s ws z even =
      let s' : State = (run C s ws).state in
      chain_run C (ws ++ (round_of C s').words) s (round_of C s').state
      (chain_append ws (round_of C s').words s s' (round_of C s').state (whole_chain s ws z even) (round_chain s'))

  -- 3. Of each thread that could do a lone step at the round's start: the round splits in two. After the first part, the visits of the threads before it, the thread, in
  -- the place where it then stands, is the same record; then its lone choice comes and is a step, or refusal 20 is what that choice gets.
  pub lone_done : (s : State) (v : ℕ) (s₁ : State) → Steps C s v 0 s₁
      → (xs : List ℕ) × (ys : List ℕ) × (g : RoundState State) × (i : ℕ) × ((round_of C s).words ≡ xs ++ ys)
      × VisitsOf C s (v - 1) xs g × Chain C s xs g.state × Here g v i × (thread_at g.state i ≡ thread_at s v)
      × (((zs : List ℕ) × (s' : State) × (ys ≡ i ∷ 0 ∷ zs) × Steps C g.state i 0 s') ⊎ (choice C g.state i 0 ≡ halts 20))
  lone_done s v s₁ st =
      let (xs, ys, g, i, e, f, p, h, m, t) = round_lively threads_of (comes_to C) (Steps C) NoWait (lawful C) thread_at (HasLoneStep C) (Full C) (recorded C) s v (s₁, st) in
      (xs, ys, g, i, e, f, path_chain xs s g.state p, h, m, never_waits ys g i t)
    where
      never_waits : (ys : List ℕ) (g : RoundState State) (i : ℕ)
          → ((zs : List ℕ) × (s' : State) × (ys ≡ i ∷ 0 ∷ zs) × Steps C g.state i 0 s')
          ⊎ (((zs : List ℕ) × (s' : State) × (ys ≡ i ∷ 0 ∷ zs) × NoWait g.state i s') ⊎ (choice C g.state i 0 ≡ halts 20))
          → ((zs : List ℕ) × (s' : State) × (ys ≡ i ∷ 0 ∷ zs) × Steps C g.state i 0 s') ⊎ (choice C g.state i 0 ≡ halts 20)
      never_waits ys g i (inl x) = inl x
      never_waits ys g i (inr (inl (zs, s', e, w))) = absurd w
      never_waits ys g i (inr (inr x)) = inr x

  -- 4. A round is empty exactly if no choice can be done.
  pub round_idle : (s : State) → ((round_of C s).words ≡ []) ↔ ((i p : ℕ) → (n : ℕ) × (choice C s i p ≡ halts n))
  round_idle s = (to, back)
    where
      to : (round_of C s).words ≡ [] → (i p : ℕ) → (n : ℕ) × (choice C s i p ≡ halts n)
      to e i p = go (choice C s i p) refl
        where
          go : (o : Chosen) → choice C s i p ≡ o → (n : ℕ) × (o ≡ halts n)
          go (halts n) d = (n, refl)
          go (goes s') d = absurd (((round_empty threads_of (comes_to C) (Steps C) NoWait (lawful C) s).0 e).0 i p s' (choice_steps C s i p s' d))

      back : ((i p : ℕ) → (n : ℕ) × (choice C s i p ≡ halts n)) → (round_of C s).words ≡ []
      back f =
          (round_empty threads_of (comes_to C) (Steps C) NoWait (lawful C) s).1
          (λ i p s' st. let (n, d) = f i p in never_both C s i p n s' d (steps_choice C s i p s' st), λ i s' st. st)

module _ (C : Clinic) (s : State) where
  -- the same of any round of the state
  pub round_steps : (rs : List ℕ) (s' : State) → IsRound C s rs s' → Chain C s rs s'
  round_steps rs s' is =
      let (p, q) = (the-round C s rs s').0 is in
      subst (λ (x : List ℕ). Chain C s x s') (sym p) (subst (λ (t : State). Chain C s (round_of C s).words t) (sym q) (round_chain C s))

  pub lone_in_round : (v : ℕ) (s₁ : State) → Steps C s v 0 s₁ → (rs : List ℕ) (s' : State) → IsRound C s rs s'
      → (xs ys : List ℕ) × (g : RoundState State) × (i : ℕ) × (rs ≡ xs ++ ys) × VisitsOf C s (v - 1) xs g × Chain C s xs g.state × Here g v i × (thread_at g.state i ≡ thread_at s v)
      × (((zs : List ℕ) × (s'' : State) × (ys ≡ i ∷ 0 ∷ zs) × Steps C g.state i 0 s'') ⊎ (choice C g.state i 0 ≡ halts 20))
  lone_in_round v s₁ st rs s' is =
      let (xs, ys, g, i, e, visits, chain, here, same, done) = lone_done C s v s₁ st in
      (xs, ys, g, i, ((the-round C s rs s').0 is).0 ∙ e, visits, chain, here, same, done)

  pub empty_round : (rs : List ℕ) (s' : State) → IsRound C s rs s' → (rs ≡ []) ↔ ((i p : ℕ) → (n : ℕ) × (choice C s i p ≡ halts n))
  empty_round rs s' is = subst (λ (x : List ℕ). (x ≡ []) ↔ ((i p : ℕ) → (n : ℕ) × (choice C s i p ≡ halts n))) (sym ((the-round C s rs s').0 is).0) (round_idle C s)

module _ (f : List ℕ) where
  abbrev C : Clinic
  C = clinic_of (contents_of f)

  -- after any list of a file that 1 to 10 do not refuse: at most 64 choices, 128 words
  pub round_words : reading_names f ≡ fine → (ws : List ℕ) → length (round_of C (ran_of f ws).state).words ≤ 128
  round_words ok ws =
      let s : State = (ran_of f ws).state in
      let k : length s.threads ≤ 64 = (run_kept f ok ws).few_threads in
      omega (arith, (round_few C s).0, k)

  -- the run through both lists, from the file's own start
  pub round_ran : (ws : List ℕ) → (ran_of f ws).refusal ≡ 0 → length ws % 2 ≡ 0
      → ran_of f (ws ++ (round_of C (ran_of f ws).state).words)
      ≡ record { count = length (ws ++ (round_of C (ran_of f ws).state).words) / 2; refusal = 0; state = (round_of C (ran_of f ws).state).state }
  round_ran ws z even = round_after C (start (contents_of f)) ws z even
