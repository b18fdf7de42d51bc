-- Plain choices meet what the theorems on rounds ask of choices.
use Prim.Native.Nat.{ℕ, suc, ◌-◌, ◌+◌, ◌≤◌, ◌<◌}
use mathlib.Core.Path.{◌≡◌, refl, sym, ap, ◌∙◌, subst}
use mathlib.Core.Logic.{◌↔◌, ◌⊎◌, inl, inr, ◌≢◌}
use mathlib.Core.Bool.{Bool, true, false, cond}
use mathlib.Core.List.{List, [], ◌∷◌, ◌++◌}
use native.Mathlib.Omega.{arith}
use lib.Dec.{eqb, ltb}
use lib.ListN.{length, get_or, set, length-set}
use lib.Seq.{get_or-set_other}
use borrow.Author.Tests.{ltb-true, ltb-false, le-ltb}
use Rattle.masks.specs.Mask.{has}
use Rattle.format.specs.declared.Node.{Node}
use Rattle.steps.specs.declared.Thread.{Thread}
use Rattle.steps.specs.Threads.{no_thread, value}
use Rattle.steps.specs.Choice.{Clinic, State, Chosen, halts, goes, thread_at, lone, alone_only, done, choice}
use Rattle.reading_exact.specs.File.{InCount}
use Rattle.running_exact.specs.Steps.{StandsAt, Steps, on, off, fork, repeat, new, compare, end, meet}
use Rattle.running_exact.specs.Conditions.{Lone}
use Rattle.running_exact.proofs.StepsChosen.{at_node_lem, steps_choice}
use Rattle.running_exact.proofs.Agree.{choice_steps}
use Rattle.rounds.specs.Round.{Taken, refuses, waits, steps, without_item}
use Rattle.rounds.proofs.PlaceLaws.{without_item_below, without_item_above}
use Rattle.rounds.proofs.Laws.{Lawful, Recorded}
use Rattle.dispatching.specs.Dispatch.{threads_of, taken_of, comes_to}
use Rattle.dispatching_exact.specs.IsRound.{NoWait}
use Rattle.dispatching_exact.proofs.StepShapes.{Shape, LoneStep, lone_step, Meeting, meeting_step, step_counted, shape_count, shape_others, shape_gone}

lone_tag : (t k : ℕ) → (k ≡ 5) ⊎ (k ≡ 6) → Lone t → t ≡ k → ⊥
lone_tag t k (inl e) (inl l) z = omega (arith, e, l, z)
lone_tag t k (inl e) (inr (inl l)) z = omega (arith, e, l, z)
lone_tag t k (inl e) (inr (inr l)) z = omega (arith, e, l, z)
lone_tag t k (inr e) (inl l) z = omega (arith, e, l, z)
lone_tag t k (inr e) (inr (inl l)) z = omega (arith, e, l, z)
lone_tag t k (inr e) (inr (inr l)) z = omega (arith, e, l, z)

abbrev Kind : Taken State → ℕ
Kind (refuses n) = 0
Kind (waits s) = 1
Kind (steps s) = 2

goes_of : (o : Chosen) (s' : State) → taken_of o ≡ steps s' → o ≡ goes s'
goes_of (halts n) s' e = let z : ◌≡◌ {A = ℕ} 0 2 = ap Kind e in let never : ⊥ = omega (arith, z) in absurd never
goes_of (goes s) s' e = cc e

never_waits : (o : Chosen) (s' : State) → taken_of o ≡ waits s' → ⊥
never_waits (halts n) s' e = let z : ◌≡◌ {A = ℕ} 0 1 = ap Kind e in omega (arith, z)
never_waits (goes s) s' e = let z : ◌≡◌ {A = ℕ} 2 1 = ap Kind e in omega (arith, z)

module _ (C : Clinic) where
  pub lawful : Lawful threads_of (comes_to C) (Steps C) NoWait
  lawful = record {
    stepped = λ s i p s'. (λ e. choice_steps C s i p s' (goes_of (choice C s i p) s' e), λ st. ap taken_of (steps_choice C s i p s' st));
    waiting = λ s i s'. (λ e. never_waits (choice C s i 0) s' e, λ st. absurd st);
    apart = apart;
    lone_count = λ s i s' st.
        let L : LoneStep C s i s' = lone_step C s i s' st in
        shape_count s.threads (i - 1) s'.threads (omega (arith, L.stands.0.0, L.stands.0.1)) L.shape;
    meet_count = λ s i p s' l st.
        let M : Meeting C s i p s' = meeting_step C s i p s' l st in
        ap (λ (x : List Thread). length x) M.threads ∙ length-set (set s.threads (i - 1) M.first) (p - 1) M.second ∙ length-set s.threads (i - 1) M.first;
    wait_count = λ s i s' st. absurd st;
    counted = λ s i p s' st. step_counted C s i p s' st;
    wait_counted = λ s i s' st. absurd st;
  }
    where
      apart : (s : State) (i p : ℕ) (s' s'' : State) → 1 ≤ p → Steps C s i p s' → Steps C s i 0 s'' ⊎ NoWait s i s'' → ⊥
      apart s i p s' s'' l st (inl at) =
          let M : Meeting C s i p s' = meeting_step C s i p s' l st in
          let L : LoneStep C s i s'' = lone_step C s i s'' at in
          lone_tag L.node.tag 6 (inr refl) L.tag (ap (λ (x : Node). x.tag) (sym L.stands.2 ∙ M.stands.2) ∙ M.six)
      apart s i p s' s'' l st (inr at) = at

  -- the thread could do a lone step
  abbrev pub HasLoneStep : State → ℕ → Type 0
  HasLoneStep s j = (s' : State) × Steps C s j 0 s'

  -- refusal 20 is what the thread's lone choice gets
  abbrev pub Full : State → ℕ → Type 0
  Full s i = choice C s i 0 ≡ halts 20

  -- a thread that holds the same stands at the same node
  same_node : (s s₁ : State) (j i : ℕ) (n : Node) → InCount (length s₁.threads) i → thread_at s₁ i ≡ thread_at s j → StandsAt C s j n → StandsAt C s₁ i n
  same_node s s₁ j i n c e st =
      (c, subst (λ (t : Thread). InCount C.nodes t.node) (sym e) st.1, ap (λ (t : Thread). C.node t.node) e ∙ st.2)

  full_threads : (s : State) (i : ℕ) (n : Node) → StandsAt C s i n → (n.tag ≡ 1) ⊎ (n.tag ≡ 2) → 64 ≤ length s.threads → Full s i
  unfolding alone_only lone done
  full_threads s i n st (inl e) l = at_node_lem C s i 0 n st ∙ rw (e, le-ltb (length s.threads) 64 l)
  full_threads s i n st (inr e) l = at_node_lem C s i 0 n st ∙ rw (e, le-ltb (length s.threads) 64 l)

  full_made : (s : State) (i : ℕ) (n : Node) → StandsAt C s i n → n.tag ≡ 3 → 64 ≤ length s.made → Full s i
  unfolding alone_only lone done
  full_made s i n st e l = at_node_lem C s i 0 n st ∙ rw (e, le-ltb (length s.made) 64 l)

  abbrev Again : State → ℕ → Type 0
  Again s i = ((s'' : State) × Steps C s i 0 s'') ⊎ Full s i

  -- what a lone step asks beside the thread, the file has, or the counts: then 20
  again : (s s₁ : State) (j p i : ℕ) (s' : State) → p ≡ 0 → Steps C s j p s' → InCount (length s₁.threads) i → thread_at s₁ i ≡ thread_at s j → Again s₁ i
  again s s₁ _ _ i s' z (on j n st e h) c q =
      inl (_, on i n (same_node s s₁ j i n c q st) e (ap (λ (t : Thread). has (C.schema.assigned t.user) n.f1) q ∙ h))
  again s s₁ _ _ i s' z (off j n st e h) c q = inl (_, off i n (same_node s s₁ j i n c q st) e (ap (λ (t : Thread). has t.mask n.f1) q ∙ h))
  again s s₁ _ _ i s' z (fork j n st e h) c q = go (ltb (length s₁.threads) 64) refl
    where
      go : (b : Bool) → ltb (length s₁.threads) 64 ≡ b → Again s₁ i
      go true t = inl (_, fork i n (same_node s s₁ j i n c q st) e (ltb-true (length s₁.threads) 64 t))
      go false t = inr (full_threads s₁ i n (same_node s s₁ j i n c q st) (inl e) (ltb-false (length s₁.threads) 64 t))
  again s s₁ _ _ i s' z (repeat j n st e h) c q = go (ltb (length s₁.threads) 64) refl
    where
      go : (b : Bool) → ltb (length s₁.threads) 64 ≡ b → Again s₁ i
      go true t = inl (_, repeat i n (same_node s s₁ j i n c q st) e (ltb-true (length s₁.threads) 64 t))
      go false t = inr (full_threads s₁ i n (same_node s s₁ j i n c q st) (inr e) (ltb-false (length s₁.threads) 64 t))
  again s s₁ _ _ i s' z (new j n st e h) c q = go (ltb (length s₁.made) 64) refl
    where
      go : (b : Bool) → ltb (length s₁.made) 64 ≡ b → Again s₁ i
      go true t = inl (_, new i n (same_node s s₁ j i n c q st) e (ltb-true (length s₁.made) 64 t))
      go false t = inr (full_made s₁ i n (same_node s s₁ j i n c q st) e (ltb-false (length s₁.made) 64 t))
  again s s₁ _ _ i s' z (compare j n st e h) c q =
      inl (_, compare i n (same_node s s₁ j i n c q st) e (ap (λ (t : Thread). value t n.f1) q ∙ h ∙ ap (λ (t : Thread). value t n.f2) (sym q)))
  again s s₁ _ _ i s' z (end j n st e) c q = inl (_, end i n (same_node s s₁ j i n c q st) e)
  again s s₁ _ _ i s' z (meet j p n m st six at five x y w) c q = let l : 1 ≤ p = at.0.0 in let never : ⊥ = omega (arith, l, z) in absurd never

  pub recorded : Recorded threads_of (comes_to C) (Steps C) NoWait thread_at HasLoneStep Full
  recorded = record {
    others = λ s i j s' st m l h z.
        let L : LoneStep C s i s' = lone_step C s i s' st in
        let li : 1 ≤ i = L.stands.0.0 in
        shape_others s.threads (i - 1) (j - 1) s'.threads (omega (arith, L.stands.0.0, L.stands.0.1)) L.shape m (omega (arith, l, h))
        (λ w. z (omega (arith, w, l, li)));
    before = λ s i j s' st m l h.
        let L : LoneStep C s i s' = lone_step C s i s' st in
        ap (λ (x : List Thread). get_or x (j - 1) no_thread) (shape_gone s.threads (i - 1) s'.threads L.shape m)
        ∙ without_item_below no_thread s.threads (i - 1) (j - 1) (omega (arith, l, h));
    after = λ s i j s' st m l.
        let L : LoneStep C s i s' = lone_step C s i s' st in
        let li : 1 ≤ i = L.stands.0.0 in
        let e : suc (j - 1) ≡ suc j - 1 = omega (arith, l, li) in
        ap (λ (x : List Thread). get_or x (j - 1) no_thread) (shape_gone s.threads (i - 1) s'.threads L.shape m)
        ∙ without_item_above no_thread s.threads (i - 1) (j - 1) (omega (arith, l)) ∙ ap (λ (x : ℕ). get_or s.threads x no_thread) e;
    unmet = λ s i p j s' l st lj z y.
        let M : Meeting C s i p s' = meeting_step C s i p s' l st in
        let li : 1 ≤ i = M.stands.0.0 in
        ap (λ (x : List Thread). get_or x (j - 1) no_thread) M.threads
        ∙ get_or-set_other (set s.threads (i - 1) M.first) (p - 1) (j - 1) M.second no_thread (λ w. y (omega (arith, w, lj, l)))
        ∙ get_or-set_other s.threads (i - 1) (j - 1) M.first no_thread (λ w. z (omega (arith, w, lj, li)));
    unmoved = λ s i j s' st. absurd st;
    able_counted = λ s j (s', st). let (l, h, _) = step_counted C s j 0 s' st in (l, h);
    no_receiver = λ s s₁ j i p s'' (s', st) l at e.
        let M : Meeting C s₁ i p s'' = meeting_step C s₁ i p s'' l at in
        let L : LoneStep C s j s' = lone_step C s j s' st in
        lone_tag L.node.tag 5 (inl refl) L.tag
        (ap (λ (x : Node). x.tag) (sym L.stands.2 ∙ ap (λ (t : Thread). C.node t.node) (sym e) ∙ M.there.2) ∙ M.five);
    again = λ s s₁ j i (s', st) l h e. nor_waits (again s s₁ j 0 i s' refl st (l, h) e);
  }
    where
      nor_waits : {s : State} {i : ℕ} → Again s i → ((s'' : State) × Steps C s i 0 s'') ⊎ (((s'' : State) × NoWait s i s'') ⊎ Full s i)
      nor_waits (inl x) = inl x
      nor_waits (inr x) = inr (inr x)
