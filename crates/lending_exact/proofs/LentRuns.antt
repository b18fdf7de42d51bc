-- A list that holds a state of a run may be lent, and a choice in it gives the run's next state; what may be lent may be lent again after a choice.
use Prim.Native.Nat.{ℕ, suc, ◌+◌, ◌%◌, ◌≤◌, zero, ◌*◌, ◌-◌, ◌<◌}
use mathlib.Core.Path.{◌≡◌, refl, sym, ap, ap₂, ◌∙◌, subst}
use mathlib.Core.Bool.{false, cond}
use mathlib.Core.List.{List, [], ◌∷◌, ◌++◌}
use native.Mathlib.Omega.{arith}
use lib.Dec.{eqb}
use lib.ListN.{length, get_or, set, take, drop, length-take}
use lib.Seq.{take-append_seam, get_or-drop, drop-drop, sets, length-sets, sets-eq}
use borrow.Author.Tests.{ne_eqb}
use Rattle.format.specs.Contents.{contents_of}
use Rattle.format.specs.Answers.{fine, refused}
use Rattle.format.specs.declared.Verdict.{Verdict}
use Rattle.rules.specs.Schema.{schema_of}
use Rattle.rules.specs.Rules.{Context}
use Rattle.checking.specs.Check.{reading_names}
use Rattle.reading_exact.specs.Lists.{All}
use Rattle.reading_exact.proofs.AllLaws.{all_map}
use Rattle.steps.specs.declared.Thread.{Thread}
use Rattle.steps.specs.declared.Made.{Made}
use Rattle.steps.specs.Choice.{Clinic, clinic_of, State, Chosen, halts, goes, choice}
use Rattle.steps.specs.Beside.{made_in, made_words}
use Rattle.choices.specs.Choices.{start, Ran, follow, run, ran_of}
use Rattle.steps.proofs.ActLaws.{length_made}
use Rattle.running_exact.specs.Keeps.{Fits, Reaches, Formed, Kept}
use Rattle.running_exact.proofs.Agree.{refused_positive}
use Rattle.running_exact.proofs.FileNodes.{StandsIn}
use Rattle.running_exact.proofs.FileLawful.{of_kept, lawful}
use Rattle.running_exact.proofs.ThreadLists.{all_set}
use Rattle.running_exact.proofs.ThreadSteps.{Steady, Good}
use Rattle.running_exact.proofs.OutcomeClaims.{MayCome}
use Rattle.running_exact.proofs.ChoiceKeeps.{Invariant, Keeps, choice_keeps}
use Rattle.running_exact.proofs.RunSafe.{start_kept, choice_kept, run_kept}
use Rattle.lending.specs.Lent.{state_of, lending, chosen_answer, chosen_in, choosing, records_after, beside_after, records_over, beside_over}
use Rattle.running.proofs.PutLaws.{made_words_length}
use Rattle.naming.specs.Scopes.{awaits}
use Rattle.steps.specs.Beside.{waiting, totals_for}
use Rattle.steps.proofs.TableLaws.{sets_other, sets_in}
use Rattle.lending.proofs.TotalsLaws.{totals_long, totals_get}
use Rattle.lending_exact.proofs.WaitingCounts.{counts_same}
use Rattle.lending_exact.specs.Waiting.{Totalled}
use Rattle.lending_exact.specs.Lendable.{Lendable, Eight, Lends, Left, in_turn}
use Rattle.lending_exact.proofs.LentAnswers.{chooses, left_has, left_by, lending_fine}
use Rattle.lending_exact.proofs.LendableLaws.{judged_lendable, lendable_judged, choosing_fine}

-- The state that is stored.

-- made channels are read back from their words
made_back : (ms : List Made) (b : List ℕ) (p : ℕ) (rest : List ℕ) → drop p b ≡ made_words ms ++ rest → made_in b p (length ms) ≡ ms
unfolding made_in made_words
made_back [] b p rest e = refl
made_back (m ∷ ms) b p rest e =
    let z : p ≡ p + 0 = omega arith in
    let owner : get_or b p 0 ≡ m.owner = ap (λ (k : ℕ). get_or b k 0) z ∙ sym (get_or-drop p b 0 0) ∙ ap (λ (x : List ℕ). get_or x 0 0) e in
    let kind : get_or b (p + 1) 0 ≡ m.kind.0 = sym (get_or-drop p b 1 0) ∙ ap (λ (x : List ℕ). get_or x 1 0) e in
    ap₂ (λ (x : Made) (xs : List Made). x ∷ xs) (ap₂ (λ (o k : ℕ). record { owner = o; kind = record { 0 = k } }) owner kind)
    (made_back ms b (p + 2) rest (sym (drop-drop 2 p b) ∙ ap (drop 2) e))

-- made channels are not where the totals are
made_below : (b d : List ℕ) (p k : ℕ) → p + 2 * k ≤ 130 → ((j : ℕ) → j < 130 → get_or d j 0 ≡ get_or b j 0) → made_in d p k ≡ made_in b p k
unfolding made_in
made_below b d p zero le h = refl
made_below b d p (suc k) le h =
    ap₂ (λ (m : Made) (ms : List Made). m ∷ ms) (ap₂ (λ (x y : ℕ). record { owner = x; kind = record { 0 = y } }) (h p (omega (arith, le))) (h (p + 1) (omega (arith, le))))
    (made_below b d (p + 2) k (omega (arith, le)) h)

module _ (f : List ℕ) (clean : reading_names f ≡ fine) (l : List Thread) (b : List ℕ) (records : length l ≡ 64) (words : length b ≡ 162) (s : State) (few : length s.threads ≤ 64) (made : length s.made ≤ 64)
    (fits : All (λ (t : Thread). (c : Context) × Reaches (contents_of f) t c × Fits (schema_of (contents_of f)) s.made c t) s.threads) where
  -- a list in which a state is stored holds it
  pub stored_lends : Lends (contents_of f) (records_after l (goes s)) (beside_after (contents_of f) b (goes s)) s
  stored_lends =
      let ts : List Thread = s.threads in
      let ws : List ℕ = length ts ∷ length s.made ∷ made_words s.made in
      let d : List ℕ = sets b 0 ws in
      let T : List ℕ = totals_for (awaits (contents_of f)) ts in
      let e : List ℕ = sets d 130 T in
      let long : length d ≡ 162 = length-sets b 0 ws ∙ words in
      let below : (j : ℕ) → j < 130 → get_or e j 0 ≡ get_or d j 0 = λ j lt. sets_other T d 130 j 0 (λ k small q. omega (arith, lt, q)) in
      let held : sets l 0 ts ≡ ts ++ drop (0 + length ts) l = sets-eq ts l 0 (omega (arith, few, records)) in
      let beside : d ≡ ws ++ drop (0 + length ws) b = sets-eq ws b 0 (omega (arith, made, words, made_words_length s.made)) in
      let count : get_or e 0 0 ≡ length ts = below 0 (omega arith) ∙ ap (λ (x : List ℕ). get_or x 0 0) beside in
      let number : get_or e 1 0 ≡ length s.made = below 1 (omega arith) ∙ ap (λ (x : List ℕ). get_or x 1 0) beside in
      record {
        records = length-sets l 0 ts ∙ records;
        words = length-sets d 130 T ∙ long;
        threads = count;
        made = number;
        state = ap₂ (λ (x : List Thread) (y : List Made). record { threads = x; made = y })
            (ap₂ (λ (n : ℕ) (x : List Thread). take n x) count held ∙ take-append_seam ts (drop (0 + length ts) l))
            (ap (made_in e 2) number ∙ made_below d e 2 (length s.made) (omega (arith, made)) below ∙ made_back s.made d 2 (drop (0 + length ws) b) (ap (drop 2) beside));
        totals = λ k inside.
            let there : 129 + k ≡ 130 + (k - 1) = omega (arith, inside.0) in
            let back : 1 + (k - 1) ≡ k = omega (arith, inside.0) in
            ap (λ (x : ℕ). get_or e x 0) there
            ∙ sets_in T d 130 (k - 1) 0 (omega (arith, inside.0, inside.1, totals_long (awaits (contents_of f)) ts)) (omega (arith, long, totals_long (awaits (contents_of f)) ts))
            ∙ totals_get (awaits (contents_of f)) ts (k - 1) (omega (arith, inside.0, inside.1)) ∙ ap (λ (x : ℕ). waiting (awaits (contents_of f)) x ts) back
            ∙ sym (counts_same f clean s.made k inside.0 ts fits);
      }

module _ (f : List ℕ) where
  abbrev clinic : Clinic
  clinic = clinic_of (contents_of f)

  -- What may be lent is what holds in a state of a run, but for the active sets.

  abbrev Fit : List Made → Thread → Type 0
  Fit made t = (c : Context) × Reaches (contents_of f) t c × Fits (schema_of (contents_of f)) made c t

  -- a thread's active set need not be its context's
  abbrev pub loose : ℕ → ℕ → Type 0
  loose m n = Unit {0}

  abbrev any : ℕ → Type 0
  any n = Unit {0}

  pub held_fit : (K : ℕ → ℕ → Type 0) (s : State) → Invariant clinic (StandsIn (contents_of f)) K s → All (Fit s.made) s.threads
  held_fit K s I = all_map {P = Good (schema_of (contents_of f)) (StandsIn (contents_of f)) K s.made} {Q = Fit s.made} (λ t (c, a, F, k). (c, a, F)) s.threads I.threads

  pub kept_fit : (s : State) → Kept (contents_of f) s → All (Fit s.made) s.threads
  kept_fit s K = held_fit ◌≡◌ s (of_kept (contents_of f) s K)

  -- a list that holds such a state may be lent
  held_lendable : (K : ℕ → ℕ → Type 0) (s : State) → Invariant clinic (StandsIn (contents_of f)) K s → (l : List Thread) (b : List ℕ) → Lends (contents_of f) l b s → Lendable (contents_of f) l b
  held_lendable K s I l b L = record {
    records = L.records;
    words = L.words;
    few_threads = omega (arith, L.threads, I.few_threads);
    few_made = omega (arith, L.made, I.few_made);
    made = subst (λ (x : State). All (Formed (schema_of (contents_of f))) x.made) (sym L.state) I.made;
    threads = subst (λ (x : State). All (Fit x.made) x.threads) (sym L.state) (held_fit K s I);
    totals = subst (Totalled (contents_of f) b) (sym L.state) L.totals;
  }

  -- and what may be lent holds such a state
  lendable_held : (l : List Thread) (b : List ℕ) → Lendable (contents_of f) l b → Invariant clinic (StandsIn (contents_of f)) loose (state_of l b)
  lendable_held l b L = record {
    threads = all_map {P = Fit (state_of l b).made} {Q = Good (schema_of (contents_of f)) (StandsIn (contents_of f)) loose (state_of l b).made} (λ t (c, a, F). (c, a, F, tt))
        (state_of l b).threads L.threads;
    made = L.made;
    few_threads = omega (arith, length-take (get_or b 0 0) l, L.few_threads);
    few_made = omega (arith, length_made b 2 (get_or b 1 0), L.few_made);
  }

  module _ (clean : reading_names f ≡ fine) where
    -- nothing refuses before a choice in it
    lends_fine : (l : List Thread) (b : List ℕ) → Lendable (contents_of f) l b → lending f l b ≡ fine
    lends_fine l b L = (lending_fine f l b).1 (clean, lendable_judged f clean l b L)

    -- nor in a list that holds a state of a run
    lends_kept : (s : State) → Kept (contents_of f) s → (l : List Thread) (b : List ℕ) → Lends (contents_of f) l b s → lending f l b ≡ fine
    lends_kept s K l b L = lends_fine l b (held_lendable ◌≡◌ s (of_kept (contents_of f) s K) l b L)

    -- A state of a run is never 18 at place 0.
    pub kept_lendable : (ws : List ℕ) (l : List Thread) (b : List ℕ) → Lends (contents_of f) l b (ran_of f ws).state → lending f l b ≡ fine
    kept_lendable ws l b L = lends_kept (ran_of f ws).state (run_kept f clean ws) l b L

    -- One choice in a list that holds a state of a run.

    -- the state after a choice: a refused one leaves it
    abbrev next : State → Chosen → State
    next s (halts n) = s
    next s (goes s') = s'

    -- the list holds it after the choice, and the answer is the choice's
    lent_step : (s : State) → Kept (contents_of f) s → (l : List Thread) (b : List ℕ) → Lends (contents_of f) l b s → (i p : ℕ)
        → Lends (contents_of f) (records_over f l b i p) (beside_over f l b i p) (next s (choice clinic s i p)) × (choosing f l b i p ≡ chosen_answer (choice clinic s i p))
    lent_step s K l b L i p =
        let same : chosen_in f l b i p ≡ choice clinic s i p = ap (λ (x : State). choice clinic x i p) L.state in
        let all = chooses f l b i p (lends_kept s K l b L) (choice clinic s i p) same in
        (left_has f l b (λ x y. Lends (contents_of f) x y (next s (choice clinic s i p))) all (go (choice clinic s i p) refl), all.answer)
      where
        go : (o : Chosen) → choice clinic s i p ≡ o → Lends (contents_of f) (records_after l o) (beside_after (contents_of f) b o) (next s o)
        go (halts n) e = L
        go (goes s') e = let K' : Kept (contents_of f) s' = choice_kept f clean K i p e in stored_lends f clean l b L.records L.words s' K'.few_threads K'.few_made (kept_fit s' K')

    -- Lists of choices.

    -- the answer of a run's last choice
    abbrev told : ℕ → Verdict
    told n = cond (eqb n 0) fine (refused n 1)

    -- a refusal has a number
    loud : (s : State) (i p n : ℕ) → choice clinic s i p ≡ halts n → eqb n 0 ≡ false
    loud s i p n e = let low = refused_positive clinic s i p n e in ne_eqb n 0 (λ z. omega (arith, low))

    -- a run that nothing stopped goes on from its state
    module _ (vs : List ℕ) where
      abbrev Onward : Ran → Ran → Type 0
      Onward r q = (r.state ≡ q.state) × (r.refusal ≡ q.refusal)

      run_more : (ws : List ℕ) (s : State) → length ws % 2 ≡ 0 → (run clinic s ws).refusal ≡ 0
          → Onward (run clinic s (ws ++ vs)) (run clinic (run clinic s ws).state vs)
      unfolding run
      run_more [] s even z = (refl, refl)
      run_more (i ∷ []) s even z = let never : ⊥ = omega (arith, even) in absurd never
      run_more (i ∷ p ∷ ws) s even z = go (choice clinic s i p) refl z (λ s'. run_more ws s' (omega (arith, even)))
        where
          go : (o : Chosen) → choice clinic s i p ≡ o → (follow s o (λ s'. run clinic s' ws)).refusal ≡ 0
              → ((s' : State) → (run clinic s' ws).refusal ≡ 0 → Onward (run clinic s' (ws ++ vs)) (run clinic (run clinic s' ws).state vs))
              → Onward (follow s o (λ s'. run clinic s' (ws ++ vs))) (run clinic (follow s o (λ s'. run clinic s' ws)).state vs)
          go (halts n) e z rec = absurd (omega (arith, z, refused_positive clinic s i p n e))
          go (goes s') e z rec = rec s' z

    -- a run of one choice
    one_more_lem : (s : State) (i p : ℕ)
        → (next s (choice clinic s i p) ≡ (run clinic s (i ∷ p ∷ [])).state) × (chosen_answer (choice clinic s i p) ≡ told (run clinic s (i ∷ p ∷ [])).refusal)
    unfolding run
    one_more_lem s i p = go (choice clinic s i p) refl
      where
        go : (o : Chosen) → choice clinic s i p ≡ o
            → (next s o ≡ (follow s o (λ s'. run clinic s' [])).state) × (chosen_answer o ≡ told (follow s o (λ s'. run clinic s' [])).refusal)
        go (halts n) e = (refl, rw (loud s i p n e))
        go (goes s') e = (refl, refl)

    -- In a list that holds the state of a run that nothing stopped, a choice gives the run's next state, or the run's refusal at place 1.
    pub lent_next : (ws : List ℕ) → length ws % 2 ≡ 0 → (ran_of f ws).refusal ≡ 0 → (l : List Thread) (b : List ℕ) → Lends (contents_of f) l b (ran_of f ws).state → (i p : ℕ)
        → let R : Ran = ran_of f (ws ++ (i ∷ p ∷ [])) in
        Lends (contents_of f) (records_over f l b i p) (beside_over f l b i p) R.state × (choosing f l b i p ≡ cond (eqb R.refusal 0) fine (refused R.refusal 1))
    lent_next ws even z l b L i p =
        let s : State = (ran_of f ws).state in
        let (holds, answer) = lent_step s (run_kept f clean ws) l b L i p in
        let (state, refusal) = run_more (i ∷ p ∷ []) ws (start (contents_of f)) even z in
        let (after, told-so) = one_more_lem s i p in
        (subst (Lends (contents_of f) (records_over f l b i p) (beside_over f l b i p)) (after ∙ sym state) holds, answer ∙ told-so ∙ ap told (sym refusal))

    -- what choices in turn leave is what a run leaves
    abbrev Alike : Left → Ran → Type 0
    Alike r q = Lends (contents_of f) r.records r.beside q.state × (r.answer ≡ told q.refusal)

    turns_alike : (ws : List ℕ) (s : State) → Kept (contents_of f) s → (l : List Thread) (b : List ℕ) → Lends (contents_of f) l b s → Alike (in_turn f l b ws) (run clinic s ws)
    unfolding in_turn run
    turns_alike [] s K l b L = (L, refl)
    turns_alike (i ∷ []) s K l b L = (L, refl)
    turns_alike (i ∷ p ∷ ws) s K l b L =
        let (holds, answer) = lent_step s K l b L i p in
        go (choice clinic s i p) refl holds answer (λ s' K' L'. turns_alike ws s' K' (records_over f l b i p) (beside_over f l b i p) L')
      where
        go : (o : Chosen) → choice clinic s i p ≡ o → Lends (contents_of f) (records_over f l b i p) (beside_over f l b i p) (next s o) → choosing f l b i p ≡ chosen_answer o
            → ((s' : State) → Kept (contents_of f) s' → Lends (contents_of f) (records_over f l b i p) (beside_over f l b i p) s'
            → Alike (in_turn f (records_over f l b i p) (beside_over f l b i p) ws) (run clinic s' ws))
            → Alike (cond (eqb (choosing f l b i p).number 0) (in_turn f (records_over f l b i p) (beside_over f l b i p) ws)
            (record { records = records_over f l b i p; beside = beside_over f l b i p; answer = choosing f l b i p })) (follow s o (λ s'. run clinic s' ws))
        go (halts n) e holds answer rec = rw (answer, loud s i p n e) (holds, refl)
        go (goes s') e holds answer rec = rw answer (rec s' (choice_kept f clean K i p e) holds)

    -- The choices of a list, done one after the other in a lent list that holds the start, leave in it the state of the run and answer as the run does.
    pub whole_run : (ws : List ℕ) (l : List Thread) (b : List ℕ) → Lends (contents_of f) l b (start (contents_of f))
        → let r : Left = in_turn f l b ws in
        Lends (contents_of f) r.records r.beside (ran_of f ws).state × (r.answer ≡ cond (eqb (ran_of f ws).refusal 0) fine (refused (ran_of f ws).refusal 1))
    whole_run ws l b L = turns_alike ws (start (contents_of f)) (start_kept f clean) l b L

  -- What may be lent may be lent again.

  module _ (l : List Thread) (eights : All Eight l) (b : List ℕ) (fit : lending f l b ≡ fine) (i p : ℕ) where
    -- it passes the judging
    pub lendable : Lendable (contents_of f) l b
    lendable = let (clean, judged) = (lending_fine f l b).0 fit in judged_lendable f clean l b eights judged

    -- a choice that is carried out leaves a state in which every thread fits its node
    pub chosen_held : (s : State) → choice clinic (state_of l b) i p ≡ goes s → Invariant clinic (StandsIn (contents_of f)) loose s
    chosen_held s h =
        subst (Keeps clinic (StandsIn (contents_of f)) loose any) h
        (choice_keeps clinic (StandsIn (contents_of f)) (lawful f ((lending_fine f l b).0 fit).0) loose steady any come (state_of l b) (lendable_held l b lendable) i p)
      where
        steady : Steady loose
        steady = record { on = λ m n r e. tt; off = λ m n r e. tt }

        come : MayCome clinic (StandsIn (contents_of f)) loose any
        come = record { no_thread_lem = tt; unequal = tt; full = tt; role = λ j c a m h n e. tt }

    -- so that may be lent again
    lends_again : choosing f l b i p ≡ fine → lending f (records_over f l b i p) (beside_over f l b i p) ≡ fine
    lends_again e =
        let (z, (s, h)) = (choosing_fine f l b i p).0 e in
        let I = chosen_held s h in
        let L = stored_lends f ((lending_fine f l b).0 fit).0 l b lendable.records lendable.words s I.few_threads I.few_made (held_fit loose s I) in
        left_has f l b (λ x y. lending f x y ≡ fine) (chooses f l b i p fit (goes s) h)
        (lends_fine ((lending_fine f l b).0 fit).0 (records_after l (goes s)) (beside_after (contents_of f) b (goes s))
        (held_lendable loose s I (records_after l (goes s)) (beside_after (contents_of f) b (goes s)) L))

-- A list that passes the judging passes it again after a choice that is done in it.
pub lent_again : (f : List ℕ) (l : List Thread) → All Eight l → (b : List ℕ) → lending f l b ≡ fine → (i p : ℕ) → choosing f l b i p ≡ fine
    → lending f (records_over f l b i p) (beside_over f l b i p) ≡ fine
lent_again = lends_again

-- what holds of all of a list and of all that is stored in it
all_sets : {A : Type 0} (P : A → Type 0) (vs : List A) (l : List A) (i : ℕ) → All P l → All P vs → All P (sets l i vs)
all_sets P [] l i h g = h
all_sets P (v ∷ vs) l i h g = all_sets P vs (set l i v) (suc i) (all_set P l i v g.0 h) g.1

-- Its records have eight variables each, as before.
pub eight_again : (f : List ℕ) (l : List Thread) → All Eight l → (b : List ℕ) (i p : ℕ) → All Eight (records_over f l b i p)
eight_again f l eights b i p =
    left_by f l b (λ x y. All Eight x) i p eights (λ s e h. all_sets Eight s.threads l 0 eights
    (all_map {P = Good (schema_of (contents_of f)) (StandsIn (contents_of f)) (loose f) s.made} {Q = Eight} (λ t (c, a, F, k). F.eight) s.threads (chosen_held f l eights b e i p s h).threads))
