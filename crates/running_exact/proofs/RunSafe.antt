-- Runs keep the rules: in every state of a run each thread fits its node's context, and no run of a file that passes the check is stopped for a role.
use Prim.Native.Nat.{ℕ, ◌+◌, ◌-◌, ◌≤◌, ◌<◌}
use mathlib.Core.Path.{◌≡◌, refl, sym, ap, ◌∙◌, subst}
use mathlib.Core.Logic.{◌⊎◌, inl, inr, ◌≢◌}
use mathlib.Core.Bool.{Bool, true, false, cond}
use mathlib.Core.List.{List, [], ◌∷◌}
use native.Mathlib.Omega.{arith}
use lib.Dec.{eqb}
use lib.ListN.{length}
use borrow.Author.Tests.{eqb-true, le-leb}
use Rattle.masks.specs.Mask.{with, without}
use Rattle.format.specs.Contents.{Contents, contents_of}
use Rattle.format.specs.Answers.{fine, refused}
use Rattle.checking.specs.Check.{reading_names, checking}
use Rattle.rules.specs.Schema.{schema_of}
use Rattle.rules.specs.Rules.{Context, activate, barred}
use Rattle.rules.specs.Checking.{openings}
use Rattle.steps.specs.declared.Thread.{Thread}
use Rattle.steps.specs.Threads.{no_thread, first_free}
use Rattle.steps.specs.Choice.{clinic_of, State, Chosen, halts, goes, thread_at, choice}
use Rattle.choices.specs.Choices.{start, Ran, follow, run, ran_of}
use Rattle.running.specs.Run.{listed, stopped, running}
use Rattle.placing.specs.Placing.{placing, placed_bytes}
use Rattle.reading_exact.specs.Lists.{All}
use Rattle.reading_exact.specs.File.{InCount}
use Rattle.reading_exact.proofs.AllLaws.{all_map, all_get}
use Rattle.reading_exact.proofs.ReachedStack.{reached_single}
use Rattle.checking_exact.proofs.ContextStack.{contexts}
use Rattle.checking_exact.proofs.CheckFirst.{check_fine}
use Rattle.placing_exact.proofs.PlacingExact.{placed_well}
use Rattle.running_exact.specs.Keeps.{Fits, Reaches, Kept}
use Rattle.running_exact.proofs.HeldValues.{held_free}
use Rattle.running_exact.proofs.FileNodes.{StandsIn, roles_clear}
use Rattle.running_exact.proofs.ThreadSteps.{Steady}
use Rattle.running_exact.proofs.OutcomeClaims.{MayCome}
use Rattle.running_exact.proofs.ChoiceKeeps.{Keeps, choice_keeps}
use Rattle.running_exact.proofs.FileLawful.{of_kept, to_kept, lawful}
use Rattle.running_exact.proofs.StartKept.{start_fits}

-- not stopped for a role
abbrev pub NoRole : ℕ → Type 0
NoRole n = (n ≢ 11) × (n ≢ 12) × (n ≢ 13)

-- what the caller can be refused for in a choice
abbrev pub OfCaller : ℕ → Type 0
OfCaller n = (n ≡ 18) ⊎ ((n ≡ 19) ⊎ (n ≡ 20))

caller_no_role : (n : ℕ) → OfCaller n → NoRole n
caller_no_role n (inl e) = (λ z. omega arith, λ z. omega arith, λ z. omega arith)
caller_no_role n (inr (inl e)) = (λ z. omega arith, λ z. omega arith, λ z. omega arith)
caller_no_role n (inr (inr e)) = (λ z. omega arith, λ z. omega arith, λ z. omega arith)

-- what passes the check meets 1 to 10 clean
pub passes_names : (f : List ℕ) → checking f ≡ fine → reading_names f ≡ fine
passes_names f passes = ((check_fine f).0 passes).0

-- the thread's active set and the context's stay the same
same : Steady ◌≡◌
same = record { on = λ a b r e. ap (λ (m : ℕ). with m r) e; off = λ a b r e. ap (λ (m : ℕ). without m r) e }

module _ (C : Contents) where
  -- what is claimed of a choice in a state of a run, where R says which refusals may come
  abbrev Claimed : (ℕ → Type 0) → Chosen → Type 0
  Claimed R o = Keeps (clinic_of C) (StandsIn C) ◌≡◌ R o

  -- a run ends in a state of a run, stopped by nothing or by one of R
  abbrev Ending : (ℕ → Type 0) → Ran → Type 0
  Ending R r = Kept C r.state × ((r.refusal ≡ 0) ⊎ R r.refusal)

  module _ (R : ℕ → Type 0) (keeps : (s : State) → Kept C s → (i p : ℕ) → Claimed R (choice (clinic_of C) s i p)) where
    follow_ends : (s : State) → Kept C s → (o : Chosen) → Claimed R o → (on : State → Ran) → ((s' : State) → Kept C s' → Ending R (on s'))
        → Ending R (follow s o on)
    follow_ends s K (halts n) h on rec = (K, inr h)
    follow_ends s K (goes s') h on rec = rec s' (to_kept C s' h)

    run_ends : (s : State) → Kept C s → (ws : List ℕ) → Ending R (run (clinic_of C) s ws)
    unfolding run
    run_ends s K [] = (K, inl refl)
    run_ends s K (i ∷ []) = (K, inl refl)
    run_ends s K (i ∷ p ∷ ws) = follow_ends s K (choice (clinic_of C) s i p) (keeps s K i p) (λ s'. run (clinic_of C) s' ws) (λ s' h. run_ends s' h ws)

  -- The variable that a binder takes.

  -- the first that is 0 is the next on the path, in the one context of the thread's node, wherever threads fit their nodes
  pub free_next : (s : State) → All (λ (t : Thread). (c : Context) × Reaches C t c × Fits (schema_of C) s.made c t) s.threads
      → (i : ℕ) → InCount (length s.threads) i → (c : Context) → Reaches C (thread_at s i) c → first_free (thread_at s i).vars ≡ length c.vars
  free_next s fit i n c (a, h) =
      let (d, (b, g), F) = all_get _ s.threads (i - 1) no_thread (omega arith) fit in
      let one : d ≡ c = reached_single (contexts (schema_of C) (openings C)) C.nodes g h in
      held_free (schema_of C) s.made d.vars (thread_at s i).vars F.vars ∙ ap (λ (x : Context). length x.vars) one

  pub next_free : {s : State} → Kept C s → (i : ℕ) → InCount (length s.threads) i → (c : Context) → Reaches C (thread_at s i) c
      → first_free (thread_at s i).vars ≡ length c.vars
  next_free {s} K = free_next s (all_map (λ t (c, a, F, e). (c, a, F)) s.threads K.threads)

module _ (f : List ℕ) where
  abbrev C : Contents
  C = contents_of f

  -- One choice.

  -- any refusal
  names_keeps : reading_names f ≡ fine → (s : State) → Kept C s → (i p : ℕ) → Claimed C (λ n. Unit {0}) (choice (clinic_of C) s i p)
  names_keeps clean s K i p = choice_keeps (clinic_of C) (StandsIn C) (lawful f clean) ◌≡◌ same (λ n. Unit {0}) any s (of_kept C s K) i p
    where
      any : MayCome (clinic_of C) (StandsIn C) ◌≡◌ (λ n. Unit {0})
      any = record { no_thread_lem = tt; unequal = tt; full = tt; role = λ j c a m h n e. tt }

  -- no refusal for a role
  check_keeps : checking f ≡ fine → (s : State) → Kept C s → (i p : ℕ) → Claimed C OfCaller (choice (clinic_of C) s i p)
  check_keeps passes s K i p = choice_keeps (clinic_of C) (StandsIn C) (lawful f (passes_names f passes)) ◌≡◌ same OfCaller calls s (of_kept C s K) i p
    where
      calls : MayCome (clinic_of C) (StandsIn C) ◌≡◌ OfCaller
      calls = record {
        no_thread_lem = inl refl;
        unequal = inr (inl refl);
        full = inr (inr refl);
        role = λ j c a m h n e. absurd (omega (arith, sym (none j c a m h) ∙ e));
      }
        where
          none : (j : ℕ) (c : Context) → StandsIn C j c → (m : ℕ) → m ≡ c.mask → barred (schema_of C) (activate c m) ((clinic_of C).node j) ≡ 0
          none j c a m h =
              subst (λ (x : ℕ). barred (schema_of C) (activate c x) ((clinic_of C).node j) ≡ 0) (sym h) (roles_clear f (passes_names f passes) passes j c a)

  -- the start is a state of a run
  pub start_kept : reading_names f ≡ fine → Kept C (start C)
  start_kept clean = start_fits f clean

  -- a choice that is carried out leaves one
  pub choice_kept : {s s' : State} → reading_names f ≡ fine → Kept C s → (i p : ℕ) → choice (clinic_of C) s i p ≡ goes s' → Kept C s'
  choice_kept {s} {s'} clean K i p e = to_kept C s' (subst (Claimed C (λ n. Unit {0})) e (names_keeps clean s K i p))

  -- in a file that passes the check no choice is refused for a role
  pub choice_safe : {s : State} {n : ℕ} → checking f ≡ fine → Kept C s → (i p : ℕ) → choice (clinic_of C) s i p ≡ halts n
      → (n ≢ 11) × (n ≢ 12) × (n ≢ 13)
  choice_safe {s} {n} passes K i p e = caller_no_role n (subst (Claimed C OfCaller) e (check_keeps passes s K i p))

  -- Lists of choices.

  -- what holds in every state of a run: 1 to 10 must find nothing, 11 to 13 may
  pub run_kept : reading_names f ≡ fine → (ws : List ℕ) → Kept C (ran_of f ws).state
  run_kept clean ws = (run_ends C (λ n. Unit {0}) (names_keeps clean) (start C) (start_kept clean) ws).0

  run_caller : checking f ≡ fine → (ws : List ℕ) → ((ran_of f ws).refusal ≡ 0) ⊎ OfCaller (ran_of f ws).refusal
  run_caller passes ws = (run_ends C OfCaller (check_keeps passes) (start C) (start_kept (passes_names f passes)) ws).1

  -- no run of a file that passes the check is stopped for a role, whatever the list
  pub run_safe : checking f ≡ fine → (ws : List ℕ) → ((ran_of f ws).refusal ≢ 11) × ((ran_of f ws).refusal ≢ 12) × ((ran_of f ws).refusal ≢ 13)
  run_safe passes ws = go (run_caller passes ws)
    where
      go : ((ran_of f ws).refusal ≡ 0) ⊎ OfCaller (ran_of f ws).refusal → NoRole (ran_of f ws).refusal
      go (inl e) = (λ z. omega arith, λ z. omega arith, λ z. omega arith)
      go (inr h) = caller_no_role (ran_of f ws).refusal h

  -- The answer of a run.

  stopped_number : (r : Ran) → (stopped r).number ≡ r.refusal
  stopped_number r = go (eqb r.refusal 0) refl
    where
      go : (b : Bool) → eqb r.refusal 0 ≡ b → (cond b fine (refused r.refusal (r.count + 1))).number ≡ r.refusal
      go true e = sym (eqb-true r.refusal 0 e)
      go false e = refl

  running_number : reading_names f ≡ fine → (ws : List ℕ) (room : ℕ) → 1800 ≤ room → listed (length ws) ≡ true
      → (running f ws room).number ≡ (ran_of f ws).refusal
  unfolding running
  running_number clean ws room l h = rw (h, le-leb 1800 room l, clean) (stopped_number (ran_of f ws))

  -- a file that passes the check runs through, or the caller is refused
  pub answers : checking f ≡ fine → (ws : List ℕ) (room : ℕ) → 1800 ≤ room → listed (length ws) ≡ true
      → ((running f ws room).number ≡ 0) ⊎ (((running f ws room).number ≡ 18) ⊎ (((running f ws room).number ≡ 19) ⊎ ((running f ws room).number ≡ 20)))
  answers passes ws room l h =
      subst (λ (n : ℕ). (n ≡ 0) ⊎ OfCaller n) (sym (running_number (passes_names f passes) ws room l h)) (run_caller passes ws)

-- A placed file.

module _ (f : List ℕ) (bytes : All (λ b. b < 256) f) (room : ℕ) (placed : (placing f room).number ≡ 0) where
  -- it passes the check, so its run through any list is not stopped for a role
  pub placed_unbarred : (ws : List ℕ)
      → ((ran_of (placed_bytes f) ws).refusal ≢ 11) × ((ran_of (placed_bytes f) ws).refusal ≢ 12) × ((ran_of (placed_bytes f) ws).refusal ≢ 13)
  placed_unbarred ws = run_safe (placed_bytes f) (placed_well f bytes room placed).passes ws

  -- its run is answered, or the caller is refused
  pub placed_safe : (ws : List ℕ) (room' : ℕ) → 1800 ≤ room' → listed (length ws) ≡ true
      → ((running (placed_bytes f) ws room').number ≡ 0)
      ⊎ (((running (placed_bytes f) ws room').number ≡ 18) ⊎ (((running (placed_bytes f) ws room').number ≡ 19) ⊎ ((running (placed_bytes f) ws room').number ≡ 20)))
  placed_safe ws room' l h = answers (placed_bytes f) (placed_well f bytes room placed).passes ws room' l h
