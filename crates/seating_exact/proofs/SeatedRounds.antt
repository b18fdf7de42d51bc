-- Rounds of seated runs: seated choices meet what the theorems on rounds ask of choices.
use Prim.Native.Nat.{ℕ, suc, ◌+◌, ◌*◌, ◌/◌, ◌%◌, ◌-◌, ◌≤◌}
use mathlib.Core.Path.{◌≡◌, refl, sym, ap, ◌∙◌, subst}
use mathlib.Core.Logic.{◌↔◌, ◌⊎◌, inl, inr}
use mathlib.Core.List.{List, [], ◌∷◌, ◌++◌}
use native.Mathlib.Omega.{arith}
use lib.ListN.{length}
use Rattle.steps.specs.Choice.{Clinic, State, halts, thread_at, choice}
use Rattle.running_exact.specs.Steps.{Steps}
use Rattle.running_exact.proofs.Agree.{refused_positive}
use Rattle.rounds.specs.Round.{Taken, refuses, waits, steps}
use Rattle.rounds.specs.Rounds.{RoundState, Here, Path}
use Rattle.rounds.proofs.Laws.{Lawful, Recorded}
use Rattle.rounds.proofs.Rounding.{round_is, round_path, round_length, round_empty}
use Rattle.rounds.proofs.Living.{round_lively}
use Rattle.dispatching_exact.specs.IsRound.{NoWait}
use Rattle.dispatching_exact.proofs.PlainLaws as base
use Rattle.seats.specs.Seats.{Limited, SeatedState, seated_choice, SeatedRan, one_done, follow_seated, seated_run}
use Rattle.seats.specs.SeatOrder.{AsksSeat, GetsSeat, SeatedStep, got_none, took_seat, asked_none}
use Rattle.seats.proofs.SeatedTold.{put_on, asks_steps, asks_or, gets_or, choice_seated, seated_agrees, goes_iff, waits_iff, waits_only_line, halts_iff}
use Rattle.seating.specs.SeatedRound.{seated_threads, seated_round_of}
use Rattle.seating_exact.specs.IsSeatedRound.{GoesOn, GetsNone, IsSeatedRound, SeatedVisits}

module _ (L : Limited) where
  abbrev C : Clinic
  C = L.clinic

  -- a choice that goes on is a step of the run; one that gets no seat would be one, but for the seat
  on_base : (S : SeatedState) (i p : ℕ) (S' : SeatedState) → GoesOn L S i p S' → Steps C S.state i p S'.state
  on_base S i p S' st = ((goes_iff L S i p S'.state).0 (S', (seated_agrees L S i p (steps S')).1 st, refl)).0

  none_asks : (S : SeatedState) (i : ℕ) (S' : SeatedState) → GetsNone L S i S' → AsksSeat L S i 0
  none_asks S i S' st = ((waits_iff L S i 0).0 (S', (seated_agrees L S i 0 (waits S')).1 st)).0

  none_same : (S : SeatedState) (i : ℕ) (S' : SeatedState) → GetsNone L S i S' → S'.state ≡ S.state
  none_same S i S' st = (waits_only_line L S i 0 S' ((seated_agrees L S i 0 (waits S')).1 st)).0

  lawful : Lawful seated_threads (seated_choice L) (GoesOn L) (GetsNone L)
  lawful = record {
    stepped = λ S i p S'. seated_agrees L S i p (steps S');
    waiting = λ S i S'. seated_agrees L S i 0 (waits S');
    apart = apart;
    lone_count = λ S i S' st. (base.lawful C).lone_count S.state i S'.state (on_base S i 0 S' st);
    meet_count = λ S i p S' l st. (base.lawful C).meet_count S.state i p S'.state l (on_base S i p S' st);
    wait_count = λ S i S' st. ap (λ (s : State). length s.threads) (none_same S i S' st);
    counted = λ S i p S' st. (base.lawful C).counted S.state i p S'.state (on_base S i p S' st);
    wait_counted = λ S i S' st. (none_asks S i S' st).thread;
  }
    where
      apart : (S : SeatedState) (i p : ℕ) (S' S'' : SeatedState) → 1 ≤ p → GoesOn L S i p S' → GoesOn L S i 0 S'' ⊎ GetsNone L S i S'' → ⊥
      apart S i p S' S'' l st (inl at) = (base.lawful C).apart S.state i p S'.state S''.state l (on_base S i p S' st) (inl (on_base S i 0 S'' at))
      apart S i p S' S'' l st (inr at) =
          (base.lawful C).apart S.state i p S'.state (put_on L S i 0) l (on_base S i p S' st) (inl (asks_steps L S i 0 (none_asks S i S'' at)))

  -- the thread could do a lone step, but for a seat; and refusal 20 is what its lone choice gets
  abbrev HasLoneStep : SeatedState → ℕ → Type 0
  HasLoneStep S j = base.HasLoneStep C S.state j

  abbrev Full : SeatedState → ℕ → Type 0
  Full S i = base.Full C S.state i

  recorded : Recorded seated_threads (seated_choice L) (GoesOn L) (GetsNone L) (λ (S : SeatedState) (i : ℕ). thread_at S.state i) HasLoneStep Full
  recorded = record {
    others = λ S i j S' st m l h z. (base.recorded C).others S.state i j S'.state (on_base S i 0 S' st) m l h z;
    before = λ S i j S' st m l h. (base.recorded C).before S.state i j S'.state (on_base S i 0 S' st) m l h;
    after = λ S i j S' st m l. (base.recorded C).after S.state i j S'.state (on_base S i 0 S' st) m l;
    unmet = λ S i p j S' l st lj z y. (base.recorded C).unmet S.state i p j S'.state l (on_base S i p S' st) lj z y;
    unmoved = λ S i j S' st. ap (λ (s : State). thread_at s j) (none_same S i S' st);
    able_counted = λ S j able. (base.recorded C).able_counted S.state j able;
    no_receiver = λ S S₁ j i p S'' able l on e.
        (base.recorded C).no_receiver S.state S₁.state j i p S''.state able l (on_base S₁ i p S'' on) e;
    again = λ S S₁ j i able l h e. again S₁ i ((base.recorded C).again S.state S₁.state j i able l h e);
  }
    where
      seated : (S : SeatedState) (i : ℕ) (s : State) → Steps C S.state i 0 s → AsksSeat L S i 0 ⊎ (AsksSeat L S i 0 → ⊥) → GetsSeat L S i ⊎ (GetsSeat L S i → ⊥)
          → ((S'' : SeatedState) × GoesOn L S i 0 S'') ⊎ (((S'' : SeatedState) × GetsNone L S i S'') ⊎ Full S i)
      seated S i s st (inl A) (inl G) = inl (_, took_seat A G s st)
      seated S i s st (inl A) (inr G) = inr (inl (_, got_none A G))
      seated S i s st (inr A) g = inl (_, asked_none A s st)

      again : (S : SeatedState) (i : ℕ) → ((s : State) × Steps C S.state i 0 s) ⊎ (((s : State) × NoWait S.state i s) ⊎ Full S i)
          → ((S'' : SeatedState) × GoesOn L S i 0 S'') ⊎ (((S'' : SeatedState) × GetsNone L S i S'') ⊎ Full S i)
      again S i (inl (s, st)) = seated S i s st (asks_or L S i 0) (gets_or L S i 0)
      again S i (inr (inl (s, w))) = absurd w
      again S i (inr (inr x)) = inr (inr x)

  -- 1. A list of words is a round of a state exactly if it is the computed one, and it leaves what that leaves.
  pub the-seated-round : (S : SeatedState) (ws : List ℕ) (S' : SeatedState) → IsSeatedRound L S ws S' ↔ ((ws ≡ (seated_round_of L S).words) × (S' ≡ (seated_round_of L S).state))
  the-seated-round S ws S' = round_is seated_threads (seated_choice L) (GoesOn L) (GetsNone L) lawful S ws S'

  pub some_seated_round : (S : SeatedState) → (ws : List ℕ) × (S' : SeatedState) × IsSeatedRound L S ws S'
  some_seated_round S =
      ((seated_round_of L S).words, (seated_round_of L S).state, (the-seated-round S (seated_round_of L S).words (seated_round_of L S).state).1 (refl, refl))

  pub one_seated_round : (S : SeatedState) (ws xs : List ℕ) (S' S'' : SeatedState) → IsSeatedRound L S ws S' → IsSeatedRound L S xs S'' → (ws ≡ xs) × (S' ≡ S'')
  one_seated_round S ws xs S' S'' a b =
      let (p, q) = (the-seated-round S ws S').0 a in
      let (u, v) = (the-seated-round S xs S'').0 b in
      (p ∙ sym u, q ∙ sym v)

  -- 2. The round's choices go on or get no seat, one after the other; none is refused.
  abbrev pub SeatedPath : SeatedState → List ℕ → SeatedState → Type 0
  SeatedPath S ws S' = Path seated_threads (GoesOn L) (GetsNone L) S ws S'

  pub seated_round_path : (S : SeatedState) → SeatedPath S (seated_round_of L S).words (seated_round_of L S).state
  seated_round_path S = round_path seated_threads (seated_choice L) (GoesOn L) (GetsNone L) lawful S

  abbrev wholly : ℕ → SeatedState → SeatedRan
  wholly n S = record { count = n; refusal = 0; seating = S }

  path_run : (ws : List ℕ) (S S'' : SeatedState) → SeatedPath S ws S'' → seated_run L S ws ≡ wholly (length ws / 2) S''
  unfolding seated_run
  path_run [] S S'' h = ap (wholly 0) h
  path_run (i ∷ []) S S'' h = absurd h
  path_run (i ∷ p ∷ ws) S S'' (S', st, h) =
      let k : suc (length ws / 2) ≡ suc (suc (length ws)) / 2 = omega arith in
      first st ∙ ap one_done (path_run ws S' S'' h) ∙ ap (λ (x : ℕ). wholly x S'') k
    where
      first : GoesOn L S i p S' ⊎ ((p ≡ 0) × GetsNone L S i S') → follow_seated S (seated_choice L S i p) (λ T. seated_run L T ws) ≡ one_done (seated_run L S' ws)
      first (inl g) = ap (λ (a : Taken SeatedState). follow_seated S a (λ T. seated_run L T ws)) ((seated_agrees L S i p (steps S')).1 g)
      first (inr (z, g)) =
          ap (λ (q : ℕ). follow_seated S (seated_choice L S i q) (λ T. seated_run L T ws)) z
          ∙ ap (λ (a : Taken SeatedState). follow_seated S a (λ T. seated_run L T ws)) ((seated_agrees L S i 0 (waits S')).1 g)

  pub seated_round_run : (S : SeatedState) → seated_run L S (seated_round_of L S).words ≡ record { count = length (seated_round_of L S).words / 2; refusal = 0; seating = (seated_round_of L S).state }
  seated_round_run S = path_run (seated_round_of L S).words S (seated_round_of L S).state (seated_round_path S)

  -- two words a choice, at most one choice a thread
  pub seated_round_few : (S : SeatedState) → (length (seated_round_of L S).words ≤ 2 * length S.state.threads) × (length (seated_round_of L S).words % 2 ≡ 0)
  seated_round_few S = round_length seated_threads (seated_choice L) (GoesOn L) (GetsNone L) lawful S

  -- a run through two lists, the first of which nothing stopped
  run-append : (ws vs : List ℕ) (S : SeatedState) → (seated_run L S ws).refusal ≡ 0 → length ws % 2 ≡ 0
      → (2 * (seated_run L S ws).count ≡ length ws)
      × (seated_run L S (ws ++ vs)
      ≡ record { count = (seated_run L S ws).count + (seated_run L (seated_run L S ws).seating vs).count; refusal = (seated_run L (seated_run L S ws).seating vs).refusal; seating = (seated_run L (seated_run L S ws).seating vs).seating })
  unfolding seated_run
  run-append [] vs S z even =
      let e : (seated_run L S vs).count ≡ 0 + (seated_run L S vs).count = omega arith in
      (refl, λ j. record { count = e j; refusal = (seated_run L S vs).refusal; seating = (seated_run L S vs).seating })
  run-append (i ∷ []) vs S z even = let never : ⊥ = omega (arith, even) in absurd never
  run-append (i ∷ p ∷ ws) vs S z even = go (seated_choice L S i p) (choice_seated L S i p) z (λ S' q. run-append ws vs S' q (omega (arith, even)))
    where
      Both : SeatedRan → List ℕ → SeatedRan → Type 0
      Both r xs q =
          (2 * r.count ≡ length xs)
          × (q ≡ record { count = r.count + (seated_run L r.seating vs).count; refusal = (seated_run L r.seating vs).refusal; seating = (seated_run L r.seating vs).seating })

      more : (r q : SeatedRan) → Both r ws q → Both (one_done r) (i ∷ p ∷ ws) (one_done q)
      more r q (a, b) =
          let e : suc (r.count + (seated_run L r.seating vs).count) ≡ suc r.count + (seated_run L r.seating vs).count = omega arith in
          (omega (arith, a), ap one_done b ∙ (λ j. record { count = e j; refusal = (seated_run L r.seating vs).refusal; seating = (seated_run L r.seating vs).seating }))

      go : (a : Taken SeatedState) → SeatedStep L S i p a → (follow_seated S a (λ T. seated_run L T ws)).refusal ≡ 0
          → ((S' : SeatedState) → (seated_run L S' ws).refusal ≡ 0 → Both (seated_run L S' ws) ws (seated_run L S' (ws ++ vs)))
          → Both (follow_seated S a (λ T. seated_run L T ws)) (i ∷ p ∷ ws) (follow_seated S a (λ T. seated_run L T (ws ++ vs)))
      go (steps S') st q f = more (seated_run L S' ws) (seated_run L S' (ws ++ vs)) (f S' q)
      go (waits S') st q f = more (seated_run L S' ws) (seated_run L S' (ws ++ vs)) (f S' q)
      go (refuses n) st q f =
          let h : choice C S.state i p ≡ halts n = (halts_iff L S i p n).0 ((seated_agrees L S i p (refuses n)).1 st) in
          let never : ⊥ = omega (arith, refused_positive C S.state i p n h, q) in
          absurd never

  pub seated_whole : (ws : List ℕ) (S : SeatedState) → (seated_run L S ws).refusal ≡ 0 → length ws % 2 ≡ 0 → 2 * (seated_run L S ws).count ≡ length ws
  seated_whole ws S z even = (run-append ws [] S z even).0

  -- after a list that nothing stopped: the run through the list and then the round
  pub seated_round_after : (S : SeatedState) (ws : List ℕ) → (seated_run L S ws).refusal ≡ 0 → length ws % 2 ≡ 0
      → seated_run L S (ws ++ (seated_round_of L (seated_run L S ws).seating).words)
      ≡ record {
        count = (seated_run L S ws).count + length (seated_round_of L (seated_run L S ws).seating).words / 2;
        refusal = 0;
        seating = (seated_round_of L (seated_run L S ws).seating).state;
      }
  seated_round_after S ws z even =
      let T : SeatedState = (seated_run L S ws).seating in
      (run-append ws (seated_round_of L T).words S z even).1
      ∙ ap (λ (r : SeatedRan). record { count = (seated_run L S ws).count + r.count; refusal = r.refusal; seating = r.seating }) (seated_round_run T)

  -- 3. Of each thread that could do a lone step at the round's start, but for a seat: the round splits in two. After the first part, the visits of the threads before it, the
  -- thread, in the place where it then stands, is the same record; then its lone choice comes and goes on, or comes and gets no seat, or refusal 20 is what that
  -- choice gets.
  pub seated_lone_done : (S : SeatedState) (v : ℕ) (s₁ : State) → Steps L.clinic S.state v 0 s₁
      → (xs : List ℕ) × (ys : List ℕ) × (g : RoundState SeatedState) × (i : ℕ) × ((seated_round_of L S).words ≡ xs ++ ys)
      × SeatedVisits L S (v - 1) xs g × SeatedPath S xs g.state × Here g v i × (thread_at g.state.state i ≡ thread_at S.state v)
      × (((zs : List ℕ) × (S' : SeatedState) × (ys ≡ i ∷ 0 ∷ zs) × GoesOn L g.state i 0 S')
      ⊎ (((zs : List ℕ) × (S' : SeatedState) × (ys ≡ i ∷ 0 ∷ zs) × GetsNone L g.state i S') ⊎ (choice L.clinic g.state.state i 0 ≡ halts 20)))
  seated_lone_done S v s₁ st =
      round_lively seated_threads (seated_choice L) (GoesOn L) (GetsNone L) lawful (λ (T : SeatedState) (i : ℕ). thread_at T.state i) HasLoneStep Full recorded S v (s₁, st)

  -- 4. A round is empty exactly if no choice can be done.
  pub seated_round_idle : (S : SeatedState) → ((seated_round_of L S).words ≡ []) ↔ ((i p : ℕ) → (n : ℕ) × (seated_choice L S i p ≡ refuses n))
  seated_round_idle S = (to, back)
    where
      empty : ((seated_round_of L S).words ≡ []) ↔ (((i p : ℕ) (S' : SeatedState) → GoesOn L S i p S' → ⊥) × ((i : ℕ) (S' : SeatedState) → GetsNone L S i S' → ⊥))
      empty = round_empty seated_threads (seated_choice L) (GoesOn L) (GetsNone L) lawful S

      to : (seated_round_of L S).words ≡ [] → (i p : ℕ) → (n : ℕ) × (seated_choice L S i p ≡ refuses n)
      to e i p = go (seated_choice L S i p) (choice_seated L S i p)
        where
          alone : (a : Taken SeatedState) → SeatedStep L S i p a → p ≡ 0 → SeatedStep L S i 0 a
          alone a st z = subst (λ (q : ℕ). SeatedStep L S i q a) z st

          go : (a : Taken SeatedState) → SeatedStep L S i p a → (n : ℕ) × (a ≡ refuses n)
          go (refuses n) st = (n, refl)
          go (steps S') st = absurd ((empty.0 e).0 i p S' st)
          go (waits S') st =
              let A : AsksSeat L S i p = ((waits_iff L S i p).0 (S', (seated_agrees L S i p (waits S')).1 st)).0 in
              absurd ((empty.0 e).1 i S' (alone (waits S') st A.alone))

      back : ((i p : ℕ) → (n : ℕ) × (seated_choice L S i p ≡ refuses n)) → (seated_round_of L S).words ≡ []
      back f = empty.1 (λ i p S' st. apart (f i p) ((seated_agrees L S i p (steps S')).1 st), λ i S' st. apart' (f i 0) ((seated_agrees L S i 0 (waits S')).1 st))
        where
          Sort : Taken SeatedState → ℕ
          Sort (refuses n) = 0
          Sort (waits T) = 1
          Sort (steps T) = 2

          apart : {a : Taken SeatedState} {S' : SeatedState} → (n : ℕ) × (a ≡ refuses n) → a ≡ steps S' → ⊥
          apart (n, e) d = let z : ◌≡◌ {A = ℕ} 0 2 = ap Sort (sym e ∙ d) in omega (arith, z)

          apart' : {a : Taken SeatedState} {S' : SeatedState} → (n : ℕ) × (a ≡ refuses n) → a ≡ waits S' → ⊥
          apart' (n, e) d = let z : ◌≡◌ {A = ℕ} 0 1 = ap Sort (sym e ∙ d) in omega (arith, z)

  -- 5. The same of whatever list is a round.
  pub seated_path : (S : SeatedState) (ws : List ℕ) (S' : SeatedState) → IsSeatedRound L S ws S' → SeatedPath S ws S'
  seated_path S ws S' h =
      let (e, d) = (the-seated-round S ws S').0 h in
      subst (λ (x : List ℕ). SeatedPath S x S') (sym e) (subst (λ (T : SeatedState). SeatedPath S (seated_round_of L S).words T) (sym d) (seated_round_path S))

  pub seated_lone_of : (S : SeatedState) (v : ℕ) (s₁ : State) → Steps L.clinic S.state v 0 s₁ → (ws : List ℕ) (S' : SeatedState) → IsSeatedRound L S ws S'
      → (xs : List ℕ) × (ys : List ℕ) × (g : RoundState SeatedState) × (i : ℕ) × (ws ≡ xs ++ ys)
      × SeatedVisits L S (v - 1) xs g × SeatedPath S xs g.state × Here g v i × (thread_at g.state.state i ≡ thread_at S.state v)
      × (((zs : List ℕ) × (S'' : SeatedState) × (ys ≡ i ∷ 0 ∷ zs) × GoesOn L g.state i 0 S'')
      ⊎ (((zs : List ℕ) × (S'' : SeatedState) × (ys ≡ i ∷ 0 ∷ zs) × GetsNone L g.state i S'') ⊎ (choice L.clinic g.state.state i 0 ≡ halts 20)))
  seated_lone_of S v s₁ st ws S' h =
      let (xs, ys, g, i, e, seen, path, here, same, then) = seated_lone_done S v s₁ st in
      (xs, ys, g, i, ((the-seated-round S ws S').0 h).0 ∙ e, seen, path, here, same, then)

  pub seated_idle_of : (S : SeatedState) (ws : List ℕ) (S' : SeatedState) → IsSeatedRound L S ws S' → (ws ≡ []) ↔ ((i p : ℕ) → (n : ℕ) × (seated_choice L S i p ≡ refuses n))
  seated_idle_of S ws S' h =
      let e : ws ≡ (seated_round_of L S).words = ((the-seated-round S ws S').0 h).0 in
      (λ z. (seated_round_idle S).0 (sym e ∙ z), λ f. e ∙ (seated_round_idle S).1 f)
