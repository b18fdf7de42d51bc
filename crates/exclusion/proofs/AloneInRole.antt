-- With one seat for the role that a session has switched on, the session is alone in it until its last send or receive.
use Prim.Native.Nat.{ℕ, suc, ◌-◌, ◌<◌}
use mathlib.Core.Path.{◌≡◌, refl, sym, ap, ◌∙◌, subst}
use mathlib.Core.Logic.{◌≢◌}
use mathlib.Core.Bool.{Bool, true, false, false≢true}
use mathlib.Core.List.{List, [], ◌∷◌}
use native.Mathlib.Omega.{arith}
use lib.ListN.{length}
use Rattle.masks.specs.Mask.{has}
use Rattle.format.specs.Answers.{fine}
use Rattle.format.specs.Contents.{Contents, contents_of, item, no_session}
use Rattle.format.specs.declared.Node.{Node}
use Rattle.checking.specs.Check.{reading_names, checking}
use Rattle.rules.specs.declared.Way.{Way}
use Rattle.rules.specs.declared.Way.TheVariants.{Sends, Receives}
use Rattle.rules.specs.Schema.{schema_of, Permitted}
use Rattle.rules.specs.Rules.{Context}
use Rattle.rules.specs.Checking.{openings}
use Rattle.steps.specs.Threads.{no_thread}
use Rattle.steps.specs.Choice.{Clinic, clinic_of, State, thread_at}
use Rattle.reading_exact.specs.File.{InCount}
use Rattle.reading_exact.specs.Refusals.{nth}
use Rattle.reading_exact.proofs.AllLaws.{all_get}
use Rattle.reading_exact.proofs.ReachedStack.{reached_single}
use Rattle.checking_exact.proofs.ContextStack.{contexts}
use Rattle.running_exact.specs.Keeps.{Kept}
use Rattle.running_exact.specs.Steps.{StandsAt, Able, Steps, on, off, fork, repeat, new, compare, end, meet}
use Rattle.running_exact.proofs.Agree.{agree}
use Rattle.running_exact.proofs.RunSafe.{passes_names, start_kept, choice_kept}
use Rattle.rounds.specs.Round.{Taken}
use Rattle.seats.specs.Seats.{Limited, limited_of, seats_in, SeatedState, owner_of, seated_choice, seated_start}
use Rattle.seats.specs.SeatOrder.{SeatedStep, got_none, took_seat, asked_none, refused_plainly, Ordered, AfterAnswer}
use Rattle.seats.specs.SeatOrder.{Always}
use Rattle.seats.proofs.SeatedTold.{choice_seated}
use Rattle.seats.proofs.SeatedRuns.{after_map, always_both, always_ordered, one_seat}
use Rattle.seats.proofs.SessionCounts.{sits_iff}
use Rattle.exclusion.specs.Exclusion.{NoOnFrom, PartDone, SwitchesOn, OnlyBy, kind_used, Alone, EveryState}
use Rattle.exclusion.proofs.RolesAbove.{LoneOns, held_through}

-- a thread of the list has a role that permits its send, or its receive
abbrev Meets : Contents → State → ℕ → Way → Type 0
Meets C s j w = InCount (length s.threads) j × Permitted (schema_of C) (thread_at s j).mask w (kind_used C s j)

-- a step whose first thread stands at a send is a meeting
meeting : (C : Contents) (s : State) (j p : ℕ) (s' : State) → Steps (clinic_of C) s j p s'
    → (nth C.nodes (thread_at s j).node).tag ≡ 6 → Meets C s j Sends × Meets C s p Receives
meeting C s j p s' h t = go h t
  where
    K : Clinic
    K = clinic_of C

    other : (i v : ℕ) (n : Node) → StandsAt K s i n → n.tag ≡ v → v ≢ 6 → (nth C.nodes (thread_at s i).node).tag ≡ 6
        → ⊥
    other i v n st e z t = z (sym e ∙ sym (ap (λ (m : Node). m.tag) st.2) ∙ t)

    able : (i : ℕ) (w : Way) (n : Node) → StandsAt K s i n → Able K s (thread_at s i) w n.f1 → Meets C s i w
    able i w n st a = (st.0, subst (λ (x : Node). Able K s (thread_at s i) w x.f1) (sym st.2) a)

    go : {i p : ℕ} {s' : State} → Steps K s i p s' → (nth C.nodes (thread_at s i).node).tag ≡ 6
        → Meets C s i Sends × Meets C s p Receives
    go (on i n st e a) t = absurd (other i 7 n st e (λ z. omega (arith, z)) t)
    go (off i n st e a) t = absurd (other i 8 n st e (λ z. omega (arith, z)) t)
    go (fork i n st e a) t = absurd (other i 1 n st e (λ z. omega (arith, z)) t)
    go (repeat i n st e a) t = absurd (other i 2 n st e (λ z. omega (arith, z)) t)
    go (new i n st e a) t = absurd (other i 3 n st e (λ z. omega (arith, z)) t)
    go (compare i n st e a) t = absurd (other i 4 n st e (λ z. omega (arith, z)) t)
    go (end i n st e) t = absurd (other i 0 n st e (λ z. omega (arith, z)) t)
    go (meet i p n m st e sp d a b c) t = (able i Sends n st a, able p Receives m sp b)

module _ (g : List ℕ) (passes : checking g ≡ fine) (table : List ℕ) where
  abbrev C : Contents
  C = contents_of g

  abbrev L : Limited
  L = limited_of C table

  abbrev ns : List Node
  ns = C.nodes

  clean : reading_names g ≡ fine
  clean = passes_names g passes

  -- in every state each thread's mask is the active set of rule 5 at its node
  abbrev KeptIn : SeatedState → Type 0
  KeptIn T = Kept C T.state

  kept_after : (S : SeatedState) → KeptIn S → (i p : ℕ) (a : Taken SeatedState) → SeatedStep L S i p a
      → AfterAnswer a KeptIn
  kept_after S K i p a (got_none A G) = K
  kept_after S K i p a (took_seat A G s st) = choice_kept g clean K i p ((agree (clinic_of C) S.state i p s).1 st)
  kept_after S K i p a (asked_none A s st) = choice_kept g clean K i p ((agree (clinic_of C) S.state i p s).1 st)
  kept_after S K i p a (refused_plainly A n h) = tt

  always_kept : (ws : List ℕ) (S : SeatedState) → KeptIn S → Always KeptIn L S ws
  always_kept [] S K = K
  always_kept (i ∷ []) S K = K
  always_kept (i ∷ p ∷ ws) S K =
      let after = kept_after S K i p (seated_choice L S i p) (choice_seated L S i p) in
      (K, after_map KeptIn _ (always_kept ws) (seated_choice L S i p) after)

  -- what holds in every state
  abbrev pub Sound : SeatedState → Type 0
  Sound T = Ordered L T × KeptIn T

  pub always_sound : Ordered L (seated_start C) → EveryState g table Sound
  always_sound O ws =
      always_both L (Ordered L) KeptIn Sound (λ T P K. (P, K)) ws (seated_start C)
      (always_ordered L ws (seated_start C) O) (always_kept ws (seated_start C) (start_kept g clean))

  -- one state, in which thread i of session k has the role x, for which there is one seat
  module _ (T : SeatedState) (O : Ordered L T) (k x i : ℕ) (one : seats_in table x ≡ 1)
      (c : InCount (length T.state.threads) i) (owner : owner_of T i ≡ k)
      (held : has (thread_at T.state i).mask x ≡ true) where
    no_other : (j : ℕ) → InCount (length T.state.threads) j → owner_of T j ≢ k
        → has (thread_at T.state j).mask x ≡ false
    no_other j d z = go (has (thread_at T.state j).mask x) refl
      where
        go : (b : Bool) → has (thread_at T.state j).mask x ≡ b → b ≡ false
        go true w =
            let mine = (sits_iff L T O k x).1 (i, c, owner, held) in
            absurd (z (one_seat L T O x one (owner_of T j) k ((sits_iff L T O (owner_of T j) x).1 (j, d, refl, w)) mine))
        go false w = refl

    -- so none makes a step that only this role permits
    without_it : (j : ℕ) (w : Way) → Meets C T.state j w → owner_of T j ≢ k
        → OnlyBy (schema_of C) x w (kind_used C T.state j) → ⊥
    without_it j w (d, (y, _, h, p)) z only = false≢true (sym (no_other j d z) ∙ (rw (only y p) at h))

    alone : Alone C T k x i
    alone = record {
      holds = held;
      others = no_other;
      sends = λ j p s st t. without_it j Sends (meeting C T.state j p s st t).0;
      receives = λ j p s st t. without_it p Receives (meeting C T.state j p s st t).1;
    }

  -- a thread that is underway, with no other on step before its send or receive, has the role
  module _ (lone : LoneOns C) (k : ℕ) (bare : (item no_session C.sessions k).mask ≡ 0) (a x : ℕ)
      (on : SwitchesOn C k x a) where
    pub thread_holds : (T : SeatedState) → KeptIn T → (i : ℕ) → InCount (length T.state.threads) i
        → (U : PartDone ns a (thread_at T.state i).node) → NoOnFrom ns (suc a) U.next
        → has (thread_at T.state i).mask x ≡ true
    thread_holds T K i c U stop =
        let low : i - 1 < length T.state.threads = omega (arith, c.0, c.1) in
        let (d, (_, h), _, m) = all_get _ T.state.threads (i - 1) no_thread low K.threads in
        let (b, h', w) = held_through g passes lone k a x bare on (thread_at T.state i).node U stop in
        let same : d ≡ b = reached_single (contexts (schema_of C) (openings C)) ns h h' in
        ap (λ (v : ℕ). has v x) (m ∙ ap (λ (v : Context). v.mask) same) ∙ w

    -- so with one seat its session is alone in it
    pub underway_alone : (T : SeatedState) → Sound T → seats_in table x ≡ 1 → (i : ℕ)
        → InCount (length T.state.threads) i
        → owner_of T i ≡ k → (U : PartDone ns a (thread_at T.state i).node) → NoOnFrom ns (suc a) U.next
        → Alone C T k x i
    underway_alone T (O, K) one i c e U stop = alone T O k x i one c e (thread_holds T K i c U stop)
