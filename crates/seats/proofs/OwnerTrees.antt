-- A thread's session is by descent: its node lies in that session's tree.
use Prim.Native.Nat.{ℕ, zero, suc, ◌+◌, ◌-◌, ◌≤◌, ◌<◌}
use mathlib.Core.Path.{◌≡◌, refl, sym, ap, ◌∙◌, subst}
use mathlib.Core.Logic.{◌⊎◌, inl, inr}
use mathlib.Core.List.{List, [], ◌∷◌, ◌++◌}
use native.Mathlib.Omega.{arith}
use lib.ListN.{length, get_or, set, take, drop, length-set, get_or-map}
use Rattle.format.specs.Answers.{fine}
use Rattle.format.specs.Contents.{Contents, contents_of, item, no_session}
use Rattle.format.specs.declared.Node.{Node}
use Rattle.format.specs.declared.Session.{Session}
use Rattle.checking.specs.Check.{reading_names}
use Rattle.steps.specs.declared.Thread.{Thread}
use Rattle.steps.specs.Threads.{no_thread}
use Rattle.steps.specs.Choice.{Clinic, clinic_of, State, thread_at}
use Rattle.choices.specs.Choices.{threads_from, start}
use Rattle.reading_exact.specs.File.{InCount}
use Rattle.reading_exact.specs.Refusals.{nth, OneChild, Follows, Begins, Reached, root, child, first_child, second_child, ReachedWith, Misshapen, misshapen}
use Rattle.reading_exact.proofs.Standing.{roots_in}
use Rattle.running_exact.specs.Steps.{StandsAt, Steps, on, off, fork, repeat, new, compare, end, meet}
use Rattle.running_exact.proofs.ReachedNodes.{root_due, second_follows}
use Rattle.running_exact.proofs.FileNodes.{roots_length, refusable_none}
use Rattle.rounds.specs.Round.{Taken, refuses, waits, steps}
use Rattle.rounds.specs.Rounds.{numbers}
use Rattle.seats.specs.Seats.{Limited, limited_of, SeatedState, thread_node, owner_of, owners_by, stand_in_line, seated_choice, seated_start}
use Rattle.seats.specs.SeatOrder.{SeatedStep, got_none, took_seat, asked_none, refused_plainly, InTreeOf, AfterAnswer, Always}
use Rattle.seats.proofs.StepOwners.{owners_gone, owners_more, owners_same}
use Rattle.seats.proofs.SeatedTold.{choice_seated}
use Rattle.seats.proofs.SeatedRuns.{after_map}

-- of each thread and its session
abbrev Each : (ℕ → ℕ → Type 0) → List Thread → List ℕ → Type 0
Each P [] [] = Unit {0}
Each P [] (o ∷ os) = ⊥
Each P (t ∷ ts) [] = ⊥
Each P (t ∷ ts) (o ∷ os) = P o t.node × Each P ts os

module _ (P : ℕ → ℕ → Type 0) where
  each_get : (ts : List Thread) (os : List ℕ) (j : ℕ) → j < length ts → Each P ts os → P (get_or os j 0) (get_or ts j no_thread).node
  each_get [] os j l h = absurd (omega (arith, l))
  each_get (t ∷ ts) [] j l h = absurd h
  each_get (t ∷ ts) (o ∷ os) zero l h = h.0
  each_get (t ∷ ts) (o ∷ os) (suc j) l h = each_get ts os j (omega (arith, l)) h.1

  each_set : (ts : List Thread) (os : List ℕ) (j : ℕ) (t : Thread) → P (get_or os j 0) t.node → Each P ts os → Each P (set ts j t) os
  each_set [] [] j t p h = tt
  each_set [] (o ∷ os) j t p h = absurd h
  each_set (x ∷ ts) [] j t p h = absurd h
  each_set (x ∷ ts) (o ∷ os) zero t p h = (p, h.1)
  each_set (x ∷ ts) (o ∷ os) (suc j) t p h = (h.0, each_set ts os j t p h.1)

  each_snoc : (ts : List Thread) (os : List ℕ) (u : Thread) (o : ℕ) → P o u.node → Each P ts os → Each P (ts ++ (u ∷ [])) (os ++ (o ∷ []))
  each_snoc [] [] u o p h = (p, tt)
  each_snoc [] (x ∷ os) u o p h = absurd h
  each_snoc (t ∷ ts) [] u o p h = absurd h
  each_snoc (t ∷ ts) (x ∷ os) u o p h = (h.0, each_snoc ts os u o p h.1)

  each_gone : (ts : List Thread) (os : List ℕ) (j : ℕ) → Each P ts os → Each P (take j ts ++ drop (suc j) ts) (take j os ++ drop (suc j) os)
  each_gone [] [] zero h = tt
  each_gone [] [] (suc j) h = tt
  each_gone [] (o ∷ os) j h = absurd h
  each_gone (t ∷ ts) [] j h = absurd h
  each_gone (t ∷ ts) (o ∷ os) zero h = h.1
  each_gone (t ∷ ts) (o ∷ os) (suc j) h = (h.0, each_gone ts os j h.1)

  each_removed : (ts : List Thread) (os : List ℕ) (i : ℕ) → 1 ≤ i → Each P ts os → Each P (take (i - 1) ts ++ drop i ts) (take (i - 1) os ++ drop i os)
  each_removed ts os zero l h = absurd (omega (arith, l))
  each_removed ts os (suc j) l h =
      let e : j ≡ suc j - 1 = omega arith in
      subst (λ (x : ℕ). Each P (take x ts ++ drop (suc j) ts) (take x os ++ drop (suc j) os)) e (each_gone ts os j h)

-- reached at all, it is reached with some variables bound
bound_somehow : {ns : List Node} {n i k : ℕ} → Reached (λ (c : ℕ) (x : Node). c) ns n (λ (j : ℕ). j) i k → (b : ℕ) × ReachedWith ns n i b
bound_somehow (root c b) = (0, root c b)
bound_somehow (child c o r) = let (b, h) = bound_somehow r in (_, child c o h)
bound_somehow (first_child c t r) = let (b, h) = bound_somehow r in (b, first_child c t h)
bound_somehow (second_child c t r g) = let (b, h) = bound_somehow r in (b, second_child c t h g)

module _ (f : List ℕ) (clean : reading_names f ≡ fine) where
  abbrev C : Contents
  C = contents_of f

  abbrev ns : List Node
  ns = C.nodes

  abbrev K : Clinic
  K = clinic_of C

  abbrev sessions : ℕ
  sessions = length C.sessions

  shaped : (p : ℕ) → Misshapen ns (roots_in C.sessions) p → ⊥
  shaped p m = refusable_none f clean 8 p (misshapen refl m)

  -- a fork's second child follows its first
  second_there : (i k : ℕ) → InTreeOf C k i → (nth ns i).tag ≡ 1 → Follows ns (suc i) (nth ns i).f1
  second_there i k r t =
      let (b, h) = bound_somehow r in
      second_follows ns (roots_in C.sessions) shaped (subst (λ (n : ℕ). ReachedWith ns n i b) (sym (roots_length C.sessions)) h) t

  module _ (s : State) (os : List ℕ) (E : Each (InTreeOf C) s.threads os) where
    abbrev owner : ℕ → ℕ
    owner i = get_or os (i - 1) 0

    abbrev at : ℕ → ℕ
    at i = (thread_at s i).node

    abbrev tag_at : ℕ → ℕ
    tag_at i = (K.node (at i)).tag

    tag_is : (i : ℕ) (n : Node) (v : ℕ) → StandsAt K s i n → n.tag ≡ v → tag_at i ≡ v
    tag_is i n v st e = ap (λ (m : Node). m.tag) st.2 ∙ e

    in_tree : (i : ℕ) → InCount (length s.threads) i → InTreeOf C (owner i) (at i)
    in_tree i c = each_get (InTreeOf C) s.threads os (i - 1) (omega (arith, c.0, c.1)) E

    -- an only child
    below : (i v : ℕ) (n : Node) → StandsAt K s i n → n.tag ≡ v → 2 ≤ v → v ≤ 8 → InTreeOf C (owner i) (at i + 1)
    below i v n st e l h =
        let z : suc (at i) ≡ at i + 1 = omega arith in
        let t : tag_at i ≡ v = tag_is i n v st e in
        subst (InTreeOf C (owner i)) z (child st.1 (omega (arith, t, l), omega (arith, t, h)) (in_tree i st.0))

    same : (i : ℕ) (t : Thread) → 3 ≤ tag_at i → InTreeOf C (owner i) t.node → Each (InTreeOf C) (set s.threads (i - 1) t) (owners_by os i (tag_at i))
    same i t l p = subst (Each (InTreeOf C) (set s.threads (i - 1) t)) (sym (owners_same os i (tag_at i) l)) (each_set (InTreeOf C) s.threads os (i - 1) t p E)

    more : (i : ℕ) (t u : Thread) → (tag_at i ≡ 1) ⊎ (tag_at i ≡ 2) → InTreeOf C (owner i) t.node → InTreeOf C (owner i) u.node
        → Each (InTreeOf C) (set s.threads (i - 1) t ++ (u ∷ [])) (owners_by os i (tag_at i))
    more i t u l p q =
        subst (Each (InTreeOf C) (set s.threads (i - 1) t ++ (u ∷ []))) (sym (owners_more os i (tag_at i) l))
        (each_snoc (InTreeOf C) (set s.threads (i - 1) t) os u (owner i) q (each_set (InTreeOf C) s.threads os (i - 1) t p E))

    step_tree : (i p : ℕ) (s' : State) → Steps K s i p s' → Each (InTreeOf C) s'.threads (owners_by os i (tag_at i))
    step_tree i' p' s' (on i n st e a) = same i _ (omega (arith, tag_is i n 7 st e)) (below i 7 n st e (omega arith) (omega arith))
    step_tree i' p' s' (off i n st e a) = same i _ (omega (arith, tag_is i n 8 st e)) (below i 8 n st e (omega arith) (omega arith))
    step_tree i' p' s' (fork i n st e a) =
        let t : tag_at i ≡ 1 = tag_is i n 1 st e in
        let r : InTreeOf C (owner i) (at i) = in_tree i st.0 in
        let z : suc (at i) ≡ at i + 1 = omega arith in
        let w : (nth ns (at i)).f1 ≡ n.f1 = ap (λ (m : Node). m.f1) st.2 in
        more i _ _ (inl t) (subst (InTreeOf C (owner i)) z (first_child st.1 t r))
        (subst (InTreeOf C (owner i)) w (second_child st.1 t r (second_there (at i) (owner i) r t)))
    step_tree i' p' s' (repeat i n st e a) =
        more i _ _ (inr (tag_is i n 2 st e)) (in_tree i st.0) (below i 2 n st e (omega arith) (omega arith))
    step_tree i' p' s' (new i n st e a) = same i _ (omega (arith, tag_is i n 3 st e)) (below i 3 n st e (omega arith) (omega arith))
    step_tree i' p' s' (compare i n st e a) = same i _ (omega (arith, tag_is i n 4 st e)) (below i 4 n st e (omega arith) (omega arith))
    step_tree i' p' s' (end i n st e) =
        subst (Each (InTreeOf C) s'.threads) (sym (owners_gone os i (tag_at i) (tag_is i n 0 st e))) (each_removed (InTreeOf C) s.threads os i st.0.0 E)
    step_tree i' p' s' (meet i p n m st e sp d a b c) =
        subst (Each (InTreeOf C) s'.threads) (sym (owners_same os i (tag_at i) (omega (arith, tag_is i n 6 st e))))
        (each_set (InTreeOf C) (set s.threads (i - 1) _) os (p - 1) _ (below p 5 m sp d (omega arith) (omega arith))
        (each_set (InTreeOf C) s.threads os (i - 1) _ (below i 6 n st e (omega arith) (omega arith)) E))

  module _ (table : List ℕ) where
    abbrev L : Limited
    L = limited_of C table

    abbrev Descended : SeatedState → Type 0
    Descended S = Each (InTreeOf C) S.state.threads S.owners

    tree_after : (S : SeatedState) → Descended S → (i p : ℕ) (a : Taken SeatedState) → SeatedStep L S i p a → AfterAnswer a Descended
    tree_after S E i p a (got_none A G) = E
    tree_after S E i p a (took_seat A G s st) = step_tree S.state S.owners E i p s st
    tree_after S E i p a (asked_none A s st) = step_tree S.state S.owners E i p s st
    tree_after S E i p a (refused_plainly A n h) = tt

    told : (S : SeatedState) → Descended S → (i : ℕ) → InCount (length S.state.threads) i → InTreeOf C (owner_of S i) (thread_at S.state i).node
    told S E i c = each_get (InTreeOf C) S.state.threads S.owners (i - 1) (omega (arith, c.0, c.1)) E

    always_descended : (ws : List ℕ) (S : SeatedState) → Descended S
        → Always (λ T. (i : ℕ) → InCount (length T.state.threads) i → InTreeOf C (owner_of T i) (thread_at T.state i).node) L S ws
    always_descended [] S E = told S E
    always_descended (i ∷ []) S E = told S E
    always_descended (i ∷ p ∷ ws) S E =
        (told S E, after_map Descended _ (always_descended ws) (seated_choice L S i p) (tree_after S E i p (seated_choice L S i p) (choice_seated L S i p)))

    -- session k's thread at the start stands at the root of its tree
    start_each : (ss : List Session) (k : ℕ) → ((j : ℕ) → j < length ss → InTreeOf C (k + j) (get_or ss j no_session).root) → Each (InTreeOf C) (threads_from ss) (numbers k (length ss))
    unfolding threads_from numbers
    start_each [] k h = tt
    start_each (s ∷ ss) k h =
        let z : k + 0 ≡ k = omega arith in
        (subst (λ (x : ℕ). InTreeOf C x s.root) z (h 0 (omega arith)), start_each ss (suc k) (λ j l. next j l))
      where
        next : (j : ℕ) → j < length ss → InTreeOf C (suc k + j) (get_or ss j no_session).root
        next j l =
            let z : k + suc j ≡ suc k + j = omega arith in
            subst (λ (x : ℕ). InTreeOf C x (get_or ss j no_session).root) z (h (suc j) (omega (arith, l)))

    root_in : (j : ℕ) → j < sessions → InTreeOf C (1 + j) (get_or C.sessions j no_session).root
    root_in j l =
        let n : length (roots_in C.sessions) ≡ sessions = roots_length C.sessions in
        let z : suc j - 1 ≡ j = omega arith in
        let e : suc j ≡ 1 + j = omega arith in
        let b : Begins ns (suc j) (get_or (roots_in C.sessions) (suc j - 1) 0) = root_due ns (roots_in C.sessions) shaped (suc j) (omega arith, omega (arith, n, l)) in
        let w : get_or (roots_in C.sessions) (suc j - 1) 0 ≡ (get_or C.sessions j no_session).root =
        ap (λ (x : ℕ). get_or (roots_in C.sessions) x 0) z ∙ get_or-map (λ (s : Session). s.root) C.sessions j no_session in
        subst (λ (x : ℕ). InTreeOf C x (get_or C.sessions j no_session).root) e
        (subst (InTreeOf C (suc j)) w (root (omega arith, omega (arith, l)) b))

    -- In every state of a seated run of a file that 1 to 10 leave clean: each thread's node lies in the tree of its session.
    pub owners_descend : (ws : List ℕ)
        → Always (λ T. (i : ℕ) → InCount (length T.state.threads) i → InTreeOf C (owner_of T i) (thread_at T.state i).node) L (seated_start C) ws
    owners_descend ws = always_descended ws (seated_start C) (start_each C.sessions 1 root_in)
