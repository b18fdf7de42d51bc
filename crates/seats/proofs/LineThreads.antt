-- Each session in a line has a thread that stands at an on of the line's role.
use Prim.Native.Nat.{ℕ, zero, suc, ◌+◌, ◌-◌, ◌≤◌, ◌<◌}
use mathlib.Core.Path.{◌≡◌, refl, sym, ap, ◌∙◌, subst}
use mathlib.Core.Logic.{◌⊎◌, inl, inr, ◌≢◌}
use mathlib.Core.Bool.{Bool, true, false, cond}
use mathlib.Core.List.{List, [], ◌∷◌, ◌++◌}
use native.Mathlib.Omega.{arith}
use lib.Dec.{eqb}
use lib.ListN.{length, get_or, set, take, drop, length-set}
use lib.Seq.{get_or-set_other}
use borrow.Author.Tests.{eqb-true, eqb-false}
use Rattle.masks.specs.Mask.{has}
use Rattle.format.specs.declared.Node.{Node}
use Rattle.steps.specs.declared.Thread.{Thread}
use Rattle.steps.specs.Threads.{no_thread, onward}
use Rattle.steps.specs.Choice.{Clinic, State, thread_at}
use Rattle.reading_exact.specs.File.{InCount}
use Rattle.running_exact.specs.Steps.{StandsAt, Steps, on, off, fork, repeat, new, compare, end, meet}
use Rattle.rounds.specs.Round.{Taken, refuses, waits, steps}
use Rattle.seats.specs.Seats.{Limited, SeatedState, sits, thread_node, owner_of, in_line, line_with, owners_by, lines_left, stand_in_line, seated_choice}
use Rattle.seats.specs.SeatOrder.{AsksSeat, IsNext, GetsSeat, SeatedStep, got_none, took_seat, asked_none, refused_plainly, Distinct, StandsAtOn, Ordered, AfterAnswer, Always}
use Rattle.seats.proofs.LineLaws.{in-none, in-snoc, in_tail, never}
use Rattle.seats.proofs.StepOwners.{owners_gone, owners_more, owners_same}
use Rattle.seats.proofs.SeatedTold.{choice_seated}
use Rattle.seats.proofs.SeatedKept.{line_at, line_off, same_or, waits_limited, choice_ordered}
use Rattle.seats.proofs.SeatedRuns.{after_map, after_both}

-- a thread of the session, of which P holds
abbrev OfSession : (Thread → Type 0) → List Thread → List ℕ → ℕ → Type 0
OfSession P [] os k = ⊥
OfSession P (t ∷ ts) [] k = ⊥
OfSession P (t ∷ ts) (o ∷ os) k = ((o ≡ k) × P t) ⊎ OfSession P ts os k

module _ (P : Thread → Type 0) where
  some-get : (ts : List Thread) (os : List ℕ) (j : ℕ) → length os ≡ length ts → j < length ts → P (get_or ts j no_thread) → OfSession P ts os (get_or os j 0)
  some-get [] os j e l h = absurd (omega (arith, l))
  some-get (t ∷ ts) [] j e l h = absurd (omega (arith, e))
  some-get (t ∷ ts) (o ∷ os) zero e l h = inl (refl, h)
  some-get (t ∷ ts) (o ∷ os) (suc j) e l h = inr (some-get ts os j (omega (arith, e)) (omega (arith, l)) h)

  some_at : (ts : List Thread) (os : List ℕ) (k : ℕ) → OfSession P ts os k → (j : ℕ) × (j < length ts) × (get_or os j 0 ≡ k) × P (get_or ts j no_thread)
  some_at [] os k h = absurd h
  some_at (t ∷ ts) [] k h = absurd h
  some_at (t ∷ ts) (o ∷ os) k (inl (e, h)) = (0, omega arith, e, h)
  some_at (t ∷ ts) (o ∷ os) k (inr h) = let (j, l, e, p) = some_at ts os k h in (suc j, omega (arith, l), e, p)

  -- another thread changed, one more, another one removed
  some_set : (ts : List Thread) (os : List ℕ) (j : ℕ) (t : Thread) (k : ℕ) → (get_or os j 0 ≡ k → P (get_or ts j no_thread) → ⊥) → OfSession P ts os k → OfSession P (set ts j t) os k
  some_set [] os j t k n h = absurd h
  some_set (x ∷ ts) [] j t k n h = absurd h
  some_set (x ∷ ts) (o ∷ os) zero t k n (inl (e, h)) = absurd (n e h)
  some_set (x ∷ ts) (o ∷ os) zero t k n (inr h) = inr h
  some_set (x ∷ ts) (o ∷ os) (suc j) t k n (inl h) = inl h
  some_set (x ∷ ts) (o ∷ os) (suc j) t k n (inr h) = inr (some_set ts os j t k n h)

  some_snoc : (ts : List Thread) (os : List ℕ) (u : Thread) (o k : ℕ) → OfSession P ts os k → OfSession P (ts ++ (u ∷ [])) (os ++ (o ∷ [])) k
  some_snoc [] os u o k h = absurd h
  some_snoc (t ∷ ts) [] u o k h = absurd h
  some_snoc (t ∷ ts) (x ∷ os) u o k (inl h) = inl h
  some_snoc (t ∷ ts) (x ∷ os) u o k (inr h) = inr (some_snoc ts os u o k h)

  some_gone : (ts : List Thread) (os : List ℕ) (j k : ℕ) → (get_or os j 0 ≡ k → P (get_or ts j no_thread) → ⊥) → OfSession P ts os k
      → OfSession P (take j ts ++ drop (suc j) ts) (take j os ++ drop (suc j) os) k
  some_gone [] os j k n h = absurd h
  some_gone (t ∷ ts) [] j k n h = absurd h
  some_gone (t ∷ ts) (o ∷ os) zero k n (inl (e, h)) = absurd (n e h)
  some_gone (t ∷ ts) (o ∷ os) zero k n (inr h) = h
  some_gone (t ∷ ts) (o ∷ os) (suc j) k n (inl h) = inl h
  some_gone (t ∷ ts) (o ∷ os) (suc j) k n (inr h) = inr (some_gone ts os j k n h)

  some_removed : (ts : List Thread) (os : List ℕ) (i k : ℕ) → 1 ≤ i → (get_or os (i - 1) 0 ≡ k → P (get_or ts (i - 1) no_thread) → ⊥) → OfSession P ts os k
      → OfSession P (take (i - 1) ts ++ drop i ts) (take (i - 1) os ++ drop i os) k
  some_removed ts os zero k l n h = absurd (omega (arith, l))
  some_removed ts os (suc j) k l n h =
      let e : j ≡ suc j - 1 = omega arith in
      subst (λ (x : ℕ). OfSession P (take x ts ++ drop (suc j) ts) (take x os ++ drop (suc j) os) k) e
      (some_gone ts os j k (subst (λ (x : ℕ). get_or os x 0 ≡ k → P (get_or ts x no_thread) → ⊥) (sym e) n) h)

  module _ (C : Clinic) (s : State) (os : List ℕ) (k : ℕ) (apart : (j : ℕ) (m : Node) → StandsAt C s j m → (m.tag ≡ 5) ⊎ (m.tag ≡ 6) → P (thread_at s j) → ⊥) where
    abbrev tag_at : ℕ → ℕ
    tag_at i = (C.node (thread_at s i).node).tag

    tag_is : (i : ℕ) (n : Node) (v : ℕ) → StandsAt C s i n → n.tag ≡ v → tag_at i ≡ v
    tag_is i n v st e = ap (λ (m : Node). m.tag) st.2 ∙ e

    same : (i : ℕ) (t : Thread) → 3 ≤ tag_at i → (get_or os (i - 1) 0 ≡ k → P (thread_at s i) → ⊥) → OfSession P s.threads os k
        → OfSession P (set s.threads (i - 1) t) (owners_by os i (tag_at i)) k
    same i t l n h =
        subst (λ (o : List ℕ). OfSession P (set s.threads (i - 1) t) o k) (sym (owners_same os i (tag_at i) l)) (some_set s.threads os (i - 1) t k n h)

    more : (i : ℕ) (t u : Thread) → (tag_at i ≡ 1) ⊎ (tag_at i ≡ 2) → (get_or os (i - 1) 0 ≡ k → P (thread_at s i) → ⊥) → OfSession P s.threads os k
        → OfSession P (set s.threads (i - 1) t ++ (u ∷ [])) (owners_by os i (tag_at i)) k
    more i t u l n h =
        subst (λ (o : List ℕ). OfSession P (set s.threads (i - 1) t ++ (u ∷ [])) o k) (sym (owners_more os i (tag_at i) l))
        (some_snoc (set s.threads (i - 1) t) os u (get_or os (i - 1) 0) k (some_set s.threads os (i - 1) t k n h))

    -- a step of a thread of which it doesn't hold, or of another session's
    step-some : (i p : ℕ) (s' : State) → Steps C s i p s' → (p ≡ 0 → get_or os (i - 1) 0 ≡ k → P (thread_at s i) → ⊥) → OfSession P s.threads os k
        → OfSession P s'.threads (owners_by os i (tag_at i)) k
    step-some i' p' s' (on i n st e a) x h = same i _ (omega (arith, tag_is i n 7 st e)) (x refl) h
    step-some i' p' s' (off i n st e a) x h = same i _ (omega (arith, tag_is i n 8 st e)) (x refl) h
    step-some i' p' s' (fork i n st e a) x h = more i _ _ (inl (tag_is i n 1 st e)) (x refl) h
    step-some i' p' s' (repeat i n st e a) x h = more i _ _ (inr (tag_is i n 2 st e)) (x refl) h
    step-some i' p' s' (new i n st e a) x h = same i _ (omega (arith, tag_is i n 3 st e)) (x refl) h
    step-some i' p' s' (compare i n st e a) x h = same i _ (omega (arith, tag_is i n 4 st e)) (x refl) h
    step-some i' p' s' (end i n st e) x h =
        subst (λ (o : List ℕ). OfSession P s'.threads o k) (sym (owners_gone os i (tag_at i) (tag_is i n 0 st e)))
        (some_removed s.threads os i k st.0.0 (x refl) h)
    step-some i' p' s' (meet i p n m st e sp d a b c) x h =
        subst (λ (o : List ℕ). OfSession P s'.threads o k) (sym (owners_same os i (tag_at i) (omega (arith, tag_is i n 6 st e))))
        (some_set (set s.threads (i - 1) first) os (p - 1) _ k unmet (some_set s.threads os (i - 1) first k (λ z y. apart i n st (inr e) y) h))
      where
        first : Thread
        first = onward (thread_at s i)

        differ : p - 1 ≡ i - 1 → ⊥
        differ z =
            let q : i ≡ p = omega (arith, z, st.0.0, sp.0.0) in
            let w : m.tag ≡ n.tag = ap (λ (y : Node). y.tag) (sym sp.2 ∙ ap (λ (y : ℕ). C.node (thread_at s y).node) (sym q) ∙ st.2) in
            omega (arith, w, d, e)

        unmet : get_or os (p - 1) 0 ≡ k → P (get_or (set s.threads (i - 1) first) (p - 1) no_thread) → ⊥
        unmet z y =
            apart p m sp (inl d) (subst P (get_or-set_other s.threads (i - 1) (p - 1) first no_thread differ) y)

-- at an on of a role that is its user's
abbrev AtOn : Limited → ℕ → Thread → Type 0
AtOn L r t =
    InCount L.clinic.nodes t.node × ((L.clinic.node t.node).tag ≡ 7) × ((L.clinic.node t.node).f1 ≡ r)
    × (has (L.clinic.schema.assigned t.user) r ≡ true)

-- each that waits has such a thread
abbrev Manned : Limited → SeatedState → Type 0
Manned L S = (r k : ℕ) → in_line k (S.lines r) ≡ true → OfSession (AtOn L r) S.state.threads S.owners k

in-joined : (l : List ℕ) (k x : ℕ) → in_line k (line_with l x) ≡ true → (in_line k l ≡ true) ⊎ (k ≡ x)
unfolding line_with
in-joined l k x h = go (in_line x l) h
  where
    go : (b : Bool) → in_line k (cond b l (l ++ (x ∷ []))) ≡ true → (in_line k l ≡ true) ⊎ (k ≡ x)
    go true h = inl h
    go false h = in-snoc k x l h

module _ (L : Limited) (S : SeatedState) (O : Ordered L S) (M : Manned L S) (i p : ℕ) where
  abbrev role : ℕ
  role = (thread_node L S i).f1

  abbrev own : ℕ
  own = owner_of S i

  abbrev line : List ℕ
  line = S.lines role

  abbrev gone : State → (ℕ → List ℕ) → SeatedState
  gone s lines = record { state = s; owners = owners_by S.owners i (thread_node L S i).tag; lines = lines }

  apart : (r j : ℕ) (m : Node) → StandsAt L.clinic S.state j m → (m.tag ≡ 5) ⊎ (m.tag ≡ 6) → AtOn L r (thread_at S.state j) → ⊥
  apart r j m st (inl e) (a, b, c, d) = omega (arith, b, ap (λ (y : Node). y.tag) st.2, e)
  apart r j m st (inr e) (a, b, c, d) = omega (arith, b, ap (λ (y : Node). y.tag) st.2, e)

  go_on : (r k : ℕ) (s : State) → Steps L.clinic S.state i p s → in_line k (S.lines r) ≡ true
      → (p ≡ 0 → own ≡ k → AtOn L r (thread_at S.state i) → ⊥) → OfSession (AtOn L r) s.threads (owners_by S.owners i (thread_node L S i).tag) k
  go_on r k s st h x = step-some (AtOn L r) L.clinic S.state S.owners k (apart r) i p s st x (M r k h)

  wait_manned : AsksSeat L S i p → Manned L (stand_in_line L S i)
  wait_manned A r k h = go (same_or r role)
    where
      go : (r ≡ role) ⊎ (r ≢ role) → OfSession (AtOn L r) S.state.threads S.owners k
      go (inr z) = M r k (subst (λ (l : List ℕ). in_line k l ≡ true) (line_off S.lines role r (line_with line own) z) h)
      go (inl z) = by (in-joined line k own (subst (λ (l : List ℕ). in_line k l ≡ true) (line_at S.lines role r (line_with line own) z) h))
        where
          by : (in_line k line ≡ true) ⊎ (k ≡ own) → OfSession (AtOn L r) S.state.threads S.owners k
          by (inl x) = M r k (subst (λ (y : ℕ). in_line k (S.lines y) ≡ true) (sym z) x)
          by (inr x) =
              subst (OfSession (AtOn L r) S.state.threads S.owners) (sym x)
              (some-get (AtOn L r) S.state.threads S.owners (i - 1) O.owners (omega (arith, A.thread.0, A.thread.1))
              (A.node, A.on, sym z, subst (λ (y : ℕ). has (L.clinic.schema.assigned (thread_at S.state i).user) y ≡ true) (sym z) A.assigned))

  behind : (k : ℕ) (l : List ℕ) → Distinct l → IsNext l own → in_line k (drop 1 l) ≡ true → (in_line k l ≡ true) × (own ≡ k → ⊥)
  behind k [] d n h = (h, absurd (in-none k h))
  behind k (x ∷ l) d n h = (in_tail k x l h, λ e. never h (ap (λ (y : ℕ). in_line y l) (sym e ∙ sym n) ∙ d.0))

  took_manned : AsksSeat L S i p → GetsSeat L S i → (s : State) → Steps L.clinic S.state i p s → Manned L (gone s (lines_left L S i))
  took_manned A G s st r k h = go (same_or r role)
    where
      go : (r ≡ role) ⊎ (r ≢ role) → OfSession (AtOn L r) s.threads (owners_by S.owners i (thread_node L S i).tag) k
      go (inr z) = go_on r k s st (subst (λ (l : List ℕ). in_line k l ≡ true) (line_off S.lines role r (drop 1 line) z) h) (λ y o (a, b, c, d). z (sym c))
      go (inl z) =
          let (x, y) = behind k line (O.distinct role) G.1 (subst (λ (l : List ℕ). in_line k l ≡ true) (line_at S.lines role r (drop 1 line) z) h) in
          go_on r k s st (subst (λ (q : ℕ). in_line k (S.lines q) ≡ true) (sym z) x) (λ w o at. y o)

  went_manned : (AsksSeat L S i p → ⊥) → (s : State) → Steps L.clinic S.state i p s → Manned L (gone s S.lines)
  went_manned N s st r k h = go_on r k s st h (λ z o (a, b, c, d). N (asked z o a b c d))
    where
      within : {j q : ℕ} {t : State} → Steps L.clinic S.state j q t → InCount (length S.state.threads) j
      within (on i n st e a) = st.0
      within (off i n st e a) = st.0
      within (fork i n st e a) = st.0
      within (repeat i n st e a) = st.0
      within (new i n st e a) = st.0
      within (compare i n st e a) = st.0
      within (end i n st e) = st.0
      within (meet i p n m st e sp d a b c) = st.0

      asked : p ≡ 0 → own ≡ k → InCount L.clinic.nodes (thread_at S.state i).node → (thread_node L S i).tag ≡ 7 → role ≡ r
          → has (L.clinic.schema.assigned (thread_at S.state i).user) r ≡ true → AsksSeat L S i p
      asked z o a b c d = record {
        thread = within st;
        node = a;
        alone = z;
        on = b;
        assigned = subst (λ (y : ℕ). has (L.clinic.schema.assigned (thread_at S.state i).user) y ≡ true) (sym c) d;
        limited = subst (λ (y : ℕ). 1 ≤ L.seats y) (sym c) (waits_limited L S O i p r k h);
        without = subst (λ (y : ℕ). sits S own y ≡ false) (sym c) (subst (λ (y : ℕ). sits S y r ≡ false) (sym o) (O.waiting r k h).1);
      }

  manned_after : (a : Taken SeatedState) → SeatedStep L S i p a → AfterAnswer a (Manned L)
  manned_after a (got_none A G) = wait_manned A
  manned_after a (took_seat A G s st) = took_manned A G s st
  manned_after a (asked_none A s st) = went_manned A s st
  manned_after a (refused_plainly A n h) = tt

  choice_manned : AfterAnswer (seated_choice L S i p) (Manned L)
  choice_manned = manned_after (seated_choice L S i p) (choice_seated L S i p)

module _ (L : Limited) where
  told : (S : SeatedState) → Manned L S → (r k : ℕ) → in_line k (S.lines r) ≡ true → (i : ℕ) × StandsAtOn L S k r i
  told S M r k h =
      let (j, l, e, p) = some_at (AtOn L r) S.state.threads S.owners k (M r k h) in
      let z : j ≡ suc j - 1 = omega arith in (
        suc j,
        record {
          thread = (omega arith, omega (arith, l));
          owner = ap (λ (x : ℕ). get_or S.owners x 0) (sym z) ∙ e;
          on = subst (λ (x : ℕ). InCount L.clinic.nodes (get_or S.state.threads x no_thread).node) z p.0;
          tag = ap (λ (x : ℕ). (L.clinic.node (get_or S.state.threads x no_thread).node).tag) (sym z) ∙ p.1;
          role = ap (λ (x : ℕ). (L.clinic.node (get_or S.state.threads x no_thread).node).f1) (sym z) ∙ p.2;
        },
      )

  always_manned : (ws : List ℕ) (S : SeatedState) → Ordered L S → Manned L S → Always (λ T. (r k : ℕ) → in_line k (T.lines r) ≡ true → (i : ℕ) × StandsAtOn L T k r i) L S ws
  always_manned [] S O M = told S M
  always_manned (i ∷ []) S O M = told S M
  always_manned (i ∷ p ∷ ws) S O M =
      (told S M, after_both (Ordered L) (Manned L) _ (λ S' o m. always_manned ws S' o m) (seated_choice L S i p) (choice_ordered L S O i p) (choice_manned L S O M i p))

  -- At every moment each session in a line has a thread that stands at an on of that role, where no line was at the start.
  pub lines_stand : (ws : List ℕ) (S : SeatedState) → Ordered L S → ((r : ℕ) → S.lines r ≡ [])
      → Always (λ T. (r k : ℕ) → in_line k (T.lines r) ≡ true → (i : ℕ) × StandsAtOn L T k r i) L S ws
  lines_stand ws S O none = always_manned ws S O (λ r k h. absurd (in-none k (subst (λ (l : List ℕ). in_line k l ≡ true) (none r) h)))
