-- One seated choice: lines, and what holds in every state of a run.
use Prim.Native.Nat.{ℕ, zero, suc, ◌-◌, ◌≤◌, ◌<◌}
use mathlib.Core.Path.{◌≡◌, refl, sym, ap, ◌∙◌, subst}
use mathlib.Core.Logic.{◌⊎◌, inl, inr, ◌≢◌}
use mathlib.Core.Bool.{Bool, true, false, cond}
use mathlib.Core.List.{List, [], ◌∷◌, ◌++◌}
use native.Mathlib.Omega.{arith}
use lib.Dec.{eqb}
use lib.ListN.{length, get_or, set, drop}
use borrow.Author.Tests.{eqb-true, eqb-false, ne_eqb, eq-eqb}
use Rattle.masks.specs.Mask.{has, with}
use Rattle.masks.proofs.Laws.{has_pos, has_with_same}
use Rattle.steps.specs.declared.Thread.{Thread}
use Rattle.steps.specs.Threads.{masked}
use Rattle.steps.specs.Choice.{State, thread_at}
use Rattle.reading_exact.specs.File.{InCount}
use Rattle.reading_exact.proofs.AllLaws.{all_get}
use Rattle.running_exact.specs.Steps.{Steps}
use Rattle.running_exact.proofs.Agree.{one_result}
use Rattle.rounds.specs.Round.{Taken, refuses, waits, steps}
use Rattle.seats.specs.Seats.{Limited, SeatedState, sits, occupies, seats_taken, thread_node, owner_of, in_line, line_with, relined, owners_by, lines_left, lines_joined, stand_in_line, seated_choice}
use Rattle.seats.specs.SeatOrder.{Sitting, AsksSeat, IsNext, GetsSeat, SeatedStep, got_none, took_seat, asked_none, refused_plainly, Distinct, LineStep, line_stays, line_joins, line_leaves, Ordered, AfterAnswer}
use Rattle.seats.proofs.LineLaws.{in-none, in-snoc, in_tail, distinct_snoc, never}
use Rattle.seats.proofs.CountLaws.{count_below, count_one}
use Rattle.seats.proofs.SittingLaws.{sitting_of, of_sitting, set_has}
use Rattle.seats.proofs.StepOwners.{owners_same, step_owners, owners_counted, Puts, step_sits}
use Rattle.seats.proofs.SeatedTold.{put_on, asks_steps, choice_seated}

-- the line of a role that changes, and of the others
pub line_at : (lines : ℕ → List ℕ) (f r : ℕ) (l : List ℕ) → r ≡ f → relined lines f l r ≡ l
line_at lines f r l e = rw (eq-eqb r f e)

pub line_off : (lines : ℕ → List ℕ) (f r : ℕ) (l : List ℕ) → r ≢ f → relined lines f l r ≡ lines r
line_off lines f r l e = rw (ne_eqb r f e)

pub same_or : (a b : ℕ) → (a ≡ b) ⊎ (a ≢ b)
same_or a b = go (eqb a b) refl
  where
    go : (c : Bool) → eqb a b ≡ c → (a ≡ b) ⊎ (a ≢ b)
    go true e = inl (eqb-true a b e)
    go false e = inr (eqb-false a b e)

module _ (L : Limited) (S : SeatedState) (O : Ordered L S) (i p : ℕ) where
  abbrev role : ℕ
  role = (thread_node L S i).f1

  abbrev own : ℕ
  own = owner_of S i

  abbrev line : List ℕ
  line = S.lines role

  abbrev gone : State → (ℕ → List ℕ) → SeatedState
  gone s lines = record { state = s; owners = owners_by S.owners i (thread_node L S i).tag; lines = lines }

  -- who has a role after a step had it, or is put on it
  now_sits : (s : State) (lines : ℕ → List ℕ) → Steps L.clinic S.state i p s → (k r : ℕ) → sits (gone s lines) k r ≡ true
      → (sits S k r ≡ true) ⊎ Puts L.clinic S.state S.owners O.owners i p k r
  now_sits s lines st k r h =
      go (step_sits L.clinic S.state S.owners O.owners i p k r s st (sitting_of s.threads (owners_by S.owners i (thread_node L S i).tag) k r h))
    where
      go : Sitting S.state.threads S.owners k r ⊎ Puts L.clinic S.state S.owners O.owners i p k r
          → (sits S k r ≡ true) ⊎ Puts L.clinic S.state S.owners O.owners i p k r
      go (inl x) = inl (of_sitting S.state.threads S.owners k r x)
      go (inr x) = inr x

  -- the session that asks is one of the file's
  own_counted : AsksSeat L S i p → InCount L.sessions own
  own_counted A = all_get (InCount L.sessions) S.owners (i - 1) 0 (omega (arith, A.thread.0, A.thread.1, O.owners)) O.counted

  -- it has the role after its on
  took_sits : AsksSeat L S i p → (s : State) (lines : ℕ → List ℕ) → Steps L.clinic S.state i p s → sits (gone s lines) own role ≡ true
  took_sits A s lines st =
      of_sitting s.threads (owners_by S.owners i (thread_node L S i).tag) own role
      (subst (λ (x : State). Sitting x.threads (owners_by S.owners i (thread_node L S i).tag) own role)
      (one_result L.clinic S.state i p (put_on L S i p) s (asks_steps L S i p A) st)
      (subst (λ (o : List ℕ). Sitting (put_on L S i p).threads o own role) (sym (owners_same S.owners i (thread_node L S i).tag (omega (arith, A.on))))
      (set_has S.state.threads S.owners (i - 1) _ role O.owners (omega (arith, A.thread.0, A.thread.1))
      (has_with_same (thread_at S.state i).mask role (has_pos _ role A.assigned)))))

  -- Lines.
  took_line : AsksSeat L S i p → GetsSeat L S i → (s : State) → Steps L.clinic S.state i p s → (r : ℕ) → LineStep L S (gone s (lines_left L S i)) i r
  took_line A G s st r = go (same_or r role)
    where
      S' : SeatedState
      S' = gone s (lines_left L S i)

      by : (l : List ℕ) → line ≡ l → IsNext l own → r ≡ role → lines_left L S i r ≡ drop 1 l → LineStep L S S' i r
      by [] e n z d = line_stays (d ∙ sym (ap S.lines z ∙ e))
      by (x ∷ l) e n z d =
          line_leaves z (ap S.lines z ∙ e ∙ ap {B = List ℕ} (λ y. y ∷ l) n ∙ ap {B = List ℕ} (λ m. own ∷ m) (sym d))
          (ap (sits S own) z ∙ A.without) (ap (sits S' own) z ∙ took_sits A s (lines_left L S i) st)

      go : (r ≡ role) ⊎ (r ≢ role) → LineStep L S S' i r
      go (inl z) = by line refl G.1 z (line_at S.lines role r (drop 1 line) z)
      go (inr z) = line_stays (line_off S.lines role r (drop 1 line) z)

  joined_out : (l : List ℕ) (k : ℕ) → in_line k l ≡ false → line_with l k ≡ l ++ (k ∷ [])
  unfolding line_with
  joined_out l k e = rw e

  joined_in : (l : List ℕ) (k : ℕ) → in_line k l ≡ true → line_with l k ≡ l
  unfolding line_with
  joined_in l k e = rw e

  wait_line : (r : ℕ) → LineStep L S (stand_in_line L S i) i r
  wait_line r = go (same_or r role)
    where
      by : (b : Bool) → in_line own line ≡ b → r ≡ role → LineStep L S (stand_in_line L S i) i r
      by true e z = line_stays (line_at S.lines role r (line_with line own) z ∙ joined_in line own e ∙ sym (ap S.lines z))
      by false e z =
          line_joins z (ap (λ (x : ℕ). in_line own (S.lines x)) z ∙ e)
          (line_at S.lines role r (line_with line own) z ∙ joined_out line own e ∙ sym (ap (λ (x : ℕ). S.lines x ++ (own ∷ [])) z))

      go : (r ≡ role) ⊎ (r ≢ role) → LineStep L S (stand_in_line L S i) i r
      go (inl z) = by (in_line own line) refl z
      go (inr z) = line_stays (line_off S.lines role r (line_with line own) z)

  lines_after : (a : Taken SeatedState) → SeatedStep L S i p a → AfterAnswer a (λ S'. (r : ℕ) → LineStep L S S' i r)
  lines_after a (got_none A G) = wait_line
  lines_after a (took_seat A G s st) = took_line A G s st
  lines_after a (asked_none A s st) = λ r. line_stays refl
  lines_after a (refused_plainly A n h) = tt

  -- A line stays, or the session that asked joins its end, or its head leaves it and has the role from then on.
  pub line_steps : AfterAnswer (seated_choice L S i p) (λ S'. (r : ℕ) → LineStep L S S' i r)
  line_steps = lines_after (seated_choice L S i p) (choice_seated L S i p)

  -- What holds in every state.
  joined_waits : AsksSeat L S i p → (k : ℕ) → in_line k (line_with line own) ≡ true → InCount L.sessions k × (sits S k role ≡ false)
  joined_waits A k = go (in_line own line) refl
    where
      go : (b : Bool) → in_line own line ≡ b → in_line k (line_with line own) ≡ true → InCount L.sessions k × (sits S k role ≡ false)
      go true e h = O.waiting role k (subst (λ (l : List ℕ). in_line k l ≡ true) (joined_in line own e) h)
      go false e h = by (in-snoc k own line (subst (λ (l : List ℕ). in_line k l ≡ true) (joined_out line own e) h))
        where
          by : (in_line k line ≡ true) ⊎ (k ≡ own) → InCount L.sessions k × (sits S k role ≡ false)
          by (inl x) = O.waiting role k x
          by (inr x) = (subst (InCount L.sessions) (sym x) (own_counted A), ap (λ (y : ℕ). sits S y role) x ∙ A.without)

  joined_distinct : Distinct (line_with line own)
  joined_distinct = go (in_line own line) refl
    where
      go : (b : Bool) → in_line own line ≡ b → Distinct (line_with line own)
      go true e = subst Distinct (sym (joined_in line own e)) (O.distinct role)
      go false e = subst Distinct (sym (joined_out line own e)) (distinct_snoc line own (O.distinct role) e)

  wait_ordered : AsksSeat L S i p → Ordered L (stand_in_line L S i)
  wait_ordered A = record {
    owners = O.owners;
    counted = O.counted;
    seats = O.seats;
    distinct = λ r. distinct_by r (same_or r role);
    waiting = λ r k h. waiting_by r k h (same_or r role);
    unlimited = λ r e. unlimited_by r e (same_or r role);
  }
    where
      distinct_by : (r : ℕ) → (r ≡ role) ⊎ (r ≢ role) → Distinct (lines_joined L S i r)
      distinct_by r (inl z) = subst Distinct (sym (line_at S.lines role r (line_with line own) z)) joined_distinct
      distinct_by r (inr z) = subst Distinct (sym (line_off S.lines role r (line_with line own) z)) (O.distinct r)

      waiting_by : (r k : ℕ) → in_line k (lines_joined L S i r) ≡ true → (r ≡ role) ⊎ (r ≢ role) → InCount L.sessions k × (sits S k r ≡ false)
      waiting_by r k h (inl z) =
          subst (λ (x : ℕ). InCount L.sessions k × (sits S k x ≡ false)) (sym z)
          (joined_waits A k (subst (λ (l : List ℕ). in_line k l ≡ true) (line_at S.lines role r (line_with line own) z) h))
      waiting_by r k h (inr z) = O.waiting r k (subst (λ (l : List ℕ). in_line k l ≡ true) (line_off S.lines role r (line_with line own) z) h)

      unlimited_by : (r : ℕ) → L.seats r ≡ 0 → (r ≡ role) ⊎ (r ≢ role) → lines_joined L S i r ≡ []
      unlimited_by r e (inl z) = absurd (omega (arith, A.limited, sym (ap L.seats z) ∙ e))
      unlimited_by r e (inr z) = line_off S.lines role r (line_with line own) z ∙ O.unlimited r e

  -- a role in which a session waits has a limit
  pub waits_limited : (r k : ℕ) → in_line k (S.lines r) ≡ true → 1 ≤ L.seats r
  waits_limited r k h = go (L.seats r) refl
    where
      go : (n : ℕ) → L.seats r ≡ n → 1 ≤ n
      go zero e = absurd (in-none k (subst (λ (l : List ℕ). in_line k l ≡ true) (O.unlimited r e) h))
      go (suc n) e = omega arith

  not_sitting : (T : SeatedState) (k r : ℕ) → (sits T k r ≡ true → sits S k r ≡ true) → sits S k r ≡ false → sits T k r ≡ false
  not_sitting T k r f e = go (sits T k r) refl
    where
      go : (b : Bool) → sits T k r ≡ b → b ≡ false
      go true x = never (f x) e
      go false x = refl

  -- no seat asked for: in a role with a limit nobody has more than before
  went_sits : (AsksSeat L S i p → ⊥) → (s : State) → Steps L.clinic S.state i p s → (k r : ℕ) → 1 ≤ L.seats r → sits (gone s S.lines) k r ≡ true
      → sits S k r ≡ true
  went_sits A s st k r l h = go (now_sits s S.lines st k r h)
    where
      go : (sits S k r ≡ true) ⊎ Puts L.clinic S.state S.owners O.owners i p k r → sits S k r ≡ true
      go (inl x) = x
      go (inr P) = by (sits S k r) refl
        where
          by : (b : Bool) → sits S k r ≡ b → b ≡ true
          by true e = refl
          by false e =
              absurd (A (record {
                thread = P.thread;
                node = P.node;
                alone = P.alone;
                on = P.tag;
                assigned = subst (λ (x : ℕ). has (L.clinic.schema.assigned (thread_at S.state i).user) x ≡ true) (sym P.role) P.assigned;
                limited = subst (λ (x : ℕ). 1 ≤ L.seats x) (sym P.role) l;
                without =
                    ap (λ (x : ℕ). sits S x role) P.owner ∙ ap (sits S k) P.role ∙ e;
              }))

  went_ordered : (AsksSeat L S i p → ⊥) → (s : State) → Steps L.clinic S.state i p s → Ordered L (gone s S.lines)
  went_ordered A s st = record {
    owners = step_owners L.clinic S.state S.owners O.owners i p s st;
    counted = owners_counted L.clinic S.state S.owners O.owners (InCount L.sessions) i p s st O.counted;
    seats = λ r l. seats_by r l;
    distinct = O.distinct;
    waiting = λ r k h. ((O.waiting r k h).0, not_sitting (gone s S.lines) k r (went_sits A s st k r (waits_limited r k h)) (O.waiting r k h).1);
    unlimited = O.unlimited;
  }
    where
      seats_by : (r : ℕ) → 1 ≤ L.seats r → seats_taken L (gone s S.lines) r ≤ L.seats r
      seats_by r l =
          let a : seats_taken L (gone s S.lines) r ≤ seats_taken L S r = count_below (λ k. sits (gone s S.lines) k r) (λ k. sits S k r) L.sessions (λ k m h. went_sits A s st k r l h) in
          omega (arith, a, O.seats r l)

  -- a seat taken: in that role by one session, in others by none
  took_others : (s : State) → Steps L.clinic S.state i p s → (k r : ℕ) → r ≢ role → sits (gone s (lines_left L S i)) k r ≡ true → sits S k r ≡ true
  took_others s st k r z h = go (now_sits s (lines_left L S i) st k r h)
    where
      go : (sits S k r ≡ true) ⊎ Puts L.clinic S.state S.owners O.owners i p k r → sits S k r ≡ true
      go (inl x) = x
      go (inr P) = absurd (z (sym P.role))

  took_own : (s : State) → Steps L.clinic S.state i p s → (k r : ℕ) → sits (gone s (lines_left L S i)) k r ≡ true → (sits S k r ≡ true) ⊎ (k ≡ own)
  took_own s st k r h = go (now_sits s (lines_left L S i) st k r h)
    where
      go : (sits S k r ≡ true) ⊎ Puts L.clinic S.state S.owners O.owners i p k r → (sits S k r ≡ true) ⊎ (k ≡ own)
      go (inl x) = inl x
      go (inr P) = inr (sym P.owner)

  took_ordered : AsksSeat L S i p → GetsSeat L S i → (s : State) → Steps L.clinic S.state i p s → Ordered L (gone s (lines_left L S i))
  took_ordered A G s st = record {
    owners = step_owners L.clinic S.state S.owners O.owners i p s st;
    counted = owners_counted L.clinic S.state S.owners O.owners (InCount L.sessions) i p s st O.counted;
    seats = λ r l. seats_by r l (same_or r role);
    distinct = λ r. distinct_by r (same_or r role);
    waiting = λ r k h. waiting_by r k h (same_or r role);
    unlimited = λ r e. unlimited_by r e (same_or r role);
  }
    where
      S' : SeatedState
      S' = gone s (lines_left L S i)

      seats_by : (r : ℕ) → 1 ≤ L.seats r → (r ≡ role) ⊎ (r ≢ role) → seats_taken L S' r ≤ L.seats r
      seats_by r l (inl z) =
          let a : seats_taken L S' role ≤ suc (seats_taken L S role) = count_one (λ k. sits S' k role) (λ k. sits S k role) own L.sessions (λ k h. took_own s st k role h) in
          let b : seats_taken L S role < L.seats role = G.0 in
          subst (λ (x : ℕ). seats_taken L S' x ≤ L.seats x) (sym z) (omega (arith, a, b))
      seats_by r l (inr z) =
          let a : seats_taken L S' r ≤ seats_taken L S r = count_below (λ k. sits S' k r) (λ k. sits S k r) L.sessions (λ k m h. took_others s st k r z h) in
          omega (arith, a, O.seats r l)

      tail_distinct : (l : List ℕ) → Distinct l → Distinct (drop 1 l)
      tail_distinct [] d = tt
      tail_distinct (x ∷ l) d = d.1

      distinct_by : (r : ℕ) → (r ≡ role) ⊎ (r ≢ role) → Distinct (lines_left L S i r)
      distinct_by r (inl z) = subst Distinct (sym (line_at S.lines role r (drop 1 line) z)) (tail_distinct line (O.distinct role))
      distinct_by r (inr z) = subst Distinct (sym (line_off S.lines role r (drop 1 line) z)) (O.distinct r)

      -- one behind the head waits on
      behind : (k : ℕ) (l : List ℕ) → Distinct l → IsNext l own → in_line k (drop 1 l) ≡ true → (in_line k l ≡ true) × (k ≢ own)
      behind k [] d n h = (h, absurd (in-none k h))
      behind k (x ∷ l) d n h = (in_tail k x l h, λ e. never h (ap (λ (y : ℕ). in_line y l) (e ∙ sym n) ∙ d.0))

      waiting_role : (k : ℕ) → in_line k (drop 1 line) ≡ true → InCount L.sessions k × (sits S' k role ≡ false)
      waiting_role k h =
          let (a, b) = behind k line (O.distinct role) G.1 h in
          let (c, d) = O.waiting role k a in
          (c, not_sitting S' k role (λ x. other (took_own s st k role x) b) d)
        where
          other : (sits S k role ≡ true) ⊎ (k ≡ own) → k ≢ own → sits S k role ≡ true
          other (inl x) b = x
          other (inr x) b = absurd (b x)

      waiting_by : (r k : ℕ) → in_line k (lines_left L S i r) ≡ true → (r ≡ role) ⊎ (r ≢ role) → InCount L.sessions k × (sits S' k r ≡ false)
      waiting_by r k h (inl z) =
          subst (λ (x : ℕ). InCount L.sessions k × (sits S' k x ≡ false)) (sym z)
          (waiting_role k (subst (λ (l : List ℕ). in_line k l ≡ true) (line_at S.lines role r (drop 1 line) z) h))
      waiting_by r k h (inr z) =
          let (c, d) = O.waiting r k (subst (λ (l : List ℕ). in_line k l ≡ true) (line_off S.lines role r (drop 1 line) z) h) in
          (c, not_sitting S' k r (took_others s st k r z) d)

      unlimited_by : (r : ℕ) → L.seats r ≡ 0 → (r ≡ role) ⊎ (r ≢ role) → lines_left L S i r ≡ []
      unlimited_by r e (inl z) = absurd (omega (arith, A.limited, sym (ap L.seats z) ∙ e))
      unlimited_by r e (inr z) = line_off S.lines role r (drop 1 line) z ∙ O.unlimited r e

  ordered_after : (a : Taken SeatedState) → SeatedStep L S i p a → AfterAnswer a (Ordered L)
  ordered_after a (got_none A G) = wait_ordered A
  ordered_after a (took_seat A G s st) = took_ordered A G s st
  ordered_after a (asked_none A s st) = went_ordered A s st
  ordered_after a (refused_plainly A n h) = tt

  pub choice_ordered : AfterAnswer (seated_choice L S i p) (Ordered L)
  choice_ordered = ordered_after (seated_choice L S i p) (choice_seated L S i p)
