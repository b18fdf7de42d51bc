-- Runs with seats: what holds at every moment.
use Prim.Native.Nat.{ℕ, zero, suc, ◌+◌, ◌-◌, ◌≤◌, ◌<◌}
use mathlib.Core.Path.{◌≡◌, refl, sym, ap, ◌∙◌, subst}
use mathlib.Core.Logic.{◌⊎◌, inl, inr, ◌≢◌}
use mathlib.Core.Bool.{Bool, true, false, cond}
use mathlib.Core.List.{List, [], ◌∷◌, ◌++◌}
use native.Mathlib.Omega.{arith}
use lib.Dec.{eqb, ltb}
use lib.ListN.{length, get_or, drop}
use borrow.Author.Tests.{ltb-true, ltb-false, eq-eqb}
use Rattle.masks.specs.Mask.{has}
use Rattle.steps.specs.declared.Thread.{Thread}
use Rattle.reading_exact.specs.Lists.{All}
use Rattle.reading_exact.specs.File.{InCount}
use Rattle.rounds.specs.Round.{Taken, refuses, waits, steps}
use Rattle.running.specs.Ways.{stands_in}
use Rattle.seats.specs.Seats.{Limited, SeatedState, sits, occupies, seats_taken, count_to, thread_node, owner_of, in_line, seated_choice, SeatedRan, follow_seated, seated_run}
use Rattle.seats.specs.SeatOrder.{Sitting, Distinct, ahead, LineStep, line_stays, line_joins, line_leaves, Ordered, AfterAnswer, Always, Between, NoMoreBefore}
use Rattle.seats.proofs.LineLaws.{either_left, either_right, ahead_snoc, ahead_head, never}
use Rattle.seats.proofs.CountLaws.{count_two, count_strict, count_all}
use Rattle.seats.proofs.SittingLaws.{sitting_of}
use Rattle.seats.proofs.SeatedKept.{line_steps, choice_ordered}

-- what follows for the state after a choice
pub after_map : (P Q : SeatedState → Type 0) → ((S : SeatedState) → P S → Q S) → (a : Taken SeatedState) → AfterAnswer a P → AfterAnswer a Q
after_map P Q f (refuses n) h = tt
after_map P Q f (steps S') h = f S' h
after_map P Q f (waits S') h = f S' h

pub after_both : (P Q R : SeatedState → Type 0) → ((S : SeatedState) → P S → Q S → R S) → (a : Taken SeatedState) → AfterAnswer a P → AfterAnswer a Q → AfterAnswer a R
after_both P Q R f (refuses n) h k = tt
after_both P Q R f (steps S') h k = f S' h k
after_both P Q R f (waits S') h k = f S' h k

module _ (L : Limited) where
  pub always_map : (P Q : SeatedState → Type 0) → ((S : SeatedState) → P S → Q S) → (ws : List ℕ) (S : SeatedState) → Always P L S ws → Always Q L S ws
  always_map P Q f [] S h = f S h
  always_map P Q f (i ∷ []) S h = f S h
  always_map P Q f (i ∷ p ∷ ws) S h = (f S h.0, after_map _ _ (always_map P Q f ws) (seated_choice L S i p) h.1)

  pub always_both : (P Q R : SeatedState → Type 0) → ((S : SeatedState) → P S → Q S → R S) → (ws : List ℕ) (S : SeatedState) → Always P L S ws → Always Q L S ws → Always R L S ws
  always_both P Q R f [] S h k = f S h k
  always_both P Q R f (i ∷ []) S h k = f S h k
  always_both P Q R f (i ∷ p ∷ ws) S h k = (f S h.0 k.0, after_both _ _ _ (always_both P Q R f ws) (seated_choice L S i p) h.1 k.1)

  -- Every state of a run is in order.
  pub always_ordered : (ws : List ℕ) (S : SeatedState) → Ordered L S → Always (Ordered L) L S ws
  always_ordered [] S O = O
  always_ordered (i ∷ []) S O = O
  always_ordered (i ∷ p ∷ ws) S O = (O, after_map (Ordered L) _ (always_ordered ws) (seated_choice L S i p) (choice_ordered L S O i p))

  -- the state that a run ends in is the last of those that come up
  pub always_last : (P : SeatedState → Type 0) (ws : List ℕ) (S : SeatedState) → Always P L S ws → P (seated_run L S ws).seating
  unfolding seated_run
  always_last P [] S h = h
  always_last P (i ∷ []) S h = h
  always_last P (i ∷ p ∷ ws) S h = go (seated_choice L S i p) h.1 (always_last P ws)
    where
      go : (a : Taken SeatedState) → AfterAnswer a (λ S'. Always P L S' ws) → ((S' : SeatedState) → Always P L S' ws → P (seated_run L S' ws).seating)
          → P (follow_seated S a (λ S'. seated_run L S' ws)).seating
      go (refuses n) k f = h.0
      go (steps S') k f = f S' k
      go (waits S') k f = f S' k

  pub run_ordered : (ws : List ℕ) (S : SeatedState) → Ordered L S → Ordered L (seated_run L S ws).seating
  run_ordered ws S O = always_last (Ordered L) ws S (always_ordered ws S O)

  -- At no moment are there more sessions in a role with a limit than it has seats.
  pub never_over : (ws : List ℕ) (S : SeatedState) → Ordered L S → Always (λ T. (r : ℕ) → 1 ≤ L.seats r → seats_taken L T r ≤ L.seats r) L S ws
  never_over ws S O = always_map _ _ (λ T P. P.seats) ws S (always_ordered ws S O)

  -- At every moment: no session twice in a line, none in a line that has the role, no line for a role without limit.
  pub lines_sound : (ws : List ℕ) (S : SeatedState) → Ordered L S
      → Always (λ T. (r : ℕ) → Distinct (T.lines r) × ((k : ℕ) → in_line k (T.lines r) ≡ true → sits T k r ≡ false) × (L.seats r ≡ 0 → T.lines r ≡ [])) L S ws
  lines_sound ws S O = always_map _ _ (λ T P r. (P.distinct r, λ k h. (P.waiting r k h).1, P.unlimited r)) ws S (always_ordered ws S O)

  -- Between two states in a row.
  step_before : (S S' : SeatedState) (i : ℕ) → Ordered L S → ((r : ℕ) → LineStep L S S' i r) → NoMoreBefore S S'
  step_before S S' i O f r k h h' = go (f r)
    where
      go : LineStep L S S' i r → (ahead k (S'.lines r) ≡ ahead k (S.lines r)) ⊎ ((x : ℕ) × (ahead k (S.lines r) ≡ x ∷ ahead k (S'.lines r)))
      go (line_stays e) = inl (ap (ahead k) e)
      go (line_joins z o e) = inl (ap (ahead k) e ∙ ahead_snoc k (owner_of S i) (S.lines r) h)
      go (line_leaves z e a b) = inr (owner_of S i, ap (ahead k) e ∙ ahead_head k (owner_of S i) (S'.lines r) (subst Distinct e (O.distinct r)) h')

  between : (Q : SeatedState → SeatedState → Type 0) → ((S : SeatedState) → Ordered L S → (i p : ℕ) → AfterAnswer (seated_choice L S i p) (Q S)) → (ws : List ℕ) (S : SeatedState) → Ordered L S
      → Between Q L S ws
  between Q f [] S O = tt
  between Q f (i ∷ []) S O = tt
  between Q f (i ∷ p ∷ ws) S O = after_both (Q S) (Ordered L) _ (λ S' q o. (q, between Q f ws S' o)) (seated_choice L S i p) (f S O i p) (choice_ordered L S O i p)

  -- While it waits, a session never gets more sessions before it.
  pub no_more_before : (ws : List ℕ) (S : SeatedState) → Ordered L S → Between NoMoreBefore L S ws
  no_more_before = between NoMoreBefore (λ S O i p. after_map _ (NoMoreBefore S) (λ S'. step_before S S' i O) (seated_choice L S i p) (line_steps L S O i p))

  -- A line changes at its end, or loses its head, which has the role from then on.
  pub lines_move : (ws : List ℕ) (S : SeatedState) → Ordered L S → Between (λ T T'. (i : ℕ) × ((r : ℕ) → LineStep L T T' i r)) L S ws
  lines_move = between _ (λ S O i p. after_map _ _ (λ S' f. (i, f)) (seated_choice L S i p) (line_steps L S O i p))

  -- Over a whole run in which a session waits all along: those before it at the end are those at the start less some of the first.
  pub moves_up : (ws : List ℕ) (S : SeatedState) (r k : ℕ) → Ordered L S → Always (λ T. in_line k (T.lines r) ≡ true) L S ws
      → (j : ℕ) × (ahead k ((seated_run L S ws).seating.lines r) ≡ drop j (ahead k (S.lines r)))
  unfolding seated_run
  moves_up [] S r k O h = (0, refl)
  moves_up (i ∷ []) S r k O h = (0, refl)
  moves_up (i ∷ p ∷ ws) S r k O h =
      go (seated_choice L S i p) h.1 (choice_ordered L S O i p) (line_steps L S O i p) (λ S'. moves_up ws S' r k)
    where
      Waits : SeatedState → Type 0
      Waits T = in_line k (T.lines r) ≡ true

      Rest : Type 0
      Rest =
          (S' : SeatedState) → Ordered L S' → Always Waits L S' ws → (j : ℕ) × (ahead k ((seated_run L S' ws).seating.lines r) ≡ drop j (ahead k (S'.lines r)))

      on : (S' : SeatedState) → Always Waits L S' ws → Ordered L S' → ((q : ℕ) → LineStep L S S' i q) → Rest
          → (j : ℕ) × (ahead k ((seated_run L S' ws).seating.lines r) ≡ drop j (ahead k (S.lines r)))
      on S' a o f rest = by (step_before S S' i O f r k h.0 (first ws a)) (rest S' o a)
        where
          first : (vs : List ℕ) → Always Waits L S' vs → in_line k (S'.lines r) ≡ true
          first [] a = a
          first (x ∷ []) a = a
          first (x ∷ y ∷ vs) a = a.0

          by : (ahead k (S'.lines r) ≡ ahead k (S.lines r)) ⊎ ((x : ℕ) × (ahead k (S.lines r) ≡ x ∷ ahead k (S'.lines r)))
              → (j : ℕ) × (ahead k ((seated_run L S' ws).seating.lines r) ≡ drop j (ahead k (S'.lines r)))
              → (j : ℕ) × (ahead k ((seated_run L S' ws).seating.lines r) ≡ drop j (ahead k (S.lines r)))
          by (inl e) (j, d) = (j, d ∙ ap (drop j) e)
          by (inr (x, e)) (j, d) = (suc j, d ∙ sym (ap (drop (suc j)) e))

      go : (a : Taken SeatedState) → AfterAnswer a (λ S'. Always Waits L S' ws) → AfterAnswer a (Ordered L) → AfterAnswer a (λ S'. (q : ℕ) → LineStep L S S' i q) → Rest
          → (j : ℕ) × (ahead k ((follow_seated S a (λ S'. seated_run L S' ws)).seating.lines r) ≡ drop j (ahead k (S.lines r)))
      go (refuses n) a o f rest = (0, refl)
      go (steps S') a o f rest = on S' a o f rest
      go (waits S') a o f rest = on S' a o f rest

  -- One seat.
  owner_of_lem : (P : ℕ → Type 0) (ts : List Thread) (os : List ℕ) (k r : ℕ) → All P os → Sitting ts os k r → P k
  owner_of_lem P [] os k r a h = absurd h
  owner_of_lem P (t ∷ ts) [] k r a h = absurd h
  owner_of_lem P (t ∷ ts) (o ∷ os) k r a (inl (e, m)) = subst P e a.0
  owner_of_lem P (t ∷ ts) (o ∷ os) k r a (inr h) = owner_of_lem P ts os k r a.1 h

  pub sits_counted : (S : SeatedState) → Ordered L S → (k r : ℕ) → sits S k r ≡ true → InCount L.sessions k
  sits_counted S O k r h = owner_of_lem (InCount L.sessions) S.state.threads S.owners k r O.counted (sitting_of S.state.threads S.owners k r h)

  -- of a role with one seat no two sessions have it
  pub one_seat : (S : SeatedState) → Ordered L S → (r : ℕ) → L.seats r ≡ 1 → (k m : ℕ) → sits S k r ≡ true → sits S m r ≡ true → k ≡ m
  one_seat S O r e k m h g = go (ltb k m) (ltb m k) refl refl
    where
      low : seats_taken L S r ≤ L.seats r
      low = O.seats r (omega (arith, e))

      apart : (a b : ℕ) → sits S a r ≡ true → sits S b r ≡ true → a < b → ⊥
      apart a b x y l =
          let two : 2 ≤ seats_taken L S r = count_two (λ j. sits S j r) a b L.sessions (sits_counted S O a r x).0 l (sits_counted S O b r y).1 x y in
          omega (arith, two, low, e)

      go : (a b : Bool) → ltb k m ≡ a → ltb m k ≡ b → k ≡ m
      go true b x y = absurd (apart k m h g (ltb-true k m x))
      go false true x y = absurd (apart m k g h (ltb-true m k y))
      go false false x y = omega (arith, ltb-false k m x, ltb-false m k y)

  -- Between a session's on of it and its off, no other session has it.
  pub alone_in_it : (ws : List ℕ) (S : SeatedState) (r k : ℕ) → Ordered L S → L.seats r ≡ 1 → Always (λ T. sits T k r ≡ true) L S ws
      → Always (λ T. (m : ℕ) → m ≢ k → sits T m r ≡ false) L S ws
  alone_in_it ws S r k O e h = always_both (Ordered L) (λ T. sits T k r ≡ true) _ alone ws S (always_ordered ws S O) h
    where
      alone : (T : SeatedState) → Ordered L T → sits T k r ≡ true → (m : ℕ) → m ≢ k → sits T m r ≡ false
      alone T P a m z = go (sits T m r) refl
        where
          go : (b : Bool) → sits T m r ≡ b → b ≡ false
          go true x = absurd (z (one_seat T P r e m k x a))
          go false x = refl

  -- a line has no more sessions than the file
  line_short : (n : ℕ) (l : List ℕ) → Distinct l → ((k : ℕ) → in_line k l ≡ true → InCount n k) → length l ≤ count_to (λ k. in_line k l) n
  unfolding stands_in
  line_short n [] d c = omega arith
  line_short n (x ∷ l) d c =
      let a : length l ≤ count_to (λ k. in_line k l) n = line_short n l d.1 (λ k h. c k (either_right (eqb x k) (in_line k l) h)) in
      let (b, e) = c x (either_left (eqb x x) (in_line x l) (eq-eqb x x refl)) in
      let f : suc (count_to (λ k. in_line k l) n) ≤ count_to (λ k. in_line k (x ∷ l)) n =
      count_strict (λ k. in_line k l) (λ k. in_line k (x ∷ l)) x n (λ k h. either_right (eqb x k) (in_line k l) h) b e d.0
      (either_left (eqb x x) (in_line x l) (eq-eqb x x refl)) in
      omega (arith, a, f)

  pub line_fits : (S : SeatedState) → Ordered L S → (r : ℕ) → length (S.lines r) ≤ L.sessions
  line_fits S O r =
      let a : length (S.lines r) ≤ count_to (λ k. in_line k (S.lines r)) L.sessions = line_short L.sessions (S.lines r) (O.distinct r) (λ k h. (O.waiting r k h).0) in
      let b : count_to (λ k. in_line k (S.lines r)) L.sessions ≤ L.sessions = count_all (λ k. in_line k (S.lines r)) L.sessions in
      omega (arith, a, b)
