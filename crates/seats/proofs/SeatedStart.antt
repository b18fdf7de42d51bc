-- The start of a run with seats: 26 before the first choice exactly at the lowest session that overfills a role.
use Prim.Native.Nat.{ℕ, zero, suc, ◌+◌, ◌*◌, ◌-◌, ◌≤◌, ◌<◌}
use mathlib.Core.Path.{◌≡◌, refl, sym, ap, ◌∙◌, subst}
use mathlib.Core.Logic.{◌⊎◌, inl, inr, ◌↔◌, ◌≢◌}
use mathlib.Core.Bool.{Bool, true, false, cond, ◌&&◌, ◌||◌, false≢true, and-eq-true_iff}
use mathlib.Core.List.{List, [], ◌∷◌}
use native.Mathlib.Omega.{arith}
use lib.Dec.{eqb, ltb}
use lib.ListN.{length, get_or}
use borrow.Author.Tests.{eqb-true, eqb-false, eq-eqb, ne_eqb, ltb-true, lt-ltb, ltb-false}
use Rattle.masks.specs.Mask.{has}
use Rattle.format.specs.Contents.{Contents, item, no_session}
use Rattle.format.specs.declared.Session.{Session}
use Rattle.steps.specs.declared.Thread.{Thread}
use Rattle.choices.specs.Choices.{threads_from, start}
use Rattle.reading_exact.specs.Lists.{All}
use Rattle.reading_exact.specs.File.{InCount}
use Rattle.running_exact.proofs.StartKept.{threads_length}
use Rattle.rounds.specs.Rounds.{numbers}
use Rattle.seats.specs.Seats.{Limited, limited_of, seats_in, SeatedState, occupies, sits, count_to, seats_taken, in_line, seated_start, overfills, lowest_to, overfilled_at}
use Rattle.seats.specs.SeatOrder.{Sitting, Overfull, FirstOver, Ordered}
use Rattle.seats.proofs.LineLaws.{in-none, never, or_splits, either_left, either_right}
use Rattle.seats.proofs.CountLaws.{count_more}
use Rattle.seats.proofs.SittingLaws.{sitting_of, of_sitting}

later_lowest : (l x : ℕ) → cond (eqb (suc l) 0) x (suc l) ≡ suc l
later_lowest l x = rw (ne_eqb (suc l) 0 (λ z. omega (arith, z)))

-- The lowest number that meets a test.
pub lowest_none : (q : ℕ → Bool) (n : ℕ) → lowest_to q n ≡ 0 → (k : ℕ) → InCount n k → q k ≡ false
unfolding lowest_to
lowest_none q zero e k c = let no : ⊥ = omega (arith, c.0, c.1) in absurd no
lowest_none q (suc n) e k c = go (lowest_to q n) refl e (lowest_none q n)
  where
    go : (l : ℕ) → lowest_to q n ≡ l → cond (eqb l 0) (cond (q (suc n)) (suc n) 0) l ≡ 0 → (lowest_to q n ≡ 0 → (k : ℕ) → InCount n k → q k ≡ false) → q k ≡ false
    go zero z d f = by (q (suc n)) refl d (eqb k (suc n)) refl
      where
        by : (b : Bool) → q (suc n) ≡ b → ◌≡◌ {A = ℕ} (cond b (suc n) 0) 0 → (c : Bool) → eqb k (suc n) ≡ c → q k ≡ false
        by true x y c' w = let no : ⊥ = omega (arith, y) in absurd no
        by false x y true w = ap q (eqb-true k (suc n) w) ∙ x
        by false x y false w = f z k (c.0, omega (arith, c.1, eqb-false k (suc n) w))
    go (suc l) z d f = let no : ⊥ = omega (arith, sym (later_lowest l (cond (q (suc n)) (suc n) 0)) ∙ d) in absurd no

pub lowest_some : (q : ℕ → Bool) (n : ℕ) → lowest_to q n ≢ 0
    → InCount n (lowest_to q n) × (q (lowest_to q n) ≡ true) × ((k : ℕ) → 1 ≤ k → k < lowest_to q n → q k ≡ false)
unfolding lowest_to
lowest_some q zero z = absurd (z refl)
lowest_some q (suc n) z = go (lowest_to q n) refl z (lowest_some q n)
  where
    Least : ℕ → ℕ → Type 0
    Least n l = InCount n l × (q l ≡ true) × ((k : ℕ) → 1 ≤ k → k < l → q k ≡ false)

    go : (l : ℕ) → lowest_to q n ≡ l → cond (eqb l 0) (cond (q (suc n)) (suc n) 0) l ≢ 0 → (lowest_to q n ≢ 0 → Least n (lowest_to q n))
        → Least (suc n) (cond (eqb l 0) (cond (q (suc n)) (suc n) 0) l)
    go zero e z f = by (q (suc n)) refl z
      where
        by : (b : Bool) → q (suc n) ≡ b → cond b (suc n) 0 ≢ 0 → Least (suc n) (cond b (suc n) 0)
        by true x y = ((omega arith, omega arith), x, λ k l m. lowest_none q n e k (l, omega (arith, m)))
        by false x y = absurd (y refl)
    go (suc l) e z f =
        let (a, b, c) = subst (Least n) e (f (λ x. omega (arith, x, e))) in
        subst (Least (suc n)) (sym (later_lowest l (cond (q (suc n)) (suc n) 0))) ((omega arith, omega (arith, a.1)), b, c)

module _ (L : Limited) (S : SeatedState) where
  pub overfills_some : (m k : ℕ) → overfills L S m k ≡ true → (r : ℕ) × InCount m r × Overfull L S k r
  unfolding overfills
  overfills_some zero k h = absurd (false≢true h)
  overfills_some (suc m) k h = go (or_splits (ltb 0 (L.seats (suc m)) && ltb (L.seats (suc m)) (count_to (λ j. sits S j (suc m)) k)) (overfills L S m k) h) (overfills_some m k)
    where
      go : ((ltb 0 (L.seats (suc m)) && ltb (L.seats (suc m)) (count_to (λ j. sits S j (suc m)) k)) ≡ true) ⊎ (overfills L S m k ≡ true)
          → (overfills L S m k ≡ true → (r : ℕ) × InCount m r × Overfull L S k r) → (r : ℕ) × InCount (suc m) r × Overfull L S k r
      go (inl e) f =
          let (a, b) = (and-eq-true_iff (ltb 0 (L.seats (suc m))) (ltb (L.seats (suc m)) (count_to (λ j. sits S j (suc m)) k))).0 e in
          (suc m, (omega arith, omega arith), (ltb-true 0 (L.seats (suc m)) a, ltb-true (L.seats (suc m)) (count_to (λ j. sits S j (suc m)) k) b))
      go (inr e) f = let (r, c, o) = f e in (r, (c.0, omega (arith, c.1)), o)

  pub some_overfills : (m k r : ℕ) → InCount m r → Overfull L S k r → overfills L S m k ≡ true
  unfolding overfills
  some_overfills zero k r c o = let no : ⊥ = omega (arith, c.0, c.1) in absurd no
  some_overfills (suc m) k r c o = go (eqb r (suc m)) refl (some_overfills m k r)
    where
      test : ℕ → Bool
      test x = ltb 0 (L.seats x) && ltb (L.seats x) (count_to (λ j. sits S j x) k)

      go : (b : Bool) → eqb r (suc m) ≡ b → (InCount m r → Overfull L S k r → overfills L S m k ≡ true) → (test (suc m) || overfills L S m k) ≡ true
      go true e f =
          either_left (test (suc m)) (overfills L S m k)
          (subst (λ (x : ℕ). test x ≡ true) (eqb-true r (suc m) e)
          ((and-eq-true_iff (ltb 0 (L.seats r)) (ltb (L.seats r) (count_to (λ j. sits S j r) k))).1 (lt-ltb 0 (L.seats r) o.0, lt-ltb (L.seats r) (count_to (λ j. sits S j r) k) o.1)))
      go false e f = either_right (test (suc m)) (overfills L S m k) (f (c.0, omega (arith, c.1, eqb-false r (suc m) e)) o)

  module _ (roles : ℕ) (beyond : (r : ℕ) → 1 ≤ L.seats r → InCount roles r) where
    none_over : (j : ℕ) → overfills L S roles j ≡ false → (r : ℕ) → Overfull L S j r → ⊥
    none_over j e r o = never (some_overfills roles j r (beyond r o.0) o) e

    pub over_first : overfilled_at L S roles ≢ 0 → FirstOver L S (overfilled_at L S roles)
    over_first z =
        let (a, b, c) = lowest_some (overfills L S roles) L.sessions z in
        let (r, d, o) = overfills_some roles (overfilled_at L S roles) b in
        (a, (r, o), λ j q l m. none_over j (c j l m) q)

    pub first_over : (k : ℕ) → FirstOver L S k → overfilled_at L S roles ≡ k
    first_over k (c, (r, o), least) = go (overfilled_at L S roles) refl
      where
        yes : overfills L S roles k ≡ true
        yes = some_overfills roles k r (beyond r o.0) o

        at : (l : ℕ) → l ≢ 0 → overfilled_at L S roles ≡ l → l ≡ k
        at l z e =
            let (a, b, m) = lowest_some (overfills L S roles) L.sessions (λ x. z (sym e ∙ x)) in
            by (ltb l k) (ltb k l) refl refl (subst (λ (x : ℕ). InCount L.sessions x) e a) (subst (λ (x : ℕ). overfills L S roles x ≡ true) e b)
            (subst (λ (x : ℕ). (j : ℕ) → 1 ≤ j → j < x → overfills L S roles j ≡ false) e m)
          where
            by : (x y : Bool) → ltb l k ≡ x → ltb k l ≡ y → InCount L.sessions l → overfills L S roles l ≡ true
                → ((j : ℕ) → 1 ≤ j → j < l → overfills L S roles j ≡ false) → l ≡ k
            by true y p q a b m = let (r', d, o') = overfills_some roles l b in absurd (least l r' a.0 (ltb-true l k p) o')
            by false true p q a b m = never yes (m k c.0 (ltb-true k l q))
            by false false p q a b m = omega (arith, ltb-false l k p, ltb-false k l q)

        go : (l : ℕ) → overfilled_at L S roles ≡ l → l ≡ k
        go zero e = never yes (lowest_none (overfills L S roles) L.sessions e k c)
        go (suc l) e = at (suc l) (λ z. omega (arith, z)) e

    -- nothing refused: at most as many sessions in each role as it has seats
    pub none_first : overfilled_at L S roles ≡ 0 → (r : ℕ) → 1 ≤ L.seats r → seats_taken L S r ≤ L.seats r
    unfolding count_to
    none_first e r l = go L.sessions refl
      where
        go : (n : ℕ) → L.sessions ≡ n → count_to (λ j. sits S j r) n ≤ L.seats r
        go zero z = omega arith
        go (suc n) z = by (ltb (L.seats r) (count_to (λ j. sits S j r) (suc n))) refl
          where
            by : (b : Bool) → ltb (L.seats r) (count_to (λ j. sits S j r) (suc n)) ≡ b → count_to (λ j. sits S j r) (suc n) ≤ L.seats r
            by true x =
                absurd (none_over (suc n) (lowest_none (overfills L S roles) L.sessions e (suc n) (omega arith, omega (arith, z))) r (l, ltb-true (L.seats r) (count_to (λ j. sits S j r) (suc n)) x))
            by false x = ltb-false (L.seats r) (count_to (λ j. sits S j r) (suc n)) x

    -- and back
    pub seats_first : ((r : ℕ) → 1 ≤ L.seats r → seats_taken L S r ≤ L.seats r) → overfilled_at L S roles ≡ 0
    seats_first f = go (overfilled_at L S roles) refl
      where
        go : (l : ℕ) → overfilled_at L S roles ≡ l → l ≡ 0
        go zero e = refl
        go (suc l) e =
            let (a, (r, o), least) = over_first (λ z. omega (arith, sym e ∙ z)) in
            let b : count_to (λ j. sits S j r) (overfilled_at L S roles) ≤ seats_taken L S r = count_more (λ j. sits S j r) (overfilled_at L S roles) L.sessions a.1 in
            let no : ⊥ = omega (arith, b, f r o.0, o.1) in
            absurd no

-- The start of a file.

pub numbers_length : (k n : ℕ) → length (numbers k n) ≡ n
unfolding numbers
numbers_length k zero = refl
numbers_length k (suc n) = ap suc (numbers_length (suc k) n)

numbers_all : (P : ℕ → Type 0) (k n : ℕ) → ((j : ℕ) → k ≤ j → j < k + n → P j) → All P (numbers k n)
unfolding numbers
numbers_all P k zero f = tt
numbers_all P k (suc n) f = (f k (omega arith) (omega arith), numbers_all P (suc k) n (λ j l m. f j (omega (arith, l)) (omega (arith, m))))

-- at the start a session has what its own mask has
start_has : (ss : List Session) (k j r : ℕ) → j < length ss → has (get_or ss j no_session).mask r ≡ true → Sitting (threads_from ss) (numbers k (length ss)) (k + j) r
unfolding threads_from numbers
start_has [] k j r l h = absurd (omega (arith, l))
start_has (s ∷ ss) k zero r l h = inl (omega arith, h)
start_has (s ∷ ss) k (suc j) r l h =
    let d : suc k + j ≡ k + suc j = omega arith in
    inr (subst (λ (x : ℕ). Sitting (threads_from ss) (numbers (suc k) (length ss)) x r) d (start_has ss (suc k) j r (omega (arith, l)) h))

has_start : (ss : List Session) (k m r : ℕ) → Sitting (threads_from ss) (numbers k (length ss)) m r
    → (j : ℕ) × (j < length ss) × (m ≡ k + j) × (has (get_or ss j no_session).mask r ≡ true)
unfolding threads_from numbers
has_start [] k m r h = absurd h
has_start (s ∷ ss) k m r (inl (e, h)) = (0, omega arith, omega (arith, e), h)
has_start (s ∷ ss) k m r (inr h) =
    let (j, l, e, a) = has_start ss (suc k) m r h in
    (suc j, omega (arith, l), omega (arith, e), a)

item_at : (ss : List Session) (k : ℕ) → 1 ≤ k → item no_session ss k ≡ get_or ss (k - 1) no_session
unfolding item
item_at ss zero l = absurd (omega (arith, l))
item_at ss (suc j) l = let e : j ≡ suc j - 1 = omega arith in ap (λ (x : ℕ). get_or ss x no_session) e

-- Session k has role r at the start exactly if its starting mask has it.
pub start_sits : (C : Contents) (k r : ℕ)
    → (sits (seated_start C) k r ≡ true) ↔ (InCount (length C.sessions) k × (has (item no_session C.sessions k).mask r ≡ true))
start_sits C k r = (to, back)
  where
    ss : List Session
    ss = C.sessions

    to : sits (seated_start C) k r ≡ true → InCount (length ss) k × (has (item no_session ss k).mask r ≡ true)
    to x =
        let (j, l, e, a) = has_start ss 1 k r (sitting_of (threads_from ss) (numbers 1 (length ss)) k r x) in
        let z : k - 1 ≡ j = omega (arith, e) in
        let one : 1 ≤ k = omega (arith, e) in
        ((one, omega (arith, e, l)), ap (λ (s : Session). has s.mask r) (item_at ss k one ∙ ap (λ (y : ℕ). get_or ss y no_session) z) ∙ a)

    back : InCount (length ss) k × (has (item no_session ss k).mask r ≡ true) → sits (seated_start C) k r ≡ true
    back (c, a) =
        let z : 1 + (k - 1) ≡ k = omega (arith, c.0) in
        of_sitting (threads_from ss) (numbers 1 (length ss)) k r
        (subst (λ (y : ℕ). Sitting (threads_from ss) (numbers 1 (length ss)) y r) z
        (start_has ss 1 (k - 1) r (omega (arith, c.0, c.1)) (ap (λ (s : Session). has s.mask r) (sym (item_at ss k c.0)) ∙ a)))

-- a table has a limit only for its own roles
pub table_roles : (table : List ℕ) (r : ℕ) → 1 ≤ seats_in table r → InCount (length table) r
table_roles table zero l = absurd (omega (arith, l))
table_roles table (suc r) l = go table r l
  where
    go : (t : List ℕ) (j : ℕ) → 1 ≤ get_or t j 0 → InCount (length t) (suc j)
    go [] j l = absurd (omega (arith, l))
    go (w ∷ t) zero l = (omega arith, omega arith)
    go (w ∷ t) (suc j) l = (omega arith, omega (arith, (go t j l).1))

module _ (C : Contents) (table : List ℕ) where
  abbrev limits : Limited
  limits = limited_of C table

  abbrev begin : SeatedState
  begin = seated_start C

  -- The answer 26 at a session of the start exactly if that session is the lowest that overfills a role.
  pub start_over : (k : ℕ) → 1 ≤ k → (overfilled_at limits begin (length table) ≡ k) ↔ FirstOver limits begin k
  start_over k l = (
    λ e. subst (FirstOver limits begin) e (over_first limits begin (length table) (table_roles table) (λ z. omega (arith, sym e ∙ z, l))),
    first_over limits begin (length table) (table_roles table) k,
  )

  -- Where nothing is refused, the start is in order; and so is every state of the run.
  pub start_ordered : overfilled_at limits begin (length table) ≡ 0 → Ordered limits begin
  start_ordered e = record {
    owners = numbers_length 1 (length C.sessions) ∙ sym (threads_length C.sessions);
    counted = numbers_all (InCount (length C.sessions)) 1 (length C.sessions) (λ j l m. (l, omega (arith, m)));
    seats = none_first limits begin (length table) (table_roles table) e;
    distinct = λ r. tt;
    waiting = λ r k h. absurd (in-none k h);
    unlimited = λ r z. refl;
  }

  -- Where the start overfills a role, it is not in order.
  pub ordered_start : Ordered limits begin → overfilled_at limits begin (length table) ≡ 0
  ordered_start O = seats_first limits begin (length table) (table_roles table) O.seats
