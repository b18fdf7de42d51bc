-- The test of a state by its steps; and that it says exactly whether the state is in order.
use Prim.Native.Nat.{ℕ, zero, suc, ◌+◌, ◌*◌, ◌-◌, ◌≤◌, ◌<◌}
use mathlib.Core.Path.{◌≡◌, refl, sym, ap, ap₂, fun_ext, ◌∙◌, subst}
use mathlib.Core.Logic.{◌↔◌}
use mathlib.Core.Bool.{Bool, true, false, cond, not, ◌&&◌, ◌||◌, and-eq-true_iff, false≢true}
use mathlib.Core.List.{List, [], ◌∷◌}
use native.Mathlib.Omega.{arith}
use lib.Dec.{eqb, leb, ltb}
use lib.ListN.{length, get_or, take, drop, length-drop, drop_of_length-le, get_or-eq_default}
use lib.Seq.{length-take-le, drop-cons}
use native.Mathlib.Numerals.{add-one}
use borrow.Author.Tests.{eqb-true, eqb-false, eq-eqb, ne_eqb, leb-true, le-leb, lt-leb, ltb-true, ltb-false}
use Rattle.masks.specs.Mask.{has, with, held}
use Rattle.masks.proofs.Laws.{has_with}
use Rattle.format.specs.Contents.{Contents, in_count}
use Rattle.format.proofs.ContentsLaws.{in_count_lem, in_count_iff}
use Rattle.reading_exact.specs.Lists.{All}
use Rattle.reading_exact.specs.File.{InCount}
use Rattle.steps.specs.Records.{threads_in}
use Rattle.steps.specs.Beside.{thread_count}
use Rattle.steps.specs.Kept.{Sized}
use Rattle.steps.proofs.TableLaws.{threads_length}
use Rattle.running.specs.Ways.{stands_in}
use Rattle.seats.specs.Seats.{Limited, limited_of, seats_in, SeatedState, sits, count_to, in_line}
use Rattle.seats.specs.SeatOrder.{Distinct, Ordered}
use Rattle.seating.specs.SeatTables.{gathered, line_row, LineRows}
use Rattle.seating.proofs.SessionLaws.{gathered_has, gathered_held, counted_more}
use Rattle.seated.specs.SeatedTables.{lines_in, seated_in}
use Rattle.seated.proofs.WaitLaws.{gathered_front}
use Rattle.ordering.specs.Order.{all_counted, line_fits, role_fits, roles_fit, in_order}

-- the words from k on
pub counted_step : (w : List ℕ) (n k : ℕ) → k < length w → all_counted n (drop k w) ≡ (in_count n (get_or w k 0) && all_counted n (drop (k + 1) w))
unfolding all_counted
counted_step w n k lt = ap (all_counted n) (drop-cons w k 0 lt) ∙ ap (λ (x : ℕ). in_count n (get_or w k 0) && all_counted n (drop x w)) (sym (add-one k))

pub counted_end : (w : List ℕ) (n k : ℕ) → length w ≤ k → true ≡ all_counted n (drop k w)
unfolding all_counted
counted_end w n k le = sym (ap (all_counted n) (drop_of_length-le w le))

pub counted_iff : (n : ℕ) (l : List ℕ) → (all_counted n l ≡ true) ↔ All (InCount n) l
unfolding all_counted
counted_iff n [] = ((λ e. tt), λ u. refl)
counted_iff n (x ∷ l) =
    let both = and-eq-true_iff (in_count n x) (all_counted n l) in
    let rest = counted_iff n l in
    ((λ e. let (a, b) = both.0 e in (in_count_lem n x a, rest.0 b)), λ (a, b). both.1 ((in_count_iff n x).1 a, rest.1 b))

-- the first of a line from i on
module _ (w : List ℕ) (n i seen : ℕ) (lt : i < length w) where
  abbrev first : ℕ
  first = get_or w i 0

  line_step : line_fits n (has seen) (drop i w) ≡ ((in_count n first && not (has seen first)) && line_fits n (λ j. eqb j first || has seen j) (drop (i + 1) w))
  unfolding line_fits
  line_step = ap (line_fits n (has seen)) (drop-cons w i 0 lt) ∙ ap (λ (x : ℕ). (in_count n first && not (has seen first)) && line_fits n (λ j. eqb j first || has seen j) (drop x w)) (sym (add-one i))

  pub line_other : (in_count n first && not (has seen first)) ≡ false → false ≡ line_fits n (has seen) (drop i w)
  line_other e = sym (line_step ∙ ap (λ (b : Bool). b && line_fits n (λ j. eqb j first || has seen j) (drop (i + 1) w)) e)

  pub line_same : (in_count n first && not (has seen first)) ≡ true → line_fits n (has seen) (drop i w) ≡ line_fits n (has (with seen first)) (drop (i + 1) w)
  line_same e =
      let one : 1 ≤ first = (in_count_lem n first ((and-eq-true_iff (in_count n first) (not (has seen first))).0 e).0).0 in
      let more : has (with seen first) ≡ (λ j. eqb j first || has seen j) = fun_ext (λ j. has_with seen first j one) in
      line_step ∙ ap (λ (b : Bool). b && line_fits n (λ j. eqb j first || has seen j) (drop (i + 1) w)) e ∙ sym (ap (λ (q : ℕ → Bool). line_fits n q (drop (i + 1) w)) more)

pub line-end : (w : List ℕ) (n i seen : ℕ) → length w ≤ i → true ≡ line_fits n (has seen) (drop i w)
unfolding line_fits
line-end w n i seen le = sym (ap (line_fits n (has seen)) (drop_of_length-le w le))

or-false : (a b : Bool) → (a || b) ≡ false → (a ≡ false) × (b ≡ false)
or-false true b e = absurd (false≢true (sym e))
or-false false b e = (refl, e)

not_iff : (b : Bool) → (not b ≡ true) ↔ (b ≡ false)
not_iff true = ((λ e. absurd (false≢true e)), λ e. absurd (false≢true (sym e)))
not_iff false = ((λ e. refl), λ e. refl)

-- a line fits where each of it is counted and has no seat, and none stands in it twice
abbrev Fit : ℕ → (ℕ → Bool) → List ℕ → Type 0
Fit n q l = ((k : ℕ) → in_line k l ≡ true → InCount n k × (q k ≡ false)) × Distinct l

absent : (b : Bool) → (b ≡ true → ⊥) → b ≡ false
absent true never = absurd (never refl)
absent false never = refl

line_fits_iff : (n : ℕ) (q : ℕ → Bool) (l : List ℕ) → (line_fits n q l ≡ true) ↔ Fit n q l
unfolding line_fits stands_in
line_fits_iff n q [] = ((λ e. ((λ k e. absurd (false≢true e)), tt)), λ u. refl)
line_fits_iff n q (x ∷ l) = let rest = line_fits_iff n (λ j. eqb j x || q j) l in (to rest.0, from rest.1)
  where
    whole : ((in_count n x && not (q x)) && line_fits n (λ j. eqb j x || q j) l ≡ true) ↔ ((in_count n x && not (q x) ≡ true) × (line_fits n (λ j. eqb j x || q j) l ≡ true))
    whole = and-eq-true_iff (in_count n x && not (q x)) (line_fits n (λ j. eqb j x || q j) l)

    here : (in_count n x && not (q x) ≡ true) ↔ ((in_count n x ≡ true) × (not (q x) ≡ true))
    here = and-eq-true_iff (in_count n x) (not (q x))

    to : (line_fits n (λ j. eqb j x || q j) l ≡ true → Fit n (λ j. eqb j x || q j) l) → ((in_count n x && not (q x)) && line_fits n (λ j. eqb j x || q j) l) ≡ true → Fit n q (x ∷ l)
    to ih e =
        let (a, b) = whole.0 e in
        let (c, d) = here.0 a in
        let (each, distinct) = ih b in
        let alone : in_line x l ≡ false = absent (in_line x l) (λ t. false≢true (sym (or-false (eqb x x) (q x) (each x t).1).0 ∙ eq-eqb x x refl)) in
        ((λ k t. member k (eqb x k) refl t each c d), (alone, distinct))
      where
        member : (k : ℕ) (b : Bool) → eqb x k ≡ b → (eqb x k || in_line k l) ≡ true → ((j : ℕ) → in_line j l ≡ true → InCount n j × ((eqb j x || q j) ≡ false))
            → in_count n x ≡ true → not (q x) ≡ true → InCount n k × (q k ≡ false)
        member k true s t each c d = subst (λ (y : ℕ). InCount n y × (q y ≡ false)) (eqb-true x k s) (in_count_lem n x c, (not_iff (q x)).0 d)
        member k false s t each c d =
            let (counted, none) = each k (sym (ap (λ (y : Bool). y || in_line k l) s) ∙ t) in
            (counted, (or-false (eqb k x) (q k) none).1)

    from : (Fit n (λ j. eqb j x || q j) l → line_fits n (λ j. eqb j x || q j) l ≡ true) → Fit n q (x ∷ l) → ((in_count n x && not (q x)) && line_fits n (λ j. eqb j x || q j) l) ≡ true
    from ih (each, (alone, distinct)) =
        let (counted, none) = each x (ap (λ (y : Bool). y || in_line x l) (eq-eqb x x refl)) in
        whole.1 (here.1 ((in_count_iff n x).1 counted, (not_iff (q x)).1 none), ih (later, distinct))
      where
        or_right : (b : Bool) → (b || true) ≡ true
        or_right true = refl
        or_right false = refl

        later : (k : ℕ) → in_line k l ≡ true → InCount n k × ((eqb k x || q k) ≡ false)
        later k t =
            let (counted, none) = each k (ap (λ (y : Bool). eqb x k || y) t ∙ or_right (eqb x k)) in
            let other : eqb k x ≡ false = ne_eqb k x (λ e. false≢true (sym alone ∙ ap (λ (y : ℕ). in_line y l) (sym e) ∙ t)) in
            (counted, ap₂ (λ (a b : Bool). a || b) other none)

-- a role's test in the tables
module _ (w b os ls : List ℕ) (R : LineRows ls) (n : ℕ) (few : n ≤ 32) (C : All (InCount n) (take (thread_count b) os)) (limit role row : ℕ) (is : row ≡ role - 1) (one : 1 ≤ role) (most : role ≤ 16) where
  abbrev S : SeatedState
  S = seated_in w b os ls

  abbrev mask : ℕ
  mask = gathered (threads_in w 0 (thread_count b)) os role 0

  line-is : lines_in ls role ≡ line_row ls row
  line-is = rw ((in_count_iff 16 role).1 (one, most)) (ap (line_row ls) (sym is))

  front : mask ≡ gathered (threads_in w 0 (thread_count b)) (take (thread_count b) os) role 0
  front =
      sym (gathered_front (threads_in w 0 (thread_count b)) os role 0)
      ∙ ap (λ (x : ℕ). gathered (threads_in w 0 (thread_count b)) (take x os) role 0) (threads_length w 0 (thread_count b))

  has_is : has mask ≡ (λ k. sits S k role)
  has_is =
      ap has front
      ∙ fun_ext (λ k. gathered_has (threads_in w 0 (thread_count b)) (take (thread_count b) os) role k (counted_more (take (thread_count b) os) n 32 few C))

  held_is : held 32 mask ≡ count_to (λ k. sits S k role) n
  held_is = ap (held 32) front ∙ gathered_held (threads_in w 0 (thread_count b)) (take (thread_count b) os) n role few C

  line_long : length (lines_in ls role) ≡ get_or ls (33 * row) 0
  line_long =
      let low : row < 16 = omega (arith, is, one, most) in
      ap length line-is ∙ length-take-le (get_or ls (33 * row) 0) (drop (33 * row + 1) ls) (omega (arith, length-drop (33 * row + 1) ls, R.words, R.few row low, low))

  pub no_limit : limit ≡ 0 → eqb (get_or ls (33 * row) 0) 0 ≡ role_fits n S limit role
  unfolding role_fits
  no_limit e = rw (eq-eqb limit 0 e) (sym (ap (λ (x : ℕ). eqb x 0) line_long))

  pub too_many : (limit ≡ 0 → ⊥) → limit < held 32 mask → false ≡ role_fits n S limit role
  unfolding role_fits
  too_many some lt = rw (ne_eqb limit 0 some, lt-leb (count_to (λ k. sits S k role) n) limit (omega (arith, lt, held_is)))

  pub by_line : (limit ≡ 0 → ⊥) → held 32 mask ≤ limit → line_fits n (has mask) (line_row ls row) ≡ role_fits n S limit role
  unfolding role_fits
  by_line some le =
      rw (ne_eqb limit 0 some, le-leb (count_to (λ k. sits S k role) n) limit (omega (arith, le, held_is)))
      (ap₂ (λ (q : ℕ → Bool) (l : List ℕ). line_fits n q l) has_is (sym line-is))

-- the roles, from the last down
roles_step : (n : ℕ) (seats : ℕ → ℕ) (S : SeatedState) (r : ℕ) → 1 ≤ r → roles_fit n seats S r ≡ (role_fits n S (seats r) r && roles_fit n seats S (r - 1))
unfolding roles_fit
roles_step n seats S zero one = let none : ⊥ = omega (arith, one) in absurd none
roles_step n seats S (suc r) one = let less : r ≡ suc r - 1 = omega arith in ap (λ (x : ℕ). role_fits n S (seats (suc r)) (suc r) && roles_fit n seats S x) less

seats_is : (table : List ℕ) (r : ℕ) → 1 ≤ r → get_or table (r - 1) 0 ≡ seats_in table r
seats_is table zero one = let none : ⊥ = omega (arith, one) in absurd none
seats_is table (suc r) one = let less : suc r - 1 ≡ r = omega arith in ap (λ (x : ℕ). get_or table x 0) less

module _ (table w b os ls : List ℕ) (Z : Sized w b) (long : length os ≡ 64) (n : ℕ) where
  abbrev held_state : SeatedState
  held_state = seated_in w b os ls

  by_tests : (x y : Bool) → all_counted n (take (thread_count b) os) ≡ x → roles_fit n (seats_in table) held_state 16 ≡ y → (x && y) ≡ in_order n (seats_in table) held_state
  unfolding in_order
  by_tests x y ex ey =
      let few : thread_count b ≤ 64 = Z.threads in
      let same : length (take (thread_count b) os) ≡ length (threads_in w 0 (thread_count b)) =
      length-take-le (thread_count b) os (omega (arith, long, few)) ∙ sym (threads_length w 0 (thread_count b)) in
      sym (ap (λ (z : Bool). z && (all_counted n (take (thread_count b) os) && roles_fit n (seats_in table) held_state 16)) (eq-eqb _ _ same)
      ∙ ap₂ (λ (p q : Bool). p && q) ex ey)

  pub not_counted : all_counted n (take (thread_count b) os) ≡ false → false ≡ in_order n (seats_in table) held_state
  not_counted e = by_tests false (roles_fit n (seats_in table) held_state 16) e refl

  module _ (r limit : ℕ) (one : 1 ≤ r) (is : limit ≡ get_or table (r - 1) 0) (fits : Bool) (its : fits ≡ role_fits n held_state limit r) where
    step : roles_fit n (seats_in table) held_state r ≡ (fits && roles_fit n (seats_in table) held_state (r - 1))
    step =
        roles_step n (seats_in table) held_state r one
        ∙ ap (λ (z : Bool). z && roles_fit n (seats_in table) held_state (r - 1)) (sym (its ∙ ap (λ (x : ℕ). role_fits n held_state x r) (is ∙ seats_is table r one)))

    pub role_other : all_counted n (take (thread_count b) os) ≡ true → roles_fit n (seats_in table) held_state 16 ≡ roles_fit n (seats_in table) held_state r → fits ≡ false
        → false ≡ in_order n (seats_in table) held_state
    role_other counted e no-fit = by_tests true false counted (e ∙ step ∙ ap (λ (z : Bool). z && roles_fit n (seats_in table) held_state (r - 1)) no-fit)

    pub role_same : roles_fit n (seats_in table) held_state 16 ≡ roles_fit n (seats_in table) held_state r → fits ≡ true
        → roles_fit n (seats_in table) held_state 16 ≡ roles_fit n (seats_in table) held_state (r - 1)
    role_same e fit = e ∙ step ∙ ap (λ (z : Bool). z && roles_fit n (seats_in table) held_state (r - 1)) fit

  pub all_fit : (r : ℕ) → r ≡ 0 → all_counted n (take (thread_count b) os) ≡ true → roles_fit n (seats_in table) held_state 16 ≡ roles_fit n (seats_in table) held_state r
      → true ≡ in_order n (seats_in table) held_state
  unfolding roles_fit
  all_fit r e counted same = by_tests true true counted (same ∙ ap (roles_fit n (seats_in table) held_state) e)

-- what is in order about one role
abbrev RoleOrdered : ℕ → SeatedState → ℕ → ℕ → Type 0
RoleOrdered n S limit r = (1 ≤ limit → count_to (λ k. sits S k r) n ≤ limit) × Fit n (λ k. sits S k r) (S.lines r) × (limit ≡ 0 → S.lines r ≡ [])

empty_iff : (l : List ℕ) → (eqb (length l) 0 ≡ true) ↔ (l ≡ [])
empty_iff [] = ((λ e. refl), λ e. refl)
empty_iff (x ∷ l) = ((λ e. let none : ⊥ = omega (arith, eqb-true (length (x ∷ l)) 0 e) in absurd none), λ e. let none : ⊥ = omega (arith, ap length e) in absurd none)

role_fits_iff : (n : ℕ) (S : SeatedState) (limit r : ℕ) → (role_fits n S limit r ≡ true) ↔ RoleOrdered n S limit r
unfolding role_fits stands_in
role_fits_iff n S limit r = go (eqb limit 0) refl
  where
    go : (b : Bool) → eqb limit 0 ≡ b → (cond b (eqb (length (S.lines r)) 0) (leb (count_to (λ k. sits S k r) n) limit && line_fits n (λ k. sits S k r) (S.lines r)) ≡ true) ↔ RoleOrdered n S limit r
    go true e =
        let none : limit ≡ 0 = eqb-true limit 0 e in (
          (λ t. let l : S.lines r ≡ [] = (empty_iff (S.lines r)).0 t in (
            (λ some. let no_way : ⊥ = omega (arith, some, none) in absurd no_way),
            subst (λ (x : List ℕ). Fit n (λ k. sits S k r) x) (sym l) ((λ k s. absurd (false≢true s)), tt),
            λ z. l,
          )),
          λ (a, b, c). (empty_iff (S.lines r)).1 (c none),
        )
    go false e =
        let some : limit ≡ 0 → ⊥ = eqb-false limit 0 e in
        let both = and-eq-true_iff (leb (count_to (λ k. sits S k r) n) limit) (line_fits n (λ k. sits S k r) (S.lines r)) in
        let line = line_fits_iff n (λ k. sits S k r) (S.lines r) in (
          (λ t. let (a, b) = both.0 t in ((λ one. leb-true _ limit a), line.0 b, λ z. absurd (some z))),
          λ (a, b, c). both.1 (le-leb _ limit (a (omega (arith, some))), line.1 b),
        )

roles_fit_iff : (n : ℕ) (seats : ℕ → ℕ) (S : SeatedState) (m : ℕ) → (roles_fit n seats S m ≡ true) ↔ ((r : ℕ) → 1 ≤ r → r ≤ m → RoleOrdered n S (seats r) r)
unfolding roles_fit
roles_fit_iff n seats S zero = ((λ e r one le. let none : ⊥ = omega (arith, one, le) in absurd none), λ u. refl)
roles_fit_iff n seats S (suc m) =
    let both = and-eq-true_iff (role_fits n S (seats (suc m)) (suc m)) (roles_fit n seats S m) in
    let rest = roles_fit_iff n seats S m in
    let last = role_fits_iff n S (seats (suc m)) (suc m) in (
      (λ e r one le. let (a, b) = both.0 e in pick r (eqb r (suc m)) refl one le (last.0 a) (rest.0 b)),
      λ f. both.1 (last.1 (f (suc m) (omega arith) (omega arith)), rest.1 (λ r one le. f r one (omega (arith, le)))),
    )
  where
    pick : (r : ℕ) (b : Bool) → eqb r (suc m) ≡ b → 1 ≤ r → r ≤ suc m → RoleOrdered n S (seats (suc m)) (suc m) → ((r : ℕ) → 1 ≤ r → r ≤ m → RoleOrdered n S (seats r) r)
        → RoleOrdered n S (seats r) r
    pick r true e one le here lower = subst (λ (x : ℕ). RoleOrdered n S (seats x) x) (sym (eqb-true r (suc m) e)) here
    pick r false e one le here lower = lower r one (omega (arith, le, eqb-false r (suc m) e))

-- A state with seats and lines of 16 roles alone is in order exactly if the test says so.
pub in_order_iff : (L : Limited) (S : SeatedState) → ((r : ℕ) → in_count 16 r ≡ false → (L.seats r ≡ 0) × (S.lines r ≡ [])) → (in_order L.sessions L.seats S ≡ true) ↔ Ordered L S
unfolding in_order stands_in
in_order_iff L S others = (to, from)
  where
    n : ℕ
    n = L.sessions

    whole : (eqb (length S.owners) (length S.state.threads) && (all_counted n S.owners && roles_fit n L.seats S 16) ≡ true)
        ↔ ((eqb (length S.owners) (length S.state.threads) ≡ true) × (all_counted n S.owners && roles_fit n L.seats S 16 ≡ true))
    whole = and-eq-true_iff (eqb (length S.owners) (length S.state.threads)) (all_counted n S.owners && roles_fit n L.seats S 16)

    parts : (all_counted n S.owners && roles_fit n L.seats S 16 ≡ true) ↔ ((all_counted n S.owners ≡ true) × (roles_fit n L.seats S 16 ≡ true))
    parts = and-eq-true_iff (all_counted n S.owners) (roles_fit n L.seats S 16)

    role : ((r : ℕ) → 1 ≤ r → r ≤ 16 → RoleOrdered n S (L.seats r) r) → (r : ℕ) (b : Bool) → in_count 16 r ≡ b → RoleOrdered n S (L.seats r) r
    role f r true e = let (one, most) = in_count_lem 16 r e in f r one most
    role f r false e =
        let (none, empty) = others r e in (
          (λ one. let no_way : ⊥ = omega (arith, one, none) in absurd no_way),
          subst (λ (x : List ℕ). Fit n (λ k. sits S k r) x) (sym empty) ((λ k s. absurd (false≢true s)), tt),
          λ z. empty,
        )

    to : eqb (length S.owners) (length S.state.threads) && (all_counted n S.owners && roles_fit n L.seats S 16) ≡ true → Ordered L S
    to e =
        let (a, b) = whole.0 e in
        let (c, d) = parts.0 b in
        let each : (r : ℕ) → RoleOrdered n S (L.seats r) r = λ r. role ((roles_fit_iff n L.seats S 16).0 d) r (in_count 16 r) refl in
        record {
          owners = eqb-true _ _ a;
          counted = (counted_iff n S.owners).0 c;
          seats = λ r. (each r).0;
          distinct = λ r. (each r).1.1;
          waiting = λ r. (each r).1.0;
          unlimited = λ r. (each r).2;
        }

    from : Ordered L S → eqb (length S.owners) (length S.state.threads) && (all_counted n S.owners && roles_fit n L.seats S 16) ≡ true
    from O = whole.1 (
      eq-eqb _ _ O.owners,
      parts.1 (
        (counted_iff n S.owners).1 O.counted,
        (roles_fit_iff n L.seats S 16).1 (λ r one most. (O.seats r, (O.waiting r, O.distinct r), O.unlimited r)),
      ),
    )

pub past_seats : (l : List ℕ) (r : ℕ) → length l ≤ 16 → in_count 16 r ≡ false → ◌≡◌ {A = ℕ} (seats_in l r) 0
past_seats l zero few e = refl
past_seats l (suc r) few e = get_or-eq_default l 0 (past (ltb r 16) refl)
  where
    past : (b : Bool) → ltb r 16 ≡ b → length l ≤ r
    past true lt = absurd (false≢true (sym e ∙ (in_count_iff 16 (suc r)).1 (omega arith, omega (arith, ltb-true r 16 lt))))
    past false le = omega (arith, ltb-false r 16 le, few)

-- So it is of a state that the tables hold.
pub tables_ordered : (C : Contents) (table : List ℕ) → length table ≤ 16 → (w b os ls : List ℕ)
    → (in_order (length C.sessions) (seats_in table) (seated_in w b os ls) ≡ true) ↔ Ordered (limited_of C table) (seated_in w b os ls)
tables_ordered C table few w b os ls = in_order_iff (limited_of C table) (seated_in w b os ls) (λ r e. (past_seats table r few e, rw e))
