-- A computed visit is a visit of the relation, and there is no other.
use Prim.Native.Nat.{ℕ, suc, ◌-◌, ◌≤◌, ◌<◌}
use mathlib.Core.Path.{◌≡◌, refl, sym, ap, ◌∙◌, subst}
use mathlib.Core.Logic.{◌⊎◌, inl, inr}
use mathlib.Core.Bool.{Bool, true, false, false≢true}
use mathlib.Core.List.{List, [], ◌∷◌, ◌++◌}
use native.Mathlib.Omega.{arith}
use lib.Dec.{ltb}
use lib.ListN.{length, get_or, set, take, drop, length-set}
use borrow.Author.Tests.{ltb-true, ltb-false, lt-ltb, le-ltb}
use Rattle.rounds.specs.Round.{Taken, refuses, waits, steps, Visited, nothing_done, waited, alone, met, is_step, without_item, going}
use Rattle.rounds.specs.Rounds.{In, RoundState, Here, relabelled, Visits, lone, wait, meet, nothing}
use Rattle.rounds.proofs.PlaceLaws.{length_without_item}
use Rattle.rounds.proofs.Laws.{Lawful}
use Rattle.rounds.proofs.RoundStates.{Keeping, inside, injective, unmarked, not_marked, skip, mark, longer, shorter}
use Rattle.rounds.proofs.Searching.{View, steps_alone, waits_alone, meets_first, does_nothing}

abbrev Kind : {S : Type 0} → Taken S → ℕ
Kind (refuses n) = 0
Kind (waits s) = 1
Kind (steps s) = 2

step_is : {S : Type 0} (o : Taken S) → is_step o ≡ false → (s : S) → o ≡ steps s → ⊥
step_is o f s e = false≢true (sym f ∙ ap is_step e)

module _ {S : Type 0} (count : S → ℕ) (choose : S → ℕ → ℕ → Taken S) (Step : S → ℕ → ℕ → S → Type 0) (Wait : S → ℕ → S → Type 0)
    (W : Lawful count choose Step Wait) where
  -- the marks of a computed round stand so beside the labels
  abbrev pub Keeps : ℕ → ℕ → List Bool → ℕ → RoundState S → Type 0
  Keeps k a ms v g = Keeping k a ms v g.labels g.moved × (length ms ≤ count g.state)

  -- what a visit leaves
  abbrev pub stood : ℕ → RoundState S → ℕ → Visited S → RoundState S
  stood v g a nothing_done = g
  stood v g a (waited s') = record { state = s'; labels = g.labels; moved = g.moved }
  stood v g a (alone s') = record { state = s'; labels = relabelled (count g.state) (count s') (suc a) g.labels; moved = v ∷ g.moved }
  stood v g a (met p s') = record { state = s'; labels = g.labels; moved = v ∷ get_or g.labels (p - 1) 0 ∷ g.moved }

  pub stood_state : (v : ℕ) (g : RoundState S) (a : ℕ) (ms : List Bool) (o : Visited S) → (stood v g a o).state ≡ (going count choose g.state a ms o).state
  stood_state v g a ms nothing_done = refl
  stood_state v g a ms (waited s') = refl
  stood_state v g a ms (alone s') = refl
  stood_state v g a ms (met p s') = refl

  module _ (k a : ℕ) (ms : List Bool) (v : ℕ) (g : RoundState S) (K : Keeping (suc k) a ms v g.labels g.moved) (few : length ms ≤ count g.state) where
    abbrev s : S
    s = g.state

    in-marks : a < length ms
    in-marks = omega (arith, K.sum)

    label : get_or g.labels a 0 ≡ v
    label = omega (arith, K.unvisited a (omega arith) in-marks)

    -- the thread that had the number v stands in place a
    pub here : Here g v (suc a)
    here = let e : a ≡ suc a - 1 = omega arith in (K.number, omega arith, ap (λ (x : ℕ). get_or g.labels x 0) (sym e) ∙ label)

    pub only : (i : ℕ) → Here g v i → i ≡ suc a
    only i (l, m, e) =
        let h : i - 1 < length ms = inside K (i - 1) v l e in
        let same : i - 1 ≡ a = injective K (i - 1) a h in-marks (e ∙ sym label) in
        omega (arith, same, m)

    halted : (n i : ℕ) → choose s (suc a) 0 ≡ refuses n → (s' : S) → Step s (suc a) 0 s' → ⊥
    halted n i e s' st = let z : ◌≡◌ {A = ℕ} 0 2 = ap Kind (sym e ∙ (W.stepped s (suc a) 0 s').1 st) in let never : ⊥ = omega (arith, z) in never

    unwaited : (n : ℕ) → choose s (suc a) 0 ≡ refuses n → (s' : S) → Wait s (suc a) s' → ⊥
    unwaited n e s' st = let z : ◌≡◌ {A = ℕ} 0 1 = ap Kind (sym e ∙ (W.waiting s (suc a) s').1 st) in let never : ⊥ = omega (arith, z) in never

    not_both : (s' s'' : S) → choose s (suc a) 0 ≡ waits s' → Step s (suc a) 0 s'' → ⊥
    not_both s' s'' e st = let z : ◌≡◌ {A = ℕ} 1 2 = ap Kind (sym e ∙ (W.stepped s (suc a) 0 s'').1 st) in let never : ⊥ = omega (arith, z) in never

    -- a receiver that is there from the start and has not moved is one whose mark is false
    no_step : (q w : ℕ) → (1 ≤ q → q - 1 < length ms → get_or ms (q - 1) false ≡ false → is_step (choose s (suc a) q) ≡ false)
        → Here g w q → (In w g.moved → ⊥) → (s' : S) → Step s (suc a) q s' → ⊥
    no_step q w f (lw, lq, e) out s' st =
        let h : q - 1 < length ms = inside K (q - 1) w lw e in
        let m : get_or ms (q - 1) false ≡ false = not_marked K (q - 1) h (λ i. out (subst (λ (x : ℕ). In x g.moved) e i)) in
        step_is (choose s (suc a) q) (f lq h m) s' ((W.stepped s (suc a) q s').1 st)

    pub related : (o : Visited S) → View count choose s a ms o → Visits count Step Wait v g (going count choose s a ms o).words (stood v g a o)
    related o (steps_alone s' e) = lone (suc a) s' here ((W.stepped s (suc a) 0 s').0 e)
    related o (waits_alone s' e) = wait (suc a) s' here ((W.waiting s (suc a) s').0 e)
    related o (meets_first n p s' e l h m c f) =
        meet (suc a) p (get_or g.labels (p - 1) 0) s' here (K.from_start (p - 1) h, l, refl) (unmarked K (p - 1) h m) ((W.stepped s (suc a) p s').0 c)
        (λ q w s'' d at out st. no_step q w (λ lq hq mq. f q lq d mq) at out s'' st)
    related o (does_nothing n e f) =
        nothing (suc a) here (λ s' st. halted n 0 e s' st) (λ s' st. unwaited n e s' st)
        (λ q w s' at out st. no_step q w (λ lq hq mq. f q lq hq mq) at out s' st)

    one-step : (p : ℕ) (s' s'' : S) → choose s (suc a) p ≡ steps s'' → Step s (suc a) p s' → s' ≡ s''
    one-step p s' s'' e st = cc (e, (W.stepped s (suc a) p s').1 st)

    one_wait : (s' s'' : S) → choose s (suc a) 0 ≡ waits s'' → Wait s (suc a) s' → s' ≡ s''
    one_wait s' s'' e st = cc (e, (W.waiting s (suc a) s').1 st)

    abbrev Same : List ℕ → RoundState S → Visited S → Type 0
    Same ws g' o = (ws ≡ (going count choose s a ms o).words) × (g' ≡ stood v g a o)

    -- by numbers of the thread itself
    lone_only : (s' : S) → Step s (suc a) 0 s' → (o : Visited S) → View count choose s a ms o → Same (suc a ∷ 0 ∷ []) (stood v g a (alone s')) o
    lone_only s' st o (steps_alone s'' e) = (refl, ap (λ (x : S). stood v g a (alone x)) (one-step 0 s' s'' e st))
    lone_only s' st o (waits_alone s'' e) = absurd (not_both s'' s' e st)
    lone_only s' st o (meets_first n p s'' e l h m c f) = absurd (halted n 0 e s' st)
    lone_only s' st o (does_nothing n e f) = absurd (halted n 0 e s' st)

    wait_only : (s' : S) → Wait s (suc a) s' → (o : Visited S) → View count choose s a ms o → Same (suc a ∷ 0 ∷ []) (stood v g a (waited s')) o
    wait_only s' st o (steps_alone s'' e) = absurd (not_both s' s'' ((W.waiting s (suc a) s').1 st) ((W.stepped s (suc a) 0 s'').0 e))
    wait_only s' st o (waits_alone s'' e) = (refl, ap (λ (x : S). stood v g a (waited x)) (one_wait s' s'' e st))
    wait_only s' st o (meets_first n p s'' e l h m c f) = absurd (unwaited n e s' st)
    wait_only s' st o (does_nothing n e f) = absurd (unwaited n e s' st)

    abbrev Least : ℕ → Type 0
    Least p = (q w : ℕ) (s'' : S) → q < p → Here g w q → (In w g.moved → ⊥) → Step s (suc a) q s'' → ⊥

    meet_only : (p u : ℕ) (s' : S) → Here g u p → (In u g.moved → ⊥) → Step s (suc a) p s' → Least p → (o : Visited S) → View count choose s a ms o
        → Same (suc a ∷ p ∷ []) (record { state = s'; labels = g.labels; moved = v ∷ u ∷ g.moved }) o
    meet_only p u s' at out st least o (steps_alone s'' e) = absurd (W.apart s (suc a) p s' s'' at.1 st (inl ((W.stepped s (suc a) 0 s'').0 e)))
    meet_only p u s' at out st least o (waits_alone s'' e) = absurd (W.apart s (suc a) p s' s'' at.1 st (inr ((W.waiting s (suc a) s'').0 e)))
    meet_only p u s' at out st least o (does_nothing n e f) = absurd (no_step p u (λ lq hq mq. f p lq hq mq) at out s' st)
    meet_only p u s' at out st least o (meets_first n r s'' e l h m c f) = go (ltb p r) (ltb r p) refl refl
      where
        equal : p ≡ r → Same (suc a ∷ p ∷ []) (record { state = s'; labels = g.labels; moved = v ∷ u ∷ g.moved }) (met r s'')
        equal z =
            let d : s' ≡ s'' = one-step r s' s'' c (subst (λ (x : ℕ). Step s (suc a) x s') z st) in
            let b : u ≡ get_or g.labels (r - 1) 0 = sym at.2 ∙ ap (λ (x : ℕ). get_or g.labels (x - 1) 0) z in (
              ap (λ (x : ℕ). suc a ∷ x ∷ []) z,
              ap (λ (x : S). record { state = x; labels = g.labels; moved = v ∷ u ∷ g.moved }) d
                  ∙ ap (λ (x : ℕ). record { state = s''; labels = g.labels; moved = v ∷ x ∷ g.moved }) b,
            )

        go : (b d : Bool) → ltb p r ≡ b → ltb r p ≡ d → Same (suc a ∷ p ∷ []) (record { state = s'; labels = g.labels; moved = v ∷ u ∷ g.moved }) (met r s'')
        go true d x y = absurd (no_step p u (λ lq hq mq. f p lq (ltb-true p r x) mq) at out s' st)
        go false true x y =
            absurd (least r (get_or g.labels (r - 1) 0) s'' (ltb-true r p y) (K.from_start (r - 1) h, l, refl) (unmarked K (r - 1) h m) ((W.stepped s (suc a) r s'').0 c))
        go false false x y = let j : r ≤ p = ltb-false p r x in let j' : p ≤ r = ltb-false r p y in equal (omega (arith, j, j'))

    nothing_done_only : ((s' : S) → Step s (suc a) 0 s' → ⊥) → ((s' : S) → Wait s (suc a) s' → ⊥)
        → ((q w : ℕ) (s' : S) → Here g w q → (In w g.moved → ⊥) → Step s (suc a) q s' → ⊥) → (o : Visited S) → View count choose s a ms o → Same [] g o
    nothing_done_only x y z o (steps_alone s'' e) = absurd (x s'' ((W.stepped s (suc a) 0 s'').0 e))
    nothing_done_only x y z o (waits_alone s'' e) = absurd (y s'' ((W.waiting s (suc a) s'').0 e))
    nothing_done_only x y z o (meets_first n r s'' e l h m c f) =
        absurd (z r (get_or g.labels (r - 1) 0) s'' (K.from_start (r - 1) h, l, refl) (unmarked K (r - 1) h m) ((W.stepped s (suc a) r s'').0 c))
    nothing_done_only x y z o (does_nothing n e f) = (refl, refl)

    pub unrivalled : (o : Visited S) → View count choose s a ms o → (ws : List ℕ) (g' : RoundState S) → Visits count Step Wait v g ws g' → Same ws g' o
    unrivalled o view ws g' (lone i s' h st) =
        subst (λ (x : ℕ). Step s x 0 s' → Same (x ∷ 0 ∷ []) (record { state = s'; labels = relabelled (count s) (count s') x g.labels; moved = v ∷ g.moved }) o)
        (sym (only i h)) (λ d. lone_only s' d o view) st
    unrivalled o view ws g' (wait i s' at st) =
        subst (λ (x : ℕ). Wait s x s' → Same (x ∷ 0 ∷ []) (stood v g a (waited s')) o) (sym (only i at)) (λ d. wait_only s' d o view) st
    unrivalled o view ws g' (meet i p u s' at there out st least) =
        subst (λ (x : ℕ). Step s x p s' → ((q w : ℕ) (s'' : S) → q < p → Here g w q → (In w g.moved → ⊥) → Step s x q s'' → ⊥)
        → Same (x ∷ p ∷ []) (record { state = s'; labels = g.labels; moved = v ∷ u ∷ g.moved }) o) (sym (only i at)) (λ d f. meet_only p u s' there out d f o view) st least
    unrivalled o view ws g' (nothing i at x y z) =
        subst (λ (j : ℕ). ((s' : S) → Step s j 0 s' → ⊥) → ((s' : S) → Wait s j s' → ⊥)
        → ((q w : ℕ) (s' : S) → Here g w q → (In w g.moved → ⊥) → Step s j q s' → ⊥) → Same [] g o) (sym (only i at)) (λ x y z. nothing_done_only x y z o view) x y z

    -- marks and labels after the visit
    abbrev After : Visited S → Type 0
    After o = Keeps k (going count choose s a ms o).place (going count choose s a ms o).marks (suc v) (stood v g a o)

    lone_keeps : (s' : S) → (count s' ≡ count s) ⊎ ((count s' ≡ suc (count s)) ⊎ (suc (count s') ≡ count s)) → After (alone s')
    lone_keeps s' (inl e) =
        let x : ltb (count s') (count s) ≡ false = le-ltb (count s') (count s) (omega (arith, e)) in
        let y : ltb (count s) (count s') ≡ false = le-ltb (count s) (count s') (omega (arith, e)) in
        let n : length (set ms a true) ≡ length ms = length-set ms a true in
        rw (x, y) ((skip (mark K a v in-marks label) k refl, omega (arith, n, e, few)))
    lone_keeps s' (inr (inl e)) =
        let x : ltb (count s') (count s) ≡ false = le-ltb (count s') (count s) (omega (arith, e)) in
        let y : ltb (count s) (count s') ≡ true = lt-ltb (count s) (count s') (omega (arith, e)) in
        let n : length (set ms a true) ≡ length ms = length-set ms a true in
        rw (x, y) ((skip (longer (mark K a v in-marks label)) k refl, omega (arith, n, e, few)))
    lone_keeps s' (inr (inr e)) =
        let x : ltb (count s') (count s) ≡ true = lt-ltb (count s') (count s) (omega (arith, e)) in
        let n : suc (length (without_item ms a)) ≡ length ms = length_without_item ms a in-marks in
        let z : a ≡ suc a - 1 = omega arith in
        let h : Keeping k a (without_item ms a) (suc v) (take (suc a - 1) g.labels ++ drop (suc a) g.labels) (v ∷ g.moved) =
        subst (λ (y : ℕ). Keeping k a (without_item ms a) (suc v) (take y g.labels ++ drop (suc a) g.labels) (v ∷ g.moved)) z (shorter K k refl) in
        rw x ((h, omega (arith, n, e, few)))

    pub keeps : (o : Visited S) → View count choose s a ms o → After o
    keeps o (steps_alone s' e) = lone_keeps s' (W.lone_count s (suc a) s' ((W.stepped s (suc a) 0 s').0 e))
    keeps o (waits_alone s' e) = let c : count s' ≡ count s = W.wait_count s (suc a) s' ((W.waiting s (suc a) s').0 e) in (skip K k refl, omega (arith, c, few))
    keeps o (meets_first n p s' e l h m c f) =
        let d : count s' ≡ count s = W.meet_count s (suc a) p s' l ((W.stepped s (suc a) p s').0 c) in
        let n : length (set ms (p - 1) true) ≡ length ms = length-set ms (p - 1) true in
        let n' : length (set (set ms (p - 1) true) a true) ≡ length (set ms (p - 1) true) = length-set (set ms (p - 1) true) a true in
        let K' : Keeping (suc k) a (set ms (p - 1) true) v g.labels (get_or g.labels (p - 1) 0 ∷ g.moved) = mark K (p - 1) (get_or g.labels (p - 1) 0) h refl in
        (skip (mark K' a v (omega (arith, n, in-marks)) label) k refl, omega (arith, n, n', d, few))
    keeps o (does_nothing n e f) = (skip K k refl, few)
