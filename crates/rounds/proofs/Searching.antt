-- What the search for a receiver finds, and what a visit comes to.
use Prim.Native.Nat.{ℕ, zero, suc, ◌+◌, ◌-◌, ◌≤◌, ◌<◌}
use mathlib.Core.Path.{◌≡◌, refl, sym, ap, ◌∙◌, subst}
use mathlib.Core.Bool.{Bool, true, false, cond, not, ◌&&◌, false≢true}
use mathlib.Core.List.{List, [], ◌∷◌}
use native.Mathlib.Omega.{arith}
use native.Mathlib.Nat.{le_of_suc-le-suc, not-suc-le-zero}
use lib.ListN.{length, get_or}
use borrow.Author.Tests.{ne_eqb}
use Rattle.rounds.specs.Round.{Taken, refuses, waits, steps, Visited, nothing_done, waited, alone, met, is_step, lone_else, met_by, receiver_for, meeting_with, visited}

free_test : (m b : Bool) → (not m && b) ≡ true → (m ≡ false) × (b ≡ true)
free_test true b e = absurd (false≢true e)
free_test false b e = (refl, e)

bound_test : (m b : Bool) → (not m && b) ≡ false → m ≡ false → b ≡ false
bound_test true b e z = absurd (false≢true (sym z))
bound_test false b e z = e

module _ {S : Type 0} (count : S → ℕ) (choose : S → ℕ → ℕ → Taken S) where
  abbrev Passed : S → ℕ → ℕ → Type 0
  Passed s i q = is_step (choose s i q) ≡ false

  -- by places from 0, counted from the number j on
  data Found (s : S) (i j : ℕ) (ms : List Bool) (r : ℕ) : Type 0 where
    none : r ≡ 0 → ((x : ℕ) → x < length ms → get_or ms x false ≡ false → Passed s i (j + x)) → Found s i j ms r
    some : (x : ℕ) → r ≡ j + x → x < length ms → get_or ms x false ≡ false → is_step (choose s i (j + x)) ≡ true
        → ((y : ℕ) → y < x → get_or ms y false ≡ false → Passed s i (j + y)) → Found s i j ms r

  upto : (s : S) (i j : ℕ) (m : Bool) (ms : List Bool) (n : ℕ) → (m ≡ false → Passed s i j) → ((x : ℕ) → x < n → get_or ms x false ≡ false → Passed s i (suc j + x))
      → (x : ℕ) → x < suc n → get_or (m ∷ ms) x false ≡ false → Passed s i (j + x)
  upto s i j m ms n f g zero l e = let z : j ≡ j + 0 = omega arith in subst (Passed s i) z (f e)
  upto s i j m ms n f g (suc x) l e = let z : suc j + x ≡ j + suc x = omega arith in subst (Passed s i) z (g x (le_of_suc-le-suc l) e)

  found_later : (s : S) (i j : ℕ) (m : Bool) (ms : List Bool) (r : ℕ) → (m ≡ false → Passed s i j) → Found s i (suc j) ms r → Found s i j (m ∷ ms) r
  found_later s i j m ms r f (none e h) = none e (upto s i j m ms (length ms) f h)
  found_later s i j m ms r f (some x e l z t h) =
      let q : suc j + x ≡ j + suc x = omega arith in
      some (suc x) (e ∙ q) (omega (arith, l)) z (subst (λ (y : ℕ). is_step (choose s i y) ≡ true) q t) (upto s i j m ms x f h)

  found : (s : S) (i j : ℕ) (ms : List Bool) → Found s i j ms (receiver_for count choose s i j ms)
  unfolding receiver_for
  found s i j [] = none refl (λ x l. absurd (not-suc-le-zero l))
  found s i j (m ∷ ms) = go (not m && is_step (choose s i j)) refl (found s i (suc j) ms)
    where
      go : (b : Bool) → (not m && is_step (choose s i j)) ≡ b → Found s i (suc j) ms (receiver_for count choose s i (suc j) ms)
          → Found s i j (m ∷ ms) (cond b j (receiver_for count choose s i (suc j) ms))
      go true e ih =
          let z : j ≡ j + 0 = omega arith in
          let (a, b) = free_test m (is_step (choose s i j)) e in
          some 0 z (omega arith) a (subst (λ (y : ℕ). is_step (choose s i y) ≡ true) z b) (λ y l. absurd (not-suc-le-zero l))
      go false e ih = found_later s i j m ms (receiver_for count choose s i (suc j) ms) (bound_test m (is_step (choose s i j)) e) ih

  -- a receiver that is found is one of those present from the start, and the choice with it is a step
  pub receiver_steps : (s : S) (i : ℕ) (ms : List Bool) (p : ℕ) → p ≡ receiver_for count choose s i 1 ms → (p ≡ 0 → ⊥)
      → (1 ≤ p) × (p - 1 < length ms) × (is_step (choose s i p) ≡ true)
  receiver_steps s i ms p e n = go (found s i 1 ms)
    where
      go : Found s i 1 ms (receiver_for count choose s i 1 ms) → (1 ≤ p) × (p - 1 < length ms) × (is_step (choose s i p) ≡ true)
      go (none z h) = absurd (n (e ∙ z))
      go (some x z l t c h) =
          let q : 1 + x ≡ p = sym z ∙ sym e in
          (omega (arith, q), omega (arith, q, l), subst (λ (y : ℕ). is_step (choose s i y) ≡ true) q c)

  -- what a visit comes to, by numbers from 1
  pub data View (s : S) (a : ℕ) (ms : List Bool) : Visited S → Type 0 where
    steps_alone : (s' : S) → choose s (suc a) 0 ≡ steps s' → View s a ms (alone s')
    waits_alone : (s' : S) → choose s (suc a) 0 ≡ waits s' → View s a ms (waited s')
    meets_first : (n p : ℕ) (s' : S) → choose s (suc a) 0 ≡ refuses n → 1 ≤ p → p - 1 < length ms → get_or ms (p - 1) false ≡ false → choose s (suc a) p ≡ steps s'
        → ((q : ℕ) → 1 ≤ q → q < p → get_or ms (q - 1) false ≡ false → is_step (choose s (suc a) q) ≡ false) → View s a ms (met p s')
    does_nothing : (n : ℕ) → choose s (suc a) 0 ≡ refuses n
        → ((q : ℕ) → 1 ≤ q → q - 1 < length ms → get_or ms (q - 1) false ≡ false → is_step (choose s (suc a) q) ≡ false) → View s a ms nothing_done

  back : (q : ℕ) → 1 ≤ q → 1 + (q - 1) ≡ q
  back q l = omega (arith, l)

  view_meeting : (s : S) (a : ℕ) (ms : List Bool) (n : ℕ) → choose s (suc a) 0 ≡ refuses n → (r : ℕ) → Found s (suc a) 1 ms r
      → View s a ms (meeting_with count choose s (suc a) r)
  view_meeting s a ms n e r (none z h) =
      subst (λ (x : ℕ). View s a ms (meeting_with count choose s (suc a) x)) (sym z)
      (does_nothing n e (λ q l m t. subst (Passed s (suc a)) (back q l) (h (q - 1) m t)))
  view_meeting s a ms n e r (some x z l t c h) =
      let y : x ≡ r - 1 = omega (arith, z) in
      subst (λ (b : Bool). View s a ms (cond b nothing_done (met_by r (choose s (suc a) r)))) (sym (ne_eqb r 0 (λ w. omega (arith, w, z))))
      (go (choose s (suc a) r) refl (subst (λ (w : ℕ). is_step (choose s (suc a) w) ≡ true) (sym z) c) y)
    where
      go : (o : Taken S) → choose s (suc a) r ≡ o → is_step o ≡ true → x ≡ r - 1 → View s a ms (met_by r o)
      go (refuses m) d f y = absurd (false≢true f)
      go (waits s') d f y = absurd (false≢true f)
      go (steps s') d f y =
          meets_first n r s' e (omega (arith, z)) (omega (arith, y, l)) (ap (λ (w : ℕ). get_or ms w false) (sym y) ∙ t) d
          (λ q l m g. subst (Passed s (suc a)) (back q l) (h (q - 1) (omega (arith, l, m, y)) g))

  pub view : (s : S) (a : ℕ) (ms : List Bool) → View s a ms (visited count choose s a ms)
  unfolding visited
  view s a ms = go (choose s (suc a) 0) refl
    where
      go : (o : Taken S) → choose s (suc a) 0 ≡ o → View s a ms (lone_else o (meeting_with count choose s (suc a) (receiver_for count choose s (suc a) 1 ms)))
      go (refuses n) e = view_meeting s a ms n e (receiver_for count choose s (suc a) 1 ms) (found s (suc a) 1 ms)
      go (waits s') e = waits_alone s' e
      go (steps s') e = steps_alone s' e
