-- A closed table has every state of every schedule; and where each row follows from an earlier one, it has no other.
use Prim.Native.Nat.{ℕ, zero, suc, ◌≤◌, ◌<◌}
use mathlib.Core.Path.{◌≡◌, refl, sym, ap, subst, ◌∙◌}
use mathlib.Core.Logic.{inl, inr}
use mathlib.Core.Bool.{Bool, true, false}
use mathlib.Core.List.{List, [], ◌∷◌, ◌++◌}
use native.Mathlib.Omega.{arith}
use lib.Dec.{ltb}
use borrow.Author.Tests.{ltb-true, ltb-false}
use Rattle.rounds.specs.Round.{Taken, refuses, waits, steps}
use Rattle.schedules.specs.Tables.{LeadsTo, Yields, Refuses, after_choice, state_after, Path, IsRow, ClosedAt, TriedAt, Generated, Closed, RefusesUnknown}

module _ {S : Type 0} (choose : S → ℕ → ℕ → Taken S) where
  -- what no choice leads out of holds after every list of choices
  pub invariant-holds-after : (P : S → Type 0) → ((s : S) → P s → (i p : ℕ) → LeadsTo P (choose s i p)) → (ws : List ℕ) (s : S) → P s → P (state_after choose s ws)
  unfolding state_after
  invariant-holds-after P kept [] s h = h
  invariant-holds-after P kept (i ∷ []) s h = h
  invariant-holds-after P kept (i ∷ p ∷ ws) s h = go (choose s i p) (kept s h i p) (invariant-holds-after P kept ws)
    where
      go : (a : Taken S) → LeadsTo P a → ((t : S) → P t → P (state_after choose t ws)) → P (after_choice s a (λ t. state_after choose t ws))
      go (refuses n) l ih = h
      go (waits t) l ih = ih t l
      go (steps t) l ih = ih t l

  -- a path leads to its end
  pub path_ends : (ws : List ℕ) (s t : S) → Path choose s ws t → state_after choose s ws ≡ t
  unfolding state_after
  path_ends [] s t w = w
  path_ends (i ∷ []) s t w = absurd w
  path_ends (i ∷ p ∷ ws) s t (u, l, w) = go (choose s i p) l (path_ends ws u t w)
    where
      go : (a : Taken S) → Yields a u → state_after choose u ws ≡ t → after_choice s a (λ v. state_after choose v ws) ≡ t
      go (refuses n) l e = absurd l
      go (waits v) l e = ap (λ (x : S). state_after choose x ws) l ∙ e
      go (steps v) l e = ap (λ (x : S). state_after choose x ws) l ∙ e

  pub path_extends : (ws : List ℕ) (s t u : S) (i p : ℕ) → Path choose s ws t → Yields (choose t i p) u → Path choose s (ws ++ (i ∷ p ∷ [])) u
  path_extends [] s t u i p w l = (u, subst (λ (x : S). Yields (choose x i p) u) (sym w) l, refl)
  path_extends (k ∷ []) s t u i p w l = absurd w
  path_extends (k ∷ q ∷ ws) s t u i p (v, m, w) l = (v, m, path_extends ws v t u i p w l)

  pub yielded_holds : (P : S → Type 0) (a : Taken S) (t : S) → LeadsTo P a → Yields a t → P t
  yielded_holds P (refuses x) t h l = absurd l
  yielded_holds P (waits u) t h l = subst P l h
  yielded_holds P (steps u) t h l = subst P l h

  module _ (threads : S → ℕ) (rows : ℕ → S) (n : ℕ) where
    -- the choices that a check tries are all that can lead out
    tried_closed : RefusesUnknown choose threads → (j : ℕ) → TriedAt choose threads rows n j → ClosedAt choose threads rows n j
    tried_closed unknown j tried i p = by (ltb 0 i) refl (ltb (threads (rows j)) i) refl (ltb (threads (rows j)) p) refl
      where
        none : (a : Taken S) → Refuses a → LeadsTo (IsRow choose threads rows n) a
        none (refuses x) r = tt
        none (waits s) r = absurd r
        none (steps s) r = absurd r

        by : (x : Bool) → ltb 0 i ≡ x → (y : Bool) → ltb (threads (rows j)) i ≡ y → (z : Bool) → ltb (threads (rows j)) p ≡ z
            → LeadsTo (IsRow choose threads rows n) (choose (rows j) i p)
        by false e y f z g = none (choose (rows j) i p) (unknown (rows j) i p (inl (omega (arith, ltb-false 0 i e))))
        by true e true f z g = none (choose (rows j) i p) (unknown (rows j) i p (inr (inl (ltb-true (threads (rows j)) i f))))
        by true e false f true g = none (choose (rows j) i p) (unknown (rows j) i p (inr (inr (ltb-true (threads (rows j)) p g))))
        by true e false f false g = tried i p (ltb-true 0 i e) (ltb-false (threads (rows j)) i f) (ltb-false (threads (rows j)) p g)

    -- After every list of choices, of any words and any length, the state is a row of the table.
    pub every_state_is_a_row : RefusesUnknown choose threads → (s : S) → Closed choose threads rows n s → (ws : List ℕ) → IsRow choose threads rows n (state_after choose s ws)
    every_state_is_a_row unknown s C ws = invariant-holds-after (IsRow choose threads rows n) kept ws s (0, C.some, C.first)
      where
        kept : (s : S) → IsRow choose threads rows n s → (i p : ℕ) → LeadsTo (IsRow choose threads rows n) (choose s i p)
        kept s (k, low, is) i p =
            subst (λ (x : S). LeadsTo (IsRow choose threads rows n) (choose x i p)) (sym is) (tried_closed unknown k (C.tried k low) i p)

    -- Each row of a generated table is the state after some list of choices, none refused.
    pub every_row_has_a_path : (s : S) → s ≡ rows 0 → Generated choose threads rows n → (k : ℕ) → k < n → (ws : List ℕ) × Path choose s ws (rows k)
    every_row_has_a_path s first generated k low = below (suc k) k (omega arith) low
      where
        -- by a bound on the row's number
        below : (m k : ℕ) → k < m → k < n → (ws : List ℕ) × Path choose s ws (rows k)
        below zero k lt low = let no : ⊥ = omega (arith, lt) in absurd no
        below (suc m) zero lt low = ([], first)
        below (suc m) (suc j) lt low =
            let (q, i, p, early, l) = generated j low in
            let (ws, w) = below m q (omega (arith, early, lt)) (omega (arith, early, low)) in
            (ws ++ (i ∷ p ∷ []), path_extends ws s (rows q) (rows (suc j)) i p w l)

  -- A table numbered in the order in which a search finds its states is generated.
  module _ (threads : S → ℕ) (rows : ℕ → S) where
    pub one_row_generated : Generated choose threads rows 1
    one_row_generated j low = let no : ⊥ = omega (arith, low) in absurd no

    pub new_row_generated : (m q i p : ℕ) → q < m → Generated choose threads rows m → Yields (choose (rows q) i p) (rows m) → Generated choose threads rows (suc m)
    new_row_generated m q i p low generated l j lt = go (ltb (suc j) m) refl
      where
        go : (b : Bool) → ltb (suc j) m ≡ b → (q i p : ℕ) × (q ≤ j) × Yields (choose (rows q) i p) (rows (suc j))
        go true e = generated j (ltb-true (suc j) m e)
        go false e =
            let last : m ≡ suc j = omega (arith, ltb-false (suc j) m e, lt) in
            (q, i, p, omega (arith, low, last), subst (λ (x : ℕ). Yields (choose (rows q) i p) (rows x)) last l)
