-- What the last choice done was answered.
use Prim.Native.Nat.{ℕ, zero, suc, ◌+◌, ◌*◌, ◌≤◌}
use mathlib.Core.Path.{◌≡◌, refl, sym, ap, ◌∙◌, subst}
use mathlib.Core.List.{List, [], ◌∷◌}
use native.Mathlib.Omega.{arith}
use lib.ListN.{length, get_or, take}
use Rattle.rounds.specs.Round.{Taken, refuses, waits, steps}
use Rattle.seats.specs.Seats.{Limited, SeatedState, seated_choice, SeatedRan, one_done, follow_seated, seated_run, last_by, last_in}
use Rattle.seats.specs.SeatOrder.{AnswerWord, LastAnswer, none_done, last_done}

module _ (L : Limited) where
  -- the answer carried so far stands where no choice is done
  data Carried (S : SeatedState) (v : ℕ) (ws : List ℕ) (w : ℕ) : Type 0 where
    kept : (seated_run L S ws).count ≡ 0 → w ≡ v → Carried S v ws w
    later : (n : ℕ) (T : SeatedState) → (seated_run L S ws).count ≡ suc n → seated_run L S (take (2 * n) ws) ≡ record { count = n; refusal = 0; seating = T }
        → AnswerWord (seated_choice L T (get_or ws (2 * n) 0) (get_or ws (2 * n + 1) 0)) w → Carried S v ws w

  carried : (ws : List ℕ) (S : SeatedState) (v : ℕ) → Carried S v ws (last_in L S v ws)
  unfolding seated_run last_in
  carried [] S v = kept refl refl
  carried (i ∷ []) S v = kept refl refl
  carried (i ∷ p ∷ ws) S v = go (seated_choice L S i p) refl (carried ws)
    where
      whole : List ℕ
      whole = i ∷ p ∷ ws

      on : (S' : SeatedState) (u : ℕ) (w : ℕ) → (followed : seated_run L S whole ≡ one_done (seated_run L S' ws))
          → ((xs : List ℕ) → seated_run L S (i ∷ p ∷ xs) ≡ one_done (seated_run L S' xs))
          → (AnswerWord (seated_choice L S i p) u) → Carried S' u ws w → Carried S v whole w
      on S' u w e step told (kept z q) =
          later 0 S (ap (λ (r : SeatedRan). r.count) e ∙ ap suc z) refl (subst (AnswerWord (seated_choice L S i p)) (sym q) told)
      on S' u w e step told (later n T z q a) =
          let k : 2 * suc n ≡ suc (suc (2 * n)) = omega arith in
          let k' : 2 * suc n + 1 ≡ suc (suc (2 * n + 1)) = omega arith in
          later (suc n) T (ap (λ (r : SeatedRan). r.count) e ∙ ap suc z)
          (ap (λ (x : ℕ). seated_run L S (take x whole)) k ∙ step (take (2 * n) ws) ∙ ap one_done q)
          (subst (λ (x : ℕ). AnswerWord (seated_choice L T (get_or whole x 0) (get_or whole (2 * suc n + 1) 0)) w) (sym k)
          (subst (λ (x : ℕ). AnswerWord (seated_choice L T (get_or ws (2 * n) 0) (get_or whole x 0)) w) (sym k') a))

      go : (a : Taken SeatedState) → seated_choice L S i p ≡ a → ((S' : SeatedState) (u : ℕ) → Carried S' u ws (last_in L S' u ws))
          → Carried S v whole (last_by a v (λ u S'. last_in L S' u ws))
      go (refuses n) e f = kept (ap (λ (a : Taken SeatedState). (follow_seated S a (λ T. seated_run L T ws)).count) e) refl
      go (waits S') e f =
          on S' 26 (last_in L S' 26 ws) (ap (λ (a : Taken SeatedState). follow_seated S a (λ T. seated_run L T ws)) e)
          (λ xs. ap (λ (a : Taken SeatedState). follow_seated S a (λ T. seated_run L T xs)) e) (subst (λ (a : Taken SeatedState). AnswerWord a 26) (sym e) refl) (f S' 26)
      go (steps S') e f =
          on S' 0 (last_in L S' 0 ws) (ap (λ (a : Taken SeatedState). follow_seated S a (λ T. seated_run L T ws)) e)
          (λ xs. ap (λ (a : Taken SeatedState). follow_seated S a (λ T. seated_run L T xs)) e) (subst (λ (a : Taken SeatedState). AnswerWord a 0) (sym e) refl) (f S' 0)

  -- The word kept is what the last choice done was answered.
  pub last_answer : (ws : List ℕ) (S : SeatedState) → LastAnswer L S ws (last_in L S 0 ws)
  last_answer ws S = go (carried ws S 0)
    where
      go : {w : ℕ} → Carried S 0 ws w → LastAnswer L S ws w
      go (kept z e) = none_done z e
      go (later n T z q a) = last_done n T z q a
