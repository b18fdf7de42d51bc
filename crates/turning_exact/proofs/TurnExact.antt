-- What turning answers is what the request says, and nothing else.
use Rattle.format.specs.declared.Head.{Head}
use Prim.Native.Nat.{ℕ, ◌≤◌}
use mathlib.Core.Path.{◌≡◌, refl, ap, subst}
use mathlib.Core.Logic.{◌↔◌, ◌≢◌}
use mathlib.Core.Bool.{Bool, true, false, cond, ◌||◌}
use mathlib.Core.List.{List}
use native.Mathlib.Omega.{arith}
use lib.Dec.{eqb, ltb}
use lib.ListN.{length}
use borrow.Author.Tests.{eqb-true, eqb-false, ltb-true, ltb-false}
use Rattle.format.specs.Answers.{not_written}
use Rattle.format.specs.Header.{version_at, head_of}
use Rattle.std.specs.Prelude.{Result, Ok, Err}
use Rattle.format.specs.declared.Written.{Written}
use Rattle.format.proofs.HeadLaws.{headed, head_number_lem}
use Rattle.reading_exact.specs.Refusals.{Refusable}
use Rattle.reading_exact.proofs.FirstRefusal.{refusable_turn}
use Rattle.turning.specs.Turning.{head_number, turn_refusal, turning}
use Rattle.turning_exact.specs.TurnCauses.{TurnCause, of_head, other_version, TurnAnswers, no_room, refused, turned}
use Rattle.turning_exact.proofs.HeadCauses.{head_few, head_cause, head_clean}

module _ (from : ℕ) (f : List ℕ) where
  some : (n : ℕ) → TurnCause from f n → 1 ≤ n
  some n (of_head few r) = (refusable_turn f n 0 r).0
  some n (other_version e o) = omega (arith, e)

  -- nothing is wrong, or the number is the lowest of what is wrong
  abbrev Lowest : ℕ → Type 0
  Lowest n = TurnCause from f n × ((m : ℕ) → TurnCause from f m → n ≤ m)

  refusal_clean : turn_refusal from f ≡ 0 → (n : ℕ) → TurnCause from f n → ⊥
  unfolding turn_refusal
  refusal_clean z = go (head_of f) refl (eqb (version_at f) from) refl z
    where
      go : (a : Result Head ℕ) → head_of f ≡ a → (b : Bool) → eqb (version_at f) from ≡ b → cond (eqb (head_number a) 1 || b) (head_number a) 2 ≡ 0 → (n : ℕ) → TurnCause from f n → ⊥
      go (Ok h) e true t z n (of_head few r) = head_clean f (headed f h e).0 n 0 few r
      go (Ok h) e true t z n (other_version x o) = o (eqb-true (version_at f) from t)
      go (Ok h) e false t z n c = omega (arith, z)
      go (Err k) e b t z n c = either (eqb k 1) b z
        where
          either : (x y : Bool) → cond (x || y) k 2 ≡ 0 → ⊥
          either true y z = omega (arith, z, head_number_lem f k e)
          either false true z = omega (arith, z, head_number_lem f k e)
          either false false z = omega (arith, z)

  refusal_lowest : turn_refusal from f ≢ 0 → Lowest (turn_refusal from f)
  unfolding turn_refusal
  refusal_lowest loud = go (head_of f) refl (eqb (version_at f) from) refl loud
    where
      two : version_at f ≢ from → ((m : ℕ) → m ≤ 5 → Refusable f m 0 → 2 ≤ m) → Lowest 2
      two other least = (other_version refl other, low)
        where
          low : (m : ℕ) → TurnCause from f m → 2 ≤ m
          low m (of_head few r) = least m few r
          low m (other_version e o) = omega (arith, e)

      go : (a : Result Head ℕ) → head_of f ≡ a → (b : Bool) → eqb (version_at f) from ≡ b → cond (eqb (head_number a) 1 || b) (head_number a) 2 ≢ 0 → Lowest (cond (eqb (head_number a) 1 || b) (head_number a) 2)
      go (Ok h) e true t loud = absurd (loud refl)
      go (Ok h) e false t loud = two (eqb-false (version_at f) from t) (λ m few r. absurd (head_clean f (headed f h e).0 m 0 few r))
      go (Err k) e b t loud = by (eqb k 1) refl b t
        where
          cause : Refusable f k 0 × ((m : ℕ) → m ≤ 5 → Refusable f m 0 → k ≤ m)
          cause = head_cause f k e

          by : (x : Bool) → eqb k 1 ≡ x → (b : Bool) → eqb (version_at f) from ≡ b → Lowest (cond (x || b) k 2)
          by true s b t = (of_head (head_few f k e) cause.0, low)
            where
              low : (m : ℕ) → TurnCause from f m → k ≤ m
              low m c = omega (arith, eqb-true k 1 s, some m c)
          by false s true t = (of_head (head_few f k e) cause.0, low)
            where
              low : (m : ℕ) → TurnCause from f m → k ≤ m
              low m (of_head few r) = cause.1 m few r
              low m (other_version x o) = absurd (o (eqb-true (version_at f) from t))
          by false s false t = two (eqb-false (version_at f) from t) (λ m few r. omega (arith, cause.1 m few r, eqb-false k 1 s, head_number_lem f k e))

  pub turning_answers : (room : ℕ) → TurnAnswers from f room (turning from f room)
  unfolding turning
  turning_answers room = go (ltb room 6908) refl (eqb (turn_refusal from f) 0) refl
    where
      go : (a : Bool) → ltb room 6908 ≡ a → (b : Bool) → eqb (turn_refusal from f) 0 ≡ b
          → TurnAnswers from f room (cond a (not_written 17 0) (cond b (record { number = 0; place = 0; length = length f }) (not_written (turn_refusal from f) 0)))
      go true s b t = no_room (ltb-true room 6908 s)
      go false s true t = turned (ltb-false room 6908 s) (refusal_clean (eqb-true (turn_refusal from f) 0 t))
      go false s false t = let (c, low) = refusal_lowest (eqb-false (turn_refusal from f) 0 t) in refused (turn_refusal from f) (ltb-false room 6908 s) c low

  -- and there is one answer
  pub one_answer : (room : ℕ) (a b : Written) → TurnAnswers from f room a → TurnAnswers from f room b → a ≡ b
  one_answer room a b (no_room x) (no_room y) = refl
  one_answer room a b (no_room x) (refused n y c low) = absurd (omega (arith, x, y))
  one_answer room a b (no_room x) (turned y none) = absurd (omega (arith, x, y))
  one_answer room a b (refused n x c low) (no_room y) = absurd (omega (arith, x, y))
  one_answer room a b (refused n x c low) (refused m y d low') = let same : n ≡ m = omega (arith, low m d, low' n c) in ap (λ (k : ℕ). not_written k 0) same
  one_answer room a b (refused n x c low) (turned y none) = absurd (none n c)
  one_answer room a b (turned x none) (no_room y) = absurd (omega (arith, x, y))
  one_answer room a b (turned x none) (refused n y c low) = absurd (none n c)
  one_answer room a b (turned x none) (turned y none') = refl

pub turning_exactly : (from : ℕ) (f : List ℕ) (room : ℕ) (a : Written) → (turning from f room ≡ a) ↔ TurnAnswers from f room a
turning_exactly from f room a =
    (λ e. subst (TurnAnswers from f room) e (turning_answers from f room), λ c. one_answer from f room (turning from f room) a (turning_answers from f room) c)
