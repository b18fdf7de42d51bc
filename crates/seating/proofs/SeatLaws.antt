-- The answer about a seat, by its tests; and what it says of a choice that stands at an on of a role with a limit.
use Prim.Native.Nat.{ℕ, ◌≤◌, ◌<◌}
use mathlib.Core.Path.{◌≡◌, refl, sym, ap, ◌∙◌}
use mathlib.Core.Bool.{Bool, true, false, cond, ◌&&◌}
use mathlib.Core.List.{List}
use lib.Dec.{leb, ltb}
use borrow.Author.Tests.{le-leb, lt-leb, leb-true, leb-false, lt-ltb, le-ltb}
use Rattle.masks.specs.Mask.{has, held}
use Rattle.steps.specs.declared.Thread.{Thread}
use Rattle.reading_exact.specs.Lists.{All}
use Rattle.reading_exact.specs.File.{InCount}
use Rattle.seats.specs.Seats.{Limited, SeatedState, sits, seats_taken, is_next}
use Rattle.seating.specs.SeatTables.{gathered, seat_answer}
use Rattle.seating.proofs.SessionLaws.{gathered_has, gathered_held, counted_more}

module _ (ts : List Thread) (os line : List ℕ) (r limit k m : ℕ) (e : m ≡ gathered ts os r 0) where
  pub seat_has : has m k ≡ true → 0 ≡ seat_answer ts os line r limit k
  unfolding seat_answer
  seat_has h = let a : has (gathered ts os r 0) k ≡ true = ap (λ (x : ℕ). has x k) (sym e) ∙ h in sym (rw a)

  pub seat_full : has m k ≡ false → limit ≤ held 32 m → 2 ≡ seat_answer ts os line r limit k
  unfolding seat_answer
  seat_full h l =
      let a : has (gathered ts os r 0) k ≡ false = ap (λ (x : ℕ). has x k) (sym e) ∙ h in
      let b : leb limit (held 32 (gathered ts os r 0)) ≡ true = ap (λ (x : ℕ). leb limit (held 32 x)) (sym e) ∙ le-leb limit (held 32 m) l in
      sym (rw (a, b))

  pub seat_free : (b : Bool) → has m k ≡ false → held 32 m < limit → is_next line k ≡ b → cond b 1 2 ≡ seat_answer ts os line r limit k
  unfolding seat_answer
  seat_free c h l n =
      let a : has (gathered ts os r 0) k ≡ false = ap (λ (x : ℕ). has x k) (sym e) ∙ h in
      let b : leb limit (held 32 (gathered ts os r 0)) ≡ false = ap (λ (x : ℕ). leb limit (held 32 x)) (sym e) ∙ lt-leb limit (held 32 m) l in
      sym (rw (a, b, n))

-- In a state whose threads have sessions of 1 to n, n at most 32: 0 where the session has the role, 1 where one is free and it is next, else 2.
pub seat_means : (L : Limited) (S : SeatedState) (r k : ℕ) → L.sessions ≤ 32 → All (InCount L.sessions) S.owners
    → seat_answer S.state.threads S.owners (S.lines r) r (L.seats r) k
    ≡ cond (sits S k r) 0 (cond (ltb (seats_taken L S r) (L.seats r) && is_next (S.lines r) k) 1 2)
unfolding seat_answer
seat_means L S r k l c =
    ap (λ (b : Bool). cond b 0 (cond (leb (L.seats r) (held 32 (gathered S.state.threads S.owners r 0))) 2 (cond (is_next (S.lines r) k) 1 2)))
    (gathered_has S.state.threads S.owners r k (counted_more S.owners L.sessions 32 l c))
    ∙ ap (λ (x : ℕ). cond (sits S k r) 0 (cond (leb (L.seats r) x) 2 (cond (is_next (S.lines r) k) 1 2))) (gathered_held S.state.threads S.owners L.sessions r l c)
    ∙ ap (λ (x : ℕ). cond (sits S k r) 0 x) (go (leb (L.seats r) (seats_taken L S r)) refl)
  where
    go : (b : Bool) → leb (L.seats r) (seats_taken L S r) ≡ b
        → ◌≡◌ {A = ℕ} (cond b 2 (cond (is_next (S.lines r) k) 1 2)) (cond (ltb (seats_taken L S r) (L.seats r) && is_next (S.lines r) k) 1 2)
    go true e = sym (ap (λ (a : Bool). cond (a && is_next (S.lines r) k) 1 2) (le-ltb (seats_taken L S r) (L.seats r) (leb-true (L.seats r) (seats_taken L S r) e)))
    go false e = sym (ap (λ (a : Bool). cond (a && is_next (S.lines r) k) 1 2) (lt-ltb (seats_taken L S r) (L.seats r) (leb-false (L.seats r) (seats_taken L S r) e)))
