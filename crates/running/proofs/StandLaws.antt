-- What a caller keeps of a long input, instead of a file, has the run's answer on the whole, and leaves the same output.
use Prim.Native.Nat.{ℕ}
use mathlib.Core.Path.{◌≡◌, refl}
use mathlib.Core.Bool.{Bool, true, false, cond, ◌&&◌}
use mathlib.Core.List.{List}
use native.Mathlib.Omega.{arith}
use lib.Dec.{eqb, leb}
use lib.ListN.{length}
use borrow.Author.Tests.{ne_eqb}
use Rattle.format.specs.Answers.{refused}
use Rattle.format.specs.Header.{head_of}
use Rattle.format.specs.declared.Verdict.{Verdict}
use Rattle.std.specs.Prelude.{Err}
use Rattle.format.proofs.HeadLaws.{head_number_lem}
use Rattle.reading.proofs.LongLaws.{StandsFor, stands_judged}
use Rattle.checking.proofs.CheckLaws.{names_refused}
use Rattle.running.specs.Run.{listed, unready, running, run_over}

-- the head's refusal, but for 17 before it
abbrev refusal : List ℕ → ℕ → ℕ → Verdict
refusal ws room n = cond (listed (length ws) && leb 1800 room) (refused n 0) (refused 17 0)

module _ (f : List ℕ) (n : ℕ) (e : head_of f ≡ Err n) where
  loud : (fits : Bool) → eqb (unready fits f).number 0 ≡ false
  loud true = rw (names_refused f n e) (ne_eqb n 0 (λ (z : n ≡ 0). omega (arith, z, head_number_lem f n e)))
  loud false = refl

  run_refused : (ws : List ℕ) (room : ℕ) → running f ws room ≡ refusal ws room n
  unfolding running
  run_refused ws room = rw (loud (listed (length ws) && leb 1800 room)) (rw (names_refused f n e))

  over_refused : (ws out : List ℕ) → run_over f ws out ≡ out
  unfolding run_over
  over_refused ws out = rw (loud (listed (length ws) && leb 1800 (length out)))

pub stands_run : (ws : List ℕ) (room : ℕ) (kept input : List ℕ) → StandsFor kept input → running kept ws room ≡ running input ws room
stands_run ws room = stands_judged (refusal ws room) (λ (f : List ℕ). running f ws room) (λ (f : List ℕ) (n : ℕ) (e : head_of f ≡ Err n). run_refused f n e ws room)

pub stands_over : (ws out kept input : List ℕ) → StandsFor kept input → run_over kept ws out ≡ run_over input ws out
stands_over ws out = stands_judged (λ (n : ℕ). out) (λ (f : List ℕ). run_over f ws out) (λ (f : List ℕ) (n : ℕ) (e : head_of f ≡ Err n). over_refused f n e ws out)
