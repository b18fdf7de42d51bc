-- What an operand stands for in a thread: a user or a channel for itself, from 512 on the variable of that index.
use Prim.Native.Nat.{ℕ, ◌+◌, ◌-◌, ◌≤◌, ◌<◌}
use mathlib.Core.Path.{◌≡◌, refl, ap, ◌∙◌}
use mathlib.Core.Bool.{Bool, cond}
use native.Mathlib.Omega.{arith}
use lib.ListN.{get_or}
use borrow.Author.Tests.{lt-ltb, le-ltb}
use Rattle.steps.specs.declared.Thread.{Thread}
use Rattle.steps.specs.Threads.{value}

pub stands_for : (t : Thread) (x : ℕ) → (x < 512 → value t x ≡ x) × ((i : ℕ) → value t (512 + i) ≡ get_or t.vars i 0)
unfolding value
stands_for t x = (
  λ low. ap (λ (b : Bool). cond b x (get_or t.vars (x - 512) 0)) (lt-ltb x 512 low),
  λ i. let e : 512 + i - 512 ≡ i = omega arith in
      ap (λ (b : Bool). cond b (512 + i) (get_or t.vars (512 + i - 512) 0)) (le-ltb (512 + i) 512 (omega arith)) ∙ ap (λ (k : ℕ). get_or t.vars k 0) e,
)
