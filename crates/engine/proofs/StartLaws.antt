-- A list with one more of another list's elements.
use mathlib.Core.Path.{◌≡◌, refl, sym, ap, subst, ◌∙◌}
use Prim.Native.Nat.{ℕ, suc, ◌+◌, ◌<◌, ◌≤◌}
use native.Mathlib.Omega.{arith}
use mathlib.Core.List.{List}
use lib.ListN.{length, get_or, set}
use lib.Seq.{paste, paste-zero, paste-suc, length-paste}

-- one more of another list's elements from the first on
pub one_more_lem : {A : Type 0} (l ts : List A) (k : ℕ) (z : A) → k < length l → k < length ts → set (paste l 0 ts k) k (get_or ts k z) ≡ paste l 0 ts (k + 1)
one_more_lem l ts k z hl ht =
    let e : k ≡ 0 + k = omega arith in
    let f : suc k ≡ k + 1 = omega arith in
    ap (λ (j : ℕ). set (paste l 0 ts k) j (get_or ts k z)) e ∙ paste-suc l 0 ts k z (omega arith) ht ∙ ap (paste l 0 ts) f

pub as_long : {A : Type 0} (l ts : List A) (k : ℕ) → k ≤ length l → k ≤ length ts → length (paste l 0 ts k) ≡ length l
as_long l ts k hl ht = length-paste l 0 ts k (omega arith) ht
