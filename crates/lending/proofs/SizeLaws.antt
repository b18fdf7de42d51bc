-- Sizes of what is lent.
use Prim.Native.Nat.{ℕ, ◌≤◌}
use mathlib.Core.Path.{◌≡◌}
use mathlib.Core.Bool.{true, ◌&&◌, and-eq-true_iff}
use mathlib.Core.List.{List}
use lib.Dec.{eqb, leb}
use lib.ListN.{length, get_or}
use borrow.Author.Tests.{eqb-true, leb-true}
use Rattle.lending.specs.Lent.{sizes_fit}

-- what right sizes are
pub sizes_true : (n : ℕ) (b : List ℕ) → sizes_fit n b ≡ true → (length b ≡ 162) × (n ≡ 64) × (get_or b 0 0 ≤ 64) × (get_or b 1 0 ≤ 64)
sizes_true n b e =
    let (w, rest) = (and-eq-true_iff (eqb (length b) 162) ((eqb n 64 && leb (get_or b 0 0) 64) && leb (get_or b 1 0) 64)).0 e in
    let (both, m) = (and-eq-true_iff (eqb n 64 && leb (get_or b 0 0) 64) (leb (get_or b 1 0) 64)).0 rest in
    let (r, t) = (and-eq-true_iff (eqb n 64) (leb (get_or b 0 0) 64)).0 both in
    (eqb-true (length b) 162 w, eqb-true n 64 r, leb-true (get_or b 0 0) 64 t, leb-true (get_or b 1 0) 64 m)
