-- Trees one after the other against what is due: each root word is the number of its root, and no path binds a ninth variable.
use Prim.Native.Nat.{ℕ, zero, suc, ◌+◌, ◌-◌, ◌≤◌, ◌<◌}
use mathlib.Core.Path.{◌≡◌, refl, ap, ap₂}
use mathlib.Core.Bool.{true}
use mathlib.Core.List.{List, [], ◌∷◌, map}
use native.Mathlib.Omega.{arith}
use lib.ListN.{length, get_or, drop}
use lib.Seq.{drop-drop}
use borrow.Author.Tests.{eqb-true, eq-eqb}
use Rattle.trees.specs.Shape.{bound_of, root_fits, roots}
use Rattle.format.specs.declared.Session.{Session}
use Rattle.trees.specs.declared.Due.{Due}
use Rattle.trees.specs.declared.Due.TheVariants.{Root}
use Rattle.reading_exact.specs.Lists.{All}
use Rattle.reading_exact.specs.Tree.{Tree, past, height, flatten}
use Rattle.reading_exact.proofs.TreeEnds.{past_more, write_rest}

-- the sessions' root words, which are what is due at the start
abbrev pub roots_in : List Session → List ℕ
roots_in ss = map (λ (s : Session). s.root) ss

pub roots_due : (ss : List Session) → roots ss ≡ map Root (roots_in ss)
unfolding roots
roots_due [] = refl
roots_due (s ∷ ss) = ap {B = List Due} (λ l. Root s.root ∷ l) (roots_due ss)

-- where each of some trees begins
unfoldable pub roots_of : ℕ → List Tree → List ℕ
roots_of at [] = []
roots_of at (t ∷ ts) = at ∷ roots_of (past at t) ts

-- from the root of a tree on stand the trees from that one on
pub flatten_from : (at : ℕ) (ts : List Tree) (n : ℕ) → n < length ts
    → (at ≤ get_or (roots_of at ts) n 0) × (drop (get_or (roots_of at ts) n 0 - at) (flatten at ts) ≡ flatten (get_or (roots_of at ts) n 0) (drop n ts))
unfolding roots_of flatten
flatten_from at [] n l = let never : ⊥ = omega arith in absurd never
flatten_from at (t ∷ ts) zero l = let e : at - at ≡ 0 = omega arith in (omega arith, rw e)
flatten_from at (t ∷ ts) (suc n) l =
    let (low, w) = flatten_from (past at t) ts n (omega arith) in
    let r : ℕ = get_or (roots_of (past at t) ts) n 0 in
    let e : r - at ≡ (past at t - at) + (r - past at t) = omega (arith, past_more at t) in
    (omega (arith, past_more at t), rw (e, ← drop-drop (r - past at t) (past at t - at), write_rest) w)

-- trees that stand one after the other are those that are due
abbrev pub DueTrees : ℕ → List Due → List Tree → Type 0
DueTrees i [] [] = Unit {0}
DueTrees i [] (t ∷ ts) = ⊥
DueTrees i (d ∷ st) [] = ⊥
DueTrees i (d ∷ st) (t ∷ ts) = (root_fits i d ≡ true) × (height t ≤ 8 - bound_of d) × DueTrees (past i t) st ts

pub roots_stand : (i : ℕ) (ts : List Tree) → All (λ t. height t ≤ 8) ts → DueTrees i (map Root (roots_of i ts)) ts
unfolding roots_of
roots_stand i [] h = tt
roots_stand i (t ∷ ts) h = (eq-eqb i i refl, omega arith, roots_stand (past i t) ts h.1)

pub stands_roots : (i : ℕ) (roots : List ℕ) (ts : List Tree) → DueTrees i (map Root roots) ts → (roots ≡ roots_of i ts) × All (λ t. height t ≤ 8) ts
unfolding roots_of
stands_roots i [] [] h = (refl, tt)
stands_roots i [] (t ∷ ts) h = absurd h
stands_roots i (r ∷ rs) [] h = absurd h
stands_roots i (r ∷ rs) (t ∷ ts) h =
    let p = stands_roots (past i t) rs ts h.2 in
    (ap₂ ◌∷◌ (eqb-true r i h.0) p.0, (omega arith, p.1))
