-- The off and on before a tree are the nodes before it.
use Prim.Native.Nat.{ℕ, zero, suc, ◌+◌}
use mathlib.Core.Path.{◌≡◌, ap}
use mathlib.Core.Bool.{Bool, true, false, cond}
use mathlib.Core.List.{List, [], ◌∷◌, ◌++◌}
use native.Mathlib.Omega.{arith}
use lib.Dec.{eqb}
use lib.ListN.{length}
use Rattle.format.specs.declared.Node.{Node}
use Rattle.groups.specs.Groups.{offs, ons, before, on_of}
use Rattle.reading_exact.specs.Tree.{Tree, words, past, write}
use Rattle.placing_exact.specs.Placement.{on_steps}
use Rattle.placing_exact.specs.Placed.{leave, enter, turned}
use Rattle.placing_exact.proofs.Preorder.{turn}

-- a tree q is the nodes l and then t
abbrev Written : ℕ → List Node → Tree → Tree → Type 0
Written at l t q = (past at q ≡ past (at + length l) t) × ((ns : List Node) → write at q ns ≡ l ++ write (at + length l) t ns)

written_none : (at : ℕ) (t : Tree) → Written at [] t t
written_none at t = let e : at ≡ at + 0 = omega arith in (ap (λ (i : ℕ). past i t) e, λ ns. ap (λ (i : ℕ). write i t ns) e)

written_off_on : (at p s : ℕ) (t : Tree) → Written at (offs p ++ ons s) t (leave p (enter s t))
unfolding leave enter past write
written_off_on at zero zero t = written_none at t
written_off_on at zero (suc s) t =
    let e : suc at ≡ at + 1 = omega arith in
    (ap (λ (i : ℕ). past i t) e, λ ns. ap (λ (i : ℕ). words 7 (suc s) 0 ∷ write i t ns) e)
written_off_on at (suc p) zero t =
    let e : suc at ≡ at + 1 = omega arith in
    (ap (λ (i : ℕ). past i t) e, λ ns. ap (λ (i : ℕ). words 8 (suc p) 0 ∷ write i t ns) e)
written_off_on at (suc p) (suc s) t =
    let e : suc (suc at) ≡ at + 2 = omega arith in
    (ap (λ (i : ℕ). past i t) e, λ ns. ap (λ (i : ℕ). words 8 (suc p) 0 ∷ words 7 (suc s) 0 ∷ write i t ns) e)

pub turned_written : (at p s : ℕ) (t : Tree) → Written at (before (turn p s)) t (turned p s t)
unfolding before turned
turned_written at p s t = go (eqb p s)
  where
    go : (b : Bool) → Written at (cond b [] (offs p ++ ons s)) t (cond b t (leave p (enter s t)))
    go true = written_none at t
    go false = written_off_on at p s t

-- the on steps of a tree with off and on before it
ons_off_on : (p s : ℕ) (t : Tree) → on_steps (leave p (enter s t)) ≡ length (ons s) + on_steps t
unfolding leave enter on_steps
ons_off_on zero zero t = omega arith
ons_off_on zero (suc s) t = omega arith
ons_off_on (suc p) zero t = omega arith
ons_off_on (suc p) (suc s) t = omega arith

pub turned_ons : (p s : ℕ) (t : Tree) → on_steps (turned p s t) ≡ on_of (turn p s) + on_steps t
unfolding turned
turned_ons p s t = go (eqb p s)
  where
    go : (b : Bool) → on_steps (cond b t (leave p (enter s t))) ≡ cond b 0 (length (ons s)) + on_steps t
    go true = omega arith
    go false = ons_off_on p s t
