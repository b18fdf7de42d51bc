-- The pass finds the most on steps of a session's tree.
use Prim.Native.Nat.{ℕ, suc, ◌+◌, ◌-◌, ◌≤◌, max}
use mathlib.Core.Path.{◌≡◌, refl, sym, ap, ap₂, ◌∙◌}
use mathlib.Core.Logic.{◌⊎◌, inl, inr}
use mathlib.Core.Bool.{Bool, true, false, cond}
use mathlib.Core.List.{List, [], ◌∷◌, Memᴰ}
use native.Mathlib.Omega.{arith}
use native.Mathlib.Numerals.{add-one}
use lib.Dec.{eqb, leb, eqb-suc-zero}
use borrow.Author.Tests.{leb-true, leb-false}
use Rattle.format.specs.declared.Node.{Node}
use Rattle.trees.specs.Shape.{depth_after}
use Rattle.rules.specs.Schema.{Schema}
use Rattle.rules.specs.Names.{Bound}
use Rattle.optimum.specs.Optimum.{States}
use Rattle.states.specs.declared.Turn.{Turn}
use Rattle.groups.specs.Groups.{on_of}
use Rattle.reading_exact.specs.Lists.{All}
use Rattle.reading_exact.specs.Tree.{Step, repeat, new, compare, receive, send, Tree, end, fork, step, switch, step_node, past, write, flatten}
use Rattle.reading_exact.specs.File.{Routine}
use Rattle.reading_exact.proofs.FileContents.{trees_of}
use Rattle.placing_exact.specs.Placement.{on_steps}
use Rattle.placing_exact.specs.Placed.{vars_below, labels, insert, AllStates, insert_all}
use Rattle.placing_exact.proofs.SwitchFree.{Free}
use Rattle.placing_exact.proofs.Preorder.{turn, walked, walked_all}
use Rattle.placing_exact.proofs.TurnedNodes.{turned_ons}
use Rattle.sheets.specs.Entries.{most_from}

-- the most on steps of one of these trees
unfoldable pub peak : List Tree → ℕ
peak [] = 0
peak (t ∷ ts) = max (on_steps t) (peak ts)

-- after a tree, with k others still due
abbrev after : ℕ → ℕ → ℕ → List Node → List Turn → ℕ
after k sum m ns ts = cond (eqb k 0) (most_from 1 0 (max m sum) ns ts) (most_from k sum m ns ts)

step_depth : (z : Step) (d : ℕ) → depth_after (step_node z).tag d ≡ d
step_depth repeat d = refl
step_depth (new k) d = refl
step_depth (compare a b) d = refl
step_depth (receive c) d = refl
step_depth (send c v) d = refl

module _ (D : Schema) (u : ℕ) where
  tree_most : (at p : ℕ) (vs : List Bound) (t : Tree) (a : States (labels D u vs t)) (k sum m : ℕ) (ns : List Node) (ts : List Turn) → Free t
      → most_from (suc k) sum m (write at t ns) (walked (labels D u vs t) p a ts) ≡ after k (sum + on_steps (insert D u p vs t a)) m ns ts
  unfolding walked insert write most_from on_steps
  tree_most at p vs end a k sum m ns ts f =
      let one : suc k - 1 ≡ k = omega arith in
      let all : sum + on_of (turn p a.0) ≡ sum + on_steps (insert D u p vs end a) = omega (arith, turned_ons p a.0 end) in
      ap₂ (λ (x y : ℕ). after x y m ns ts) one all
  tree_most at p vs (fork x y) a k sum m ns ts f =
      let s : ℕ = a.0 in
      let x' : Tree = insert D u s vs x a.1 in
      let y' : Tree = insert D u s vs y a.2 in
      let o : ℕ = on_of (turn p s) in
      let ns' : List Node = write (past (suc at) x) y ns in
      let ts' : List Turn = walked (labels D u vs y) s a.2 ts in
      let all : sum + o + on_steps x' + on_steps y' ≡ sum + on_steps (insert D u p vs (fork x y) a) = omega (arith, turned_ons p s (fork x' y')) in
      ap (λ (d : ℕ). after d (sum + o) m (write (suc at) x ns') (walked (labels D u vs x) s a.1 ts')) (add-one (suc k))
      ∙ rw (eqb-suc-zero) (
      tree_most (suc at) s vs x a.1 (suc k) (sum + o) m ns' ts' f.0
      ∙ rw (eqb-suc-zero) (tree_most (past (suc at) x) s vs y a.2 k (sum + o + on_steps x') m ns ts f.1 ∙ ap (λ (z : ℕ). after k z m ns ts) all))
  tree_most at p vs (step z t) a k sum m ns ts f =
      let s : ℕ = a.0 in
      let t' : Tree = insert D u s (vars_below D u vs z) t a.1 in
      let o : ℕ = on_of (turn p s) in
      let all : sum + o + on_steps t' ≡ sum + on_steps (insert D u p vs (step z t) a) = omega (arith, turned_ons p s (step z t')) in
      ap (λ (d : ℕ). after d (sum + o) m (write (suc at) t ns) (walked (labels D u (vars_below D u vs z) t) s a.1 ts)) (step_depth z (suc k))
      ∙ rw (eqb-suc-zero k) (tree_most (suc at) s (vars_below D u vs z) t a.1 k (sum + o) m ns ts f ∙ ap (λ (z : ℕ). after k z m ns ts) all)
  tree_most at p vs (switch w r t) a k sum m ns ts f = absurd f

-- over all sessions
pub all_most : (D : Schema) (at m : ℕ) (ss : List Routine) (a : AllStates D ss) → All (λ s. Free s.tree) ss
    → most_from 1 0 m (flatten at (trees_of ss)) (walked_all D ss a) ≡ max m (peak (insert_all D ss a))
unfolding walked_all insert_all flatten most_from peak
all_most D at m [] a f = omega arith
all_most D at m (s ∷ ss) a f =
    let t' : Tree = insert D s.user 0 [] s.tree a.0 in
    tree_most D s.user at 0 [] s.tree a.0 0 0 m (flatten (past at s.tree) (trees_of ss)) (walked_all D ss a.1) f.0
    ∙ all_most D (past at s.tree) (max m (0 + on_steps t')) ss a.1 f.1
    ∙ omega arith

-- no tree has more, and one has as many unless none has any
pub peak_above : (ts : List Tree) (t : Tree) → Memᴰ t ts → on_steps t ≤ peak ts
unfolding peak
peak_above [] t x' = elim x' [ ]
peak_above (x ∷ ts) t (Memᴰ.head e) = omega (arith, ap on_steps e)
peak_above (x ∷ ts) t (Memᴰ.tail m) = omega (arith, peak_above ts t m)

pub peak_reached : (ts : List Tree) → (peak ts ≡ 0) ⊎ ((t : Tree) × Memᴰ t ts × (on_steps t ≡ peak ts))
unfolding peak
peak_reached [] = inl refl
peak_reached (t ∷ ts) = go (leb (peak ts) (on_steps t)) refl (peak_reached ts)
  where
    go : (b : Bool) → leb (peak ts) (on_steps t) ≡ b → (peak ts ≡ 0) ⊎ ((x : Tree) × Memᴰ x ts × (on_steps x ≡ peak ts))
        → (max (on_steps t) (peak ts) ≡ 0) ⊎ ((x : Tree) × Memᴰ x (t ∷ ts) × (on_steps x ≡ max (on_steps t) (peak ts)))
    go true e r = inr (t, Memᴰ.head refl, omega (arith, leb-true (peak ts) (on_steps t) e))
    go false e (inl z) = let no : ⊥ = omega (arith, leb-false (peak ts) (on_steps t) e, z) in absurd no
    go false e (inr (x, m, q)) = inr (x, Memᴰ.tail m, omega (arith, q, leb-false (peak ts) (on_steps t) e))
