-- The nodes of trees, each with the off and on before it and what names it renamed, are the nodes of the trees with off and on put in.
use Prim.Native.Nat.{ℕ, suc, ◌+◌}
use mathlib.Core.Path.{◌≡◌, refl, sym, ap, ap₂, ◌∙◌, subst}
use mathlib.Core.List.{List, ◌∷◌, ◌++◌}
use native.Mathlib.Omega.{arith}
use lib.ListN.{length, get_or}
use Rattle.format.specs.declared.Node.{Node}
use Rattle.rules.specs.Schema.{Schema}
use Rattle.rules.specs.Names.{Bound}
use Rattle.states.specs.declared.Turn.{Turn}
use Rattle.groups.specs.Groups.{before, size_of, sizes_of, ons_of, starts_from, moved, groups_from}
use Rattle.optimum.specs.Optimum.{States}
use Rattle.reading_exact.specs.Tree.{Step, repeat, new, compare, receive, send, Tree, end, fork, step, switch, words, step_node, past, write}
use Rattle.placing_exact.specs.Placement.{on_steps}
use Rattle.placing_exact.specs.Placed.{vars_below, labels, insert}
use Rattle.placing_exact.proofs.SwitchFree.{Free}
use Rattle.placing_exact.proofs.Preorder.{turn, walked}
use Rattle.placing_exact.proofs.TurnedNodes.{turned_written, turned_ons}

-- by old number from `at` on, the numbers at which the groups of these turns start, the first at `to`
abbrev pub Begun : List ℕ → ℕ → ℕ → List Turn → Type 0
Begun starts at to ts = (k : ℕ) → get_or starts (at + k) 0 ≡ get_or (starts_from to ts) k 0

module _ (starts : List ℕ) where
  begun_first : (at to : ℕ) (t : Turn) (ts : List Turn) → Begun starts at to (t ∷ ts) → get_or starts at 0 ≡ to
  unfolding starts_from
  begun_first at to t ts h = let e : at ≡ at + 0 = omega arith in ap (λ (i : ℕ). get_or starts i 0) e ∙ h 0

  begun_next : (at to : ℕ) (t : Turn) (ts : List Turn) → Begun starts at to (t ∷ ts) → Begun starts (suc at) (suc (to + length (before t))) ts
  unfolding starts_from
  begun_next at to t ts h k =
      let e : suc at + k ≡ at + suc k = omega arith in
      let e' : to + size_of t ≡ suc (to + length (before t)) = omega arith in
      ap (λ (i : ℕ). get_or starts i 0) e ∙ h (suc k) ∙ ap (λ (i : ℕ). get_or (starts_from i ts) k 0) e'

  begun_at : (at to to' : ℕ) (ts : List Turn) → to ≡ to' → Begun starts at to ts → Begun starts at to' ts
  begun_at at to to' ts e h = subst (λ (i : ℕ). Begun starts at i ts) e h

-- only a fork names a node
step_moved : (starts : List ℕ) (s : Step) → moved starts (step_node s) ≡ step_node s
step_moved starts repeat = refl
step_moved starts (new k) = refl
step_moved starts (compare a b) = refl
step_moved starts (receive c) = refl
step_moved starts (send c v) = refl

module _ (D : Schema) (u : ℕ) where
  -- how many nodes stand for a tree
  pub tree_sizes : (at p : ℕ) (vs : List Bound) (t : Tree) (a : States (labels D u vs t)) (ts : List Turn)
      → at + sizes_of (walked (labels D u vs t) p a ts) ≡ past at (insert D u p vs t a) + sizes_of ts
  unfolding insert walked sizes_of past
  tree_sizes at p vs end a ts = omega (arith, (turned_written at p a.0 end).0)
  tree_sizes at p vs (fork x y) a ts =
      let s : ℕ = a.0 in
      let x' : Tree = insert D u s vs x a.1 in
      let y' : Tree = insert D u s vs y a.2 in
      let b : ℕ = suc (at + length (before (turn p s))) in
      omega (
        arith,
        (turned_written at p s (fork x' y')).0,
        tree_sizes b s vs x a.1 (walked (labels D u vs y) s a.2 ts),
        tree_sizes (past b x') s vs y a.2 ts,
      )
  tree_sizes at p vs (step z t) a ts =
      let s : ℕ = a.0 in
      let t' : Tree = insert D u s (vars_below D u vs z) t a.1 in
      let b : ℕ = suc (at + length (before (turn p s))) in
      omega (arith, (turned_written at p s (step z t')).0, tree_sizes b s (vars_below D u vs z) t a.1 ts)
  tree_sizes at p vs (switch w r t) a ts = tree_sizes at p vs t a ts

  -- the on steps
  pub tree_ons : (p : ℕ) (vs : List Bound) (t : Tree) (a : States (labels D u vs t)) (ts : List Turn)
      → ons_of (walked (labels D u vs t) p a ts) ≡ on_steps (insert D u p vs t a) + ons_of ts
  unfolding insert walked ons_of on_steps
  tree_ons p vs end a ts = omega (arith, turned_ons p a.0 end)
  tree_ons p vs (fork x y) a ts =
      let s : ℕ = a.0 in
      let x' : Tree = insert D u s vs x a.1 in
      let y' : Tree = insert D u s vs y a.2 in
      omega (arith, turned_ons p s (fork x' y'), tree_ons s vs x a.1 (walked (labels D u vs y) s a.2 ts), tree_ons s vs y a.2 ts)
  tree_ons p vs (step z t) a ts =
      let s : ℕ = a.0 in
      let t' : Tree = insert D u s (vars_below D u vs z) t a.1 in
      omega (arith, turned_ons p s (step z t'), tree_ons s (vars_below D u vs z) t a.1 ts)
  tree_ons p vs (switch w r t) a ts = tree_ons p vs t a ts

  module _ (starts : List ℕ) where
    -- where a tree's groups begin
    pub tree_begins : (at to p : ℕ) (vs : List Bound) (t : Tree) (a : States (labels D u vs t)) (ts : List Turn)
        → Begun starts at to (walked (labels D u vs t) p a ts) → get_or starts at 0 ≡ to
    unfolding walked
    tree_begins at to p vs end a ts h = begun_first starts at to (turn p a.0) ts h
    tree_begins at to p vs (fork x y) a ts h = begun_first starts at to (turn p a.0) _ h
    tree_begins at to p vs (step s t) a ts h = begun_first starts at to (turn p a.0) _ h
    tree_begins at to p vs (switch w r t) a ts h = tree_begins at to p vs t a ts h

    -- and where what follows it does
    pub tree_past : (at to p : ℕ) (vs : List Bound) (t : Tree) (a : States (labels D u vs t)) (ts : List Turn) → Free t
        → Begun starts at to (walked (labels D u vs t) p a ts) → Begun starts (past at t) (past to (insert D u p vs t a)) ts
    unfolding walked insert past
    tree_past at to p vs end a ts f h = begun_at starts (suc at) _ _ ts (sym (turned_written to p a.0 end).0) (begun_next starts at to (turn p a.0) ts h)
    tree_past at to p vs (fork x y) a ts f h =
        let s : ℕ = a.0 in
        let x' : Tree = insert D u s vs x a.1 in
        let y' : Tree = insert D u s vs y a.2 in
        let b : ℕ = suc (to + length (before (turn p s))) in
        let ts' : List Turn = walked (labels D u vs y) s a.2 ts in
        let one : Begun starts (suc at) b (walked (labels D u vs x) s a.1 ts') = begun_next starts at to (turn p s) _ h in
        let two : Begun starts (past (suc at) x) (past b x') ts' = tree_past (suc at) b s vs x a.1 ts' f.0 one in
        begun_at starts (past (past (suc at) x) y) _ _ ts (sym (turned_written to p s (fork x' y')).0)
        (tree_past (past (suc at) x) (past b x') s vs y a.2 ts f.1 two)
    tree_past at to p vs (step z t) a ts f h =
        let s : ℕ = a.0 in
        let t' : Tree = insert D u s (vars_below D u vs z) t a.1 in
        let b : ℕ = suc (to + length (before (turn p s))) in
        begun_at starts (past (suc at) t) _ _ ts (sym (turned_written to p s (step z t')).0)
        (tree_past (suc at) b s (vars_below D u vs z) t a.1 ts f (begun_next starts at to (turn p s) _ h))
    tree_past at to p vs (switch w r t) a ts f h = absurd f

    -- each node with its group
    pub tree_groups : (at to p : ℕ) (vs : List Bound) (t : Tree) (a : States (labels D u vs t)) (ns : List Node) (ts : List Turn) → Free t
        → Begun starts at to (walked (labels D u vs t) p a ts)
        → groups_from starts (write at t ns) (walked (labels D u vs t) p a ts) ≡ write to (insert D u p vs t a) (groups_from starts ns ts)
    unfolding walked insert write groups_from
    tree_groups at to p vs end a ns ts f h = sym ((turned_written to p a.0 end).1 (groups_from starts ns ts))
    tree_groups at to p vs (fork x y) a ns ts f h =
        let s : ℕ = a.0 in
        let x' : Tree = insert D u s vs x a.1 in
        let y' : Tree = insert D u s vs y a.2 in
        let b : ℕ = suc (to + length (before (turn p s))) in
        let k : ℕ = past (suc at) x in
        let ts' : List Turn = walked (labels D u vs y) s a.2 ts in
        let one : Begun starts (suc at) b (walked (labels D u vs x) s a.1 ts') = begun_next starts at to (turn p s) _ h in
        let two : Begun starts k (past b x') ts' = tree_past (suc at) b s vs x a.1 ts' f.0 one in
        let second : get_or starts k 0 ≡ past b x' = tree_begins k (past b x') s vs y a.2 ts two in
        let right : groups_from starts (write k y ns) ts' ≡ write (past b x') y' (groups_from starts ns ts)
        = tree_groups k (past b x') s vs y a.2 ns ts f.1 two in
        let left : groups_from starts (write (suc at) x (write k y ns)) (walked (labels D u vs x) s a.1 ts') ≡ write b x' (write (past b x') y' (groups_from starts ns ts))
        = tree_groups (suc at) b s vs x a.1 (write k y ns) ts' f.0 one ∙ ap (write b x') right in
        ap₂ {C = List Node} (λ (j : ℕ) (l : List Node). before (turn p s) ++ words 1 j 0 ∷ l) second left
        ∙ sym ((turned_written to p s (fork x' y')).1 (groups_from starts ns ts))
    tree_groups at to p vs (step z t) a ns ts f h =
        let s : ℕ = a.0 in
        let t' : Tree = insert D u s (vars_below D u vs z) t a.1 in
        let b : ℕ = suc (to + length (before (turn p s))) in
        let more : groups_from starts (write (suc at) t ns) (walked (labels D u (vars_below D u vs z) t) s a.1 ts) ≡ write b t' (groups_from starts ns ts)
        = tree_groups (suc at) b s (vars_below D u vs z) t a.1 ns ts f (begun_next starts at to (turn p s) _ h) in
        ap₂ {C = List Node} (λ (n : Node) (l : List Node). before (turn p s) ++ n ∷ l) (step_moved starts z) more
        ∙ sym ((turned_written to p s (step z t')).1 (groups_from starts ns ts))
    tree_groups at to p vs (switch w r t) a ns ts f h = absurd f
