-- The rows of the trees that stand one after the other are the least costs of those trees, and the states taken from them are the choice's.
use Prim.Native.Nat.{ℕ, zero, suc, ◌+◌, ◌≤◌, ◌<◌}
use mathlib.Core.Path.{◌≡◌, refl, ap, ap₂, ◌∙◌}
use mathlib.Core.Bool.{cond}
use mathlib.Core.List.{List, [], ◌∷◌}
use native.Mathlib.Omega.{arith}
use lib.Dec.{ltb}
use lib.ListN.{get_or}
use Rattle.optimum.specs.Optimum.{scan, Bin, nil, node, best, choose}
use Rattle.states.specs.declared.Turn.{Turn}
use Rattle.format.specs.Stacks.{top, rest}
use Rattle.states.specs.States.{Label, cost, up, row_of, taken, first, below, beyond, rows, states_after, turns_from}
use Rattle.rules.specs.Schema.{Schema}
use Rattle.rules.specs.Names.{Bound}
use Rattle.reading_exact.specs.Tree.{Step, repeat, new, compare, receive, send, Tree, end, fork, step, switch, words, step_node}
use Rattle.reading_exact.specs.File.{Routine}
use Rattle.placing_exact.specs.Placed.{label, vars_below, labels, taking, taking_all}
use Rattle.placing_exact.proofs.Preorder.{turn, spread, walked, spread_all, walked_all}

-- one of the values from i on
up_at : (i n k : ℕ) (f : ℕ → ℕ) → k < n → get_or (up i n f) k 0 ≡ f (i + k)
unfolding up
up_at i zero k f l = let no_way : ⊥ = omega arith in absurd no_way
up_at i (suc n) zero f l = let e : i ≡ i + 0 = omega arith in ap f e
up_at i (suc n) (suc k) f l = let e : suc i + k ≡ i + suc k = omega arith in up_at (suc i) n k f (omega arith) ∙ ap f e

up_same : (i n : ℕ) (f g : ℕ → ℕ) → ((k : ℕ) → f k ≡ g k) → up i n f ≡ up i n g
unfolding up
up_same i zero f g e = refl
up_same i (suc n) f g e = ap₂ {C = List ℕ} (λ x xs. x ∷ xs) (e i) (up_same (suc i) n f g e)

-- the scan asks for the values at 0 to k only
scan_same : (k : ℕ) (f g : ℕ → ℕ) → ((s : ℕ) → s ≤ k → f s ≡ g s) → scan k f ≡ scan k g
unfolding scan
scan_same zero f g e = ap {B = ℕ × ℕ} (λ x. (0, x)) (e 0 (omega arith))
scan_same (suc k) f g e =
    ap₂ {C = ℕ × ℕ} (λ (v : ℕ) (r : ℕ × ℕ). cond (ltb v r.1) (suc k, v) r) (e (suc k) (omega arith)) (scan_same k f g (λ s l. e s (omega arith)))

-- the least costs of a tree after each of the states 0 to 16
abbrev row : Bin Label → List ℕ
row t = up 0 17 (λ p. best cost 16 p t)

row-at : (t : Bin Label) (s : ℕ) → s ≤ 16 → get_or (row t) s 0 ≡ best cost 16 s t
row-at t s l = let e : 0 + s ≡ s = omega arith in up_at 0 17 s (λ p. best cost 16 p t) (omega arith) ∙ ap (λ p. best cost 16 p t) e

-- what the children cost by the rows is what they cost
abbrev Costs : Bin Label → Bin Label → (ℕ → ℕ) → Type 0
Costs l r f = (s : ℕ) → s ≤ 16 → f s ≡ best cost 16 s l + best cost 16 s r

module _ (n : Label) (l r : Bin Label) (f : ℕ → ℕ) (same : Costs l r f) where
  scan_node : (p : ℕ) → scan 16 (λ s. cost p n s + f s) ≡ scan 16 (λ s. cost p n s + (best cost 16 s l + best cost 16 s r))
  scan_node p = scan_same 16 _ _ (λ s h. ap (λ x. cost p n s + x) (same s h))

  row_node : row_of n f ≡ row (node n l r)
  unfolding row_of best
  row_node = up_same 0 17 _ _ (λ p. ap (λ (x : ℕ × ℕ). x.1) (scan_node p))

  taken_node : (p : ℕ) → taken n f p ≡ (choose cost 16 p (node n l r)).0
  unfolding taken choose
  taken_node p = ap (λ (x : ℕ × ℕ). x.0) (scan_node p)

-- a step has one child
step_below : (s : Step) (rs : List (List ℕ)) (p : ℕ) → below (step_node s).tag rs p ≡ get_or (first rs) p 0
step_below repeat rs p = refl
step_below (new k) rs p = refl
step_below (compare a b) rs p = refl
step_below (receive c) rs p = refl
step_below (send c v) rs p = refl

step_beyond : (s : Step) (rs : List (List ℕ)) → beyond (step_node s).tag rs ≡ rest rs
step_beyond repeat rs = refl
step_beyond (new k) rs = refl
step_beyond (compare a b) rs = refl
step_beyond (receive c) rs = refl
step_beyond (send c v) rs = refl

step_onward : (s : Step) (p : ℕ) (st : List ℕ) → states_after (step_node s).tag p st ≡ p ∷ st
step_onward repeat p st = refl
step_onward (new k) p st = refl
step_onward (compare a b) p st = refl
step_onward (receive c) p st = refl
step_onward (send c v) p st = refl

module _ (D : Schema) (u : ℕ) where
  -- the children's costs, where the rows after the node are its children's first
  end_costs : (rs : List (List ℕ)) → Costs nil nil (below 0 rs)
  unfolding best
  end_costs rs s h = refl

  fork_costs : (a b : Bin Label) (rs : List (List ℕ)) → Costs a b (below 1 (row a ∷ row b ∷ rs))
  fork_costs a b rs s h = ap₂ (λ x y. x + y) (row-at a s h) (row-at b s h)

  step_costs : (s : Step) (a : Bin Label) (rs : List (List ℕ)) → Costs a nil (below (step_node s).tag (row a ∷ rs))
  unfolding best
  step_costs s a rs p h = step_below s (row a ∷ rs) p ∙ row-at a p h ∙ omega arith

  pub tree_rows : (vs : List Bound) (t : Tree) (ls : List Label) → rows (spread (labels D u vs t) ls) ≡ row (labels D u vs t) ∷ rows ls
  unfolding rows spread
  tree_rows vs end ls = ap {B = List (List ℕ)} (λ x. x ∷ rows ls) (row_node (label D u vs (words 0 0 0)) nil nil (below 0 (rows ls)) (end_costs (rows ls)))
  tree_rows vs (fork a b) ls =
      let n : Label = label D u vs (words 1 0 0) in
      let x : Bin Label = labels D u vs a in
      let y : Bin Label = labels D u vs b in
      let e : rows (spread x (spread y ls)) ≡ row x ∷ row y ∷ rows ls = tree_rows vs a (spread y ls) ∙ ap {B = List (List ℕ)} (λ q. row x ∷ q) (tree_rows vs b ls) in
      ap {B = List (List ℕ)} (λ q. row_of n (below 1 q) ∷ beyond 1 q) e
      ∙ ap {B = List (List ℕ)} (λ q. q ∷ rows ls) (row_node n x y (below 1 (row x ∷ row y ∷ rows ls)) (fork_costs x y (rows ls)))
  tree_rows vs (step s t) ls =
      let n : Label = label D u vs (step_node s) in
      let x : Bin Label = labels D u (vars_below D u vs s) t in
      let e : rows (spread x ls) ≡ row x ∷ rows ls = tree_rows (vars_below D u vs s) t ls in
      ap {B = List (List ℕ)} (λ q. row_of n (below (step_node s).tag q) ∷ beyond (step_node s).tag q) e
      ∙ ap₂ {C = List (List ℕ)} (λ q r. q ∷ r) (row_node n x nil (below (step_node s).tag (row x ∷ rows ls)) (step_costs s x (rows ls)))
      (step_beyond s (row x ∷ rows ls))
  tree_rows vs (switch w r t) ls = tree_rows vs t ls

  -- the states in node order, each with its parent's
  pub tree_turns : (vs : List Bound) (t : Tree) (ls : List Label) (st : List ℕ)
      → turns_from (spread (labels D u vs t) ls) st ≡ walked (labels D u vs t) (top st) (choose cost 16 (top st) (labels D u vs t)) (turns_from ls (rest st))
  unfolding spread walked choose turns_from
  tree_turns vs end ls st =
      let n : Label = label D u vs (words 0 0 0) in
      ap {B = List Turn} (λ q. turn (top st) q ∷ turns_from ls (rest st)) (taken_node n nil nil (below 0 (rows ls)) (end_costs (rows ls)) (top st))
  tree_turns vs (fork a b) ls st =
      let n : Label = label D u vs (words 1 0 0) in
      let x : Bin Label = labels D u vs a in
      let y : Bin Label = labels D u vs b in
      let e : rows (spread x (spread y ls)) ≡ row x ∷ row y ∷ rows ls = tree_rows vs a (spread y ls) ∙ ap {B = List (List ℕ)} (λ q. row x ∷ q) (tree_rows vs b ls) in
      let p : ℕ = top st in
      let s : ℕ = (choose cost 16 p (node n x y)).0 in
      let same : taken n (below 1 (rows (spread x (spread y ls)))) p ≡ s
      = ap (λ (q : List (List ℕ)). taken n (below 1 q) p) e ∙ taken_node n x y (below 1 (row x ∷ row y ∷ rows ls)) (fork_costs x y (rows ls)) p in
      ap {B = List Turn} (λ q. turn p q ∷ turns_from (spread x (spread y ls)) (q ∷ q ∷ rest st)) same
      ∙ ap {B = List Turn} (λ q. turn p s ∷ q)
      (tree_turns vs a (spread y ls) (s ∷ s ∷ rest st) ∙ ap (walked x s (choose cost 16 s x)) (tree_turns vs b ls (s ∷ rest st)))
  tree_turns vs (step z t) ls st =
      let n : Label = label D u vs (step_node z) in
      let x : Bin Label = labels D u (vars_below D u vs z) t in
      let p : ℕ = top st in
      let s : ℕ = (choose cost 16 p (node n x nil)).0 in
      let same : taken n (below (step_node z).tag (rows (spread x ls))) p ≡ s
      = ap (λ (q : List (List ℕ)). taken n (below (step_node z).tag q) p) (tree_rows (vars_below D u vs z) t ls)
      ∙ taken_node n x nil (below (step_node z).tag (row x ∷ rows ls)) (step_costs z x (rows ls)) p in
      ap {B = List Turn} (λ q. turn p q ∷ turns_from (spread x ls) (states_after (step_node z).tag q (rest st))) same
      ∙ ap {B = List Turn} (λ q. turn p s ∷ q)
      (ap (turns_from (spread x ls)) (step_onward z s (rest st)) ∙ tree_turns (vars_below D u vs z) t ls (s ∷ rest st))
  tree_turns vs (switch w r t) ls st = tree_turns vs t ls st

-- sessions are placed one by one
pub all_turns : (D : Schema) (ss : List Routine) → turns_from (spread_all D ss) [] ≡ walked_all D ss (taking_all D ss)
unfolding spread_all walked_all turns_from taking
all_turns D [] = refl
all_turns D (s ∷ ss) =
    let t : Bin Label = labels D s.user [] s.tree in
    tree_turns D s.user [] s.tree (spread_all D ss) [] ∙ ap (walked t 0 (choose cost 16 0 t)) (all_turns D ss)
