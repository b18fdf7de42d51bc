-- Where on and off are put in by states, the nodes held idly are those of tags 0 to 4 in a state other than 0.
use Prim.Native.Nat.{ℕ, zero, suc, ◌+◌}
use mathlib.Core.Path.{◌≡◌, refl, sym, ap, ◌∙◌, subst}
use mathlib.Core.Bool.{Bool, true, false, cond}
use mathlib.Core.List.{List, [], ◌∷◌}
use native.Mathlib.Omega.{arith}
use lib.Dec.{eqb, ltb}
use borrow.Author.Tests.{eqb-true}
use Rattle.masks.specs.Mask.{with, without}
use Rattle.format.specs.declared.Node.{Node}
use Rattle.rules.specs.Schema.{Schema}
use Rattle.rules.specs.Names.{Bound}
use Rattle.optimum.specs.Optimum.{nil, node, States, listed, weight}
use Rattle.states.specs.States.{Label, idle}
use Rattle.reading_exact.specs.Lists.{All}
use Rattle.reading_exact.specs.Tree.{Step, Tree, end, fork, step, switch, on, off, words, step_node, past, write, flatten}
use Rattle.reading_exact.specs.File.{Routine}
use Rattle.reading_exact.proofs.FileContents.{trees_of}
use Rattle.placing_exact.specs.Placement.{plain, grafted}
use Rattle.placing_exact.specs.Placed.{label, vars_below, labels, leave, enter, turned, insert, AllStates, listed_all, insert_all}
use Rattle.placing_exact.specs.Idle.{some_role, idle_step, idle_nodes, idle_nodes_of, idle_among}
use Rattle.placing_exact.proofs.HeldRole.{Is, is_empty, is_with, is_without}
use Rattle.placing_exact.proofs.SwitchFree.{Free, free_iff}
use Rattle.placing_exact.proofs.IdleCosts.{idling, idle_tag, step_tag, some_held, step_held}

-- off and on aren't counted, and leave the node's own state
idle_turned : (m p s : ℕ) (t : Tree) (k : ℕ) → Is m p → ((n : ℕ) → Is n s → idle_nodes n t ≡ k) → idle_nodes m (turned p s t) ≡ k
unfolding turned leave enter idle_nodes
idle_turned m p s t k i h = go p s i h (eqb p s) refl
  where
    entered : (n s : ℕ) → Is n 0 → ((n : ℕ) → Is n s → idle_nodes n t ≡ k) → idle_nodes n (enter s t) ≡ k
    entered n zero j h = h n j
    entered n (suc s) j h = h (with n (suc s)) (is_with n s j)

    go : (p s : ℕ) → Is m p → ((n : ℕ) → Is n s → idle_nodes n t ≡ k) → (b : Bool) → eqb p s ≡ b → idle_nodes m (cond b t (leave p (enter s t))) ≡ k
    go p s i h true e = h m (rw (eqb-true p s e) at i)
    go zero s i h false e = entered m s i h
    go (suc p) s i h false e = entered (without m (suc p)) s (is_without m p i) h

module _ (D : Schema) (u : ℕ) where
  -- a node by its label, by its state, and by the active set
  pub end_idle : (vs : List Bound) (m s : ℕ) → Is m s → some_role m ≡ idle (label D u vs (words 0 0 0)) s
  end_idle vs m s i = some_held m s i ∙ sym (idle_tag (label D u vs (words 0 0 0)) s)

  pub fork_idle : (vs : List Bound) (m s : ℕ) → Is m s → some_role m ≡ idle (label D u vs (words 1 0 0)) s
  fork_idle vs m s i = some_held m s i ∙ sym (idle_tag (label D u vs (words 1 0 0)) s)

  pub step_idle : (vs : List Bound) (z : Step) (m s : ℕ) → Is m s → idle_step m z ≡ idle (label D u vs (step_node z)) s
  step_idle vs z m s i = step_held z m s i ∙ sym (step_tag z s) ∙ sym (idle_tag (label D u vs (step_node z)) s)

  pub idle_insert : (m p : ℕ) (vs : List Bound) (t : Tree) (a : States (labels D u vs t)) → Is m p
      → idle_nodes m (insert D u p vs t a) ≡ weight idling p (labels D u vs t) a
  unfolding insert weight idle_nodes
  idle_insert m p vs end a i = idle_turned m p a.0 end _ i (λ n j. omega (arith, end_idle vs n a.0 j))
  idle_insert m p vs (fork x y) a i =
      idle_turned m p a.0 (fork (insert D u a.0 vs x a.1) (insert D u a.0 vs y a.2)) _ i
      (λ n j. omega (arith, fork_idle vs n a.0 j, idle_insert n a.0 vs x a.1 j, idle_insert n a.0 vs y a.2 j))
  idle_insert m p vs (step z t) a i =
      idle_turned m p a.0 (step z (insert D u a.0 (vars_below D u vs z) t a.1)) _ i
      (λ n j. omega (arith, step_idle vs z n a.0 j, idle_insert n a.0 (vars_below D u vs z) t a.1 j))
  idle_insert m p vs (switch w r t) a i = idle_insert m p vs t a i

  -- in words, of a tree without on and off
  idle_words : (i p : ℕ) (vs : List Bound) (t : Tree) (a : States (labels D u vs t)) (ns : List Node) (xs : List ℕ) → Free t
      → idle_among (write i t ns) (listed (labels D u vs t) a xs) ≡ weight idling p (labels D u vs t) a + idle_among ns xs
  unfolding write listed weight idle_among
  idle_words i p vs end a ns xs f = omega (arith, idle_tag (label D u vs (words 0 0 0)) a.0)
  idle_words i p vs (fork x y) a ns xs f =
      omega (
        arith,
        idle_tag (label D u vs (words 1 0 0)) a.0,
        idle_words (suc i) a.0 vs x a.1 (write (past (suc i) x) y ns) (listed (labels D u vs y) a.2 xs) f.0,
        idle_words (past (suc i) x) a.0 vs y a.2 ns xs f.1,
      )
  idle_words i p vs (step z t) a ns xs f =
      omega (arith, idle_tag (label D u vs (step_node z)) a.0, idle_words (suc i) a.0 (vars_below D u vs z) t a.1 ns xs f)
  idle_words i p vs (switch w r t) a ns xs f = absurd f

-- of all sessions: what is held through in the trees with these states, and in words
pub all_idle : (D : Schema) (i : ℕ) (ss : List Routine) (a : AllStates D ss) → All (λ (s : Routine). (s.mask ≡ 0) × (plain s.tree ≡ s.tree)) ss
    → idle_nodes_of (grafted ss (insert_all D ss a)) ≡ idle_among (flatten i (trees_of ss)) (listed_all D ss a)
unfolding grafted insert_all listed_all flatten idle_nodes_of idle_among
all_idle D i [] a b = refl
all_idle D i (s ∷ ss) a b =
    let none : Is s.mask 0 = subst (λ (m : ℕ). Is m 0) (sym b.0.0) is_empty in
    omega (
      arith,
      idle_insert D s.user s.mask 0 [] s.tree a.0 none,
      idle_words D s.user i 0 [] s.tree a.0 (flatten (past i s.tree) (trees_of ss)) (listed_all D ss a.1) ((free_iff s.tree).0 b.0.1),
      all_idle D (past i s.tree) ss a.1 b.1,
    )
