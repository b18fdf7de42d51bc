-- The nodes of tag 7 of a file are the on steps of its trees, each counted once.
use Prim.Native.Nat.{ℕ, suc, ◌+◌}
use mathlib.Core.Path.{◌≡◌, refl}
use mathlib.Core.List.{List, [], ◌∷◌}
use native.Mathlib.Omega.{arith}
use Rattle.format.specs.declared.Node.{Node}
use Rattle.reading_exact.specs.Tree.{repeat, new, compare, receive, send, on, off, Tree, end, fork, step, switch, past, write, flatten}
use Rattle.reading_exact.specs.File.{File, nodes_of}
use Rattle.reading_exact.proofs.FileContents.{trees_of}
use Rattle.placing_exact.specs.Placement.{on_steps, on_steps_of}
use Rattle.placing_exact.specs.Counts.{on_nodes}

pub tree_on_nodes : (i : ℕ) (t : Tree) (ns : List Node) → on_nodes (write i t ns) ≡ on_steps t + on_nodes ns
unfolding write on_steps on_nodes
tree_on_nodes i end ns = omega arith
tree_on_nodes i (fork a b) ns = omega (arith, tree_on_nodes (suc i) a (write (past (suc i) a) b ns), tree_on_nodes (past (suc i) a) b ns)
tree_on_nodes i (step repeat t) ns = omega (arith, tree_on_nodes (suc i) t ns)
tree_on_nodes i (step (new k) t) ns = omega (arith, tree_on_nodes (suc i) t ns)
tree_on_nodes i (step (compare a b) t) ns = omega (arith, tree_on_nodes (suc i) t ns)
tree_on_nodes i (step (receive c) t) ns = omega (arith, tree_on_nodes (suc i) t ns)
tree_on_nodes i (step (send c v) t) ns = omega (arith, tree_on_nodes (suc i) t ns)
tree_on_nodes i (switch on r t) ns = omega (arith, tree_on_nodes (suc i) t ns)
tree_on_nodes i (switch off r t) ns = omega (arith, tree_on_nodes (suc i) t ns)

pub trees_on_nodes : (i : ℕ) (ts : List Tree) → on_nodes (flatten i ts) ≡ on_steps_of ts
unfolding flatten on_steps_of on_nodes
trees_on_nodes i [] = refl
trees_on_nodes i (t ∷ ts) = omega (arith, tree_on_nodes i t (flatten (past i t) ts), trees_on_nodes (past i t) ts)

pub on_nodes_lem : (G : File) → on_nodes (nodes_of G) ≡ on_steps_of (trees_of G.sessions)
on_nodes_lem G = trees_on_nodes 1 (trees_of G.sessions)
