-- The nine sorts of node by tag, and trees read back from the right: a list of nodes is the flattening of one list of trees only.
use Prim.Native.Nat.{ℕ, zero, suc, ◌≤◌}
use mathlib.Core.Path.{◌≡◌, refl, sym, ap, ap₂, ◌∙◌}
use mathlib.Core.Bool.{true, and-eq-true_iff, ◌&&◌}
use mathlib.Core.List.{List, [], ◌∷◌}
use native.Mathlib.Omega.{arith}
use lib.Dec.{eqb}
use borrow.Author.Tests.{eqb-true}
use Rattle.trees.specs.Shape.{unused_fit}
use Rattle.format.specs.declared.Node.{Node}
use Rattle.reading_exact.specs.Tree.{Step, repeat, new, compare, receive, send, Switch, on, off, Tree, end, fork, step, switch, words, step_node, switch_node, past, write, flatten}

-- a node without a fork's f1
pub data Sort : Type 0 where
  ends forks : Sort
  steps : Step → Sort
  switches : Switch → ℕ → Sort

abbrev pub node_of : ℕ → Sort → Node
node_of k ends = words 0 0 0
node_of k forks = words 1 k 0
node_of k (steps s) = step_node s
node_of k (switches w r) = switch_node w r

-- by tag, f1 and f2; there is no tag above 8
unfoldable pub sort_of : ℕ → ℕ → ℕ → Sort
sort_of zero a b = ends
sort_of (suc zero) a b = forks
sort_of (suc (suc zero)) a b = steps repeat
sort_of (suc (suc (suc zero))) a b = steps (new a)
sort_of (suc (suc (suc (suc zero)))) a b = steps (compare a b)
sort_of (suc (suc (suc (suc (suc zero))))) a b = steps (receive a)
sort_of (suc (suc (suc (suc (suc (suc zero)))))) a b = steps (send a b)
sort_of (suc (suc (suc (suc (suc (suc (suc zero))))))) a b = switches on a
sort_of (suc (suc (suc (suc (suc (suc (suc (suc t)))))))) a b = switches off a

bare : (t a b : ℕ) → (eqb a 0 && eqb b 0) ≡ true → words t a b ≡ words t 0 0
bare t a b u = let z = (and-eq-true_iff (eqb a 0) (eqb b 0)).0 u in ap₂ (words t) (eqb-true a 0 z.0) (eqb-true b 0 z.1)

alone : (t a b : ℕ) → eqb b 0 ≡ true → words t a b ≡ words t a 0
alone t a b u = ap (words t a) (eqb-true b 0 u)

-- a tag within 8 and unused fields of 0 make a node of a sort
pub words_sort : (t a b : ℕ) → t ≤ 8 → unused_fit (words t a b) ≡ true → words t a b ≡ node_of a (sort_of t a b)
unfolding sort_of
words_sort zero a b l u = bare 0 a b u
words_sort (suc zero) a b l u = alone 1 a b u
words_sort (suc (suc zero)) a b l u = bare 2 a b u
words_sort (suc (suc (suc zero))) a b l u = alone 3 a b u
words_sort (suc (suc (suc (suc zero)))) a b l u = refl
words_sort (suc (suc (suc (suc (suc zero))))) a b l u = alone 5 a b u
words_sort (suc (suc (suc (suc (suc (suc zero)))))) a b l u = refl
words_sort (suc (suc (suc (suc (suc (suc (suc zero))))))) a b l u = alone 7 a b u
words_sort (suc (suc (suc (suc (suc (suc (suc (suc zero)))))))) a b l u = alone 8 a b u
words_sort (suc (suc (suc (suc (suc (suc (suc (suc (suc t))))))))) a b l u = let none : ⊥ = omega arith in absurd none

-- a node before trees: an end is one more, a fork takes the first two, any other the first
grew : Sort → List Tree → List Tree
grew ends ts = end ∷ ts
grew forks [] = []
grew forks (a ∷ []) = []
grew forks (a ∷ b ∷ ts) = fork a b ∷ ts
grew (steps s) [] = []
grew (steps s) (t ∷ ts) = step s t ∷ ts
grew (switches w r) [] = []
grew (switches w r) (t ∷ ts) = switch w r t ∷ ts

read_trees : List Node → List Tree
read_trees [] = []
read_trees (n ∷ ns) = grew (sort_of n.tag n.f1 n.f2) (read_trees ns)

trees_write : (i : ℕ) (t : Tree) (ns : List Node) → read_trees (write i t ns) ≡ t ∷ read_trees ns
unfolding write read_trees grew sort_of
trees_write i end ns = refl
trees_write i (fork a b) ns = rw (trees_write (suc i) a (write (past (suc i) a) b ns), trees_write (past (suc i) a) b ns)
trees_write i (step repeat t) ns = rw (trees_write (suc i) t ns)
trees_write i (step (new k) t) ns = rw (trees_write (suc i) t ns)
trees_write i (step (compare a b) t) ns = rw (trees_write (suc i) t ns)
trees_write i (step (receive c) t) ns = rw (trees_write (suc i) t ns)
trees_write i (step (send c v) t) ns = rw (trees_write (suc i) t ns)
trees_write i (switch on r t) ns = rw (trees_write (suc i) t ns)
trees_write i (switch off r t) ns = rw (trees_write (suc i) t ns)

trees_flatten : (i : ℕ) (ts : List Tree) → read_trees (flatten i ts) ≡ ts
unfolding flatten read_trees
trees_flatten i [] = refl
trees_flatten i (t ∷ ts) = trees_write i t (flatten (past i t) ts) ∙ ap (t ∷◌) (trees_flatten (past i t) ts)

pub flatten_single : (ts us : List Tree) → flatten 1 ts ≡ flatten 1 us → ts ≡ us
flatten_single ts us e = sym (trees_flatten 1 ts) ∙ ap read_trees e ∙ trees_flatten 1 us
