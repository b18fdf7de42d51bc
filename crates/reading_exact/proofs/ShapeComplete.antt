-- Trees that bind at most eight variables on a path, with their roots, pass refusal 8.
use Prim.Native.Nat.{ℕ, suc, ◌+◌, ◌-◌, ◌≤◌, ◌<◌}
use mathlib.Core.Path.{◌≡◌, refl, sym, ap, ◌∙◌}
use mathlib.Core.Bool.{true}
use mathlib.Core.List.{List, [], ◌∷◌, map}
use native.Mathlib.Omega.{arith}
use Rattle.format.specs.Answers.{fine}
use Rattle.format.specs.Stacks.{top}
use Rattle.trees.specs.Ends.{following}
use Rattle.trees.specs.Shape.{bound_of, root_fits, shape_from}
use Rattle.format.specs.declared.Node.{Node}
use Rattle.trees.specs.declared.Due.{Due}
use Rattle.trees.specs.declared.Due.TheVariants.{Root, Child}
use Rattle.trees.proofs.FitsLaws.{passed, second_iff}
use Rattle.reading_exact.specs.Lists.{All}
use Rattle.reading_exact.specs.Tree.{Tree, end, fork, step, switch, step_node, switch_node, past, write, flatten, binders, height}
use Rattle.reading_exact.proofs.TreeEnds.{past_more, following_write}
use Rattle.reading_exact.proofs.NodeSorts.{ends, forks, node_of}
use Rattle.reading_exact.proofs.Standing.{roots_of, DueTrees, roots_stand}
use Rattle.reading_exact.proofs.TreeNodes.{step_fits, step_onward, switch_fits, switch_onward}

-- a written tree is passed
written : (i : ℕ) (t : Tree) (ns : List Node) (d : Due) (st : List Due) → root_fits i d ≡ true → height t ≤ 8 - bound_of d
    → shape_from i (write i t ns) (d ∷ st) ≡ shape_from (past i t) ns st
unfolding write past height
written i end ns d st r l = passed i (node_of 0 ends) ns d st (r, omega arith, refl, refl, refl)
written i (fork a b) ns d st r l =
    let k : ℕ = past (suc i) a in
    let ms : List Node = write (suc i) a (write k b ns) in
    let e : k ≡ top (following (suc i) ms) = sym (ap top (following_write (suc i) a (write k b ns))) in
    let l' : 0 < top (following (suc i) ms) = omega (arith, past_more (suc i) a) in
    passed i (node_of k forks) ms d st (r, omega arith, refl, (second_iff (node_of k forks) (top (following (suc i) ms)) refl l').1 e, refl)
    ∙ written (suc i) a (write k b ns) (Child (bound_of d)) (Child (bound_of d) ∷ st) refl (omega arith)
    ∙ written k b ns (Child (bound_of d)) st refl (omega arith)
written i (step s t) ns d st r l =
    passed i (step_node s) (write (suc i) t ns) d st (step_fits i s d (top (following (suc i) (write (suc i) t ns))) r (omega arith))
    ∙ ap (shape_from (suc i) (write (suc i) t ns)) (step_onward s d st)
    ∙ written (suc i) t ns (Child (bound_of d + binders s)) st refl (omega arith)
written i (switch w q t) ns d st r l =
    passed i (switch_node w q) (write (suc i) t ns) d st (switch_fits i w q d (top (following (suc i) (write (suc i) t ns))) r)
    ∙ ap (shape_from (suc i) (write (suc i) t ns)) (switch_onward w q d st)
    ∙ written (suc i) t ns (Child (bound_of d)) st refl l

all_written : (i : ℕ) (st : List Due) (ts : List Tree) → DueTrees i st ts → shape_from i (flatten i ts) st ≡ fine
unfolding shape_from flatten
all_written i [] [] h = refl
all_written i [] (t ∷ ts) h = absurd h
all_written i (d ∷ st) [] h = absurd h
all_written i (d ∷ st) (t ∷ ts) h = written i t (flatten (past i t) ts) d st h.0 h.1 ∙ all_written (past i t) st ts h.2

pub shape_complete : (ts : List Tree) → All (λ t. height t ≤ 8) ts → shape_from 1 (flatten 1 ts) (map Root (roots_of 1 ts)) ≡ fine
shape_complete ts h = all_written 1 (map Root (roots_of 1 ts)) ts (roots_stand 1 ts h)
