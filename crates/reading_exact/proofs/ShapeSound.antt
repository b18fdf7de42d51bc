-- What passes refusal 8 is trees one after the other, each beginning at its root word, with at most eight variables on a path.
use Prim.Native.Nat.{ℕ, suc, ◌+◌, ◌≤◌, ◌<◌}
use mathlib.Core.Path.{◌≡◌, refl, sym, ap, ap₂, subst}
use mathlib.Core.Bool.{Bool, true, false, cond}
use mathlib.Core.List.{List, [], ◌∷◌, map}
use native.Mathlib.Omega.{arith}
use Rattle.format.specs.Answers.{fine, refused}
use Rattle.format.specs.Stacks.{top}
use Rattle.trees.specs.Ends.{following}
use Rattle.trees.specs.Shape.{bound_of, root_fits, second_fits, variable_fits, node_fits, due_after, shape_from}
use Rattle.format.specs.declared.Verdict.{Verdict}
use Rattle.format.specs.declared.Node.{Node}
use Rattle.trees.specs.declared.Due.{Due}
use Rattle.trees.specs.declared.Due.TheVariants.{Root, Child}
use Rattle.trees.proofs.FitsLaws.{Fitting, fits_apart, second_iff}
use Rattle.reading_exact.specs.Lists.{All}
use Rattle.reading_exact.specs.Tree.{Step, Switch, Tree, end, fork, step, switch, step_node, switch_node, past, write, flatten, binders, height}
use Rattle.reading_exact.proofs.TreeEnds.{past_more, following_write}
use Rattle.reading_exact.proofs.NodeSorts.{Sort, ends, forks, steps, switches, node_of, sort_of, words_sort}
use Rattle.reading_exact.proofs.Standing.{roots_of, DueTrees, stands_roots}
use Rattle.reading_exact.proofs.TreeNodes.{step_room, step_onward, switch_onward}

-- nodes that are trees that are due
abbrev TreesDue : ℕ → List Node → List Due → Type 0
TreesDue i ns st = (ts : List Tree) × (ns ≡ flatten i ts) × DueTrees i st ts

-- a node that fits, before trees that are due
due_end : (i : ℕ) (d : Due) (ns : List Node) (st : List Due) → root_fits i d ≡ true → TreesDue (suc i) ns st → TreesDue i (node_of 0 ends ∷ ns) (d ∷ st)
unfolding flatten write past height
due_end i d ns st r h = (end ∷ h.0, ap (node_of 0 ends ∷◌) h.1, (r, omega arith, h.2))

due_fork : (i k : ℕ) (d : Due) (ns : List Node) (st : List Due) → root_fits i d ≡ true → second_fits (node_of k forks) (top (following (suc i) ns)) ≡ true
    → TreesDue (suc i) ns (Child (bound_of d) ∷ Child (bound_of d) ∷ st) → TreesDue i (node_of k forks ∷ ns) (d ∷ st)
unfolding flatten write past height
due_fork i k d ns st r s h = go h.0 h.1 h.2
  where
    go : (ts : List Tree) → ns ≡ flatten (suc i) ts → DueTrees (suc i) (Child (bound_of d) ∷ Child (bound_of d) ∷ st) ts → TreesDue i (node_of k forks ∷ ns) (d ∷ st)
    go [] e q = absurd q
    go (a ∷ []) e q = absurd q.2
    go (a ∷ b ∷ ts) e q =
        let f : top (following (suc i) ns) ≡ past (suc i) a = rw e (ap top (following_write (suc i) a (flatten (past (suc i) a) (b ∷ ts)))) in
        let l : 0 < past (suc i) a = omega (arith, past_more (suc i) a) in
        let k' : k ≡ past (suc i) a = (second_iff (node_of k forks) (past (suc i) a) refl l).0 (rw f at s) in
        (fork a b ∷ ts, ap₂ (λ (x : ℕ) (m : List Node). node_of x forks ∷ m) k' e, (r, omega arith, q.2.2))

due_step : (i : ℕ) (o : Step) (d : Due) (ns : List Node) (st : List Due) → root_fits i d ≡ true → variable_fits (step_node o) d ≡ true
    → TreesDue (suc i) ns (Child (bound_of d + binders o) ∷ st) → TreesDue i (step_node o ∷ ns) (d ∷ st)
unfolding flatten write past height
due_step i o d ns st r m h = go h.0 h.1 h.2
  where
    go : (ts : List Tree) → ns ≡ flatten (suc i) ts → DueTrees (suc i) (Child (bound_of d + binders o) ∷ st) ts → TreesDue i (step_node o ∷ ns) (d ∷ st)
    go [] e q = absurd q
    go (t ∷ ts) e q = (step o t ∷ ts, ap (step_node o ∷◌) e, (r, step_room o d (height t) m q.1, q.2))

due_switch : (i : ℕ) (w : Switch) (x : ℕ) (d : Due) (ns : List Node) (st : List Due) → root_fits i d ≡ true
    → TreesDue (suc i) ns (Child (bound_of d) ∷ st) → TreesDue i (switch_node w x ∷ ns) (d ∷ st)
unfolding flatten write past height
due_switch i w x d ns st r h = go h.0 h.1 h.2
  where
    go : (ts : List Tree) → ns ≡ flatten (suc i) ts → DueTrees (suc i) (Child (bound_of d) ∷ st) ts → TreesDue i (switch_node w x ∷ ns) (d ∷ st)
    go [] e q = absurd q
    go (t ∷ ts) e q = (switch w x t ∷ ts, ap (switch_node w x ∷◌) e, (r, q.1, q.2))

due_sort : (i k : ℕ) (s : Sort) (d : Due) (ns : List Node) (st : List Due) → Fitting i (node_of k s) d (top (following (suc i) ns))
    → TreesDue (suc i) ns (due_after (node_of k s) d st) → TreesDue i (node_of k s ∷ ns) (d ∷ st)
due_sort i k ends d ns st f h = due_end i d ns st f.0 h
due_sort i k forks d ns st f h = due_fork i k d ns st f.0 f.3 h
due_sort i k (steps o) d ns st f h = due_step i o d ns st f.0 f.4 (subst (TreesDue (suc i) ns) (step_onward o d st) h)
due_sort i k (switches w x) d ns st f h = due_switch i w x d ns st f.0 (subst (TreesDue (suc i) ns) (switch_onward w x d st) h)

due_node : (i : ℕ) (n : Node) (d : Due) (ns : List Node) (st : List Due) → Fitting i n d (top (following (suc i) ns))
    → TreesDue (suc i) ns (due_after n d st) → TreesDue i (n ∷ ns) (d ∷ st)
due_node i n d ns st f h =
    subst (λ (m : Node). Fitting i m d (top (following (suc i) ns)) → TreesDue (suc i) ns (due_after m d st) → TreesDue i (m ∷ ns) (d ∷ st))
    (sym (words_sort n.tag n.f1 n.f2 f.1 f.2))
    (due_sort i n.f1 (sort_of n.tag n.f1 n.f2) d ns st) f h

not_fine : (i : ℕ) → refused 8 i ≡ fine → ⊥
not_fine i e = let z : ◌≡◌ {A = ℕ} 8 0 = ap (λ (v : Verdict). v.number) e in omega arith

all_due : (i : ℕ) (ns : List Node) (st : List Due) → shape_from i ns st ≡ fine → TreesDue i ns st
unfolding shape_from flatten
all_due i [] [] h = ([], refl, tt)
all_due i [] (d ∷ st) h = absurd (not_fine i h)
all_due i (n ∷ ns) [] h = absurd (not_fine i h)
all_due i (n ∷ ns) (d ∷ st) h = go (node_fits i n d (top (following (suc i) ns))) refl h (all_due (suc i) ns (due_after n d st))
  where
    go : (b : Bool) → node_fits i n d (top (following (suc i) ns)) ≡ b → cond b (shape_from (suc i) ns (due_after n d st)) (refused 8 i) ≡ fine
        → (shape_from (suc i) ns (due_after n d st) ≡ fine → TreesDue (suc i) ns (due_after n d st)) → TreesDue i (n ∷ ns) (d ∷ st)
    go true e q ih = due_node i n d ns st ((fits_apart i n d (top (following (suc i) ns))).0 e) (ih q)
    go false e q ih = absurd (not_fine i q)

pub shape_sound : (ns : List Node) (roots : List ℕ) → shape_from 1 ns (map Root roots) ≡ fine
    → (ts : List Tree) × (ns ≡ flatten 1 ts) × (roots ≡ roots_of 1 ts) × All (λ t. height t ≤ 8) ts
shape_sound ns roots h =
    let l = all_due 1 ns (map Root roots) h in
    let r = stands_roots 1 roots l.0 l.2 in
    (l.0, l.1, r.0, r.1)
