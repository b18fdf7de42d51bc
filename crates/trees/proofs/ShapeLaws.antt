-- The stack of trees due in an array, and one turn of the walk over the nodes.
use Prim.Native.Nat.{ℕ, zero, suc, ◌+◌, ◌-◌, ◌≤◌, ◌<◌}
use mathlib.Core.Path.{◌≡◌, refl, sym, ap, ◌∙◌}
use mathlib.Core.Bool.{Bool, true, false, cond}
use mathlib.Core.List.{List, [], ◌∷◌}
use native.Mathlib.Omega.{arith}
use native.Mathlib.Numerals.{add-one}
use lib.ListN.{length, get_or, set, drop}
use lib.Dec.{eqb}
use Rattle.format.specs.Answers.{fine, refused}
use Rattle.format.specs.Contents.{item, no_session, no_node}
use Rattle.format.specs.Stacks.{stacked, top}
use Rattle.trees.specs.Ends.{following, table_from, table_of}
use Rattle.trees.specs.Shape.{bound_of, node_fits, bound_below, depth_after, due_after, shape_from, roots}
use Rattle.format.specs.declared.Verdict.{Verdict}
use Rattle.format.specs.declared.Session.{Session}
use Rattle.format.specs.declared.Node.{Node}
use Rattle.trees.specs.declared.Due.{Due}
use Rattle.trees.specs.declared.Due.TheVariants.{Root, Child}
use Rattle.format.proofs.ContentsLaws.{from_item, from_node, none_past}
use Rattle.format.proofs.StackLaws.{stacked_push, stacked_spread}
use Rattle.trees.proofs.EndsLaws.{table_head, table_length}

-- what stands past the end of an array
abbrev pub blank : Due
blank = Root 0

-- the roots, last session first
pub roots_push : (ss : List Session) (s d : ℕ) (a : List Due) → length ss ≡ s → d < s → d < length a
    → stacked blank a d ≡ roots (drop (s - d) ss)
    → stacked blank (set a d (Root (item no_session ss (s - d)).root)) (d + 1) ≡ roots (drop (s - (d + 1)) ss)
unfolding roots
roots_push ss s d a all h l e =
    let one : s - (d + 1) ≡ s - d - 1 = omega arith in
    rw (one, from_item no_session ss (s - d) (omega arith) (omega arith), stacked_push blank a d (Root (item no_session ss (s - d)).root) l, e)

-- what is due after a node, in the array
pub due_after_lem : (n : Node) (a : List Due) (d : ℕ) (x : Due) → 0 < d → d < length a
    → stacked blank (set (set a (d - 1) (Child (bound_below n.tag (bound_of x)))) d (Child (bound_below n.tag (bound_of x)))) (depth_after n.tag d)
    ≡ due_after n x (stacked blank a (d - 1))
due_after_lem n a d x pos h = stacked_spread blank a d (Child (bound_below n.tag (bound_of x))) (eqb n.tag 0) (eqb n.tag 1) pos h

pub depth_most : (tag d : ℕ) → depth_after tag d ≤ d + 1
depth_most tag d = go (eqb tag 0) (eqb tag 1)
  where
    go : (p q : Bool) → cond p (d - 1) (cond q (d + 1) d) ≤ d + 1
    go true q = omega arith
    go false true = omega arith
    go false false = omega arith

-- the table of ends holds the end of the next node's tree
table_from_lem : (k : ℕ) (ns : List Node) (i : ℕ) → i ≤ length ns → get_or (table_from k ns) i 0 ≡ top (following (k + i) (drop i ns))
unfolding table_from
table_from_lem k ns zero h = let k0 : k + 0 ≡ k = omega arith in rw k0 (table_head k ns)
table_from_lem k [] (suc i) h = let no : ⊥ = omega arith in absurd no
table_from_lem k (n ∷ ns) (suc i) h = let k1 : suc k + i ≡ k + suc i = omega arith in rw k1 at (table_from_lem (suc k) ns i (omega arith))

table_next : (ends : List ℕ) (ns : List Node) (i : ℕ) → ends ≡ table_of ns → i ≤ length ns → get_or ends (i + 1) 0 ≡ top (following (suc i) (drop i ns))
unfolding table_of
table_next ends ns i e h =
    let one : 1 + i ≡ suc i = omega arith in
    rw (e, add-one i) (rw one at (table_from_lem 1 ns i h))

pub table_size : (ends : List ℕ) (ns : List Node) → ends ≡ table_of ns → length ends ≡ length ns + 2
unfolding table_of
table_size ends ns e = ap length e ∙ omega (arith, table_length 1 ns)

-- a turn: the node at i is judged, and the walk goes on with what is due then
turn : (ends : List ℕ) (ns : List Node) (i : ℕ) (d : Due) (st : List Due) → ends ≡ table_of ns → 1 ≤ i → i ≤ length ns
    → shape_from i (drop (i - 1) ns) (d ∷ st)
    ≡ cond (node_fits i (item no_node ns i) d (get_or ends (i + 1) 0)) (shape_from (i + 1) (drop (i + 1 - 1) ns) (due_after (item no_node ns i) d st)) (refused 8 i)
unfolding shape_from
turn ends ns i d st e pos h = let back : i + 1 - 1 ≡ i = omega arith in rw (from_node ns i _ pos h refl, back, table_next ends ns i e h, add-one i)

-- the end of the walk
pub over_empty : (ns : List Node) (i : ℕ) → length ns < i → shape_from i (drop (i - 1) ns) [] ≡ fine
unfolding shape_from
over_empty ns i h = rw (none_past ns (i - 1) (omega arith))

pub over_due : (ns : List Node) (i : ℕ) (d : Due) (st : List Due) → length ns < i → shape_from i (drop (i - 1) ns) (d ∷ st) ≡ refused 8 i
unfolding shape_from
over_due ns i d st h = rw (none_past ns (i - 1) (omega arith))

pub left_over : (ns : List Node) (i : ℕ) → 1 ≤ i → i ≤ length ns → shape_from i (drop (i - 1) ns) [] ≡ refused 8 i
unfolding shape_from
left_over ns i pos h = rw (from_item no_node ns i pos h)

-- the same with the node, its fit and the end as the code has them
pub judged : (ends : List ℕ) (ns : List Node) (i : ℕ) (d : Due) (st : List Due) (v : Verdict) (node : Node) (fit : Bool) (e : ℕ)
    → ends ≡ table_of ns → 1 ≤ i → i ≤ length ns
    → node ≡ item no_node ns i → e ≡ get_or ends (i + 1) 0 → fit ≡ node_fits i node d e
    → shape_from i (drop (i - 1) ns) (d ∷ st) ≡ v
    → cond fit (shape_from (i + 1) (drop (i + 1 - 1) ns) (due_after node d st)) (refused 8 i) ≡ v
judged ends ns i d st v node fit e table pos h nd en ft whole = rw (ft, en, nd) (sym (turn ends ns i d st table pos h) ∙ whole)
