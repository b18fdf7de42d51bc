-- A tree's operands are words exactly where its nodes' fields are; numbers of nodes are words where the last one is.
use Prim.Native.Nat.{ℕ, suc, ◌+◌, ◌≤◌, ◌<◌}
use mathlib.Core.Path.{◌≡◌}
use mathlib.Core.List.{List, [], ◌∷◌}
use native.Mathlib.Omega.{arith}
use lib.ListN.{length}
use Rattle.format.specs.declared.Node.{Node}
use Rattle.reading_exact.specs.Lists.{All}
use Rattle.reading_exact.specs.Tree.{Step, repeat, new, compare, receive, send, Switch, on, off, Tree, end, fork, step, switch, step_node, switch_node, past, write, flatten, StepWorded, Worded}
use Rattle.reading_exact.proofs.TreeEnds.{past_more, past_length}

abbrev pub FieldsFit : Node → Type 0
FieldsFit n = (n.f1 < 65536) × (n.f2 < 65536)

abbrev pub WordsFit : Node → Type 0
WordsFit n = (n.tag < 65536) × (n.f1 < 65536) × (n.f2 < 65536)

fields_step : (s : Step) → FieldsFit (step_node s) → StepWorded s
fields_step repeat h = tt
fields_step (new k) h = h.0
fields_step (compare a b) h = h
fields_step (receive c) h = h.0
fields_step (send c v) h = h

fields_switch : (w : Switch) (r : ℕ) → FieldsFit (switch_node w r) → r < 65536
fields_switch on r h = h.0
fields_switch off r h = h.0

fields_write : (i : ℕ) (t : Tree) (ns : List Node) → All FieldsFit (write i t ns) → Worded t × All FieldsFit ns
unfolding write
fields_write i end ns h = (tt, h.1)
fields_write i (fork a b) ns h =
    let p = fields_write (suc i) a (write (past (suc i) a) b ns) h.1 in
    let q = fields_write (past (suc i) a) b ns p.1 in
    ((p.0, q.0), q.1)
fields_write i (step s t) ns h = let p = fields_write (suc i) t ns h.1 in ((fields_step s h.0, p.0), p.1)
fields_write i (switch w r t) ns h = let p = fields_write (suc i) t ns h.1 in ((fields_switch w r h.0, p.0), p.1)

pub worded_trees : (i : ℕ) (ts : List Tree) → All FieldsFit (flatten i ts) → All Worded ts
unfolding flatten
worded_trees i [] h = tt
worded_trees i (t ∷ ts) h = let p = fields_write i t (flatten (past i t) ts) h in (p.0, worded_trees (past i t) ts p.1)

step_words : (s : Step) → StepWorded s → WordsFit (step_node s)
step_words repeat h = omega arith
step_words (new k) h = omega arith
step_words (compare a b) h = omega arith
step_words (receive c) h = omega arith
step_words (send c v) h = omega arith

switch_words : (w : Switch) (r : ℕ) → r < 65536 → WordsFit (switch_node w r)
switch_words on r h = omega arith
switch_words off r h = omega arith

-- a fork's f1 is below the number after its own tree
write_words : (i : ℕ) (t : Tree) (ns : List Node) → Worded t → past i t ≤ 65536 → All WordsFit ns → All WordsFit (write i t ns)
unfolding write past
write_words i end ns w l h = (omega arith, h)
write_words i (fork a b) ns w l h =
    let m : past (suc i) a < past (past (suc i) a) b = past_more (past (suc i) a) b in
    (omega arith, write_words (suc i) a (write (past (suc i) a) b ns) w.0 (omega arith) (write_words (past (suc i) a) b ns w.1 l h))
write_words i (step s t) ns w l h = (step_words s w.0, write_words (suc i) t ns w.1 l h)
write_words i (switch v r t) ns w l h = (switch_words v r w.0, write_words (suc i) t ns w.1 l h)

pub worded_nodes : (i : ℕ) (ts : List Tree) → All Worded ts → i + length (flatten i ts) ≤ 65536 → All WordsFit (flatten i ts)
unfolding flatten
worded_nodes i [] w l = tt
worded_nodes i (t ∷ ts) w l =
    let e : length (write i t (flatten (past i t) ts)) + i ≡ past i t + length (flatten (past i t) ts) = past_length i t (flatten (past i t) ts) in
    write_words i t (flatten (past i t) ts) w.0 (omega arith) (worded_nodes (past i t) ts w.1 (omega arith))
