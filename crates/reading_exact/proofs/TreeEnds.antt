-- Numbers of a written tree: how many nodes it has, where it ends, that following it by tags finds that end, and what stands past it.
use Prim.Native.Nat.{ℕ, suc, ◌+◌, ◌-◌, ◌<◌}
use mathlib.Core.Path.{◌≡◌, refl, ap, ◌∙◌}
use mathlib.Core.List.{List, [], ◌∷◌, ◌++◌}
use native.Mathlib.Omega.{arith}
use lib.ListN.{length, drop}
use lib.Seq.{drop-append_seam}
use Rattle.trees.specs.Ends.{following}
use Rattle.format.specs.declared.Node.{Node}
use Rattle.reading_exact.specs.Tree.{repeat, new, compare, receive, send, on, off, Tree, end, fork, step, switch, words, step_node, switch_node, past, write}

-- a tree has a node
pub past_more : (i : ℕ) (t : Tree) → i < past i t
unfolding past
past_more i end = omega arith
past_more i (fork a b) = omega (arith, past_more (suc i) a, past_more (past (suc i) a) b)
past_more i (step s t) = omega (arith, past_more (suc i) t)
past_more i (switch w r t) = omega (arith, past_more (suc i) t)

pub past_length : (i : ℕ) (t : Tree) (ns : List Node) → length (write i t ns) + i ≡ past i t + length ns
unfolding past write
past_length i end ns = omega arith
past_length i (fork a b) ns =
    omega (arith, past_length (suc i) a (write (past (suc i) a) b ns), past_length (past (suc i) a) b ns)
past_length i (step s t) ns = omega (arith, past_length (suc i) t ns)
past_length i (switch w r t) ns = omega (arith, past_length (suc i) t ns)

pub following_write : (i : ℕ) (t : Tree) (ns : List Node) → following i (write i t ns) ≡ past i t ∷ following (past i t) ns
unfolding following past write
following_write i end ns = refl
following_write i (fork a b) ns =
    rw (following_write (suc i) a (write (past (suc i) a) b ns)) (following_write (past (suc i) a) b ns)
following_write i (step repeat t) ns = following_write (suc i) t ns
following_write i (step (new k) t) ns = following_write (suc i) t ns
following_write i (step (compare a b) t) ns = following_write (suc i) t ns
following_write i (step (receive c) t) ns = following_write (suc i) t ns
following_write i (step (send c v) t) ns = following_write (suc i) t ns
following_write i (switch on r t) ns = following_write (suc i) t ns
following_write i (switch off r t) ns = following_write (suc i) t ns

-- what follows a tree follows its nodes
pub write_before : (i : ℕ) (t : Tree) (ns ms : List Node) → write i t (ns ++ ms) ≡ write i t ns ++ ms
unfolding write
write_before i end ns ms = refl
write_before i (fork a b) ns ms =
    let j : ℕ = past (suc i) a in
    ap {B = List Node} (λ l. words 1 j 0 ∷ l) (ap (write (suc i) a) (write_before j b ns ms) ∙ write_before (suc i) a (write j b ns) ms)
write_before i (step s t) ns ms = ap {B = List Node} (λ l. step_node s ∷ l) (write_before (suc i) t ns ms)
write_before i (switch w r t) ns ms = ap {B = List Node} (λ l. switch_node w r ∷ l) (write_before (suc i) t ns ms)

-- past a written tree stands what was written after it
pub write_rest : (i : ℕ) (t : Tree) (ns : List Node) → drop (past i t - i) (write i t ns) ≡ ns
write_rest i t ns =
    let e : past i t - i ≡ length (write i t []) = omega (arith, past_length i t [], past_more i t) in
    rw (e, write_before i t [] ns, drop-append_seam)
