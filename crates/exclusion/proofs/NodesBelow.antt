-- Nodes at or below a node: their numbers grow, and they stay in one session's tree.
use Prim.Native.Nat.{ℕ, suc, ◌≤◌}
use mathlib.Core.Path.{◌≡◌}
use mathlib.Core.List.{List}
use native.Mathlib.Omega.{arith}
use lib.ListN.{length}
use Rattle.format.specs.Contents.{Contents}
use Rattle.format.specs.declared.Node.{Node}
use Rattle.reading_exact.specs.File.{InCount}
use Rattle.reading_exact.specs.Refusals.{nth, OneChild, Follows, at-end, at_step, at_fork, root, child, first_child}
use Rattle.reading_exact.specs.Refusals.{second_child}
use Rattle.reading_exact.proofs.FollowedEnds.{follows_on}
use Rattle.seats.specs.SeatOrder.{InTreeOf}
use Rattle.exclusion.specs.Exclusion.{AtOrBelow, here, by_child, by_first, by_second}

module _ {ns : List Node} where
  -- numbers grow from parents to children
  pub below_later : {j n : ℕ} → AtOrBelow ns j n → j ≤ n
  below_later here = omega arith
  below_later (by_child c o h) = omega (arith, below_later h)
  below_later (by_first c t h) = omega (arith, below_later h)
  below_later (by_second c t g h) = omega (arith, follows_on g, below_later h)

  pub below_join : {i j n : ℕ} → AtOrBelow ns i j → AtOrBelow ns j n → AtOrBelow ns i n
  below_join here g = g
  below_join (by_child c o h) g = by_child c o (below_join h g)
  below_join (by_first c t h) g = by_first c t (below_join h g)
  below_join (by_second c t e h) g = by_second c t e (below_join h g)

  -- a tree's children end where it ends
  pub child_follows : {i e : ℕ} → OneChild (nth ns i).tag → Follows ns i e → Follows ns (suc i) e
  child_follows o (at-end c t) = let never : ⊥ = omega arith in absurd never
  child_follows o (at_step c q h) = h
  child_follows o (at_fork c t h g) = let never : ⊥ = omega arith in absurd never

  pub fork_follows : {i e : ℕ} → (nth ns i).tag ≡ 1 → Follows ns i e → (m : ℕ) × Follows ns (suc i) m × Follows ns m e
  fork_follows o (at-end c t) = let never : ⊥ = omega arith in absurd never
  fork_follows o (at_step c q h) = let never : ⊥ = omega arith in absurd never
  fork_follows o (at_fork {k = m} c t h g) = (m, h, g)

module _ (C : Contents) where
  -- what is below a node of a session's tree is in that tree
  pub below_inside : {j k n : ℕ} → InTreeOf C k j → AtOrBelow C.nodes j n → InTreeOf C k n
  below_inside r here = r
  below_inside r (by_child c o h) = below_inside (child c o r) h
  below_inside r (by_first c t h) = below_inside (first_child c t r) h
  below_inside r (by_second c t e h) = below_inside (second_child c t r e) h

  -- a tree that a node lies in is a session's
  pub tree_counted : {j k : ℕ} → InTreeOf C k j → InCount (length C.sessions) k
  tree_counted (root c b) = c
  tree_counted (child c o r) = tree_counted r
  tree_counted (first_child c t r) = tree_counted r
  tree_counted (second_child c t r e) = tree_counted r
