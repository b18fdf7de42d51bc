-- What the merged file holds is what both files hold, merged: nodes and session records one by one, each moved by its own words.
use Prim.Native.Nat.{ℕ, suc, ◌+◌}
use mathlib.Core.Path.{◌≡◌, refl, ap, ap₂, ◌∙◌}
use mathlib.Core.List.{List, [], ◌∷◌, ◌++◌, map}
use native.Mathlib.Omega.{arith}
use lib.ListN.{length}
use Rattle.format.specs.declared.Node.{Node}
use Rattle.format.specs.declared.Session.{Session}
use Rattle.reading_exact.specs.Tree.{Step, repeat, new, compare, receive, send, Tree, end, fork, step, switch, on, off, Switch, words, step_node, switch_node, past, write, flatten}
use Rattle.reading_exact.specs.File.{roles_of, juniors_of, Routine, File, nodes_of, rooted, contents_for}
use Rattle.reading_exact.proofs.TreeEnds.{past_length, write_before}
use Rattle.reading_exact.proofs.FileContents.{trees_of}
use Rattle.merging_exact.specs.Moved.{moved_step, moved_tree}
use Rattle.merging.specs.Merged.{Shifts, shifted, moved_node, moved_session, merged_contents}
use Rattle.merging_exact.specs.MergedFile.{later_session, merged_file}

module _ (far : Shifts) where
  abbrev σ : ℕ → ℕ
  σ = shifted far.users far.channels

  abbrev k : ℕ
  k = far.nodes

  -- a moved tree ends as many nodes later as it begins later
  pub past_moved : (i : ℕ) (t : Tree) → past (k + i) (moved_tree σ t) ≡ k + past i t
  unfolding moved_tree past
  past_moved i end = omega arith
  past_moved i (fork a b) =
      let e : suc (k + i) ≡ k + suc i = omega arith in
      ap (λ (j : ℕ). past (past j (moved_tree σ a)) (moved_tree σ b)) e
      ∙ ap (λ (j : ℕ). past j (moved_tree σ b)) (past_moved (suc i) a) ∙ past_moved (past (suc i) a) b
  past_moved i (step s t) = let e : suc (k + i) ≡ k + suc i = omega arith in ap (λ (j : ℕ). past j (moved_tree σ t)) e ∙ past_moved (suc i) t
  past_moved i (switch w r t) = let e : suc (k + i) ≡ k + suc i = omega arith in ap (λ (j : ℕ). past j (moved_tree σ t)) e ∙ past_moved (suc i) t

  step_moved : (s : Step) → step_node (moved_step σ s) ≡ moved_node far (step_node s)
  unfolding moved_node
  step_moved repeat = refl
  step_moved (new a) = refl
  step_moved (compare a b) = refl
  step_moved (receive c) = refl
  step_moved (send c v) = refl

  switch_moved : (w : Switch) (r : ℕ) → switch_node w r ≡ moved_node far (switch_node w r)
  unfolding moved_node
  switch_moved on r = refl
  switch_moved off r = refl

  -- its nodes are the tree's, each moved
  pub write_moved : (i : ℕ) (t : Tree) (ns : List Node) → write (k + i) (moved_tree σ t) (map (moved_node far) ns) ≡ map (moved_node far) (write i t ns)
  unfolding moved_tree write moved_node
  write_moved i end ns = refl
  write_moved i (fork a b) ns =
      let j : ℕ = past (suc i) a in
      let e : suc (k + i) ≡ k + suc i = omega arith in
      let p : past (suc (k + i)) (moved_tree σ a) ≡ k + j = ap (λ (h : ℕ). past h (moved_tree σ a)) e ∙ past_moved (suc i) a in
      ap₂ {C = List Node} (λ (h x : ℕ). words 1 x 0 ∷ write h (moved_tree σ a) (write x (moved_tree σ b) (map (moved_node far) ns))) e p
      ∙ ap {B = List Node} (λ l. words 1 (k + j) 0 ∷ l) (ap (write (k + suc i) (moved_tree σ a)) (write_moved j b ns) ∙ write_moved (suc i) a (write j b ns))
  write_moved i (step s t) ns =
      let e : suc (k + i) ≡ k + suc i = omega arith in
      ap₂ {C = List Node} (λ (n : Node) (h : ℕ). n ∷ write h (moved_tree σ t) (map (moved_node far) ns)) (step_moved s) e
      ∙ ap {B = List Node} (λ l. moved_node far (step_node s) ∷ l) (write_moved (suc i) t ns)
  write_moved i (switch w r t) ns =
      let e : suc (k + i) ≡ k + suc i = omega arith in
      ap₂ {C = List Node} (λ (n : Node) (h : ℕ). n ∷ write h (moved_tree σ t) (map (moved_node far) ns)) (switch_moved w r) e
      ∙ ap {B = List Node} (λ l. moved_node far (switch_node w r) ∷ l) (write_moved (suc i) t ns)

-- after so many users and channels
module _ (n m : ℕ) where
  abbrev shifts : ℕ → Shifts
  shifts k = record { users = n; channels = m; nodes = k }

  moved_nodes : (k i : ℕ) (ss : List Routine) → flatten (k + i) (trees_of (map (later_session n m) ss)) ≡ map (moved_node (shifts k)) (flatten i (trees_of ss))
  unfolding flatten
  moved_nodes k i [] = refl
  moved_nodes k i (s ∷ ss) =
      let t : Tree = s.tree in
      ap (write (k + i) (moved_tree (shifted n m) t))
      (ap (λ (j : ℕ). flatten j (trees_of (map (later_session n m) ss))) (past_moved (shifts k) i t) ∙ moved_nodes k (past i t) ss)
      ∙ write_moved (shifts k) i t (flatten (past i t) (trees_of ss))

  moved_rooted : (k i : ℕ) (ss : List Routine) → rooted (k + i) (map (later_session n m) ss) ≡ map (moved_session (shifts k)) (rooted i ss)
  unfolding rooted
  moved_rooted k i [] = refl
  moved_rooted k i (s ∷ ss) =
      ap {B = List Session} (λ l. moved_session (shifts k) (record { user = s.user; mask = s.mask; root = i }) ∷ l)
      (ap (λ (j : ℕ). rooted j (map (later_session n m) ss)) (past_moved (shifts k) i s.tree) ∙ moved_rooted k (past i s.tree) ss)

  -- i is the number of the first node; the second file's come after those of the first, counted from 1
  nodes_joined : (i k : ℕ) (ss rs : List Routine) → length (flatten i (trees_of ss)) + i ≡ k + 1
      → flatten i (trees_of (ss ++ map (later_session n m) rs)) ≡ flatten i (trees_of ss) ++ map (moved_node (shifts k)) (flatten 1 (trees_of rs))
  unfolding flatten
  nodes_joined i k [] rs e = let f : i ≡ k + 1 = omega arith in ap (λ (j : ℕ). flatten j (trees_of (map (later_session n m) rs))) f ∙ moved_nodes k 1 rs
  nodes_joined i k (s ∷ ss) rs e =
      let t : Tree = s.tree in
      let f = past_length i t (flatten (past i t) (trees_of ss)) in
      ap (write i t) (nodes_joined (past i t) k ss rs (omega arith))
      ∙ write_before i t (flatten (past i t) (trees_of ss)) (map (moved_node (shifts k)) (flatten 1 (trees_of rs)))

  rooted_joined : (i k : ℕ) (ss rs : List Routine) → length (flatten i (trees_of ss)) + i ≡ k + 1
      → rooted i (ss ++ map (later_session n m) rs) ≡ rooted i ss ++ map (moved_session (shifts k)) (rooted 1 rs)
  unfolding flatten rooted
  rooted_joined i k [] rs e = let f : i ≡ k + 1 = omega arith in ap (λ (j : ℕ). rooted j (map (later_session n m) rs)) f ∙ moved_rooted k 1 rs
  rooted_joined i k (s ∷ ss) rs e =
      let t : Tree = s.tree in
      let f = past_length i t (flatten (past i t) (trees_of ss)) in
      ap {B = List Session} (λ l. record { user = s.user; mask = s.mask; root = i } ∷ l) (rooted_joined (past i t) k ss rs (omega arith))

-- forks and roots fall out: the second file's come after the first's nodes
pub merged_contents_lem : (F G : File) → contents_for (merged_file F G) ≡ merged_contents (contents_for F) (contents_for G)
unfolding merged_contents
merged_contents_lem F G =
    let nodes = nodes_joined (length F.users) (length F.channels) 1 (length (nodes_of F)) F.sessions G.sessions refl in
    let sessions = rooted_joined (length F.users) (length F.channels) 1 (length (nodes_of F)) F.sessions G.sessions refl in
    λ i. record {
      users = F.users ++ G.users;
      roles = roles_of F.grants;
      juniors = juniors_of F.grants;
      kinds = F.kinds;
      channels = (merged_file F G).channels;
      sessions = sessions i;
      nodes = nodes i;
    }
