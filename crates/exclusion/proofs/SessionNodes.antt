-- Where the tree of a session stands among the nodes of a file that passes the check.
use Prim.Native.Nat.{ℕ, suc, ◌+◌, ◌-◌, ◌≤◌, ◌<◌}
use mathlib.Core.Path.{◌≡◌, refl, sym, ap, ◌∙◌, subst}
use mathlib.Core.Bool.{Bool, true, false}
use mathlib.Core.List.{List, ◌∷◌}
use native.Mathlib.Omega.{arith}
use lib.Dec.{eqb}
use lib.ListN.{length, get_or, drop, length-drop, length-map, get_or-map}
use lib.Seq.{get_or-drop, drop-drop, drop-cons}
use borrow.Author.Tests.{eqb-true, eqb-false}
use Rattle.format.specs.Answers.{fine}
use Rattle.format.specs.Contents.{Contents, contents_of, no_node}
use Rattle.format.specs.declared.Node.{Node}
use Rattle.format.proofs.ContentsLaws.{item_get}
use Rattle.checking.specs.Check.{checking}
use Rattle.reading_exact.specs.Tree.{Tree, end, fork, step, switch, Step, Switch, words, step_node, switch_node, past}
use Rattle.reading_exact.specs.Tree.{write, flatten}
use Rattle.reading_exact.specs.File.{Routine, File, InCount, contents_for}
use Rattle.reading_exact.specs.Refusals.{nth, Follows, Begins, root, child, first_child, second_child, Misshapen}
use Rattle.reading_exact.specs.Refusals.{not_due, misshapen}
use Rattle.reading_exact.proofs.TreeEnds.{past_more, write_rest}
use Rattle.reading_exact.proofs.Standing.{roots_in, roots_of, flatten_from}
use Rattle.reading_exact.proofs.FileContents.{trees_of, length_rooted, roots_rooted}
use Rattle.reading_exact.proofs.FollowedEnds.{follows_on, one_end, written_follows}
use Rattle.placing_exact.specs.Promised.{no_routine, session}
use Rattle.running_exact.proofs.ReachedNodes.{reached_in, root_due}
use Rattle.running_exact.proofs.FileNodes.{refusable_none, roots_length}
use Rattle.running_exact.proofs.RunSafe.{passes_names}
use Rattle.seats.specs.SeatOrder.{InTreeOf}
use Rattle.exclusion.proofs.NodesBelow.{child_follows, fork_follows}

-- the tree t is written from node i on
pub record WrittenAt (ns : List Node) (t : Tree) (i : ℕ) : Type 0 where
  pub positive : 1 ≤ i
  pub more : List Node
  pub written : drop (i - 1) ns ≡ write i t more

-- node a is one of its nodes, by its number
abbrev pub InSpan : Tree → ℕ → ℕ → Type 0
InSpan t i a = (i ≤ a) × (a < past i t)

-- a node and what follows it
module _ (ns : List Node) (i : ℕ) (n : Node) (more : List Node) (pos : 1 ≤ i) (w : drop (i - 1) ns ≡ n ∷ more) where
  node_there : InCount (length ns) i
  node_there = (pos, omega (arith, length-drop (i - 1) ns, ap length w))

  node_is : nth ns i ≡ n
  node_is =
      let z : i - 1 ≡ i - 1 + 0 = omega arith in
      item_get no_node ns i pos ∙ ap (λ (m : ℕ). get_or ns m no_node) z ∙ sym (get_or-drop (i - 1) ns 0 no_node)
      ∙ ap (λ (l : List Node). get_or l 0 no_node) w

  node_rest : drop (suc i - 1) ns ≡ more
  node_rest =
      let y : suc i - 1 ≡ i - 1 + 1 = omega (arith, pos) in
      ap (λ (m : ℕ). drop m ns) y ∙ sym (drop-drop 1 (i - 1) ns) ∙ ap (drop 1) w

-- the trees below the first node of a written tree are written too
module _ (ns : List Node) (i : ℕ) where
  first_written : (n : Node) (t : Tree) (more : List Node) → 1 ≤ i → drop (i - 1) ns ≡ n ∷ write (suc i) t more
      → InCount (length ns) i × (nth ns i ≡ n) × WrittenAt ns t (suc i)
  first_written n t more pos w =
      let rest : List Node = write (suc i) t more in (
        node_there ns i n rest pos w,
        node_is ns i n rest pos w,
        record { positive = omega arith; more = more; written = node_rest ns i n rest pos w },
      )

  pub step_written : (s : Step) (t : Tree) → WrittenAt ns (step s t) i
      → InCount (length ns) i × (nth ns i ≡ step_node s) × WrittenAt ns t (suc i)
  unfolding write
  step_written s t W = first_written (step_node s) t W.more W.positive W.written

  pub switch_written : (w : Switch) (x : ℕ) (t : Tree) → WrittenAt ns (switch w x t) i
      → InCount (length ns) i × (nth ns i ≡ switch_node w x) × WrittenAt ns t (suc i)
  unfolding write
  switch_written w x t W = first_written (switch_node w x) t W.more W.positive W.written

  pub fork_written : (a b : Tree) → WrittenAt ns (fork a b) i
      → InCount (length ns) i × ((nth ns i).tag ≡ 1) × WrittenAt ns a (suc i) × WrittenAt ns b (past (suc i) a)
  unfolding write
  fork_written a b W =
      let p : ℕ = past (suc i) a in
      let second : List Node = write p b W.more in
      let (c, n, A) = first_written (words 1 p 0) a second W.positive W.written in
      let e : p - 1 ≡ suc i - 1 + (p - suc i) = omega (arith, past_more (suc i) a) in
      let w : drop (suc i - 1) ns ≡ write (suc i) a second =
      node_rest ns i (words 1 p 0) _ W.positive W.written in
      let v : drop (p - 1) ns ≡ second =
      rw (e, ← drop-drop (p - suc i) (suc i - 1) ns, w) (write_rest (suc i) a second) in
      let pos : 1 ≤ p = omega (arith, past_more (suc i) a) in
      (c, ap (λ (m : Node). m.tag) n, A, record { positive = pos; more = W.more; written = v })

module _ (g : List ℕ) (passes : checking g ≡ fine) where
  abbrev C : Contents
  C = contents_of g

  abbrev ns : List Node
  ns = C.nodes

  abbrev roots : List ℕ
  roots = roots_in C.sessions

  shaped : (p : ℕ) → Misshapen ns roots p → ⊥
  shaped p m = refusable_none g (passes_names g passes) 8 p (misshapen refl m)

  rooted_in : (k : ℕ) → InCount (length C.sessions) k → InCount (length roots) k
  rooted_in k c = (c.0, omega (arith, c.1, roots_length C.sessions))

  -- a session's root word is the node due for it
  pub root_begins : (k : ℕ) → InCount (length (contents_of g).sessions) k
      → Begins (contents_of g).nodes k (get_or (roots_in (contents_of g).sessions) (k - 1) 0)
  root_begins k c = root_due ns roots shaped k (rooted_in k c)

  begins_root : (k i : ℕ) → InCount (length C.sessions) k → Begins ns k i → get_or roots (k - 1) 0 ≡ i
  begins_root k i c b = go (eqb (get_or roots (k - 1) 0) i) refl
    where
      go : (p : Bool) → eqb (get_or roots (k - 1) 0) i ≡ p → get_or roots (k - 1) 0 ≡ i
      go true e = eqb-true (get_or roots (k - 1) 0) i e
      go false e =
          let there : InCount (length ns) i = reached_in ns roots shaped {b = 0} (root (rooted_in k c) b) in
          absurd (shaped i (not_due k (rooted_in k c) b there (eqb-false (get_or roots (k - 1) 0) i e)))

  -- the file that stands there
  module _ (G : File) (whole : contents_of g ≡ contents_for G) where
    pub tree_written : (k : ℕ) → InCount (length (contents_of g).sessions) k
        → WrittenAt (contents_of g).nodes (session G k).tree (get_or (roots_in (contents_of g).sessions) (k - 1) 0)
    unfolding flatten
    tree_written k c =
        let ss : List Routine = G.sessions in
        let ts : List Tree = trees_of ss in
        let t : Tree = (session G k).tree in
        let same : roots ≡ roots_of 1 ts = ap (λ (X : Contents). roots_in X.sessions) whole ∙ roots_rooted 1 ss in
        let nodes : ns ≡ flatten 1 ts = ap (λ (X : Contents). X.nodes) whole in
        let many : length C.sessions ≡ length ss =
        ap (λ (X : Contents). length X.sessions) whole ∙ length_rooted 1 ss in
        let counted : k - 1 < length ts = omega (arith, c.0, c.1, many, length-map ss (λ (s : Routine). s.tree)) in
        let this : get_or ts (k - 1) end ≡ t = get_or-map (λ (s : Routine). s.tree) ss (k - 1) no_routine in
        let from : drop (k - 1) ts ≡ t ∷ drop (suc (k - 1)) ts = rw (drop-cons ts (k - 1) end counted, this) in
        let (pos, w) = flatten_from 1 ts (k - 1) counted in
        let r : ℕ = get_or (roots_of 1 ts) (k - 1) 0 in
        let more : List Node = flatten (past r t) (drop (suc (k - 1)) ts) in
        let at : WrittenAt (flatten 1 ts) t r =
        record { positive = pos; more = more; written = w ∙ ap (flatten r) from } in
        rw (same, nodes) at

    -- and a node of the session's tree is one of those written for it
    pub in_span : {j k : ℕ} → InTreeOf (contents_of g) k j
        → InSpan (session G k).tree (get_or (roots_in (contents_of g).sessions) (k - 1) 0) j
    in_span {j} {k} r = let (low, e, h, high) = go r in (low, omega (arith, follows_on h))
      where
        rt : ℕ → ℕ
        rt k = get_or roots (k - 1) 0

        go : {j k : ℕ} → InTreeOf C k j → (rt k ≤ j) × (e : ℕ) × Follows ns j e × (e ≤ past (rt k) (session G k).tree)
        go (root {k = k} {i = i} c b) =
            let W = tree_written k c in
            let last : ℕ = past (rt k) (session G k).tree in
            let same : rt k ≡ i = begins_root k i c b in
            let h = written_follows ns (rt k) (session G k).tree W.more W.positive W.written in
            (omega arith, last, subst (λ (x : ℕ). Follows ns x last) same h, omega arith)
        go (child c o r) = let (low, e, h, high) = go r in (omega arith, e, child_follows o h, high)
        go (first_child c t r) =
            let (low, e, h, high) = go r in
            let (m, a, b) = fork_follows t h in
            (omega arith, m, a, omega (arith, follows_on b))
        go (second_child {k = m} c t r f) =
            let (low, e, h, high) = go r in
            let (n, a, b) = fork_follows t h in
            (omega (arith, follows_on f), e, subst (λ (x : ℕ). Follows ns x e) (one_end ns a f) b, high)
