-- The stack before each node, of any kind of context: what is reached stands on top, and what stands on it is reached.
use Prim.Native.Nat.{ℕ, zero, suc, ◌+◌, ◌-◌, ◌≤◌}
use mathlib.Core.Path.{◌≡◌, refl, sym, ap, ◌∙◌, subst}
use mathlib.Core.Bool.{Bool, true, false, cond}
use mathlib.Core.List.{List, [], ◌∷◌}
use native.Mathlib.Omega.{arith}
use lib.Dec.{eqb}
use lib.ListN.{length, get_or, drop, length-drop}
use borrow.Author.Tests.{eqb-true, eqb-false, ne_eqb}
use Rattle.format.specs.declared.Node.{Node}
use Rattle.reading_exact.specs.File.{InCount}
use Rattle.reading_exact.specs.Refusals.{nth, OneChild, Follows, at-end, at_step, at_fork, Begins, first, next, Reached, root, child, first_child, second_child}
use Rattle.reading_exact.proofs.FollowedEnds.{at_node_lem}

-- a pass over the nodes with a stack of X, each standing for a context
pub record Pass (X C : Type 0) : Type 0 where
  -- what waits before node 1, by session
  pub waiting : List X
  pub sessions : ℕ
  pub start : ℕ → X
  -- what a fork leaves to each branch, and every other node to its child
  pub branch : X → Node → X
  pub only : X → Node → X
  pub of : X → C
  pub below : C → Node → C
  pub held : length waiting ≡ sessions
  pub starts : (k : ℕ) → InCount sessions k → drop (k - 1) waiting ≡ start k ∷ drop k waiting
  pub branch_of : (x : X) (n : Node) → n.tag ≡ 1 → of (branch x n) ≡ of x
  pub only_of : (x : X) (n : Node) → of (only x n) ≡ below (of x) n

head_same : {X : Type 0} {x y : X} {xs ys : List X} → x ∷ xs ≡ y ∷ ys → x ≡ y
head_same {X} {x} e = ap (λ (l : List X). get_or l 0 x) e

module _ {X C : Type 0} (p : Pass X C) (ns : List Node) where
  -- what waits after a node: an end has no child, a fork two
  abbrev pub onto : Node → X → List X → List X
  onto n x st = cond (eqb n.tag 0) st (cond (eqb n.tag 1) (p.branch x n ∷ p.branch x n ∷ st) (p.only x n ∷ st))

  abbrev passed : Node → List X → List X
  passed n [] = []
  passed n (x ∷ st) = onto n x st

  -- the stack before node i
  unfoldable pub stack_at : ℕ → List X
  stack_at zero = []
  stack_at (suc zero) = p.waiting
  stack_at (suc (suc j)) = passed (nth ns (suc j)) (stack_at (suc j))

  stack_step : (i : ℕ) (st : List X) → 1 ≤ i → stack_at i ≡ st → stack_at (suc i) ≡ passed (nth ns i) st
  unfolding stack_at
  stack_step zero st l e = absurd (omega arith)
  stack_step (suc j) st l e = ap (passed (nth ns (suc j))) e

  -- by the number of children

  stack_end : (i : ℕ) (x : X) (st : List X) → InCount (length ns) i → (nth ns i).tag ≡ 0 → stack_at i ≡ x ∷ st → stack_at (suc i) ≡ st
  stack_end i x st c t s = stack_step i (x ∷ st) c.0 s ∙ rw t

  stack_fork : (i : ℕ) (x : X) (st : List X) → InCount (length ns) i → (nth ns i).tag ≡ 1 → stack_at i ≡ x ∷ st
      → stack_at (suc i) ≡ p.branch x (nth ns i) ∷ p.branch x (nth ns i) ∷ st
  stack_fork i x st c t s = stack_step i (x ∷ st) c.0 s ∙ rw t

  stack_one : (i : ℕ) (x : X) (st : List X) → InCount (length ns) i → OneChild (nth ns i).tag → stack_at i ≡ x ∷ st → stack_at (suc i) ≡ p.only x (nth ns i) ∷ st
  stack_one i x st c o s = stack_step i (x ∷ st) c.0 s ∙ rw (ne_eqb (nth ns i).tag 0 (λ e. omega arith), ne_eqb (nth ns i).tag 1 (λ e. omega arith))

  -- an empty stack stays empty
  stack_none : (d i : ℕ) → 1 ≤ i → stack_at i ≡ [] → stack_at (d + i) ≡ []
  stack_none zero i l e = let z : 0 + i ≡ i = omega arith in ap stack_at z ∙ e
  stack_none (suc d) i l e = let z : suc d + i ≡ suc (d + i) = omega arith in ap stack_at z ∙ stack_step (d + i) [] (omega arith) (stack_none d i l e)

  -- a tree that ends takes itself from the stack
  follows_stack : {i e : ℕ} (x : X) (st : List X) → stack_at i ≡ x ∷ st → Follows ns i e → stack_at e ≡ st
  follows_stack x st s (at-end {i = i} c t) = stack_end i x st c t s
  follows_stack x st s (at_step {i = i} c o h) = follows_stack _ st (stack_one i x st c o s) h
  follows_stack x st s (at_fork {i = i} c t h k) = follows_stack _ st (follows_stack _ _ (stack_fork i x st c t s) h) k

  -- where tree k begins, those from k on wait
  begins_stack : {k i : ℕ} → Begins ns k i → k ≤ suc p.sessions → (1 ≤ k) × (stack_at i ≡ drop (k - 1) p.waiting)
  unfolding stack_at
  begins_stack first l = (omega arith, refl)
  begins_stack (next {k = k} b h) l =
      let (q, s) = begins_stack b (omega arith) in
      let e : suc k - 1 ≡ k = omega arith in
      (omega arith, rw e (follows_stack _ _ (s ∙ p.starts k (q, omega arith)) h))

  abbrev In : ℕ → C → Type 0
  In = Reached p.below ns p.sessions (λ k. p.of (p.start k))

  -- what is reached stands on top
  reached_stack : {i : ℕ} {c : C} → In i c → (x : X) × (st : List X) × (stack_at i ≡ x ∷ st) × (p.of x ≡ c)
  reached_stack (root {k = k} c b) = (p.start k, drop k p.waiting, (begins_stack b (omega arith)).1 ∙ p.starts k c, refl)
  reached_stack (child {i = i} c o r) =
      let (x, st, s, e) = reached_stack r in
      (p.only x (nth ns i), st, stack_one i x st c o s, p.only_of x (nth ns i) ∙ ap (λ (y : C). p.below y (nth ns i)) e)
  reached_stack (first_child {i = i} c t r) =
      let (x, st, s, e) = reached_stack r in
      (p.branch x (nth ns i), p.branch x (nth ns i) ∷ st, stack_fork i x st c t s, p.branch_of x (nth ns i) t ∙ e)
  reached_stack (second_child {i = i} c t r h) =
      let (x, st, s, e) = reached_stack r in
      (p.branch x (nth ns i), st, follows_stack _ _ (stack_fork i x st c t s) h, p.branch_of x (nth ns i) t ∙ e)

  -- So what stands on top where tree k begins, or at a node that is reached; and nothing is reached after an empty stack.

  pub top_root : {k i : ℕ} {x : X} {st : List X} → stack_at i ≡ x ∷ st → Begins ns k i → InCount p.sessions k → x ≡ p.start k
  top_root {k} s b c = head_same (sym s ∙ (begins_stack b (omega arith)).1 ∙ p.starts k c)

  pub top_reached : {i : ℕ} {c : C} {x : X} {st : List X} → stack_at i ≡ x ∷ st → In i c → p.of x ≡ c
  top_reached s r = let (y, st, z, e) = reached_stack r in ap p.of (head_same (sym s ∙ z)) ∙ e

  pub none_reached : {i q : ℕ} {c : C} → 1 ≤ i → i ≤ q → stack_at i ≡ [] → In q c → ⊥
  none_reached {i} {q} l h s r =
      let (y, st, z, _) = reached_stack r in
      let e : q - i + i ≡ q = omega arith in
      omega (arith, ap length (sym (ap stack_at (sym e) ∙ stack_none (q - i) i l s) ∙ z))

  pub left_none : {i : ℕ} {x : X} {st : List X} → stack_at i ≡ x ∷ st → Begins ns (suc p.sessions) i → ⊥
  left_none s b = omega (arith, p.held, length-drop (suc p.sessions - 1) p.waiting, ap length (sym s ∙ (begins_stack b (omega arith)).1))

  -- a node is reached in one context
  pub reached_single : {i : ℕ} {c d : C} → In i c → In i d → c ≡ d
  reached_single r q = let (y, st, z, e) = reached_stack r in sym e ∙ top_reached z q

  -- what holds of a root's opening and of all that a node leaves holds of what stands on top
  pub top_by : (T : X → Type 0) {i : ℕ} {c : C} {x : X} {st : List X} → ((k : ℕ) → InCount p.sessions k → Begins ns k i → T (p.start k))
      → ((y : X) (n : Node) → T (p.branch y n)) → ((y : X) (n : Node) → T (p.only y n)) → stack_at i ≡ x ∷ st → In i c → T x
  top_by T start branch only s (root {k = k} c b) = subst T (sym (top_root s b c)) (start k c b)
  top_by T start branch only s (child {i = i} c o r) =
      let (y, st, z, _) = reached_stack r in
      subst T (head_same (sym (stack_one i y st c o z) ∙ s)) (only y (nth ns i))
  top_by T start branch only s (first_child {i = i} c t r) =
      let (y, st, z, _) = reached_stack r in
      subst T (head_same (sym (stack_fork i y st c t z) ∙ s)) (branch y (nth ns i))
  top_by T start branch only s (second_child {i = i} c t r h) =
      let (y, st, z, _) = reached_stack r in
      subst T (head_same (sym (follows_stack _ _ (stack_fork i y st c t z) h) ∙ s)) (branch y (nth ns i))

  -- what stands on the stack is reached, each where the tree before it ends, and no further tree begins after the last
  abbrev pub Chain : ℕ → List X → Type 0
  Chain i [] = Begins ns (suc p.sessions) i
  Chain i (x ∷ st) = In i (p.of x) × ((e : ℕ) → Follows ns i e → Chain e st)

  chain_start : (xs : List X) (j i : ℕ) → j ≤ p.sessions → drop j p.waiting ≡ xs → Begins ns (suc j) i → Chain i xs
  chain_start [] j i l e b =
      let z : suc j ≡ suc p.sessions = omega (arith, p.held, length-drop j p.waiting, ap length e) in
      subst (λ k. Begins ns k i) z b
  chain_start (x ∷ xs) j i l e b =
      let z : suc j - 1 ≡ j = omega arith in
      let c : InCount p.sessions (suc j) = (omega arith, omega (arith, p.held, length-drop j p.waiting, ap length e)) in
      let both : p.start (suc j) ∷ drop (suc j) p.waiting ≡ x ∷ xs = sym (p.starts (suc j) c) ∙ ap (λ k. drop k p.waiting) z ∙ e in
      (subst (In i) (ap p.of (head_same both)) (root c b), λ k h. chain_start xs (suc j) k c.1 (ap (drop 1) both) (next b h))

  chain-step : (i : ℕ) (x : X) (st : List X) → InCount (length ns) i → (nth ns i).tag ≤ 8 → Chain i (x ∷ st) → Chain (suc i) (onto (nth ns i) x st)
  chain-step i x st c l (h, more) = go (eqb t 0) refl (eqb t 1) refl
    where
      n : Node
      n = nth ns i

      t : ℕ
      t = n.tag

      go : (a : Bool) → eqb t 0 ≡ a → (b : Bool) → eqb t 1 ≡ b → Chain (suc i) (cond a st (cond b (p.branch x n ∷ p.branch x n ∷ st) (p.only x n ∷ st)))
      go true e b f = more (suc i) (at-end c (eqb-true t 0 e))
      go false e true f =
          let z = eqb-true t 1 f in
          let own : p.of x ≡ p.of (p.branch x n) = sym (p.branch_of x n z) in
          (subst (In (suc i)) own (first_child c z h), λ k g. (subst (In k) own (second_child c z h g), λ j q. more j (at_fork c z g q)))
      go false e false f =
          let o : OneChild t = (omega (arith, eqb-false t 0 e, eqb-false t 1 f), l) in
          (subst (In (suc i)) (sym (p.only_of x n)) (child c o h), λ j g. more j (at_step c o g))

  -- the stack before node i
  abbrev pub TopReached : ℕ → List X → Type 0
  TopReached i st = (stack_at i ≡ st) × Chain i st

  -- what holds after the last node, and where the stack is empty, and of a node where it holds after it, holds of all nodes
  module _ (Q : ℕ → List Node → List X → Type 0) (over : (i : ℕ) (st : List X) → i ≡ suc (length ns) → TopReached i st → Q i [] st)
      (none : (i : ℕ) (n : Node) (l : List Node) → InCount (length ns) i → TopReached i [] → Q i (n ∷ l) [])
      (pass : (i : ℕ) (x : X) (l : List Node) (st : List X) → InCount (length ns) i → drop i ns ≡ l → TopReached i (x ∷ st)
      → ((nth ns i).tag ≤ 8 → Q (suc i) l (onto (nth ns i) x st)) → Q i (nth ns i ∷ l) (x ∷ st))
    where
      from : (l : List Node) (i : ℕ) (st : List X) → InCount (suc (length ns)) i → drop (i - 1) ns ≡ l → TopReached i st → Q i l st
      from [] i st b e s = over i st (omega (arith, length-drop (i - 1) ns, ap length e)) s
      from (n ∷ l) i [] b e s = none i n l (b.0, omega (arith, length-drop (i - 1) ns, ap length e)) s
      from (n ∷ l) i (x ∷ st) b e (s, h) =
          let c : InCount (length ns) i = (b.0, omega (arith, length-drop (i - 1) ns, ap length e)) in
          let both : nth ns i ∷ drop i ns ≡ n ∷ l = sym (at_node_lem ns i c) ∙ e in
          let left : drop i ns ≡ l = ap (drop 1) both in
          let z : suc i - 1 ≡ i = omega arith in
          subst (λ (m : Node). Q i (m ∷ l) (x ∷ st)) (head_same both)
          (pass i x l st c left (s, h)
          (λ low. from l (suc i) (onto (nth ns i) x st) (omega arith, omega (arith, c.1)) (ap (λ k. drop k ns) z ∙ left)
          (stack_step i (x ∷ st) b.0 s, chain-step i x st c low h)))

      pub along : Q 1 ns p.waiting
      unfolding stack_at
      along = from ns 1 p.waiting (omega arith, omega arith) refl (refl, chain_start p.waiting 0 1 (omega arith) refl first)
