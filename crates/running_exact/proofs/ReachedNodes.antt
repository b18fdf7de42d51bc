-- In nodes that 8 leaves clean every node that is reached is there, can be followed to its end, and leads to nodes that are there.
use Prim.Native.Nat.{ℕ, zero, suc, ◌-◌, ◌≤◌, ◌<◌}
use mathlib.Core.Path.{◌≡◌, refl, sym, subst}
use mathlib.Core.Logic.{◌⊎◌}
use mathlib.Core.Bool.{Bool, true, false}
use mathlib.Core.List.{List}
use native.Mathlib.Omega.{arith}
use lib.Dec.{eqb, leb, ltb}
use lib.ListN.{length, get_or, length-append}
use borrow.Author.Tests.{eqb-true, eqb-false, leb-true, leb-false, ltb-true, ltb-false}
use Rattle.format.specs.declared.Node.{Node}
use Rattle.trees.specs.Shape.{bound_below}
use Rattle.rules.specs.Schema.{Schema}
use Rattle.rules.specs.Rules.{Context, child_of}
use Rattle.reading_exact.specs.File.{InCount}
use Rattle.reading_exact.specs.Refusals.{nth, OneChild, Follows, at-end, at_step, at_fork, Begins, first, next, ReachedWith, root, child, first_child, second_child, Misshapen, not_due, second, past_last, ninth}
use Rattle.reading_exact.proofs.FollowedEnds.{follows_on}
use Rattle.reading_exact.proofs.ShapeFirst.{low_tag_lem}
use Rattle.checking_exact.specs.Faults.{nowhere, InContext}

-- a tree ends at the number after the last node at most
pub follows_end : {ns : List Node} {i e : ℕ} → Follows ns i e → e ≤ suc (length ns)
follows_end (at-end c t) = omega arith
follows_end (at_step c o h) = follows_end h
follows_end (at_fork c t h k) = follows_end k

begins_end : {ns : List Node} {k i : ℕ} → Begins ns k i → (1 ≤ i) × (i ≤ suc (length ns))
begins_end first = (omega arith, omega arith)
begins_end (next b h) = (omega (arith, begins_end b, follows_on h), follows_end h)

reached_end : {ns : List Node} {n i b : ℕ} → ReachedWith ns n i b → (1 ≤ i) × (i ≤ suc (length ns))
reached_end (root c b) = begins_end b
reached_end (child c o r) = (omega arith, omega arith)
reached_end (first_child c t r) = (omega arith, omega arith)
reached_end (second_child c t r h) = (omega (arith, follows_on h), follows_end h)

module _ (ns : List Node) (roots : List ℕ) (none : (p : ℕ) → Misshapen ns roots p → ⊥) where
  -- no tree goes past the last node
  pub reached_in : {i b : ℕ} → ReachedWith ns (length roots) i b → InCount (length ns) i
  reached_in {i} {b} r = let (p, q) = reached_end r in (p, go (leb i (length ns)) refl q)
    where
      go : (x : Bool) → leb i (length ns) ≡ x → i ≤ suc (length ns) → i ≤ length ns
      go true e q = leb-true i (length ns) e
      go false e q = let z : i ≡ suc (length ns) = omega (arith, leb-false i (length ns) e) in absurd (none i (past_last b r z))

  -- by the number k of nodes from i on
  follow_from : (k i b : ℕ) → length ns - i < k → ReachedWith ns (length roots) i b → (e : ℕ) × Follows ns i e
  follow_from zero i b l r = absurd (omega arith)
  follow_from (suc k) i b l r =
      go (eqb t 0) refl (eqb t 1) refl
      (λ o. follow_from k (suc i) _ (omega (arith, reached_in (child c o r))) (child c o r))
      (λ z. follow_from k (suc i) _ (omega (arith, reached_in (first_child c z r))) (first_child c z r))
      (λ z j h. follow_from k j _ (omega (arith, reached_in (second_child c z r h), follows_on h)) (second_child c z r h))
    where
      t : ℕ
      t = (nth ns i).tag

      c : InCount (length ns) i
      c = reached_in r

      go : (x : Bool) → eqb t 0 ≡ x → (y : Bool) → eqb t 1 ≡ y → (OneChild t → (e : ℕ) × Follows ns (suc i) e) → (t ≡ 1 → (e : ℕ) × Follows ns (suc i) e)
          → (t ≡ 1 → (j : ℕ) → Follows ns (suc i) j → (e : ℕ) × Follows ns j e) → (e : ℕ) × Follows ns i e
      go true x y d one two rest = (suc i, at-end c (eqb-true t 0 x))
      go false x true y one two rest =
          let z = eqb-true t 1 y in
          let (j, h) = two z in
          let (e, g) = rest z j h in
          (e, at_fork c z h g)
      go false x false y one two rest =
          let o : OneChild t = (omega (arith, eqb-false t 0 x, eqb-false t 1 y), low_tag_lem ns roots none i c) in
          let (e, h) = one o in
          (e, at_step c o h)

  -- a tree that is reached can be followed to its end
  pub followed : {i b : ℕ} → ReachedWith ns (length roots) i b → (e : ℕ) × Follows ns i e
  followed {i} {b} r = follow_from (suc (length ns - i)) i b (omega arith) r

  begun : (k : ℕ) → k ≤ length roots → (i : ℕ) × Begins ns (suc k) i
  begun zero l = (1, first)
  begun (suc k) l =
      let (i, b) = begun k (omega arith) in
      let (e, h) = followed (root (omega arith, l) b) in
      (e, next b h)

  -- each tree begins at its session's root
  pub root_due : (k : ℕ) → InCount (length roots) k → Begins ns k (get_or roots (k - 1) 0)
  root_due k c =
      let (i, b) = begun (k - 1) (omega arith) in
      let z : suc (k - 1) ≡ k = omega arith in
      go i (subst (λ (j : ℕ). Begins ns j i) z b) (eqb (get_or roots (k - 1) 0) i) refl
    where
      go : (i : ℕ) → Begins ns k i → (x : Bool) → eqb (get_or roots (k - 1) 0) i ≡ x → Begins ns k (get_or roots (k - 1) 0)
      go i b true e = subst (Begins ns k) (sym (eqb-true (get_or roots (k - 1) 0) i e)) b
      go i b false e = absurd (none i (not_due k c b (reached_in (root c b)) (eqb-false (get_or roots (k - 1) 0) i e)))

  -- a fork's f1 is the number after its first child's tree
  pub second_follows : {i b : ℕ} → ReachedWith ns (length roots) i b → (nth ns i).tag ≡ 1 → Follows ns (suc i) (nth ns i).f1
  second_follows {i} {b} r t =
      let c = reached_in r in
      let (e, h) = followed (first_child c t r) in
      go c e h (eqb (nth ns i).f1 e) refl
    where
      go : InCount (length ns) i → (e : ℕ) → Follows ns (suc i) e → (x : Bool) → eqb (nth ns i).f1 e ≡ x → Follows ns (suc i) (nth ns i).f1
      go c e h true z = subst (Follows ns (suc i)) (sym (eqb-true (nth ns i).f1 e z)) h
      go c e h false z = absurd (none i (second e c t h (eqb-false (nth ns i).f1 e z)))

  -- a binder has fewer than eight variables above it
  pub room_left : {i b : ℕ} → ReachedWith ns (length roots) i b → ((nth ns i).tag ≡ 3) ⊎ ((nth ns i).tag ≡ 5) → b < 8
  room_left {i} {b} r t = go (ltb b 8) refl
    where
      go : (x : Bool) → ltb b 8 ≡ x → b < 8
      go true e = ltb-true b 8 e
      go false e = absurd (none i (ninth b r (ltb-false b 8 e) (reached_in r) t))

  -- a node's context has as many variables as are bound on the path
  module _ (D : Schema) (os : List Context) (paired : length os ≡ length roots) (bare : (k : ℕ) → length (get_or os k nowhere).vars ≡ 0) where
    child_vars : (c : Context) (n : Node) → length (child_of D c n).vars ≡ bound_below n.tag (length c.vars)
    unfolding child_of
    child_vars c n = go (eqb n.tag 3) refl (eqb n.tag 5) refl (eqb n.tag 7) refl (eqb n.tag 8) refl
      where
        go : (a : Bool) → eqb n.tag 3 ≡ a → (b : Bool) → eqb n.tag 5 ≡ b → (x : Bool) → eqb n.tag 7 ≡ x → (y : Bool) → eqb n.tag 8 ≡ y
            → length (child_of D c n).vars ≡ bound_below n.tag (length c.vars)
        go true e b f x g y h = rw e (length-append c.vars _)
        go false e true f x g y h = rw (e, f) (length-append c.vars _)
        go false e false f true g y h = rw (e, f, g)
        go false e false f false g true h = rw (e, f, g, h)
        go false e false f false g false h = rw (e, f, g, h)

    -- so that the context tells how many are bound
    pub context_reached : {i : ℕ} {c : Context} → InContext D ns os i c → ReachedWith ns (length roots) i (length c.vars)
    context_reached (root {k = k} {i = i} n b) =
        subst (ReachedWith ns (length roots) i) (sym (bare (k - 1))) (root (n.0, omega (arith, paired)) b)
    context_reached (child {i = i} {c = c} n o r) =
        subst (ReachedWith ns (length roots) (suc i)) (sym (child_vars c (nth ns i))) (child n o (context_reached r))
    context_reached (first_child n t r) = first_child n t (context_reached r)
    context_reached (second_child n t r h) = second_child n t (context_reached r) h
