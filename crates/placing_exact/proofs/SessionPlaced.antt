-- One session: what is placed is a placement with the fewest on steps, of those one with the fewest nodes held idly, and its states are the smallest list of these.
use Prim.Native.Nat.{ℕ, ◌+◌, ◌*◌, ◌≤◌, ◌<◌}
use mathlib.Core.Path.{◌≡◌, refl, sym, ap, ◌∙◌, subst}
use mathlib.Core.Bool.{true}
use mathlib.Core.List.{List, []}
use native.Mathlib.Omega.{arith}
use Rattle.masks.specs.Mask.{has}
use Rattle.rules.specs.Schema.{Schema}
use Rattle.optimum.specs.Optimum.{Bin, nil, node, States, listed, Within, Allowed, weight, nodes, choose, LexLe}
use Rattle.optimum.proofs.Optimal.{choose_first}
use Rattle.optimum.proofs.Gate.{gate_allowed, Optimum, possible, exists}
use Rattle.states.specs.States.{Label, suits, on_step, burden, cost}
use Rattle.reading_exact.specs.Tree.{Tree}
use Rattle.reading_exact.specs.File.{Routine}
use Rattle.checking_exact.specs.Typing.{Typed}
use Rattle.checking_exact.proofs.OperandKinds.{Ranged}
use Rattle.checking_exact.proofs.TreeRules.{kinded_iff, typed_iff}
use Rattle.placing_exact.specs.Placement.{plain, on_steps, Holds}
use Rattle.placing_exact.specs.Placed.{labels, insert, taking, placed_tree}
use Rattle.placing_exact.specs.Idle.{idle_nodes}
use Rattle.placing_exact.proofs.HeldRole.{Is, is_empty}
use Rattle.placing_exact.proofs.StepCosts.{on_most, on_same}
use Rattle.placing_exact.proofs.IdleCosts.{idling, idle_few, burden_most, burden_mix}
use Rattle.placing_exact.proofs.IdleTrees.{idle_insert}
use Rattle.placing_exact.proofs.InsertGood.{labels_plain, plain_insert, on_insert, choose_ends, insert_good}
use Rattle.placing_exact.proofs.Rivals.{reads}
use Rattle.placing_exact.proofs.SoundSessions.{Sound}

-- the on steps placed are what the states taken cost
pub on_placed : (D : Schema) (u : ℕ) (t : Tree) → on_steps (placed_tree D u t) ≡ weight on_step 0 (labels D u [] t) (taking D u t)
unfolding placed_tree
on_placed D u t = on_insert D u 0 [] t (taking D u t)

module _ (D : Schema) (R : Ranged D) (few : D.roles ≤ 16) (s : Routine) (S : Sound D s) where
  abbrev seen : Bin Label
  seen = labels D s.user [] s.tree

  room : 1026 * nodes seen < 1050625
  room = omega (arith, S.small)

  -- the states taken are the best of the allowed ones, where there are such
  optimum : (a : States seen) → Within 16 seen a → Allowed suits seen a → Optimum suits burden 16 1026 1050625 burden_most 0 seen room
  optimum a i h =
      possible suits burden 16 1026 1050625 burden_most 0 seen room (exists suits burden 16 1026 1050625 burden_most 0 seen room a i h)

  -- so they are states up to 16
  pub taken_within : (a : States seen) → Within 16 seen a → Allowed suits seen a → Within 16 seen (taking D s.user s.tree)
  unfolding taking
  taken_within a i h = (optimum a i h).within

  -- and each node may have its own
  pub taken_allowed : (a : States seen) → Within 16 seen a → Allowed suits seen a → Allowed suits seen (taking D s.user s.tree)
  unfolding taking
  taken_allowed a i h = (optimum a i h).allowed

  -- both weights of the states taken, and of others
  abbrev ons : States seen → ℕ
  ons a = weight on_step 0 seen a

  abbrev idles : States seen → ℕ
  idles a = weight idling 0 seen a

  least_burden : (a : States seen) → Within 16 seen a → Allowed suits seen a → 1025 * ons (taking D s.user s.tree) + idles (taking D s.user s.tree) ≤ 1025 * ons a + idles a
  unfolding taking
  least_burden a i h = omega (arith, (optimum a i h).least a i h, burden_mix 0 seen a, burden_mix 0 seen (choose cost 16 0 seen))

  few_idle : (a : States seen) → idles a ≤ 1024
  few_idle a = omega (arith, idle_few 0 seen a, S.small)

  -- a tree with states holds idly what they cost
  idle_inserted : (a : States seen) → idle_nodes s.mask (insert D s.user 0 [] s.tree a) ≡ idles a
  idle_inserted a = idle_insert D s.user s.mask 0 [] s.tree a (subst (λ (m : ℕ). Is m 0) (sym S.masked) is_empty)

  idle_placed : idle_nodes s.mask (placed_tree D s.user s.tree) ≡ idles (taking D s.user s.tree)
  unfolding placed_tree
  idle_placed = idle_inserted (taking D s.user s.tree)

  -- no allowed states cost fewer on steps
  pub taken_least : (a : States seen) → Within 16 seen a → Allowed suits seen a
      → on_steps (placed_tree D s.user s.tree) ≤ on_steps (insert D s.user 0 [] s.tree a)
  taken_least a i h =
      omega (arith, on_placed D s.user s.tree, on_insert D s.user 0 [] s.tree a, least_burden a i h, few_idle a)

  -- of those that cost as few none hold a role through fewer nodes
  pub taken_idle : (a : States seen) → Within 16 seen a → Allowed suits seen a
      → on_steps (insert D s.user 0 [] s.tree a) ≤ on_steps (placed_tree D s.user s.tree)
      → idle_nodes s.mask (placed_tree D s.user s.tree) ≤ idle_nodes s.mask (insert D s.user 0 [] s.tree a)
  taken_idle a i h q =
      omega (arith, on_placed D s.user s.tree, on_insert D s.user 0 [] s.tree a, idle_placed, idle_inserted a, least_burden a i h, taken_least a i h)

  -- and of those with as few of both the states taken are the smallest list, whatever follows
  pub taken_first : (a : States seen) → Within 16 seen a → Allowed suits seen a
      → on_steps (insert D s.user 0 [] s.tree a) ≤ on_steps (placed_tree D s.user s.tree)
      → idle_nodes s.mask (insert D s.user 0 [] s.tree a) ≤ idle_nodes s.mask (placed_tree D s.user s.tree)
      → (x y : List ℕ) → LexLe x y → LexLe (listed seen (taking D s.user s.tree) x) (listed seen a y)
  unfolding taking
  taken_first a i h q r x y l =
      choose_first cost 16 0 seen a i
      (omega (
        arith,
        on_placed D s.user s.tree,
        on_insert D s.user 0 [] s.tree a,
        idle_placed,
        idle_inserted a,
        burden_mix 0 seen a,
        burden_mix 0 seen (choose cost 16 0 seen),
        (optimum a i h).weighs,
        gate_allowed suits burden 1050625 0 seen a h,
      ))
      x y l

  -- the tree placed gives the session's back
  pub placed_back : plain (placed_tree D s.user s.tree) ≡ s.tree
  unfolding placed_tree
  placed_back = plain_insert D s.user 0 [] s.tree (taking D s.user s.tree) ∙ S.bare

  -- passes, and holds at most one role, none at an end
  pub placed_passes : Allowed suits seen (taking D s.user s.tree)
      → Typed D s.user [] s.mask (placed_tree D s.user s.tree) × Holds s.mask (placed_tree D s.user s.tree)
  unfolding placed_tree taking
  placed_passes h =
      let c = (kinded_iff D R s.user [] 0 s.tree).1 S.kinded in
      let (w, b, o) = insert_good D s.user R S.fits 0 0 0 [] s.tree (taking D s.user s.tree) is_empty tt c h (choose_ends D s.user 0 [] s.tree) in
      subst (λ (m : ℕ). Typed D s.user [] m (placed_tree D s.user s.tree) × Holds m (placed_tree D s.user s.tree)) (sym S.masked)
      ((typed_iff D R s.user [] 0 (placed_tree D s.user s.tree)).0 (w, b), o)

  -- a rival's states
  pub rival : (t : Tree) → plain t ≡ s.tree → Typed D s.user [] s.mask t → Holds s.mask t
      → (a : States seen) × Within 16 seen a × Allowed suits seen a × (on_steps (insert D s.user 0 [] s.tree a) ≤ on_steps t)
      × (idle_nodes s.mask (insert D s.user 0 [] s.tree a) ≡ idle_nodes s.mask t)
  rival t e p h =
      let u : ℕ = s.user in
      let q : labels D u [] t ≡ labels D u [] s.tree = sym (labels_plain D u [] t) ∙ ap (labels D u []) e in
      let low : (r : ℕ) → has (D.assigned u) r ≡ true → r ≤ 16 = λ r i. omega (arith, (S.fits r i).1) in
      let none : Is s.mask 0 = subst (λ (m : ℕ). Is m 0) (sym S.masked) is_empty in
      let f = reads D u low s.mask 0 [] t none tt ((typed_iff D R u [] s.mask t).1 p).1 h in
      let (a, i, j, l, k) =
      subst (λ (b : Bin Label). (a : States b) × Within 16 b a × Allowed suits b a × (weight on_step 0 b a ≤ on_steps t) × (weight idling 0 b a ≡ idle_nodes s.mask t)) q
      (f.states, f.within, f.allowed, f.turns, f.idles) in
      (a, i, j, omega (arith, on_insert D u 0 [] s.tree a), idle_inserted a ∙ k)

-- One role throughout.

-- a role that every node may be given: it is the user's, and permits each send and receive
abbrev pub Throughout : ℕ → Bin Label → Type 0
Throughout r nil = Unit {0}
Throughout r (node l a b) = (suits l r ≡ true) × Throughout r a × Throughout r b

abbrev everywhere : ℕ → (t : Bin Label) → States t
everywhere r nil = tt
everywhere r (node l a b) = (r, everywhere r a, everywhere r b)

everywhere_within : (r : ℕ) → r ≤ 16 → (t : Bin Label) → Within 16 t (everywhere r t)
everywhere_within r h nil = tt
everywhere_within r h (node l a b) = (h, everywhere_within r h a, everywhere_within r h b)

everywhere_allowed : (r : ℕ) (t : Bin Label) → Throughout r t → Allowed suits t (everywhere r t)
everywhere_allowed r nil h = tt
everywhere_allowed r (node l a b) h = (h.0, everywhere_allowed r a h.1, everywhere_allowed r b h.2)

everywhere_free : (r : ℕ) (t : Bin Label) → weight on_step r t (everywhere r t) ≡ 0
unfolding weight
everywhere_free r nil = refl
everywhere_free r (node l a b) = omega (arith, on_same r l, everywhere_free r a, everywhere_free r b)

everywhere_one : (r : ℕ) (t : Bin Label) → weight on_step 0 t (everywhere r t) ≤ 1
unfolding weight
everywhere_one r nil = omega arith
everywhere_one r (node l a b) = omega (arith, on_most 0 l r, everywhere_free r a, everywhere_free r b)

-- a session all of whose sends and receives one role of its user permits has at most one on step
pub one_role : (D : Schema) → Ranged D → D.roles ≤ 16 → (s : Routine) → Sound D s → (r : ℕ) → r ≤ 16 → Throughout r (labels D s.user [] s.tree) → on_steps (placed_tree D s.user s.tree) ≤ 1
one_role D R few s S r l h =
    let b : Bin Label = labels D s.user [] s.tree in
    let a : States b = everywhere r b in
    omega (arith, taken_least D R few s S a (everywhere_within r l b) (everywhere_allowed r b h), on_insert D s.user 0 [] s.tree a, everywhere_one r b)
