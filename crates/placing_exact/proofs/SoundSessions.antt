-- What refusals 1 to 10 and 14 leave of each session: roles in count, a mask of 0, a plain tree, names and kinds right, few nodes.
use Prim.Native.Nat.{ℕ, suc, ◌+◌, ◌*◌, ◌-◌, ◌≤◌, ◌<◌}
use mathlib.Core.Path.{◌≡◌, sym, subst}
use mathlib.Core.Bool.{true}
use mathlib.Core.List.{List, [], ◌∷◌, map}
use native.Mathlib.Omega.{arith}
use lib.ListN.{length}
use Rattle.masks.specs.Mask.{has, NamesOnly}
use Rattle.masks.proofs.Laws.{has_pos}
use Rattle.format.specs.Contents.{item}
use Rattle.format.proofs.ContentsLaws.{item_get}
use Rattle.rules.specs.Schema.{Schema}
use Rattle.rules.specs.Names.{Bound}
use Rattle.optimum.specs.Optimum.{nodes}
use Rattle.reading_exact.specs.Lists.{All}
use Rattle.reading_exact.specs.Tree.{Tree, end, fork, step, switch, past, flatten}
use Rattle.reading_exact.specs.File.{roles_of, Routine, File, InCount, WellFormed}
use Rattle.reading_exact.proofs.AllLaws.{all_get, all_map}
use Rattle.reading_exact.proofs.TreeEnds.{past_length}
use Rattle.checking_exact.specs.Tables.{schema_for}
use Rattle.checking_exact.specs.Typing.{Kinded, WellKinded}
use Rattle.placing_exact.specs.Placement.{plain}
use Rattle.placing_exact.specs.Placed.{vars_below, labels, Bare}

-- all of it of one session
pub record Sound (D : Schema) (s : Routine) : Type 0 where
  pub fits : (r : ℕ) → has (D.assigned s.user) r ≡ true → InCount D.roles r
  pub masked : s.mask ≡ 0
  pub bare : plain s.tree ≡ s.tree
  pub kinded : Kinded D s.user [] s.tree
  pub small : 1 * nodes (labels D s.user [] s.tree) < 1025

-- a tree has no fewer nodes than placing sees
pub nodes_past : (D : Schema) (u i : ℕ) (vs : List Bound) (t : Tree) → nodes (labels D u vs t) + i ≤ past i t
unfolding nodes past
nodes_past D u i vs end = omega arith
nodes_past D u i vs (fork a b) = omega (arith, nodes_past D u (suc i) vs a, nodes_past D u (past (suc i) a) vs b)
nodes_past D u i vs (step s t) = omega (arith, nodes_past D u (suc i) (vars_below D u vs s) t)
nodes_past D u i vs (switch w r t) = omega (arith, nodes_past D u (suc i) vs t)

-- each tree of few nodes in all is one of few nodes
few_each : (D : Schema) (i : ℕ) (ss : List Routine) → length (flatten i (map (λ (s : Routine). s.tree) ss)) ≤ 1024
    → All (λ (s : Routine). 1 * nodes (labels D s.user [] s.tree) < 1025) ss
unfolding flatten
few_each D i [] h = tt
few_each D i (s ∷ ss) h =
    let ts : List Tree = map (λ (s : Routine). s.tree) ss in
    let k : ℕ = past i s.tree in
    let e = past_length i s.tree (flatten k ts) in
    let f = nodes_past D s.user i [] s.tree in
    (omega arith, few_each D k ss (omega arith))

module _ (F : File) (W : WellFormed F) where
  -- a user's roles are in count
  pub roles_fit : (u : ℕ) → InCount (length F.users) u → (r : ℕ) → has ((schema_for F).assigned u) r ≡ true → InCount (length (roles_of F.grants)) r
  roles_fit u c r h = (
    has_pos (item 0 F.users u) r h,
    subst (NamesOnly (length (roles_of F.grants))) (sym (item_get 0 F.users u c.0))
        (all_get (λ (m : ℕ). NamesOnly (length (roles_of F.grants)) m) F.users (u - 1) 0 (omega arith) W.users_fit) r h,
  )

  gather : (ss : List Routine) → All (λ (s : Routine). InCount (length F.users) s.user) ss
      → All (λ (s : Routine). 1 * nodes (labels (schema_for F) s.user [] s.tree) < 1025) ss
      → All (λ (s : Routine). Kinded (schema_for F) s.user [] s.tree) ss
      → All (λ (s : Routine). (s.mask ≡ 0) × (plain s.tree ≡ s.tree)) ss → All (Sound (schema_for F)) ss
  gather [] c n k b = tt
  gather (s ∷ ss) c n k b = (
    record { fits = roles_fit s.user c.0; masked = b.0.0; bare = b.0.1; kinded = k.0; small = n.0 },
    gather ss c.1 n.1 k.1 b.1,
  )

  -- so is every session of a file that is well formed, named and bare
  pub sound : WellKinded F → Bare F → All (Sound (schema_for F)) F.sessions
  sound N B = gather F.sessions (all_map (λ s h. h.0) F.sessions W.sessions_fit) (few_each (schema_for F) 1 F.sessions W.few_nodes) N B
