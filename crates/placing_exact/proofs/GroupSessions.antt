-- Sessions one after the other: the nodes, the roots, the number of nodes and the on steps of what is placed.
use Prim.Native.Nat.{ℕ, suc, ◌+◌}
use mathlib.Core.Path.{◌≡◌, refl, ap, ap₂, ◌∙◌}
use mathlib.Core.List.{List, [], ◌∷◌}
use native.Mathlib.Omega.{arith}
use lib.ListN.{length, get_or}
use Rattle.format.specs.declared.Session.{Session}
use Rattle.rules.specs.Schema.{Schema}
use Rattle.states.specs.declared.Turn.{Turn}
use Rattle.groups.specs.Groups.{sizes_of, ons_of, starts_of, groups_from, sessions_from, placed_contents}
use Rattle.reading_exact.specs.Lists.{All}
use Rattle.reading_exact.specs.Tree.{Tree, past, write, flatten}
use Rattle.reading_exact.specs.File.{roles_of, juniors_of, Routine, File, rooted, contents_for}
use Rattle.reading_exact.proofs.TreeEnds.{past_length}
use Rattle.reading_exact.proofs.FileContents.{trees_of}
use Rattle.placing_exact.specs.Placement.{on_steps_of, grafted, graft}
use Rattle.placing_exact.specs.Placed.{insert, taking, placed_tree, placed_trees, AllStates, insert_all, taking_all}
use Rattle.placing_exact.proofs.SwitchFree.{Free}
use Rattle.placing_exact.proofs.Preorder.{walked_all}
use Rattle.placing_exact.proofs.GroupTrees.{Begun, tree_sizes, tree_ons, tree_begins, tree_past, tree_groups}

-- the trees placed are those with the states taken
pub placed_inserted : (D : Schema) (ss : List Routine) → placed_trees D ss ≡ insert_all D ss (taking_all D ss)
unfolding placed_trees placed_tree insert_all
placed_inserted D [] = refl
placed_inserted D (s ∷ ss) = ap {B = List Tree} (λ l. insert D s.user 0 [] s.tree (taking D s.user s.tree) ∷ l) (placed_inserted D ss)

-- by old number the groups' numbers are those of the first turn on
pub begun_all : (ts : List Turn) → Begun (starts_of ts) 1 1 ts
begun_all ts k = let e : 1 + k ≡ suc k = omega arith in ap (λ (i : ℕ). get_or (starts_of ts) i 0) e

module _ (D : Schema) where
  -- the sessions with the trees that the states give
  abbrev pub with_states : (ss : List Routine) → AllStates D ss → List Routine
  with_states ss a = grafted ss (insert_all D ss a)

  pub length_states : (ss : List Routine) (a : AllStates D ss) → length (with_states ss a) ≡ length ss
  unfolding grafted insert_all
  length_states [] a = refl
  length_states (s ∷ ss) a = ap suc (length_states ss a.1)

  pub all_sizes : (to : ℕ) (ss : List Routine) (a : AllStates D ss) → sizes_of (walked_all D ss a) ≡ length (flatten to (trees_of (with_states ss a)))
  unfolding walked_all insert_all grafted flatten sizes_of
  all_sizes to [] a = refl
  all_sizes to (s ∷ ss) a =
      let t' : Tree = insert D s.user 0 [] s.tree a.0 in
      let ts : List Turn = walked_all D ss a.1 in
      omega (
        arith,
        tree_sizes D s.user to 0 [] s.tree a.0 ts,
        all_sizes (past to t') ss a.1,
        past_length to t' (flatten (past to t') (trees_of (with_states ss a.1))),
      )

  pub all_ons : (ss : List Routine) (a : AllStates D ss) → ons_of (walked_all D ss a) ≡ on_steps_of (insert_all D ss a)
  unfolding walked_all insert_all on_steps_of ons_of
  all_ons [] a = refl
  all_ons (s ∷ ss) a = omega (arith, tree_ons D s.user 0 [] s.tree a.0 (walked_all D ss a.1), all_ons ss a.1)

  module _ (starts : List ℕ) where
    pub all_groups : (at to : ℕ) (ss : List Routine) (a : AllStates D ss) → All (λ s. Free s.tree) ss → Begun starts at to (walked_all D ss a)
        → groups_from starts (flatten at (trees_of ss)) (walked_all D ss a) ≡ flatten to (trees_of (with_states ss a))
    unfolding walked_all insert_all grafted flatten groups_from
    all_groups at to [] a f h = refl
    all_groups at to (s ∷ ss) a f h =
        let t' : Tree = insert D s.user 0 [] s.tree a.0 in
        let ts : List Turn = walked_all D ss a.1 in
        let next : Begun starts (past at s.tree) (past to t') ts = tree_past D s.user starts at to 0 [] s.tree a.0 ts f.0 h in
        tree_groups D s.user starts at to 0 [] s.tree a.0 (flatten (past at s.tree) (trees_of ss)) ts f.0 h
        ∙ ap (write to t') (all_groups (past at s.tree) (past to t') ss a.1 f.1 next)

    pub all_roots : (at to : ℕ) (ss : List Routine) (a : AllStates D ss) → All (λ s. Free s.tree) ss → Begun starts at to (walked_all D ss a)
        → sessions_from starts (rooted at ss) ≡ rooted to (with_states ss a)
    unfolding walked_all insert_all grafted rooted sessions_from
    all_roots at to [] a f h = refl
    all_roots at to (s ∷ ss) a f h =
        let t' : Tree = insert D s.user 0 [] s.tree a.0 in
        let ts : List Turn = walked_all D ss a.1 in
        let next : Begun starts (past at s.tree) (past to t') ts = tree_past D s.user starts at to 0 [] s.tree a.0 ts f.0 h in
        let here : get_or starts at 0 ≡ to = tree_begins D s.user starts at to 0 [] s.tree a.0 ts h in
        ap₂ {C = List Session} (λ r l. record { user = s.user; mask = s.mask; root = r } ∷ l) here
        (all_roots (past at s.tree) (past to t') ss a.1 f.1 next)

-- what placing makes of a file is what the file with the trees that the states give holds
pub contents_placed : (F : File) (D : Schema) (a : AllStates D F.sessions) → All (λ s. Free s.tree) F.sessions
    → placed_contents (contents_for F) (walked_all D F.sessions a) (starts_of (walked_all D F.sessions a)) ≡ contents_for (graft F (insert_all D F.sessions a))
contents_placed F D a free =
    let turns : List Turn = walked_all D F.sessions a in
    let sessions = all_roots D (starts_of turns) 1 1 F.sessions a free (begun_all turns) in
    let nodes = all_groups D (starts_of turns) 1 1 F.sessions a free (begun_all turns) in
    λ i. record { users = F.users; roles = roles_of F.grants; juniors = juniors_of F.grants; kinds = F.kinds; channels = F.channels; sessions = sessions i; nodes = nodes i }
