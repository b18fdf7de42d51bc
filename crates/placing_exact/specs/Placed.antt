-- Placing on trees: the states taken, and the tree with off and on put in.
use Rattle.std.specs.Prelude.{ℕ, zero, suc, ◌≤◌, ◌≡◌, ◌⊎◌, Bool, true, cond, ◌&&◌, List, [], ◌∷◌, eqb}
use Rattle.format.specs.declared.Node.{Node}
use Rattle.masks.specs.Mask.{has}
use Rattle.rules.specs.declared.Way.{Way}
use Rattle.rules.specs.declared.Way.TheVariants.{Sends, Receives}
use Rattle.rules.specs.Schema.{Schema, permits}
use Rattle.rules.specs.Names.{Bound}
use Rattle.rules.specs.Rules.{Context, child_of}
use Rattle.rules.specs.Candidates.{candidates}
use Rattle.optimum.specs.Optimum.{Bin, nil, node, States, listed, served, choose, LexLe}
use Rattle.states.specs.States.{Label, suits, cost}
use Rattle.reading_exact.specs.Lists.{All}
use Rattle.reading_exact.specs.Tree.{Step, repeat, new, compare, receive, send, Tree, end, fork, step, switch, on, off, words, step_node}
use Rattle.reading_exact.specs.File.{Routine, File, InCount}
use Rattle.checking_exact.specs.Tables.{schema_for}
use Rattle.checking_exact.specs.Typing.{HasKind}
use Rattle.placing_exact.specs.Placement.{plain, on_steps_of, graft}
use Rattle.placing_exact.specs.Idle.{idle_in}

-- a context without roles
abbrev pub context : ℕ → List Bound → Context
context u vs = record { user = u; mask = 0; vars = vs }

-- a node as placing sees it: its tag, and the roles of the user that it may be given
abbrev pub label : Schema → ℕ → List Bound → Node → Label
label D u vs n = record { tag = n.tag; roles = candidates D (context u vs) n }

-- the variables bound below a step
abbrev pub vars_below : Schema → ℕ → List Bound → Step → List Bound
vars_below D u vs s = (child_of D (context u vs) (step_node s)).vars

-- a tree's nodes as placing sees them; on and off are passed over
abbrev pub labels : Schema → ℕ → List Bound → Tree → Bin Label
labels D u vs end = node (label D u vs (words 0 0 0)) nil nil
labels D u vs (fork a b) = node (label D u vs (words 1 0 0)) (labels D u vs a) (labels D u vs b)
labels D u vs (step s t) = node (label D u vs (step_node s)) (labels D u (vars_below D u vs s) t) nil
labels D u vs (switch w r t) = labels D u vs t

-- a node whose state differs from its parent's gets, before it, off for the parent's role if there was one, then on for its own if any
unfoldable pub leave : ℕ → Tree → Tree
leave zero t = t
leave (suc r) t = switch off (suc r) t

unfoldable pub enter : ℕ → Tree → Tree
enter zero t = t
enter (suc r) t = switch on (suc r) t

unfoldable pub turned : ℕ → ℕ → Tree → Tree
turned p s t = cond (eqb p s) t (leave p (enter s t))

-- a tree with a state for each node, below a node of state p
unfoldable pub insert : (D : Schema) (u p : ℕ) (vs : List Bound) (t : Tree) → States (labels D u vs t) → Tree
insert D u p vs end a = turned p a.0 end
insert D u p vs (fork x y) a = turned p a.0 (fork (insert D u a.0 vs x a.1) (insert D u a.0 vs y a.2))
insert D u p vs (step s t) a = turned p a.0 (step s (insert D u a.0 (vars_below D u vs s) t a.1))
insert D u p vs (switch w r t) a = insert D u p vs t a

-- the states taken: the fewest on steps, among those the fewest nodes held idly, and among those the smallest list
unfoldable pub taking : (D : Schema) (u : ℕ) (t : Tree) → States (labels D u [] t)
taking D u t = choose cost 16 0 (labels D u [] t)

unfoldable pub placed_tree : Schema → ℕ → Tree → Tree
placed_tree D u t = insert D u 0 [] t (taking D u t)

-- sessions are placed one by one
unfoldable pub placed_trees : Schema → List Routine → List Tree
placed_trees D [] = []
placed_trees D (s ∷ ss) = placed_tree D s.user s.tree ∷ placed_trees D ss

abbrev pub placed_file : File → File
placed_file F = graft F (placed_trees (schema_for F) F.sessions)

-- a state for each node of every session, and all of them in node order
abbrev pub AllStates : Schema → List Routine → Type 0
AllStates D [] = Unit {0}
AllStates D (s ∷ ss) = States (labels D s.user [] s.tree) × AllStates D ss

unfoldable pub listed_all : (D : Schema) (ss : List Routine) → AllStates D ss → List ℕ
listed_all D [] a = []
listed_all D (s ∷ ss) a = listed (labels D s.user [] s.tree) a.0 (listed_all D ss a.1)

-- the trees with these states
unfoldable pub insert_all : (D : Schema) (ss : List Routine) → AllStates D ss → List Tree
insert_all D [] a = []
insert_all D (s ∷ ss) a = insert D s.user 0 [] s.tree a.0 ∷ insert_all D ss a.1

-- "Each node gets a state: 0 (no role) or one role assigned to the user. Send and receive need a state that permits them; every other node may have any."
abbrev pub IsState : Schema → ℕ → ℕ → Type 0
IsState D u s = (s ≡ 0) ⊎ (has (D.assigned u) s ≡ true)

abbrev pub Permits : Schema → List Bound → Way → ℕ → ℕ → Type 0
Permits D vs w c s = (k : ℕ) × HasKind D vs c k × InCount D.roles s × (permits D w (record { 0 = s }) (record { 0 = k }) ≡ true)

abbrev pub Needed : Schema → List Bound → Step → ℕ → Type 0
Needed D vs repeat s = Unit {0}
Needed D vs (new k) s = Unit {0}
Needed D vs (compare a b) s = Unit {0}
Needed D vs (receive c) s = Permits D vs Receives c s
Needed D vs (send c v) s = Permits D vs Sends c s

abbrev pub Stated : (D : Schema) (u : ℕ) (vs : List Bound) (t : Tree) → States (labels D u vs t) → Type 0
Stated D u vs end a = IsState D u a.0
Stated D u vs (fork x y) a = IsState D u a.0 × Stated D u vs x a.1 × Stated D u vs y a.2
Stated D u vs (step s t) a = IsState D u a.0 × Needed D vs s a.0 × Stated D u (vars_below D u vs s) t a.1
Stated D u vs (switch w r t) a = Stated D u vs t a

abbrev pub AllStated : (D : Schema) (ss : List Routine) → AllStates D ss → Type 0
AllStated D [] a = Unit {0}
AllStated D (s ∷ ss) a = Stated D s.user [] s.tree a.0 × AllStated D ss a.1

abbrev pub taking_all : (D : Schema) (ss : List Routine) → AllStates D ss
taking_all D [] = tt
taking_all D (s ∷ ss) = (taking D s.user s.tree, taking_all D ss)

-- The tie rule: "The states taken have the fewest on steps"; "Among placements with fewest on steps, those with the fewest nodes of tags 0 to 4 in a state other than 0 are taken, and only
-- then the smallest list" (02, K4), "the list of states in node order that is smallest at the first difference". Any allowed states are asked, those with a role at an end too.
pub record Fixed (F : File) (states : AllStates (schema_for F) F.sessions) : Type 0 where
  pub allowed : AllStated (schema_for F) F.sessions states
  pub fewest : (other : AllStates (schema_for F) F.sessions) → AllStated (schema_for F) F.sessions other
      → on_steps_of (insert_all (schema_for F) F.sessions states) ≤ on_steps_of (insert_all (schema_for F) F.sessions other)
  pub least_idle : (other : AllStates (schema_for F) F.sessions) → AllStated (schema_for F) F.sessions other
      → on_steps_of (insert_all (schema_for F) F.sessions other) ≤ on_steps_of (insert_all (schema_for F) F.sessions states)
      → idle_in F (insert_all (schema_for F) F.sessions states) ≤ idle_in F (insert_all (schema_for F) F.sessions other)
  pub smallest : (other : AllStates (schema_for F) F.sessions) → AllStated (schema_for F) F.sessions other
      → on_steps_of (insert_all (schema_for F) F.sessions other) ≤ on_steps_of (insert_all (schema_for F) F.sessions states)
      → idle_in F (insert_all (schema_for F) F.sessions other) ≤ idle_in F (insert_all (schema_for F) F.sessions states)
      → LexLe (listed_all (schema_for F) F.sessions states) (listed_all (schema_for F) F.sessions other)

-- no send or receive is without a role of the user that permits it
unfoldable pub served_all : Schema → List Routine → Bool
served_all D [] = true
served_all D (s ∷ ss) = served suits 16 (labels D s.user [] s.tree) && served_all D ss

-- what 14 leaves: all starting masks are 0 and there is no on or off
abbrev pub Bare : File → Type 0
Bare F = All (λ (s : Routine). (s.mask ≡ 0) × (plain s.tree ≡ s.tree)) F.sessions
