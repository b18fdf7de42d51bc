-- What demand 3 says of a placed file, what the tie rule fixes, and what is left of a file before each of the refusals 14 and 15.
use Rattle.std.specs.Prelude.{ℕ, ◌-◌, ◌≤◌, ◌≡◌, true, List, [], map, length, get_or}
use Rattle.masks.specs.Mask.{has, with}
use Rattle.format.specs.Answers.{fine}
use Rattle.format.specs.Header.{room_for}
use Rattle.format.specs.Contents.{contents_of}
use Rattle.checking.specs.Check.{reading_names, checking}
use Rattle.states.specs.declared.Turn.{Turn}
use Rattle.groups.specs.Groups.{sizes_of}
use Rattle.placing.specs.Placing.{turns_for, placed_bytes}
use Rattle.placing.specs.declared.Placed.{Placed}
use Rattle.reading_exact.specs.Tree.{Tree, end}
use Rattle.reading_exact.specs.File.{Routine, File, WellFormed, nodes_of, encode, ReadsAs}
use Rattle.checking_exact.specs.Tables.{schema_for}
use Rattle.checking_exact.specs.Typing.{ByRoles}
use Rattle.placing_exact.specs.Placement.{on_steps_of, graft, Placement}
use Rattle.placing_exact.specs.Idle.{idle_in}
use Rattle.placing_exact.specs.Placed.{AllStates, listed_all, insert_all, Fixed}
use Rattle.placing_exact.specs.Counts.{on_nodes}
use Rattle.placing_exact.specs.Causes.{SomeMask, IsSwitch}

-- f is the input's bytes, a the answer, g the bytes of the placed file
pub record WellPlaced (f : List ℕ) (a : Placed) (g : List ℕ) : Type 0 where
  pub file : File
  pub formed : WellFormed file
  pub reads : ReadsAs f file
  pub trees : List Tree
  -- it has its input's version, users, roles with their masks of juniors, kinds and channels, its sessions' users and starting masks
  pub writes : encode (graft file trees) ≡ g
  -- and is a placement of its input, each branch holding at most one role at any moment and none at its end
  pub placement : Placement file trees
  -- that passes the check
  pub passes : checking g ≡ fine
  -- its length in bytes
  pub sized : a.length ≡ length g
  -- the count returned is the number of on steps in the file returned
  pub counted : a.on_steps ≡ on_nodes (contents_of g).nodes
  -- every other such placement has at least as many on steps
  pub fewest : (ts : List Tree) → Placement file ts → a.on_steps ≤ on_steps_of ts
  -- and none with as few on steps holds a role through fewer nodes of tags 0 to 4
  pub least_idle : (ts : List Tree) → Placement file ts → on_steps_of ts ≤ a.on_steps → idle_in file trees ≤ idle_in file ts
  -- each node has a state: 0 or one role assigned to the user, and send and receive one that permits them
  pub states : AllStates (schema_for file) file.sessions
  -- the states taken have the fewest on steps; among those, the fewest nodes of tags 0 to 4 in a state other than 0; and only then the list in node order is smallest at the first difference
  pub fixed : Fixed file states
  -- those taken from the bytes
  pub taken : map (λ (t : Turn). t.to) (turns_for (contents_of f)) ≡ listed_all (schema_for file) file.sessions states
  -- a node whose state differs from its parent's has off and on before it
  pub turned : trees ≡ insert_all (schema_for file) file.sessions states

-- The tie rule fixes one list of states, and it is taken from the bytes; 16 counts the nodes of the file with these states, and that file is written.
pub record Ruled (f : List ℕ) (F : File) : Type 0 where
  pub states : AllStates (schema_for F) F.sessions
  pub fixed : Fixed F states
  pub only : (other : AllStates (schema_for F) F.sessions) → Fixed F other → other ≡ states
  pub taken : map (λ (t : Turn). t.to) (turns_for (contents_of f)) ≡ listed_all (schema_for F) F.sessions states
  pub measured : sizes_of (turns_for (contents_of f)) ≡ length (nodes_of (graft F (insert_all (schema_for F) F.sessions states)))
  pub written : placed_bytes f ≡ encode (graft F (insert_all (schema_for F) F.sessions states))

-- nothing before 14 in the order refuses: 17 (output under 6,874 bytes, or 6,908 where the first word is 2 or 3), then 1 to 10
pub record Clean (f : List ℕ) (room : ℕ) : Type 0 where
  pub wide : room_for f ≤ room
  pub names : reading_names f ≡ fine

-- each at its lowest node
abbrev pub Lowest : (ℕ → Type 0) → ℕ → Type 0
Lowest P p = P p × ((q : ℕ) → P q → p ≤ q)

-- nothing before 15 refuses: 17, 1 to 10, 14 (masks before nodes)
pub record Unrefused (f : List ℕ) (room : ℕ) : Type 0 where
  pub wide : room_for f ≤ room
  pub names : reading_names f ≡ fine
  pub masks : SomeMask (contents_of f) → ⊥
  pub switches : (p : ℕ) → IsSwitch (contents_of f).nodes p → ⊥

-- there is no placement of the file that passes and holds so
abbrev pub NoPlacement : List ℕ → Type 0
NoPlacement f = (F : File) → ReadsAs f F → (ts : List Tree) → Placement F ts → ⊥

-- what stands for a session out of count
abbrev pub no_routine : Routine
no_routine = record { user = 0; mask = 0; tree = end }

-- a session by its number
abbrev pub session : File → ℕ → Routine
session F k = get_or F.sessions (k - 1) no_routine

-- one role of the user permits every send and receive of a session: rule 6 holds all over its tree with that role alone active
abbrev pub Covers : File → ℕ → ℕ → Type 0
Covers F k r =
    (has ((schema_for F).assigned (session F k).user) r ≡ true) × ByRoles (schema_for F) (session F k).user [] (with 0 r) (session F k).tree
