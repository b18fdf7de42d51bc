-- A whole file: what is placed is a placement with the fewest on steps of all, and of those one with the fewest nodes held idly; there is one exactly where no send or receive is without a role.
use Prim.Native.Nat.{ℕ, ◌≤◌}
use mathlib.Core.Path.{◌≡◌, refl, sym, ap₂, ◌∙◌}
use mathlib.Core.Logic.{◌↔◌}
use mathlib.Core.Bool.{Bool, true, false, and-eq-true_iff, true≢false}
use mathlib.Core.List.{List, [], ◌∷◌, map}
use native.Mathlib.Omega.{arith}
use Rattle.rules.specs.Schema.{Schema}
use Rattle.optimum.specs.Optimum.{Bin, served, LexLe}
use Rattle.optimum.proofs.Served.{served_some, some_served}
use Rattle.states.specs.States.{Label, suits}
use Rattle.reading_exact.specs.Lists.{All}
use Rattle.reading_exact.specs.Tree.{Tree}
use Rattle.reading_exact.specs.File.{Routine, File, WellFormed}
use Rattle.reading_exact.proofs.FileContents.{trees_of}
use Rattle.checking_exact.specs.Tables.{schema_for}
use Rattle.checking_exact.specs.Typing.{Typed, WellKinded}
use Rattle.checking_exact.proofs.OperandKinds.{Ranged}
use Rattle.checking_exact.proofs.FileRules.{ranged}
use Rattle.placing_exact.specs.Placement.{plain, on_steps_of, Holds, grafted, Placement}
use Rattle.placing_exact.specs.Idle.{idle_nodes_of, idle_in}
use Rattle.placing_exact.specs.Placed.{
  labels,
  placed_trees,
  AllStates,
  listed_all,
  insert_all,
  taking_all,
  served_all,
  Bare,
}
use Rattle.placing_exact.proofs.AllowedStates.{AllAllowed}
use Rattle.placing_exact.proofs.SoundSessions.{Sound, sound}
use Rattle.placing_exact.proofs.SessionPlaced.{taken_within, taken_allowed, taken_least, taken_idle, taken_first, placed_back, placed_passes, rival}

module _ (D : Schema) (R : Ranged D) (few : D.roles ≤ 16) where
  abbrev Passing : Routine → Type 0
  Passing s = Typed D s.user [] s.mask s.tree

  abbrev Holding : Routine → Type 0
  Holding s = Holds s.mask s.tree

  -- allowed states serve every node
  allowed_served : (ss : List Routine) (a : AllStates D ss) → AllAllowed D ss a → served_all D ss ≡ true
  unfolding served_all
  allowed_served [] a h = refl
  allowed_served (s ∷ ss) a h =
      rw (some_served suits 16 (labels D s.user [] s.tree) a.0 h.0 h.1, allowed_served ss a.1 h.2)

  -- where all are served the states taken are allowed
  served_allowed : (ss : List Routine) → All (Sound D) ss → served_all D ss ≡ true → AllAllowed D ss (taking_all D ss)
  unfolding served_all
  served_allowed [] S h = tt
  served_allowed (s ∷ ss) S h =
      let b : Bin Label = labels D s.user [] s.tree in
      let (p, q) = (and-eq-true_iff (served suits 16 b) (served_all D ss)).0 h in
      let (a, i, j) = served_some suits 16 b p in
      (taken_within D R few s S.0 a i j, taken_allowed D R few s S.0 a i j, served_allowed ss S.1 q)

  back_all : (ss : List Routine) → All (Sound D) ss → map plain (placed_trees D ss) ≡ trees_of ss
  unfolding placed_trees
  back_all [] S = refl
  back_all (s ∷ ss) S = ap₂ {C = List Tree} (λ t ts. t ∷ ts) (placed_back D R few s S.0) (back_all ss S.1)

  passes_all : (ss : List Routine) → All (Sound D) ss → AllAllowed D ss (taking_all D ss) → All Passing (grafted ss (placed_trees D ss))
  unfolding placed_trees grafted
  passes_all [] S h = tt
  passes_all (s ∷ ss) S h = ((placed_passes D R few s S.0 h.1).0, passes_all ss S.1 h.2)

  holds_all : (ss : List Routine) → All (Sound D) ss → AllAllowed D ss (taking_all D ss) → All Holding (grafted ss (placed_trees D ss))
  unfolding placed_trees grafted
  holds_all [] S h = tt
  holds_all (s ∷ ss) S h = ((placed_passes D R few s S.0 h.1).1, holds_all ss S.1 h.2)

  -- no allowed states cost fewer on steps
  least_all : (ss : List Routine) → All (Sound D) ss → (a : AllStates D ss) → AllAllowed D ss a
      → on_steps_of (placed_trees D ss) ≤ on_steps_of (insert_all D ss a)
  unfolding placed_trees insert_all on_steps_of
  least_all [] S a h = omega arith
  least_all (s ∷ ss) S a h = omega (arith, taken_least D R few s S.0 a.0 h.0 h.1, least_all ss S.1 a.1 h.2)

  -- of those that cost as few none hold a role through fewer nodes
  idle_all : (ss : List Routine) → All (Sound D) ss → (a : AllStates D ss) → AllAllowed D ss a
      → on_steps_of (insert_all D ss a) ≤ on_steps_of (placed_trees D ss) → idle_nodes_of (grafted ss (placed_trees D ss)) ≤ idle_nodes_of (grafted ss (insert_all D ss a))
  unfolding placed_trees insert_all on_steps_of grafted idle_nodes_of
  idle_all [] S a h q = omega arith
  idle_all (s ∷ ss) S a h q =
      let l = taken_least D R few s S.0 a.0 h.0 h.1 in
      let m = least_all ss S.1 a.1 h.2 in
      omega (arith, taken_idle D R few s S.0 a.0 h.0 h.1 (omega arith), idle_all ss S.1 a.1 h.2 (omega arith))

  first_all : (ss : List Routine) → All (Sound D) ss → (a : AllStates D ss) → AllAllowed D ss a
      → on_steps_of (insert_all D ss a) ≤ on_steps_of (placed_trees D ss) → idle_nodes_of (grafted ss (insert_all D ss a)) ≤ idle_nodes_of (grafted ss (placed_trees D ss))
      → LexLe (listed_all D ss (taking_all D ss)) (listed_all D ss a)
  unfolding placed_trees insert_all on_steps_of grafted idle_nodes_of listed_all
  first_all [] S a h q r = tt
  first_all (s ∷ ss) S a h q r =
      let l = taken_least D R few s S.0 a.0 h.0 h.1 in
      let m = least_all ss S.1 a.1 h.2 in
      let j = taken_idle D R few s S.0 a.0 h.0 h.1 (omega arith) in
      let k = idle_all ss S.1 a.1 h.2 (omega arith) in
      taken_first D R few s S.0 a.0 h.0 h.1 (omega arith) (omega arith) (listed_all D ss (taking_all D ss)) (listed_all D ss a.1)
      (first_all ss S.1 a.1 h.2 (omega arith) (omega arith))

  rival_all : (ss : List Routine) (ts : List Tree) → All (Sound D) ss → map plain ts ≡ trees_of ss → All Passing (grafted ss ts)
      → All Holding (grafted ss ts) → (a : AllStates D ss) × AllAllowed D ss a × (on_steps_of (insert_all D ss a) ≤ on_steps_of ts)
      × (idle_nodes_of (grafted ss (insert_all D ss a)) ≡ idle_nodes_of (grafted ss ts))
  unfolding grafted insert_all on_steps_of idle_nodes_of
  rival_all [] ts S e p h = (tt, tt, omega arith, refl)
  rival_all (s ∷ ss) [] S e p h = let no : ◌≡◌ {A = ℕ} 0 1 = cc in absurd (omega arith)
  rival_all (s ∷ ss) (t ∷ ts) S e p h =
      let (a, i, j, l, x) = rival D R few s S.0 t (cc) p.0 h.0 in
      let (b, k, m, y) = rival_all ss ts S.1 (cc) p.1 h.1 in
      ((a, b), (i, j, k), omega arith, omega arith)

module _ (F : File) (W : WellFormed F) (N : WellKinded F) (B : Bare F) where
  abbrev D : Schema
  D = schema_for F

  -- the states taken are allowed ones
  pub states_allowed : served_all (schema_for F) F.sessions ≡ true → AllAllowed (schema_for F) F.sessions (taking_all (schema_for F) F.sessions)
  states_allowed h = served_allowed D (ranged F W) W.few_roles F.sessions (sound F W N B) h

  -- what is placed is a placement that passes and holds
  pub placed_good : served_all (schema_for F) F.sessions ≡ true → Placement F (placed_trees (schema_for F) F.sessions)
  placed_good h = record {
    back = back_all D (ranged F W) W.few_roles F.sessions (sound F W N B);
    passes = passes_all D (ranged F W) W.few_roles F.sessions (sound F W N B) (states_allowed h);
    holds = holds_all D (ranged F W) W.few_roles F.sessions (sound F W N B) (states_allowed h);
  }

  -- every rival has allowed states that cost no more on steps and hold a role through as many nodes
  pub rival_states : (ts : List Tree) → Placement F ts
      → (a : AllStates (schema_for F) F.sessions) × AllAllowed (schema_for F) F.sessions a × (on_steps_of (insert_all (schema_for F) F.sessions a) ≤ on_steps_of ts)
      × (idle_in F (insert_all (schema_for F) F.sessions a) ≡ idle_in F ts)
  rival_states ts P = rival_all D (ranged F W) W.few_roles F.sessions ts (sound F W N B) P.back P.passes P.holds

  -- no allowed states cost fewer on steps
  pub least : (a : AllStates (schema_for F) F.sessions) → AllAllowed (schema_for F) F.sessions a
      → on_steps_of (placed_trees (schema_for F) F.sessions) ≤ on_steps_of (insert_all (schema_for F) F.sessions a)
  least a h = least_all D (ranged F W) W.few_roles F.sessions (sound F W N B) a h

  -- no rival has fewer on steps
  pub fewest : (ts : List Tree) → Placement F ts → on_steps_of (placed_trees (schema_for F) F.sessions) ≤ on_steps_of ts
  fewest ts P =
      let (a, h, l, _) = rival_states ts P in
      omega (arith, least a h)

  -- of allowed states that cost as few on steps none hold a role through fewer nodes, and no rival with as few does
  pub states_idle : (a : AllStates (schema_for F) F.sessions) → AllAllowed (schema_for F) F.sessions a
      → on_steps_of (insert_all (schema_for F) F.sessions a) ≤ on_steps_of (placed_trees (schema_for F) F.sessions)
      → idle_in F (placed_trees (schema_for F) F.sessions) ≤ idle_in F (insert_all (schema_for F) F.sessions a)
  states_idle a h q = idle_all D (ranged F W) W.few_roles F.sessions (sound F W N B) a h q

  pub least_idle : (ts : List Tree) → Placement F ts → on_steps_of ts ≤ on_steps_of (placed_trees (schema_for F) F.sessions)
      → idle_in F (placed_trees (schema_for F) F.sessions) ≤ idle_in F ts
  least_idle ts P q =
      let (a, h, l, e) = rival_states ts P in
      omega (arith, states_idle a h (omega (arith, l, q)), e)

  -- where there is a placement no send or receive is without a role
  pub placement_served : (ts : List Tree) → Placement F ts → served_all (schema_for F) F.sessions ≡ true
  placement_served ts P =
      let (a, h, _, _) = rival_states ts P in
      allowed_served D (ranged F W) W.few_roles F.sessions a h

  -- there is no placement exactly where one is without
  pub no_placement : (served_all (schema_for F) F.sessions ≡ false) ↔ ((ts : List Tree) → Placement F ts → ⊥)
  no_placement = (λ h ts P. true≢false (sym (placement_served ts P) ∙ h), λ h. go h (served_all D F.sessions) refl)
    where
      go : ((ts : List Tree) → Placement F ts → ⊥) → (b : Bool) → served_all (schema_for F) F.sessions ≡ b → served_all (schema_for F) F.sessions ≡ false
      go h true e = absurd (h (placed_trees (schema_for F) F.sessions) (placed_good e))
      go h false e = e

  -- of all allowed states with as few of both those taken are the smallest list at the first difference
  pub smallest : served_all (schema_for F) F.sessions ≡ true → (a : AllStates (schema_for F) F.sessions) → AllAllowed (schema_for F) F.sessions a
      → on_steps_of (insert_all (schema_for F) F.sessions a) ≤ on_steps_of (placed_trees (schema_for F) F.sessions)
      → idle_in F (insert_all (schema_for F) F.sessions a) ≤ idle_in F (placed_trees (schema_for F) F.sessions)
      → LexLe (listed_all (schema_for F) F.sessions (taking_all (schema_for F) F.sessions)) (listed_all (schema_for F) F.sessions a)
  smallest s a h q r = first_all D (ranged F W) W.few_roles F.sessions (sound F W N B) a h q r
