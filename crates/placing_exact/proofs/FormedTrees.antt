-- The placed file is well formed where it has at most 1,024 nodes: its trees bind what the file's trees bind, and every state is a word.
use Prim.Native.Nat.{ℕ, zero, suc, ◌+◌, ◌-◌, ◌≤◌, max}
use mathlib.Core.Path.{◌≡◌, refl, ap, ap₂, ◌∙◌}
use mathlib.Core.Bool.{Bool, true, false, cond}
use mathlib.Core.List.{List, [], ◌∷◌}
use native.Mathlib.Omega.{arith}
use lib.Dec.{eqb}
use lib.ListN.{length, get_or}
use Rattle.masks.specs.Mask.{Within}
use Rattle.rules.specs.Schema.{Schema}
use Rattle.rules.specs.Names.{Bound}
use Rattle.optimum.specs.Optimum.{States}
use Rattle.optimum.specs.Optimum.{Within as AtMost}
use Rattle.optimum.proofs.Optimal.{choose_within}
use Rattle.states.specs.States.{cost}
use Rattle.reading_exact.specs.Lists.{All}
use Rattle.reading_exact.specs.Tree.{Tree, end, fork, step, switch, binders, height, Worded}
use Rattle.reading_exact.specs.File.{Routine, File, InCount, WellFormed, nodes_of}
use Rattle.checking_exact.specs.Tables.{schema_for}
use Rattle.placing_exact.specs.Placement.{grafted}
use Rattle.placing_exact.specs.Placed.{vars_below, labels, leave, enter, turned, insert, taking, placed_tree, placed_trees, placed_file, taking_all}
use Rattle.placing_exact.proofs.GroupSessions.{placed_inserted, length_states}

-- off and on bind nothing
turned_height : (p s : ℕ) (t : Tree) → height (turned p s t) ≡ height t
unfolding turned leave enter height
turned_height p s t = go (eqb p s)
  where
    entered : (s : ℕ) (t : Tree) → height (enter s t) ≡ height t
    entered zero t = refl
    entered (suc r) t = refl

    left : (p : ℕ) (t : Tree) → height (leave p t) ≡ height t
    left zero t = refl
    left (suc r) t = refl

    go : (b : Bool) → height (cond b t (leave p (enter s t))) ≡ height t
    go true = refl
    go false = left p (enter s t) ∙ entered s t

-- their roles are words
turned_worded : (p s : ℕ) (t : Tree) → p ≤ 16 → s ≤ 16 → Worded t → Worded (turned p s t)
unfolding turned leave enter
turned_worded p s t l k h = go (eqb p s)
  where
    entered : (s : ℕ) (t : Tree) → s ≤ 16 → Worded t → Worded (enter s t)
    entered zero t l h = h
    entered (suc r) t l h = (omega arith, h)

    left : (p : ℕ) (t : Tree) → p ≤ 16 → Worded t → Worded (leave p t)
    left zero t l h = h
    left (suc r) t l h = (omega arith, h)

    go : (b : Bool) → Worded (cond b t (leave p (enter s t)))
    go true = h
    go false = left p (enter s t) l (entered s t k h)

module _ (D : Schema) (u : ℕ) where
  insert_height : (p : ℕ) (vs : List Bound) (t : Tree) (a : States (labels D u vs t)) → height (insert D u p vs t a) ≡ height t
  unfolding insert height
  insert_height p vs end a = turned_height p a.0 end
  insert_height p vs (fork x y) a =
      turned_height p a.0 _ ∙ ap₂ max (insert_height a.0 vs x a.1) (insert_height a.0 vs y a.2)
  insert_height p vs (step s t) a = turned_height p a.0 _ ∙ ap (λ (n : ℕ). binders s + n) (insert_height a.0 (vars_below D u vs s) t a.1)
  insert_height p vs (switch w r t) a = insert_height p vs t a

  insert_worded : (p : ℕ) (vs : List Bound) (t : Tree) (a : States (labels D u vs t)) → p ≤ 16 → AtMost 16 (labels D u vs t) a → Worded t
      → Worded (insert D u p vs t a)
  unfolding insert
  insert_worded p vs end a l m h = turned_worded p a.0 end l m.0 tt
  insert_worded p vs (fork x y) a l m h =
      turned_worded p a.0 _ l m.0
      (insert_worded a.0 vs x a.1 m.0 m.1 h.0, insert_worded a.0 vs y a.2 m.0 m.2 h.1)
  insert_worded p vs (step s t) a l m h =
      turned_worded p a.0 _ l m.0 (h.0, insert_worded a.0 (vars_below D u vs s) t a.1 m.0 m.1 h.1)
  insert_worded p vs (switch w r t) a l m h = insert_worded p vs t a l m h.1

abbrev Fit : Tree → Type 0
Fit t = (height t ≤ 8) × Worded t

placed_fit : (D : Schema) (u : ℕ) (t : Tree) → Fit t → Fit (placed_tree D u t)
unfolding placed_tree taking
placed_fit D u t h = (
  omega (arith, insert_height D u 0 [] t (taking D u t)),
  insert_worded D u 0 [] t (taking D u t) (omega arith) (choose_within cost 16 0 (labels D u [] t)) h.1,
)

module _ (D : Schema) where
  pub grafted_length : (ss : List Routine) → length (grafted ss (placed_trees D ss)) ≡ length ss
  grafted_length ss = ap (λ (ts : List Tree). length (grafted ss ts)) (placed_inserted D ss) ∙ length_states D ss (taking_all D ss)

  -- users and masks stay
  pub grafted_same : (P : ℕ → ℕ → Type 0) (ss : List Routine) → All (λ s. P s.user s.mask) ss → All (λ s. P s.user s.mask) (grafted ss (placed_trees D ss))
  unfolding grafted placed_trees
  grafted_same P [] h = tt
  grafted_same P (s ∷ ss) h = (h.0, grafted_same P ss h.1)

  grafted_fit : (ss : List Routine) → All (λ s. Fit s.tree) ss → All (λ s. Fit s.tree) (grafted ss (placed_trees D ss))
  unfolding grafted placed_trees
  grafted_fit [] h = tt
  grafted_fit (s ∷ ss) h = (placed_fit D s.user s.tree h.0, grafted_fit ss h.1)

pub formed : (F : File) → WellFormed F → length (nodes_of (placed_file F)) ≤ 1024 → WellFormed (placed_file F)
formed F W l =
    let D : Schema = schema_for F in
    record {
      few_users = W.few_users;
      few_roles = W.few_roles;
      few_kinds = W.few_kinds;
      few_channels = W.few_channels;
      few_sessions = omega (arith, W.few_sessions, grafted_length D F.sessions);
      few_nodes = l;
      users_fit = W.users_fit;
      roles_fit = W.roles_fit;
      juniors_fit = W.juniors_fit;
      kinds_fit_lem = W.kinds_fit_lem;
      channels_fit = W.channels_fit;
      sessions_fit = grafted_same D (λ u m. InCount (length F.users) u × Within m (get_or F.users (u - 1) 0)) F.sessions W.sessions_fit;
      trees_fit = grafted_fit D F.sessions W.trees_fit;
    }
