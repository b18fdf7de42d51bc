-- A session all of whose sends and receives one role of its user permits has at most one on step in the file written.
use Prim.Native.Nat.{ℕ, zero, suc, ◌-◌, ◌≤◌, ◌<◌}
use mathlib.Core.Path.{◌≡◌, refl, sym, ap, ◌∙◌, subst}
use mathlib.Core.List.{List, [], ◌∷◌}
use native.Mathlib.Omega.{arith}
use lib.ListN.{length, get_or}
use Rattle.masks.specs.Mask.{has, with}
use Rattle.masks.proofs.Laws.{has_pos}
use Rattle.rules.specs.Schema.{Schema}
use Rattle.rules.specs.Names.{Bound}
use Rattle.rules.specs.Rules.{Context, barred}
use Rattle.placing.specs.Placing.{placing, placed_bytes}
use Rattle.reading_exact.specs.Lists.{All}
use Rattle.reading_exact.specs.Tree.{Tree, end, fork, step, switch}
use Rattle.reading_exact.specs.File.{Routine, File, InCount, WellFormed, encode, ReadsAs}
use Rattle.reading_exact.proofs.AllLaws.{all_get}
use Rattle.reading_exact.proofs.FileContents.{single}
use Rattle.reading_exact.proofs.Exact.{one_read}
use Rattle.checking_exact.specs.Tables.{schema_for}
use Rattle.checking_exact.specs.Typing.{WellKinded}
use Rattle.checking_exact.proofs.ClearTrees.{Clear}
use Rattle.checking_exact.proofs.TreeRules.{by_roles_iff}
use Rattle.checking_exact.proofs.FileRules.{ranged}
use Rattle.placing_exact.specs.Placement.{on_steps, grafted}
use Rattle.placing_exact.specs.Placed.{labels, vars_below, placed_tree, placed_trees, placed_file, Bare}
use Rattle.placing_exact.specs.Promised.{no_routine, session, Covers}
use Rattle.placing_exact.proofs.HeldRole.{Is, is_empty, is_with}
use Rattle.placing_exact.proofs.StateRules.{Role, at, role_end, role_fork, step_suits, child_step}
use Rattle.placing_exact.proofs.SoundSessions.{Sound, sound, roles_fit}
use Rattle.placing_exact.proofs.SessionPlaced.{Throughout, one_role}
use Rattle.placing_exact.proofs.SwitchFree.{Free, bare_free}
use Rattle.placing_exact.proofs.PlacingExact.{found, placed_written}

-- a role alone in the active set, with which rule 6 holds, may be given to every node
throughout : (D : Schema) (u m r : ℕ) (vs : List Bound) (t : Tree) → Free t → Is m r → Role (D.assigned u) r → Clear D (barred D) (at u vs m) t
    → Throughout r (labels D u vs t)
unfolding Clear
throughout D u m r vs end f i q h = (role_end D u vs r q, tt, tt)
throughout D u m r vs (fork a b) f i q h =
    (role_fork D u vs r q, throughout D u m r vs a f.0 i q h.0, throughout D u m r vs b f.1 i q h.1)
throughout D u m r vs (step s t) f i q h =
    let below : Clear D (barred D) (at u (vars_below D u vs s) m) t = subst (λ (e : Context). Clear D (barred D) e t) (child_step D u vs s m) h.1 in
    (step_suits D u vs s m r i q h.0, throughout D u m r (vars_below D u vs s) t f i q below, tt)
throughout D u m r vs (switch w x t) f i q h = absurd f

-- the tree written for a session is its own, placed
pub tree_placed : (D : Schema) (ss : List Routine) (j : ℕ) → j < length ss
    → (get_or (grafted ss (placed_trees D ss)) j no_routine).tree ≡ placed_tree D (get_or ss j no_routine).user (get_or ss j no_routine).tree
unfolding grafted placed_trees
tree_placed D [] j l = absurd (omega (arith, l))
tree_placed D (s ∷ ss) zero l = refl
tree_placed D (s ∷ ss) (suc j) l = tree_placed D ss j (omega (arith, l))

module _ (F : File) (W : WellFormed F) (N : WellKinded F) (B : Bare F) where
  pub covered_once : (k r : ℕ) → InCount (length F.sessions) k → Covers F k r → on_steps (session (placed_file F) k).tree ≤ 1
  covered_once k zero c (a, h) = let never : ⊥ = omega (arith, has_pos ((schema_for F).assigned (session F k).user) 0 a) in absurd never
  covered_once k (suc r) c (a, h) =
      let D : Schema = schema_for F in
      let s : Routine = session F k in
      let at-k : k - 1 < length F.sessions = omega (arith, c) in
      let seat = all_get _ F.sessions (k - 1) no_routine at-k W.sessions_fit in
      let kinded = all_get _ F.sessions (k - 1) no_routine at-k N in
      let free : Free s.tree = all_get (λ (s : Routine). Free s.tree) F.sessions (k - 1) no_routine at-k (bare_free F B) in
      let low : suc r ≤ 16 = omega (arith, W.few_roles, roles_fit F W s.user seat.0 (suc r) a) in
      let clear = (by_roles_iff D (ranged F W) s.user [] (with 0 (suc r)) s.tree kinded).1 h in
      let all : Throughout (suc r) (labels D s.user [] s.tree) = throughout D s.user (with 0 (suc r)) (suc r) [] s.tree free (is_with 0 r is_empty) a clear in
      let S : Sound D s = all_get (Sound D) F.sessions (k - 1) no_routine at-k (sound F W N B) in
      omega (arith, ap on_steps (tree_placed D F.sessions (k - 1) at-k), one_role D (ranged F W) W.few_roles s S (suc r) low all)

pub one_role_written : (f : List ℕ) → All (λ b. b < 256) f → (room : ℕ) → (placing f room).number ≡ 0 → (F G : File) → ReadsAs f F → encode G ≡ placed_bytes f
    → (k r : ℕ) → InCount (length F.sessions) k → Covers F k r → on_steps (session G k).tree ≤ 1
one_role_written f bytes room placed F G reads writes k r c h =
    let (H, e, ready, _, _) = found f bytes room placed in
    let same : H ≡ F = one_read f H F e reads in
    let Once : File → Type 0 = λ (X : File). InCount (length X.sessions) k → Covers X k r → on_steps (session (placed_file X) k).tree ≤ 1 in
    let once = subst Once same (covered_once H ready.formed ready.named ready.bare k r) c h in
    let whole : G ≡ placed_file F = single G (placed_file F) (writes ∙ placed_written f bytes room placed F reads) in
    omega (arith, ap (λ (X : File). on_steps (session X k).tree) whole, once)
