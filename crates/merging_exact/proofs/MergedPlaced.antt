-- Placing the merged file gives what placing both gives, merged: the on steps add up.
use Prim.Native.Nat.{ℕ, ◌+◌}
use mathlib.Core.Path.{◌≡◌, refl, sym, ap, ap₂, ◌∙◌}
use mathlib.Core.List.{List, [], ◌∷◌, ◌++◌, map}
use native.Mathlib.Omega.{arith}
use lib.ListN.{length}
use Rattle.rules.specs.Schema.{Schema}
use Rattle.reading_exact.specs.Lists.{All}
use Rattle.reading_exact.specs.Tree.{Tree}
use Rattle.reading_exact.specs.File.{Routine, File, InCount, WellFormed, contents_for}
use Rattle.checking_exact.specs.Tables.{schema_for}
use Rattle.checking_exact.specs.Typing.{Kinded, WellKinded}
use Rattle.checking_exact.proofs.OperandKinds.{Ranged}
use Rattle.placing_exact.specs.Placement.{on_steps_of, grafted, graft}
use Rattle.placing_exact.specs.Placed.{placed_tree, placed_trees, placed_file}
use Rattle.checking_exact.proofs.FileRules.{ranged}
use Rattle.merging_exact.specs.Moved.{moved_tree}
use Rattle.merging.specs.Merged.{shifted}
use Rattle.merging_exact.specs.MergedFile.{later_session, merged_file}
use Rattle.merging_exact.specs.Sums.{SumsFit}
use Rattle.merging_exact.proofs.MovedTrees.{moved_same, moved_ons}
use Rattle.merging_exact.proofs.MovedPlaced.{placed_moved}
use Rattle.merging_exact.proofs.MergedMoves.{Shared, first_moves, second_moves}
use Rattle.merging_exact.proofs.MergedFormed.{merged_formed}
use Rattle.merging_exact.proofs.MergedRules.{seated}

placed_parts : (D : Schema) (ss rs : List Routine) → placed_trees D (ss ++ rs) ≡ placed_trees D ss ++ placed_trees D rs
unfolding placed_trees
placed_parts D [] rs = refl
placed_parts D (s ∷ ss) rs = ap {B = List Tree} (λ l. placed_tree D s.user s.tree ∷ l) (placed_parts D ss rs)

ons_parts : (ts us : List Tree) → on_steps_of (ts ++ us) ≡ on_steps_of ts + on_steps_of us
unfolding on_steps_of
ons_parts [] us = omega arith
ons_parts (t ∷ ts) us = omega (arith, ons_parts ts us)

ons_mapped : (σ : ℕ → ℕ) (ts : List Tree) → on_steps_of (map (moved_tree σ) ts) ≡ on_steps_of ts
unfolding on_steps_of
ons_mapped σ [] = refl
ons_mapped σ (t ∷ ts) = ap₂ (λ (n m : ℕ). n + m) (moved_ons σ t) (ons_mapped σ ts)

-- the trees go to their sessions
grafted_parts : (D E : Schema) (n m : ℕ) (ss rs : List Routine)
    → grafted (ss ++ map (later_session n m) rs) (placed_trees D ss ++ map (moved_tree (shifted n m)) (placed_trees E rs))
    ≡ grafted ss (placed_trees D ss) ++ map (later_session n m) (grafted rs (placed_trees E rs))
unfolding grafted placed_trees
grafted_parts D E n m [] [] = refl
grafted_parts D E n m [] (r ∷ rs) =
    ap {B = List Routine} (λ l. later_session n m (record { user = r.user; mask = r.mask; tree = placed_tree E r.user r.tree }) ∷ l) (grafted_parts D E n m [] rs)
grafted_parts D E n m (s ∷ ss) rs =
    ap {B = List Routine} (λ l. record { user = s.user; mask = s.mask; tree = placed_tree D s.user s.tree } ∷ l) (grafted_parts D E n m ss rs)

module _ (F G : File) (S : Shared F G) (W : WellFormed F) (W' : WellFormed G) (L : SumsFit (contents_for F) (contents_for G)) (N : WellKinded F) (M : WellKinded G) where
  abbrev E : Schema
  E = schema_for (merged_file F G)

  abbrev n : ℕ
  n = length F.users

  abbrev m : ℕ
  m = length F.channels

  in-range : Ranged E
  in-range = ranged (merged_file F G) (merged_formed F G S W W' L)

  first_placed : (ss : List Routine) → All (λ s. InCount (length F.users) s.user) ss → All (λ s. Kinded (schema_for F) s.user [] s.tree) ss
      → placed_trees E ss ≡ placed_trees (schema_for F) ss
  unfolding placed_trees
  first_placed [] c k = refl
  first_placed (s ∷ ss) c k = ap₂ {C = List Tree} (λ t ts. t ∷ ts) here (first_placed ss c.1 k.1)
    where
      here : placed_tree E s.user s.tree ≡ placed_tree (schema_for F) s.user s.tree
      here =
          ap (placed_tree E s.user) (sym (moved_same s.tree))
          ∙ placed_moved (schema_for F) E s.user s.user (λ x. x) (first_moves F G s.user c.0) (ranged F W) in-range s.tree k.0
          ∙ moved_same (placed_tree (schema_for F) s.user s.tree)

  second_placed : (ss : List Routine) → All (λ s. InCount (length G.users) s.user) ss → All (λ s. Kinded (schema_for G) s.user [] s.tree) ss
      → placed_trees E (map (later_session n m) ss) ≡ map (moved_tree (shifted n m)) (placed_trees (schema_for G) ss)
  unfolding placed_trees
  second_placed [] c k = refl
  second_placed (s ∷ ss) c k =
      ap₂ {C = List Tree} (λ t ts. t ∷ ts)
      (placed_moved (schema_for G) E s.user (n + s.user) (shifted n m) (second_moves F G S W' s.user c.0) (ranged G W') in-range s.tree k.0)
      (second_placed ss c.1 k.1)

  pub merged_trees : placed_trees E (merged_file F G).sessions
      ≡ placed_trees (schema_for F) F.sessions ++ map (moved_tree (shifted n m)) (placed_trees (schema_for G) G.sessions)
  merged_trees =
      placed_parts E F.sessions (map (later_session n m) G.sessions)
      ∙ ap₂ {C = List Tree} (λ ts us. ts ++ us) (first_placed F.sessions (seated F W) N) (second_placed G.sessions (seated G W') M)

  -- merge, then place, is place, then merge
  pub merged_placed : placed_file (merged_file F G) ≡ merged_file (placed_file F) (placed_file G)
  merged_placed =
      ap (graft (merged_file F G)) merged_trees
      ∙ ap (λ (ss : List Routine). record {
        users = F.users ++ G.users;
        grants = F.grants;
        kinds = F.kinds;
        channels = (merged_file F G).channels;
        sessions = ss;
      }) (grafted_parts (schema_for F) (schema_for G) n m F.sessions G.sessions)

  pub merged_ons : on_steps_of (placed_trees E (merged_file F G).sessions)
      ≡ on_steps_of (placed_trees (schema_for F) F.sessions) + on_steps_of (placed_trees (schema_for G) G.sessions)
  merged_ons =
      ap on_steps_of merged_trees
      ∙ ons_parts (placed_trees (schema_for F) F.sessions) (map (moved_tree (shifted n m)) (placed_trees (schema_for G) G.sessions))
      ∙ ap (λ (k : ℕ). on_steps_of (placed_trees (schema_for F) F.sessions) + k) (ons_mapped (shifted n m) (placed_trees (schema_for G) G.sessions))
