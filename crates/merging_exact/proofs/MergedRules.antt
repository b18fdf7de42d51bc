-- The merged file passes exactly when both do.
use Prim.Native.Nat.{ℕ, ◌+◌}
use mathlib.Core.Path.{◌≡◌, sym, ap, ◌∙◌, subst}
use mathlib.Core.Logic.{◌↔◌}
use mathlib.Core.List.{[], map}
use lib.ListN.{length}
use Rattle.rules.specs.Schema.{Schema}
use Rattle.reading_exact.specs.Lists.{All}
use Rattle.reading_exact.specs.File.{Routine, File, InCount, WellFormed, contents_for}
use Rattle.reading_exact.proofs.AllLaws.{all_map, all_append}
use Rattle.checking_exact.specs.Tables.{schema_for}
use Rattle.checking_exact.specs.Typing.{Kinded, WellKinded, Typed, Obeys}
use Rattle.checking_exact.proofs.OperandKinds.{Ranged}
use Rattle.placing_exact.specs.Placement.{plain}
use Rattle.placing_exact.specs.Placed.{Bare}
use Rattle.checking_exact.proofs.FileRules.{ranged}
use Rattle.merging_exact.specs.Moved.{moved_tree}
use Rattle.merging.specs.Merged.{shifted}
use Rattle.merging_exact.specs.MergedFile.{later_session, merged_file}
use Rattle.merging_exact.specs.Sums.{SumsFit}
use Rattle.merging_exact.proofs.MovedTrees.{moved_same, moved_plain}
use Rattle.merging_exact.proofs.MovedRules.{kinded_moved, typed_moved, typed_back}
use Rattle.merging_exact.proofs.ListParts.{all_parts, all_mapped, all_map_with}
use Rattle.merging_exact.proofs.MergedMoves.{Shared, first_moves, second_moves}
use Rattle.merging_exact.proofs.MergedFormed.{merged_formed}

-- a session's user is in count
pub seated : (F : File) → WellFormed F → All (λ s. InCount (length F.users) s.user) F.sessions
seated F W = all_map (λ s h. h.0) F.sessions W.sessions_fit

module _ (F G : File) (S : Shared F G) (W : WellFormed F) (W' : WellFormed G) where
  abbrev E : Schema
  E = schema_for (merged_file F G)

  abbrev mv : Routine → Routine
  mv = later_session (length F.users) (length F.channels)

  abbrev σ : ℕ → ℕ
  σ = shifted (length F.users) (length F.channels)

  abbrev Naming : Schema → Routine → Type 0
  Naming D s = Kinded D s.user [] s.tree

  abbrev Passing : Schema → Routine → Type 0
  Passing D s = Typed D s.user [] s.mask s.tree

  -- names and kinds that are right stay right
  pub merged_named : WellKinded F → WellKinded G → WellKinded (merged_file F G)
  merged_named N M =
      all_append (Naming E) F.sessions (map mv G.sessions) (all_map_with (λ s. InCount (length F.users) s.user) one F.sessions (seated F W) N)
      ((all_mapped (Naming E) mv G.sessions).1 (all_map_with (λ s. InCount (length G.users) s.user) two G.sessions (seated G W') M))
    where
      one : (s : Routine) → InCount (length F.users) s.user → Naming (schema_for F) s → Naming E s
      one s c k =
          subst (Kinded E s.user []) (moved_same s.tree)
          (kinded_moved (schema_for F) E s.user s.user (λ x. x) (first_moves F G s.user c).renames [] s.tree k)

      two : (s : Routine) → InCount (length G.users) s.user → Naming (schema_for G) s → Naming E (mv s)
      two s c k =
          kinded_moved (schema_for G) E s.user (length F.users + s.user) σ (second_moves F G S W' s.user c).renames [] s.tree k

  module _ (L : SumsFit (contents_for F) (contents_for G)) (N : WellKinded F) (M : WellKinded G) where
    in-range : Ranged E
    in-range = ranged (merged_file F G) (merged_formed F G S W W' L)

    first_passes : All (Passing E) F.sessions ↔ Obeys F
    first_passes = (
      λ h. all_map_with Ready back F.sessions (all_map_with (λ s. InCount (length F.users) s.user) (λ s c k. (c, k)) F.sessions (seated F W) N) h,
      λ h. all_map_with (λ s. InCount (length F.users) s.user) to F.sessions (seated F W) h,
    )
      where
        Ready : Routine → Type 0
        Ready s = InCount (length F.users) s.user × Naming (schema_for F) s

        to : (s : Routine) → InCount (length F.users) s.user → Passing (schema_for F) s → Passing E s
        to s c p =
            subst (Typed E s.user [] s.mask) (moved_same s.tree)
            (typed_moved (schema_for F) E s.user s.user (λ x. x) (first_moves F G s.user c) [] s.mask s.tree p)

        back : (s : Routine) → Ready s → Passing E s → Passing (schema_for F) s
        back s (c, k) p =
            typed_back (schema_for F) E s.user s.user (λ x. x) (first_moves F G s.user c) in-range [] s.mask s.tree k
            (subst (Typed E s.user [] s.mask) (sym (moved_same s.tree)) p)

    second_passes : All (λ s. Passing E (mv s)) G.sessions ↔ Obeys G
    second_passes = (
      λ h. all_map_with Ready back G.sessions (all_map_with (λ s. InCount (length G.users) s.user) (λ s c k. (c, k)) G.sessions (seated G W') M) h,
      λ h. all_map_with (λ s. InCount (length G.users) s.user) to G.sessions (seated G W') h,
    )
      where
        Ready : Routine → Type 0
        Ready s = InCount (length G.users) s.user × Naming (schema_for G) s

        to : (s : Routine) → InCount (length G.users) s.user → Passing (schema_for G) s → Passing E (mv s)
        to s c p =
            typed_moved (schema_for G) E s.user (length F.users + s.user) σ (second_moves F G S W' s.user c) [] s.mask s.tree p

        back : (s : Routine) → Ready s → Passing E (mv s) → Passing (schema_for G) s
        back s (c, k) p =
            typed_back (schema_for G) E s.user (length F.users + s.user) σ (second_moves F G S W' s.user c) in-range [] s.mask s.tree k p

    pub merged_obeys : Obeys (merged_file F G) ↔ (Obeys F × Obeys G)
    merged_obeys = (
      λ h.
          let (a, b) = (all_parts (Passing E) F.sessions (map mv G.sessions)).0 h in
          (first_passes.0 a, second_passes.0 ((all_mapped (Passing E) mv G.sessions).0 b)),
      λ (a, b).
          (all_parts (Passing E) F.sessions (map mv G.sessions)).1
          (first_passes.1 a, (all_mapped (Passing E) mv G.sessions).1 (second_passes.1 b)),
    )

-- where both are bare the merged file is
pub merged_bare : (F G : File) → Bare F → Bare G → Bare (merged_file F G)
merged_bare F G A B =
    let n : ℕ = length F.users in
    let m : ℕ = length F.channels in
    all_append Plain F.sessions (map (later_session n m) G.sessions) A
    ((all_mapped Plain (later_session n m) G.sessions).1
    (all_map (λ (s : Routine) h. (h.0, moved_plain (shifted n m) s.tree ∙ ap (moved_tree (shifted n m)) h.1)) G.sessions B))
  where
    Plain : Routine → Type 0
    Plain s = (s.mask ≡ 0) × (plain s.tree ≡ s.tree)
