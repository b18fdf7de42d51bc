-- The merged bytes of two files that merging takes, by the files as data: they read, they pass exactly when both do, and placing them gives both placed files merged.
use Prim.Native.Nat.{ℕ, ◌+◌, ◌≤◌}
use mathlib.Core.Path.{◌≡◌, sym, ap, ap₂, ◌∙◌, subst}
use mathlib.Core.Logic.{◌↔◌}
use mathlib.Core.List.{List}
use native.Mathlib.Omega.{arith}
use lib.ListN.{length}
use Rattle.format.specs.Answers.{fine}
use Rattle.format.specs.Header.{version_at}
use Rattle.format.specs.Contents.{Contents, contents_of}
use Rattle.format.specs.Writing.{encoded}
use Rattle.checking.specs.Check.{reading_names, checking}
use Rattle.rules.specs.Checking.{names_answer, roles_answer}
use Rattle.groups.specs.Groups.{ons_of, starts_of, placed_contents}
use Rattle.placing.specs.declared.Placed.{Placed}
use Rattle.placing.specs.Placing.{masks_answer, switches_answer, turns_for, placing, placed_bytes}
use Rattle.merging.specs.Merged.{merged_contents}
use Rattle.merging.specs.Merging.{first_length, merged_bytes}
use Rattle.reading_exact.specs.File.{Grants, first, second, third, version_of, roles_of, Routine, File, WellFormed, contents_for, encode}
use Rattle.reading_exact.proofs.AllLaws.{all_both}
use Rattle.reading_exact.proofs.Exact.{complete}
use Rattle.reading_exact.proofs.Places.{Formed, length_encoded}
use Rattle.reading_exact.proofs.FileContents.{contents_back, version_back, formed_by, length_rooted}
use Rattle.checking_exact.specs.Tables.{schema_for}
use Rattle.checking_exact.specs.Typing.{WellKinded, Obeys}
use Rattle.checking_exact.proofs.FileRules.{names_iff, rules_iff}
use Rattle.checking_exact.proofs.CheckFirst.{names_fine, check_fine}
use Rattle.placing_exact.specs.Placement.{plain, on_steps_of}
use Rattle.placing_exact.specs.Placed.{placed_trees, placed_file, Bare}
use Rattle.placing_exact.proofs.AnswerStages.{placed_answer, placed_stage}
use Rattle.placing_exact.proofs.RefusedPlaces.{masks_none, switches_none}
use Rattle.placing_exact.proofs.BytesPlaced.{placed_contents_lem, placed_ons, masks_bare, switches_bare}
use Rattle.merging_exact.specs.MergedFile.{merged_file}
use Rattle.merging_exact.specs.Sums.{SameTables, SumsFit}
use Rattle.merging_exact.proofs.OwnAnswers.{Passed}
use Rattle.merging_exact.proofs.MergedMoves.{Shared}
use Rattle.merging_exact.proofs.MergedFormed.{merged_formed}
use Rattle.merging_exact.proofs.MergedRules.{merged_named, merged_obeys, merged_bare}
use Rattle.merging_exact.proofs.MergedPlaced.{merged_ons, merged_placed}
use Rattle.merging_exact.proofs.MergedContents.{merged_contents_lem}

-- of files of version 1 the same records are the same roles
same_grants : (g h : Grants) → version_of g ≡ 1 → version_of h ≡ 1 → roles_of g ≡ roles_of h → g ≡ h
same_grants (first rs) (first ss) v w e = ap first e
same_grants (first rs) (second ss) v w e = absurd (omega (arith, w))
same_grants (first rs) (third ss) v w e = absurd (omega (arith, w))
same_grants (second rs) h v w e = absurd (omega (arith, v))
same_grants (third rs) h v w e = absurd (omega (arith, v))

module _ (f : List ℕ) (F : File) (P : Passed f F) where
  -- it passes exactly when it obeys the rules as data
  passes_iff : (checking f ≡ fine) ↔ Obeys F
  passes_iff = (
    λ h. (rules_iff F P.formed).0 (subst Fine P.holds (((names_fine f).0 P.names).1, ((check_fine f).0 h).1)),
    λ O. (check_fine f).1 (P.names, (subst Fine (sym P.holds) ((rules_iff F P.formed).1 O)).1),
  )
    where
      Fine : Contents → Type 0
      Fine C = (names_answer C ≡ fine) × (roles_answer C ≡ fine)

  -- placed, it is bare, and the on steps answered are the placed trees'
  bare : (room : ℕ) → (placing f room).number ≡ 0 → Bare F
  bare room p =
      let u = ((placed_stage f room).0 p).0 in
      let (m, s) = subst (λ (C : Contents). (masks_answer C ≡ fine) × (switches_answer C ≡ fine)) P.holds
      ((masks_none (contents_of f)).1 u.masks, (switches_none f u.names).1 u.switches) in
      all_both (λ (s : Routine). s.mask ≡ 0) (λ (s : Routine). plain s.tree ≡ s.tree) F.sessions ((masks_bare F).0 m) ((switches_bare F).0 s)

  ons_answered : (room : ℕ) → (placing f room).number ≡ 0 → (placing f room).on_steps ≡ on_steps_of (placed_trees (schema_for F) F.sessions)
  ons_answered room p =
      ap (λ (a : Placed). a.on_steps) (placed_answer f room p) ∙ ap (λ (C : Contents). ons_of (turns_for C)) P.holds ∙ placed_ons F P.formed P.named (bare room p)

  -- what is written is the placed file
  placed_held : Bare F → placed_bytes f ≡ encode (placed_file F)
  unfolding placed_bytes encode
  placed_held B =
      let version : version_at f ≡ version_of F.grants = P.version ∙ sym P.first in
      (λ i. encoded (version i) (placed_contents (P.holds i) (turns_for (P.holds i)) (starts_of (turns_for (P.holds i)))))
      ∙ ap (encoded (version_of F.grants)) (placed_contents_lem F P.formed P.named B)

module _ (f g : List ℕ) (F G : File) (P : Passed f F) (Q : Passed g G) where
  abbrev M : File
  M = merged_file F G

  held : merged_contents (contents_of f) (contents_of g) ≡ contents_for M
  held = ap₂ (λ (C D : Contents). merged_contents C D) P.holds Q.holds ∙ sym (merged_contents_lem F G)

  -- the merged bytes are the encoding of the merged file
  pub merged_encoded : merged_bytes f g ≡ encode (merged_file F G)
  unfolding merged_bytes encode
  merged_encoded = ap (encoded 1) held ∙ ap (λ (v : ℕ). encoded v (contents_for M)) (sym P.first)

  -- the length answered
  pub merged_length : first_length (merged_contents (contents_of f) (contents_of g)) ≡ length (merged_bytes f g)
  unfolding merged_bytes
  merged_length =
      ap (λ (C : Contents). first_length C) held ∙ sym (length_encoded 1 (contents_for M) (subst (λ (v : ℕ). Formed v (contents_for M)) P.first (formed_by M)))
      ∙ ap (λ (C : Contents). length (encoded 1 C)) (sym held)

  module _ (S : SameTables (contents_of f) (contents_of g)) (L : SumsFit (contents_of f) (contents_of g)) where
    shared : Shared F G
    shared =
        let T : SameTables (contents_for F) (contents_for G) = subst (SameTables (contents_for F)) Q.holds (subst (λ (C : Contents). SameTables C (contents_of g)) P.holds S) in
        record { grants = same_grants F.grants G.grants P.first Q.first T.roles; kinds = T.kinds }

    sums : SumsFit (contents_for F) (contents_for G)
    sums = subst (SumsFit (contents_for F)) Q.holds (subst (λ (C : Contents). SumsFit C (contents_of g)) P.holds L)

    -- 1 to 10 let it through: it is a file of the kind that merging takes
    pub merged_passed : Passed (merged_bytes f g) (merged_file F G)
    merged_passed =
        let Z : WellFormed M = merged_formed F G shared P.formed Q.formed sums in
        let N : WellKinded M = merged_named F G shared P.formed Q.formed P.named Q.named in
        let e : encode M ≡ merged_bytes f g = sym merged_encoded in
        record {
          version = ap (λ (b : List ℕ). version_at b) (sym e) ∙ version_back M ∙ P.first;
          names = subst (λ (b : List ℕ). reading_names b ≡ fine) e ((names_fine (encode M)).1 (complete M Z, ap (λ (C : Contents). names_answer C) (contents_back M) ∙ (names_iff M Z).1 N));
          first = P.first;
          holds = ap (λ (b : List ℕ). contents_of b) (sym e) ∙ contents_back M;
          formed = Z;
          named = N;
        }

    -- it passes exactly when both do
    pub merged_passes : (checking (merged_bytes f g) ≡ fine) ↔ ((checking f ≡ fine) × (checking g ≡ fine))
    merged_passes =
        let both = merged_obeys F G shared P.formed Q.formed sums P.named Q.named in
        let whole = passes_iff (merged_bytes f g) M merged_passed in
        let one = passes_iff f F P in
        let two = passes_iff g G Q in
        (λ h. let (a, b) = both.0 (whole.0 h) in (one.1 a, two.1 b), λ (a, b). whole.1 (both.1 (one.0 a, two.0 b)))

    -- the on steps are those of both added together, for any outputs
    pub merged_sum : (x y z : ℕ) → (placing f x).number ≡ 0 → (placing g y).number ≡ 0 → (placing (merged_bytes f g) z).number ≡ 0
        → (placing (merged_bytes f g) z).on_steps ≡ (placing f x).on_steps + (placing g y).on_steps
    merged_sum x y z p q r =
        ons_answered (merged_bytes f g) M merged_passed z r
        ∙ merged_ons F G shared P.formed Q.formed sums P.named Q.named
        ∙ ap₂ (λ (i j : ℕ). i + j) (sym (ons_answered f F P x p)) (sym (ons_answered g G Q y q))

    -- merged, then placed, is placed, then merged
    pub merged_then_placed : (x y : ℕ) → (placing f x).number ≡ 0 → (placing g y).number ≡ 0 → placed_bytes (merged_bytes f g) ≡ merged_bytes (placed_bytes f) (placed_bytes g)
    unfolding merged_bytes encode
    merged_then_placed x y p q =
        let A : Bare F = bare f F P x p in
        let B : Bare G = bare g G Q y q in
        let back : (b : List ℕ) (H : File) → b ≡ encode H → contents_of b ≡ contents_for H = (λ b H e. ap (λ (c : List ℕ). contents_of c) e ∙ contents_back H) in
        placed_held (merged_bytes f g) M merged_passed (merged_bare F G A B)
        ∙ ap (λ (H : File). encode H) (merged_placed F G shared P.formed Q.formed sums P.named Q.named)
        ∙ ap (λ (v : ℕ). encoded v (contents_for (merged_file (placed_file F) (placed_file G)))) P.first
        ∙ ap (encoded 1) (merged_contents_lem (placed_file F) (placed_file G))
        ∙ ap₂ (λ (C D : Contents). encoded 1 (merged_contents C D)) (sym (back (placed_bytes f) (placed_file F) (placed_held f F P A))) (sym (back (placed_bytes g) (placed_file G) (placed_held g G Q B)))

    -- at most that of the largest file of version 1
    pub merged_fits : length (merged_bytes f g) ≤ 6874
    merged_fits =
        let Z : WellFormed M = merged_passed.formed in
        omega (
          arith,
          merged_length,
          ap (λ (C : Contents). first_length C) held,
          length_rooted 1 M.sessions,
          Z.few_users,
          Z.few_roles,
          Z.few_kinds,
          Z.few_channels,
          Z.few_sessions,
          Z.few_nodes,
        )
