-- Placing answers, or refuses, exactly as the paper fixes it: what a placed file is, and when each of 14 to 16 is the answer.
use Prim.Native.Nat.{ℕ, ◌+◌, ◌≤◌, ◌<◌}
use mathlib.Core.Path.{◌≡◌, refl, sym, ap, ◌∙◌, subst}
use mathlib.Core.Logic.{◌↔◌, ◌⊎◌, inl, inr, ◌≢◌}
use mathlib.Core.Bool.{true}
use mathlib.Core.List.{List, [], ◌∷◌, ◌++◌, map}
use native.Mathlib.Omega.{arith}
use lib.ListN.{length, drop}
use lib.Seq.{sets-eq}
use borrow.Author.Tests.{eq-eqb, ne_eqb}
use Rattle.format.specs.Contents.{Contents, contents_of}
use Rattle.format.specs.Answers.{fine, refused}
use Rattle.format.specs.Header.{largest, room_for}
use Rattle.format.specs.declared.Verdict.{Verdict}
use Rattle.rules.specs.Schema.{Schema}
use Rattle.checking.specs.Check.{reading_names, checking}
use Rattle.states.specs.declared.Turn.{Turn}
use Rattle.groups.specs.Groups.{sizes_of, ons_of}
use Rattle.placing.specs.declared.Placed.{Placed}
use Rattle.placing.specs.Placing.{labels_in, turns_for, masks_answer, switches_answer, unserved_from, size_answer, no_place, placed_in, placing, placed_bytes, placed_over}
use Rattle.reading_exact.specs.Lists.{All}
use Rattle.reading_exact.specs.Tree.{Tree}
use Rattle.reading_exact.specs.File.{version_of, roles_of, Routine, File, WellFormed, nodes_of, contents_for, encode, ReadsAs, sent}
use Rattle.reading_exact.specs.Order.{OfFile}
use Rattle.format.proofs.HeadLaws.{more_few, juniors_few}
use Rattle.reading_exact.proofs.AllLaws.{all_map, all_both}
use Rattle.reading_exact.proofs.EncodedBytes.{encode_bytes}
use Rattle.reading_exact.proofs.Exact.{one_read}
use Rattle.reading_exact.proofs.Places.{length_encoded}
use Rattle.reading_exact.proofs.FileContents.{version_read, formed_by, trees_of, length_rooted, contents_held}
use Rattle.checking_exact.specs.Tables.{schema_for}
use Rattle.checking_exact.specs.Typing.{WellKinded}
use Rattle.checking_exact.proofs.CheckExact.{names_exact, check_exact}
use Rattle.placing.proofs.PlaceLaws.{length_within}
use Rattle.placing_exact.specs.Placement.{plain, on_steps_of, grafted, graft, Placement}
use Rattle.placing_exact.specs.Placed.{placed_tree, placed_trees, placed_file, insert_all, taking_all, served_all, Bare}
use Rattle.placing_exact.specs.Counts.{on_nodes}
use Rattle.placing_exact.specs.Causes.{SomeMask, IsSwitch, Unserved, PlacedWith}
use Rattle.placing_exact.specs.Promised.{WellPlaced, Ruled, Clean, Lowest, Unrefused, NoPlacement}
use Rattle.placing_exact.proofs.GroupSessions.{placed_inserted}
use Rattle.placing_exact.proofs.FilePlaced.{placed_good, fewest, least_idle, placement_served}
use Rattle.placing_exact.proofs.FixedStates.{fixed_single, taking_fixed}
use Rattle.placing_exact.proofs.BytesPlaced.{
  placed_bytes_lem,
  placed_size,
  placed_length,
  placed_ons,
  placed_states,
  served_answer,
  placed_formed,
  masks_bare,
  switches_bare,
  on_nodes_lem,
}
use Rattle.placing_exact.proofs.AnswerStages.{
  unserved_answers,
  size_answers,
  room_stage,
  names_stage,
  placed_answer,
  sixteen_stage,
  fifteen_stage,
  masks_stage,
  switches_stage,
  placed_stage,
}
use Rattle.placing_exact.proofs.RefusedPlaces.{masks_some, masks_none, switches_none, switches_lowest, unserved_lowest}

-- the trees grafted are those given
pub grafted_trees : (D : Schema) (ss : List Routine) → trees_of (grafted ss (placed_trees D ss)) ≡ placed_trees D ss
unfolding grafted placed_trees
grafted_trees D [] = refl
grafted_trees D (s ∷ ss) = ap {B = List Tree} (λ l. placed_tree D s.user s.tree ∷ l) (grafted_trees D ss)

-- the largest file has 6,908 bytes
pub at_largest : (F : File) → WellFormed F → length (encode F) ≤ largest
unfolding encode
at_largest F W =
    omega (
      arith,
      length_encoded (version_of F.grants) (contents_for F) (formed_by F),
      more_few (version_of F.grants),
      juniors_few (version_of F.grants) (length (roles_of F.grants)),
      length_rooted 1 F.sessions,
      W.few_users,
      W.few_roles,
      W.few_kinds,
      W.few_channels,
      W.few_sessions,
      W.few_nodes,
    )

-- what 1 to 10 and 14 leave of a file
pub record Ready (F : File) : Type 0 where
  pub formed : WellFormed F
  pub named : WellKinded F
  pub bare : Bare F

bare_iff : (F : File) → ((masks_answer (contents_for F) ≡ fine) × (switches_answer (contents_for F) ≡ fine)) ↔ Bare F
bare_iff F = (
  λ (m, s). all_both (λ (s : Routine). s.mask ≡ 0) (λ (s : Routine). plain s.tree ≡ s.tree) F.sessions ((masks_bare F).0 m) ((switches_bare F).0 s),
  λ b. ((masks_bare F).1 (all_map (λ s h. h.0) F.sessions b), (switches_bare F).1 (all_map (λ s h. h.1) F.sessions b)),
)

-- 17 first of all: output under 6,874 bytes, or 6,908 where the first word is 2 or 3
pub seventeen_exactly : (f : List ℕ) (room : ℕ) → (placing f room ≡ no_place 17 0) ↔ (room < room_for f)
seventeen_exactly f room = room_stage f room

-- then 1 to 10, as they are read
pub ten_exactly : (f : List ℕ) (room n p : ℕ) → OfFile n → (placing f room ≡ no_place n p) ↔ ((room_for f ≤ room) × (reading_names f ≡ refused n p))
ten_exactly f room = names_stage f room

module _ (f : List ℕ) (bytes : All (λ b. b < 256) f) where
  -- a file that these bytes read as is well formed, and its names and kinds are right
  pub named_file : reading_names f ≡ fine → (F : File) → ReadsAs f F → WellFormed F × WellKinded F
  named_file r F e =
      let (G, W, e', N) = (names_exact f bytes).0 r in
      subst (λ (H : File). WellFormed H × WellKinded H) (one_read f G F e' e) (W, N)

  module _ (room : ℕ) where
    some_file : Unrefused f room → (F : File) × ReadsAs f F
    some_file u = let (F, W, e, N) = (names_exact f bytes).0 u.names in (F, e)

    ready : Unrefused f room → (F : File) → ReadsAs f F → Ready F
    ready u F e =
        let (W, N) = named_file u.names F e in
        let same = subst (λ (C : Contents). (masks_answer C ≡ fine) × (switches_answer C ≡ fine)) (contents_held F f e) ((masks_none (contents_of f)).1 u.masks, (switches_none f u.names).1 u.switches) in
        record { formed = W; named = N; bare = (bare_iff F).0 same }

    -- nothing before 15 refuses exactly where nothing before 14 does, all starting masks are 0 and there is no on or off
    pub bare_exactly : Unrefused f room ↔ (Clean f room × ((F : File) × ReadsAs f F × Bare F))
    bare_exactly = (
      λ u. let (F, e) = some_file u in (record { wide = u.wide; names = u.names }, (F, e, (ready u F e).bare)),
      λ (c, (F, e, b)).
          let (m, s) = subst (λ (C : Contents). (masks_answer C ≡ fine) × (switches_answer C ≡ fine)) (sym (contents_held F f e)) ((bare_iff F).1 b) in
          record { wide = c.wide; names = c.names; masks = (masks_none (contents_of f)).0 m; switches = (switches_none f c.names).0 s },
    )

    -- 15 finds nothing exactly where every node is served; then there is a placement, and only then
    served_read : (F : File) → ReadsAs f F → Ready F → (unserved_from 1 (labels_in (contents_of f)) ≡ fine) ↔ (served_all (schema_for F) F.sessions ≡ true)
    served_read F e r =
        subst (λ (C : Contents). (unserved_from 1 (labels_in C) ≡ fine) ↔ (served_all (schema_for F) F.sessions ≡ true)) (sym (contents_held F f e))
        (served_answer F r.formed r.named r.bare)

    size_read : (F : File) → ReadsAs f F → Ready F → sizes_of (turns_for (contents_of f)) ≡ length (nodes_of (placed_file F))
    size_read F e r = ap (λ (C : Contents). sizes_of (turns_for C)) (contents_held F f e) ∙ placed_size F r.formed r.named r.bare

    -- 15: there is no placement
    pub fifteen_exactly : ((p : ℕ) × (placing f room ≡ no_place 15 p)) ↔ (Unrefused f room × NoPlacement f)
    fifteen_exactly = (
      λ (p, h). let (u, s) = (fifteen_stage f room p).0 h in (u, without p u s),
      λ (u, n). let (p, s) = lacking u n (unserved_answers 1 (labels_in (contents_of f))) in (p, (fifteen_stage f room p).1 (u, s)),
    )
      where
        without : (p : ℕ) → Unrefused f room → unserved_from 1 (labels_in (contents_of f)) ≡ refused 15 p → NoPlacement f
        without p u s F e ts P =
            let r = ready u F e in
            let served = placement_served F r.formed r.named r.bare ts P in
            omega (arith, ap (λ (v : Verdict). v.number) (sym ((served_read F e r).1 served) ∙ s))

        lacking : Unrefused f room → NoPlacement f
            → (unserved_from 1 (labels_in (contents_of f)) ≡ fine) ⊎ ((p : ℕ) × (unserved_from 1 (labels_in (contents_of f)) ≡ refused 15 p))
            → (p : ℕ) × (unserved_from 1 (labels_in (contents_of f)) ≡ refused 15 p)
        lacking u n (inl s) =
            let (F, e) = some_file u in
            let r = ready u F e in
            absurd (n F e (placed_trees (schema_for F) F.sessions) (placed_good F r.formed r.named r.bare ((served_read F e r).0 s)))
        lacking u n (inr z) = z

    -- what 15 leaves
    pub placement_read : (Size : ℕ → Type 0) → Unrefused f room → unserved_from 1 (labels_in (contents_of f)) ≡ fine → Size (sizes_of (turns_for (contents_of f)))
        → PlacedWith Size f
    placement_read Size u s z =
        let (F, e) = some_file u in
        let r = ready u F e in
        let served = (served_read F e r).0 s in
        let same = placed_inserted (schema_for F) F.sessions in (
          F,
          taking_all (schema_for F) F.sessions,
          e,
          taking_fixed F r.formed r.named r.bare served,
          subst (Placement F) same (placed_good F r.formed r.named r.bare served),
          subst Size (size_read F e r ∙ ap (λ (ts : List Tree). length (nodes_of (graft F ts))) same) z,
        )

    pub read_placement : (Size : ℕ → Type 0) → Unrefused f room → PlacedWith Size f
        → (unserved_from 1 (labels_in (contents_of f)) ≡ fine) × Size (sizes_of (turns_for (contents_of f)))
    read_placement Size u (F, states, e, rule, P, z) =
        let r = ready u F e in
        let served = placement_served F r.formed r.named r.bare _ P in
        let one = fixed_single F states (taking_all (schema_for F) F.sessions) rule (taking_fixed F r.formed r.named r.bare served) in
        let trees = ap (insert_all (schema_for F) F.sessions) one ∙ sym (placed_inserted (schema_for F) F.sessions) in
        ((served_read F e r).1 served, subst Size (ap (λ (ts : List Tree). length (nodes_of (graft F ts))) trees ∙ sym (size_read F e r)) z)

    -- where there is a placement the tie rule fixes the states, and what is measured and written
    pub ruled : Unrefused f room → (F : File) → ReadsAs f F → (ts : List Tree) → Placement F ts → Ruled f F
    ruled u F e ts P =
        let r = ready u F e in
        let C = contents_held F f e in
        let same = placed_inserted (schema_for F) F.sessions in
        let rule = taking_fixed F r.formed r.named r.bare (placement_served F r.formed r.named r.bare ts P) in
        record {
          states = taking_all (schema_for F) F.sessions;
          fixed = rule;
          only = λ other h. fixed_single F other (taking_all (schema_for F) F.sessions) h rule;
          taken = ap (λ (C : Contents). map (λ (t : Turn). t.to) (turns_for C)) C ∙ placed_states F r.formed r.named r.bare;
          measured = size_read F e r ∙ ap (λ (ts : List Tree). length (nodes_of (graft F ts))) same;
          written = placed_bytes_lem F r.formed r.named r.bare f e ∙ ap (λ (ts : List Tree). encode (graft F ts)) same;
        }

    -- 16, at place 0: the file that the tie rule fixes has over 1,024 nodes
    pub sixteen_exactly : (p : ℕ) → (placing f room ≡ no_place 16 p) ↔ ((p ≡ 0) × Unrefused f room × PlacedWith (λ n. 1024 < n) f)
    sixteen_exactly p = (
      λ h.
          let (u, s, z) = (sixteen_stage f room p).0 h in
          let (q, l) = over (size_answers (sizes_of (turns_for (contents_of f)))) z in
          (q, u, placement_read (λ n. 1024 < n) u s l),
      λ (q, u, h).
          let (s, l) = read_placement (λ n. 1024 < n) u h in
          (sixteen_stage f room p).1 (u, s, at (size_answers (sizes_of (turns_for (contents_of f)))) l ∙ ap (refused 16) (sym q)),
    )
      where
        over : {n : ℕ} → ((size_answer n ≡ fine) × (n ≤ 1024)) ⊎ ((size_answer n ≡ refused 16 0) × (1024 < n)) → size_answer n ≡ refused 16 p → (p ≡ 0) × (1024 < n)
        over (inl (e, l)) h = absurd (omega (arith, ap (λ (v : Verdict). v.number) (sym e ∙ h)))
        over (inr (e, l)) h = (ap (λ (v : Verdict). v.place) (sym h ∙ e), l)

        at : {n : ℕ} → ((size_answer n ≡ fine) × (n ≤ 1024)) ⊎ ((size_answer n ≡ refused 16 0) × (1024 < n)) → 1024 < n → size_answer n ≡ refused 16 0
        at (inl (e, k)) l = absurd (omega (arith, k, l))
        at (inr (e, k)) l = e

    -- nothing is refused: there is one, and the result has at most 1,024
    pub placed_exactly : ((placing f room).number ≡ 0) ↔ (Unrefused f room × PlacedWith (λ n. n ≤ 1024) f)
    placed_exactly = (
      λ h. let (u, s, l) = (placed_stage f room).0 h in (u, placement_read (λ n. n ≤ 1024) u s l),
      λ (u, q). let (s, l) = read_placement (λ n. n ≤ 1024) u q in (placed_stage f room).1 (u, s, l),
    )

    -- 14: a starting mask, at place 0
    pub fourteen_masks : (placing f room ≡ no_place 14 0) ↔ (Clean f room × SomeMask (contents_of f))
    fourteen_masks = (
      λ h. let (c, m) = (masks_stage f room).0 h in (c, (masks_some (contents_of f)).0 m),
      λ (c, s). (masks_stage f room).1 (c, (masks_some (contents_of f)).1 s),
    )

    -- 14: no starting mask, and the lowest node that is on or off
    pub fourteen_node : (p : ℕ) → 1 ≤ p
        → (placing f room ≡ no_place 14 p) ↔ (Clean f room × (SomeMask (contents_of f) → ⊥) × Lowest (IsSwitch (contents_of f).nodes) p)
    fourteen_node p l = (
      λ h. let (c, m, s) = (switches_stage f room p l).0 h in (c, (masks_none (contents_of f)).0 m, (switches_lowest f c.names p).0 s),
      λ (c, m, s). (switches_stage f room p l).1 (c, (masks_none (contents_of f)).1 m, (switches_lowest f c.names p).1 s),
    )

    -- 15, by its place: the lowest send or receive that no role of the user permits
    pub fifteen_place : (p : ℕ) → (placing f room ≡ no_place 15 p) ↔ (Unrefused f room × Lowest (Unserved (contents_of f)) p)
    fifteen_place p = (
      λ h. let (u, s) = (fifteen_stage f room p).0 h in (u, (unserved_lowest f u.names p).0 s),
      λ (u, s). (fifteen_stage f room p).1 (u, (unserved_lowest f u.names p).1 s),
    )

-- a placed file
module _ (f : List ℕ) (F : File) (reads : ReadsAs f F) (r : Ready F) (served : served_all (schema_for F) F.sessions ≡ true) (few : length (nodes_of (placed_file F)) ≤ 1024) where
  abbrev G : File
  G = placed_file F

  abbrev g : List ℕ
  g = placed_bytes f

  written : encode G ≡ g
  written = sym (placed_bytes_lem F r.formed r.named r.bare f reads)

  good : Placement F (placed_trees (schema_for F) F.sessions)
  good = placed_good F r.formed r.named r.bare served

  formed : WellFormed G
  formed = placed_formed F r.formed r.named r.bare served few

  checked : checking g ≡ fine
  checked =
      let whole : checking (encode G) ≡ fine = (check_exact (encode G) (encode_bytes G formed)).1 (G, formed, sent refl, good.passes) in
      subst (λ (b : List ℕ). checking b ≡ fine) written whole

  counted : ons_of (turns_for (contents_for F)) ≡ on_nodes (contents_of g).nodes
  counted =
      placed_ons F r.formed r.named r.bare
      ∙ ap on_steps_of (sym (grafted_trees (schema_for F) F.sessions))
      ∙ sym (on_nodes_lem G)
      ∙ ap (λ (C : Contents). on_nodes C.nodes) (sym (contents_held G g (sent written)))

  file_well : (a : Placed) → a.length ≡ length g → a.on_steps ≡ ons_of (turns_for (contents_for F)) → WellPlaced f a g
  file_well a long ons =
      let steps : a.on_steps ≡ on_steps_of (placed_trees (schema_for F) F.sessions) = ons ∙ placed_ons F r.formed r.named r.bare in
      record {
        file = F;
        formed = r.formed;
        reads = reads;
        trees = placed_trees (schema_for F) F.sessions;
        writes = written;
        placement = good;
        passes = checked;
        sized = long;
        counted = ons ∙ counted;
        fewest = λ ts P. omega (arith, fewest F r.formed r.named r.bare ts P);
        least_idle = λ ts P q. least_idle F r.formed r.named r.bare ts P (omega (arith, q, steps));
        states = taking_all (schema_for F) F.sessions;
        fixed = taking_fixed F r.formed r.named r.bare served;
        taken = ap (λ (C : Contents). map (λ (t : Turn). t.to) (turns_for C)) (contents_held F f reads) ∙ placed_states F r.formed r.named r.bare;
        turned = placed_inserted (schema_for F) F.sessions;
      }

-- The answer and the output.

module _ (f : List ℕ) (bytes : All (λ b. b < 256) f) (room : ℕ) (placed : (placing f room).number ≡ 0) where
  -- the file, and that all its nodes are served
  pub found : (F : File) × ReadsAs f F × Ready F × (served_all (schema_for F) F.sessions ≡ true) × (length (nodes_of (placed_file F)) ≤ 1024)
  found =
      let (u, (F, states, e, _, P, _)) = (placed_exactly f bytes room).0 placed in
      let r = ready f bytes room u F e in
      let (_, _, l) = (placed_stage f room).0 placed in
      (F, e, r, placement_served F r.formed r.named r.bare _ P, omega (arith, l, size_read f bytes room F e r))

  -- what is placed
  pub placed_well : WellPlaced f (placing f room) (placed_bytes f)
  placed_well =
      let (F, e, r, s, l) = found in
      let same = placed_answer f room placed ∙ (λ i. placed_in (version_read F f e i) (contents_held F f e i)) in
      let long : (placing f room).length ≡ length (placed_bytes f) =
      ap (λ (a : Placed). a.length) same ∙ placed_length F r.formed r.named r.bare ∙ ap length (written f F e r s l) in
      file_well f F e r s l (placing f room) long (ap (λ (a : Placed). a.on_steps) same)

  -- the file written
  pub placed_written : (F : File) → ReadsAs f F → placed_bytes f ≡ encode (placed_file F)
  placed_written F e =
      let r = ready f bytes room ((placed_exactly f bytes room).0 placed).0 F e in
      placed_bytes_lem F r.formed r.named r.bare f e

  -- the output has room for it
  pub placed_fits : length (placed_bytes f) ≤ room
  placed_fits =
      let wide = ((placed_exactly f bytes room).0 placed).0.wide in
      omega (arith, wide, placed_well.sized, length_within f room)

-- a refusal leaves the output as it was
pub out_kept : (f out : List ℕ) → (placing f (length out)).number ≢ 0 → placed_over f out ≡ out
unfolding placed_over
out_kept f out h = rw (ne_eqb (placing f (length out)).number 0 h)

-- output bytes past the placed file keep what they held
pub out_written : (f : List ℕ) → All (λ b. b < 256) f → (out : List ℕ) → (placing f (length out)).number ≡ 0
    → placed_over f out ≡ placed_bytes f ++ drop (length (placed_bytes f)) out
unfolding placed_over
out_written f bytes out h =
    let long : 0 + length (placed_bytes f) ≤ length out = omega (arith, placed_fits f bytes (length out) h) in
    let all : 0 + length (placed_bytes f) ≡ length (placed_bytes f) = omega arith in
    rw (eq-eqb (placing f (length out)).number 0 h)
    (sets-eq (placed_bytes f) out 0 long ∙ ap (λ (n : ℕ). placed_bytes f ++ drop n out) all)
