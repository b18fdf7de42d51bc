-- What another ward can change in mine: nothing of a session's placed tree, whatever the other users and sessions are.
use Prim.Native.Nat.{ℕ, ◌-◌, ◌<◌}
use mathlib.Core.Path.{◌≡◌, sym, ap, ap₂, ◌∙◌, subst}
use mathlib.Core.List.{List, []}
use native.Mathlib.Omega.{arith}
use lib.ListN.{length}
use Rattle.masks.specs.Mask.{minus}
use Rattle.format.specs.Contents.{item}
use Rattle.rules.specs.Schema.{Schema}
use Rattle.hours.specs.Hours.{shut}
use Rattle.placing.specs.Placing.{placing, placed_bytes}
use Rattle.placing_at.specs.PlaceAt.{placing_at, placed_bytes_at}
use Rattle.placing_at.proofs.OpenLaws.{item_minus}
use Rattle.reading_exact.specs.Lists.{All}
use Rattle.reading_exact.specs.Tree.{Tree}
use Rattle.reading_exact.specs.File.{Routine, File, WellFormed, encode, ReadsAs}
use Rattle.reading_exact.proofs.AllLaws.{all_get}
use Rattle.reading_exact.proofs.FileContents.{single}
use Rattle.checking_exact.specs.Tables.{schema_for}
use Rattle.checking_exact.specs.Typing.{Kinded, WellKinded}
use Rattle.checking_exact.proofs.OperandKinds.{Ranged}
use Rattle.checking_exact.proofs.FileRules.{ranged}
use Rattle.placing_exact.specs.Placement.{on_steps, graft}
use Rattle.placing_exact.specs.Placed.{placed_tree, placed_trees, placed_file}
use Rattle.placing_exact.specs.Promised.{no_routine, session}
use Rattle.placing_exact.proofs.PlacingExact.{named_file, placed_exactly, placed_written}
use Rattle.placing_exact.proofs.OneRole.{tree_placed}
use Rattle.hours_exact.specs.OpenFile.{open_file}
use Rattle.hours_exact.proofs.OpenFiles.{ranged_open, kinded_open}
use Rattle.hours_exact.proofs.StandingPlaced.{Left, left_at, written_at}
use Rattle.hours_exact.proofs.PlaceAtExact.{placed_at}
use Rattle.wards.specs.Ward.{SameWard}
use Rattle.wards.proofs.WardLabels.{tables_with, placed_alike}

abbrev Naming : Schema → Routine → Type 0
Naming D s = Kinded D s.user [] s.tree

-- as data, whatever users' masks placing goes by, so long as the session's user has the same in both
module _ (F G : File) (i j : ℕ) (S : SameWard F G i j) (us vs : List ℕ) where
  abbrev owner : ℕ
  owner = (session F i).user

  abbrev own : Tree
  own = (session F i).tree

  -- the first file's tables with the second's roles, kinds and channels, which are the same
  same_tables : tables_with us F ≡ tables_with us G
  same_tables = λ k. schema_for (record { users = us; grants = S.roles k; kinds = S.kinds k; channels = S.channels k; sessions = [] })

  module _ (mask : item 0 us (session F i).user ≡ item 0 vs (session F i).user) (R : Ranged (tables_with us F)) (R' : Ranged (tables_with vs G))
      (N : All (λ (s : Routine). Kinded (tables_with us F) s.user [] s.tree) F.sessions) (M : All (λ (s : Routine). Kinded (tables_with vs G) s.user [] s.tree) G.sessions) where
    one_tree : placed_tree (tables_with us F) owner own ≡ placed_tree (tables_with vs G) owner own
    one_tree =
        let h : i - 1 < length F.sessions = omega (arith, S.here.0, S.here.1) in
        let g : j - 1 < length G.sessions = omega (arith, S.there.0, S.there.1) in
        let k : Kinded (tables_with us G) owner [] own = subst (λ (D : Schema). Kinded D owner [] own) same_tables (all_get (Naming (tables_with us F)) F.sessions (i - 1) no_routine h N) in
        let l : Naming (tables_with vs G) (session G j) = all_get (Naming (tables_with vs G)) G.sessions (j - 1) no_routine g M in
        let l' : Kinded (tables_with vs G) owner [] own =
        subst (λ (x : ℕ). Kinded (tables_with vs G) x [] own) (sym S.user) (subst (Kinded (tables_with vs G) (session G j).user []) (sym S.tree) l) in
        ap (λ (D : Schema). placed_tree D owner own) same_tables ∙ placed_alike G us vs owner mask (subst Ranged same_tables R) R' own k l'

    pub ward_placed : (session (graft F (placed_trees (tables_with us F) F.sessions)) i).tree ≡ (session (graft G (placed_trees (tables_with vs G) G.sessions)) j).tree
    ward_placed =
        let h : i - 1 < length F.sessions = omega (arith, S.here.0, S.here.1) in
        let g : j - 1 < length G.sessions = omega (arith, S.there.0, S.there.1) in
        tree_placed (tables_with us F) F.sessions (i - 1) h ∙ one_tree ∙ ap₂ (placed_tree (tables_with vs G)) S.user S.tree
        ∙ sym (tree_placed (tables_with vs G) G.sessions (j - 1) g)

-- the trees and their on steps
abbrev pub SamePlaced : File → ℕ → File → ℕ → Type 0
SamePlaced P i Q j = ((session P i).tree ≡ (session Q j).tree) × (on_steps (session P i).tree ≡ on_steps (session Q j).tree)

-- what is placed of a file's bytes, as data
module _ (f : List ℕ) (bytes : All (λ b. b < 256) f) (F : File) (d : ReadsAs f F) (P : File) where
  pub placed_data : (room : ℕ) → (placing f room).number ≡ 0 → encode P ≡ placed_bytes f → P ≡ graft F (placed_trees (tables_with F.users F) F.sessions)
  placed_data room p x = single P (placed_file F) (x ∙ placed_written f bytes room p F d)

  abbrev leaves : (t : List ℕ) (m room : ℕ) → (placing_at f t m room).number ≡ 0 → Left f bytes t m F
  leaves t m room p = left_at f bytes t m ((placed_at f bytes t m room).0 p).0 F d

  pub placed_data_at : (t : List ℕ) (m room : ℕ) → (placing_at f t m room).number ≡ 0 → encode P ≡ placed_bytes_at f t m
      → P ≡ graft F (placed_trees (tables_with (open_file t m F).users F) F.sessions)
  placed_data_at t m room p x = single P (graft F (placed_trees (schema_for (open_file t m F)) F.sessions)) (x ∙ written_at f bytes t m F (leaves t m room p))

by_data : (P Q X Y : File) (i j : ℕ) → P ≡ X → Q ≡ Y → (session X i).tree ≡ (session Y j).tree → SamePlaced P i Q j
by_data P Q X Y i j p q e =
    let same : (session P i).tree ≡ (session Q j).tree = ap (λ (H : File). (session H i).tree) p ∙ e ∙ ap (λ (H : File). (session H j).tree) (sym q) in
    (same, ap on_steps same)

module _ (f g : List ℕ) (F-bytes : All (λ b. b < 256) f) (G-bytes : All (λ b. b < 256) g) (F G : File) (d : ReadsAs f F) (e : ReadsAs g G) (i j : ℕ) (S : SameWard F G i j) (P Q : File) where
  -- of two files that both place
  pub isolated : (room space : ℕ) → (placing f room).number ≡ 0 → (placing g space).number ≡ 0 → encode P ≡ placed_bytes f → encode Q ≡ placed_bytes g → SamePlaced P i Q j
  isolated room space p q x y =
      let (W, N) = named_file f F-bytes ((placed_exactly f F-bytes room).0 p).0.names F d in
      let (W', M) = named_file g G-bytes ((placed_exactly g G-bytes space).0 q).0.names G e in
      by_data P Q (placed_file F) (placed_file G) i j (placed_data f F-bytes F d P room p x) (placed_data g G-bytes G e Q space q y)
      (ward_placed F G i j S F.users G.users S.mask (ranged F W) (ranged G W') N M)

  -- for one minute, with one table of hours
  pub isolated_at : (t : List ℕ) (m room space : ℕ) → (placing_at f t m room).number ≡ 0 → (placing_at g t m space).number ≡ 0
      → encode P ≡ placed_bytes_at f t m → encode Q ≡ placed_bytes_at g t m → SamePlaced P i Q j
  isolated_at t m room space p q x y =
      let l : Left f F-bytes t m F = leaves f F-bytes F d P t m room p in
      let l' : Left g G-bytes t m G = leaves g G-bytes G e Q t m space q in
      let v : ℕ = (session F i).user in
      let mask : item 0 (open_file t m F).users v ≡ item 0 (open_file t m G).users v =
      item_minus (shut t m) F.users v ∙ ap (λ (k : ℕ). minus k (shut t m)) S.mask ∙ sym (item_minus (shut t m) G.users v) in
      by_data P Q (graft F (placed_trees (schema_for (open_file t m F)) F.sessions)) (graft G (placed_trees (schema_for (open_file t m G)) G.sessions)) i j
      (placed_data_at f F-bytes F d P t m room p x) (placed_data_at g G-bytes G e Q t m space q y)
      (ward_placed F G i j S (open_file t m F).users (open_file t m G).users mask (ranged_open t m F l.ready.formed) (ranged_open t m G l'.ready.formed)
      (kinded_open t m F l.ready.formed l.ready.named) (kinded_open t m G l'.ready.formed l'.ready.named))
