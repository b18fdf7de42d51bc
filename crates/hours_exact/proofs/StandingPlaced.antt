-- Where nothing before 15 refuses, what is placed for a minute is what is placed of the file as it stands at the minute; the file written has its input's users' masks.
use Prim.Native.Nat.{ℕ, suc, ◌+◌, ◌*◌, ◌-◌, ◌≤◌, ◌<◌}
use mathlib.Core.Path.{◌≡◌, refl, sym, ap, ◌∙◌, subst}
use mathlib.Core.Logic.{◌↔◌}
use mathlib.Core.Bool.{Bool, true, false, cond}
use mathlib.Core.List.{List, [], ◌∷◌, map}
use native.Mathlib.Omega.{arith}
use lib.Dec.{eqb, ltb}
use lib.ListN.{length, get_or, length-map}
use borrow.Author.Tests.{eq-eqb, le-ltb}
use Rattle.masks.specs.Mask.{has, minus, NamesOnly, Within}
use Rattle.masks.proofs.Minus.{minus_within}
use Rattle.format.specs.Contents.{Contents, contents_of}
use Rattle.format.specs.Answers.{fine, or_else}
use Rattle.format.specs.Header.{more, junior_records, version_at, length_for, room_for}
use Rattle.format.specs.Writing.{head_for, encoded}
use Rattle.format.specs.declared.Verdict.{Verdict}
use Rattle.format.specs.declared.Channel.{Channel}
use Rattle.format.proofs.AnswerLaws.{quiet_first}
use Rattle.checking.specs.Check.{reading_names}
use Rattle.states.specs.declared.Turn.{Turn}
use Rattle.groups.specs.Groups.{sizes_of, ons_of, starts_of, placed_contents}
use Rattle.hours.specs.Hours.{table_answer, TableFits, shut}
use Rattle.checking_at.specs.CheckAt.{reading_names_at, checking_at}
use Rattle.placing.specs.declared.Placed.{Placed}
use Rattle.placing.specs.Placing.{turns_for, placeable, judging, no_place, placed_by, answer_by, measuring, placing, placed_bytes}
use Rattle.placing_at.specs.PlaceAt.{open_contents, turns_at, judging_at, measuring_at, placing_at, placed_bytes_at}
use Rattle.placing_at.proofs.OpenLaws.{get_minus}
use Rattle.placing_at.proofs.PlaceAtLaws.{answers_at}
use Rattle.reading_exact.specs.Lists.{All}
use Rattle.reading_exact.specs.Tree.{Tree}
use Rattle.reading_exact.specs.File.{version_of, roles_of, Routine, File, WellFormed, InCount, nodes_of, contents_for, encode, ReadsAs, sent}
use Rattle.reading_exact.proofs.AllLaws.{all_map}
use Rattle.reading_exact.proofs.FirstLaws.{number_of}
use Rattle.reading_exact.proofs.EncodedBytes.{encode_bytes}
use Rattle.reading_exact.proofs.Exact.{one_read}
use Rattle.reading_exact.proofs.Places.{length_encoded}
use Rattle.reading_exact.proofs.FileContents.{version_back, version_read, formed_by, contents_back, contents_held, single}
use Rattle.checking_exact.specs.Tables.{schema_for}
use Rattle.checking_exact.specs.Typing.{Obeys}
use Rattle.checking_exact.proofs.CheckExact.{names_exact}
use Rattle.checking_exact.proofs.CheckFirst.{names_fine}
use Rattle.placing_exact.specs.Placement.{on_steps, graft, Placement}
use Rattle.placing_exact.specs.Placed.{placed_trees, placed_file, Bare, served_all}
use Rattle.placing_exact.specs.Counts.{on_nodes}
use Rattle.placing_exact.specs.Promised.{WellPlaced, Clean, Unrefused, session, Covers}
use Rattle.placing_exact.proofs.FilePlaced.{placed_good}
use Rattle.placing_exact.proofs.BytesPlaced.{placed_contents_lem, placed_formed}
use Rattle.placing_exact.proofs.PlacingExact.{Ready, named_file, bare_exactly, found, placed_well, placed_written}
use Rattle.placing_exact.proofs.OneRole.{covered_once}
use Rattle.hours_exact.specs.OpenFile.{open_file, RowsFit}
use Rattle.hours_exact.specs.PromisedAt.{WellPlacedAt, UnrefusedAt}
use Rattle.hours_exact.proofs.OpenFiles.{users_open, ready_open}
use Rattle.hours_exact.proofs.HourFirst.{table_fine, rows_fine}
use Rattle.hours_exact.proofs.CheckAtExact.{named_fine, check_at_exact}

-- a file is well formed where it is as it stands at a minute, and its users' masks name its roles
formed_whole : (t : List ℕ) (m : ℕ) (G : File) → All (λ mask. NamesOnly (length (roles_of G.grants)) mask) G.users → WellFormed (open_file t m G) → WellFormed G
formed_whole t m G masks W = record {
  few_users = omega (arith, users_open t m G, W.few_users);
  few_roles = W.few_roles;
  few_kinds = W.few_kinds;
  few_channels = W.few_channels;
  few_sessions = W.few_sessions;
  few_nodes = W.few_nodes;
  users_fit = masks;
  roles_fit = W.roles_fit;
  juniors_fit = W.juniors_fit;
  kinds_fit_lem = W.kinds_fit_lem;
  channels_fit = all_map owners G.channels W.channels_fit;
  sessions_fit = all_map seated G.sessions W.sessions_fit;
  trees_fit = W.trees_fit;
}
  where
    counted : (u : ℕ) → InCount (length (open_file t m G).users) u → InCount (length G.users) u
    counted u (a, b) = (a, omega (arith, b, users_open t m G))

    owners : (c : Channel) → InCount (length (open_file t m G).users) c.owner × InCount (length G.kinds) c.kind.0
        → InCount (length G.users) c.owner × InCount (length G.kinds) c.kind.0
    owners c (a, b) = (counted c.owner a, b)

    seated : (s : Routine) → InCount (length (open_file t m G).users) s.user × Within s.mask (get_or (open_file t m G).users (s.user - 1) 0)
        → InCount (length G.users) s.user × Within s.mask (get_or G.users (s.user - 1) 0)
    seated s (a, w) = (
      counted s.user a,
      λ x h. minus_within (get_or G.users (s.user - 1) 0) (shut t m) x (sym (ap (λ (k : ℕ). has k x) (get_minus (shut t m) G.users (s.user - 1))) ∙ w x h),
    )

-- so many users have their masks, whatever these are
open_placed : (version s : ℕ) (C : Contents) (ts : List Turn) → placed_by version C ts ≡ placed_by version (open_contents s C) ts
open_placed version s C ts = ap (λ (at : ℕ). record { number = 0; place = 0; length = length_for at (sizes_of ts); on_steps = ons_of ts }) begin
  where
    begin : (head_for version C).at.nodes ≡ (head_for version (open_contents s C)).at.nodes
    begin = omega (arith, length-map C.users (λ m. minus m s))

open_answer : (version s : ℕ) (C : Contents) (ts : List Turn) (v : Verdict) → answer_by version C ts v ≡ answer_by version (open_contents s C) ts v
open_answer version s C ts v = ap (λ (a : Placed). cond (eqb v.number 0) a (no_place v.number v.place)) (open_placed version s C ts)

-- with room for the output 14 to 16 are left
room_answer : (g : List ℕ) (room : ℕ) → room_for g ≤ room → placing g room ≡ answer_by (version_at g) (contents_of g) (turns_for (contents_of g)) (judging g)
unfolding placing measuring
room_answer g room wide = rw (le-ltb room (room_for g) wide)

-- what a file holds with other users
abbrev contents_with : List ℕ → Contents → Contents
contents_with us C = record { users = us; roles = C.roles; juniors = C.juniors; kinds = C.kinds; channels = C.channels; sessions = C.sessions; nodes = C.nodes }

module _ (f : List ℕ) (bytes : All (λ b. b < 256) f) (t : List ℕ) (m : ℕ) where
  -- what 1 to 10 and 14 leave of a file
  pub record Left (F : File) : Type 0 where
    pub reads : ReadsAs f F
    pub ready : Ready F

  pub left : Unrefused f (room_for f) → (F : File) → ReadsAs f F → Left F
  left u F e =
      let (_, (G, e', B)) = (bare_exactly f bytes (room_for f)).0 u in
      let (W, N) = named_file f bytes u.names F e in
      record { reads = e; ready = record { formed = W; named = N; bare = subst Bare (one_read f G F e' e) B } }

  pub left_at : {room : ℕ} → UnrefusedAt f t m room → (F : File) → ReadsAs f F → Left F
  left_at u F e = left (record { wide = omega arith; names = u.names; masks = u.masks; switches = u.switches }) F e

  module _ (F : File) (l : Left F) where
    abbrev G : File
    G = open_file t m F

    -- its bytes as it stands at the minute
    abbrev g : List ℕ
    g = encode G

    stood : Ready G
    stood = ready_open t m F l.ready

    pub standing_held : contents_of (encode (open_file t m F)) ≡ open_contents (shut t m) (contents_of f)
    standing_held = contents_back G ∙ ap (open_contents (shut t m)) (sym (contents_held F f l.reads))

    pub standing_bytes : All (λ b. b < 256) (encode (open_file t m F))
    standing_bytes = encode_bytes G stood.formed

    pub standing_names : reading_names (encode (open_file t m F)) ≡ fine
    standing_names = (names_exact g standing_bytes).1 (G, stood.formed, sent refl, stood.named)

    pub standing_unrefused : Unrefused (encode (open_file t m F)) (room_for (encode (open_file t m F)))
    standing_unrefused = (bare_exactly g standing_bytes (room_for g)).1 (record { wide = omega arith; names = standing_names }, (G, sent refl, stood.bare))

    read_version : version_at f ≡ version_of F.grants
    read_version = version_read F f l.reads

    -- it is answered alike
    answered : placing g (room_for g) ≡ answer_by (version_at f) (open_contents (shut t m) (contents_of f)) (turns_at f t m) (placeable (open_contents (shut t m) (contents_of f)))
    unfolding judging
    answered =
        let judged : judging g ≡ placeable (contents_of g) = quiet_first (reading_names g) (placeable (contents_of g)) (number_of standing_names) in
        room_answer g (room_for g) (omega arith) ∙ ap (answer_by (version_at g) (contents_of g) (turns_for (contents_of g))) judged
        ∙ (λ i. answer_by ((version_back G ∙ sym read_version) i) (standing_held i) (turns_for (standing_held i)) (placeable (standing_held i)))

    pub placed_standing : {room : ℕ} → UnrefusedAt f t m room → placing_at f t m room ≡ placing (encode (open_file t m F)) (room_for (encode (open_file t m F)))
    unfolding judging_at measuring_at
    placed_standing {room} u =
        let C' : Contents = open_contents (shut t m) (contents_of f) in
        let (r, n) = (names_fine f).0 u.names in
        let named : reading_names_at f t ≡ fine = (named_fine f t m).1 (r, (rows_fine (length (contents_of f).roles) t).1 u.rows, n) in
        let judged : judging_at f t m ≡ placeable C' =
        quiet_first (table_answer t m) (or_else (reading_names_at f t) (placeable C')) (number_of ((table_fine t m).1 u.table)) ∙ quiet_first (reading_names_at f t) (placeable C') (number_of named) in
        answers_at f t m room u.wide ∙ ap (answer_by (version_at f) (contents_of f) (turns_at f t m)) judged ∙ open_answer (version_at f) (shut t m) (contents_of f) (turns_at f t m) (placeable C') ∙ sym answered

    -- the bytes written
    abbrev trees : List Tree
    trees = placed_trees (schema_for G) G.sessions

    pub written_at : placed_bytes_at f t m ≡ encode (graft F (placed_trees (schema_for (open_file t m F)) F.sessions))
    unfolding placed_bytes_at encode
    written_at =
        let whole : Contents → Contents = contents_with F.users in
        ap (λ (C : Contents). encoded (version_at f) (placed_contents C (turns_for (open_contents (shut t m) C)) (starts_of (turns_for (open_contents (shut t m) C))))) (contents_held F f l.reads)
        ∙ (λ i. encoded (read_version i) (whole (placed_contents_lem G stood.formed stood.named stood.bare i)))

    -- a session that one open role covers has at most one on step
    pub one_role_at : (X : File) → encode X ≡ placed_bytes_at f t m → (k r : ℕ) → InCount (length F.sessions) k → Covers (open_file t m F) k r
        → on_steps (session X k).tree ≤ 1
    one_role_at X writes k r c h =
        let whole : X ≡ graft F trees = single X (graft F trees) (writes ∙ written_at) in
        subst (λ (Y : File). on_steps (session Y k).tree ≤ 1) (sym whole) (covered_once G stood.formed stood.named stood.bare k r c h)

    -- the file written is well formed, and passes for the minute
    module _ {room : ℕ} (u : UnrefusedAt f t m room) (placed : (placing_at f t m room).number ≡ 0) where
      abbrev H : File
      H = graft F trees

      there : (placing g (room_for g)).number ≡ 0
      there = sym (ap (λ (a : Placed). a.number) (placed_standing u)) ∙ placed

      well : WellPlaced g (placing g (room_for g)) (placed_bytes g)
      well = placed_well g standing_bytes (room_for g) there

      in_bytes : placed_bytes g ≡ encode (graft G trees)
      in_bytes = placed_written g standing_bytes (room_for g) there G (sent refl)

      pub served : (served_all (schema_for (open_file t m F)) F.sessions ≡ true) × (length (nodes_of (placed_file (open_file t m F))) ≤ 1024)
      served =
          let (X, e, _, s, few) = found g standing_bytes (room_for g) there in
          subst (λ (Y : File). (served_all (schema_for Y) Y.sessions ≡ true) × (length (nodes_of (placed_file Y)) ≤ 1024)) (one_read g X G e (sent refl)) (s, few)

      good : Placement G trees
      good = placed_good G stood.formed stood.named stood.bare served.0

      formed : WellFormed H
      formed = formed_whole t m H l.ready.formed.users_fit (placed_formed G stood.formed stood.named stood.bare served.0 served.1)

      passes : checking_at (encode H) t m ≡ fine
      passes =
          let rows = subst (λ (C : Contents). RowsFit (length C.roles) t) (contents_held F f l.reads) u.rows in
          (check_at_exact (encode H) t m (encode_bytes H formed)).1 (u.table, (H, formed, sent refl, (rows, good.passes)))

      as_long : length (encode (graft G trees)) ≡ length (encode H)
      unfolding encode
      as_long =
          omega (
            arith,
            length_encoded (version_of F.grants) (contents_for (graft G trees)) (formed_by (graft G trees)),
            length_encoded (version_of F.grants) (contents_for H) (formed_by H),
            users_open t m F,
          )

      pub well_placed_at : WellPlacedAt f t m (placing_at f t m room) (placed_bytes_at f t m)
      well_placed_at =
          let same = placed_standing u in
          record {
            file = F;
            formed = l.ready.formed;
            reads = l.reads;
            trees = trees;
            stands = subst (λ (a : Placed). WellPlaced g a (encode (graft G trees))) (sym same) (subst (WellPlaced g (placing g (room_for g))) in_bytes well);
            writes = sym written_at;
            passes = subst (λ (b : List ℕ). checking_at b t m ≡ fine) (sym written_at) passes;
            sized = ap (λ (a : Placed). a.length) same ∙ well.sized ∙ ap length in_bytes ∙ as_long ∙ ap length (sym written_at);
            counted = ap (λ (a : Placed). a.on_steps) same ∙ well.counted ∙ ap (λ (b : List ℕ). on_nodes (contents_of b).nodes) in_bytes
                ∙ ap (λ (C : Contents). on_nodes C.nodes) (contents_back (graft G trees)) ∙ ap (λ (C : Contents). on_nodes C.nodes) (sym (contents_back H))
                ∙ ap (λ (b : List ℕ). on_nodes (contents_of b).nodes) (sym written_at);
          }
