-- The encoding of a well formed file is bytes: everything in it fits a word.
use Prim.Native.Nat.{ℕ, suc, ◌+◌, ◌-◌, ◌^◌, ◌≤◌, ◌<◌}
use mathlib.Core.Path.{◌≡◌, sym, subst}
use mathlib.Core.Bool.{Bool, true, false, cond}
use mathlib.Core.List.{List, [], ◌∷◌, ◌++◌, map}
use native.Mathlib.Omega.{arith}
use lib.ListN.{length}
use Rattle.masks.specs.Mask.{NamesOnly}
use Rattle.masks.proofs.Bounds.{names_only_iff, names_only_lt}
use Rattle.format.specs.Header.{has_juniors, more, junior_records, six_words, head_words}
use Rattle.format.specs.Sections.{by_column}
use Rattle.format.specs.Writing.{junior_words, node_rows, node_columns, node_words, head_for, file_words, encoded}
use Rattle.format.specs.declared.Seven.{Seven}
use Rattle.format.specs.declared.Role.{Role}
use Rattle.format.specs.declared.Node.{Node}
use Rattle.format.proofs.HeadLaws.{more_few, juniors_few}
use Rattle.reading_exact.specs.Lists.{All}
use Rattle.reading_exact.specs.Tree.{past, flatten, Worded}
use Rattle.reading_exact.specs.File.{Routine, Grants, first, second, third, version_of, roles_of, juniors_of, LowerFrom, File, WellFormed, nodes_of, rooted, contents_for, encode}
use Rattle.reading_exact.proofs.TreeEnds.{past_length}
use Rattle.reading_exact.proofs.WordedTrees.{WordsFit, worded_nodes}
use Rattle.reading_exact.proofs.Bytes.{Byte, Word, small_bytes}
use Rattle.reading_exact.proofs.Rows.{cat}
use Rattle.reading_exact.proofs.SectionRows.{one_row, role_row, channel_row, session_row, row_words, file_rows}
use Rattle.reading_exact.proofs.AllLaws.{all_map, all_append, all_get}
use Rattle.reading_exact.proofs.RecordsJudged.{Seated}
use Rattle.reading_exact.proofs.FileContents.{juniors_each, trees_of, length_rooted, all_trees}

-- every one is a word; a record, so that the list is found from it
record Small (l : List ℕ) : Type 0 where
  words : All Word l

small_append : {k l : List ℕ} → Small k → Small l → Small (k ++ l)
small_append {k} {l} h g = record { words = all_append Word k l h.words g.words }

small_cat : {A : Type 0} (enc : A → List ℕ) (xs : List A) → All (λ x. All Word (enc x)) xs → Small (cat enc xs)
unfolding cat
small_cat enc [] h = record { words = tt }
small_cat enc (x ∷ xs) h = let first : Small (enc x) = record { words = h.0 } in small_append first (small_cat enc xs h.1)

-- a mask of items up to n is below 2 ^ k for any k from n on
mask_lt : (k n m : ℕ) → n ≤ k → NamesOnly n m → m < 2 ^ k
mask_lt k n m l h = (names_only_lt k m).0 ((names_only_iff k m).1 (λ x p. let b : x ≤ n = h x p in omega arith))

-- a root is at most the number after the last node
small_rooted : (at : ℕ) (ss : List Routine) → at + length (flatten at (trees_of ss)) ≤ 1025
    → All (λ (s : Routine). (s.user < 65536) × (s.mask < 65536)) ss → All (λ s. All Word (session_row s)) (rooted at ss)
unfolding rooted flatten
small_rooted at [] l h = tt
small_rooted at (s ∷ ss) l h =
    let e = past_length at s.tree (flatten (past at s.tree) (trees_of ss)) in
    ((h.0.0, (h.0.1, (omega arith, tt))), small_rooted (past at s.tree) ss (omega arith) h.1)

-- by row and by column
small_rows : (ns : List Node) → All WordsFit ns → All Word (node_rows ns)
unfolding node_rows
small_rows [] h = tt
small_rows (n ∷ ns) h = (h.0.0, (h.0.1, (h.0.2, small_rows ns h.1)))

small_column : (word : Node → ℕ) → ((n : Node) → WordsFit n → Word (word n)) → (ns : List Node) → All WordsFit ns → All Word (map word ns)
small_column word fits [] h = tt
small_column word fits (n ∷ ns) h = (fits n h.0, small_column word fits ns h.1)

small_nodes : (v : ℕ) (ns : List Node) → All WordsFit ns → Small (node_words v ns)
unfolding node_columns
small_nodes v ns h = record { words = go (by_column v) }
  where
    A : List ℕ
    A = map (λ (n : Node). n.tag) ns

    B : List ℕ
    B = map (λ (n : Node). n.f1) ns

    C : List ℕ
    C = map (λ (n : Node). n.f2) ns

    go : (c : Bool) → All Word (cond c (node_columns ns) (node_rows ns))
    go false = small_rows ns h
    go true =
        all_append Word A (B ++ C) (small_column (λ (n : Node). n.tag) (λ n f. f.0) ns h)
        (all_append Word B C (small_column (λ (n : Node). n.f1) (λ n f. f.1) ns h) (small_column (λ (n : Node). n.f2) (λ n f. f.2) ns h))

module _ (F : File) (w : WellFormed F) where
  small_mask : (m : ℕ) → NamesOnly (length (roles_of F.grants)) m → Word m
  small_mask m h = mask_lt 16 (length (roles_of F.grants)) m w.few_roles h

  small_role : (r : Role) → NamesOnly (length F.kinds) r.sends × NamesOnly (length F.kinds) r.receives → All Word (role_row r)
  small_role r h =
      let a : r.sends < 4294967296 = mask_lt 32 (length F.kinds) r.sends w.few_kinds h.0 in
      let b : r.receives < 4294967296 = mask_lt 32 (length F.kinds) r.receives w.few_kinds h.1 in
      omega arith

  small_user : (s : Routine) → Seated F.users s.user s.mask → (s.user < 65536) × (s.mask < 65536)
  small_user s h =
      let few = w.few_users in
      let there : s.user - 1 < length F.users = omega arith in
      let all = all_get (NamesOnly (length (roles_of F.grants))) F.users (s.user - 1) 0 there w.users_fit in
      (omega arith, small_mask s.mask (λ x p. all x (h.1 x p)))

  fit_nodes : All WordsFit (nodes_of F)
  fit_nodes =
      let worded : All Worded (trees_of F.sessions) = (all_trees Worded F.sessions).1 (all_map (λ s h. h.1) F.sessions w.trees_fit) in
      let few = w.few_nodes in
      worded_nodes 1 (trees_of F.sessions) worded (omega arith)

  abbrev v : ℕ
  v = version_of F.grants

  small_version : v < 65536
  small_version = go F.grants
    where
      go : (g : Grants) → version_of g < 65536
      go (first rs) = omega arith
      go (second rs) = omega arith
      go (third rs) = omega arith

  small_head : Small (head_words (head_for v (contents_for F)))
  small_head = record { words = go (has_juniors v) }
    where
      at : Seven
      at = (head_for v (contents_for F)).at

      few_one : more v ≤ 1
      few_one = more_few v

      few_masks : junior_records v (length (roles_of F.grants)) ≤ length (roles_of F.grants)
      few_masks = juniors_few v (length (roles_of F.grants))

      sessions : length (rooted 1 F.sessions) ≡ length F.sessions
      sessions = length_rooted 1 F.sessions

      go : (b : Bool)
          → All Word (v ∷ six_words (head_for v (contents_for F)).count ++ (at.users ∷ at.roles ∷ cond b (at.juniors ∷ []) [] ++ (at.kinds ∷ at.channels ∷ at.sessions ∷ at.nodes ∷ [])))
      go true = omega (arith, small_version, few_one, few_masks, sessions, w.few_users, w.few_roles, w.few_kinds, w.few_channels, w.few_sessions, w.few_nodes)
      go false = omega (arith, small_version, few_one, few_masks, sessions, w.few_users, w.few_roles, w.few_kinds, w.few_channels, w.few_sessions, w.few_nodes)

  -- a role's juniors are lower than it, and there are at most 16 roles
  small_lower : (i : ℕ) (ms : List ℕ) → i + length ms ≤ 17 → LowerFrom i ms → All Word ms
  small_lower i [] l h = tt
  small_lower i (m ∷ ms) l h = (mask_lt 16 16 m (omega arith) (λ x p. omega (arith, h.0 x p)), small_lower (suc i) ms (omega arith) h.1)

  small_juniors : Small (junior_words v (juniors_of F.grants))
  small_juniors = record { words = go (has_juniors v) }
    where
      go : (b : Bool) → All Word (cond b (juniors_of F.grants) [])
      go true = small_lower 1 (juniors_of F.grants) (omega (arith, w.few_roles, juniors_each F)) w.juniors_fit
      go false = tt

  small_file : Small (row_words v (contents_for F))
  small_file =
      let few = w.few_nodes in
      let few_users = w.few_users in
      let few_kinds = w.few_kinds in
      let users = small_cat one_row F.users (all_map (λ m h. (small_mask m h, tt)) F.users w.users_fit) in
      let roles = small_cat role_row (roles_of F.grants) (all_map small_role (roles_of F.grants) w.roles_fit) in
      let kinds = small_cat one_row F.kinds (all_map (λ k h. omega arith) F.kinds w.kinds_fit_lem) in
      let channels = small_cat channel_row F.channels (all_map (λ c h. omega arith) F.channels w.channels_fit) in
      let sessions = small_cat session_row (rooted 1 F.sessions) (small_rooted 1 F.sessions (omega arith) (all_map small_user F.sessions w.sessions_fit)) in
      let nodes = small_nodes v (nodes_of F) fit_nodes in
      small_append small_head (small_append users (small_append roles (small_append small_juniors (small_append kinds (small_append channels (small_append sessions nodes))))))

  -- so that `sound` speaks of every file that `complete` does
  pub encode_bytes : All Byte (encode F)
  unfolding encode encoded
  encode_bytes = small_bytes (file_words v (contents_for F)) (subst (All Word) (sym (file_rows v (contents_for F))) small_file.words)
