-- The merged file is well formed where the sums are within the limits.
use Prim.Native.Nat.{ℕ, suc, ◌+◌, ◌-◌, ◌≤◌}
use mathlib.Core.Path.{◌≡◌, refl, sym, ap, ◌∙◌, subst}
use mathlib.Core.Logic.{◌↔◌}
use mathlib.Core.List.{List, [], ◌∷◌, ◌++◌, map}
use native.Mathlib.Omega.{arith}
use lib.ListN.{length, get_or, length-append, length-map, get_or-append}
use lib.Seq.{get_or-append-add}
use Rattle.masks.specs.Mask.{NamesOnly, Within}
use Rattle.format.specs.declared.Channel.{Channel}
use Rattle.reading_exact.specs.Lists.{All}
use Rattle.reading_exact.specs.Tree.{Tree, end, fork, step, switch, past, flatten, height, Worded}
use Rattle.reading_exact.specs.File.{Grants, roles_of, Routine, File, InCount, WellFormed, contents_for}
use Rattle.reading_exact.proofs.AllLaws.{all_map, all_append}
use Rattle.reading_exact.proofs.TreeEnds.{past_length}
use Rattle.reading_exact.proofs.FileContents.{trees_of, length_rooted}
use Rattle.merging_exact.specs.Moved.{moved_tree}
use Rattle.merging.specs.Merged.{shifted}
use Rattle.merging_exact.specs.MergedFile.{later_channel, later_session, merged_file}
use Rattle.merging_exact.specs.Sums.{SumsFit}
use Rattle.merging_exact.proofs.MovedTrees.{moved_past, moved_height}
use Rattle.merging_exact.proofs.ListParts.{all_mapped}
use Rattle.merging_exact.proofs.Shifts.{moved_worded}
use Rattle.merging_exact.proofs.MergedMoves.{Shared, users_sum, channels_sum}

-- a tree has as many nodes wherever it stands
pub past_anywhere : (i j : ℕ) (t : Tree) → past i t + j ≡ past j t + i
unfolding past
past_anywhere i j end = omega arith
past_anywhere i j (fork a b) = omega (arith, past_anywhere (suc i) (suc j) a, past_anywhere (past (suc i) a) (past (suc j) a) b)
past_anywhere i j (step s t) = omega (arith, past_anywhere (suc i) (suc j) t)
past_anywhere i j (switch w r t) = omega (arith, past_anywhere (suc i) (suc j) t)

module _ (n m : ℕ) where
  -- moved trees have as many nodes
  moved_nodes : (i j : ℕ) (ss : List Routine) → length (flatten i (trees_of (map (later_session n m) ss))) ≡ length (flatten j (trees_of ss))
  unfolding flatten
  moved_nodes i j [] = refl
  moved_nodes i j (s ∷ ss) =
      let t : Tree = s.tree in
      let t' : Tree = moved_tree (shifted n m) t in
      omega (
        arith,
        past_length i t' (flatten (past i t') (trees_of (map (later_session n m) ss))),
        past_length j t (flatten (past j t) (trees_of ss)),
        moved_past (shifted n m) i t,
        past_anywhere i j t,
        moved_nodes (past i t') (past j t) ss,
      )

  nodes_sum : (i j : ℕ) (ss rs : List Routine)
      → length (flatten i (trees_of (ss ++ map (later_session n m) rs))) ≡ length (flatten i (trees_of ss)) + length (flatten j (trees_of rs))
  unfolding flatten
  nodes_sum i j [] rs = omega (arith, moved_nodes i j rs)
  nodes_sum i j (s ∷ ss) rs =
      let t : Tree = s.tree in
      omega (
        arith,
        past_length i t (flatten (past i t) (trees_of (ss ++ map (later_session n m) rs))),
        past_length i t (flatten (past i t) (trees_of ss)),
        nodes_sum (past i t) j ss rs,
      )

module _ (F G : File) (S : Shared F G) (W : WellFormed F) (W' : WellFormed G) where
  abbrev n : ℕ
  n = length F.users

  abbrev m : ℕ
  m = length F.channels

  abbrev all_users : List ℕ
  all_users = F.users ++ G.users

  abbrev Owned : Channel → Type 0
  Owned c = InCount (length all_users) c.owner × InCount (length F.kinds) c.kind.0

  abbrev Seated : Routine → Type 0
  Seated s = InCount (length all_users) s.user × Within s.mask (get_or all_users (s.user - 1) 0)

  abbrev Fit : Routine → Type 0
  Fit s = (height s.tree ≤ 8) × Worded s.tree

  users_named : All (λ r. NamesOnly (length (roles_of F.grants)) r) all_users
  users_named =
      all_append (λ r. NamesOnly (length (roles_of F.grants)) r) F.users G.users W.users_fit
      (subst (λ (k : ℕ). All (λ r. NamesOnly k r) G.users) (ap (λ (g : Grants). length (roles_of g)) (sym S.grants)) W'.users_fit)

  channels_owned : All Owned (F.channels ++ map (later_channel n) G.channels)
  channels_owned =
      all_append Owned F.channels (map (later_channel n) G.channels)
      (all_map (λ c h. ((h.0.0, omega (arith, h.0.1, users_sum F G)), h.1)) F.channels W.channels_fit)
      ((all_mapped Owned (later_channel n) G.channels).1
      (all_map
      (λ c h. (
        (omega (arith, h.0.0), omega (arith, h.0.1, users_sum F G)),
        subst (λ (k : ℕ). InCount k c.kind.0) (ap length (sym S.kinds)) h.1,
      ))
      G.channels W'.channels_fit))

  first_seated : (s : Routine) → InCount n s.user × Within s.mask (get_or F.users (s.user - 1) 0) → Seated s
  first_seated s (c, w) = (
    (c.0, omega (arith, users_sum F G)),
    subst (Within s.mask) (sym (get_or-append F.users G.users 0 (s.user - 1) (omega arith))) w,
  )

  second_seated : (s : Routine) → InCount (length G.users) s.user × Within s.mask (get_or G.users (s.user - 1) 0) → Seated (later_session n m s)
  second_seated s (c, w) =
      let e : n + s.user - 1 ≡ n + (s.user - 1) = omega arith in
      let f : get_or all_users (n + s.user - 1) 0 ≡ get_or G.users (s.user - 1) 0
      = ap (λ (i : ℕ). get_or all_users i 0) e ∙ get_or-append-add F.users G.users (s.user - 1) 0 in
      ((omega arith, omega (arith, users_sum F G)), subst (Within s.mask) (sym f) w)

  sessions_seated : All Seated (F.sessions ++ map (later_session n m) G.sessions)
  sessions_seated =
      all_append Seated F.sessions (map (later_session n m) G.sessions) (all_map first_seated F.sessions W.sessions_fit)
      ((all_mapped Seated (later_session n m) G.sessions).1 (all_map second_seated G.sessions W'.sessions_fit))

  trees_fitted : All Fit (F.sessions ++ map (later_session n m) G.sessions)
  trees_fitted =
      all_append Fit F.sessions (map (later_session n m) G.sessions) W.trees_fit
      ((all_mapped Fit (later_session n m) G.sessions).1
      (all_map
      (λ (s : Routine) h. (
        omega (arith, h.0, moved_height (shifted n m) s.tree),
        moved_worded n m W.few_users W.few_channels s.tree h.1,
      ))
      G.sessions W'.trees_fit))

  sessions_sum : length (merged_file F G).sessions ≡ length F.sessions + length G.sessions
  sessions_sum =
      length-append F.sessions (map (later_session n m) G.sessions) ∙ ap (λ (k : ℕ). length F.sessions + k) (length-map G.sessions (later_session n m))

  pub merged_formed : SumsFit (contents_for F) (contents_for G) → WellFormed (merged_file F G)
  merged_formed L = record {
    few_users = omega (arith, users_sum F G, L.users);
    few_roles = W.few_roles;
    few_kinds = W.few_kinds;
    few_channels = omega (arith, channels_sum F G, L.channels);
    few_sessions = omega (arith, sessions_sum, L.sessions, length_rooted 1 F.sessions, length_rooted 1 G.sessions);
    few_nodes = omega (arith, nodes_sum n m 1 1 F.sessions G.sessions, L.nodes);
    users_fit = users_named;
    roles_fit = W.roles_fit;
    juniors_fit = W.juniors_fit;
    kinds_fit_lem = W.kinds_fit_lem;
    channels_fit = channels_owned;
    sessions_fit = sessions_seated;
    trees_fit = trees_fitted;
  }

  -- and only there: a sum beyond a limit is all that can be wrong with it
  pub merged_formed_iff : WellFormed (merged_file F G) ↔ SumsFit (contents_for F) (contents_for G)
  merged_formed_iff = (
    λ Z. record {
      users = omega (arith, users_sum F G, Z.few_users);
      channels = omega (arith, channels_sum F G, Z.few_channels);
      sessions = omega (arith, sessions_sum, Z.few_sessions, length_rooted 1 F.sessions, length_rooted 1 G.sessions);
      nodes = omega (arith, nodes_sum n m 1 1 F.sessions G.sessions, Z.few_nodes);
    },
    merged_formed,
  )
