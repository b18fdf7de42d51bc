-- A merged file, section by section: where each begins, and that the runs of words are those of the merged file.
use Prim.Native.Nat.{ℕ, ◌+◌, ◌*◌, ◌≤◌, ◌<◌}
use mathlib.Core.Path.{◌≡◌, refl, sym, ap, ap₂, ◌∙◌}
use mathlib.Core.Logic.{◌↔◌}
use mathlib.Core.Bool.{true}
use mathlib.Core.List.{List, [], ◌∷◌, ◌++◌, map, append_assoc}
use native.Mathlib.Omega.{arith}
use lib.ListN.{length, length-append, length-map}
use lib.Seq.{sets}
use Rattle.format.specs.Words.{bytes_of}
use Rattle.format.specs.Header.{Laid, head_words}
use Rattle.format.specs.Sections.{words_from}
use Rattle.format.specs.Contents.{Contents, contents_at}
use Rattle.format.specs.Writing.{head_for, role_words, channel_words, session_words, node_rows, table_words, file_words, encoded}
use Rattle.format.specs.declared.Six.{Six}
use Rattle.format.specs.declared.Head.{Head}
use Rattle.format.specs.declared.Channel.{Channel}
use Rattle.format.specs.declared.Session.{Session}
use Rattle.format.proofs.BoolLaws.{le_iff, and_iff}
use Rattle.format.proofs.ContentsLaws.{users_held, roles_held, kinds_held, channels_held, sessions_held, nodes_held}
use Rattle.format.proofs.PutRuns.{puts_then}
use Rattle.format.proofs.WriteLaws.{Bytes, head_length, sessions_words, role_words_length, channel_words_length, session_words_length, table_words_length, node_rows_append}
use Rattle.format.proofs.SpotLaws.{node_rows_length}
use Rattle.merging.specs.Merged.{Shifts, behind, moved_channel, moved_session, moved_node, merged_contents}
use Rattle.merging.specs.Writers.{counts_of_both, sums_within, first_head, shifts_by, shift_after, FewBefore, Limited, Joining}
use Rattle.merging.specs.declared.Shift.{Shift}
use Rattle.merging.proofs.TableLaws.{users_words, tables_later, nodes_words, inside}

-- words of records joined
channels_join : (xs ys : List Channel) → channel_words (xs ++ ys) ≡ channel_words xs ++ channel_words ys
unfolding channel_words
channels_join [] ys = refl
channels_join (x ∷ xs) ys = ap {B = List ℕ} (λ l. x.owner ∷ x.kind.0 ∷ l) (channels_join xs ys)

sessions_join : (xs ys : List Session) → session_words (xs ++ ys) ≡ session_words xs ++ session_words ys
unfolding session_words
sessions_join [] ys = refl
sessions_join (x ∷ xs) ys = ap {B = List ℕ} (λ l. x.user ∷ x.mask ∷ x.root ∷ l) (sessions_join xs ys)

-- sums that fit
pub within_iff : (n : Six) → (sums_within n ≡ true) ↔ ((((n.users ≤ 32) × (n.channels ≤ 64)) × (n.sessions ≤ 32)) × (n.nodes ≤ 1024))
within_iff n = and_iff (and_iff (and_iff (le_iff n.users 32) (λ x. le_iff n.channels 64)) (λ x. le_iff n.sessions 32)) (λ x. le_iff n.nodes 1024)

shift_parts : (s t : Shift) → s ≡ t → (s.users ≡ t.users) × (s.channels ≡ t.channels) × (s.nodes ≡ t.nodes)
shift_parts s t e = (ap (λ (x : Shift). x.users) e, ap (λ (x : Shift). x.channels) e, ap (λ (x : Shift). x.nodes) e)

module _ (f g : List ℕ) (one two : Head) where
  abbrev C : Contents
  C = contents_at f one

  abbrev D : Contents
  D = contents_at g two

  abbrev M : Contents
  M = merged_contents C D

  -- the second file's shifts are those after the first
  shifts : (s : Shift) → s ≡ shift_after one.count → shifts_by s ≡ behind C
  shifts s e =
      let users = sym (users_held f one) in
      let channels = sym (channels_held f one) in
      let nodes = sym (nodes_held f one) in
      ap shifts_by e ∙ (λ i. record { users = users i; channels = channels i; nodes = nodes i })

  -- the head is that of the merged file
  pub head_merged : first_head (counts_of_both one.count two.count) ≡ head_for 1 (merged_contents C D)
  unfolding merged_contents
  head_merged =
      let H : Head = head_for 1 M in
      let u : one.count.users + two.count.users ≡ H.count.users = sym (length-append C.users D.users ∙ ap₂ ◌+◌ (users_held f one) (users_held g two)) in
      let r : one.count.roles ≡ H.count.roles = sym (roles_held f one) in
      let k : one.count.kinds ≡ H.count.kinds = sym (kinds_held f one) in
      let c : one.count.channels + two.count.channels ≡ H.count.channels =
      sym (length-append C.channels (map (moved_channel (behind C)) D.channels) ∙ ap₂ ◌+◌ (channels_held f one) (length-map D.channels (moved_channel (behind C)) ∙ channels_held g two)) in
      let s : one.count.sessions + two.count.sessions ≡ H.count.sessions =
      sym (length-append C.sessions (map (moved_session (behind C)) D.sessions) ∙ ap₂ ◌+◌ (sessions_held f one) (length-map D.sessions (moved_session (behind C)) ∙ sessions_held g two)) in
      let n : one.count.nodes + two.count.nodes ≡ H.count.nodes =
      sym (length-append C.nodes (map (moved_node (behind C)) D.nodes) ∙ ap₂ ◌+◌ (nodes_held f one) (length-map D.nodes (moved_node (behind C)) ∙ nodes_held g two)) in
      let W : Head = first_head (counts_of_both one.count two.count) in
      let roles : W.at.roles ≡ H.at.roles = omega (arith, u) in
      let juniors : W.at.juniors ≡ H.at.juniors = omega (arith, u, r) in
      let kinds : W.at.kinds ≡ H.at.kinds = omega (arith, u, r) in
      let channels : W.at.channels ≡ H.at.channels = omega (arith, u, r, k) in
      let sessions : W.at.sessions ≡ H.at.sessions = omega (arith, u, r, k, c) in
      let nodes : W.at.nodes ≡ H.at.nodes = omega (arith, u, r, k, c, s) in
      λ i. record {
        version = 1;
        count = record { users = u i; roles = r i; kinds = k i; channels = c i; sessions = s i; nodes = n i };
        at = record {
          users = 13;
          roles = roles i;
          juniors = juniors i;
          kinds = kinds i;
          channels = channels i;
          sessions = sessions i;
          nodes = nodes i;
        };
      }

  module _ (j : Joining f g one two) where
    pub users_put : (l l1 l2 : List ℕ) (p q m n : ℕ) → Bytes f → Bytes g
        → p ≡ one.at.users → m ≡ one.count.users → q ≡ two.at.users → n ≡ two.count.users
        → l1 ≡ sets l 26 (bytes_of (words_from f p m)) → l2 ≡ sets l1 (2 * (13 + m)) (bytes_of (words_from g q n)) → l2 ≡ sets l 26 (bytes_of (C.users ++ D.users))
    users_put l l1 l2 p q m n bf bg ep em eq en e1 e2 =
        let first = ap₂ (words_from f) ep em ∙ users_words f one j.first j.first_version bf in
        let second = ap₂ (words_from g) eq en ∙ users_words g two j.second j.second_version bg in
        puts_then l l1 l2 13 (13 + m) C.users D.users (e1 ∙ ap (λ (ws : List ℕ). sets l 26 (bytes_of ws)) first) (omega (arith, em, users_held f one))
        (e2 ∙ ap (λ (ws : List ℕ). sets l1 (2 * (13 + m)) (bytes_of ws)) second)

    -- the shifts are few, and every section ends within the largest file
    few : (s : Shift) → s ≡ shift_after one.count → FewBefore s
    few s e =
        let (u, c, n) = shift_parts s (shift_after one.count) e in
        (omega (arith, u, j.first.users), omega (arith, c, j.first.channels), omega (arith, n, j.first.nodes))

    module _ (whole : Head) (is : whole ≡ first_head (counts_of_both one.count two.count)) where
      ends : (2 * (whole.at.roles + (4 * one.count.roles + one.count.kinds)) ≤ 6874)
          × (2 * (whole.at.channels + 2 * (one.count.channels + two.count.channels)) ≤ 6874)
          × (2 * (whole.at.sessions + 3 * (one.count.sessions + two.count.sessions)) ≤ 6874)
          × (2 * (whole.at.nodes + 3 * (one.count.nodes + two.count.nodes)) ≤ 6874)
      ends =
          let (((u, c), s), n) = (within_iff (counts_of_both one.count two.count)).0 j.fit in
          let r : one.count.roles ≤ 16 = j.first.roles in
          let k : one.count.kinds ≤ 32 = j.first.kinds in (
            omega (arith, u, r, k, ap (λ (h : Head). h.at.roles) is),
            omega (arith, u, r, k, c, ap (λ (h : Head). h.at.channels) is),
            omega (arith, u, r, k, c, s, ap (λ (h : Head). h.at.sessions) is),
            omega (arith, u, r, k, c, s, n, ap (λ (h : Head). h.at.nodes) is),
          )

      -- what each writer asks, in an output with room for the largest file
      module _ (room : ℕ) (wide : 6874 ≤ room) where
        fits : (p q n : ℕ) → one.at.users ≤ q → q + n ≤ one.at.nodes + 3 * one.count.nodes → 2 * (p + n) ≤ 6874 → (0 < n → 2 * (q + n) ≤ length f) × (2 * (p + n) ≤ room)
        fits p q n from to end = (inside f one j.first q n from to, omega (arith, end, wide))

        pub tables_fit : (p q n : ℕ) → p ≡ whole.at.roles → q ≡ one.at.roles → n ≡ 4 * one.count.roles + one.count.kinds + 2 * one.count.channels
            → (0 < n → 2 * (q + n) ≤ length f) × (2 * (p + n) ≤ room)
        tables_fit p q n ep eq en = let l = j.first in fits p q n (omega (arith, l, eq)) (omega (arith, l, eq, en)) (omega (arith, ends.0, ends.1, ep, en, ap (λ (h : Head). h.at.roles) is, ap (λ (h : Head). h.at.channels) is))

        pub sessions_fit : (p q n : ℕ) → p ≡ whole.at.sessions → q ≡ one.at.sessions → n ≡ 3 * one.count.sessions → (0 < n → 2 * (q + n) ≤ length f) × (2 * (p + n) ≤ room)
        sessions_fit p q n ep eq en = let l = j.first in fits p q n (omega (arith, l, eq)) (omega (arith, l, eq, en)) (omega (arith, ends.2, ep, en))

        pub nodes_fit : (p q n : ℕ) → p ≡ whole.at.nodes → q ≡ one.at.nodes → n ≡ 3 * one.count.nodes → (0 < n → 2 * (q + n) ≤ length f) × (2 * (p + n) ≤ room)
        nodes_fit p q n ep eq en = let l = j.first in fits p q n (omega (arith, l, eq)) (omega (arith, l, eq, en)) (omega (arith, ends.3, ep, en))

        module _ (s : Shift) (e : s ≡ shift_after one.count) where
          pub second_channels : Laid g two × Limited D × FewBefore s × (one.count.channels ≤ 64) × (2 * (whole.at.channels + 2 * (one.count.channels + two.count.channels)) ≤ room)
          second_channels = (j.second, j.second_limited, few s e, j.first.channels, omega (arith, ends.1, wide))

          pub second_sessions : Laid g two × Limited D × FewBefore s × (one.count.sessions ≤ 32) × (2 * (whole.at.sessions + 3 * (one.count.sessions + two.count.sessions)) ≤ room)
          second_sessions = (j.second, j.second_limited, few s e, j.first.sessions, omega (arith, ends.2, wide))

          pub second_nodes : Laid g two × Limited D × FewBefore s × (one.count.nodes ≤ 1024) × (whole.version ≡ 1) × (whole.count.nodes ≡ one.count.nodes + two.count.nodes) × (2 * (whole.at.nodes + 3 * (one.count.nodes + two.count.nodes)) ≤ room)
          second_nodes =
              (j.second, j.second_limited, few s e, j.first.nodes, ap (λ (h : Head). h.version) is, ap (λ (h : Head). h.count.nodes) is, omega (arith, ends.3, wide))

      pub tables_put : (l l1 l2 l3 : List ℕ) (p q n : ℕ) (t : Shift) → Bytes f
          → p ≡ whole.at.roles → q ≡ one.at.roles → n ≡ 4 * one.count.roles + one.count.kinds + 2 * one.count.channels → t ≡ shift_after one.count
          → l1 ≡ sets l 26 (bytes_of (C.users ++ D.users))
          → l2 ≡ sets l1 (2 * p) (bytes_of (words_from f q n))
          → l3 ≡ sets l2 (2 * (whole.at.channels + 2 * one.count.channels)) (bytes_of (channel_words (map (moved_channel (shifts_by t)) D.channels)))
          → l3 ≡ sets l 26 (bytes_of (table_words 1 M))
      unfolding merged_contents table_words
      tables_put l l1 l2 l3 p q n t bf ep eq en et e1 e2 e3 =
          let us : List ℕ = C.users ++ D.users in
          let rs : List ℕ = role_words C.roles ++ C.kinds in
          let cs : List ℕ = channel_words C.channels in
          let ds : List ℕ = channel_words (map (moved_channel (behind C)) D.channels) in
          let roles = ap (λ (h : Head). h.at.roles) is in
          let channels = ap (λ (h : Head). h.at.channels) is in
          let users : length us ≡ one.count.users + two.count.users = length-append C.users D.users ∙ ap₂ ◌+◌ (users_held f one) (users_held g two) in
          let tables : length rs ≡ 4 * one.count.roles + one.count.kinds =
          length-append (role_words C.roles) C.kinds ∙ omega (arith, role_words_length C.roles, roles_held f one, kinds_held f one) in
          let own : length cs ≡ 2 * one.count.channels = channel_words_length C.channels ∙ ap (λ k. 2 * k) (channels_held f one) in
          let a = puts_then l l1 l2 13 p us (rs ++ cs) e1 (omega (arith, ep, roles, users))
          (e2 ∙ ap (λ (ws : List ℕ). sets l1 (2 * p) (bytes_of ws)) (ap₂ (words_from f) eq en ∙ tables_later f one j.first j.first_version bf)) in
          let b = puts_then l l2 l3 13 (whole.at.channels + 2 * one.count.channels) (us ++ (rs ++ cs)) ds a (omega (arith, channels, users, tables, own, length-append rs cs, length-append us (rs ++ cs)))
          (e3 ∙ ap (λ (x : Shifts). sets l2 (2 * (whole.at.channels + 2 * one.count.channels)) (bytes_of (channel_words (map (moved_channel x) D.channels)))) (shifts t et)) in
          b ∙ ap (λ (ws : List ℕ). sets l 26 (bytes_of ws))
          (append_assoc us (rs ++ cs) ds
          ∙ ap (λ (ws : List ℕ). us ++ ws) (append_assoc rs cs ds ∙ append_assoc (role_words C.roles) C.kinds (cs ++ ds)
          ∙ ap (λ (ws : List ℕ). role_words C.roles ++ (C.kinds ++ ws)) (sym (channels_join C.channels (map (moved_channel (behind C)) D.channels)))))

      pub trees_put : (l l1 l2 l3 l4 : List ℕ) (p q n p' q' n' : ℕ) (t : Shift) → t ≡ shift_after one.count
          → p ≡ whole.at.sessions → q ≡ one.at.sessions → n ≡ 3 * one.count.sessions → p' ≡ whole.at.nodes → q' ≡ one.at.nodes → n' ≡ 3 * one.count.nodes
          → l1 ≡ sets l (2 * p) (bytes_of (words_from f q n))
          → l2 ≡ sets l1 (2 * (whole.at.sessions + 3 * one.count.sessions)) (bytes_of (session_words (map (moved_session (shifts_by t)) D.sessions)))
          → l3 ≡ sets l2 (2 * p') (bytes_of (words_from f q' n'))
          → l4 ≡ sets l3 (2 * (whole.at.nodes + 3 * one.count.nodes)) (bytes_of (node_rows (map (moved_node (shifts_by t)) D.nodes)))
          → l4 ≡ sets l (2 * whole.at.sessions) (bytes_of (session_words M.sessions ++ node_rows M.nodes))
      unfolding merged_contents
      trees_put l l1 l2 l3 l4 p q n p' q' n' t et ep eq en ep' eq' en' e1 e2 e3 e4 =
          let base : ℕ = whole.at.sessions in
          let ss : List ℕ = session_words C.sessions in
          let ts : List ℕ = session_words (map (moved_session (behind C)) D.sessions) in
          let ns : List ℕ = node_rows C.nodes in
          let ms : List ℕ = node_rows (map (moved_node (behind C)) D.nodes) in
          let sessions = ap (λ (h : Head). h.at.sessions) is in
          let nodes = ap (λ (h : Head). h.at.nodes) is in
          let own : length ss ≡ 3 * one.count.sessions = session_words_length C.sessions ∙ ap (λ k. 3 * k) (sessions_held f one) in
          let other : length ts ≡ 3 * two.count.sessions =
          session_words_length (map (moved_session (behind C)) D.sessions) ∙ ap (λ k. 3 * k) (length-map D.sessions (moved_session (behind C)) ∙ sessions_held g two) in
          let trees : length ns ≡ 3 * one.count.nodes = node_rows_length C.nodes ∙ ap (λ k. 3 * k) (nodes_held f one) in
          let a : l1 ≡ sets l (2 * base) (bytes_of ss) = e1 ∙ ap₂ (λ (k : ℕ) (ws : List ℕ). sets l (2 * k) (bytes_of ws)) ep (ap₂ (words_from f) eq en ∙ sessions_words f one) in
          let b = puts_then l l1 l2 base (base + 3 * one.count.sessions) ss ts a (omega (arith, own))
          (e2 ∙ ap (λ (x : Shifts). sets l1 (2 * (base + 3 * one.count.sessions)) (bytes_of (session_words (map (moved_session x) D.sessions)))) (shifts t et)) in
          let c = puts_then l l2 l3 base p' (ss ++ ts) ns b (omega (arith, own, other, sessions, nodes, ep', length-append ss ts))
          (e3 ∙ ap (λ (ws : List ℕ). sets l2 (2 * p') (bytes_of ws)) (ap₂ (words_from f) eq' en' ∙ nodes_words f one j.first_version)) in
          let d = puts_then l l3 l4 base (whole.at.nodes + 3 * one.count.nodes) ((ss ++ ts) ++ ns) ms c (omega (arith, own, other, trees, sessions, nodes, length-append ss ts, length-append (ss ++ ts) ns))
          (e4 ∙ ap (λ (x : Shifts). sets l3 (2 * (whole.at.nodes + 3 * one.count.nodes)) (bytes_of (node_rows (map (moved_node x) D.nodes)))) (shifts t et)) in
          d ∙ ap (λ (ws : List ℕ). sets l (2 * base) (bytes_of ws))
          (append_assoc (ss ++ ts) ns ms
          ∙ ap₂ ◌++◌ (sym (sessions_join C.sessions (map (moved_session (behind C)) D.sessions))) (sym (node_rows_append C.nodes (map (moved_node (behind C)) D.nodes))))

      pub file_put : (l l1 l2 l3 : List ℕ) → l1 ≡ sets l 0 (bytes_of (head_words whole)) → l2 ≡ sets l1 26 (bytes_of (table_words 1 M))
          → l3 ≡ sets l2 (2 * whole.at.sessions) (bytes_of (session_words M.sessions ++ node_rows M.nodes)) → l3 ≡ sets l 0 (encoded 1 M)
      unfolding encoded file_words
      file_put l l1 l2 l3 e1 e2 e3 =
          let H : Head = head_for 1 M in
          let same : whole ≡ H = is ∙ head_merged in
          let sessions = ap (λ (h : Head). h.at.sessions) same in
          let a = puts_then l l1 l2 0 13 (head_words H) (table_words 1 M) (e1 ∙ ap (λ (h : Head). sets l 0 (bytes_of (head_words h))) same) (sym (head_length H)) e2 in
          let b = puts_then l l2 l3 0 whole.at.sessions (head_words H ++ table_words 1 M) (session_words M.sessions ++ node_rows M.nodes) a
          (omega (arith, sessions, head_length H, table_words_length 1 M, length-append (head_words H) (table_words 1 M))) e3 in
          b ∙ ap (λ (ws : List ℕ). sets l 0 (bytes_of ws)) (append_assoc (head_words H) (table_words 1 M) (session_words M.sessions ++ node_rows M.nodes))
