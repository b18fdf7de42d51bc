-- Where the sections stand in the bytes of a file, and that what it holds is read back from there.
use Prim.Native.Nat.{ℕ, ◌+◌, ◌*◌}
use mathlib.Core.Path.{◌≡◌, refl, sym, ap, ◌∙◌, subst}
use mathlib.Core.Logic.{◌⊎◌, inl, inr}
use mathlib.Core.Bool.{Bool, true, false, cond, false≢true}
use mathlib.Core.List.{List, [], ◌++◌}
use native.Mathlib.Omega.{arith}
use lib.ListN.{length, length-append}
use Rattle.format.specs.Words.{word_at}
use Rattle.format.specs.Header.{has_juniors, more, junior_records, head_words, length_for}
use Rattle.format.specs.Sections.{place_of, juniors_of}
use Rattle.format.specs.Contents.{Contents, tabled, contents_at, contents_of}
use Rattle.format.specs.Writing.{junior_words, node_words, head_for, file_words, encoded}
use Rattle.format.specs.declared.Head.{Head}
use Rattle.format.specs.declared.Section.TheVariants.{Juniors}
use Rattle.format.proofs.ContentsLaws.{tabled_same}
use Rattle.reading_exact.proofs.Bytes.{length_bytes_of}
use Rattle.reading_exact.proofs.Rows.{Holds, holds_all, holds_past, cat, length_cat, rows_back}
use Rattle.reading_exact.proofs.SectionRows.{one_row, cat_one, role_row, channel_row, session_row, role_at, channel_at, session_at}
use Rattle.reading_exact.proofs.SectionRows.{one_back, role_back, channel_back, session_back, row_words, file_rows, head_back}
use Rattle.format.proofs.WriteLaws.{head_length}
use Rattle.format.proofs.SpotLaws.{node_words_length, section_read}

chosen : (b : Bool) (x y : ℕ) → b ≡ true → cond b x y ≡ x
chosen true x y e = refl
chosen false x y e = absurd (false≢true e)

-- what a version holds: a mask of juniors for each role, and in version 1 all of them 0
abbrev pub Formed : ℕ → Contents → Type 0
Formed v C = ((has_juniors v ≡ true) × (length C.juniors ≡ length C.roles)) ⊎ ((has_juniors v ≡ false) × (C.juniors ≡ tabled (λ n. 0) 1 (length C.roles)))

module _ (v : ℕ) (C : Contents) (formed : Formed v C) where
  -- as many words as the head leaves room for
  juniors_length : length (junior_words v C.juniors) ≡ junior_records v (length C.roles)
  juniors_length = go formed
    where
      go : Formed v C → length (junior_words v C.juniors) ≡ junior_records v (length C.roles)
      go (inl (e, same)) = rw e same
      go (inr (e, none)) = rw e

  -- each section's words, and whatever follows them, stand at its offset
  record SectionsPlaced : Type 0 where
    users : (post : List ℕ) × Holds (encoded v C) (head_for v C).at.users (cat one_row C.users ++ post)
    roles : (post : List ℕ) × Holds (encoded v C) (head_for v C).at.roles (cat role_row C.roles ++ post)
    juniors : (post : List ℕ) × Holds (encoded v C) (head_for v C).at.juniors (junior_words v C.juniors ++ post)
    kinds : (post : List ℕ) × Holds (encoded v C) (head_for v C).at.kinds (cat one_row C.kinds ++ post)
    channels : (post : List ℕ) × Holds (encoded v C) (head_for v C).at.channels (cat channel_row C.channels ++ post)
    sessions : (post : List ℕ) × Holds (encoded v C) (head_for v C).at.sessions (cat session_row C.sessions ++ post)
    nodes : Holds (encoded v C) (head_for v C).at.nodes (node_words v C.nodes)

  users_length : length (cat one_row C.users) ≡ length C.users
  users_length = omega (arith, length_cat one_row 1 (λ x. refl) C.users)

  roles_length : length (cat role_row C.roles) ≡ 4 * length C.roles
  roles_length = length_cat role_row 4 (λ x. refl) C.roles

  kinds_length : length (cat one_row C.kinds) ≡ length C.kinds
  kinds_length = omega (arith, length_cat one_row 1 (λ x. refl) C.kinds)

  channels_length : length (cat channel_row C.channels) ≡ 2 * length C.channels
  channels_length = length_cat channel_row 2 (λ x. refl) C.channels

  sessions_length : length (cat session_row C.sessions) ≡ 3 * length C.sessions
  sessions_length = length_cat session_row 3 (λ x. refl) C.sessions

  nodes_length : length (node_words v C.nodes) ≡ 3 * length C.nodes
  nodes_length = node_words_length v C.nodes

  places : SectionsPlaced
  unfolding encoded
  places =
      let f : List ℕ = encoded v C in
      let nodes : List ℕ = node_words v C.nodes in
      let sessions : List ℕ = cat session_row C.sessions ++ nodes in
      let channels : List ℕ = cat channel_row C.channels ++ sessions in
      let kinds : List ℕ = cat one_row C.kinds ++ channels in
      let juniors : List ℕ = junior_words v C.juniors ++ kinds in
      let roles : List ℕ = cat role_row C.roles ++ juniors in
      let users : List ℕ = cat one_row C.users ++ roles in
      let head : List ℕ = head_words (head_for v C) in
      let at : Head = head_for v C in
      let all : Holds f 0 (row_words v C) = subst (λ (l : List ℕ). Holds f 0 l) (file_rows v C) (holds_all (file_words v C)) in
      let first : 0 + (13 + more v) ≡ 13 + more v = omega arith in
      let at-users : Holds f at.at.users users = subst (λ (p : ℕ). Holds f p users) first (holds_past f 0 (13 + more v) head users (head_length at) all) in
      let at-roles : Holds f at.at.roles roles = holds_past f at.at.users (length C.users) (cat one_row C.users) roles users_length at-users in
      let at-juniors : Holds f at.at.juniors juniors = holds_past f at.at.roles (4 * length C.roles) (cat role_row C.roles) juniors roles_length at-roles in
      let at-kinds : Holds f at.at.kinds kinds = holds_past f at.at.juniors (junior_records v (length C.roles)) (junior_words v C.juniors) kinds juniors_length at-juniors in
      let at-channels : Holds f at.at.channels channels = holds_past f at.at.kinds (length C.kinds) (cat one_row C.kinds) channels kinds_length at-kinds in
      let at-sessions : Holds f at.at.sessions sessions = holds_past f at.at.channels (2 * length C.channels) (cat channel_row C.channels) sessions channels_length at-channels in
      let at-nodes : Holds f at.at.nodes nodes = holds_past f at.at.sessions (3 * length C.sessions) (cat session_row C.sessions) nodes sessions_length at-sessions in
      record {
        users = (roles, at-users);
        roles = (juniors, at-roles);
        juniors = (kinds, at-juniors);
        kinds = (channels, at-kinds);
        channels = (sessions, at-channels);
        sessions = (nodes, at-sessions);
        nodes = at-nodes;
      }

  -- as long as its head says
  pub length_encoded : length (encoded v C) ≡ length_for (head_for v C).at.nodes (length C.nodes)
  unfolding encoded
  length_encoded =
      let sections : List ℕ =
      cat one_row C.users
      ++ (cat role_row C.roles
      ++ (junior_words v C.juniors ++ (cat one_row C.kinds ++ (cat channel_row C.channels ++ (cat session_row C.sessions ++ node_words v C.nodes))))) in
      let rest : 13 + more v + length sections ≡ (head_for v C).at.nodes + 3 * length C.nodes =
      simp length-append (omega (arith, users_length, roles_length, juniors_length, kinds_length, channels_length, sessions_length, nodes_length)) in
      let words : length (row_words v C) ≡ (head_for v C).at.nodes + 3 * length C.nodes =
      length-append (head_words (head_for v C)) sections ∙ omega (arith, head_length (head_for v C), rest) in
      omega (arith, length_bytes_of (file_words v C), ap length (file_rows v C), words)

  juniors_back : tabled (juniors_of (encoded v C) (head_for v C)) 1 (length C.roles) ≡ C.juniors
  juniors_back = go formed
    where
      f : List ℕ
      f = encoded v C

      at : ℕ
      at = (head_for v C).at.juniors

      h : Head
      h = head_for v C

      go : Formed v C → tabled (juniors_of f h) 1 (length C.roles) ≡ C.juniors
      go (inl (e, same)) =
          let there : Holds f at (C.juniors ++ places.juniors.0) = subst (λ (b : Bool). Holds f at (cond b C.juniors [] ++ places.juniors.0)) e places.juniors.1 in
          let rows : Holds f at (cat one_row C.juniors ++ places.juniors.0) = rw (cat_one C.juniors) there in
          tabled_same (juniors_of f h) (λ n. word_at f (place_of h Juniors n)) 1 (length C.roles) (λ j p q. chosen (has_juniors v) _ 0 e)
          ∙ ap (tabled (λ n. word_at f (place_of h Juniors n)) 1) (sym same) ∙ rows_back one_row 1 (λ x. refl) f (word_at f) at (one_back f) C.juniors places.juniors.0 rows
      go (inr (e, none)) = tabled_same (juniors_of f h) (λ n. 0) 1 (length C.roles) (λ j p q. rw e) ∙ sym none

  -- written, then read, gives the contents back
  pub encoded_back : contents_of (encoded v C) ≡ C
  unfolding contents_at
  encoded_back =
      let f : List ℕ = encoded v C in
      let at : Head = head_for v C in
      let st : SectionsPlaced = places in
      let users = rows_back one_row 1 (λ x. refl) f (word_at f) at.at.users (one_back f) C.users st.users.0 st.users.1 in
      let roles = rows_back role_row 4 (λ x. refl) f (role_at f) at.at.roles (role_back f) C.roles st.roles.0 st.roles.1 in
      let kinds = rows_back one_row 1 (λ x. refl) f (word_at f) at.at.kinds (one_back f) C.kinds st.kinds.0 st.kinds.1 in
      let channels = rows_back channel_row 2 (λ x. refl) f (channel_at f) at.at.channels (channel_back f) C.channels st.channels.0 st.channels.1 in
      let sessions = rows_back session_row 3 (λ x. refl) f (session_at f) at.at.sessions (session_back f) C.sessions st.sessions.0 st.sessions.1 in
      let nodes = section_read f at C.nodes refl (λ i h. st.nodes i) in
      ap (contents_at f) (head_back v C)
      ∙ (λ i. record { users = users i; roles = roles i; juniors = juniors_back i; kinds = kinds i; channels = channels i; sessions = sessions i; nodes = nodes i })
