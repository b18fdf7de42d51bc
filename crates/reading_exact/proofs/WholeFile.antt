-- A file whose head is not refused is the bytes of what is read from it.
use Prim.Native.Nat.{ℕ, suc, ◌+◌, ◌*◌, ◌/◌, ◌%◌}
use mathlib.Core.Path.{◌≡◌, refl, sym, ap, ap₂, ◌∙◌}
use mathlib.Core.Bool.{Bool, true, false, cond}
use mathlib.Core.List.{List, [], ◌∷◌, ◌++◌}
use native.Mathlib.Omega.{arith}
use lib.ListN.{length}
use Rattle.format.specs.Words.{word_at, wide_at, bytes_of}
use Rattle.format.specs.Header.{has_juniors, more, junior_records, head_in, as_read, head_at, version_at, head_words, Laid}
use Rattle.format.specs.Sections.{place_of, juniors_of, words_from}
use Rattle.format.specs.Contents.{tabled, contents_at, contents_of}
use Rattle.format.specs.Writing.{role_words, channel_words, session_words, node_rows, node_columns, junior_words, head_for, table_words, file_words, encoded}
use Rattle.format.specs.declared.Head.{Head}
use Rattle.format.specs.declared.Six.{Six}
use Rattle.format.specs.declared.Seven.{Seven}
use Rattle.format.specs.declared.Section.TheVariants.{Juniors}
use Rattle.format.proofs.HeadLaws.{Headed}
use Rattle.format.proofs.WriteLaws.{words_joined}
use Rattle.format.proofs.SpotLaws.{section_words}
use Rattle.format.proofs.ContentsLaws.{users_held, roles_held, kinds_held, channels_held, sessions_held, nodes_held}
use Rattle.reading_exact.specs.Lists.{All}
use Rattle.reading_exact.proofs.Bytes.{Byte, Word, length_bytes_of, paired, small_words}
use Rattle.reading_exact.proofs.Rows.{holds_all, holds_words, rows_words}
use Rattle.reading_exact.proofs.SectionRows.{one_row, cat_one, role_row, channel_row, session_row, role_at, channel_at, session_at, row_words, file_rows}

-- the head that the contents read have is the file's own
same_head : (f : List ℕ) → Headed f → head_for (version_at f) (contents_of f) ≡ head_at f
same_head f d =
    let h : Head = head_at f in
    let l : Laid f h = d.laid in
    let u = users_held f h in
    let r = roles_held f h in
    let j : junior_records (version_at f) (length (contents_of f).roles) ≡ junior_records (version_at f) h.count.roles = ap (junior_records (version_at f)) r in
    let k = kinds_held f h in
    let c = channels_held f h in
    let s = sessions_held f h in
    let n = nodes_held f h in
    let H : Head = head_for (version_at f) (contents_of f) in
    let a-users : H.at.users ≡ h.at.users = omega arith in
    let a-roles : H.at.roles ≡ h.at.roles = omega arith in
    let a-juniors : H.at.juniors ≡ h.at.juniors = omega arith in
    let a-kinds : H.at.kinds ≡ h.at.kinds = omega (arith, j) in
    let a-channels : H.at.channels ≡ h.at.channels = omega (arith, j) in
    let a-sessions : H.at.sessions ≡ h.at.sessions = omega (arith, j) in
    let a-nodes : H.at.nodes ≡ h.at.nodes = omega (arith, j) in
    λ i. record {
      version = version_at f;
      count = record { users = u i; roles = r i; kinds = k i; channels = c i; sessions = s i; nodes = n i };
      at = record { users = a-users i; roles = a-roles i; juniors = a-juniors i; kinds = a-kinds i; channels = a-channels i; sessions = a-sessions i; nodes = a-nodes i };
    }

head_words_lem : (f : List ℕ) → head_words (head_in f) ≡ words_from f 0 (13 + more (word_at f 0))
unfolding words_from
head_words_lem f = go (has_juniors (word_at f 0)) refl
  where
    go : (b : Bool) → has_juniors (word_at f 0) ≡ b → head_words (head_in f) ≡ words_from f 0 (13 + more (word_at f 0))
    go true e = rw e
    go false e = rw e

-- words, then what stands after them
join : (f : List ℕ) (p a q b : ℕ) (k l : List ℕ) → p + a ≡ q → k ≡ words_from f p a → l ≡ words_from f q b → k ++ l ≡ words_from f p (a + b)
join f p a q b k l e g h = ap₂ {C = List ℕ} (λ x y. x ++ y) g (h ∙ ap (λ (x : ℕ). words_from f x b) (sym e)) ∙ sym (words_joined f p a b)

-- Each record read has the words that it is read from; a role's are two wide numbers.

role_words_lem : (f : List ℕ) → ((i : ℕ) → Word (word_at f i)) → (p : ℕ) → role_row (role_at f p) ≡ words_from f p 4
unfolding words_from
role_words_lem f small p =
    let one : p + 1 ≡ suc p = omega arith in
    let two : p + 2 ≡ suc (suc p) = omega arith in
    let three : p + 2 + 1 ≡ suc (suc (suc p)) = omega arith in
    let low : wide_at f p % 65536 ≡ word_at f p = omega (arith, small p) in
    let high : wide_at f p / 65536 ≡ word_at f (p + 1) = omega (arith, small p) in
    let low' : wide_at f (p + 2) % 65536 ≡ word_at f (p + 2) = omega (arith, small (p + 2)) in
    let high' : wide_at f (p + 2) / 65536 ≡ word_at f (p + 2 + 1) = omega (arith, small (p + 2)) in
    let e1 : wide_at f p / 65536 ≡ word_at f (suc p) = high ∙ ap (word_at f) one in
    let e2 : wide_at f (p + 2) % 65536 ≡ word_at f (suc (suc p)) = low' ∙ ap (word_at f) two in
    let e3 : wide_at f (p + 2) / 65536 ≡ word_at f (suc (suc (suc p))) = high' ∙ ap (word_at f) three in
    λ i. low i ∷ e1 i ∷ e2 i ∷ e3 i ∷ []

one_words : (f : List ℕ) (p : ℕ) → one_row (word_at f p) ≡ words_from f p 1
unfolding words_from
one_words f p = refl

channel_words_lem : (f : List ℕ) (p : ℕ) → channel_row (channel_at f p) ≡ words_from f p 2
unfolding words_from
channel_words_lem f p = let one : p + 1 ≡ suc p = omega arith in rw one

triple_words : (f : List ℕ) (p : ℕ) → word_at f p ∷ word_at f (p + 1) ∷ word_at f (p + 2) ∷ [] ≡ words_from f p 3
unfolding words_from
triple_words f p =
    let one : p + 1 ≡ suc p = omega arith in
    let two : p + 2 ≡ suc (suc p) = omega arith in
    rw (one, two)

-- the masks of juniors, where the version has them
juniors_words : (f : List ℕ) (h : Head) → junior_words h.version (tabled (juniors_of f h) 1 h.count.roles) ≡ words_from f h.at.juniors (junior_records h.version h.count.roles)
unfolding words_from
juniors_words f h = go (has_juniors h.version)
  where
    r : ℕ
    r = h.count.roles

    go : (b : Bool) → cond b (tabled (λ n. cond b (word_at f (place_of h Juniors n)) 0) 1 r) [] ≡ words_from f h.at.juniors (cond b r 0)
    go true =
        let one : 1 * r ≡ r = omega arith in
        sym (cat_one (tabled (λ n. word_at f (place_of h Juniors n)) 1 r)) ∙ rows_words one_row 1 (λ x. refl) f (word_at f) h.at.juniors (one_words f) r ∙ ap (words_from f h.at.juniors) one
    go false = refl

module _ (x : ℕ) (xs : List ℕ) (d : Headed (x ∷ xs)) (bytes : All Byte (x ∷ xs)) where
  abbrev f : List ℕ
  f = x ∷ xs

  -- section after section, the words of what is read are the file's
  contents_words : row_words (word_at f 0) (contents_of f) ≡ words_from f 0 ((head_at f).at.nodes + 3 * word_at f 6)
  unfolding contents_at
  contents_words =
      let l : Laid f (head_at f) = d.laid in
      let n : Six = (head_at f).count in
      let v : ℕ = word_at f 0 in
      let at : Seven = (head_at f).at in
      let small = small_words f bytes in
      let users = rows_words one_row 1 (λ x. refl) f (word_at f) at.users (one_words f) n.users in
      let roles = rows_words role_row 4 (λ x. refl) f (role_at f) at.roles (role_words_lem f small) n.roles in
      let juniors = juniors_words f (head_at f) in
      let kinds = rows_words one_row 1 (λ x. refl) f (word_at f) at.kinds (one_words f) n.kinds in
      let channels = rows_words channel_row 2 (λ x. refl) f (channel_at f) at.channels (channel_words_lem f) n.channels in
      let sessions = rows_words session_row 3 (λ x. refl) f (session_at f) at.sessions (triple_words f) n.sessions in
      let nodes = sym (section_words f (head_at f)) in
      let past-users : at.users + 1 * n.users ≡ at.roles = omega arith in
      let past-kinds : at.kinds + 1 * n.kinds ≡ at.channels = omega arith in
      let end : 13 + more v + (1 * n.users + (4 * n.roles + (junior_records v n.roles + (1 * n.kinds + (2 * n.channels + (3 * n.sessions + 3 * n.nodes)))))) ≡ at.nodes + 3 * word_at f 6 = omega arith in
      join f 0 (13 + more v) at.users _ _ _ (omega arith) (ap head_words (same_head f d) ∙ head_words_lem f)
      (join f at.users (1 * n.users) at.roles _ _ _ past-users users
      (join f at.roles (4 * n.roles) at.juniors _ _ _ (sym l.juniors_at) roles
      (join f at.juniors (junior_records v n.roles) at.kinds _ _ _ (sym l.kinds_at) juniors
      (join f at.kinds (1 * n.kinds) at.channels _ _ _ past-kinds kinds
      (join f at.channels (2 * n.channels) at.sessions _ _ _ (sym l.sessions_at) channels
      (join f at.sessions (3 * n.sessions) at.nodes _ _ _ (sym l.nodes_at) sessions nodes))))))
      ∙ ap (words_from f 0) end

  some_back : encoded (word_at f 0) (contents_of f) ≡ f
  unfolding encoded
  some_back =
      let l : Laid f (head_at f) = d.laid in
      let (ws, e) = paired f (omega arith) bytes in
      let len : (head_at f).at.nodes + 3 * word_at f 6 ≡ length ws = omega (arith, ap length e, length_bytes_of ws) in
      let all : words_from (bytes_of ws) 0 (length ws) ≡ ws = holds_words (bytes_of ws) 0 ws (holds_all ws) in
      ap bytes_of (file_rows (word_at f 0) (contents_of f) ∙ contents_words ∙ ap (words_from f 0) len ∙ ap (λ (g : List ℕ). words_from g 0 (length ws)) (sym e) ∙ all) ∙ e

-- read, then written, gives the bytes back
pub bytes_back : (f : List ℕ) → Headed f → All Byte f → encoded (version_at f) (contents_of f) ≡ as_read f
unfolding encoded file_words table_words contents_at tabled role_words channel_words session_words node_rows node_columns bytes_of
bytes_back [] d bytes = refl
bytes_back (x ∷ xs) d bytes = some_back x xs d bytes
