-- A turned file, section by section, and what turning answers.
use Prim.Native.Nat.{ℕ, ◌+◌, ◌*◌, ◌≤◌, ◌<◌}
use mathlib.Core.Path.{◌≡◌, refl, sym, ap, ◌∙◌}
use mathlib.Core.Bool.{Bool, true, false, cond, ◌||◌}
use mathlib.Core.List.{List, [], ◌∷◌, ◌++◌, append_assoc}
use native.Mathlib.Omega.{arith}
use native.Mathlib.Numerals.{add-one}
use lib.Dec.{eqb}
use lib.ListN.{length, drop, length-append}
use lib.Seq.{sets, length-sets}
use borrow.Author.Tests.{eq-eqb, ne_eqb, lt-ltb, le-ltb}
use Rattle.format.specs.Words.{word_at, bytes_of}
use Rattle.format.specs.Answers.{not_written}
use Rattle.format.specs.Header.{has_juniors, junior_records, more, head_at, version_at, length_for, head_words, Laid, head_of}
use Rattle.format.specs.Contents.{Contents, item, no_node, contents_at}
use Rattle.format.specs.Writing.{head_for, role_words, channel_words, table_words, session_words, node_words, junior_words, file_words, encoded, node_put, nodes_put}
use Rattle.format.specs.declared.Head.{Head}
use Rattle.format.specs.declared.Six.{Six}
use Rattle.format.specs.declared.Node.{Node}
use Rattle.format.specs.declared.Written.{Written}
use Rattle.std.specs.Prelude.{Ok, Err}
use Rattle.format.proofs.HeadLaws.{headed, head_number_lem, head_laid, none_read}
use Rattle.format.proofs.ContentsLaws.{next-item, none_past, users_held, roles_held, juniors_held, kinds_held, channels_held, sessions_held, nodes_held}
use Rattle.format.proofs.PutRuns.{puts_then}
use Rattle.format.proofs.WriteLaws.{head_length, session_words_length, table_words_length}
use Rattle.format.proofs.NodesPut.{no_nodes, section_put}
use Rattle.turning.specs.Turning.{head_number, turn_refusal, turning, turned_over, with_version}

-- a turn of the loop, and its end
pub nodes_turn : (h : Head) (ns : List Node) (l m whole : List ℕ) (i : ℕ) (it : Node) → i < length ns → it ≡ item no_node ns (i + 1) → m ≡ node_put h (i + 1) it l
    → nodes_put h (i + 1) (drop i ns) l ≡ whole → nodes_put h (i + 1 + 1) (drop (i + 1) ns) m ≡ whole
unfolding nodes_put
nodes_turn h ns l m whole i it less is em inv =
    (λ k. nodes_put h (add-one (i + 1) k) (drop (i + 1) ns) ((em ∙ ap (λ (x : Node). node_put h (i + 1) x l) is) k))
    ∙ ap (λ (xs : List Node). nodes_put h (i + 1) xs l) (sym (next-item no_node ns i less)) ∙ inv

pub nodes_end : (h : Head) (ns : List Node) (l whole : List ℕ) (i : ℕ) → length ns ≤ i → nodes_put h (i + 1) (drop i ns) l ≡ whole → l ≡ whole
nodes_end h ns l whole i past inv = sym (no_nodes h (i + 1) l) ∙ ap (λ (xs : List Node). nodes_put h (i + 1) xs l) (sym (none_past ns i past)) ∙ inv

six : {a b c d e g a' b' c' d' e' g' : ℕ} → a ≡ a' → b ≡ b' → c ≡ c' → d ≡ d' → e ≡ e' → g ≡ g'
    → ◌≡◌ {A = Six} (record { users = a; roles = b; kinds = c; channels = d; sessions = e; nodes = g }) (record { users = a'; roles = b'; kinds = c'; channels = d'; sessions = e'; nodes = g' })
six ea eb ec ed ee eg = λ i. record { users = ea i; roles = eb i; kinds = ec i; channels = ed i; sessions = ee i; nodes = eg i }

module _ (f : List ℕ) (h : Head) (to : ℕ) (l : Laid f h) (has : has_juniors h.version ≡ true) (has' : has_juniors to ≡ true) where
  abbrev C : Contents
  C = contents_at f h

  -- the head of the turned file is that of what it holds
  pub head_turned : with_version h to ≡ head_for to C
  head_turned =
      let H : Head = head_for to C in
      let u = users_held f h in
      let r = roles_held f h in
      let j : junior_records to (length C.roles) ≡ h.count.roles = rw has' r in
      let j' : junior_records h.version h.count.roles ≡ h.count.roles = rw has in
      let m : more to ≡ 1 = rw has' in
      let m' : more h.version ≡ 1 = rw has in
      let k = kinds_held f h in
      let c = channels_held f h in
      let s = sessions_held f h in
      let n = nodes_held f h in
      let counts = six (sym u) (sym r) (sym k) (sym c) (sym s) (sym n) in
      let at-users : h.at.users ≡ H.at.users = omega (arith, l.users_at, m, m') in
      let at-roles : h.at.roles ≡ H.at.roles = omega (arith, l.roles_at, at-users, u) in
      let at-juniors : h.at.juniors ≡ H.at.juniors = omega (arith, l.juniors_at, at-roles, r) in
      let at-kinds : h.at.kinds ≡ H.at.kinds = omega (arith, l.kinds_at, at-juniors, j, j') in
      let at-channels : h.at.channels ≡ H.at.channels = omega (arith, l.channels_at, at-kinds, k) in
      let at-sessions : h.at.sessions ≡ H.at.sessions = omega (arith, l.sessions_at, at-channels, c) in
      let at-nodes : h.at.nodes ≡ H.at.nodes = omega (arith, l.nodes_at, at-sessions, s) in
      λ i. record {
        version = to;
        count = counts i;
        at = record { users = at-users i; roles = at-roles i; juniors = at-juniors i; kinds = at-kinds i; channels = at-channels i; sessions = at-sessions i; nodes = at-nodes i };
      }

  pub turned_put : (whole : Head) (l₀ l1 l2 l3 l4 : List ℕ) → whole ≡ with_version h to → 6908 ≤ length l₀
      → l1 ≡ sets l₀ 0 (bytes_of (head_words whole)) → l2 ≡ sets l1 (2 * h.at.users) (bytes_of (table_words h.version C))
      → l3 ≡ sets l2 (2 * h.at.sessions) (bytes_of (session_words C.sessions)) → l4 ≡ nodes_put whole 1 C.nodes l3
      → l4 ≡ sets l₀ 0 (encoded to C)
  unfolding encoded file_words table_words
  turned_put whole l₀ l1 l2 l3 l4 is room e1 e2 e3 e4 =
      let same : whole ≡ head_for to C = is ∙ head_turned in
      let head : List ℕ = head_words (head_for to C) in
      let tables : List ℕ = table_words to C in
      let sessions : List ℕ = session_words C.sessions in
      let nodes : List ℕ = node_words to C.nodes in
      let masks : junior_words h.version C.juniors ≡ junior_words to C.juniors = rw (has, has') in
      let tables-same : table_words h.version C ≡ tables = ap (λ (js : List ℕ). C.users ++ (role_words C.roles ++ (js ++ (C.kinds ++ channel_words C.channels)))) masks in
      let p1 : l1 ≡ sets l₀ 0 (bytes_of head) = e1 ∙ ap (λ (x : Head). sets l₀ 0 (bytes_of (head_words x))) same in
      let p2 : l2 ≡ sets l1 (2 * h.at.users) (bytes_of tables) = e2 ∙ ap (λ (ws : List ℕ). sets l1 (2 * h.at.users) (bytes_of ws)) tables-same in
      let long : length l3 ≡ length l₀ =
      ap length e3 ∙ length-sets l2 (2 * h.at.sessions) (bytes_of sessions) ∙ ap length p2 ∙ length-sets l1 (2 * h.at.users) (bytes_of tables) ∙ ap length p1 ∙ length-sets l₀ 0 (bytes_of head) in
      let size : length_for h.at.nodes h.count.nodes ≤ 6908 = omega (arith, l) in
      let put : l4 ≡ sets l3 (2 * h.at.nodes) (bytes_of nodes) =
      e4 ∙ ap (λ (x : Head). nodes_put x 1 C.nodes l3) is ∙ section_put (with_version h to) C.nodes l3 (nodes_held f h) (omega (arith, size, room, long)) in
      let m : more to ≡ 1 = rw has' in
      let m' : more h.version ≡ 1 = rw has in
      let j : junior_records to (length C.juniors) ≡ h.count.roles = rw has' (juniors_held f h) in
      let j' : junior_records h.version h.count.roles ≡ h.count.roles = rw has in
      let size1 : length head ≡ h.at.users = head_length (head_for to C) ∙ omega (arith, l.users_at, m, m') in
      let size2 : h.at.users + length tables ≡ h.at.sessions =
      omega (arith, l.roles_at, l.juniors_at, l.kinds_at, l.channels_at, l.sessions_at, table_words_length to C, users_held f h, roles_held f h, j, j', kinds_held f h, channels_held f h) in
      let size3 : length sessions ≡ 3 * h.count.sessions = session_words_length C.sessions ∙ ap (λ (k : ℕ). 3 * k) (sessions_held f h) in
      let q2 : l2 ≡ sets l₀ 0 (bytes_of (head ++ tables)) = puts_then l₀ l1 l2 0 h.at.users head tables p1 (omega (arith, size1)) p2 in
      let two : length (head ++ tables) ≡ length head + length tables = length-append head tables in
      let q3 : l3 ≡ sets l₀ 0 (bytes_of ((head ++ tables) ++ sessions)) =
      puts_then l₀ l2 l3 0 h.at.sessions (head ++ tables) sessions q2 (omega (arith, two, size1, size2)) e3 in
      let three : length ((head ++ tables) ++ sessions) ≡ length (head ++ tables) + length sessions = length-append (head ++ tables) sessions in
      puts_then l₀ l3 l4 0 h.at.nodes ((head ++ tables) ++ sessions) nodes q3 (omega (arith, l.nodes_at, two, three, size1, size2, size3)) put
      ∙ ap (λ (ws : List ℕ). sets l₀ 0 (bytes_of ws)) (append_assoc (head ++ tables) sessions nodes ∙ append_assoc head tables (sessions ++ nodes))

-- what is answered and written
abbrev Answers : ℕ → ℕ → List ℕ → List ℕ → Written → List ℕ → Type 0
Answers from to f out r out' = (r ≡ turning from f (length out)) × (out' ≡ turned_over from to f out)

module _ (from to : ℕ) (f out : List ℕ) where
  kept : (n : ℕ) → (n ≡ 0 → ⊥) → turning from f (length out) ≡ not_written n 0 → (r : Written) → r ≡ not_written n 0 → Answers from to f out r out
  unfolding turned_over
  kept n loud e r is = (is ∙ sym e, rw (ap (λ (w : Written). w.number) e, ne_eqb n 0 loud))

  pub too_small : length out < 6908 → (r : Written) → r ≡ not_written 17 0 → Answers from to f out r out
  unfolding turning
  too_small few r is = kept 17 (λ e. omega (arith, e)) (rw (lt-ltb (length out) 6908 few)) r is

  module _ (room : 6908 ≤ length out) where
    refused : (n : ℕ) → (n ≡ 0 → ⊥) → turn_refusal from f ≡ n → (r : Written) → r ≡ not_written n 0 → Answers from to f out r out
    unfolding turning
    refused n loud e r is = kept n loud (rw (le-ltb (length out) 6908 room, e, ne_eqb n 0 loud)) r is

    -- by the head
    pub head_refused : (n : ℕ) → head_of f ≡ Err n → (r : Written) → r ≡ not_written (cond (eqb n 1 || eqb (word_at f 0) from) n 2) 0 → Answers from to f out r out
    unfolding turn_refusal
    head_refused n e r is =
        let word : word_at f 0 ≡ version_at f = first_word f n e in
        let number : head_number (head_of f) ≡ n = ap head_number e in
        refused (cond (eqb n 1 || eqb (word_at f 0) from) n 2) (loud (eqb n 1 || eqb (word_at f 0) from)) (λ i. cond (eqb (number i) 1 || eqb (sym word i) from) (number i) 2) r is
      where
        first_word : (g : List ℕ) (n : ℕ) → head_of g ≡ Err n → word_at g 0 ≡ version_at g
        first_word [] n e = let none : Ok (head_at []) ≡ Err n = sym (none_read [] refl) ∙ e in let no : ◌≡◌ {A = ℕ} 0 1 = cc in absurd (omega arith)
        first_word (b ∷ bs) n e = refl

        loud : (b : Bool) → cond b n 2 ≡ 0 → ⊥
        loud true z = omega (arith, z, head_number_lem f n e)
        loud false z = omega (arith, z)

    module _ (h : Head) (e : head_of f ≡ Ok h) where
      own : h ≡ head_at f
      own = (headed f h e).1

      pub other_version : (h.version ≡ from → ⊥) → (r : Written) → r ≡ not_written 2 0 → Answers from to f out r out
      unfolding turn_refusal
      other_version other r is =
          let version : version_at f ≡ h.version = sym (ap (λ (x : Head). x.version) own) in
          refused 2 (λ z. omega (arith, z)) (rw (e, version, ne_eqb h.version from other)) r is

      -- the file is no longer than the largest
      pub few_bytes : length f ≤ 6908
      few_bytes = go f (head_laid f h e)
        where
          go : (g : List ℕ) → Laid g h → length g ≤ 6908
          go [] l = omega arith
          go (x ∷ xs) l = omega (arith, l)

      pub turned : h.version ≡ from → (r : Written) (out' : List ℕ) → r ≡ record { number = 0; place = 0; length = length f } → out' ≡ sets out 0 (encoded to (contents_at f h)) → Answers from to f out r out'
      unfolding turning turned_over turn_refusal
      turned is-from r out' is put =
          let version : version_at f ≡ from = sym (ap (λ (x : Head). x.version) own) ∙ is-from in
          let quiet : turn_refusal from f ≡ 0 = rw (e, eq-eqb (version_at f) from version) in
          let answer : turning from f (length out) ≡ record { number = 0; place = 0; length = length f } = rw (le-ltb (length out) 6908 room, quiet) in
          (is ∙ sym answer, put ∙ ap (λ (x : Head). sets out 0 (encoded to (contents_at f x))) own ∙ rw (ap (λ (w : Written). w.number) answer))
