-- Bytes that are copied are words as they are, a file's words before its sessions are its tables', and how many words a section has.
use Prim.Native.Nat.{ℕ, zero, suc, ◌+◌, ◌*◌, ◌-◌, ◌/◌, ◌%◌, ◌≤◌, ◌<◌}
use mathlib.Core.Path.{◌≡◌, refl, sym, ap, ap₂, ◌∙◌}
use mathlib.Core.Bool.{Bool, true, false, cond}
use mathlib.Core.List.{List, [], ◌∷◌, ◌++◌}
use native.Mathlib.Omega.{arith}
use native.Mathlib.Numerals.{add-one}
use lib.ListN.{length, get_or, set, take, drop, length-append, length-drop}
use lib.Seq.{sets, sets-eq, drop-cons, get_or-drop, length-take-le, paste, paste-zero, paste-suc}
use Rattle.format.specs.Words.{word_at, wide_at, bytes_of}
use Rattle.format.specs.Header.{Laid, has_juniors, more, junior_records, six_words, offset_words, head_words}
use Rattle.format.specs.Sections.{words_from, place_of, juniors_of, session_of}
use Rattle.format.specs.Contents.{Contents, tabled, contents_at}
use Rattle.format.specs.Writing.{junior_words, role_words, channel_words, session_words, node_rows, table_words}
use Rattle.format.specs.declared.Head.{Head}
use Rattle.format.specs.declared.Seven.{Seven}
use Rattle.format.specs.declared.Section.TheVariants.{Juniors}
use Rattle.format.specs.declared.Role.{Role}
use Rattle.format.specs.declared.Channel.{Channel}
use Rattle.format.specs.declared.Session.{Session}
use Rattle.format.specs.declared.Node.{Node}

pub offsets_put : (l l1 l2 l3 : List ℕ) (at : Seven)
    → l1 ≡ sets l 14 (bytes_of (at.users ∷ at.roles ∷ at.juniors ∷ [])) → l2 ≡ sets l1 20 (bytes_of (at.kinds ∷ at.channels ∷ at.sessions ∷ []))
    → l3 ≡ sets l2 26 (bytes_of (at.nodes ∷ []))
    → l3 ≡ sets l 14 (bytes_of (at.users ∷ at.roles ∷ at.juniors ∷ at.kinds ∷ at.channels ∷ at.sessions ∷ at.nodes ∷ []))
unfolding bytes_of
offsets_put l l1 l2 l3 at e1 e2 e3 = rw (e3, e2, e1)

pub offsets_put_first : (l l1 l2 : List ℕ) (at : Seven)
    → l1 ≡ sets l 14 (bytes_of (at.users ∷ at.roles ∷ at.kinds ∷ [])) → l2 ≡ sets l1 20 (bytes_of (at.channels ∷ at.sessions ∷ at.nodes ∷ []))
    → l2 ≡ sets l 14 (bytes_of (at.users ∷ at.roles ∷ at.kinds ∷ at.channels ∷ at.sessions ∷ at.nodes ∷ []))
unfolding bytes_of
offsets_put_first l l1 l2 at e1 e2 = rw (e2, e1)

pub head_put : (l l1 l2 l3 l4 : List ℕ) (h : Head)
    → l1 ≡ sets l 0 (bytes_of (h.version ∷ [])) → l2 ≡ sets l1 2 (bytes_of (h.count.users ∷ h.count.roles ∷ h.count.kinds ∷ []))
    → l3 ≡ sets l2 8 (bytes_of (h.count.channels ∷ h.count.sessions ∷ h.count.nodes ∷ [])) → l4 ≡ sets l3 14 (bytes_of (offset_words h.version h.at))
    → l4 ≡ sets l 0 (bytes_of (head_words h))
unfolding bytes_of
head_put l l1 l2 l3 l4 h e1 e2 e3 e4 = rw (e4, e3, e2, e1)

-- the words of a head, with a seventh offset or without
pub head_length : (h : Head) → length (head_words h) ≡ 13 + more h.version
head_length h = go (has_juniors h.version)
  where
    at : Seven
    at = h.at

    go : (b : Bool)
        → length (h.version ∷ six_words h.count ++ (at.users ∷ at.roles ∷ cond b (at.juniors ∷ []) [] ++ (at.kinds ∷ at.channels ∷ at.sessions ∷ at.nodes ∷ [])))
        ≡ 13 + cond b 1 0
    go true = refl
    go false = refl

-- what a slice of u8 holds
abbrev pub Bytes : List ℕ → Type 0
Bytes f = (x : ℕ) → get_or f x 0 < 256

pub bytes_words : (f : List ℕ) (p k : ℕ) → Bytes f → 2 * (p + k) ≤ length f → take (2 * k) (drop (2 * p) f) ≡ bytes_of (words_from f p k)
unfolding bytes_of words_from
bytes_words f p zero b h = refl
bytes_words f p (suc k) b h =
    let two : 2 * suc k ≡ suc (suc (2 * k)) = omega arith in
    let next : suc (suc (2 * p)) ≡ 2 * suc p = omega arith in
    let low : word_at f p % 256 ≡ get_or f (2 * p) 0 = omega (arith, b (2 * p)) in
    let high : word_at f p / 256 ≡ get_or f (2 * p + 1) 0 = omega (arith, b (2 * p)) in
    rw (two, drop-cons f (2 * p) 0 (omega arith), drop-cons f (suc (2 * p)) 0 (omega arith), next, low, high, add-one (2 * p), bytes_words f (suc p) k b (omega arith))

-- what a loop that copies bytes has done, and what is left when it has copied whole words
pub copy_turn : (f out : List ℕ) (from at i : ℕ) → from + i < length f → at + i < length out
    → set (paste out at (drop from f) i) (at + i) (get_or f (from + i) 0) ≡ paste out at (drop from f) (i + 1)
copy_turn f out from at i there room =
    let one : suc i ≡ i + 1 = omega arith in
    ap (set (paste out at (drop from f) i) (at + i)) (sym (get_or-drop from f i 0))
    ∙ paste-suc out at (drop from f) i 0 room (omega (arith, there, length-drop from f))
    ∙ ap (paste out at (drop from f)) one

pub copied_words : (f out : List ℕ) (from at k n : ℕ) → Bytes f → n ≡ 2 * k → (0 < k → 2 * (from + k) ≤ length f) → 2 * (at + k) ≤ length out
    → paste out (2 * at) (drop (2 * from) f) n ≡ sets out (2 * at) (bytes_of (words_from f from k))
unfolding bytes_of words_from
copied_words f out from at k n b e there room = ap (paste out (2 * at) (drop (2 * from) f)) e ∙ go k there room
  where
    go : (k : ℕ) → (0 < k → 2 * (from + k) ≤ length f) → 2 * (at + k) ≤ length out
        → paste out (2 * at) (drop (2 * from) f) (2 * k) ≡ sets out (2 * at) (bytes_of (words_from f from k))
    go zero there room = sym (paste-zero out (2 * at) (drop (2 * from) f))
    go (suc k) there room =
        let p : ℕ = 2 * at in
        let m : ℕ = 2 * suc k in
        let bytes : List ℕ = bytes_of (words_from f from (suc k)) in
        let fits : 2 * (from + suc k) ≤ length f = there (omega arith) in
        let same : take m (drop (2 * from) f) ≡ bytes = bytes_words f from (suc k) b fits in
        let long : length bytes ≡ m = ap length (sym same) ∙ length-take-le m (drop (2 * from) f) (omega (arith, fits, length-drop (2 * from) f)) in
        ap (λ (x : List ℕ). take p out ++ x ++ drop (p + m) out) same
        ∙ ap (λ (x : ℕ). take p out ++ bytes ++ drop (p + x) out) (sym long)
        ∙ sym (sets-eq bytes out p (omega (arith, long, room)))

-- the words of each table's items, from the place q of the one after i on
module _ (f : List ℕ) (p : ℕ) where
  single_words : (q i k : ℕ) → q ≡ p + i → words_from f q k ≡ tabled (λ n. word_at f (p + 1 * (n - 1))) (suc i) k
  unfolding words_from tabled
  single_words q i zero e = refl
  single_words q i (suc k) e = let here : q ≡ p + 1 * (suc i - 1) = omega arith in ap₂ ◌∷◌ (ap (word_at f) here) (single_words (suc q) (suc i) k (omega arith))

  channel_words_lem : (q i k : ℕ) → q ≡ p + 2 * i
      → words_from f q (2 * k) ≡ channel_words (tabled (λ n. record { owner = word_at f (p + 2 * (n - 1)); kind = record { 0 = word_at f (p + 2 * (n - 1) + 1) } }) (suc i) k)
  unfolding words_from tabled channel_words
  channel_words_lem q i zero e = refl
  channel_words_lem q i (suc k) e =
      let two : 2 * suc k ≡ suc (suc (2 * k)) = omega arith in
      let here : p + 2 * (suc i - 1) ≡ q = omega arith in
      rw (two, here, add-one q, channel_words_lem (suc (suc q)) (suc i) k (omega arith))

  role_words_lem : Bytes f → (q i k : ℕ) → q ≡ p + 4 * i
      → words_from f q (4 * k) ≡ role_words (tabled (λ n. record { sends = wide_at f (p + 4 * (n - 1)); receives = wide_at f (p + 4 * (n - 1) + 2) }) (suc i) k)
  unfolding words_from tabled role_words
  role_words_lem b q i zero e = refl
  role_words_lem b q i (suc k) e =
      let four : 4 * suc k ≡ suc (suc (suc (suc (4 * k)))) = omega arith in
      let here : p + 4 * (suc i - 1) ≡ q = omega arith in
      let second : q + 2 ≡ suc (suc q) = omega arith in
      rw (four, here, second, low q, high q, low (suc (suc q)), high (suc (suc q)), role_words_lem b (suc (suc (suc (suc q)))) (suc i) k (omega arith))
    where
      low : (q : ℕ) → wide_at f q % 65536 ≡ word_at f q
      low q = omega (arith, b (2 * q), b (2 * q + 1))

      high : (q : ℕ) → wide_at f q / 65536 ≡ word_at f (suc q)
      high q = let next : q + 1 ≡ suc q = omega arith in rw (← next) (omega (arith, b (2 * q), b (2 * q + 1)))

pub words_joined : (f : List ℕ) (p a b : ℕ) → words_from f p (a + b) ≡ words_from f p a ++ words_from f (p + a) b
unfolding words_from
words_joined f p zero b =
    let z : 0 + b ≡ b = omega arith in
    let y : p + 0 ≡ p = omega arith in
    rw (z, y)
words_joined f p (suc a) b =
    let z : suc a + b ≡ suc (a + b) = omega arith in
    let y : p + suc a ≡ suc p + a = omega arith in
    rw (z, y) (ap {B = List ℕ} (λ l. word_at f p ∷ l) (words_joined f (suc p) a b))

-- the masks of juniors, where the version has them
juniors_words : (f : List ℕ) (h : Head) (q : ℕ) → q ≡ h.at.juniors
    → words_from f q (junior_records h.version h.count.roles) ≡ junior_words h.version (tabled (juniors_of f h) 1 h.count.roles)
unfolding words_from
juniors_words f h q e = go (has_juniors h.version)
  where
    go : (b : Bool) → words_from f q (cond b h.count.roles 0) ≡ cond b (tabled (λ n. cond b (word_at f (place_of h Juniors n)) 0) 1 h.count.roles) []
    go true = single_words f h.at.juniors q 0 h.count.roles (omega arith)
    go false = refl

pub tables_words : (f : List ℕ) (h : Head) → Laid f h → Bytes f
    → words_from f h.at.users (h.at.sessions - h.at.users) ≡ table_words h.version (contents_at f h)
unfolding contents_at table_words
tables_words f h l b =
    let u : ℕ = h.count.users in
    let r : ℕ = 4 * h.count.roles in
    let j : ℕ = junior_records h.version h.count.roles in
    let k : ℕ = h.count.kinds in
    let c : ℕ = 2 * h.count.channels in
    let p : ℕ = h.at.users in
    let all : h.at.sessions - p ≡ u + (r + (j + (k + c))) = omega arith in
    ap (words_from f p) all ∙ words_joined f p u (r + (j + (k + c)))
    ∙ ap₂ ◌++◌ (single_words f p p 0 u (omega arith)) (words_joined f (p + u) r (j + (k + c))
    ∙ ap₂ ◌++◌ (role_words_lem f h.at.roles b (p + u) 0 h.count.roles (omega arith)) (words_joined f (p + u + r) j (k + c)
    ∙ ap₂ ◌++◌ (juniors_words f h (p + u + r) (omega arith)) (words_joined f (p + u + r + j) k c
    ∙ ap₂ ◌++◌ (single_words f h.at.kinds (p + u + r + j) 0 k (omega arith)) (channel_words_lem f h.at.channels (p + u + r + j + k) 0 h.count.channels (omega arith)))))

-- the sessions
sessions_from : (f : List ℕ) (h : Head) (q i k : ℕ) → q ≡ h.at.sessions + 3 * i → words_from f q (3 * k) ≡ session_words (tabled (session_of f h) (suc i) k)
unfolding words_from tabled session_words
sessions_from f h q i zero e = refl
sessions_from f h q i (suc k) e =
    let three : 3 * suc k ≡ suc (suc (suc (3 * k))) = omega arith in
    let here : h.at.sessions + 3 * (suc i - 1) ≡ q = omega (arith, e) in
    let third : q + 2 ≡ suc (suc q) = omega arith in
    rw (three, here, third, add-one q, sessions_from f h (suc (suc (suc q))) (suc i) k (omega (arith, e)))

pub sessions_words : (f : List ℕ) (h : Head) → words_from f h.at.sessions (3 * h.count.sessions) ≡ session_words (contents_at f h).sessions
unfolding contents_at
sessions_words f h = sessions_from f h h.at.sessions 0 h.count.sessions (omega arith)

-- how many words there are
pub role_words_length : (rs : List Role) → length (role_words rs) ≡ 4 * length rs
unfolding role_words
role_words_length [] = refl
role_words_length (r ∷ rs) = omega (arith, role_words_length rs)

pub channel_words_length : (cs : List Channel) → length (channel_words cs) ≡ 2 * length cs
unfolding channel_words
channel_words_length [] = refl
channel_words_length (c ∷ cs) = omega (arith, channel_words_length cs)

pub session_words_length : (ss : List Session) → length (session_words ss) ≡ 3 * length ss
unfolding session_words
session_words_length [] = refl
session_words_length (s ∷ ss) = omega (arith, session_words_length ss)

pub junior_words_length : (v : ℕ) (js : List ℕ) → length (junior_words v js) ≡ junior_records v (length js)
junior_words_length v js = go (has_juniors v)
  where
    go : (b : Bool) → length (cond b js []) ≡ cond b (length js) 0
    go true = refl
    go false = refl

pub table_words_length : (v : ℕ) (C : Contents)
    → length (table_words v C) ≡ length C.users + 4 * length C.roles + junior_records v (length C.juniors) + length C.kinds + 2 * length C.channels
unfolding table_words
table_words_length v C =
    simp length-append (omega (arith, role_words_length C.roles, channel_words_length C.channels, junior_words_length v C.juniors))

pub node_rows_append : (ms ns : List Node) → node_rows (ms ++ ns) ≡ node_rows ms ++ node_rows ns
unfolding node_rows
node_rows_append [] ns = refl
node_rows_append (m ∷ ms) ns = rw (node_rows_append ms ns)
