-- The words of a record of each section, that a record is read back from them, and the words of a file section by section.
use Prim.Native.Nat.{ℕ, ◌+◌, ◌/◌, ◌%◌}
use mathlib.Core.Path.{◌≡◌, refl, ap, ◌∙◌}
use mathlib.Core.Bool.{Bool, true, false}
use mathlib.Core.List.{List, [], ◌∷◌, ◌++◌, append_assoc}
use native.Mathlib.Omega.{arith}
use lib.ListN.{get_or}
use Rattle.format.specs.Words.{word_at, wide_at, bytes_of}
use Rattle.format.specs.Header.{has_juniors, more, junior_records, offsets_at, head_in, as_read, head_at, head_words}
use Rattle.format.specs.Contents.{Contents}
use Rattle.format.specs.Writing.{junior_words, role_words, channel_words, session_words, node_words, table_words, head_for, file_words, encoded}
use Rattle.format.specs.declared.Head.{Head}
use Rattle.format.specs.declared.Role.{Role}
use Rattle.format.specs.declared.Channel.{Channel}
use Rattle.format.specs.declared.Session.{Session}
use Rattle.reading_exact.proofs.Rows.{Holds, holds_all, cat}

abbrev pub one_row : ℕ → List ℕ
one_row x = x ∷ []

pub cat_one : (xs : List ℕ) → cat one_row xs ≡ xs
unfolding cat
cat_one [] = refl
cat_one (x ∷ xs) = ap {B = List ℕ} (λ l. x ∷ l) (cat_one xs)

abbrev pub role_row : Role → List ℕ
role_row r = r.sends % 65536 ∷ r.sends / 65536 ∷ r.receives % 65536 ∷ r.receives / 65536 ∷ []

abbrev pub channel_row : Channel → List ℕ
channel_row c = c.owner ∷ c.kind.0 ∷ []

abbrev pub session_row : Session → List ℕ
session_row s = s.user ∷ s.mask ∷ s.root ∷ []

-- A record of each section at an offset.

abbrev pub role_at : List ℕ → ℕ → Role
role_at f p = record { sends = wide_at f p; receives = wide_at f (p + 2) }

abbrev pub channel_at : List ℕ → ℕ → Channel
channel_at f p = record { owner = word_at f p; kind = record { 0 = word_at f (p + 1) } }

abbrev pub session_at : List ℕ → ℕ → Session
session_at f p = record { user = word_at f p; mask = word_at f (p + 1); root = word_at f (p + 2) }

-- the first of the words that a file holds from p on
here : (f : List ℕ) (p : ℕ) (l : List ℕ) → Holds f p l → word_at f p ≡ get_or l 0 0
here f p l h = let z : p ≡ p + 0 = omega arith in ap (word_at f) z ∙ h 0

pub one_back : (f : List ℕ) (p x : ℕ) (post : List ℕ) → Holds f p (one_row x ++ post) → word_at f p ≡ x
one_back f p x post h = here f p (one_row x ++ post) h

pub role_back : (f : List ℕ) (p : ℕ) (r : Role) (post : List ℕ) → Holds f p (role_row r ++ post) → role_at f p ≡ r
role_back f p r post h =
    let low : word_at f p ≡ r.sends % 65536 = here f p (role_row r ++ post) h in
    let high : word_at f (p + 1) ≡ r.sends / 65536 = h 1 in
    let low' : word_at f (p + 2) ≡ r.receives % 65536 = h 2 in
    let three : p + 2 + 1 ≡ p + 3 = omega arith in
    let high' : word_at f (p + 2 + 1) ≡ r.receives / 65536 = ap (word_at f) three ∙ h 3 in
    let sends : wide_at f p ≡ r.sends = omega arith in
    let receives : wide_at f (p + 2) ≡ r.receives = omega arith in
    λ i. record { sends = sends i; receives = receives i }

pub channel_back : (f : List ℕ) (p : ℕ) (c : Channel) (post : List ℕ) → Holds f p (channel_row c ++ post) → channel_at f p ≡ c
channel_back f p c post h =
    let owner : word_at f p ≡ c.owner = here f p (channel_row c ++ post) h in
    let kind : word_at f (p + 1) ≡ c.kind.0 = h 1 in
    λ i. record { owner = owner i; kind = record { 0 = kind i } }

pub session_back : (f : List ℕ) (p : ℕ) (s : Session) (post : List ℕ) → Holds f p (session_row s ++ post) → session_at f p ≡ s
session_back f p s post h =
    let user : word_at f p ≡ s.user = here f p (session_row s ++ post) h in
    let mask : word_at f (p + 1) ≡ s.mask = h 1 in
    let root : word_at f (p + 2) ≡ s.root = h 2 in
    λ i. record { user = user i; mask = mask i; root = root i }

-- the words of each section, as format writes them

roles_cat : (rs : List Role) → role_words rs ≡ cat role_row rs
unfolding role_words cat
roles_cat [] = refl
roles_cat (r ∷ rs) = ap {B = List ℕ} (λ l. role_row r ++ l) (roles_cat rs)

channels_cat : (cs : List Channel) → channel_words cs ≡ cat channel_row cs
unfolding channel_words cat
channels_cat [] = refl
channels_cat (c ∷ cs) = ap {B = List ℕ} (λ l. channel_row c ++ l) (channels_cat cs)

sessions_cat : (ss : List Session) → session_words ss ≡ cat session_row ss
unfolding session_words cat
sessions_cat [] = refl
sessions_cat (s ∷ ss) = ap {B = List ℕ} (λ l. session_row s ++ l) (sessions_cat ss)

-- a file's words section by section
abbrev pub row_words : ℕ → Contents → List ℕ
row_words v C =
    head_words (head_for v C)
    ++ (cat one_row C.users
    ++ (cat role_row C.roles
    ++ (junior_words v C.juniors ++ (cat one_row C.kinds ++ (cat channel_row C.channels ++ (cat session_row C.sessions ++ node_words v C.nodes))))))

pub file_rows : (v : ℕ) (C : Contents) → file_words v C ≡ row_words v C
unfolding file_words table_words
file_rows v C = simp (roles_cat, channels_cat, sessions_cat, cat_one, append_assoc)

-- what is read of the offsets, where a file begins with a head whose sections stand back to back
module _ (f : List ℕ) (h : Head) (post : List ℕ) (w : Holds f 0 (head_words h ++ post)) where
  word : (i : ℕ) → word_at f i ≡ get_or (head_words h ++ post) i 0
  word i = let z : i ≡ 0 + i = omega arith in ap (word_at f) z ∙ w i

  offsets_read : h.at.kinds ≡ h.at.juniors + junior_records h.version h.count.roles → offsets_at f h.version ≡ h.at
  offsets_read back = go (has_juniors h.version) refl
    where
      go : (b : Bool) → has_juniors h.version ≡ b → offsets_at f h.version ≡ h.at
      go true e =
          let w9 : word_at f 9 ≡ h.at.juniors = word 9 ∙ rw e in
          let w10 : word_at f (9 + more h.version) ≡ h.at.kinds = rw e (word 10 ∙ rw e) in
          let w11 : word_at f (10 + more h.version) ≡ h.at.channels = rw e (word 11 ∙ rw e) in
          let w12 : word_at f (11 + more h.version) ≡ h.at.sessions = rw e (word 12 ∙ rw e) in
          let w13 : word_at f (12 + more h.version) ≡ h.at.nodes = rw e (word 13 ∙ rw e) in
          λ i. record { users = word 7 i; roles = word 8 i; juniors = w9 i; kinds = w10 i; channels = w11 i; sessions = w12 i; nodes = w13 i }
      go false e =
          let none : junior_records h.version h.count.roles ≡ 0 = rw e in
          let w9 : word_at f 9 ≡ h.at.juniors = word 9 ∙ rw e (omega (arith, back, none)) in
          let w10 : word_at f (9 + more h.version) ≡ h.at.kinds = rw e (word 9 ∙ rw e) in
          let w11 : word_at f (10 + more h.version) ≡ h.at.channels = rw e (word 10 ∙ rw e) in
          let w12 : word_at f (11 + more h.version) ≡ h.at.sessions = rw e (word 11 ∙ rw e) in
          let w13 : word_at f (12 + more h.version) ≡ h.at.nodes = rw e (word 12 ∙ rw e) in
          λ i. record { users = word 7 i; roles = word 8 i; juniors = w9 i; kinds = w10 i; channels = w11 i; sessions = w12 i; nodes = w13 i }

  pub head_read : h.at.kinds ≡ h.at.juniors + junior_records h.version h.count.roles → head_in f ≡ h
  head_read back =
      let offsets : offsets_at f (word_at f 0) ≡ h.at = ap (offsets_at f) (word 0) ∙ offsets_read back in
      λ i. record {
        version = word 0 i;
        count = record { users = word 1 i; roles = word 2 i; kinds = word 3 i; channels = word 4 i; sessions = word 5 i; nodes = word 6 i };
        at = offsets i;
      }

-- a file written has bytes, and is read as it is
pub written_read : (v : ℕ) (C : Contents) → as_read (encoded v C) ≡ encoded v C
unfolding encoded file_words bytes_of
written_read v C = refl

pub head_back : (v : ℕ) (C : Contents) → head_at (encoded v C) ≡ head_for v C
unfolding encoded file_words
head_back v C = ap head_in (written_read v C) ∙ head_read (bytes_of (file_words v C)) (head_for v C) _ (holds_all (file_words v C)) refl
