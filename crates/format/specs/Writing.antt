-- The words of a file of a version that holds this: its head, then its sections, back to back; and nodes put in one by one.
use Rattle.std.specs.Prelude.{ℕ, suc, ◌+◌, ◌*◌, ◌/◌, ◌%◌, cond, List, [], ◌∷◌, ◌++◌, map, length}
use Rattle.std.proofs.lemmas.List.Edits.{sets}
use Rattle.format.specs.Words.{bytes_of}
use Rattle.format.specs.Header.{has_juniors, more, junior_records, head_words}
use Rattle.format.specs.Sections.{by_column, node_spot}
use Rattle.format.specs.Contents.{Contents}
use Rattle.format.specs.declared.Head.{Head}
use Rattle.format.specs.declared.Role.{Role}
use Rattle.format.specs.declared.Channel.{Channel}
use Rattle.format.specs.declared.Session.{Session}
use Rattle.format.specs.declared.Node.{Node}

unfoldable pub role_words : List Role → List ℕ
role_words [] = []
role_words (r ∷ rs) = r.sends % 65536 ∷ r.sends / 65536 ∷ r.receives % 65536 ∷ r.receives / 65536 ∷ role_words rs

unfoldable pub channel_words : List Channel → List ℕ
channel_words [] = []
channel_words (c ∷ cs) = c.owner ∷ c.kind.0 ∷ channel_words cs

unfoldable pub session_words : List Session → List ℕ
session_words [] = []
session_words (s ∷ ss) = s.user ∷ s.mask ∷ s.root ∷ session_words ss

unfoldable pub node_rows : List Node → List ℕ
node_rows [] = []
node_rows (n ∷ ns) = n.tag ∷ n.f1 ∷ n.f2 ∷ node_rows ns

-- "all tags, then all f1, then all f2"
unfoldable pub node_columns : List Node → List ℕ
node_columns ns = map (λ (n : Node). n.tag) ns ++ (map (λ (n : Node). n.f1) ns ++ map (λ (n : Node). n.f2) ns)

abbrev pub node_words : ℕ → List Node → List ℕ
node_words version ns = cond (by_column version) (node_columns ns) (node_rows ns)

-- the masks of juniors, where the version has them
abbrev pub junior_words : ℕ → List ℕ → List ℕ
junior_words version js = cond (has_juniors version) js []

-- the version, the six counts, and the offsets of the sections, the first after the head and the others back to back
abbrev pub head_for : ℕ → Contents → Head
head_for version C =
    let u : ℕ = length C.users in
    let r : ℕ = length C.roles in
    let j : ℕ = junior_records version r in
    let k : ℕ = length C.kinds in
    let c : ℕ = length C.channels in
    let s : ℕ = length C.sessions in
    let first : ℕ = 13 + more version in
    record {
      version = version;
      count = record { users = u; roles = r; kinds = k; channels = c; sessions = s; nodes = length C.nodes };
      at = record {
        users = first;
        roles = first + u;
        juniors = first + u + 4 * r;
        kinds = first + u + 4 * r + j;
        channels = first + u + 4 * r + j + k;
        sessions = first + u + 4 * r + j + k + 2 * c;
        nodes = first + u + 4 * r + j + k + 2 * c + 3 * s;
      };
    }

-- users, roles, juniors, kinds and channels
unfoldable pub table_words : ℕ → Contents → List ℕ
table_words version C = C.users ++ (role_words C.roles ++ (junior_words version C.juniors ++ (C.kinds ++ channel_words C.channels)))

unfoldable pub file_words : ℕ → Contents → List ℕ
file_words version C = head_words (head_for version C) ++ (table_words version C ++ (session_words C.sessions ++ node_words version C.nodes))

-- each word low byte first
unfoldable pub encoded : ℕ → Contents → List ℕ
encoded version C = bytes_of (file_words version C)

-- a word put in at an offset; a node, each word at its spot; nodes from a number on
abbrev pub word_put : ℕ → ℕ → List ℕ → List ℕ
word_put at w l = sets l (2 * at) (bytes_of (w ∷ []))

abbrev pub node_put : Head → ℕ → Node → List ℕ → List ℕ
node_put h n it l = word_put (node_spot h n 2) it.f2 (word_put (node_spot h n 1) it.f1 (word_put (node_spot h n 0) it.tag l))

unfoldable pub nodes_put : Head → ℕ → List Node → List ℕ → List ℕ
nodes_put h n [] l = l
nodes_put h n (it ∷ ns) l = nodes_put h (suc n) ns (node_put h n it l)
