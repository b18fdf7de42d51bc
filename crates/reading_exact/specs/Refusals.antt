-- What each of the refusals 1 to 8 and 21 objects to, and where, in the words of the paper.
use Rattle.std.specs.Prelude.{ℕ, suc, ◌+◌, ◌*◌, ◌-◌, ◌%◌, ◌≤◌, ◌<◌, ◌≡◌, ◌⊎◌, ◌≢◌, true, false, List, map, length, get_or}
use Rattle.masks.specs.Mask.{has}
use Rattle.format.specs.Header.{WithJuniors, more, junior_records, as_read, head_at, version_at, Counted, BackToBack}
use Rattle.format.specs.Sections.{place_of}
use Rattle.format.specs.Contents.{Contents, item, no_role, no_channel, no_session, no_node, contents_of}
use Rattle.trees.specs.Shape.{bound_below}
use Rattle.format.specs.declared.Head.{Head}
use Rattle.format.specs.declared.Six.{Six}
use Rattle.format.specs.declared.Session.{Session}
use Rattle.format.specs.declared.Node.{Node}
use Rattle.format.specs.declared.Section.TheVariants.{Users, Roles, Juniors, Kinds, Channels}
use Rattle.reading_exact.specs.File.{InCount}
use Rattle.reading_exact.specs.Order.{Order, in_turn}

-- 6: a user, role, kind or channel record names an item that the counts don't have; the place is the record's offset
pub data Misnamed (h : Head) (C : Contents) (p : ℕ) : Type 0 where
  user : (n x : ℕ) → InCount (length C.users) n → has (item 0 C.users n) x ≡ true → length C.roles < x → p ≡ place_of h Users n → Misnamed h C p
  sends : (n x : ℕ) → InCount (length C.roles) n → has (item no_role C.roles n).sends x ≡ true → length C.kinds < x → p ≡ place_of h Roles n → Misnamed h C p
  receives : (n x : ℕ) → InCount (length C.roles) n → has (item no_role C.roles n).receives x ≡ true → length C.kinds < x → p ≡ place_of h Roles n → Misnamed h C p
  kind : (n : ℕ) → InCount (length C.kinds) n → length C.kinds < item 0 C.kinds n → p ≡ place_of h Kinds n → Misnamed h C p
  owner : (n : ℕ) → InCount (length C.channels) n → (InCount (length C.users) (item no_channel C.channels n).owner → ⊥) → p ≡ place_of h Channels n → Misnamed h C p
  kind_of_lem : (n : ℕ) → InCount (length C.channels) n → (InCount (length C.kinds) (item no_channel C.channels n).kind.0 → ⊥) → p ≡ place_of h Channels n → Misnamed h C p

-- 21: a junior whose number is not lower than its senior's (out of count is 21, not 6); the place is the word offset
pub data Misranked (h : Head) (C : Contents) (p : ℕ) : Type 0 where
  junior : (n x : ℕ) → InCount (length C.juniors) n → has (item 0 C.juniors n) x ≡ true → n ≤ x → p ≡ place_of h Juniors n → Misranked h C p

-- 7: no such user, a starting role not assigned; the place is the session
pub data Unassigned (C : Contents) (p : ℕ) : Type 0 where
  no_user : InCount (length C.sessions) p → (InCount (length C.users) (item no_session C.sessions p).user → ⊥) → Unassigned C p
  not_assigned : (x : ℕ) → InCount (length C.sessions) p → InCount (length C.users) (item no_session C.sessions p).user
      → has (item no_session C.sessions p).mask x ≡ true → has (item 0 C.users (item no_session C.sessions p).user) x ≡ false → Unassigned C p

-- the node of a number in a list numbered from 1
abbrev pub nth : List Node → ℕ → Node
nth ns i = item no_node ns i

-- a tag with one child
abbrev pub OneChild : ℕ → Type 0
OneChild tag = (2 ≤ tag) × (tag ≤ 8)

-- trees are followed by tags alone: the tree at node i can be followed to its end, and j is the number after its last node
pub data Follows (ns : List Node) : ℕ → ℕ → Type 0 where
  at-end : {i : ℕ} → InCount (length ns) i → (nth ns i).tag ≡ 0 → Follows ns i (suc i)
  at_step : {i j : ℕ} → InCount (length ns) i → OneChild (nth ns i).tag → Follows ns (suc i) j → Follows ns i j
  at_fork : {i k j : ℕ} → InCount (length ns) i → (nth ns i).tag ≡ 1 → Follows ns (suc i) k → Follows ns k j → Follows ns i j

-- the node due: tree 1 begins at node 1, each later one after the tree before it
pub data Begins (ns : List Node) : ℕ → ℕ → Type 0 where
  first : Begins ns 1 1
  next : {k i j : ℕ} → Begins ns k i → Follows ns i j → Begins ns (suc k) j

-- the context of a node, whatever a context holds: the node due for a session is reached in that session's opening, a child in what its parent leaves
-- below it; each branch of a fork has the fork's own
module _ {C : Type 0} (below : C → Node → C) (ns : List Node) (sessions : ℕ) (opening : ℕ → C) where
  pub data Reached : ℕ → C → Type 0 where
    root : {k i : ℕ} → InCount sessions k → Begins ns k i → Reached i (opening k)
    child : {i : ℕ} {c : C} → InCount (length ns) i → OneChild (nth ns i).tag → Reached i c → Reached (suc i) (below c (nth ns i))
    first_child : {i : ℕ} {c : C} → InCount (length ns) i → (nth ns i).tag ≡ 1 → Reached i c → Reached (suc i) c
    second_child : {i k : ℕ} {c : C} → InCount (length ns) i → (nth ns i).tag ≡ 1 → Reached i c → Follows ns (suc i) k → Reached k c

-- node i is reached with b variables bound on the path: none at a root, one more below a binder
abbrev pub ReachedWith : List Node → ℕ → ℕ → ℕ → Type 0
ReachedWith ns sessions = Reached (λ b n. bound_below n.tag b) ns sessions (λ k. 0)

-- 8, for the sessions' root words: a root that is not the node due; tag, unused field, second child; a tree past the last node, nodes left over,
-- a ninth variable
pub data Misshapen (ns : List Node) (roots : List ℕ) (p : ℕ) : Type 0 where
  not_due : (k : ℕ) → InCount (length roots) k → Begins ns k p → InCount (length ns) p → get_or roots (k - 1) 0 ≢ p → Misshapen ns roots p
  bad_tag : InCount (length ns) p → 8 < (nth ns p).tag → Misshapen ns roots p
  unused_f1 : InCount (length ns) p → ((nth ns p).tag ≡ 0) ⊎ ((nth ns p).tag ≡ 2) → (nth ns p).f1 ≢ 0 → Misshapen ns roots p
  unused_f2 : InCount (length ns) p → (nth ns p).tag ≤ 8 → (nth ns p).tag ≢ 4 → (nth ns p).tag ≢ 6 → (nth ns p).f2 ≢ 0 → Misshapen ns roots p
  second : (e : ℕ) → InCount (length ns) p → (nth ns p).tag ≡ 1 → Follows ns (suc p) e → (nth ns p).f1 ≢ e → Misshapen ns roots p
  past_last : (b : ℕ) → ReachedWith ns (length roots) p b → p ≡ suc (length ns) → Misshapen ns roots p
  left_over : Begins ns (suc (length roots)) p → InCount (length ns) p → Misshapen ns roots p
  ninth : (b : ℕ) → ReachedWith ns (length roots) p b → 8 ≤ b → InCount (length ns) p → ((nth ns p).tag ≡ 3) ⊎ ((nth ns p).tag ≡ 5) → Misshapen ns roots p

-- the length in bytes that the six counts give: 13 words of head, and for each record its words; versions 2 and 3 have a word more in the head, and one for each role
abbrev pub length_of : ℕ → Six → ℕ
length_of version n =
    2 * (13 + more version + n.users + 4 * n.roles + junior_records version n.roles + n.kinds + 2 * n.channels + 3 * n.sessions + 3 * n.nodes)

-- a refusal's number and place hold of a file; zero bytes are judged as the file that they read as
pub data Refusable (f : List ℕ) (n p : ℕ) : Type 0 where
  short : n ≡ 1 → p ≡ 0 → length (as_read f) < 26 → Refusable f n p
  short_second : n ≡ 1 → p ≡ 0 → WithJuniors (version_at f) → length (as_read f) < 28 → Refusable f n p
  odd : n ≡ 1 → p ≡ 0 → length (as_read f) % 2 ≡ 1 → Refusable f n p
  version : n ≡ 2 → p ≡ 0 → version_at f ≢ 1 → version_at f ≢ 2 → version_at f ≢ 3 → Refusable f n p
  count : n ≡ 3 → p ≡ 0 → (Counted (head_at f).count → ⊥) → Refusable f n p
  offset : n ≡ 4 → p ≡ 0 → (BackToBack (version_at f) (head_at f).count (head_at f).at → ⊥) → Refusable f n p
  size : n ≡ 5 → p ≡ 0 → length (as_read f) ≢ length_of (version_at f) (head_at f).count → Refusable f n p
  misnamed : n ≡ 6 → Misnamed (head_at f) (contents_of f) p → Refusable f n p
  misranked : n ≡ 21 → Misranked (head_at f) (contents_of f) p → Refusable f n p
  unassigned : n ≡ 7 → Unassigned (contents_of f) p → Refusable f n p
  misshapen : n ≡ 8 → Misshapen (contents_of f).nodes (map (λ (s : Session). s.root) (contents_of f).sessions) p → Refusable f n p

-- the order: by number, but 21 directly after 6, and within a number the lowest place first
abbrev pub reading_order : Order
reading_order = record { stage = in_turn; turn = λ n. n }
