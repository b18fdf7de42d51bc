-- What a file holds, word by word. The head's words 1 to 6 are the six counts, its words from 7 on say where the sections begin: users, roles, in
-- versions 2 and 3 the masks of juniors, then kinds, channels, sessions, nodes.
use Rattle.std.specs.Prelude.{ℕ, ◌+◌, ◌*◌, ◌-◌, ◌≡◌, ◌≢◌, List, length}
use Rattle.format.specs.Words.{word_at}
use Rattle.format.specs.Header.{WithJuniors, more}
use Rattle.format.specs.Contents.{item, no_role, no_channel, no_session, no_node, contents_of}
use Rattle.reading_exact.specs.File.{InCount}

-- word j, from 0, of the record of number n in the section that begins where the head's word `at` says, with so many words to a record
abbrev pub record_word : List ℕ → ℕ → ℕ → ℕ → ℕ → ℕ
record_word f at width n j = word_at f (word_at f at + width * (n - 1) + j)

-- where the head says that the kinds begin, and the sections after them: each a word later in versions 2 and 3
abbrev pub after : List ℕ → ℕ → ℕ
after f at = at + more (word_at f 0)

-- as many of each as the head counts
pub record CountedByWords (f : List ℕ) : Type 0 where
  pub users : length (contents_of f).users ≡ word_at f 1
  pub roles : length (contents_of f).roles ≡ word_at f 2
  pub juniors : length (contents_of f).juniors ≡ word_at f 2
  pub kinds : length (contents_of f).kinds ≡ word_at f 3
  pub channels : length (contents_of f).channels ≡ word_at f 4
  pub sessions : length (contents_of f).sessions ≡ word_at f 5
  pub nodes : length (contents_of f).nodes ≡ word_at f 6

pub record ByWords (f : List ℕ) : Type 0 where
  -- user, 1 word: mask of the roles assigned
  pub user : (n : ℕ) → InCount (word_at f 1) n → item 0 (contents_of f).users n ≡ record_word f 7 1 n 0
  -- role, 4 words: mask of kinds it may send on (low word, high word), then of kinds it may receive on
  pub role : (n : ℕ) → InCount (word_at f 2) n → item no_role (contents_of f).roles n
      ≡ record { sends = record_word f 8 4 n 0 + 65536 * record_word f 8 4 n 1; receives = record_word f 8 4 n 2 + 65536 * record_word f 8 4 n 3 }
  -- versions 2 and 3 have one word per role more: a mask of junior roles
  pub juniors : (n : ℕ) → InCount (word_at f 2) n → WithJuniors (word_at f 0) → item 0 (contents_of f).juniors n ≡ record_word f 9 1 n 0
  -- version 1 still reads, as if all masks were 0
  pub no_juniors : (n : ℕ) → InCount (word_at f 2) n → (WithJuniors (word_at f 0) → ⊥) → item 0 (contents_of f).juniors n ≡ 0
  -- kind, 1 word: what its channels carry
  pub kind : (n : ℕ) → InCount (word_at f 3) n → item 0 (contents_of f).kinds n ≡ record_word f (after f 9) 1 n 0
  -- channel, 2 words: owner, kind
  pub channel : (n : ℕ) → InCount (word_at f 4) n → item no_channel (contents_of f).channels n ≡ record { owner = record_word f (after f 10) 2 n 0; kind = record { 0 = record_word f (after f 10) 2 n 1 } }
  -- session, 3 words: user, mask of roles active at the start, root node
  pub session : (n : ℕ) → InCount (word_at f 5) n → item no_session (contents_of f).sessions n
      ≡ record { user = record_word f (after f 11) 3 n 0; mask = record_word f (after f 11) 3 n 1; root = record_word f (after f 11) 3 n 2 }
  -- node, 3 words: tag, f1, f2
  pub node : (n : ℕ) → InCount (word_at f 6) n → word_at f 0 ≢ 3 → item no_node (contents_of f).nodes n ≡ record { tag = record_word f (after f 12) 3 n 0; f1 = record_word f (after f 12) 3 n 1; f2 = record_word f (after f 12) 3 n 2 }
  -- version 3: all tags, then all f1, then all f2
  pub column : (n : ℕ) → InCount (word_at f 6) n → word_at f 0 ≡ 3 → item no_node (contents_of f).nodes n
      ≡ record { tag = word_at f (word_at f 13 + (n - 1)); f1 = word_at f (word_at f 13 + word_at f 6 + (n - 1)); f2 = word_at f (word_at f 13 + 2 * word_at f 6 + (n - 1)) }
