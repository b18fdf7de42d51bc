-- What the rules ask of a file, by its words; and what a role may do, a bit for each kind of its own record, or of its juniors'.
use Rattle.std.specs.Prelude.{ℕ, ◌+◌, ◌*◌, ◌-◌, ◌/◌, ◌%◌, ◌^◌, ◌≤◌, ◌≡◌, ◌↔◌, true, cond, List}
use Rattle.format.specs.Header.{has_juniors}
use Rattle.format.specs.Words.{word_at}
use Rattle.format.specs.Contents.{contents_of}
use Rattle.rules.specs.declared.Way.{Way}
use Rattle.rules.specs.declared.Way.TheVariants.{Sends, Receives}
use Rattle.rules.specs.Schema.{Schema, schema_of, permits}
use Rattle.reading_exact.specs.File.{InCount}
use Rattle.reading_exact.specs.ByWords.{record_word, after}

-- the tables: how many of each there are, and the records in count
pub record TablesByWords (f : List ℕ) (D : Schema) : Type 0 where
  pub users : D.users ≡ word_at f 1
  pub roles : D.roles ≡ word_at f 2
  pub kinds : D.kinds ≡ word_at f 3
  pub channels : D.channels ≡ word_at f 4
  pub assigned : (u : ℕ) → InCount (word_at f 1) u → D.assigned u ≡ record_word f 7 1 u 0
  pub carries : (k : ℕ) → InCount (word_at f 3) k → D.carries k ≡ record_word f (after f 9) 1 k 0
  pub owner : (c : ℕ) → InCount (word_at f 4) c → D.owner c ≡ record_word f (after f 10) 2 c 0
  pub kind : (c : ℕ) → InCount (word_at f 4) c → D.kind c ≡ record_word f (after f 10) 2 c 1

-- bit i of a word, from 0
abbrev pub Bit : ℕ → ℕ → Type 0
Bit w i = w / 2 ^ i % 2 ≡ 1

-- role r of the file may send, or receive, on kind k
abbrev pub May : List ℕ → Way → ℕ → ℕ → Type 0
May f w r k = permits (schema_of (contents_of f)) w (record { 0 = r }) (record { 0 = k }) ≡ true

-- the kinds in role r's own record, and its juniors: versions 2 and 3 have one word per role more, version 1 reads as if it were 0
abbrev pub own_mask : List ℕ → Way → ℕ → ℕ
own_mask f Sends r = record_word f 8 4 r 0 + 65536 * record_word f 8 4 r 1
own_mask f Receives r = record_word f 8 4 r 2 + 65536 * record_word f 8 4 r 3

abbrev pub junior_mask : List ℕ → ℕ → ℕ
junior_mask f r = cond (has_juniors (word_at f 0)) (record_word f 9 1 r 0) 0

-- of a role without juniors: words 0 and 1 of its record are of the kinds it may send on, 1 to 16 and 17 to 32; words 2 and 3 of those it may receive on
pub record GrantedByWords (f : List ℕ) (r : ℕ) : Type 0 where
  pub sends_low : (k : ℕ) → 1 ≤ k → k ≤ 16 → May f Sends r k ↔ Bit (record_word f 8 4 r 0) (k - 1)
  pub sends_high : (k : ℕ) → 17 ≤ k → k ≤ 32 → May f Sends r k ↔ Bit (record_word f 8 4 r 1) (k - 17)
  pub receives_low : (k : ℕ) → 1 ≤ k → k ≤ 16 → May f Receives r k ↔ Bit (record_word f 8 4 r 2) (k - 1)
  pub receives_high : (k : ℕ) → 17 ≤ k → k ≤ 32 → May f Receives r k ↔ Bit (record_word f 8 4 r 3) (k - 17)
