-- Inputs longer than any clinic file: refused 1 to 5, by their head and by whether their length is odd; so a start of them is answered alike.
use Prim.Native.Nat.{ℕ, ◌+◌, ◌*◌, ◌%◌, ◌≤◌, ◌<◌}
use mathlib.Core.Path.{◌≡◌, refl, sym, ap, ap₂, ◌∙◌}
use mathlib.Core.List.{List, [], ◌∷◌, ◌++◌}
use mathlib.Core.Bool.{Bool, true, false, cond}
use native.Mathlib.Omega.{arith}
use lib.ListN.{length, length-append, take}
use lib.Seq.{length-take-le, take_all, take-take, take-append-le, get_or-take}
use lib.Dec.{eqb, ltb, leb}
use borrow.Author.Tests.{ltb-true, ltb-false, leb-true, leb-false, lt-ltb, le-ltb, ne_eqb}
use Rattle.format.specs.Words.{word_at}
use Rattle.format.specs.Answers.{refused}
use Rattle.format.specs.Header.{is_version, more, six_at, offsets_at, head_in, head_at, head_bytes, counts_fit, offsets_fit, length_for, largest, room_for, from1, from2, from3, from4, from5, head_of, Laid}
use Rattle.format.specs.declared.Head.{Head}
use Rattle.std.specs.Prelude.{Result, Err}
use Rattle.format.proofs.HeadLaws.{laid_iff, more_few}
use Rattle.reading.specs.Reading.{reading}
use Rattle.reading.specs.Long.{enough}
use Rattle.reading.proofs.ReadingLaws.{refused_by_head}

-- the counts give no longer file
pub most_bytes : (f : List ℕ) (h : Head) → Laid f h → length f ≤ largest
most_bytes [] h l = omega arith
most_bytes (b ∷ bs) h l = omega arith

-- the refusal of a longer input: by its head, 2 to 5, and before that by its length's remainder
abbrev head_number : Head → ℕ
head_number h = cond (is_version h.version) (cond (counts_fit h.count) (cond (offsets_fit h.version h.count h.at) 5 4) 3) 2

abbrev long_number : ℕ → Head → ℕ
long_number odd h = cond (eqb odd 1) 1 (head_number h)

-- a test that refuses, or goes on to a refusal
refuses : (b : Bool) (a : Result Head ℕ) (n k : ℕ) → (b ≡ true → a ≡ Err n) → cond b a (Err k) ≡ Err (cond b n k)
refuses true a n k go = go refl
refuses false a n k go = refl

refuses_first : (b : Bool) (a : Result Head ℕ) (n k : ℕ) → a ≡ Err n → cond b (Err k) a ≡ Err (cond b k n)
refuses_first true a n k e = refl
refuses_first false a n k e = e

long_words : (x : ℕ) (xs : List ℕ) → largest < length (x ∷ xs) → head_of (x ∷ xs) ≡ Err (long_number (length (x ∷ xs) % 2) (head_at (x ∷ xs)))
unfolding head_of from1 from2 from3 from4 from5
long_words x xs long =
    rw (le-ltb (length f) (head_bytes (word_at f 0)) (omega (arith, more_few (word_at f 0))))
    (refuses_first (eqb (length f % 2) 1) (from2 f) (head_number (head_at f)) 1
    (refuses (is_version (word_at f 0)) (from3 f) (cond (counts_fit (six_at f 1)) (cond back 5 4) 3) 2 (λ version.
    refuses (counts_fit (six_at f 1)) (from4 f) (cond back 5 4) 3 (λ counts.
    refuses back (from5 f) 5 4 (λ offsets. longer counts offsets)))))
  where
    f : List ℕ
    f = x ∷ xs

    back : Bool
    back = offsets_fit (word_at f 0) (six_at f 1) (offsets_at f (word_at f 0))

    longer : counts_fit (six_at f 1) ≡ true → offsets_fit (word_at f 0) (six_at f 1) (offsets_at f (word_at f 0)) ≡ true → from5 f ≡ Err 5
    longer counts offsets =
        rw (ne_eqb (length f) (length_for (head_at f).at.nodes (word_at f 6)) (λ same.
        absurd (omega (arith, long, most_bytes f (head_at f) ((laid_iff f (head_at f)).0 (counts, offsets, same))))))

pub long_head : (f : List ℕ) → largest < length f → head_of f ≡ Err (long_number (length f % 2) (head_at f))
long_head [] long = absurd (omega (arith, long))
long_head (x ∷ xs) long = long_words x xs long

-- the head stands in the first 28 bytes
words_start : (f : List ℕ) → head_in (take 28 f) ≡ head_in f
words_start f = λ j. record {
  version = word 0 (omega arith) j;
  count = record {
    users = word 1 (omega arith) j;
    roles = word 2 (omega arith) j;
    kinds = word 3 (omega arith) j;
    channels = word 4 (omega arith) j;
    sessions = word 5 (omega arith) j;
    nodes = word 6 (omega arith) j;
  };
  at = offsets (word 0 (omega arith) j) j;
}
  where
    word : (i : ℕ) → i < 14 → word_at (take 28 f) i ≡ word_at f i
    word i l = rw (get_or-take 28 f (2 * i) 0 (omega arith), get_or-take 28 f (2 * i + 1) 0 (omega arith))

    offsets : (v : ℕ) → offsets_at (take 28 f) v ≡ offsets_at f v
    offsets v =
        let few : more v ≤ 1 = more_few v in
        λ j. record {
          users = word 7 (omega arith) j;
          roles = word 8 (omega arith) j;
          juniors = word 9 (omega arith) j;
          kinds = word (9 + more v) (omega (arith, few)) j;
          channels = word (10 + more v) (omega (arith, few)) j;
          sessions = word (11 + more v) (omega (arith, few)) j;
          nodes = word (12 + more v) (omega (arith, few)) j;
        }

head_start : (f : List ℕ) → head_at (take 28 f) ≡ head_at f
head_start [] = refl
head_start (x ∷ xs) = words_start (x ∷ xs)

-- What is kept of an input stands for it: all of it, or of one longer than any file the head, and as many bytes as `enough` says.
pub record StandsFor (kept input : List ℕ) : Type 0 where
  pub size : length kept ≡ enough (length input)
  pub head : take 28 kept ≡ take 28 input
  pub all : length input ≤ largest + 2 → kept ≡ input

-- as many bytes of the input as `enough` says
pub start_stands : (f : List ℕ) → StandsFor (take (enough (length f)) f) f
start_stands f = record {
  size = length-take-le (enough (length f)) f (omega arith);
  head = start (ltb (length f) (largest + 2)) refl;
  all = λ short. take_all (enough (length f)) f (omega arith);
}
  where
    start : (b : Bool) → ltb (length f) (largest + 2) ≡ b → take 28 (take (enough (length f)) f) ≡ take 28 f
    start true e = let short = ltb-true (length f) (largest + 2) e in ap (take 28) (take_all (enough (length f)) f (omega arith))
    start false e = let long : largest + 2 ≤ length f = ltb-false (length f) (largest + 2) e in take-take 28 (enough (length f)) f (omega arith)

-- and the same of what is kept and the piece that comes behind it
pub stands_on : (kept input piece : List ℕ) → StandsFor kept input → StandsFor (take (enough (length (kept ++ piece))) (kept ++ piece)) (input ++ piece)
stands_on kept input piece s = go (leb (length input) (largest + 2)) refl
  where
    go : (b : Bool) → leb (length input) (largest + 2) ≡ b → StandsFor (take (enough (length (kept ++ piece))) (kept ++ piece)) (input ++ piece)
    go true e = rw (s.all (leb-true (length input) (largest + 2) e)) (start_stands (input ++ piece))
    go false e =
        let long : largest + 2 < length input = leb-false (length input) (largest + 2) e in
        let sum : length (kept ++ piece) ≡ length kept + length piece = length-append kept piece in
        let whole : length (input ++ piece) ≡ length input + length piece = length-append input piece in
        let cut : StandsFor (take (enough (length (kept ++ piece))) (kept ++ piece)) (kept ++ piece) = start_stands (kept ++ piece) in
        record {
          size = omega (arith, cut.size, s.size, sum, whole, long);
          head = cut.head ∙ take-append-le 28 kept piece (omega (arith, s.size, long)) ∙ s.head ∙ sym (take-append-le 28 input piece (omega (arith, long)));
          all = λ short. absurd (omega (arith, short, whole, long));
        }

-- it has the input's version, and as much output is wanted for it
pub stands_version : (kept input : List ℕ) → StandsFor kept input → word_at kept 0 ≡ word_at input 0
stands_version kept input s = ap (λ (h : Head). h.version) (sym (words_start kept) ∙ ap head_in s.head ∙ words_start input)

pub stands_room : (kept input : List ℕ) → StandsFor kept input → room_for kept ≡ room_for input
stands_room kept input s = go (leb (length input) (largest + 2)) refl
  where
    go : (b : Bool) → leb (length input) (largest + 2) ≡ b → room_for kept ≡ room_for input
    go true e = ap room_for (s.all (leb-true (length input) (largest + 2) e))
    go false e =
        let long : largest + 2 < length input = leb-false (length input) (largest + 2) e in
        rw (lt-ltb 1 (length kept) (omega (arith, s.size, long)), lt-ltb 1 (length input) (omega (arith, long)), stands_version kept input s)

-- It has the answer of the whole input, whoever judges, if the judge begins by the head.
module _ {A : Type 0} (refusal : ℕ → A) (judge : List ℕ → A) (by_head : (f : List ℕ) (n : ℕ) → head_of f ≡ Err n → judge f ≡ refusal n) where
  pub long_alike : (f g : List ℕ) → largest < length f → largest < length g → length f % 2 ≡ length g % 2 → take 28 f ≡ take 28 g → judge f ≡ judge g
  long_alike f g f-long g-long parity start =
      let heads : head_at f ≡ head_at g = sym (head_start f) ∙ ap head_at start ∙ head_start g in
      by_head f (long_number (length f % 2) (head_at f)) (long_head f f-long)
      ∙ ap₂ (λ odd h. refusal (long_number odd h)) parity heads
      ∙ sym (by_head g (long_number (length g % 2) (head_at g)) (long_head g g-long))

  pub stands_judged : (kept input : List ℕ) → StandsFor kept input → judge kept ≡ judge input
  stands_judged kept input s = go (leb (length input) (largest + 2)) refl
    where
      go : (b : Bool) → leb (length input) (largest + 2) ≡ b → judge kept ≡ judge input
      go true e = ap judge (s.all (leb-true (length input) (largest + 2) e))
      go false e =
          let long : largest + 2 < length input = leb-false (length input) (largest + 2) e in
          long_alike kept input (omega (arith, s.size, long)) (omega arith) (omega (arith, s.size, long)) s.head

pub stands_read : (kept input : List ℕ) → StandsFor kept input → reading kept ≡ reading input
stands_read = stands_judged (λ n. refused n 0) reading refused_by_head

-- so the first bytes of an input, as many as `enough` says, have its answer
pub enough_read : (f : List ℕ) → reading (take (enough (length f)) f) ≡ reading f
enough_read f = stands_read (take (enough (length f)) f) f (start_stands f)
