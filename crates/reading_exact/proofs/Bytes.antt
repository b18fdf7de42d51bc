-- Words as bytes, low byte first: the bytes of words are read back as those words, and every file of whole words is the bytes of some.
use Prim.Native.Nat.{ℕ, zero, suc, ◌+◌, ◌*◌, ◌/◌, ◌%◌, ◌<◌}
use mathlib.Core.Path.{◌≡◌, refl}
use mathlib.Core.List.{List, [], ◌∷◌}
use native.Mathlib.Omega.{arith}
use lib.ListN.{length, get_or}
use Rattle.format.specs.Words.{word_at, bytes_of}
use Rattle.reading_exact.specs.Lists.{All}

abbrev pub Byte : ℕ → Type 0
Byte b = b < 256

abbrev pub Word : ℕ → Type 0
Word w = w < 65536

pub length_bytes_of : (ws : List ℕ) → length (bytes_of ws) ≡ 2 * length ws
unfolding bytes_of
length_bytes_of [] = refl
length_bytes_of (w ∷ ws) = omega (arith, length_bytes_of ws)

pub word_back : (ws : List ℕ) (i : ℕ) → word_at (bytes_of ws) i ≡ get_or ws i 0
unfolding bytes_of
word_back [] i = refl
word_back (w ∷ ws) zero = omega arith
word_back (w ∷ ws) (suc i) =
    let high : 2 * suc i + 1 ≡ suc (suc (2 * i + 1)) = omega arith in
    let low : 2 * suc i ≡ suc (suc (2 * i)) = omega arith in
    rw (high, low) (word_back ws i)

-- two bytes are one word, so that bytes of an even number are the bytes of words
pub paired : (f : List ℕ) → length f % 2 ≡ 0 → All Byte f → (ws : List ℕ) × (bytes_of ws ≡ f)
unfolding bytes_of
paired [] even h = ([], refl)
paired (a ∷ []) even h = let no : ⊥ = omega arith in absurd no
paired (a ∷ b ∷ f) even h =
    let more = paired f (omega arith) h.1.1 in
    let low : (a + 256 * b) % 256 ≡ a = omega arith in
    let high : (a + 256 * b) / 256 ≡ b = omega arith in
    ((a + 256 * b) ∷ more.0, rw (low, high, more.1))

pub small_words : (f : List ℕ) → All Byte f → (i : ℕ) → Word (word_at f i)
small_words f h i = omega (arith, small f h (2 * i), small f h (2 * i + 1))
  where
    small : (f : List ℕ) → All Byte f → (i : ℕ) → Byte (get_or f i 0)
    small [] h i = omega arith
    small (b ∷ f) h zero = h.0
    small (b ∷ f) h (suc i) = small f h.1 i

pub small_bytes : (ws : List ℕ) → All Word ws → All Byte (bytes_of ws)
unfolding bytes_of
small_bytes [] h = tt
small_bytes (w ∷ ws) h = (omega arith, (omega arith, small_bytes ws h.1))
