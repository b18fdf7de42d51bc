-- The bytes of a line, put one text after another.
use Prim.Native.Nat.{ℕ, zero, suc, ◌+◌, ◌-◌, ◌/◌, ◌%◌, ◌^◌, ◌≤◌, ◌<◌}
use mathlib.Core.Path.{◌≡◌, refl, sym, ap, ◌∙◌}
use mathlib.Core.Bool.{Bool, true, false, cond}
use mathlib.Core.List.{List, [], ◌∷◌, ◌++◌, append_assoc}
use native.Mathlib.Omega.{arith}
use native.Mathlib.Nat.{pow-le-pow_right, zero-lt-suc}
use native.Mathlib.Numerals.{add-one}
use lib.Dec.{ltb}
use lib.ListN.{length, take, drop, length-append}
use lib.Seq.{sets, sets-eq, length-sets, drop-drop, take_at}
use borrow.Rule.Slice.PartMut.{put_mid}
use borrow.Author.Tests.{lt-ltb, le-ltb}
use Rattle.io.specs.Counts.{IsPrefixLen}
use Rattle.io.specs.Digits.{last_digits, hex_digit_ascii, IsDigitCount}
use Rattle.format.proofs.PutRuns.{sets_join}
use Rattle.streams.specs.Line.{places, decimal, refused_line}

-- a text copied over the part from where it goes, as long as it is
pub text_put : (t l : List ℕ) (at k : ℕ) → at + length t ≤ length l → k ≡ length t → put_mid at k l t ≡ sets l at t
text_put t l at k fits e =
    ap (λ (r : List ℕ). take at l ++ (t ++ r)) (drop-drop k at l ∙ ap (λ (n : ℕ). drop (at + n) l) e) ∙ sym (append_assoc (take at l) t (drop (at + length t) l))
    ∙ sym (sets-eq t l at fits)

-- the fewest digits that hold a word
pub fewest_places : (n k : ℕ) → n < 65536 → IsDigitCount 10 1 n k → k ≡ places n
fewest_places n zero h f = let no : ⊥ = omega (arith, f.0) in absurd no
fewest_places n (suc zero) h f = rw (lt-ltb n 10 f.1)
fewest_places n (suc (suc zero)) h f = rw (le-ltb n 10 (f.2 (omega arith)), lt-ltb n 100 f.1)
fewest_places n (suc (suc (suc zero))) h f =
    let low : 100 ≤ n = f.2 (omega arith) in
    rw (le-ltb n 10 (omega (arith, low)), le-ltb n 100 low, lt-ltb n 1000 f.1)
fewest_places n (suc (suc (suc (suc zero)))) h f =
    let low : 1000 ≤ n = f.2 (omega arith) in
    rw (le-ltb n 10 (omega (arith, low)), le-ltb n 100 (omega (arith, low)), le-ltb n 1000 low, lt-ltb n 10000 f.1)
fewest_places n (suc (suc (suc (suc (suc zero))))) h f =
    let low : 10000 ≤ n = f.2 (omega arith) in
    rw (le-ltb n 10 (omega (arith, low)), le-ltb n 100 (omega (arith, low)), le-ltb n 1000 (omega (arith, low)), le-ltb n 10000 low)
fewest_places n (suc (suc (suc (suc (suc (suc k)))))) h f =
    let m : ℕ = suc (suc (suc (suc (suc (suc k))))) - 1 in
    let low : 10 ^ m ≤ n = f.2 (omega arith) in
    let up : 5 ≤ m = omega arith in
    let five : 10 ^ 5 ≤ 10 ^ m = pow-le-pow_right (zero-lt-suc 9) up in
    let no : ⊥ = omega (arith, low, five, h) in
    absurd no

pub digits_length : (k n : ℕ) → length (last_digits 10 k n) ≡ k
digits_length zero n = refl
digits_length (suc k) n = length-append (last_digits 10 k (n / 10)) (hex_digit_ascii (n % 10) ∷ []) ∙ ap (λ (m : ℕ). m + 1) (digits_length k (n / 10)) ∙ add-one k

places_few : (n : ℕ) → places n ≤ 5
places_few n = go (ltb n 10) (ltb n 100) (ltb n 1000) (ltb n 10000)
  where
    go : (a b c d : Bool) → cond a 1 (cond b 2 (cond c 3 (cond d 4 5))) ≤ 5
    go true b c d = omega arith
    go false true c d = omega arith
    go false false true d = omega arith
    go false false false true = omega arith
    go false false false false = omega arith

pub decimal_short : (n : ℕ) → length (decimal n) ≤ 5
unfolding decimal
decimal_short n = omega (arith, digits_length (places n) n, places_few n)

pub fewest_few : (n k : ℕ) → n < 65536 → IsDigitCount 10 1 n k → k ≤ 5
fewest_few n k h f = omega (arith, fewest_places n k h f, places_few n)

pub decimal_by : (n k : ℕ) → n < 65536 → IsDigitCount 10 1 n k → last_digits 10 k n ≡ decimal n
unfolding decimal
decimal_by n k h f = ap (λ (m : ℕ). last_digits 10 m n) (fewest_places n k h f)

-- the text before the number
abbrev pub start : List ℕ
start = 114 ∷ 101 ∷ 102 ∷ 117 ∷ 115 ∷ 101 ∷ 100 ∷ 32 ∷ []

line_short : (number place : ℕ) → length (refused_line number place) ≤ 20
unfolding refused_line
line_short number place =
    let to : List ℕ = start ++ decimal number ++ (32 ∷ []) in
    omega (
      arith,
      length-append start (decimal number),
      length-append (start ++ decimal number) (32 ∷ []),
      length-append to (decimal place),
      length-append (to ++ decimal place) (10 ∷ []),
      decimal_short number,
      decimal_short place,
    )

-- a line that holds a text from its start on, as long as it was, and the offset behind the text
abbrev Holds : List ℕ → List ℕ → ℕ → List ℕ → Type 0
Holds l now at text = (now ≡ sets l 0 text) × (at ≡ length text)

holds_more : (l now now' : List ℕ) (at at' : ℕ) (text more : List ℕ) → Holds l now at text → now' ≡ sets now at more → at' ≡ at + length more → Holds l now' at' (text ++ more)
holds_more l now now' at at' text more (e, s) e' s' =
    let from : at ≡ 0 + length text = omega (arith, s) in (
      e' ∙ rw (e, from) (sets_join l 0 text more),
      s' ∙ omega (arith, s, length-append text more),
    )

holds_line : (l now : List ℕ) (at : ℕ) (text : List ℕ) → length text ≤ length l → Holds l now at text → IsPrefixLen at now × (take at now ≡ text)
holds_line l now at text fits (e, s) =
    let same : take at now ≡ text = rw (e, s, sets-eq text l 0 (omega (arith, fits))) (take_at text (drop (0 + length text) l) (length text) refl) in
    ((omega (arith, s, fits, ap length e, length-sets l 0 text), s ∙ ap length (sym same)), same)

-- the five texts of the line, one after the other
pub line_held : (number place : ℕ) (l l1 l2 l3 l4 l5 : List ℕ) (a1 a2 a3 a4 a5 : ℕ) → 20 ≤ length l
    → l1 ≡ sets l 0 start → a1 ≡ 8
    → l2 ≡ sets l1 a1 (decimal number) → a2 ≡ a1 + length (decimal number)
    → l3 ≡ sets l2 a2 (32 ∷ []) → a3 ≡ a2 + 1
    → l4 ≡ sets l3 a3 (decimal place) → a4 ≡ a3 + length (decimal place)
    → l5 ≡ sets l4 a4 (10 ∷ []) → a5 ≡ a4 + 1
    → IsPrefixLen a5 l5 × (take a5 l5 ≡ refused_line number place)
unfolding refused_line
line_held number place l l1 l2 l3 l4 l5 a1 a2 a3 a4 a5 room e1 s1 e2 s2 e3 s3 e4 s4 e5 s5 =
    let t2 : List ℕ = start ++ decimal number in
    let t3 : List ℕ = t2 ++ (32 ∷ []) in
    let t4 : List ℕ = t3 ++ decimal place in
    let h2 : Holds l l2 a2 t2 = holds_more l l1 l2 a1 a2 start (decimal number) (e1, s1) e2 s2 in
    let h3 : Holds l l3 a3 t3 = holds_more l l2 l3 a2 a3 t2 (32 ∷ []) h2 e3 s3 in
    let h4 : Holds l l4 a4 t4 = holds_more l l3 l4 a3 a4 t3 (decimal place) h3 e4 s4 in
    let h5 : Holds l l5 a5 (refused_line number place) = holds_more l l4 l5 a4 a5 t4 (10 ∷ []) h4 e5 s5 in
    let short : length (refused_line number place) ≤ 20 = line_short number place in
    holds_line l l5 a5 (refused_line number place) (omega (arith, short, room)) h5

-- the line of one refusal, byte by byte
case : refused_line 13 257 ≡ 114 ∷ 101 ∷ 102 ∷ 117 ∷ 115 ∷ 101 ∷ 100 ∷ 32 ∷ 49 ∷ 51 ∷ 32 ∷ 50 ∷ 53 ∷ 55 ∷ 10 ∷ []
unfolding refused_line decimal
case = refl
