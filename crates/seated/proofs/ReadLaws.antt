-- What is read of a state with seats, word by word.
use Prim.Native.Nat.{ℕ, zero, suc, ◌+◌, ◌*◌, ◌-◌, ◌/◌, ◌%◌, ◌≤◌, ◌<◌}
use mathlib.Core.Path.{◌≡◌, refl, sym, ap, ap₂, ◌∙◌}
use mathlib.Core.Bool.{Bool, true, false}
use mathlib.Core.List.{List, [], ◌∷◌, ◌++◌}
use native.Mathlib.Omega.{arith}
use lib.Dec.{ltb}
use lib.ListN.{length, get_or, set, take, drop, replicate, length-append, length-drop, length-replicate, get_or-append}
use lib.Seq.{take-suc-set, take_all, ext_get_or, get_or-append-add, get_or-take, get_or-drop, length-take-le}
use borrow.Author.Tests.{ltb-true, ltb-false, lt-ltb, le-ltb}
use Rattle.masks.specs.Mask.{held}
use Rattle.format.specs.Contents.{tabled}
use Rattle.format.proofs.ContentsLaws.{tabled_length, tabled_same, in_count_iff}
use Rattle.steps.specs.Records.{threads_in}
use Rattle.steps.specs.Beside.{thread_count}
use Rattle.steps.proofs.TableLaws.{threads_length}
use Rattle.seats.specs.Seats.{Limited, seats_taken}
use Rattle.seating.specs.SeatTables.{gathered, line_row, LineRows}
use Rattle.seating.specs.SeatsRead.{line_words, lines_from}
use Rattle.seating.proofs.SessionLaws.{gathered_held}
use Rattle.seated.specs.SeatedTables.{lines_in, seated_in, Seated}
use Rattle.seated.specs.ReadWords.{line_word}
use Rattle.seated.proofs.WaitLaws.{gathered_front}

-- a table filled word by word
tabled_snoc : (g : ℕ → ℕ) (i k : ℕ) → tabled g i k ++ (g (i + k) ∷ []) ≡ tabled g i (suc k)
unfolding tabled
tabled_snoc g i zero = let e : i + 0 ≡ i = omega arith in ap (λ (x : ℕ). g x ∷ []) e
tabled_snoc g i (suc k) =
    let e : i + suc k ≡ suc i + k = omega arith in
    ap (λ (x : ℕ). g i ∷ tabled g (suc i) k ++ (g x ∷ [])) e ∙ ap (λ (l : List ℕ). g i ∷ l) (tabled_snoc g (suc i) k)

pub filled_none : (g : ℕ → ℕ) (i : ℕ) (l : List ℕ) → take 0 l ≡ tabled g i 0
unfolding tabled
filled_none g i l = refl

pub filled_more : (g : ℕ → ℕ) (i : ℕ) (l : List ℕ) (k v : ℕ) → k < length l → v ≡ g (i + k) → take k l ≡ tabled g i k → take (k + 1) (set l k v) ≡ tabled g i (k + 1)
filled_more g i l k v lt ev have =
    let one : suc k ≡ k + 1 = omega arith in
    ap (λ (x : ℕ). take x (set l k v)) (sym one) ∙ take-suc-set l k v lt ∙ ap₂ (λ (x : List ℕ) (y : ℕ). x ++ (y ∷ [])) have ev ∙ tabled_snoc g i k ∙ ap (tabled g i) one

pub filled_all : (g : ℕ → ℕ) (i : ℕ) (l : List ℕ) (k n : ℕ) → length l ≡ n → k ≡ n → take k l ≡ tabled g i k → l ≡ tabled g i n
filled_all g i l k n e all have = sym (take_all k l (omega (arith, e, all))) ∙ have ∙ ap (tabled g i) all

tabled_get : (g : ℕ → ℕ) (i k j : ℕ) → j < k → get_or (tabled g i k) j 0 ≡ g (i + j)
unfolding tabled
tabled_get g i zero j l = let no : ⊥ = omega (arith, l) in absurd no
tabled_get g i (suc k) zero l = let e : i ≡ i + 0 = omega arith in ap g e
tabled_get g i (suc k) (suc j) l = let e : suc i + j ≡ i + suc j = omega arith in tabled_get g (suc i) k j (omega (arith, l)) ∙ ap g e

tabled_add : (g : ℕ → ℕ) (i a b : ℕ) → tabled g i (a + b) ≡ tabled g i a ++ tabled g (i + a) b
unfolding tabled
tabled_add g i zero b = let e : 0 + b ≡ b = omega arith in let d : i ≡ i + 0 = omega arith in ap (tabled g i) e ∙ ap (λ (x : ℕ). tabled g x b) d
tabled_add g i (suc a) b =
    let e : suc a + b ≡ suc (a + b) = omega arith in
    let d : suc i + a ≡ i + suc a = omega arith in
    ap (tabled g i) e ∙ ap (λ (l : List ℕ). g i ∷ l) (tabled_add g (suc i) a b ∙ ap (λ (x : ℕ). tabled g (suc i) a ++ tabled g x b) d)

-- a word of a row
pub word_there : (w : List ℕ) (row at n v : ℕ) → n ≡ get_or w (33 * row) 0 → at < n → v ≡ get_or w (33 * row + 1 + at) 0 → v ≡ line_word w row at
word_there w row at n v en lt ev = ev ∙ sym (rw (lt-ltb at (get_or w (33 * row) 0) (omega (arith, lt, en))))

pub word_past : (w : List ℕ) (row at n : ℕ) → n ≡ get_or w (33 * row) 0 → n ≤ at → 0 ≡ line_word w row at
word_past w row at n en le = sym (rw (le-ltb at (get_or w (33 * row) 0) (omega (arith, le, en))))

module _ (w : List ℕ) (R : LineRows w) where
  row_length : (row : ℕ) → row < 16 → length (line_row w row) ≡ get_or w (33 * row) 0
  row_length row l = length-take-le (get_or w (33 * row) 0) (drop (33 * row + 1) w) (omega (arith, length-drop (33 * row + 1) w, R.words, R.few row l, l))

  -- a line in 32 words
  row_words_lem : (row : ℕ) → row < 16 → tabled (λ x. line_word w (x / 32) (x % 32)) (32 * row) 32 ≡ line_words (line_row w row)
  row_words_lem row l =
      ext_get_or 0 (tabled (λ x. line_word w (x / 32) (x % 32)) (32 * row) 32) (line_words (line_row w row)) (tabled_length (λ x. line_word w (x / 32) (x % 32)) (32 * row) 32 ∙ sym size) (λ j lt.
      let m : j < 32 = omega (arith, lt, tabled_length (λ x. line_word w (x / 32) (x % 32)) (32 * row) 32) in
      let q : (32 * row + j) / 32 ≡ row = omega (arith, m) in
      let r : (32 * row + j) % 32 ≡ j = omega (arith, m) in
      tabled_get (λ x. line_word w (x / 32) (x % 32)) (32 * row) 32 j m ∙ ap₂ (line_word w) q r ∙ each j m (ltb j (get_or w (33 * row) 0)) refl)
    where
      n : ℕ
      n = get_or w (33 * row) 0

      size : length (line_words (line_row w row)) ≡ 32
      size = omega (arith, length-append (line_row w row) (replicate (32 - length (line_row w row)) 0), length-replicate {A = ℕ} (32 - length (line_row w row)) 0, row_length row l, R.few row l)

      zeros : (m i : ℕ) → ◌≡◌ {A = ℕ} (get_or (replicate m 0) i 0) 0
      zeros zero i = refl
      zeros (suc m) zero = refl
      zeros (suc m) (suc i) = zeros m i

      each : (j : ℕ) → j < 32 → (b : Bool) → ltb j (get_or w (33 * row) 0) ≡ b → line_word w row j ≡ get_or (line_words (line_row w row)) j 0
      each j m true e =
          let lt : j < get_or w (33 * row) 0 = ltb-true j (get_or w (33 * row) 0) e in
          rw e (sym (get_or-append (line_row w row) (replicate (32 - length (line_row w row)) 0) 0 j (omega (arith, lt, row_length row l))
          ∙ get_or-take (get_or w (33 * row) 0) (drop (33 * row + 1) w) j 0 lt ∙ get_or-drop (33 * row + 1) w j 0))
      each j m false e =
          let le : get_or w (33 * row) 0 ≤ j = ltb-false j (get_or w (33 * row) 0) e in
          let d : length (line_row w row) + (j - length (line_row w row)) ≡ j = omega (arith, le, row_length row l) in
          rw e (sym (ap (λ (x : ℕ). get_or (line_words (line_row w row)) x 0) (sym d) ∙ get_or-append-add (line_row w row) (replicate (32 - length (line_row w row)) 0) (j - length (line_row w row)) 0
          ∙ zeros (32 - length (line_row w row)) (j - length (line_row w row))))

  lines_words : (n r : ℕ) → 1 ≤ r → r + n ≤ 17 → tabled (λ x. line_word w (x / 32) (x % 32)) (32 * (r - 1)) (32 * n) ≡ lines_from (lines_in w) r n
  unfolding lines_from tabled
  lines_words zero r one most = refl
  lines_words (suc n) r one most =
      let e : 32 * suc n ≡ 32 + 32 * n = omega arith in
      let d : 32 * (r - 1) + 32 ≡ 32 * (suc r - 1) = omega (arith, one) in
      let here : lines_in w r ≡ line_row w (r - 1) = rw ((in_count_iff 16 r).1 (one, omega (arith, most))) in
      ap (tabled (λ x. line_word w (x / 32) (x % 32)) (32 * (r - 1))) e ∙ tabled_add (λ x. line_word w (x / 32) (x % 32)) (32 * (r - 1)) 32 (32 * n)
      ∙ ap₂ (λ (a b : List ℕ). a ++ b) (row_words_lem (r - 1) (omega (arith, one, most)) ∙ ap line_words (sym here))
      (ap (λ (x : ℕ). tabled (λ y. line_word w (y / 32) (y % 32)) x (32 * n)) d ∙ lines_words n (suc r) (omega arith) (omega (arith, most)))

  pub line_read : tabled (λ x. line_word w (x / 32) (x % 32)) 0 512 ≡ lines_from (lines_in w) 1 16
  line_read = lines_words 16 1 (omega arith) (omega arith)

  pub waiting_read : tabled (λ role. get_or w (33 * (role - 1)) 0) 1 16 ≡ tabled (λ r. length (lines_in w r)) 1 16
  waiting_read =
      tabled_same (λ role. get_or w (33 * (role - 1)) 0) (λ r. length (lines_in w r)) 1 16 (λ j one lt.
      let here : lines_in w j ≡ line_row w (j - 1) = rw ((in_count_iff 16 j).1 (one, omega (arith, lt))) in
      sym (ap length here ∙ row_length (j - 1) (omega (arith, one, lt))))

-- the seats taken
pub taken_read : (L : Limited) (w b os ls : List ℕ) → L.sessions ≤ 32 → Seated L w b os ls
    → tabled (λ role. held 32 (gathered (threads_in w 0 (thread_count b)) os role 0)) 1 16 ≡ tabled (seats_taken L (seated_in w b os ls)) 1 16
taken_read L w b os ls few K =
    ap (λ (g : ℕ → ℕ). tabled g 1 16) (λ j. λ r. each r j)
  where
    each : (r : ℕ) → held 32 (gathered (threads_in w 0 (thread_count b)) os r 0) ≡ seats_taken L (seated_in w b os ls) r
    each r =
        ap (held 32) (sym (gathered_front (threads_in w 0 (thread_count b)) os r 0) ∙ ap (λ (x : ℕ). gathered (threads_in w 0 (thread_count b)) (take x os) r 0) (threads_length w 0 (thread_count b)))
        ∙ gathered_held (threads_in w 0 (thread_count b)) (take (thread_count b) os) L.sessions r few K.ordered.counted
