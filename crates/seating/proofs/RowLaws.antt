-- Lines in rows.
use Prim.Native.Nat.{ℕ, zero, suc, ◌+◌, ◌*◌, ◌-◌, ◌≤◌, ◌<◌}
use mathlib.Core.Path.{◌≡◌, refl, sym, ap, ◌∙◌, subst}
use mathlib.Core.Bool.{Bool, true, false, ◌||◌}
use mathlib.Core.List.{List, [], ◌∷◌, ◌++◌}
use native.Mathlib.Omega.{arith}
use native.Mathlib.Numerals.{add-one}
use lib.Dec.{eqb, ltb}
use lib.ListN.{length, get_or, set, take, drop, length-set, length-drop}
use lib.Seq.{length-paste, drop-paste, length-take-le, ext_get_or, get_or-take, get_or-drop, get_or-set_same, get_or-set_other, drop-set-lt, drop-set-add, take-suc-set, drop-cons}
use mathlib.Core.Logic.{◌≢◌, ◌⊎◌, inl, inr}
use borrow.Author.Tests.{eqb-true, eqb-false, ltb-true, ltb-false}
use Rattle.steps.proofs.TableLaws.{down, down_below, down_above}
use Rattle.std.specs.List.{list_any}
use Rattle.running.specs.Ways.{stands_in}
use Rattle.seats.specs.Seats.{is_next, in_line}
use Rattle.seating.specs.SeatTables.{line_row, LineRows, joined_row, left_row}

-- of the next n words the first, and the rest
pub take_at : (w : List ℕ) (n p : ℕ) → 1 ≤ n → p < length w → take n (drop p w) ≡ get_or w p 0 ∷ take (n - 1) (drop (p + 1) w)
take_at w zero p l m = absurd (omega (arith, l))
take_at w (suc n) p l m =
    let e : suc n - 1 ≡ n = omega arith in
    let f : p + 1 ≡ suc p = add-one p in
    ap (take (suc n)) (drop-cons w p 0 m) ∙ sym (rw (e, f))

pub next-none : (w : List ℕ) (row k : ℕ) → get_or w (33 * row) 0 ≡ 0 → true ≡ is_next (line_row w row) k
unfolding is_next
next-none w row k e = sym (ap (λ (n : ℕ). is_next (take n (drop (33 * row + 1) w)) k) e)

pub next_head : (w : List ℕ) (row k : ℕ) → (get_or w (33 * row) 0 ≡ 0 → ⊥) → 33 * row + 1 < length w → eqb (get_or w (33 * row + 1) 0) k ≡ is_next (line_row w row) k
unfolding is_next
next_head w row k z l =
    let n : ℕ = get_or w (33 * row) 0 in
    let m : 1 ≤ n = omega (arith, z) in
    sym (ap (λ (x : List ℕ). is_next x k) (take_at w n (33 * row + 1) m l))

-- a search for what equals a session
pub any_in_line : (k : ℕ) (l : List ℕ) → list_any (λ x. eqb x k) l ≡ in_line k l
unfolding stands_in
any_in_line k [] = refl
any_in_line k (x ∷ l) = ap (λ (b : Bool). eqb x k || b) (any_in_line k l)

-- equal words, equal rows
row_same : (w v : List ℕ) (p q n : ℕ) → p + n ≤ length w → q + n ≤ length v → ((j : ℕ) → j < n → get_or w (p + j) 0 ≡ get_or v (q + j) 0)
    → take n (drop p w) ≡ take n (drop q v)
row_same w v p q n a b f =
    let c : length (take n (drop p w)) ≡ n = length-take-le n (drop p w) (omega (arith, length-drop p w, a)) in
    let d : length (take n (drop q v)) ≡ n = length-take-le n (drop q v) (omega (arith, length-drop q v, b)) in
    ext_get_or 0 (take n (drop p w)) (take n (drop q v)) (c ∙ sym d) (λ i l.
    let m : i < n = omega (arith, l, c) in
    get_or-take n (drop p w) i 0 m ∙ get_or-drop p w i 0 ∙ f i m ∙ sym (get_or-take n (drop q v) i 0 m ∙ get_or-drop q v i 0))

-- a table in which another row changed
other_same : (w v : List ℕ) (row : ℕ) → LineRows w → length v ≡ 528 → row < 16 → ((j : ℕ) → j < 33 → get_or v (33 * row + j) 0 ≡ get_or w (33 * row + j) 0)
    → line_row v row ≡ line_row w row
other_same w v row R l m f =
    let z : 33 * row + 0 ≡ 33 * row = omega arith in
    let n : get_or v (33 * row) 0 ≡ get_or w (33 * row) 0 = sym (ap (λ (x : ℕ). get_or v x 0) z) ∙ f 0 (omega arith) ∙ ap (λ (x : ℕ). get_or w x 0) z in
    ap (λ (x : ℕ). take x (drop (33 * row + 1) v)) n
    ∙ row_same v w (33 * row + 1) (33 * row + 1) (get_or w (33 * row) 0) (omega (arith, l, R.few row m)) (omega (arith, R.words, R.few row m)) (λ j i.
    let e : 33 * row + 1 + j ≡ 33 * row + (j + 1) = omega arith in
    ap (λ (x : ℕ). get_or v x 0) e ∙ f (j + 1) (omega (arith, i, R.few row m)) ∙ sym (ap (λ (x : ℕ). get_or w x 0) e))

-- One more at the end of a row.
module _ (w : List ℕ) (row k : ℕ) (R : LineRows w) (at : row < 16) (room : get_or w (33 * row) 0 < 32) where
  abbrev n : ℕ
  n = get_or w (33 * row) 0

  joined_words : length (joined_row w row k) ≡ 528
  joined_words = length-set (set w (33 * row + 1 + n) k) (33 * row) (n + 1) ∙ length-set w (33 * row + 1 + n) k ∙ R.words

  joined_count : get_or (joined_row w row k) (33 * row) 0 ≡ n + 1
  joined_count = get_or-set_same (set w (33 * row + 1 + n) k) (33 * row) (n + 1) 0 (omega (arith, length-set w (33 * row + 1 + n) k, R.words))

  joined_else : (m : ℕ) → m ≢ 33 * row → m ≢ 33 * row + 1 + n → get_or (joined_row w row k) m 0 ≡ get_or w m 0
  joined_else m a b = get_or-set_other (set w (33 * row + 1 + n) k) (33 * row) m (n + 1) 0 a ∙ get_or-set_other w (33 * row + 1 + n) m k 0 b

  -- the line has the session at its end
  pub joined_line : line_row (joined_row w row k) row ≡ line_row w row ++ (k ∷ [])
  joined_line =
      let s : n + 1 ≡ suc n = omega arith in
      ap (λ (x : ℕ). take x (drop (33 * row + 1) (joined_row w row k))) (joined_count ∙ s)
      ∙ ap (take (suc n)) (drop-set-lt (33 * row + 1) (set w (33 * row + 1 + n) k) (33 * row) (n + 1) (omega arith) ∙ drop-set-add (33 * row + 1) w n k)
      ∙ take-suc-set (drop (33 * row + 1) w) n k (omega (arith, length-drop (33 * row + 1) w, R.words))

  -- all others stay
  pub joined_other : (r : ℕ) → r < 16 → r ≢ row → line_row (joined_row w row k) r ≡ line_row w r
  joined_other r l z =
      other_same w (joined_row w row k) r R joined_words l (λ j m. joined_else (33 * r + j) (λ e. z (omega (arith, e, m))) (λ e. z (omega (arith, e, m, room))))

  pub joined_rows : LineRows (joined_row w row k)
  joined_rows = record { words = joined_words; few = λ r l. few r l (eqb r row) refl }
    where
      few : (r : ℕ) → r < 16 → (b : Bool) → eqb r row ≡ b → get_or (joined_row w row k) (33 * r) 0 ≤ 32
      few r l true e = let d : r ≡ row = eqb-true r row e in subst (λ (x : ℕ). get_or (joined_row w row k) (33 * x) 0 ≤ 32) (sym d) (omega (arith, joined_count, room))
      few r l false e =
          let z : (r ≡ row) → ⊥ = eqb-false r row e in
          omega (arith, joined_else (33 * r) (λ d. z (omega (arith, d))) (λ d. z (omega (arith, d, room))), R.few r l)

-- The head of a row gone.
down_past : (l : List ℕ) (p g j m : ℕ) → p + j ≤ m → p + g + j ≤ length l → get_or (down l p g j) m 0 ≡ get_or l m 0
down_past l p g j m a b =
    let e : p + j + (m - (p + j)) ≡ m = omega (arith, a) in
    sym (ap (λ (x : ℕ). get_or (down l p g j) x 0) e) ∙ sym (get_or-drop (p + j) (down l p g j) (m - (p + j)) 0)
    ∙ ap (λ (x : List ℕ). get_or x (m - (p + j)) 0) (drop-paste l p (drop (p + g) l) j (omega (arith, b)) (omega (arith, b, length-drop (p + g) l)))
    ∙ get_or-drop (p + j) l (m - (p + j)) 0 ∙ ap (λ (x : ℕ). get_or l x 0) e

module _ (w : List ℕ) (row : ℕ) (R : LineRows w) (at : row < 16) (some : 0 < get_or w (33 * row) 0) where
  abbrev count : ℕ
  count = get_or w (33 * row) 0

  abbrev shifted : List ℕ
  shifted = down w (33 * row + 1) 1 (count - 1)

  shifted_words : length shifted ≡ 528
  shifted_words =
      length-paste w (33 * row + 1) (drop (33 * row + 1 + 1) w) (count - 1) (omega (arith, R.words, R.few row at, at))
      (omega (arith, length-drop (33 * row + 1 + 1) w, R.words, R.few row at, at))
      ∙ R.words

  left_words : length (left_row w row) ≡ 528
  left_words = length-set shifted (33 * row) (count - 1) ∙ shifted_words

  left_count : get_or (left_row w row) (33 * row) 0 ≡ count - 1
  left_count = get_or-set_same shifted (33 * row) (count - 1) 0 (omega (arith, shifted_words, at))

  fits : 33 * row + 1 + 1 + (count - 1) ≤ length w
  fits = omega (arith, R.words, R.few row at, at)

  -- the line is without its head
  pub left_line : line_row (left_row w row) row ≡ drop 1 (line_row w row)
  left_line =
      ap (λ (x : ℕ). take x (drop (33 * row + 1) (left_row w row))) left_count
      ∙ row_same (left_row w row) w (33 * row + 1) (33 * row + 1 + 1) (count - 1) (omega (arith, left_words, R.words, fits)) fits moved
      ∙ sym (ap (drop 1) (take_at w count (33 * row + 1) some (omega (arith, R.words, at))))
    where
      moved : (j : ℕ) → j < count - 1 → get_or (left_row w row) (33 * row + 1 + j) 0 ≡ get_or w (33 * row + 1 + 1 + j) 0
      moved j l =
          get_or-set_other shifted (33 * row) (33 * row + 1 + j) (count - 1) 0 (λ e. omega (arith, e)) ∙ down_above w (33 * row + 1) 1 (count - 1) j 0 l fits

  left_else : (m : ℕ) → (m < 33 * row) ⊎ (33 * row + count ≤ m) → get_or (left_row w row) m 0 ≡ get_or w m 0
  left_else m (inl l) = get_or-set_other shifted (33 * row) m (count - 1) 0 (λ e. omega (arith, e, l)) ∙ down_below w (33 * row + 1) 1 (count - 1) m 0 (omega (arith, l)) fits
  left_else m (inr l) =
      get_or-set_other shifted (33 * row) m (count - 1) 0 (λ e. omega (arith, e, l, some)) ∙ down_past w (33 * row + 1) 1 (count - 1) m (omega (arith, l, some)) fits

  apart : (r j : ℕ) → r ≢ row → j < 33 → (33 * r + j < 33 * row) ⊎ (33 * row + count ≤ 33 * r + j)
  apart r j z l = go (ltb r row) refl
    where
      go : (b : Bool) → ltb r row ≡ b → (33 * r + j < 33 * row) ⊎ (33 * row + count ≤ 33 * r + j)
      go true e = let d : r < row = ltb-true r row e in inl (omega (arith, d, l))
      go false e = let d : row ≤ r = ltb-false r row e in inr (omega (arith, d, l, z, R.few row at))

  -- all others stay
  pub left_other : (r : ℕ) → r < 16 → r ≢ row → line_row (left_row w row) r ≡ line_row w r
  left_other r l z = other_same w (left_row w row) r R left_words l (λ j m. left_else (33 * r + j) (apart r j z m))

  pub left_rows : LineRows (left_row w row)
  left_rows = record { words = left_words; few = λ r l. few r l (eqb r row) refl }
    where
      few : (r : ℕ) → r < 16 → (b : Bool) → eqb r row ≡ b → get_or (left_row w row) (33 * r) 0 ≤ 32
      few r l true e = let d : r ≡ row = eqb-true r row e in subst (λ (x : ℕ). get_or (left_row w row) (33 * x) 0 ≤ 32) (sym d) (omega (arith, left_count, R.few row at))
      few r l false e =
          let z : (r ≡ row) → ⊥ = eqb-false r row e in
          let q : 33 * r + 0 ≡ 33 * r = omega arith in
          let f = left_else (33 * r) (subst (λ (x : ℕ). (x < 33 * row) ⊎ (33 * row + count ≤ x)) q (apart r 0 z (omega arith))) in
          omega (arith, f, R.few r l)
