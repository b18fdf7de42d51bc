-- Words that stand in a table of states from a place on.
use Prim.Native.Nat.{ℕ, zero, suc, ◌+◌, ◌*◌, ◌-◌, ◌≤◌, ◌<◌}
use mathlib.Core.Path.{◌≡◌, refl, sym, ap, ap₂, ◌∙◌}
use mathlib.Core.Bool.{Bool, true, false, not, ◌&&◌}
use mathlib.Core.List.{List, [], ◌∷◌, ◌++◌}
use native.Mathlib.Omega.{arith}
use native.Mathlib.Numerals.{add-one}
use lib.Dec.{eqb, ltb}
use Rattle.std.specs.List.{starts_with}
use lib.ListN.{length, get_or, take, drop, length-drop, drop_of_length-le}
use lib.Seq.{length-take-le, drop-cons}
use borrow.Author.Tests.{eqb-true, eqb-false, eq-eqb, ne_eqb, ltb-true, ltb-false}
use Rattle.masks.specs.Mask.{held}
use Rattle.format.proofs.ContentsLaws.{in_count_iff}
use Rattle.steps.specs.declared.Thread.{Thread}
use Rattle.steps.specs.Records.{thread_in, threads_in}
use Rattle.steps.specs.Beside.{made_in, made_words, thread_count, made_count}
use Rattle.steps.specs.Kept.{Sized}
use Rattle.steps.proofs.TableLaws.{threads_length, eight}
use Rattle.running.specs.Run.{thread_words}
use Rattle.seating.specs.SeatTables.{line_row, LineRows}
use Rattle.seating.proofs.RowLaws.{take_at}
use Rattle.seated.specs.SeatedTables.{lines_in, seated_in}
use Rattle.rows.specs.Rows.{line_words, row_words, stands_at}

pub not-true : (b : Bool) → not b ≡ true → b ≡ false
not-true false e = refl
not-true true e = sym e

pub not-false : (b : Bool) → not b ≡ false → b ≡ true
not-false true e = refl
not-false false e = sym e

eqb_comm : (a b : ℕ) → eqb a b ≡ eqb b a
eqb_comm a b = go (eqb a b) refl
  where
    go : (x : Bool) → eqb a b ≡ x → x ≡ eqb b a
    go true e = sym (eq-eqb b a (sym (eqb-true a b e)))
    go false e = sym (ne_eqb b a (λ q. eqb-false a b e (sym q)))

module _ (s : List ℕ) where
  pub stands_append : (xs : List ℕ) (p : ℕ) (ys : List ℕ) → stands_at s p (xs ++ ys) ≡ stands_at s p xs && stands_at s (p + length xs) ys
  unfolding stands_at
  stands_append [] p ys = let e : p ≡ p + 0 = omega arith in ap (λ (x : ℕ). stands_at s x ys) e
  stands_append (x ∷ xs) p ys = go (ltb p (length s)) (eqb (get_or s p 0) x) (stands_append xs (p + 1) ys)
    where
      go : (a b : Bool) → stands_at s (p + 1) (xs ++ ys) ≡ stands_at s (p + 1) xs && stands_at s (p + 1 + length xs) ys
          → a && (b && stands_at s (p + 1) (xs ++ ys)) ≡ (a && (b && stands_at s (p + 1) xs)) && stands_at s (p + length (x ∷ xs)) ys
      go false b ih = refl
      go true false ih = refl
      go true true ih =
          let e : p + 1 + length xs ≡ p + length (x ∷ xs) = omega arith in
          ih ∙ ap (λ (q : ℕ). stands_at s (p + 1) xs && stands_at s q ys) e

  -- what `starts_with` tests
  pub starts_with-stands : (ws : List ℕ) (p : ℕ) → starts_with eqb (drop p s) ws ≡ stands_at s p ws
  unfolding stands_at
  starts_with-stands [] p = refl
  starts_with-stands (w ∷ ws) p = go (ltb p (length s)) refl (starts_with-stands ws (p + 1))
    where
      go : (b : Bool) → ltb p (length s) ≡ b → starts_with eqb (drop (p + 1) s) ws ≡ stands_at s (p + 1) ws
          → starts_with eqb (drop p s) (w ∷ ws) ≡ b && (eqb (get_or s p 0) w && stands_at s (p + 1) ws)
      go true e ih =
          ap (λ (l : List ℕ). starts_with eqb l (w ∷ ws)) (drop-cons s p 0 (ltb-true p (length s) e))
          ∙ ap₂ (λ (x y : Bool). x && y) (eqb_comm w (get_or s p 0))
          (ap (λ (x : ℕ). starts_with eqb (drop x s) ws) (sym (add-one p)) ∙ ih)
      go false e ih = ap (λ (l : List ℕ). starts_with eqb l (w ∷ ws)) (drop_of_length-le s (ltb-false p (length s) e))

  -- the twelve words of a thread of a table, and those of the threads after it
  threads_on : (w : List ℕ) (p q k : ℕ) → stands_at s p (thread_words (threads_in w q (suc k))) ≡ stands_at s p (thread_words (thread_in w q ∷ [])) && stands_at s (p + 12) (thread_words (threads_in w (q + 12) k))
  unfolding threads_in thread_words
  threads_on w p q k = stands_append (thread_words (thread_in w q ∷ [])) p (thread_words (threads_in w (q + 12) k))

  module _ (w : List ℕ) (at n k : ℕ) (lt : k < n) (t : Thread) (is : t ≡ thread_in w (12 * k)) where
    thread_on : stands_at s (at + 12 * k) (thread_words (threads_in w (12 * k) (n - k)))
        ≡ stands_at s (at + 12 * k) (thread_words (t ∷ [])) && stands_at s (at + 12 * (k + 1)) (thread_words (threads_in w (12 * (k + 1)) (n - (k + 1))))
    thread_on =
        let some : n - k ≡ suc (n - (k + 1)) = omega (arith, lt) in
        let a : at + 12 * k + 12 ≡ at + 12 * (k + 1) = omega arith in
        let b : 12 * k + 12 ≡ 12 * (k + 1) = omega arith in
        ap (λ (x : ℕ). stands_at s (at + 12 * k) (thread_words (threads_in w (12 * k) x))) some
        ∙ threads_on w (at + 12 * k) (12 * k) (n - (k + 1))
        ∙ ap₂ (λ (x y : Bool). x && y) (ap (λ (x : Thread). stands_at s (at + 12 * k) (thread_words (x ∷ []))) (sym is))
        (ap₂ (λ (x y : ℕ). stands_at s x (thread_words (threads_in w y (n - (k + 1))))) a b)

    pub thread_other : stands_at s (at + 12 * k) (thread_words (t ∷ [])) ≡ false → false ≡ stands_at s (at + 12 * k) (thread_words (threads_in w (12 * k) (n - k)))
    thread_other e = sym (thread_on ∙ ap (λ (x : Bool). x && stands_at s (at + 12 * (k + 1)) (thread_words (threads_in w (12 * (k + 1)) (n - (k + 1))))) e)

    pub thread_same : stands_at s (at + 12 * k) (thread_words (t ∷ [])) ≡ true
        → stands_at s (at + 12 * k) (thread_words (threads_in w (12 * k) (n - k))) ≡ stands_at s (at + 12 * (k + 1)) (thread_words (threads_in w (12 * (k + 1)) (n - (k + 1))))
    thread_same e = thread_on ∙ ap (λ (x : Bool). x && stands_at s (at + 12 * (k + 1)) (thread_words (threads_in w (12 * (k + 1)) (n - (k + 1))))) e

  pub threads_begin : (w : List ℕ) (at n : ℕ) → stands_at s at (thread_words (threads_in w 0 n)) ≡ stands_at s (at + 12 * 0) (thread_words (threads_in w (12 * 0) (n - 0)))
  threads_begin w at n =
      let a : at ≡ at + 12 * 0 = omega arith in
      let b : n ≡ n - 0 = omega arith in
      ap₂ (λ (x y : ℕ). stands_at s x (thread_words (threads_in w 0 y))) a b

  pub threads_end : (w : List ℕ) (at n k : ℕ) → n ≤ k → true ≡ stands_at s (at + 12 * k) (thread_words (threads_in w (12 * k) (n - k)))
  unfolding stands_at threads_in thread_words
  threads_end w at n k le =
      let none : n - k ≡ 0 = omega (arith, le) in
      sym (ap (λ (x : ℕ). stands_at s (at + 12 * k) (thread_words (threads_in w (12 * k) x))) none)

  -- the lines of a table, as its rows have them
  module _ (ls : List ℕ) (R : LineRows ls) (r : ℕ) (low : r < 16) where
    line-is : lines_in ls (suc r) ≡ line_row ls r
    line-is = let e : suc r - 1 ≡ r = omega arith in rw ((in_count_iff 16 (suc r)).1 (omega arith, omega (arith, low))) (ap (line_row ls) e)

    line_long : length (line_row ls r) ≡ get_or ls (33 * r) 0
    line_long = row_length
      where
        few : get_or ls (33 * r) 0 ≤ 32
        few = R.few r low

        row_length : length (take (get_or ls (33 * r) 0) (drop (33 * r + 1) ls)) ≡ get_or ls (33 * r) 0
        row_length = length-take-le (get_or ls (33 * r) 0) (drop (33 * r + 1) ls) (omega (arith, few, length-drop (33 * r + 1) ls, R.words))

    pub line_front : (n : ℕ) → n ≡ get_or ls (33 * r) 0 + 1 → take n (drop (33 * r) ls) ≡ length (lines_in ls (suc r)) ∷ lines_in ls (suc r)
    line_front n e =
        let less : n - 1 ≡ get_or ls (33 * r) 0 = omega (arith, e) in
        take_at ls n (33 * r) (omega (arith, e)) (omega (arith, low, R.words))
        ∙ ap (λ (x : ℕ). get_or ls (33 * r) 0 ∷ take x (drop (33 * r + 1) ls)) less
        ∙ ap₂ (λ (a : ℕ) (l : List ℕ). a ∷ l) (sym line_long) refl
        ∙ ap (λ (l : List ℕ). length l ∷ l) (sym line-is)

    pub line_words_lem : (roles n : ℕ) → r < roles → n ≡ get_or ls (33 * r) 0 + 1 → line_words (lines_in ls) (suc r) (roles - r) ≡ take n (drop (33 * r) ls) ++ line_words (lines_in ls) (suc (r + 1)) (roles - (r + 1))
    unfolding line_words
    line_words_lem roles n lt e =
        let some : roles - r ≡ suc (roles - (r + 1)) = omega (arith, lt) in
        let more : suc (suc r) ≡ suc (r + 1) = omega arith in
        ap (line_words (lines_in ls) (suc r)) some
        ∙ ap₂ (λ (l : List ℕ) (x : ℕ). l ++ line_words (lines_in ls) x (roles - (r + 1))) (sym (line_front n e)) more

    line_on : (roles on n : ℕ) → r < roles → n ≡ get_or ls (33 * r) 0 + 1 → stands_at s on (line_words (lines_in ls) (suc r) (roles - r))
        ≡ stands_at s on (take n (drop (33 * r) ls)) && stands_at s (on + n) (line_words (lines_in ls) (suc (r + 1)) (roles - (r + 1)))
    line_on roles on n lt e =
        let long : on + length (take n (drop (33 * r) ls)) ≡ on + n = omega (arith, e, ap length (line_front n e), ap length line-is ∙ line_long) in
        ap (stands_at s on) (line_words_lem roles n lt e)
        ∙ stands_append (take n (drop (33 * r) ls)) on (line_words (lines_in ls) (suc (r + 1)) (roles - (r + 1)))
        ∙ ap (λ (x : ℕ). stands_at s on (take n (drop (33 * r) ls)) && stands_at s x (line_words (lines_in ls) (suc (r + 1)) (roles - (r + 1)))) long

  module _ (ls : List ℕ) (R : LineRows ls) (r : ℕ) (low : r < 16) (roles on n : ℕ) (lt : r < roles) (is : n ≡ get_or ls (33 * r) 0 + 1) where
    pub line_other : stands_at s on (take n (drop (33 * r) ls)) ≡ false → false ≡ stands_at s on (line_words (lines_in ls) (suc r) (roles - r))
    line_other e = sym (line_on ls R r low roles on n lt is ∙ ap (λ (x : Bool). x && stands_at s (on + n) (line_words (lines_in ls) (suc (r + 1)) (roles - (r + 1)))) e)

    pub line_same : stands_at s on (take n (drop (33 * r) ls)) ≡ true
        → stands_at s on (line_words (lines_in ls) (suc r) (roles - r)) ≡ stands_at s (on + n) (line_words (lines_in ls) (suc (r + 1)) (roles - (r + 1)))
    line_same e = line_on ls R r low roles on n lt is ∙ ap (λ (x : Bool). x && stands_at s (on + n) (line_words (lines_in ls) (suc (r + 1)) (roles - (r + 1)))) e

  pub lines_end : (f : ℕ → List ℕ) (on r roles : ℕ) → roles ≤ r → true ≡ stands_at s on (line_words f (suc r) (roles - r))
  unfolding stands_at line_words
  lines_end f on r roles le =
      let none : roles - r ≡ 0 = omega (arith, le) in
      sym (ap (λ (x : ℕ). stands_at s on (line_words f (suc r) x)) none)

-- a thread's words, as code lists them
append_none : (l : List ℕ) → l ≡ l ++ []
append_none [] = refl
append_none (x ∷ l) = ap (λ (m : List ℕ). x ∷ m) (append_none l)

pub thread_stands : (s : List ℕ) (at : ℕ) (t : Thread) (roles : ℕ) → length t.vars ≡ 8 → roles ≡ held 16 t.mask
    → stands_at s at (t.user ∷ t.node ∷ t.mask ∷ roles ∷ get_or t.vars 0 0 ∷ get_or t.vars 1 0 ∷ get_or t.vars 2 0 ∷ get_or t.vars 3 0
    ∷ get_or t.vars 4 0 ∷ get_or t.vars 5 0 ∷ get_or t.vars 6 0 ∷ get_or t.vars 7 0 ∷ []) ≡ stands_at s at (thread_words (t ∷ []))
unfolding thread_words
thread_stands s at t roles long is =
    ap₂ (λ (x : ℕ) (l : List ℕ). stands_at s at (t.user ∷ t.node ∷ t.mask ∷ x ∷ l)) is (eight t.vars long ∙ append_none t.vars)

-- made channels by their words
pub made_front : (b : List ℕ) (p m : ℕ) → p + 2 * m ≤ length b → made_words (made_in b p m) ≡ take (2 * m) (drop p b)
unfolding made_words made_in
made_front b p zero fits = refl
made_front b p (suc m) fits =
    let two : 2 * suc m ≡ suc (suc (2 * m)) = omega arith in
    let a : suc (suc (2 * m)) - 1 ≡ suc (2 * m) = omega arith in
    let c : suc (2 * m) - 1 ≡ 2 * m = omega arith in
    let d : p + 1 + 1 ≡ p + 2 = omega arith in
    ap (λ (l : List ℕ). get_or b p 0 ∷ get_or b (p + 1) 0 ∷ l) (made_front b (p + 2) m (omega (arith, fits)))
    ∙ sym (ap (λ (x : ℕ). take x (drop p b)) two
    ∙ take_at b (suc (suc (2 * m))) p (omega arith) (omega (arith, fits))
    ∙ ap (λ (x : ℕ). get_or b p 0 ∷ take x (drop (p + 1) b)) a
    ∙ ap (λ (l : List ℕ). get_or b p 0 ∷ l) (take_at b (suc (2 * m)) (p + 1) (omega arith) (omega (arith, fits)) ∙ ap₂ (λ (x y : ℕ). get_or b (p + 1) 0 ∷ take x (drop y b)) c d))

pub made_length : (b : List ℕ) (p m : ℕ) → length (made_in b p m) ≡ m
unfolding made_in
made_length b p zero = refl
made_length b p (suc m) = ap suc (made_length b (p + 2) m)

pub thread_words_length : (w : List ℕ) (p k : ℕ) → length (thread_words (threads_in w p k)) ≡ 12 * k
unfolding thread_words threads_in
thread_words_length w p zero = refl
thread_words_length w p (suc k) = omega (arith, thread_words_length w (p + 12) k)

-- by the first part that differs
module _ (whole a b c d : Bool) (is : whole ≡ a && (b && (c && d))) where
  first_differs : a ≡ false → false ≡ whole
  first_differs e = sym (is ∙ ap (λ (x : Bool). x && (b && (c && d))) e)

  second_differs : a ≡ true → b ≡ false → false ≡ whole
  second_differs e f = sym (is ∙ ap₂ (λ (x y : Bool). x && (y && (c && d))) e f)

  third_differs : a ≡ true → b ≡ true → c ≡ false → false ≡ whole
  third_differs e f g = sym (is ∙ ap₂ (λ (x y : Bool). x && (y && (c && d))) e f ∙ ap (λ (x : Bool). x && d) g)

  last_decides : a ≡ true → b ≡ true → c ≡ true → d ≡ whole
  last_decides e f g = sym (is ∙ ap₂ (λ (x y : Bool). x && (y && (c && d))) e f ∙ ap (λ (x : Bool). x && d) g)

-- a row in its four parts
module _ (s w b os ls : List ℕ) (Z : Sized w b) (long : length os ≡ 64) (at roles used n : ℕ) (is-used : used ≡ 2 + 2 * made_count b) (is-n : n ≡ thread_count b) where
  front : take used (drop 0 b) ≡ thread_count b ∷ made_count b ∷ made_words (made_in b 2 (made_count b))
  front =
      let m : ℕ = made_count b in
      let few : made_count b ≤ 64 = Z.made in
      let a : used - 1 - 1 ≡ 2 * m = omega (arith, is-used) in
      take_at b used 0 (omega (arith, is-used)) (omega (arith, Z.beside))
      ∙ ap (λ (l : List ℕ). get_or b 0 0 ∷ l) (take_at b (used - 1) 1 (omega (arith, is-used)) (omega (arith, Z.beside)) ∙ ap (λ (x : ℕ). get_or b 1 0 ∷ take x (drop 2 b)) a)
      ∙ ap (λ (l : List ℕ). thread_count b ∷ m ∷ l) (sym (made_front b 2 m (omega (arith, few, Z.beside))))

  -- the words in four parts
  pub row_words_lem : row_words roles (seated_in w b os ls) ≡ take used (drop 0 b) ++ (thread_words (threads_in w 0 n) ++ (take n (drop 0 os) ++ line_words (lines_in ls) 1 roles))
  unfolding row_words
  row_words_lem =
      let m : ℕ = made_count b in
      let k : ℕ = thread_count b in
      let D : List ℕ = line_words (lines_in ls) 1 roles in
      ap₂ (λ (x y : ℕ). x ∷ y ∷ made_words (made_in b 2 m) ++ (thread_words (threads_in w 0 k) ++ (take k os ++ D))) (threads_length w 0 k) (made_length b 2 m)
      ∙ ap₂ (λ (l : List ℕ) (x : ℕ). l ++ (thread_words (threads_in w 0 x) ++ (take x os ++ D))) (sym front) (sym is-n)

  row_parts : stands_at s at (row_words roles (seated_in w b os ls))
      ≡ stands_at s at (take used (drop 0 b))
      && (stands_at s (at + used) (thread_words (threads_in w 0 n))
      && (stands_at s (at + used + 12 * n) (take n (drop 0 os)) && stands_at s (at + used + 12 * n + n) (line_words (lines_in ls) 1 roles)))
  row_parts =
      let few : made_count b ≤ 64 = Z.made in
      let least : thread_count b ≤ 64 = Z.threads in
      let A : List ℕ = take used (drop 0 b) in
      let B : List ℕ = thread_words (threads_in w 0 n) in
      let O : List ℕ = take n (drop 0 os) in
      let D : List ℕ = line_words (lines_in ls) 1 roles in
      let la : at + length A ≡ at + used = omega (arith, length-take-le used b (omega (arith, is-used, few, Z.beside))) in
      let lb : at + used + length B ≡ at + used + 12 * n = omega (arith, thread_words_length w 0 n) in
      let lo : at + used + 12 * n + length O ≡ at + used + 12 * n + n = omega (arith, length-take-le n os (omega (arith, is-n, least, long))) in
      ap (stands_at s at) row_words_lem
      ∙ stands_append s A at (B ++ (O ++ D))
      ∙ ap (λ (x : ℕ). stands_at s at A && stands_at s x (B ++ (O ++ D))) la
      ∙ ap (λ (x : Bool). stands_at s at A && x)
      (stands_append s B (at + used) (O ++ D) ∙ ap (λ (x : ℕ). stands_at s (at + used) B && stands_at s x (O ++ D)) lb
      ∙ ap (λ (x : Bool). stands_at s (at + used) B && x)
      (stands_append s O (at + used + 12 * n) D ∙ ap (λ (x : ℕ). stands_at s (at + used + 12 * n) O && stands_at s x D) lo))

  abbrev front_stands : Bool
  front_stands = stands_at s at (take used (drop 0 b))

  abbrev threads_stand : Bool
  threads_stand = stands_at s (at + used) (thread_words (threads_in w 0 n))

  abbrev owners_stand : Bool
  owners_stand = stands_at s (at + used + 12 * n) (take n (drop 0 os))

  abbrev lines_stand : Bool
  lines_stand = stands_at s (at + used + 12 * n + n) (line_words (lines_in ls) 1 roles)

  abbrev row_stands : Bool
  row_stands = stands_at s at (row_words roles (seated_in w b os ls))

  pub front_differs : front_stands ≡ false → false ≡ row_stands
  front_differs = first_differs row_stands front_stands threads_stand owners_stand lines_stand row_parts

  pub threads_differ : front_stands ≡ true → threads_stand ≡ false → false ≡ row_stands
  threads_differ = second_differs row_stands front_stands threads_stand owners_stand lines_stand row_parts

  pub owners_differ : front_stands ≡ true → threads_stand ≡ true → owners_stand ≡ false → false ≡ row_stands
  owners_differ = third_differs row_stands front_stands threads_stand owners_stand lines_stand row_parts

  pub lines_decide : front_stands ≡ true → threads_stand ≡ true → owners_stand ≡ true → lines_stand ≡ row_stands
  lines_decide = last_decides row_stands front_stands threads_stand owners_stand lines_stand row_parts
