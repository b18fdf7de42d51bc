-- Words put into a table, and the state that stands in the tables then.
use Prim.Native.Nat.{ℕ, zero, suc, ◌+◌, ◌*◌, ◌-◌, ◌≤◌, ◌<◌}
use mathlib.Core.Path.{◌≡◌, refl, sym, ap, ap₂, fun_ext, ◌∙◌, subst}
use mathlib.Core.Logic.{◌⊎◌, inl, inr}
use mathlib.Core.Bool.{Bool, true, false, false≢true}
use mathlib.Core.List.{List, [], ◌∷◌, ◌++◌}
use native.Mathlib.Omega.{arith}
use lib.Dec.{eqb, ltb}
use lib.ListN.{length, get_or, set, take, drop, length-drop, get_or-append}
use lib.Seq.{paste, length-paste, length_paste_head, drop-paste, length-take-le, get_or-take, get_or-drop, get_or-append-add, get_or-set_same, get_or-set_other, ext_get_or}
use borrow.Author.Count.{below_more}
use borrow.Author.Tests.{eqb-true, eqb-false, ltb-true, ltb-false}
use Rattle.format.specs.Contents.{in_count}
use Rattle.format.proofs.ContentsLaws.{in_count_lem, in_count_iff}
use Rattle.steps.specs.declared.Thread.{Thread}
use Rattle.steps.specs.declared.Made.{Made}
use Rattle.steps.specs.Beside.{made_at, made_in, thread_count, made_count}
use Rattle.steps.specs.Records.{threads_in, stored}
use Rattle.choices.proofs.StateLaws.{threads_add}
use Rattle.seating.specs.SeatTables.{line_row, LineRows}
use Rattle.seated.specs.SeatedTables.{lines_in}
use Rattle.rows.specs.Rows.{row_thread, row_threads, row_lines, threads_from, owners_from, lines_from, lines_at, NoLines, LinesFit, RowFits, Loaded}

pub paste_long : (l m s : List ℕ) (to at k : ℕ) → at + k ≤ length s → to + k ≤ length l → m ≡ paste l to (drop at s) k → length m ≡ length l
paste_long l m s to at k from fits e = ap length e ∙ length-paste l to (drop at s) k fits (omega (arith, from, length-drop at s))

-- threads put in order
pub threads_none : (w s : List ℕ) (at : ℕ) → threads_in w 0 0 ≡ row_threads s at 0
unfolding threads_in row_threads
threads_none w s at = refl

row_threads_snoc : (s : List ℕ) (p k : ℕ) → row_threads s p (suc k) ≡ row_threads s p k ++ (row_thread s (p + 12 * k) ∷ [])
unfolding row_threads
row_threads_snoc s p zero = let e : p ≡ p + 12 * 0 = omega arith in ap (λ (x : ℕ). row_thread s x ∷ []) e
row_threads_snoc s p (suc k) =
    let e : p + 12 + 12 * k ≡ p + 12 * suc k = omega arith in
    ap (λ (l : List Thread). row_thread s p ∷ l) (row_threads_snoc s (p + 12) k ∙ ap (λ (x : ℕ). row_threads s (p + 12) k ++ (row_thread s x ∷ [])) e)

pub threads_more : (w v s : List ℕ) (at k : ℕ) (t : Thread) → 12 * k + 12 ≤ length w → t ≡ row_thread s (at + 12 * k) → (v ≡ stored w (12 * k) t) × (length t.vars ≡ 8)
    → threads_in w 0 k ≡ row_threads s at k → threads_in v 0 (k + 1) ≡ row_threads s at (k + 1)
threads_more w v s at k t fits is (put, vars) h =
    let more : suc k ≡ k + 1 = omega arith in
    ap (λ (l : List ℕ). threads_in l 0 (k + 1)) put
    ∙ threads_add w k t fits vars
    ∙ ap₂ (λ (l : List Thread) (x : Thread). l ++ (x ∷ [])) h is
    ∙ sym (row_threads_snoc s at k)
    ∙ ap (row_threads s at) more

-- nobody waits in one row more
pub cleared_more : (ls : List ℕ) (r : ℕ) → length ls ≡ 528 → r < 16 → ((j : ℕ) → j < r → get_or ls (33 * j) 0 ≡ 0) → (j : ℕ) → j < r + 1 → get_or (set ls (33 * r) 0) (33 * j) 0 ≡ 0
cleared_more ls r long low h =
    below_more (λ j. get_or (set ls (33 * r) 0) (33 * j) 0 ≡ 0) r
    (λ j lt. get_or-set_other ls (33 * r) (33 * j) 0 0 (λ e. let no : ⊥ = omega (arith, e, lt) in absurd no) ∙ h j lt)
    (get_or-set_same ls (33 * r) 0 0 (omega (arith, long, low)))

-- a look into what was pasted, and past it
module _ (l s : List ℕ) (p n : ℕ) (fits : p + n ≤ length l) (from : n ≤ length s) where
  head_long : length (take p l ++ take n s) ≡ p + n
  head_long = length_paste_head l p s n (omega (arith, fits)) from

  pub paste_in : (m : ℕ) → m < n → get_or (paste l p s n) (p + m) 0 ≡ get_or s m 0
  paste_in m lt =
      let long : length (take p l) ≡ p = length-take-le p l (omega (arith, fits)) in
      let there : length (take p l) + m ≡ p + m = omega (arith, long) in
      get_or-append (take p l ++ take n s) (drop (p + n) l) 0 (p + m) (omega (arith, head_long, lt))
      ∙ ap (λ (x : ℕ). get_or (take p l ++ take n s) x 0) (sym there)
      ∙ get_or-append-add (take p l) (take n s) m 0
      ∙ get_or-take n s m 0 lt

  pub paste_below : (m : ℕ) → m < p → get_or (paste l p s n) m 0 ≡ get_or l m 0
  paste_below m lt =
      let long : length (take p l) ≡ p = length-take-le p l (omega (arith, fits)) in
      get_or-append (take p l ++ take n s) (drop (p + n) l) 0 m (omega (arith, head_long, lt))
      ∙ get_or-append (take p l) (take n s) 0 m (omega (arith, long, lt))
      ∙ get_or-take p l m 0 lt

  pub paste_above : (m : ℕ) → p + n ≤ m → get_or (paste l p s n) m 0 ≡ get_or l m 0
  paste_above m le =
      let there : p + n + (m - (p + n)) ≡ m = omega (arith, le) in
      ap (λ (x : ℕ). get_or (paste l p s n) x 0) (sym there)
      ∙ sym (get_or-drop (p + n) (paste l p s n) (m - (p + n)) 0)
      ∙ ap (λ (x : List ℕ). get_or x (m - (p + n)) 0) (drop-paste l p s n (omega (arith, fits)) from)
      ∙ get_or-drop (p + n) l (m - (p + n)) 0
      ∙ ap (λ (x : ℕ). get_or l x 0) there

-- parts of two tables are equal by their words
pub same_part : (l m : List ℕ) (p q c : ℕ) → p + c ≤ length l → q + c ≤ length m → ((k : ℕ) → k < c → get_or l (p + k) 0 ≡ get_or m (q + k) 0) → take c (drop p l) ≡ take c (drop q m)
same_part l m p q c fl fm h =
    let ll : length (take c (drop p l)) ≡ c = length-take-le c (drop p l) (omega (arith, fl, length-drop p l)) in
    let lm : length (take c (drop q m)) ≡ c = length-take-le c (drop q m) (omega (arith, fm, length-drop q m)) in
    ext_get_or 0 (take c (drop p l)) (take c (drop q m)) (ll ∙ sym lm)
    (λ k lt. let low : k < c = omega (arith, lt, ll) in
    get_or-take c (drop p l) k 0 low ∙ get_or-drop p l k 0 ∙ h k low ∙ sym (get_or-take c (drop q m) k 0 low ∙ get_or-drop q m k 0))

-- the first r lines are put, from the table's words before `on`
pub record LinesPut (s : List ℕ) (at roles on r : ℕ) (ls : List ℕ) : Type 0 where
  pub fits : LinesFit s on (roles - r)
  pub rows : LineRows ls
  pub none : NoLines ls r
  pub put : (j : ℕ) → j < r → line_row ls j ≡ get_or (row_lines s at roles) j []
  pub rest : (j : ℕ) → get_or (row_lines s at roles) (r + j) [] ≡ get_or (row_lines s on (roles - r)) j []

pub lines_begin : (s : List ℕ) (at roles : ℕ) (ls : List ℕ) → LinesFit s at roles → length ls ≡ 528 → NoLines ls 0 → LinesPut s at roles at 0 ls
lines_begin s at roles ls fits long none =
    let all : roles ≡ roles - 0 = omega arith in
    record {
      fits = subst (LinesFit s at) all fits;
      rows = record { words = long; few = λ row low. omega (arith, none row (omega arith) low) };
      none = none;
      put = λ j lt. let no : ⊥ = omega (arith, lt) in absurd no;
      rest = λ j. let e : 0 + j ≡ j = omega arith in ap₂ (λ (x y : ℕ). get_or (row_lines s at x) y []) all e;
    }

-- there is a word that says how many wait
pub some_line : (s : List ℕ) (at roles on r : ℕ) (ls : List ℕ) → LinesPut s at roles on r ls → r < roles → on + 1 + get_or s on 0 ≤ length s
some_line s at roles on r ls P lt = let more : roles - r ≡ suc (roles - (r + 1)) = omega (arith, lt) in (subst (LinesFit s on) more P.fits).0

module _ (s : List ℕ) (at roles on r : ℕ) (ls : List ℕ) (P : LinesPut s at roles on r ls) (lt : r < roles) (few_roles : roles ≤ 16) (n : ℕ) (is : n ≡ get_or s on 0 + 1) where
  some : roles - r ≡ suc (roles - (r + 1))
  some = omega (arith, lt)

  pub line_fits : (on + 1 + get_or s on 0 ≤ length s) × (get_or s on 0 ≤ 32) × LinesFit s (on + 1 + get_or s on 0) (roles - (r + 1))
  line_fits = subst (LinesFit s on) some P.fits

  next_place : on + 1 + get_or s on 0 ≡ on + n
  next_place = omega (arith, is)

  module _ (ls' : List ℕ) (is' : ls' ≡ paste ls (33 * r) (drop on s) n) where
    room : 33 * r + n ≤ length ls
    room = omega (arith, is, line_fits.1, P.rows.words, lt, few_roles)

    from : n ≤ length (drop on s)
    from = omega (arith, is, line_fits.0, length-drop on s)

    long : length ls' ≡ 528
    long = ap length is' ∙ length-paste ls (33 * r) (drop on s) n room from ∙ P.rows.words

    in_row : (m : ℕ) → m < n → get_or ls' (33 * r + m) 0 ≡ get_or s (on + m) 0
    in_row m low = ap (λ (l : List ℕ). get_or l (33 * r + m) 0) is' ∙ paste_in ls (drop on s) (33 * r) n room from m low ∙ get_or-drop on s m 0

    count_here : get_or ls' (33 * r) 0 ≡ get_or s on 0
    count_here =
        let a : 33 * r + 0 ≡ 33 * r = omega arith in
        let b : on + 0 ≡ on = omega arith in
        ap (λ (x : ℕ). get_or ls' x 0) (sym a) ∙ in_row 0 (omega (arith, is)) ∙ ap (λ (x : ℕ). get_or s x 0) b

    elsewhere : (m : ℕ) → ((m < 33 * r) ⊎ (33 * r + 33 ≤ m)) → get_or ls' m 0 ≡ get_or ls m 0
    elsewhere m (inl low) = ap (λ (l : List ℕ). get_or l m 0) is' ∙ paste_below ls (drop on s) (33 * r) n room from m low
    elsewhere m (inr high) = ap (λ (l : List ℕ). get_or l m 0) is' ∙ paste_above ls (drop on s) (33 * r) n room from m (omega (arith, high, is, line_fits.1))

    apart : (j m : ℕ) → (j ≡ r → ⊥) → m < 33 → (33 * j + m < 33 * r) ⊎ (33 * r + 33 ≤ 33 * j + m)
    apart j m ne low = go (ltb j r) refl
      where
        go : (b : Bool) → ltb j r ≡ b → (33 * j + m < 33 * r) ⊎ (33 * r + 33 ≤ 33 * j + m)
        go true e = inl (omega (arith, ltb-true j r e, low))
        go false e = let after : r < j = omega (arith, ltb-false j r e, ne) in inr (omega (arith, after))

    count_there : (j : ℕ) → (j ≡ r → ⊥) → get_or ls' (33 * j) 0 ≡ get_or ls (33 * j) 0
    count_there j ne =
        let z : 33 * j + 0 ≡ 33 * j = omega arith in
        ap (λ (x : ℕ). get_or ls' x 0) (sym z) ∙ elsewhere (33 * j + 0) (apart j 0 ne (omega arith)) ∙ ap (λ (x : ℕ). get_or ls x 0) z

    row_there : (j : ℕ) → j < 16 → (j ≡ r → ⊥) → line_row ls' j ≡ line_row ls j
    row_there j low ne =
        let few : get_or ls (33 * j) 0 ≤ 32 = P.rows.few j low in
        ap (λ (x : ℕ). take x (drop (33 * j + 1) ls')) (count_there j ne)
        ∙ same_part ls' ls (33 * j + 1) (33 * j + 1) (get_or ls (33 * j) 0) (omega (arith, few, long, low)) (omega (arith, few, P.rows.words, low))
        (λ k lt. let e : 33 * j + 1 + k ≡ 33 * j + (1 + k) = omega arith in
        ap (λ (x : ℕ). get_or ls' x 0) e ∙ elsewhere (33 * j + (1 + k)) (apart j (1 + k) ne (omega (arith, lt, few))) ∙ ap (λ (x : ℕ). get_or ls x 0) (sym e))

    row_here : line_row ls' r ≡ get_or (row_lines s at roles) r []
    unfolding row_lines
    row_here =
        let z : r + 0 ≡ r = omega arith in
        ap (λ (x : ℕ). take x (drop (33 * r + 1) ls')) count_here
        ∙ same_part ls' s (33 * r + 1) (on + 1) (get_or s on 0) (omega (arith, long, lt, few_roles, line_fits.1)) line_fits.0
        (λ k low. let a : 33 * r + 1 + k ≡ 33 * r + (1 + k) = omega arith in
        let b : on + (1 + k) ≡ on + 1 + k = omega arith in
        ap (λ (x : ℕ). get_or ls' x 0) a ∙ in_row (1 + k) (omega (arith, low, is)) ∙ ap (λ (x : ℕ). get_or s x 0) b)
        ∙ sym (ap (λ (x : ℕ). get_or (row_lines s at roles) x []) (sym z) ∙ P.rest 0 ∙ ap (λ (x : ℕ). get_or (row_lines s on x) 0 []) some)

    pub lines_more : LinesPut s at roles (on + n) (r + 1) ls'
    unfolding row_lines
    lines_more = record {
      fits = subst (λ (x : ℕ). LinesFit s x (roles - (r + 1))) next_place line_fits.2;
      rows = record { words = long; few = λ row low. by_few row low (eqb row r) refl };
      none = λ j le low. count_there j (λ e. let no : ⊥ = omega (arith, e, le) in absurd no) ∙ P.none j (omega (arith, le)) low;
      put = below_more (λ j. line_row ls' j ≡ get_or (row_lines s at roles) j []) r
          (λ j low. row_there j (omega (arith, low, lt, few_roles)) (λ e. let no : ⊥ = omega (arith, e, low) in absurd no) ∙ P.put j low) row_here;
      rest = λ j.
          let e : r + 1 + j ≡ r + suc j = omega arith in
          ap (λ (x : ℕ). get_or (row_lines s at roles) x []) e ∙ P.rest (suc j) ∙ ap (λ (x : ℕ). get_or (row_lines s on x) (suc j) []) some
          ∙ ap (λ (x : ℕ). get_or (row_lines s x (roles - (r + 1))) j []) next_place;
    }
      where
        by_few : (row : ℕ) → row < 16 → (b : Bool) → eqb row r ≡ b → get_or ls' (33 * row) 0 ≤ 32
        by_few row low true e = let is-r : row ≡ r = eqb-true row r e in omega (arith, ap (λ (x : ℕ). get_or ls' (33 * x) 0) is-r, count_here, line_fits.1)
        by_few row low false e = omega (arith, count_there row (eqb-false row r e), P.rows.few row low)

-- beyond so many lines there is none
pub row_lines_past : (s : List ℕ) (p k j : ℕ) → k ≤ j → get_or (row_lines s p k) j [] ≡ []
unfolding row_lines
row_lines_past s p zero j le = refl
row_lines_past s p (suc k) zero le = let no : ⊥ = omega (arith, le) in absurd no
row_lines_past s p (suc k) (suc j) le = row_lines_past s (p + 1 + get_or s p 0) k j (omega (arith, le))

pub lines_done : (s : List ℕ) (at roles on r : ℕ) (ls : List ℕ) → LinesPut s at roles on r ls → r ≡ roles → roles ≤ 16
    → LineRows ls × (lines_in ls ≡ (λ x. get_or ([] ∷ row_lines s at roles) x []))
lines_done s at roles on r ls P e few = (P.rows, fun_ext each)
  where
    row : (j : ℕ) → j < 16 → (b : Bool) → ltb j roles ≡ b → line_row ls j ≡ get_or (row_lines s at roles) j []
    row j low true q = P.put j (omega (arith, ltb-true j roles q, e))
    row j low false q =
        let past : roles ≤ j = ltb-false j roles q in
        ap (λ (x : ℕ). take x (drop (33 * j + 1) ls)) (P.none j (omega (arith, past, e)) low) ∙ sym (row_lines_past s at roles j past)

    each : (x : ℕ) → lines_in ls x ≡ get_or ([] ∷ row_lines s at roles) x []
    each zero = refl
    each (suc j) = go (in_count 16 (suc j)) refl
      where
        go : (b : Bool) → in_count 16 (suc j) ≡ b → lines_in ls (suc j) ≡ get_or (row_lines s at roles) j []
        go true q =
            let less : suc j - 1 ≡ j = omega arith in
            let low : j < 16 = omega (arith, (in_count_lem 16 (suc j) q).1) in
            rw q (ap (line_row ls) less ∙ row j low (ltb j roles) refl)
        go false q = rw q (sym (row_lines_past s at roles j (past (ltb j 16) refl)))
          where
            past : (b : Bool) → ltb j 16 ≡ b → roles ≤ j
            past true l = absurd (false≢true (sym q ∙ (in_count_iff 16 (suc j)).1 (omega arith, omega (arith, ltb-true j 16 l))))
            past false l = omega (arith, ltb-false j 16 l, few)

made_same : (b d : List ℕ) (p q k : ℕ) → ((j : ℕ) → j < 2 * k → get_or b (p + j) 0 ≡ get_or d (q + j) 0) → made_in b p k ≡ made_in d q k
unfolding made_in
made_same b d p q zero h = refl
made_same b d p q (suc k) h =
    let p0 : p + 0 ≡ p = omega arith in
    let q0 : q + 0 ≡ q = omega arith in
    let owner : get_or b p 0 ≡ get_or d q 0 = ap (λ (x : ℕ). get_or b x 0) (sym p0) ∙ h 0 (omega arith) ∙ ap (λ (x : ℕ). get_or d x 0) q0 in
    let kind : get_or b (p + 1) 0 ≡ get_or d (q + 1) 0 = h 1 (omega arith) in
    let here : made_at b p ≡ made_at d q = λ i. record { owner = owner i; kind = record { 0 = kind i } } in
    ap₂ (λ (x : Made) (l : List Made). x ∷ l) here
    (made_same b d (p + 2) (q + 2) k (λ j lt. ap (λ (x : ℕ). get_or b x 0) (there p j) ∙ h (2 + j) (omega (arith, lt)) ∙ ap (λ (x : ℕ). get_or d x 0) (sym (there q j))))
  where
    there : (p j : ℕ) → p + 2 + j ≡ p + (2 + j)
    there p j = omega arith

-- the row in the tables
module _ (roles : ℕ) (s : List ℕ) (at : ℕ) (F : RowFits roles s at) (w b b' os os' ls : List ℕ) (n used : ℕ) (is-n : n ≡ get_or s at 0) (is-used : used ≡ 2 + 2 * get_or s (at + 1) 0)
    (long_b : length b ≡ 162) (long-os : length os ≡ 64) (put_b : b' ≡ paste b 0 (drop at s) used) (put-os : os' ≡ paste os 0 (drop (at + used + 12 * n) s) n) where
  few_words : used ≤ 130
  few_words = omega (arith, is-used, F.made)

  room_s : at + used + 12 * n + n ≤ length s
  room_s = omega (arith, is-used, is-n, F.words)

  beside_word : (j : ℕ) → j < used → get_or b' j 0 ≡ get_or s (at + j) 0
  beside_word j lt =
      let z : 0 + j ≡ j = omega arith in
      ap₂ (λ (l : List ℕ) (x : ℕ). get_or l x 0) put_b (sym z)
      ∙ paste_in b (drop at s) 0 used (omega (arith, few_words, long_b)) (omega (arith, room_s, length-drop at s)) j lt
      ∙ get_or-drop at s j 0

  beside_long : length b' ≡ 162
  beside_long = ap length put_b ∙ length-paste b 0 (drop at s) used (omega (arith, few_words, long_b)) (omega (arith, room_s, length-drop at s)) ∙ long_b

  owners_long : length os' ≡ 64
  owners_long =
      ap length put-os
      ∙ length-paste os 0 (drop (at + used + 12 * n) s) n (omega (arith, is-n, F.threads, long-os)) (omega (arith, room_s, length-drop (at + used + 12 * n) s))
      ∙ long-os

  counted : thread_count b' ≡ get_or s at 0
  counted = let z : at + 0 ≡ at = omega arith in beside_word 0 (omega (arith, is-used)) ∙ ap (λ (x : ℕ). get_or s x 0) z

  made_counted : made_count b' ≡ get_or s (at + 1) 0
  made_counted = beside_word 1 (omega (arith, is-used))

  pub loaded : threads_in w 0 n ≡ row_threads s (at + used) n → length w ≡ 768
      → LineRows ls × (lines_in ls ≡ (λ x. get_or ([] ∷ row_lines s (at + used + 12 * n + n) roles) x [])) → Loaded roles s at w b' os' ls
  loaded threads-in long-w (rows, lines_in_lem) =
      let from-threads : at + used ≡ threads_from s at = omega (arith, is-used) in
      let from-owners : at + used + 12 * n ≡ owners_from s at = omega (arith, is-used, is-n) in
      let from-lines : at + used + 12 * n + n ≡ lines_from s at = omega (arith, is-used, is-n) in
      let threads : threads_in w 0 (thread_count b') ≡ row_threads s (threads_from s at) (get_or s at 0) =
      ap (threads_in w 0) (counted ∙ sym is-n) ∙ threads-in ∙ ap₂ (row_threads s) from-threads is-n in
      let made : made_in b' 2 (made_count b') ≡ made_in s (at + 2) (get_or s (at + 1) 0) =
      ap (made_in b' 2) made_counted
      ∙ made_same b' s 2 (at + 2) (get_or s (at + 1) 0) (λ j lt. let e : at + (2 + j) ≡ at + 2 + j = omega arith in beside_word (2 + j) (omega (arith, lt, is-used)) ∙ ap (λ (x : ℕ). get_or s x 0) e) in
      let part : take n os' ≡ take n (drop (at + used + 12 * n) s) =
      same_part os' s 0 (at + used + 12 * n) n (omega (arith, owners_long, is-n, F.threads)) (omega (arith, room_s))
      (λ k lt. ap (λ (l : List ℕ). get_or l (0 + k) 0) put-os
      ∙ paste_in os (drop (at + used + 12 * n) s) 0 n (omega (arith, is-n, F.threads, long-os)) (omega (arith, room_s, length-drop (at + used + 12 * n) s)) k lt
      ∙ get_or-drop (at + used + 12 * n) s k 0) in
      let owners : take (thread_count b') os' ≡ take (get_or s at 0) (drop (owners_from s at) s) =
      ap (λ (x : ℕ). take x os') (counted ∙ sym is-n) ∙ part ∙ ap₂ (λ (x y : ℕ). take x (drop y s)) is-n from-owners in
      let lines : lines_in ls ≡ lines_at roles s at = lines_in_lem ∙ ap {B = ℕ → List ℕ} (λ (y : ℕ). λ (x : ℕ). get_or ([] ∷ row_lines s y roles) x []) from-lines in
      record {
        sized = record { words = long-w; beside = beside_long; threads = omega (arith, counted, F.threads); made = omega (arith, made_counted, F.made) };
        owners = owners_long;
        rows = rows;
        state = λ i. record { state = record { threads = threads i; made = made i }; owners = owners i; lines = lines i };
      }
