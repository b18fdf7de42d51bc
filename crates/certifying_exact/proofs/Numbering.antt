-- The search finds a row at fault exactly where the rows are not as they have to be, in words.
use Prim.Native.Nat.{ℕ, zero, suc, ◌+◌, ◌≤◌, ◌<◌, max}
use mathlib.Core.Path.{◌≡◌, refl, sym, ap, ap₂, ◌∙◌, subst}
use mathlib.Core.Logic.{◌⊎◌, inl, inr, ◌↔◌}
use mathlib.Core.Bool.{Bool, true, false, cond, ◌&&◌, and-eq-true_iff, false≢true}
use mathlib.Core.List.{List, [], ◌∷◌, ◌++◌, append-nil, append_assoc}
use native.Mathlib.Omega.{arith}
use lib.Dec.{eqb, leb, ltb}
use lib.ListN.{length, get_or, length-append}
use borrow.Author.Tests.{eqb-true, eqb-false, eq-eqb, leb-true, leb-false, ltb-true, ltb-false, lt-ltb}
use Rattle.rounds.specs.Round.{Taken, refuses, waits, steps}
use Rattle.seats.specs.Seats.{SeatedState, seated_choice}
use Rattle.certifying.specs.declared.Search.{Search}
use Rattle.std.specs.Prelude.{Option, None, Some}
use Rattle.rows.specs.Rows.{row_words, stands_at}
use Rattle.certifying.specs.Known.{known_by}
use Rattle.certifying.specs.Certificate.{Certificate, row_place, row_state, is_row, arrives, taken_tried, choice_tried, onward}
use Rattle.certifying.specs.Certificate.{partners_tried, threads_tried, row_tried, row_onward, rows_tried, search_begins, row_at_fault}
use Rattle.rows.proofs.ReadLaws.{stands_first}
use Rattle.certifying_exact.specs.Numbered.{collect, done_by, done_in, done_before, HasWords, Names, RowHolds, CertificateHolds, LowestFault, FaultAt}

-- words that stand in a table, word by word
abbrev WordsAt : List ℕ → ℕ → List ℕ → Type 0
WordsAt s p ws = (i : ℕ) → i < length ws → (p + i < length s) × (get_or s (p + i) 0 ≡ get_or ws i 0)

pub stands_each : (s ws : List ℕ) (p : ℕ) → stands_at s p ws ≡ true → WordsAt s p ws
stands_each s [] p e i lt = let no : ⊥ = omega (arith, lt) in absurd no
stands_each s (w ∷ ws) p e zero lt =
    let (low, is, more) = stands_first s p w ws e in
    let z : p + 0 ≡ p = omega arith in
    (omega (arith, low), ap (λ (x : ℕ). get_or s x 0) z ∙ is)
stands_each s (w ∷ ws) p e (suc i) lt =
    let (low, is, more) = stands_first s p w ws e in
    let (a, b) = stands_each s ws (p + 1) more i (omega (arith, lt)) in
    let z : p + suc i ≡ p + 1 + i = omega arith in
    (omega (arith, a), ap (λ (x : ℕ). get_or s x 0) z ∙ b)

pub each_stands : (s ws : List ℕ) (p : ℕ) → WordsAt s p ws → stands_at s p ws ≡ true
unfolding stands_at
each_stands s [] p h = refl
each_stands s (w ∷ ws) p h =
    let (low, is) = h 0 (omega arith) in
    let z : p ≡ p + 0 = omega arith in
    let later : WordsAt s (p + 1) ws =
    λ i lt. let (a, b) = h (suc i) (omega (arith, lt)) in let y : p + 1 + i ≡ p + suc i = omega arith in (omega (arith, a), ap (λ (x : ℕ). get_or s x 0) y ∙ b) in
    let rest = each_stands s ws (p + 1) later in
    let two = (and-eq-true_iff (eqb (get_or s p 0) w) (stands_at s (p + 1) ws)).1 (eq-eqb (get_or s p 0) w (ap (λ (x : ℕ). get_or s x 0) z ∙ is), rest) in
    (and-eq-true_iff (ltb p (length s)) (eqb (get_or s p 0) w && stands_at s (p + 1) ws)).1 (lt-ltb p (length s) (omega (arith, low)), two)

-- what is known after one word more, and never less
known_next : (next : List ℕ) (c : ℕ) → get_or next c 0 ≤ known_by next c
    → cond (eqb (get_or next c 0) (known_by next c)) (known_by next c + 1) (known_by next c) ≡ known_by next (suc c)
unfolding known_by
known_next next c le = go (eqb (get_or next c 0) (known_by next c)) refl
  where
    go : (b : Bool) → eqb (get_or next c 0) (known_by next c) ≡ b → cond b (known_by next c + 1) (known_by next c) ≡ max (known_by next c) (suc (get_or next c 0))
    go true e = let same = eqb-true (get_or next c 0) (known_by next c) e in omega arith
    go false e = let other = eqb-false (get_or next c 0) (known_by next c) e in omega arith

known_grows : (next : List ℕ) (d c : ℕ) → known_by next c ≤ known_by next (c + d)
unfolding known_by
known_grows next zero c = let z : c ≡ c + 0 = omega arith in subst (λ (x : ℕ). known_by next c ≤ known_by next x) z (omega arith)
known_grows next (suc d) c =
    let ih = known_grows next d c in
    let z : suc (c + d) ≡ c + suc d = omega arith in
    subst (λ (x : ℕ). known_by next c ≤ known_by next x) z (omega (arith, ih))

collect_last : {A : Type 0} → (f : ℕ → List A) (k a : ℕ) → collect f a (suc k) ≡ collect f a k ++ f (a + k)
unfolding collect
collect_last f zero a = let z : a ≡ a + 0 = omega arith in append-nil (f a) ∙ ap f z
collect_last f (suc k) a =
    let z : a + 1 + k ≡ a + suc k = omega arith in
    ap (λ l. f a ++ l) (collect_last f k (a + 1) ∙ ap (λ (x : ℕ). collect f (a + 1) k ++ f x) z)
    ∙ sym (append_assoc (f a) (collect f (a + 1) k) (f (a + suc k)))

module _ (K : Certificate) where
  -- the search after c choices
  abbrev at : ℕ → Search
  at c = record { known = known_by K.next c; cursor = c }

  row_words_lem : (k : ℕ) (S : SeatedState) → is_row K k S ≡ true → HasWords K k S
  row_words_lem k S = stands_each K.states (row_words K.roles S) (row_place K k)

  words_row : (k : ℕ) (S : SeatedState) → HasWords K k S → is_row K k S ≡ true
  words_row k S = each_stands K.states (row_words K.roles S) (row_place K k)

  not_row : (k : ℕ) (S : SeatedState) → is_row K k S ≡ false → HasWords K k S → ⊥
  not_row k S e h = false≢true (sym e ∙ words_row k S h)

  -- the words of `next` from c on name the rows of some states, one after the other
  abbrev pub NamesFrom : ℕ → List SeatedState → Type 0
  NamesFrom c [] = Unit {0}
  NamesFrom c (T ∷ Ts) = Names K c T × NamesFrom (suc c) Ts

  names_split : (xs ys : List SeatedState) (c : ℕ) → NamesFrom c (xs ++ ys) → NamesFrom c xs × NamesFrom (c + length xs) ys
  names_split [] ys c h = let z : c ≡ c + 0 = omega arith in (tt, subst (λ (x : ℕ). NamesFrom x ys) z h)
  names_split (a ∷ xs) ys c (here, h) =
      let (l, r) = names_split xs ys (suc c) h in
      let z : suc c + length xs ≡ c + suc (length xs) = omega arith in
      ((here, l), subst (λ (x : ℕ). NamesFrom x ys) z r)

  names_join : (xs ys : List SeatedState) (c : ℕ) → NamesFrom c xs → NamesFrom (c + length xs) ys → NamesFrom c (xs ++ ys)
  names_join [] ys c l r = let z : c + 0 ≡ c = omega arith in subst (λ (x : ℕ). NamesFrom x ys) z r
  names_join (a ∷ xs) ys c (here, l) r =
      let z : c + suc (length xs) ≡ suc c + length xs = omega arith in
      (here, names_join xs ys (suc c) l (subst (λ (x : ℕ). NamesFrom x ys) z r))

  -- the same by number
  names_each : (Ts : List SeatedState) (d : SeatedState) (c : ℕ) → NamesFrom c Ts → (m : ℕ) → m < length Ts → Names K (c + m) (get_or Ts m d)
  names_each [] d c h m lt = let no : ⊥ = omega (arith, lt) in absurd no
  names_each (T ∷ Ts) d c (here, h) zero lt = let z : c ≡ c + 0 = omega arith in subst (λ (x : ℕ). Names K x T) z here
  names_each (T ∷ Ts) d c (here, h) (suc m) lt =
      let z : suc c + m ≡ c + suc m = omega arith in
      subst (λ (x : ℕ). Names K x (get_or Ts m d)) z (names_each Ts d (suc c) h m (omega (arith, lt)))

  each_names : (Ts : List SeatedState) (d : SeatedState) (c : ℕ) → ((m : ℕ) → m < length Ts → Names K (c + m) (get_or Ts m d)) → NamesFrom c Ts
  each_names [] d c h = tt
  each_names (T ∷ Ts) d c h =
      let z : c + 0 ≡ c = omega arith in (
        subst (λ (x : ℕ). Names K x T) z (h 0 (omega arith)),
        each_names Ts d (suc c) (λ m lt.
            let y : c + suc m ≡ suc c + m = omega arith in
            subst (λ (x : ℕ). Names K x (get_or Ts m d)) y (h (suc m) (omega (arith, lt)))),
      )

  -- a trial from c on of the choices that lead to some states
  pub data Tried (Ts : List SeatedState) (c : ℕ) (t : Option Search) : Type 0 where
    passed : NamesFrom c Ts → t ≡ Some (at (c + length Ts)) → Tried Ts c t
    failed : (NamesFrom c Ts → ⊥) → t ≡ None → Tried Ts c t

  none_tried : (c : ℕ) → Tried [] c (Some (at c))
  none_tried c = let z : c ≡ c + 0 = omega arith in passed tt (ap (λ (x : ℕ). Some (at x)) z)

  both_tried : (xs ys : List SeatedState) (c : ℕ) (t : Option Search) (go : Search → Option Search)
      → Tried xs c t → Tried ys (c + length xs) (go (at (c + length xs))) → Tried (xs ++ ys) c (onward t go)
  both_tried xs ys c t go (failed never e) later = failed (λ h. never (names_split xs ys c h).0) (ap (λ (x : Option Search). onward x go) e)
  both_tried xs ys c t go (passed l e) (passed r f) =
      let z : c + length xs + length ys ≡ c + length (xs ++ ys) = omega (arith, length-append xs ys) in
      passed (names_join xs ys c l r) (ap (λ (x : Option Search). onward x go) e ∙ f ∙ ap (λ (x : ℕ). Some (at x)) z)
  both_tried xs ys c t go (passed l e) (failed never f) = failed (λ h. never (names_split xs ys c h).1) (ap (λ (x : Option Search). onward x go) e ∙ f)

  -- a state that a choice leads to
  arrival_tried : (T : SeatedState) (c : ℕ) → Tried (T ∷ []) c (arrives K.roles K.states K.places K.next T (at c))
  unfolding arrives
  arrival_tried T c = go (ltb c (length K.next)) refl (leb k (known_by K.next c)) refl (ltb k (length K.places)) refl (is_row K k T) refl
    where
      k : ℕ
      k = get_or K.next c 0

      go : (x : Bool) → ltb c (length K.next) ≡ x → (y : Bool) → leb k (known_by K.next c) ≡ y
          → (z : Bool) → ltb k (length K.places) ≡ z → (w : Bool) → is_row K k T ≡ w
          → Tried (T ∷ []) c (cond (x && (y && (z && w)))
          (Some (record { known = cond (eqb k (known_by K.next c)) (known_by K.next c + 1) (known_by K.next c); cursor = c + 1 })) None)
      go false ex y ey z ez w ew = failed (λ h. let no : ⊥ = omega (arith, ltb-false c (length K.next) ex, h.0.given) in no) refl
      go true ex false ey z ez w ew = failed (λ h. let no : ⊥ = omega (arith, leb-false k (known_by K.next c) ey, h.0.known) in no) refl
      go true ex true ey false ez w ew = failed (λ h. let no : ⊥ = omega (arith, ltb-false k (length K.places) ez, h.0.row) in no) refl
      go true ex true ey true ez false ew = failed (λ h. not_row k T ew h.0.words) refl
      go true ex true ey true ez true ew =
          let few : k ≤ known_by K.next c = leb-true k (known_by K.next c) ey in
          let one : suc c ≡ c + 1 = omega arith in
          passed
          (record { given = ltb-true c (length K.next) ex; known = few; row = ltb-true k (length K.places) ez; words = row_words_lem k T ew }, tt)
          (ap (λ (x : ℕ). Some (record { known = x; cursor = c + 1 })) (known_next K.next c few ∙ ap (known_by K.next) one))

  choice_tried_lem : (a : Taken SeatedState) (c : ℕ) → Tried (done_by a) c (taken_tried K a (at c))
  choice_tried_lem (refuses n) c = none_tried c
  choice_tried_lem (waits T) c = arrival_tried T c
  choice_tried_lem (steps T) c = arrival_tried T c

  module _ (S : SeatedState) where
    abbrev done_with : ℕ → ℕ → List SeatedState
    done_with i p = done_by (seated_choice K.limited S i p)

    abbrev threads : ℕ
    threads = length S.state.threads

    partners_tried_lem : (i k p c : ℕ) → Tried (collect (done_with i) p k) c (partners_tried K S i p k (at c))
    unfolding collect partners_tried
    partners_tried_lem i zero p c = none_tried c
    partners_tried_lem i (suc k) p c =
        both_tried (done_with i p) (collect (done_with i) (p + 1) k) c (choice_tried K S i p (at c)) (λ x. partners_tried K S i (p + 1) k x)
        (choice_tried_lem (seated_choice K.limited S i p) c)
        (partners_tried_lem i k (p + 1) (c + length (done_with i p)))

    threads_tried_lem : (k i c : ℕ) → Tried (collect (λ x. collect (done_with x) 0 (threads + 1)) i k) c (threads_tried K S i k (at c))
    unfolding collect threads_tried
    threads_tried_lem zero i c = none_tried c
    threads_tried_lem (suc k) i c =
        let here : List SeatedState = collect (done_with i) 0 (threads + 1) in
        both_tried here (collect (λ x. collect (done_with x) 0 (threads + 1)) (i + 1) k) c (partners_tried K S i 0 (threads + 1) (at c))
        (λ x. threads_tried K S (i + 1) k x) (partners_tried_lem i (threads + 1) 0 c)
        (threads_tried_lem k (i + 1) (c + length here))

    pub row_tried_lem : (c : ℕ) → Tried (done_in K S) c (row_tried K S (at c))
    unfolding done_in
    row_tried_lem c = threads_tried_lem threads 1 c

  -- the rows from j on: all hold, or one is the first that doesn't
  abbrev n : ℕ
  n = length K.places

  data RowsEnd (j x : ℕ) : Type 0 where
    all_hold : ((y : ℕ) → j ≤ y → y < n → RowHolds K y) → x ≡ 0 → RowsEnd j x
    one_fails : (k : ℕ) → j ≤ k → k < n → ((y : ℕ) → j ≤ y → y < k → RowHolds K y) → (RowHolds K k → ⊥) → x ≡ suc k → RowsEnd j x

  abbrev before : ℕ → ℕ
  before j = length (done_before K j)

  pub before_next : (j : ℕ) → before j + length (done_in K (row_state K j)) ≡ before (j + 1)
  unfolding done_before
  before_next j =
      let f : ℕ → List SeatedState = λ k. done_in K (row_state K k) in
      let z : j + 1 ≡ suc j = omega arith in
      let y : 0 + j ≡ j = omega arith in
      let last : collect f 0 (j + 1) ≡ collect f 0 j ++ f j = ap (collect f 0) z ∙ collect_last f j 0 ∙ ap (λ (x : ℕ). collect f 0 j ++ f x) y in
      sym (ap length last ∙ length-append (collect f 0 j) (f j))

  from_here : (j k : ℕ) → RowHolds K j → ((y : ℕ) → j + 1 ≤ y → y < k → RowHolds K y) → (y : ℕ) → j ≤ y → y < k → RowHolds K y
  from_here j k here later y from to = go (eqb y j) refl
    where
      go : (b : Bool) → eqb y j ≡ b → RowHolds K y
      go true e = subst (RowHolds K) (sym (eqb-true y j e)) here
      go false e = later y (omega (arith, from, eqb-false y j e)) to

  one_more_lem : (j x : ℕ) → RowHolds K j → RowsEnd (j + 1) x → RowsEnd j x
  one_more_lem j x here (all_hold h e) = all_hold (from_here j n here h) e
  one_more_lem j x here (one_fails k from to h never e) = one_fails k (omega (arith, from)) to (from_here j k here h) never e

  rows_tried_lem : (m j : ℕ) → j + m ≡ n → j ≤ known_by K.next (before j) → RowsEnd j (rows_tried K j m (at (before j)))
  unfolding rows_tried
  rows_tried_lem zero j all le = all_hold (λ y from to. let no : ⊥ = omega (arith, all, from, to) in absurd no) refl
  rows_tried_lem (suc m) j all le = by-known (ltb j known) refl (row_tried_lem (row_state K j) (before j)) (rows_tried_lem m (j + 1) (omega (arith, all)))
    where
      known : ℕ
      known = known_by K.next (before j)

      Later : Type 0
      Later = j + 1 ≤ known_by K.next (before (j + 1)) → RowsEnd (j + 1) (rows_tried K (j + 1) m (at (before (j + 1))))

      here : ((y : ℕ) → j ≤ y → y < j → RowHolds K y)
      here y from to = let no : ⊥ = omega (arith, from, to) in absurd no

      by_row : (t : Option Search) → j < known → Tried (done_in K (row_state K j)) (before j) t → Later → RowsEnd j (row_onward t j (λ x. rows_tried K (j + 1) m x))
      by_row t low (failed never e) later =
          one_fails j (omega arith) (omega (arith, all)) here (λ h. never (each_names (done_in K (row_state K j)) (row_state K j) (before j) h.leads))
          (ap (λ (x : Option Search). row_onward x j (λ y. rows_tried K (j + 1) m y)) e ∙ omega arith)
      by_row t low (passed h e) later =
          let holds : RowHolds K j = record { known = low; leads = names_each (done_in K (row_state K j)) (row_state K j) (before j) h } in
          let grown : known ≤ known_by K.next (before (j + 1)) =
          subst (λ (x : ℕ). known ≤ known_by K.next x) (before_next j) (known_grows K.next (length (done_in K (row_state K j))) (before j)) in
          subst (RowsEnd j) (sym (ap (λ (x : Option Search). row_onward x j (λ y. rows_tried K (j + 1) m y)) (e ∙ ap (λ (x : ℕ). Some (at x)) (before_next j))))
          (one_more_lem j _ holds (later (omega (arith, low, grown))))

      by-known : (b : Bool) → ltb j known ≡ b → Tried (done_in K (row_state K j)) (before j) (row_tried K (row_state K j) (at (before j))) → Later
          → RowsEnd j (cond b (row_onward (row_tried K (row_state K j) (at (before j))) j (λ x. rows_tried K (j + 1) m x)) (known + 1))
      by-known true e t later = by_row (row_tried K (row_state K j) (at (before j))) (ltb-true j known e) t later
      by-known false e t later =
          let high : known ≤ j = ltb-false j known e in
          one_fails j (omega arith) (omega (arith, all)) here (λ h. let no : ⊥ = omega (arith, high, h.known) in no) (omega (arith, high, le))

  -- the row at fault, or none
  pub data Judged (S : SeatedState) (x : ℕ) : Type 0 where
    sound : CertificateHolds K S → x ≡ 0 → Judged S x
    unsound : FaultAt K S x → 1 ≤ x → Judged S x

  pub fault_judged : (S : SeatedState) → Judged S (row_at_fault K S)
  unfolding row_at_fault done_before collect known_by
  fault_judged S = go (is_row K 0 S) refl (rows_tried_lem n 0 (omega arith) (omega arith))
    where
      go : (b : Bool) → is_row K 0 S ≡ b → RowsEnd 0 (rows_tried K 0 n search_begins) → Judged S (cond b (rows_tried K 0 n search_begins) 1)
      go false e end = unsound (inl (refl, not_row 0 S e)) (omega arith)
      go true e (all_hold h z) = sound (record { first = row_words_lem 0 S e; rows = λ j low. h j (omega arith) low }) z
      go true e (one_fails k from to h never z) =
          unsound (inr (k, z, record { first = row_words_lem 0 S e; within = to; below = λ i low. h i (omega arith) low; fails = never })) (omega (arith, z))

  -- never both, and one row alone
  pub holds_not_fault : (S : SeatedState) (k : ℕ) → CertificateHolds K S → FaultAt K S k → ⊥
  holds_not_fault S k H (inl (one, never)) = never H.first
  holds_not_fault S k H (inr (j, is, F)) = F.fails (H.rows j F.within)

  pub one_fault : (S : SeatedState) (k l : ℕ) → FaultAt K S k → FaultAt K S l → k ≡ l
  one_fault S k l (inl (a, never)) (inl (b, again)) = a ∙ sym b
  one_fault S k l (inl (a, never)) (inr (j, b, F)) = absurd (never F.first)
  one_fault S k l (inr (i, a, E)) (inl (b, never)) = absurd (never E.first)
  one_fault S k l (inr (i, a, E)) (inr (j, b, F)) = go (ltb i j) refl (ltb j i) refl
    where
      go : (x : Bool) → ltb i j ≡ x → (y : Bool) → ltb j i ≡ y → k ≡ l
      go true ex y ey = absurd (E.fails (F.below i (ltb-true i j ex)))
      go false ex true ey = absurd (F.fails (E.below j (ltb-true j i ey)))
      go false ex false ey = omega (arith, a, b, ltb-false i j ex, ltb-false j i ey)
