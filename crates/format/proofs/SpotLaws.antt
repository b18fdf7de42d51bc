-- Where the words of the nodes stand, by row and by column: each within the section, no two in one place, and no place left over. So the words at the
-- spots fix the section.
use Prim.Native.Nat.{ℕ, zero, suc, ◌+◌, ◌*◌, ◌-◌, ◌/◌, ◌%◌, ◌≤◌, ◌<◌}
use mathlib.Core.Path.{◌≡◌, refl, sym, ap, ap₂, ◌∙◌}
use mathlib.Core.Logic.{◌≢◌}
use mathlib.Core.Bool.{Bool, true, false, cond}
use mathlib.Core.List.{List, [], ◌∷◌, ◌++◌, map}
use native.Mathlib.Nat.{mul-le-mul}
use native.Mathlib.Omega.{arith}
use lib.Dec.{ltb}
use lib.ListN.{length, get_or, length-map, length-append, get_or-append, get_or-map}
use lib.Seq.{get_or-append-add}
use borrow.Author.Tests.{ltb-true, ltb-false, eq-eqb, ne_eqb}
use Rattle.format.specs.Words.{word_at}
use Rattle.format.specs.Header.{Laid}
use Rattle.format.specs.Sections.{by_column, apart, between, spot, node_spot, node_at, node_of, words_from}
use Rattle.format.specs.Contents.{tabled, item, no_node, contents_at}
use Rattle.format.specs.Writing.{node_rows, node_columns, node_words}
use Rattle.format.specs.declared.Head.{Head}
use Rattle.format.specs.declared.Node.{Node}
use Rattle.format.proofs.HeadLaws.{some_there}
use Rattle.format.proofs.ContentsLaws.{tabled_length, tabled_same, item_made, all_items}

-- of the words 0, 1 and 2
pub each_word : (P : ℕ → Type 0) → P 0 → P 1 → P 2 → (j : ℕ) → j < 3 → P j
each_word P a b c zero h = a
each_word P a b c (suc zero) h = b
each_word P a b c (suc (suc zero)) h = c
each_word P a b c (suc (suc (suc j))) h = let none : ⊥ = omega arith in absurd none

-- what the code multiplies is small
pub product : (x y a b : ℕ) → x ≤ a → y ≤ b → x * y ≤ a * b
product x y a b h g = mul-le-mul {n₁ = x} {m₁ = y} {n₂ = a} {m₂ = b} h g

pub spot_summed : (v k n j p q r s : ℕ) → q ≡ apart v → r ≡ n - 1 → s ≡ between v k → p + q * r + s * j ≡ p + spot v k n j
unfolding spot
spot_summed v k n j p q r s eq er es = sum (q * r) (s * j) ∙ (λ i. p + (eq i * er i + es i * j))
  where
    sum : (x y : ℕ) → p + x + y ≡ p + (x + y)
    sum x y = omega arith

-- within the section
pub spot_within : (v k n j : ℕ) → 1 ≤ n → n ≤ k → j < 3 → spot v k n j < 3 * k
unfolding spot
spot_within v k n j pos le few = each_word (λ j. spot v k n j < 3 * k) (go (by_column v)).0 (go (by_column v)).1 (go (by_column v)).2 j few
  where
    go : (c : Bool) → (cond c 1 3 * (n - 1) + cond c k 1 * 0 < 3 * k) × (cond c 1 3 * (n - 1) + cond c k 1 * 1 < 3 * k) × (cond c 1 3 * (n - 1) + cond c k 1 * 2 < 3 * k)
    go true = (omega arith, omega arith, omega arith)
    go false = (omega arith, omega arith, omega arith)

-- by row the words of a node stand together, by column each a column further
pub row_spot : (h : Head) → h.version ≢ 3 → (n j : ℕ) → node_spot h n j ≡ h.at.nodes + 3 * (n - 1) + j
unfolding spot
row_spot h other n j = rw (ne_eqb h.version 3 other) (omega arith)

pub column_spot : (h : Head) → h.version ≡ 3 → (n j : ℕ) → node_spot h n j ≡ h.at.nodes + (n - 1) + h.count.nodes * j
unfolding spot
column_spot h third n j = rw (eq-eqb h.version 3 third) (omega arith)

-- a node whose words stand a step apart
pub stepped : (f : List ℕ) (h : Head) (n at step : ℕ) → at ≡ node_spot h n 0 → at + step ≡ node_spot h n 1 → at + step + step ≡ node_spot h n 2
    → node_at f at (at + step) (at + step + step) ≡ node_of f h n
stepped f h n at step e0 e1 e2 = λ i. node_at f (e0 i) (e1 i) (e2 i)

-- so a node in count lies within the file
pub node_there : (f : List ℕ) (h : Head) → Laid f h → (n j : ℕ) → 1 ≤ n → n ≤ h.count.nodes → j < 3 → 2 * node_spot h n j + 1 < length f
node_there f h l n j pos le few =
    omega (arith, some_there f h l (omega (arith, l, pos, le)), spot_within h.version h.count.nodes n j pos le few)

-- no two alike: word i of node n and word j of node m
abbrev Alike : Bool → ℕ → ℕ → ℕ → ℕ → ℕ → Type 0
Alike c k n m i j = cond c 1 3 * (n - 1) + cond c k 1 * i ≡ cond c 1 3 * (m - 1) + cond c k 1 * j → (n ≡ m) × (i ≡ j)

pub spot_one : (v k n m i j : ℕ) → 1 ≤ n → n ≤ k → 1 ≤ m → m ≤ k → i < 3 → j < 3 → spot v k n i ≡ spot v k m j → (n ≡ m) × (i ≡ j)
unfolding spot
spot_one v k n m i j p h q g few few' =
    each_word (λ i. Alike (by_column v) k n m i j) (by_word 0 (go0 (by_column v))) (by_word 1 (go1 (by_column v))) (by_word 2 (go2 (by_column v))) i few
  where
    by_word : (i : ℕ) → Alike (by_column v) k n m i 0 × Alike (by_column v) k n m i 1 × Alike (by_column v) k n m i 2 → Alike (by_column v) k n m i j
    by_word i s = each_word (λ j. Alike (by_column v) k n m i j) s.0 s.1 s.2 j few'

    go0 : (c : Bool) → Alike c k n m 0 0 × Alike c k n m 0 1 × Alike c k n m 0 2
    go0 true = (λ e. (omega arith, refl), λ e. absurd (omega arith), λ e. absurd (omega arith))
    go0 false = (λ e. (omega arith, refl), λ e. absurd (omega arith), λ e. absurd (omega arith))

    go1 : (c : Bool) → Alike c k n m 1 0 × Alike c k n m 1 1 × Alike c k n m 1 2
    go1 true = (λ e. absurd (omega arith), λ e. (omega arith, refl), λ e. absurd (omega arith))
    go1 false = (λ e. absurd (omega arith), λ e. (omega arith, refl), λ e. absurd (omega arith))

    go2 : (c : Bool) → Alike c k n m 2 0 × Alike c k n m 2 1 × Alike c k n m 2 2
    go2 true = (λ e. absurd (omega arith), λ e. absurd (omega arith), λ e. (omega arith, refl))
    go2 false = (λ e. absurd (omega arith), λ e. absurd (omega arith), λ e. (omega arith, refl))

-- every place of the section is the spot of a word
pub record Spotted (v k p : ℕ) : Type 0 where
  pub node : ℕ
  pub word : ℕ
  pub from_one : 1 ≤ node
  pub in_count : node ≤ k
  pub few : word < 3
  pub here : spot v k node word ≡ p

pub spot_found : (v k p : ℕ) → p < 3 * k → Spotted v k p
unfolding spot
spot_found v k p h = go (by_column v) refl
  where
    go : (c : Bool) → by_column v ≡ c → Spotted v k p
    go false e = record { node = p / 3 + 1; word = p % 3; from_one = omega arith; in_count = omega arith; few = omega arith; here = rw e (omega arith) }
    go true e = first (ltb p k) refl
      where
        second : (b : Bool) → ltb p (2 * k) ≡ b → k ≤ p → Spotted v k p
        second true t late = let l = ltb-true p (2 * k) t in record { node = p - k + 1; word = 1; from_one = omega arith; in_count = omega arith; few = omega arith; here = rw e (omega arith) }
        second false t late = let l = ltb-false p (2 * k) t in record { node = p - 2 * k + 1; word = 2; from_one = omega arith; in_count = omega arith; few = omega arith; here = rw e (omega arith) }

        first : (b : Bool) → ltb p k ≡ b → Spotted v k p
        first true t = let l = ltb-true p k t in record { node = p + 1; word = 0; from_one = omega arith; in_count = omega arith; few = omega arith; here = rw e (omega arith) }
        first false t = second (ltb p (2 * k)) refl (ltb-false p k t)

-- word j of a node
abbrev pub field_of : Node → ℕ → ℕ
field_of n zero = n.tag
field_of n (suc zero) = n.f1
field_of n (suc (suc j)) = n.f2

pub node_rows_length : (ns : List Node) → length (node_rows ns) ≡ 3 * length ns
unfolding node_rows
node_rows_length [] = refl
node_rows_length (n ∷ ns) = omega (arith, node_rows_length ns)

columns_length : (ns : List Node) → length (node_columns ns) ≡ 3 * length ns
unfolding node_columns
columns_length ns =
    simp length-append
    (omega (arith, length-map ns (λ (n : Node). n.tag), length-map ns (λ (n : Node). n.f1), length-map ns (λ (n : Node). n.f2)))

pub node_words_length : (v : ℕ) (ns : List Node) → length (node_words v ns) ≡ 3 * length ns
node_words_length v ns = go (by_column v)
  where
    go : (c : Bool) → length (cond c (node_columns ns) (node_rows ns)) ≡ 3 * length ns
    go true = columns_length ns
    go false = node_rows_length ns

-- the words of the node at index m, by row and by column
abbrev Laying : List ℕ → ℕ → ℕ → ℕ → Node → Type 0
Laying ws a b c n = (get_or ws a 0 ≡ n.tag) × (get_or ws b 0 ≡ n.f1) × (get_or ws c 0 ≡ n.f2)

row_laid : (ns : List Node) (m : ℕ) → m < length ns → Laying (node_rows ns) (3 * m) (3 * m + 1) (3 * m + 2) (get_or ns m no_node)
unfolding node_rows
row_laid [] m h = let none : ⊥ = omega arith in absurd none
row_laid (n ∷ ns) zero h = (refl, refl, refl)
row_laid (n ∷ ns) (suc m) h =
    let z0 : 3 * suc m ≡ suc (suc (suc (3 * m))) = omega arith in
    let z1 : 3 * suc m + 1 ≡ suc (suc (suc (3 * m + 1))) = omega arith in
    let z2 : 3 * suc m + 2 ≡ suc (suc (suc (3 * m + 2))) = omega arith in
    let r = row_laid ns m (omega arith) in
    (rw z0 r.0, rw z1 r.1, rw z2 r.2)

column_laid : (ns : List Node) (m : ℕ) → m < length ns → Laying (node_columns ns) m (length ns + m) (2 * length ns + m) (get_or ns m no_node)
unfolding node_columns
column_laid ns m h =
    let A : List ℕ = map (λ (n : Node). n.tag) ns in
    let B : List ℕ = map (λ (n : Node). n.f1) ns in
    let C : List ℕ = map (λ (n : Node). n.f2) ns in
    let la : length A ≡ length ns = length-map ns (λ (n : Node). n.tag) in
    let lb : length B ≡ length ns = length-map ns (λ (n : Node). n.f1) in
    let e1 : length ns + m ≡ length A + m = omega (arith, la) in
    let e2 : 2 * length ns + m ≡ length A + (length B + m) = omega (arith, la, lb) in (
      get_or-append A (B ++ C) 0 m (omega (arith, la)) ∙ get_or-map (λ (n : Node). n.tag) ns m no_node,
      ap (λ q. get_or (A ++ (B ++ C)) q 0) e1 ∙ get_or-append-add A (B ++ C) m 0 ∙ get_or-append B C 0 m (omega (arith, lb)) ∙ get_or-map (λ (n : Node). n.f1) ns m no_node,
      ap (λ q. get_or (A ++ (B ++ C)) q 0) e2 ∙ get_or-append-add A (B ++ C) (length B + m) 0 ∙ get_or-append-add B C m 0 ∙ get_or-map (λ (n : Node). n.f2) ns m no_node,
    )

-- each word at its spot
pub word_laid : (v : ℕ) (ns : List Node) (n j : ℕ) → 1 ≤ n → n ≤ length ns → j < 3 → get_or (node_words v ns) (spot v (length ns) n j) 0 ≡ field_of (item no_node ns n) j
unfolding spot item
word_laid v ns zero j pos le few = let none : ⊥ = omega arith in absurd none
word_laid v ns (suc m) j pos le few =
    each_word (λ j. get_or (node_words v ns) (spot v (length ns) (suc m) j) 0 ≡ field_of (get_or ns m no_node) j) (go (by_column v)).0 (go (by_column v)).1 (go (by_column v)).2 j few
  where
    k : ℕ
    k = length ns

    go : (c : Bool) → Laying (cond c (node_columns ns) (node_rows ns)) (cond c 1 3 * (suc m - 1) + cond c k 1 * 0) (cond c 1 3 * (suc m - 1) + cond c k 1 * 1) (cond c 1 3 * (suc m - 1) + cond c k 1 * 2) (get_or ns m no_node)
    go true =
        let e0 : 1 * (suc m - 1) + k * 0 ≡ m = omega arith in
        let e1 : 1 * (suc m - 1) + k * 1 ≡ k + m = omega arith in
        let e2 : 1 * (suc m - 1) + k * 2 ≡ 2 * k + m = omega arith in
        let r = column_laid ns m le in
        (rw e0 r.0, rw e1 r.1, rw e2 r.2)
    go false =
        let e0 : 3 * (suc m - 1) + 1 * 0 ≡ 3 * m = omega arith in
        let e1 : 3 * (suc m - 1) + 1 * 1 ≡ 3 * m + 1 = omega arith in
        let e2 : 3 * (suc m - 1) + 1 * 2 ≡ 3 * m + 2 = omega arith in
        let r = row_laid ns m le in
        (rw e0 r.0, rw e1 r.1, rw e2 r.2)

-- lists with the same numbers at the same places
pub same_lists : (xs ys : List ℕ) → length xs ≡ length ys → ((i : ℕ) → i < length xs → get_or xs i 0 ≡ get_or ys i 0) → xs ≡ ys
same_lists [] [] e h = refl
same_lists [] (y ∷ ys) e h = let none : ⊥ = omega arith in absurd none
same_lists (x ∷ xs) [] e h = let none : ⊥ = omega arith in absurd none
same_lists (x ∷ xs) (y ∷ ys) e h = ap₂ {C = List ℕ} (λ a r. a ∷ r) (h 0 (omega arith)) (same_lists xs ys (omega arith) (λ i l. h (suc i) (omega arith)))

-- as many words, each node's at its spots, are the section
pub section_fixed : (v : ℕ) (ns : List Node) (ws : List ℕ) → length ws ≡ 3 * length ns
    → ((n j : ℕ) → 1 ≤ n → n ≤ length ns → j < 3 → get_or ws (spot v (length ns) n j) 0 ≡ field_of (item no_node ns n) j) → ws ≡ node_words v ns
section_fixed v ns ws size each = same_lists ws (node_words v ns) (size ∙ sym (node_words_length v ns)) at
  where
    at : (p : ℕ) → p < length ws → get_or ws p 0 ≡ get_or (node_words v ns) p 0
    at p h =
        let s : Spotted v (length ns) p = spot_found v (length ns) p (omega (arith, size)) in
        ap (λ q. get_or ws q 0) (sym s.here) ∙ each s.node s.word s.from_one s.in_count s.few
        ∙ sym (word_laid v ns s.node s.word s.from_one s.in_count s.few) ∙ ap (λ q. get_or (node_words v ns) q 0) s.here

-- so many words from an offset on
pub words_length : (f : List ℕ) (p k : ℕ) → length (words_from f p k) ≡ k
unfolding words_from
words_length f p zero = refl
words_length f p (suc k) = ap suc (words_length f (suc p) k)

words_at : (f : List ℕ) (p k i : ℕ) → i < k → get_or (words_from f p k) i 0 ≡ word_at f (p + i)
unfolding words_from
words_at f p zero i h = let none : ⊥ = omega arith in absurd none
words_at f p (suc k) zero h = let e : p ≡ p + 0 = omega arith in ap (word_at f) e
words_at f p (suc k) (suc i) h = let e : suc p + i ≡ p + suc i = omega arith in words_at f (suc p) k i (omega arith) ∙ ap (word_at f) e

-- a file's words from its nodes on are those of the nodes that it holds
pub section_words : (f : List ℕ) (h : Head) → words_from f h.at.nodes (3 * h.count.nodes) ≡ node_words h.version (contents_at f h).nodes
unfolding contents_at
section_words f h = section_fixed v ns (words_from f p (3 * k)) (words_length f p (3 * k) ∙ ap (λ x. 3 * x) (sym held)) each
  where
    v : ℕ
    v = h.version

    p : ℕ
    p = h.at.nodes

    k : ℕ
    k = h.count.nodes

    ns : List Node
    ns = tabled (node_of f h) 1 k

    held : length ns ≡ k
    held = tabled_length (node_of f h) 1 k

    each : (n j : ℕ) → 1 ≤ n → n ≤ length ns → j < 3 → get_or (words_from f p (3 * k)) (spot v (length ns) n j) 0 ≡ field_of (item no_node ns n) j
    each n j pos le few =
        let in_count : n ≤ k = omega (arith, le, held) in
        ap (λ x. get_or (words_from f p (3 * k)) (spot v x n j) 0) held
        ∙ words_at f p (3 * k) (spot v k n j) (spot_within v k n j pos in_count few)
        ∙ each_word (λ j. word_at f (node_spot h n j) ≡ field_of (node_of f h n) j) refl refl refl j few
        ∙ ap (λ (x : Node). field_of x j) (sym (item_made no_node (node_of f h) k n pos in_count))

-- and the nodes read where the words stand are the nodes
pub section_read : (f : List ℕ) (h : Head) (ns : List Node) → h.count.nodes ≡ length ns
    → ((i : ℕ) → i < 3 * length ns → word_at f (h.at.nodes + i) ≡ get_or (node_words h.version ns) i 0) → tabled (node_of f h) 1 (length ns) ≡ ns
section_read f h ns e holds = tabled_same (node_of f h) (item no_node ns) 1 (length ns) same ∙ all_items no_node ns
  where
    v : ℕ
    v = h.version

    word : (n j : ℕ) → 1 ≤ n → n ≤ length ns → j < 3 → word_at f (node_spot h n j) ≡ field_of (item no_node ns n) j
    word n j pos le few =
        ap (λ k. word_at f (h.at.nodes + spot v k n j)) e ∙ holds (spot v (length ns) n j) (spot_within v (length ns) n j pos le few) ∙ word_laid v ns n j pos le few

    same : (n : ℕ) → 1 ≤ n → n < 1 + length ns → node_of f h n ≡ item no_node ns n
    same n pos le =
        let tag = word n 0 pos (omega arith) (omega arith) in
        let f1 = word n 1 pos (omega arith) (omega arith) in
        let f2 = word n 2 pos (omega arith) (omega arith) in
        λ i. record { tag = tag i; f1 = f1 i; f2 = f2 i }
