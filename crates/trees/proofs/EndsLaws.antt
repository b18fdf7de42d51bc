-- The table of ends, as the backward loop fills it, against the trees that can be followed.
use Prim.Native.Nat.{ℕ, suc, ◌+◌, ◌-◌, ◌≤◌, ◌<◌}
use mathlib.Core.Path.{◌≡◌, refl, sym, ap, ◌∙◌}
use mathlib.Core.Bool.{Bool, true, false, cond}
use mathlib.Core.List.{List, [], ◌∷◌, ◌++◌, append_assoc, append-nil}
use native.Mathlib.Omega.{arith}
use native.Mathlib.Numerals.{add-one}
use lib.ListN.{length, get_or, take, drop, set, length-append, length-drop, length-set, take-append-drop, get_or-eq_default, drop_of_length-le}
use lib.Seq.{length-take-le, get_or_at, get_or-drop, get_or-set_other, get_or-set_same}
use lib.Dec.{eqb, leb}
use Rattle.format.specs.Contents.{item, no_node}
use Rattle.format.specs.Stacks.{top, rest}
use Rattle.format.proofs.ContentsLaws.{from_item, none_past, drop-set}
use Rattle.trees.specs.Ends.{grown, following, table_from, table_of, end_of}
use Rattle.format.specs.declared.Node.{Node}

top_grown : (t i : ℕ) (st : List ℕ) → top (grown t i st) ≡ end_of t (suc i) (top st) (top (rest st))
top_grown t i st = go (eqb t 0) (eqb t 1) (leb t 8)
  where
    go : (a b c : Bool) → top (cond a (suc i ∷ st) (cond b (rest st) (cond c st []))) ≡ cond a (suc i) (cond b (top (rest st)) (cond c (top st) 0))
    go true b c = refl
    go false true c = refl
    go false false true = refl
    go false false false = refl

pub table_head : (i : ℕ) (ns : List Node) → get_or (table_from i ns) 0 0 ≡ top (following i ns)
unfolding table_from following
table_head i [] = refl
table_head i (n ∷ ns) = refl

pub table_length : (i : ℕ) (ns : List Node) → length (table_from i ns) ≡ suc (length ns)
unfolding table_from
table_length i [] = refl
table_length i (n ∷ ns) = ap suc (table_length (suc i) ns)

head_at : (p ys : List ℕ) (i : ℕ) → length p ≡ i → get_or (p ++ ys) i 0 ≡ get_or ys 0 0
head_at p [] i e = simp append-nil (get_or-eq_default p 0 (omega arith))
head_at p (y ∷ ys) i e = get_or_at p y ys 0 i e

-- each end on the following has the next one at its own place in the table
abbrev Chain : List ℕ → ℕ → ℕ → List ℕ → Type 0
Chain l lo hi [] = Unit {0}
Chain l lo hi (e ∷ st) = (lo < e) × (e ≤ hi) × (get_or l e 0 ≡ top st) × Chain l lo hi st

chain_low : (l : List ℕ) (lo hi : ℕ) (st : List ℕ) → Chain l (suc lo) hi st → Chain l lo hi st
chain_low l lo hi [] h = tt
chain_low l lo hi (e ∷ st) h = (omega arith, h.1, h.2, chain_low l lo hi st h.3)

chain_rest : (l : List ℕ) (lo hi : ℕ) (st : List ℕ) → Chain l lo hi st → Chain l lo hi (rest st)
chain_rest l lo hi [] h = tt
chain_rest l lo hi (e ∷ st) h = h.3

chain_grown : (l : List ℕ) (t i hi : ℕ) (st : List ℕ) → suc i ≤ hi → get_or l (suc i) 0 ≡ top st → Chain l i hi st → Chain l i hi (grown t i st)
chain_grown l t i hi st le e h = go (eqb t 0) (eqb t 1) (leb t 8)
  where
    go : (a b c : Bool) → Chain l i hi (cond a (suc i ∷ st) (cond b (rest st) (cond c st [])))
    go true b c = (omega arith, le, e, h)
    go false true c = chain_rest l i hi st h
    go false false true = h
    go false false false = tt

chain_following : (pre : List ℕ) (i : ℕ) (ns : List Node) → length pre ≡ i → Chain (pre ++ table_from i ns) i (i + length ns) (following i ns)
unfolding following table_from
chain_following pre i [] e = tt
chain_following pre i (n ∷ ns) e =
    let x : ℕ = top (following i (n ∷ ns)) in
    let st : List ℕ = following (suc i) ns in
    let l : List ℕ = pre ++ x ∷ table_from (suc i) ns in
    let same : (pre ++ (x ∷ [])) ++ table_from (suc i) ns ≡ l = simp append_assoc in
    let hi : suc i + length ns ≡ i + suc (length ns) = omega arith in
    let long : length (pre ++ (x ∷ [])) ≡ suc i = simp length-append (omega arith) in
    let h : Chain l (suc i) (i + suc (length ns)) st =
    rw (same, hi) at (chain_following (pre ++ (x ∷ [])) (suc i) ns long) in
    let next : get_or l (suc i) 0 ≡ top st =
    rw (← same) (head_at (pre ++ (x ∷ [])) (table_from (suc i) ns) (suc i) long ∙ table_head (suc i) ns) in
    chain_grown l n.tag i (i + suc (length ns)) st (omega arith) next (chain_low l i (i + suc (length ns)) st h)

-- the table from the number i on, read at a node's end
two : (l : List ℕ) (i : ℕ) (ns : List Node) → i ≤ length l → drop i l ≡ table_from i ns → get_or l 0 0 ≡ 0
    → (top (following i ns) < length l) × (get_or l (top (following i ns)) 0 ≡ top (rest (following i ns)))
two l i ns le e z = go (following i ns) chain
  where
    long : length l ≡ i + suc (length ns)
    long = omega (arith, length-drop i l, ap length e, table_length i ns)

    whole : take i l ++ table_from i ns ≡ l
    whole = rw (← e) (take-append-drop i l)

    chain : Chain l i (i + length ns) (following i ns)
    chain = rw whole at (chain_following (take i l) i ns (length-take-le i l le))

    go : (st : List ℕ) → Chain l i (i + length ns) st → (top st < length l) × (get_or l (top st) 0 ≡ top (rest st))
    go [] h = (omega (arith, long), z)
    go (x ∷ st) h = (omega (arith, long), h.2)

first-at : (l : List ℕ) (i : ℕ) (ns : List Node) → drop i l ≡ table_from i ns → get_or l i 0 ≡ top (following i ns)
first-at l i ns e = let z : i + 0 ≡ i = omega arith in (rw z at (sym (get_or-drop i l 0 0))) ∙ ap (λ x. get_or x 0 0) e ∙ table_head i ns

-- one turn of the loop, at the node i
pub again : (xs : List Node) (i : ℕ) (l : List ℕ) (v : ℕ) → 0 < i → i ≤ length xs → length l ≡ length xs + 2 → get_or l 0 0 ≡ 0
    → drop (suc i) l ≡ table_from (suc i) (drop i xs)
    → v ≡ end_of (item no_node xs i).tag (i + 1) (get_or l (i + 1) 0) (get_or l (get_or l (i + 1) 0) 0)
    → drop (suc (i - 1)) (set l i v) ≡ table_from (suc (i - 1)) (drop (i - 1) xs)
unfolding table_from following
again xs i l v pos le len z h e =
    let same : suc (i - 1) ≡ i = omega arith in
    let st : List ℕ = following (suc i) (drop i xs) in
    let one : get_or l (suc i) 0 ≡ top st = first-at l (suc i) (drop i xs) h in
    let two' : get_or l (top st) 0 ≡ top (rest st) = (two l (suc i) (drop i xs) (omega arith) h z).1 in
    let v' : v ≡ end_of (item no_node xs i).tag (suc i) (top st) (top (rest st)) = e ∙ rw (add-one i, one, two') in
    rw (same, from_item no_node xs i pos le)
    (rw (drop-set l i v (omega arith), h) (ap (λ x. x ∷ table_from (suc i) (drop i xs)) (v' ∙ sym (top_grown (item no_node xs i).tag i st))))

pub begin : (xs : List Node) (n : ℕ) (l : List ℕ) → length xs ≡ n → length l ≡ n + 2
    → (get_or (set (set l 0 0) (n + 1) 0) 0 0 ≡ 0) × (drop (suc n) (set (set l 0 0) (n + 1) 0) ≡ table_from (suc n) (drop n xs))
unfolding table_from
begin xs n l all len =
    let long : length (set l 0 0) ≡ n + 2 = length-set l 0 0 ∙ len in
    let past : drop (suc (suc n)) (set l 0 0) ≡ [] = drop_of_length-le (set l 0 0) {i = suc (suc n)} (omega arith) in (
      get_or-set_other (set l 0 0) (n + 1) 0 0 0 (λ e. let no : 0 ≡ n + 1 = e in omega arith) ∙ get_or-set_same l 0 0 0 (omega arith),
      rw (none_past xs n (omega arith), add-one) (drop-set (set l 0 0) (suc n) 0 (omega arith) ∙ ap (0 ∷◌) past),
    )

pub finish : (l : List ℕ) (ns : List Node) → 0 < length l → get_or l 0 0 ≡ 0 → drop 1 l ≡ table_from 1 ns → l ≡ table_of ns
unfolding table_of
finish [] ns pos z e = let no : ⊥ = omega arith in absurd no
finish (x ∷ xs) ns pos z e = cc

pub keep_first : (l : List ℕ) (i v : ℕ) → 0 < i → get_or l 0 0 ≡ 0 → get_or (set l i v) 0 0 ≡ 0
keep_first l i v pos z = get_or-set_other l i 0 v 0 (λ e. let no : 0 ≡ i = e in omega arith) ∙ z

pub in_table : (l : List ℕ) (i : ℕ) (ns : List Node) → i < length l → get_or l 0 0 ≡ 0 → drop (suc i) l ≡ table_from (suc i) ns → get_or l (i + 1) 0 < length l
in_table l i ns le z e = rw (add-one, first-at l (suc i) ns e) (two l (suc i) ns le e z).0

pub same_end : {t t' a a' b b' c c' : ℕ} → t ≡ t' → a ≡ a' → b ≡ b' → c ≡ c' → end_of t a b c ≡ end_of t' a' b' c'
same_end e f g h = rw (e, f, g, h)
