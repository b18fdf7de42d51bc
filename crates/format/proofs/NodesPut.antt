-- Nodes put in one by one, each word at its spot, are the section.
use Prim.Native.Nat.{ℕ, zero, suc, ◌+◌, ◌*◌, ◌-◌, ◌/◌, ◌%◌, ◌≤◌, ◌<◌}
use mathlib.Core.Path.{◌≡◌, refl, sym, ap, ◌∙◌}
use mathlib.Core.Logic.{◌≢◌, ◌⊎◌, inl, inr}
use mathlib.Core.Bool.{Bool, true, false}
use mathlib.Core.List.{List, [], ◌∷◌, ◌++◌}
use native.Mathlib.Omega.{arith}
use lib.Dec.{eqb, ltb}
use lib.ListN.{length, get_or, set, length-set}
use lib.Seq.{sets, length-sets, get_or-set_other, get_or-set_same}
use borrow.Author.Tests.{eqb-true, eqb-false, ltb-true, ltb-false}
use Rattle.format.specs.Words.{bytes_of}
use Rattle.format.specs.Header.{length_for}
use Rattle.format.specs.Sections.{by_column, spot, node_spot}
use Rattle.format.specs.Contents.{no_node}
use Rattle.format.specs.Writing.{node_rows, node_words, word_put, node_put, nodes_put}
use Rattle.format.specs.declared.Head.{Head}
use Rattle.format.specs.declared.Node.{Node}
use Rattle.format.proofs.PutRuns.{bytes_length, puts_then}
use Rattle.format.proofs.ContentsLaws.{item_get}
use Rattle.format.proofs.SpotLaws.{each_word, spot_within, spot_one, Spotted, spot_found, field_of, node_words_length, word_laid, same_lists}

-- after nodes come nodes
pub nodes_append : (h : Head) (n : ℕ) (ms ns : List Node) (l : List ℕ) → nodes_put h n (ms ++ ns) l ≡ nodes_put h (n + length ms) ns (nodes_put h n ms l)
unfolding nodes_put
nodes_append h n [] ns l = let z : n + 0 ≡ n = omega arith in ap (λ k. nodes_put h k ns l) (sym z)
nodes_append h n (m ∷ ms) ns l =
    let z : suc n + length ms ≡ n + suc (length ms) = omega arith in
    nodes_append h (suc n) ms ns (node_put h n m l) ∙ ap (λ k. nodes_put h k ns (nodes_put h (suc n) ms (node_put h n m l))) z

pub no_nodes : (h : Head) (n : ℕ) (l : List ℕ) → nodes_put h n [] l ≡ l
unfolding nodes_put
no_nodes h n l = refl

pub one_node : (h : Head) (n : ℕ) (it : Node) (l : List ℕ) → nodes_put h n (it ∷ []) l ≡ node_put h n it l
unfolding nodes_put
one_node h n it l = refl

pub put_length : (h : Head) (n : ℕ) (it : Node) (l : List ℕ) → length (node_put h n it l) ≡ length l
put_length h n it l =
    let one : List ℕ = word_put (node_spot h n 0) it.tag l in
    let two : List ℕ = word_put (node_spot h n 1) it.f1 one in
    length-sets two (2 * node_spot h n 2) (bytes_of (it.f2 ∷ [])) ∙ length-sets one (2 * node_spot h n 1) (bytes_of (it.f1 ∷ [])) ∙ length-sets l (2 * node_spot h n 0) (bytes_of (it.tag ∷ []))

pub puts_length : (h : Head) (n : ℕ) (ns : List Node) (l : List ℕ) → length (nodes_put h n ns l) ≡ length l
unfolding nodes_put
puts_length h n [] l = refl
puts_length h n (it ∷ ns) l = puts_length h (suc n) ns (node_put h n it l) ∙ put_length h n it l

-- the bytes of the word at an offset: they are that word's, or the same as in another list
abbrev Has : List ℕ → ℕ → ℕ → Type 0
Has l q w = (get_or l (2 * q) 0 ≡ w % 256) × (get_or l (2 * q + 1) 0 ≡ w / 256)

abbrev SameWord : List ℕ → List ℕ → ℕ → Type 0
SameWord l m q = (get_or l (2 * q) 0 ≡ get_or m (2 * q) 0) × (get_or l (2 * q + 1) 0 ≡ get_or m (2 * q + 1) 0)

same_words : (l m : List ℕ) → length l ≡ length m → ((q : ℕ) → SameWord l m q) → l ≡ m
same_words l m e each = same_lists l m e at
  where
    at : (x : ℕ) → x < length l → get_or l x 0 ≡ get_or m x 0
    at x h = go (eqb (x % 2) 0) refl
      where
        go : (b : Bool) → eqb (x % 2) 0 ≡ b → get_or l x 0 ≡ get_or m x 0
        go true t = let z : x ≡ 2 * (x / 2) = omega (arith, eqb-true (x % 2) 0 t) in ap (λ k. get_or l k 0) z ∙ (each (x / 2)).0 ∙ ap (λ k. get_or m k 0) (sym z)
        go false t = let z : x ≡ 2 * (x / 2) + 1 = omega (arith, eqb-false (x % 2) 0 t) in ap (λ k. get_or l k 0) z ∙ (each (x / 2)).1 ∙ ap (λ k. get_or m k 0) (sym z)

-- what a run of stores has, and what it leaves
sets_out : (vs l : List ℕ) (i x : ℕ) → (x < i) ⊎ (i + length vs ≤ x) → get_or (sets l i vs) x 0 ≡ get_or l x 0
sets_out [] l i x h = refl
sets_out (v ∷ vs) l i x h = sets_out vs (set l i v) (suc i) x (later h) ∙ get_or-set_other l i x v 0 (λ e. apart h e)
  where
    later : (x < i) ⊎ (i + suc (length vs) ≤ x) → (x < suc i) ⊎ (suc i + length vs ≤ x)
    later (inl a) = inl (omega arith)
    later (inr a) = inr (omega arith)

    apart : (x < i) ⊎ (i + suc (length vs) ≤ x) → x ≡ i → ⊥
    apart (inl a) e = omega arith
    apart (inr a) e = omega arith

sets_in : (vs l : List ℕ) (i k : ℕ) → i + length vs ≤ length l → k < length vs → get_or (sets l i vs) (i + k) 0 ≡ get_or vs k 0
sets_in [] l i k room h = let none : ⊥ = omega arith in absurd none
sets_in (v ∷ vs) l i zero room h =
    let z : i + 0 ≡ i = omega arith in
    rw z (sets_out vs (set l i v) (suc i) i (inl (omega arith)) ∙ get_or-set_same l i v 0 (omega arith))
sets_in (v ∷ vs) l i (suc k) room h =
    let z : i + suc k ≡ suc i + k = omega arith in
    rw z (sets_in vs (set l i v) (suc i) k (omega (arith, length-set l i v)) (omega arith))

bytes_at : (ws : List ℕ) (k : ℕ) → (get_or (bytes_of ws) (2 * k) 0 ≡ get_or ws k 0 % 256) × (get_or (bytes_of ws) (2 * k + 1) 0 ≡ get_or ws k 0 / 256)
unfolding bytes_of
bytes_at [] k = (omega arith, omega arith)
bytes_at (w ∷ ws) zero = (refl, refl)
bytes_at (w ∷ ws) (suc k) =
    let low : 2 * suc k ≡ suc (suc (2 * k)) = omega arith in
    let high : 2 * suc k + 1 ≡ suc (suc (2 * k + 1)) = omega arith in
    (rw low (bytes_at ws k).0, rw high (bytes_at ws k).1)

run_out : (ws l : List ℕ) (i q : ℕ) → (q < i) ⊎ (i + length ws ≤ q) → SameWord (sets l (2 * i) (bytes_of ws)) l q
run_out ws l i q h = (sets_out (bytes_of ws) l (2 * i) (2 * q) (low h), sets_out (bytes_of ws) l (2 * i) (2 * q + 1) (high h))
  where
    low : (q < i) ⊎ (i + length ws ≤ q) → (2 * q < 2 * i) ⊎ (2 * i + length (bytes_of ws) ≤ 2 * q)
    low (inl a) = inl (omega arith)
    low (inr a) = inr (omega (arith, bytes_length ws))

    high : (q < i) ⊎ (i + length ws ≤ q) → (2 * q + 1 < 2 * i) ⊎ (2 * i + length (bytes_of ws) ≤ 2 * q + 1)
    high (inl a) = inl (omega arith)
    high (inr a) = inr (omega (arith, bytes_length ws))

run_in : (ws l : List ℕ) (i k : ℕ) → 2 * (i + length ws) ≤ length l → k < length ws → Has (sets l (2 * i) (bytes_of ws)) (i + k) (get_or ws k 0)
run_in ws l i k room h =
    let z : 2 * (i + k) ≡ 2 * i + 2 * k = omega arith in
    let y : 2 * (i + k) + 1 ≡ 2 * i + (2 * k + 1) = omega arith in
    let b = bytes_length ws in (
      ap (λ x. get_or (sets l (2 * i) (bytes_of ws)) x 0) z ∙ sets_in (bytes_of ws) l (2 * i) (2 * k) (omega (arith, b)) (omega (arith, b)) ∙ (bytes_at ws k).0,
      ap (λ x. get_or (sets l (2 * i) (bytes_of ws)) x 0) y ∙ sets_in (bytes_of ws) l (2 * i) (2 * k + 1) (omega (arith, b)) (omega (arith, b)) ∙ (bytes_at ws k).1,
    )

word_out : (p w q : ℕ) (l : List ℕ) → q ≢ p → SameWord (word_put p w l) l q
word_out p w q l h = run_out (w ∷ []) l p q (go (ltb q p) refl)
  where
    go : (b : Bool) → ltb q p ≡ b → (q < p) ⊎ (p + 1 ≤ q)
    go true t = inl (ltb-true q p t)
    go false t = inr (let late = ltb-false q p t in omega (arith, late, further late))
      where
        further : p ≤ q → p < q
        further le = other (eqb q p) refl
          where
            other : (b : Bool) → eqb q p ≡ b → p < q
            other true e = absurd (h (eqb-true q p e))
            other false e = omega (arith, eqb-false q p e, le)

word_in : (p w : ℕ) (l : List ℕ) → 2 * p + 1 < length l → Has (word_put p w l) p w
word_in p w l room =
    let z : p + 0 ≡ p = omega arith in
    let r = run_in (w ∷ []) l p 0 (omega arith) (omega arith) in
    rw z at r

module _ (h : Head) where
  abbrev k : ℕ
  k = h.count.nodes

  -- no word of node n stands at an offset
  abbrev Clear : ℕ → ℕ → Type 0
  Clear n q = (j : ℕ) → j < 3 → q ≢ node_spot h n j

  node_out : (n q : ℕ) (it : Node) (l : List ℕ) → Clear n q → SameWord (node_put h n it l) l q
  node_out n q it l c =
      let one : List ℕ = word_put (node_spot h n 0) it.tag l in
      let two : List ℕ = word_put (node_spot h n 1) it.f1 one in
      let a = word_out (node_spot h n 2) it.f2 q two (c 2 (omega arith)) in
      let b = word_out (node_spot h n 1) it.f1 q one (c 1 (omega arith)) in
      let d = word_out (node_spot h n 0) it.tag q l (c 0 (omega arith)) in
      (a.0 ∙ (b.0 ∙ d.0), a.1 ∙ (b.1 ∙ d.1))

  nodes_out : (n q : ℕ) (ns : List Node) (l : List ℕ) → ((m : ℕ) → n ≤ m → m < n + length ns → Clear m q) → SameWord (nodes_put h n ns l) l q
  unfolding nodes_put
  nodes_out n q [] l c = (refl, refl)
  nodes_out n q (it ∷ ns) l c =
      let later = nodes_out (suc n) q ns (node_put h n it l) (λ m a b. c m (omega arith) (omega arith)) in
      let here = node_out n q it l (c n (omega arith) (omega arith)) in
      (later.0 ∙ here.0, later.1 ∙ here.1)

  -- the words of one node stand apart
  other_word : (n i j : ℕ) → 1 ≤ n → n ≤ k → i < 3 → j < 3 → i ≢ j → node_spot h n i ≢ node_spot h n j
  other_word n i j pos le fi fj other e = other (spot_one h.version k n n i j pos le pos le fi fj (omega (arith, e))).1

  other_node : (n m i j : ℕ) → 1 ≤ n → n ≤ k → 1 ≤ m → m ≤ k → i < 3 → j < 3 → n ≢ m → node_spot h n i ≢ node_spot h m j
  other_node n m i j pos le pos' le' fi fj other e = other (spot_one h.version k n m i j pos le pos' le' fi fj (omega (arith, e))).0

  node_in : (n : ℕ) (it : Node) (l : List ℕ) → 1 ≤ n → n ≤ k → length_for h.at.nodes k ≤ length l → (j : ℕ) → j < 3 → Has (node_put h n it l) (node_spot h n j) (field_of it j)
  node_in n it l pos le room =
      let one : List ℕ = word_put (node_spot h n 0) it.tag l in
      let two : List ℕ = word_put (node_spot h n 1) it.f1 one in
      let same1 : length one ≡ length l = length-sets l (2 * node_spot h n 0) (bytes_of (it.tag ∷ [])) in
      let same2 : length two ≡ length one = length-sets one (2 * node_spot h n 1) (bytes_of (it.f1 ∷ [])) in
      let in0 = word_in (node_spot h n 0) it.tag l (omega (arith, spot_within h.version k n 0 pos le (omega arith))) in
      let in1 = word_in (node_spot h n 1) it.f1 one (omega (arith, same1, spot_within h.version k n 1 pos le (omega arith))) in
      let in2 = word_in (node_spot h n 2) it.f2 two (omega (arith, same1, same2, spot_within h.version k n 2 pos le (omega arith))) in
      let a = word_out (node_spot h n 1) it.f1 (node_spot h n 0) one (other_word n 0 1 pos le (omega arith) (omega arith) (λ e. omega arith)) in
      let b = word_out (node_spot h n 2) it.f2 (node_spot h n 0) two (other_word n 0 2 pos le (omega arith) (omega arith) (λ e. omega arith)) in
      let c = word_out (node_spot h n 2) it.f2 (node_spot h n 1) two (other_word n 1 2 pos le (omega arith) (omega arith) (λ e. omega arith)) in
      each_word (λ j. Has (node_put h n it l) (node_spot h n j) (field_of it j))
      (b.0 ∙ (a.0 ∙ in0.0), b.1 ∙ (a.1 ∙ in0.1)) (c.0 ∙ in1.0, c.1 ∙ in1.1) in2

  nodes_in : (n : ℕ) (ns : List Node) (l : List ℕ) → 1 ≤ n → n + length ns ≤ suc k → length_for h.at.nodes k ≤ length l
      → (m j : ℕ) → n ≤ m → m < n + length ns → j < 3 → Has (nodes_put h n ns l) (node_spot h m j) (field_of (get_or ns (m - n) no_node) j)
  unfolding nodes_put
  nodes_in n [] l pos le room m j a b few = let none : ⊥ = omega arith in absurd none
  nodes_in n (it ∷ ns) l pos le room m j a b few =
      go (eqb m n) refl (λ more. nodes_in (suc n) ns (node_put h n it l) (omega arith) (omega arith) (omega (arith, room, put_length h n it l)) m j more (omega arith) few)
    where
      go : (c : Bool) → eqb m n ≡ c → (n < m → Has (nodes_put h (suc n) ns (node_put h n it l)) (node_spot h m j) (field_of (get_or ns (m - suc n) no_node) j))
          → Has (nodes_put h (suc n) ns (node_put h n it l)) (node_spot h m j) (field_of (get_or (it ∷ ns) (m - n) no_node) j)
      go true e later =
          let same : m ≡ n = eqb-true m n e in
          let z : m - n ≡ 0 = omega (arith, same) in
          let kept = nodes_out (suc n) (node_spot h n j) ns (node_put h n it l) (λ i low high i' few'. other_node n i j i' pos (omega arith) (omega arith) (omega arith) few few' (λ e. omega (arith, e, low))) in
          let put = node_in n it l pos (omega arith) room j few in
          rw (z, same) (kept.0 ∙ put.0, kept.1 ∙ put.1)
      go false e later =
          let more : n < m = omega (arith, a, eqb-false m n e) in
          let z : m - n ≡ suc (m - suc n) = omega (arith, more) in
          rw z (later more)

  -- all of them
  pub section_put : (ns : List Node) (l : List ℕ) → length ns ≡ k → length_for h.at.nodes k ≤ length l
      → nodes_put h 1 ns l ≡ sets l (2 * h.at.nodes) (bytes_of (node_words h.version ns))
  section_put ns l e room =
      same_words (nodes_put h 1 ns l) (sets l (2 * p) (bytes_of ws)) (puts_length h 1 ns l ∙ sym (length-sets l (2 * p) (bytes_of ws))) each
    where
      p : ℕ
      p = h.at.nodes

      ws : List ℕ
      ws = node_words h.version ns

      long : length ws ≡ 3 * k
      long = node_words_length h.version ns ∙ ap (λ x. 3 * x) e

      outside : (q : ℕ) → (q < p) ⊎ (p + length ws ≤ q) → SameWord (nodes_put h 1 ns l) (sets l (2 * p) (bytes_of ws)) q
      outside q away =
          let left = nodes_out 1 q ns l (λ m low high j few. past away (node_spot h m j) (omega arith) (omega (arith, spot_within h.version k m j low (omega (arith, e, high)) few))) in
          let right = run_out ws l p q away in
          (left.0 ∙ sym right.0, left.1 ∙ sym right.1)
        where
          past : (q < p) ⊎ (p + length ws ≤ q) → (s : ℕ) → p ≤ s → s < p + 3 * k → q ≢ s
          past (inl x) s low high is = omega (arith, x, low, is)
          past (inr x) s low high is = omega (arith, x, high, is, long)

      inside : (i : ℕ) → i < 3 * k → SameWord (nodes_put h 1 ns l) (sets l (2 * p) (bytes_of ws)) (p + i)
      inside i few =
          let s : Spotted h.version k i = spot_found h.version k i few in
          let m : ℕ = s.node in
          let j : ℕ = s.word in
          let put = nodes_in 1 ns l (omega arith) (omega (arith, e)) room m j s.from_one (omega (arith, s.in_count, e)) s.few in
          let run = run_in ws l p i (omega (arith, room, long)) (omega (arith, few, long)) in
          let word : get_or ws i 0 ≡ field_of (get_or ns (m - 1) no_node) j =
          ap (λ x. get_or ws x 0) (sym s.here) ∙ ap (λ x. get_or ws (spot h.version x m j) 0) (sym e)
          ∙ word_laid h.version ns m j s.from_one (omega (arith, s.in_count, e)) s.few ∙ ap (λ (x : Node). field_of x j) (item_get no_node ns m s.from_one) in
          let here : node_spot h m j ≡ p + i = ap (λ x. p + x) s.here in (
            ap (λ x. get_or (nodes_put h 1 ns l) (2 * x) 0) (sym here) ∙ put.0 ∙ sym (run.0 ∙ ap (λ x. x % 256) word),
            ap (λ x. get_or (nodes_put h 1 ns l) (2 * x + 1) 0) (sym here) ∙ put.1 ∙ sym (run.1 ∙ ap (λ x. x / 256) word),
          )

      each : (q : ℕ) → SameWord (nodes_put h 1 ns l) (sets l (2 * p) (bytes_of ws)) q
      each q = first (ltb q p) refl
        where
          second : (b : Bool) → ltb (q - p) (3 * k) ≡ b → p ≤ q → SameWord (nodes_put h 1 ns l) (sets l (2 * p) (bytes_of ws)) q
          second true t late = let z : p + (q - p) ≡ q = omega (arith, late) in rw z at (inside (q - p) (ltb-true (q - p) (3 * k) t))
          second false t late = outside q (inr (omega (arith, late, long, ltb-false (q - p) (3 * k) t)))

          first : (b : Bool) → ltb q p ≡ b → SameWord (nodes_put h 1 ns l) (sets l (2 * p) (bytes_of ws)) q
          first true t = outside q (inl (ltb-true q p t))
          first false t = second (ltb (q - p) (3 * k)) refl (ltb-false q p t)

-- by row a node's words stand together
pub row_put : (h : Head) (n : ℕ) (it : Node) (l : List ℕ) → by_column h.version ≡ false
    → node_put h n it l ≡ sets l (2 * (h.at.nodes + 3 * (n - 1))) (bytes_of (node_rows (it ∷ [])))
unfolding spot node_rows
row_put h n it l by_Row =
    let p : ℕ = h.at.nodes + 3 * (n - 1) in
    let e0 : node_spot h n 0 ≡ p = rw by_Row (omega arith) in
    let e1 : node_spot h n 1 ≡ p + 1 = rw by_Row (omega arith) in
    let e2 : node_spot h n 2 ≡ p + 2 = rw by_Row (omega arith) in
    let one : List ℕ = word_put p it.tag l in
    let two : List ℕ = word_put (p + 1) it.f1 one in
    let both = puts_then l one two p (p + 1) (it.tag ∷ []) (it.f1 ∷ []) refl (omega arith) refl in
    (λ i. word_put (e2 i) it.f2 (word_put (e1 i) it.f1 (word_put (e0 i) it.tag l)))
    ∙ puts_then l two (word_put (p + 2) it.f2 two) p (p + 2) (it.tag ∷ it.f1 ∷ []) (it.f2 ∷ []) both (omega arith) refl
