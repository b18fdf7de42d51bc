-- Records one after another, each moved: operands, and a turn of the loop over each section.
use Prim.Native.Nat.{ℕ, ◌+◌, ◌*◌, ◌-◌, ◌≤◌, ◌<◌}
use mathlib.Core.Path.{◌≡◌, refl, sym, ap, ap₂, ◌∙◌}
use mathlib.Core.Bool.{Bool, true, false, cond, ◌&&◌, ◌||◌, and-eq-true_iff}
use mathlib.Core.List.{List, [], ◌∷◌, ◌++◌, map}
use native.Mathlib.Omega.{arith}
use lib.Dec.{eqb, leb, ltb}
use lib.ListN.{length, drop}
use lib.Seq.{sets}
use borrow.Author.Tests.{eqb-true, ne_eqb, leb-true}
use Rattle.format.specs.Words.{bytes_of}
use Rattle.format.specs.Contents.{in_count, item, no_channel, no_session, no_node}
use Rattle.format.specs.Writing.{channel_words, session_words, node_rows}
use Rattle.format.specs.declared.Channel.{Channel}
use Rattle.format.specs.declared.Session.{Session}
use Rattle.format.specs.declared.Node.{Node}
use Rattle.format.proofs.ContentsLaws.{next-item, none_past}
use Rattle.format.proofs.PutRuns.{puts_turn, puts_end}
use Rattle.merging.specs.Merged.{Shifts, shifted, moved_channel, moved_session, moved_node}

-- an operand by its range
module _ (users channels x : ℕ) where
  pub shifts_user : in_count 32 x ≡ true → users + x ≡ shifted users channels x
  unfolding shifted
  shifts_user e = rw e

  pub shifts_channel : in_count 32 x ≡ false → (ltb 256 x && leb x 320) ≡ true → channels + x ≡ shifted users channels x
  unfolding shifted
  shifts_channel e d = rw (e, d)

  pub shifts_none : in_count 32 x ≡ false → (ltb 256 x && leb x 320) ≡ false → 0 + x ≡ shifted users channels x
  unfolding shifted
  shifts_none e d = let none : 0 + x ≡ x = omega arith in rw (e, d, none)

  pub few_channels : (ltb 256 x && leb x 320) ≡ true → x ≤ 320
  few_channels e = leb-true x 320 ((and-eq-true_iff (ltb 256 x) (leb x 320)).0 e).1

-- a node by its tag: what stands before what it names
module _ (s : Shifts) (n : Node) (one two : ℕ) (first : one + n.f1 ≡ shifted s.users s.channels n.f1) (second : two + n.f2 ≡ shifted s.users s.channels n.f2) where
  abbrev both : Bool
  both = eqb n.tag 4 || eqb n.tag 6

  abbrev at : ℕ → ℕ → Node
  at x y = record { tag = n.tag; f1 = x; f2 = y }

  pub node_moves : at (cond (eqb n.tag 1) s.nodes 0 + cond (both || eqb n.tag 5) one 0 + n.f1) (cond both two 0 + n.f2) ≡ moved_node s n
  unfolding moved_node
  node_moves = fork (eqb n.tag 1) refl
    where
      others : (b c : Bool) → at (0 + cond (b || c) one 0 + n.f1) (cond b two 0 + n.f2)
          ≡ cond b (at (shifted s.users s.channels n.f1) (shifted s.users s.channels n.f2)) (cond c (at (shifted s.users s.channels n.f1) n.f2) n)
      others true c = let e : 0 + one + n.f1 ≡ shifted s.users s.channels n.f1 = omega (arith, first) in ap₂ at e second
      others false true =
          let e : 0 + one + n.f1 ≡ shifted s.users s.channels n.f1 = omega (arith, first) in
          let z : 0 + n.f2 ≡ n.f2 = omega arith in
          ap₂ at e z
      others false false =
          let e : 0 + 0 + n.f1 ≡ n.f1 = omega arith in
          let z : 0 + n.f2 ≡ n.f2 = omega arith in
          ap₂ at e z

      fork : (a : Bool) → eqb n.tag 1 ≡ a
          → at (cond a s.nodes 0 + cond (both || eqb n.tag 5) one 0 + n.f1) (cond both two 0 + n.f2)
          ≡ cond a (at (s.nodes + n.f1) n.f2) (cond both (at (shifted s.users s.channels n.f1) (shifted s.users s.channels n.f2)) (cond (eqb n.tag 5) (at (shifted s.users s.channels n.f1) n.f2) n))
      fork false e = others both (eqb n.tag 5)
      fork true e =
          let tag = eqb-true n.tag 1 e in
          let no4 : eqb n.tag 4 ≡ false = ne_eqb n.tag 4 (λ d. let no : ⊥ = omega (arith, tag, d) in no) in
          let no6 : eqb n.tag 6 ≡ false = ne_eqb n.tag 6 (λ d. let no : ⊥ = omega (arith, tag, d) in no) in
          let no5 : eqb n.tag 5 ≡ false = ne_eqb n.tag 5 (λ d. let no : ⊥ = omega (arith, tag, d) in no) in
          let x : s.nodes + 0 + n.f1 ≡ s.nodes + n.f1 = omega arith in
          let z : 0 + n.f2 ≡ n.f2 = omega arith in
          rw (no4, no6, no5) (ap₂ at x z)

  -- and each sum is a word
  pub node_fits : s.nodes ≤ 1024 → (n.tag ≡ 1 → n.f1 ≤ 1025) → n.f1 < 65536 → one ≤ 64 → one + n.f1 < 65536
      → cond (eqb n.tag 1) s.nodes 0 + cond (both || eqb n.tag 5) one 0 + n.f1 < 65536
  node_fits few le word small sum = go (eqb n.tag 1) refl (both || eqb n.tag 5)
    where
      go : (a : Bool) → eqb n.tag 1 ≡ a → (b : Bool) → cond a s.nodes 0 + cond b one 0 + n.f1 < 65536
      go true e true = omega (arith, le (eqb-true n.tag 1 e), few, small)
      go true e false = omega (arith, le (eqb-true n.tag 1 e), few)
      go false e true = omega (arith, sum)
      go false e false = omega (arith, word)

pub cond_most : (b : Bool) (n m : ℕ) → n ≤ m → cond b n 0 ≤ m
cond_most true n m h = h
cond_most false n m h = omega arith

pub cond-fits : (b : Bool) (n x : ℕ) → n + x < 65536 → cond b n 0 + x < 65536
cond-fits true n x h = h
cond-fits false n x h = omega (arith, h)

-- the records of a section after i, from a place on; `words` are those of records in order
module _ {A : Type 0} (nothing : A) (words : List A → List ℕ) (one : (x : A) (xs : List A) → words (x ∷ xs) ≡ words (x ∷ []) ++ words xs) (move : A → A) (xs : List A) where
  turn : (l m whole : List ℕ) (p q i : ℕ) (it : A) → i < length xs → it ≡ move (item nothing xs (i + 1)) → q ≡ p + length (words (it ∷ []))
      → m ≡ sets l (2 * p) (bytes_of (words (it ∷ []))) → sets l (2 * p) (bytes_of (words (map move (drop i xs)))) ≡ whole
      → sets m (2 * q) (bytes_of (words (map move (drop (i + 1) xs)))) ≡ whole
  turn l m whole p q i it h is k e inv =
      puts_turn l m whole p q (words (it ∷ [])) (words (map move (drop (i + 1) xs))) (words (map move (drop i xs))) e k
      (ap (λ ys. words (map move ys)) (next-item nothing xs i h) ∙ one (move (item nothing xs (i + 1))) (map move (drop (i + 1) xs))
      ∙ ap (λ y. words (y ∷ []) ++ words (map move (drop (i + 1) xs))) (sym is)) inv

  ends : (l whole : List ℕ) (p i : ℕ) → words [] ≡ [] → length xs ≤ i → sets l p (bytes_of (words (map move (drop i xs)))) ≡ whole → l ≡ whole
  ends l whole p i none h inv = puts_end l whole (words (map move (drop i xs))) p (ap (λ ys. words (map move ys)) (none_past xs i h) ∙ none) inv

channels_one : (x : Channel) (xs : List Channel) → channel_words (x ∷ xs) ≡ channel_words (x ∷ []) ++ channel_words xs
unfolding channel_words
channels_one x xs = refl

sessions_one : (x : Session) (xs : List Session) → session_words (x ∷ xs) ≡ session_words (x ∷ []) ++ session_words xs
unfolding session_words
sessions_one x xs = refl

nodes_one : (x : Node) (xs : List Node) → node_rows (x ∷ xs) ≡ node_rows (x ∷ []) ++ node_rows xs
unfolding node_rows
nodes_one x xs = refl

-- the same of each section, from its base on, after so many others
module _ (s : Shifts) (cs : List Channel) (base others : ℕ) where
  pub channels_turn : (l m whole : List ℕ) (i : ℕ) (it : Channel) → i < length cs → it ≡ moved_channel s (item no_channel cs (i + 1))
      → m ≡ sets l (2 * (base + 2 * (others + (i + 1) - 1))) (bytes_of (channel_words (it ∷ [])))
      → sets l (2 * (base + 2 * (others + i))) (bytes_of (channel_words (map (moved_channel s) (drop i cs)))) ≡ whole
      → sets m (2 * (base + 2 * (others + (i + 1)))) (bytes_of (channel_words (map (moved_channel s) (drop (i + 1) cs)))) ≡ whole
  unfolding channel_words
  channels_turn l m whole i it h is e inv =
      let here : others + (i + 1) - 1 ≡ others + i = omega arith in
      turn no_channel channel_words channels_one (moved_channel s) cs l m whole (base + 2 * (others + i)) (base + 2 * (others + (i + 1))) i it h is (omega arith)
      (e ∙ ap (λ k. sets l (2 * (base + 2 * k)) (bytes_of (channel_words (it ∷ [])))) here) inv

  pub channels_end : (l whole : List ℕ) (i : ℕ) → length cs ≤ i → sets l (2 * (base + 2 * (others + i))) (bytes_of (channel_words (map (moved_channel s) (drop i cs)))) ≡ whole → l ≡ whole
  unfolding channel_words
  channels_end l whole i h inv = ends no_channel channel_words channels_one (moved_channel s) cs l whole (2 * (base + 2 * (others + i))) i refl h inv

module _ (s : Shifts) (ss : List Session) (base others : ℕ) where
  pub sessions_turn : (l m whole : List ℕ) (i : ℕ) (it : Session) → i < length ss → it ≡ moved_session s (item no_session ss (i + 1))
      → m ≡ sets l (2 * (base + 3 * (others + (i + 1) - 1))) (bytes_of (session_words (it ∷ [])))
      → sets l (2 * (base + 3 * (others + i))) (bytes_of (session_words (map (moved_session s) (drop i ss)))) ≡ whole
      → sets m (2 * (base + 3 * (others + (i + 1)))) (bytes_of (session_words (map (moved_session s) (drop (i + 1) ss)))) ≡ whole
  unfolding session_words
  sessions_turn l m whole i it h is e inv =
      let here : others + (i + 1) - 1 ≡ others + i = omega arith in
      turn no_session session_words sessions_one (moved_session s) ss l m whole (base + 3 * (others + i)) (base + 3 * (others + (i + 1))) i it h is (omega arith)
      (e ∙ ap (λ k. sets l (2 * (base + 3 * k)) (bytes_of (session_words (it ∷ [])))) here) inv

  pub sessions_end : (l whole : List ℕ) (i : ℕ) → length ss ≤ i → sets l (2 * (base + 3 * (others + i))) (bytes_of (session_words (map (moved_session s) (drop i ss)))) ≡ whole → l ≡ whole
  unfolding session_words
  sessions_end l whole i h inv = ends no_session session_words sessions_one (moved_session s) ss l whole (2 * (base + 3 * (others + i))) i refl h inv

module _ (s : Shifts) (ns : List Node) (base others : ℕ) where
  pub nodes_turn : (l m whole : List ℕ) (i : ℕ) (it : Node) → i < length ns → it ≡ moved_node s (item no_node ns (i + 1))
      → m ≡ sets l (2 * (base + 3 * (others + (i + 1) - 1))) (bytes_of (node_rows (it ∷ [])))
      → sets l (2 * (base + 3 * (others + i))) (bytes_of (node_rows (map (moved_node s) (drop i ns)))) ≡ whole
      → sets m (2 * (base + 3 * (others + (i + 1)))) (bytes_of (node_rows (map (moved_node s) (drop (i + 1) ns)))) ≡ whole
  unfolding node_rows
  nodes_turn l m whole i it h is e inv =
      let here : others + (i + 1) - 1 ≡ others + i = omega arith in
      turn no_node node_rows nodes_one (moved_node s) ns l m whole (base + 3 * (others + i)) (base + 3 * (others + (i + 1))) i it h is (omega arith)
      (e ∙ ap (λ k. sets l (2 * (base + 3 * k)) (bytes_of (node_rows (it ∷ [])))) here) inv

  pub nodes_end : (l whole : List ℕ) (i : ℕ) → length ns ≤ i → sets l (2 * (base + 3 * (others + i))) (bytes_of (node_rows (map (moved_node s) (drop i ns)))) ≡ whole → l ≡ whole
  unfolding node_rows
  nodes_end l whole i h inv = ends no_node node_rows nodes_one (moved_node s) ns l whole (2 * (base + 3 * (others + i))) i refl h inv
