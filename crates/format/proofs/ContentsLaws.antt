-- Items by number, lists made by number, and how many of each a file holds.
use Prim.Native.Nat.{ℕ, zero, suc, ◌+◌, ◌-◌, ◌≤◌, ◌<◌}
use mathlib.Core.Path.{◌≡◌, refl, sym, ap, ap₂, ◌∙◌}
use mathlib.Core.Logic.{◌↔◌}
use mathlib.Core.Bool.{true, false}
use mathlib.Core.List.{List, [], ◌∷◌}
use native.Mathlib.Omega.{arith}
use lib.Dec.{leb, ltb}
use lib.ListN.{length, get_or, take, drop, set, drop_of_length-le, get_or-eq_default}
use lib.Seq.{drop-cons, drop_at, set_split, length-take-le}
use borrow.Author.Tests.{lt-ltb, lt-leb, ltb-true, ltb-false, leb-false}
use Rattle.format.specs.Sections.{user_roles, role_of, juniors_of, carried, channel_of, session_of, node_of}
use Rattle.format.specs.Contents.{tabled, in_count, item, no_node, contents_at}
use Rattle.format.specs.declared.Head.{Head}
use Rattle.format.specs.declared.Node.{Node}
use Rattle.format.proofs.BoolLaws.{and_fails, le_iff, and_iff}

-- an item of 1 to n
pub in_count_iff : (n x : ℕ) → (in_count n x ≡ true) ↔ ((1 ≤ x) × (x ≤ n))
in_count_iff n x = and_iff (ltb-true 0 x, lt-ltb 0 x) (λ p. le_iff x n)

pub in_count_lem : (n x : ℕ) → in_count n x ≡ true → (1 ≤ x) × (x ≤ n)
in_count_lem n x = (in_count_iff n x).0

pub count_past : (n x : ℕ) → n < x → in_count n x ≡ false
count_past n x past = rw (lt-ltb 0 x (omega arith), lt-leb x n past)

module _ {A : Type 0} where
  pub tabled_length : (g : ℕ → A) (i k : ℕ) → length (tabled g i k) ≡ k
  unfolding tabled
  tabled_length g i zero = refl
  tabled_length g i (suc k) = ap suc (tabled_length g (suc i) k)

  -- lists that are made alike
  pub tabled_same : (g h : ℕ → A) (i k : ℕ) → ((j : ℕ) → i ≤ j → j < i + k → g j ≡ h j) → tabled g i k ≡ tabled h i k
  unfolding tabled
  tabled_same g h i zero e = refl
  tabled_same g h i (suc k) e = ap₂ ◌∷◌ (e i (omega arith) (omega arith)) (tabled_same g h (suc i) k (λ j p q. e j (omega arith) (omega arith)))

  tabled_at : (z : A) (g : ℕ → A) (i k j : ℕ) → j < k → get_or (tabled g i k) j z ≡ g (i + j)
  unfolding tabled
  tabled_at z g i zero j h = let no : ⊥ = omega arith in absurd no
  tabled_at z g i (suc k) zero h = let e : i ≡ i + 0 = omega arith in ap g e
  tabled_at z g i (suc k) (suc j) h = let e : suc i + j ≡ i + suc j = omega arith in tabled_at z g (suc i) k j (omega arith) ∙ ap g e

  pub item_zero : (z : A) (xs : List A) → item z xs 0 ≡ z
  unfolding item
  item_zero z xs = refl

  -- out of count there is nothing
  pub item_past : (z : A) (xs : List A) (n : ℕ) → length xs < n → item z xs n ≡ z
  unfolding item
  item_past z xs zero h = refl
  item_past z xs (suc n) h = get_or-eq_default xs z {n = n} (omega arith)

  -- by its index from 0
  pub item_get : (z : A) (xs : List A) (n : ℕ) → 1 ≤ n → item z xs n ≡ get_or xs (n - 1) z
  unfolding item
  item_get z xs zero h = let no : ⊥ = omega arith in absurd no
  item_get z xs (suc n) h = let e : n ≡ suc n - 1 = omega arith in ap (λ k. get_or xs k z) e

  -- the item of a number in count is the one made for it
  pub item_made : (z : A) (g : ℕ → A) (k n : ℕ) → 1 ≤ n → n ≤ k → item z (tabled g 1 k) n ≡ g n
  unfolding item
  item_made z g k zero pos le = let no : ⊥ = omega arith in absurd no
  item_made z g k (suc n) pos le = let e : 1 + n ≡ suc n = omega arith in tabled_at z g 1 k n le ∙ ap g e

  -- as code reads it: what is in count, else nothing
  pub item_there : (z : A) (g : ℕ → A) (k n : ℕ) → in_count k n ≡ true → item z (tabled g 1 k) n ≡ g n
  item_there z g k n e = let (pos, le) = in_count_lem k n e in item_made z g k n pos le

  pub item_none : (z : A) (g : ℕ → A) (k n : ℕ) → in_count k n ≡ false → item z (tabled g 1 k) n ≡ z
  unfolding item
  item_none z g k zero e = refl
  item_none z g k (suc n) e = and_fails (ltb 0 (suc n)) (leb (suc n) k) e (λ a. absurd (omega (arith, ltb-false 0 (suc n) a)))
      (λ a b. get_or-eq_default (tabled g 1 k) z {n = n} (omega (arith, leb-false (suc n) k b, tabled_length g 1 k)))

  -- the items from a number on: that item, and those after it
  pub from_item : (z : A) (xs : List A) (n : ℕ) → 1 ≤ n → n ≤ length xs → drop (n - 1) xs ≡ item z xs n ∷ drop n xs
  unfolding item
  from_item z xs zero pos le = let no : ⊥ = omega arith in absurd no
  from_item z xs (suc n) pos le = let e : suc n - 1 ≡ n = omega arith in rw e (drop-cons xs n z le)

  -- the items after a number: the next one, and those after it
  pub next-item : (z : A) (xs : List A) (i : ℕ) → i < length xs → drop i xs ≡ item z xs (i + 1) ∷ drop (i + 1) xs
  next-item z xs i h = let back : i ≡ i + 1 - 1 = omega arith in ap (λ j. drop j xs) back ∙ from_item z xs (i + 1) (omega arith) (omega arith)

  pub none_past : (xs : List A) (n : ℕ) → length xs ≤ n → drop n xs ≡ []
  none_past xs n h = drop_of_length-le xs {i = n} h

  -- what a store leaves, from its place on
  pub drop-set : (l : List A) (i : ℕ) (v : A) → i < length l → drop i (set l i v) ≡ v ∷ drop (suc i) l
  drop-set l i v h = rw (set_split l i v h) (drop_at (take i l) (v ∷ drop (suc i) l) i (length-take-le i l (omega arith)))

  shift : (g : ℕ → A) (i k : ℕ) → tabled g (suc i) k ≡ tabled (λ n. g (suc n)) i k
  unfolding tabled
  shift g i zero = refl
  shift g i (suc k) = ap {B = List A} (λ l. g (suc i) ∷ l) (shift g (suc i) k)

  -- the items of a list are the list
  pub all_items : (z : A) (xs : List A) → tabled (item z xs) 1 (length xs) ≡ xs
  unfolding tabled item
  all_items z [] = refl
  all_items z (x ∷ xs) =
      ap {B = List A} (λ l. x ∷ l) (shift (item z (x ∷ xs)) 1 (length xs) ∙ tabled_same _ (item z xs) 1 (length xs) (λ n p q. same n p) ∙ all_items z xs)
    where
      same : (n : ℕ) → 1 ≤ n → get_or (x ∷ xs) n z ≡ item z xs n
      same zero p = let no : ⊥ = omega arith in absurd no
      same (suc n) p = refl

-- the nodes from i on, as a loop reads them: node i, and those from i + 1 on
pub from_node : (ns : List Node) (i : ℕ) (n : Node) → 1 ≤ i → i ≤ length ns → n ≡ item no_node ns i → drop (i - 1) ns ≡ n ∷ drop (i + 1 - 1) ns
from_node ns i n pos le e = let back : i + 1 - 1 ≡ i = omega arith in rw (e, back) (from_item no_node ns i pos le)

-- as many as the head counts
module _ (f : List ℕ) (h : Head) where
  pub users_held : length (contents_at f h).users ≡ h.count.users
  unfolding contents_at
  users_held = tabled_length (user_roles f h) 1 h.count.users

  pub roles_held : length (contents_at f h).roles ≡ h.count.roles
  unfolding contents_at
  roles_held = tabled_length (role_of f h) 1 h.count.roles

  pub juniors_held : length (contents_at f h).juniors ≡ h.count.roles
  unfolding contents_at
  juniors_held = tabled_length (juniors_of f h) 1 h.count.roles

  pub kinds_held : length (contents_at f h).kinds ≡ h.count.kinds
  unfolding contents_at
  kinds_held = tabled_length (carried f h) 1 h.count.kinds

  pub channels_held : length (contents_at f h).channels ≡ h.count.channels
  unfolding contents_at
  channels_held = tabled_length (channel_of f h) 1 h.count.channels

  pub sessions_held : length (contents_at f h).sessions ≡ h.count.sessions
  unfolding contents_at
  sessions_held = tabled_length (session_of f h) 1 h.count.sessions

  pub nodes_held : length (contents_at f h).nodes ≡ h.count.nodes
  unfolding contents_at
  nodes_held = tabled_length (node_of f h) 1 h.count.nodes

  -- a node in count, by the head and by what is held
  pub nodes_counted : (n : ℕ) → in_count h.count.nodes n ≡ in_count (length (contents_at f h).nodes) n
  nodes_counted n = ap (λ k. in_count k n) (sym nodes_held)
