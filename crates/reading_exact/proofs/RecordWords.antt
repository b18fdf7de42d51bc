-- What a file holds is what its words say, record by record.
use Prim.Native.Nat.{ℕ, zero, suc, ◌+◌, ◌*◌, ◌-◌}
use mathlib.Core.Path.{◌≡◌, refl, ap, ap₂, ◌∙◌}
use mathlib.Core.Bool.{Bool, true, false}
use mathlib.Core.List.{List, [], ◌∷◌}
use native.Mathlib.Omega.{arith}
use lib.Dec.{leb}
use lib.ListN.{length}
use borrow.Author.Tests.{leb-true, leb-false, eq-eqb, ne_eqb}
use Rattle.format.specs.Words.{word_at, wide_at}
use Rattle.format.specs.Header.{head_at}
use Rattle.format.specs.Sections.{place_of, user_roles, role_of, juniors_of, carried, channel_of, session_of, by_column, spot, node_spot, node_of}
use Rattle.format.specs.Contents.{item, no_role, no_channel, no_session, no_node, tabled, contents_at}
use Rattle.format.specs.declared.Head.{Head}
use Rattle.format.specs.declared.Section.TheVariants.{Users, Roles, Juniors, Kinds, Channels, Sessions}
use Rattle.format.proofs.HeadLaws.{juniors_iff, juniors_not}
use Rattle.format.proofs.ContentsLaws.{item_made, item_past, users_held, roles_held, juniors_held, kinds_held, channels_held, sessions_held, nodes_held}
use Rattle.reading_exact.specs.File.{InCount}
use Rattle.reading_exact.specs.ByWords.{record_word, after, CountedByWords, ByWords}

-- what is out of count is nothing
pub item_out : {A : Type 0} (z : A) (xs : List A) (n : ℕ) → (InCount (length xs) n → ⊥) → item z xs n ≡ z
unfolding item
item_out z xs zero out = refl
item_out z xs (suc n) out = go (leb (suc n) (length xs)) refl
  where
    go : (b : Bool) → leb (suc n) (length xs) ≡ b → item z xs (suc n) ≡ z
    go true e = absurd (out (omega arith, leb-true (suc n) (length xs) e))
    go false e = item_past z xs (suc n) (leb-false (suc n) (length xs) e)

pub counted_by_words : (f : List ℕ) → CountedByWords f
unfolding contents_at tabled
counted_by_words [] = record { users = refl; roles = refl; juniors = refl; kinds = refl; channels = refl; sessions = refl; nodes = refl }
counted_by_words (x ∷ xs) =
    let f : List ℕ = x ∷ xs in
    let h : Head = head_at f in
    record { users = users_held f h; roles = roles_held f h; juniors = juniors_held f h; kinds = kinds_held f h; channels = channels_held f h; sessions = sessions_held f h; nodes = nodes_held f h }

three : {A : Type 0} (g : ℕ → ℕ → ℕ → A) {a b c x y z : ℕ} → a ≡ x → b ≡ y → c ≡ z → g a b c ≡ g x y z
three g p q r = λ i. g (p i) (q i) (r i)

module _ (x : ℕ) (xs : List ℕ) where
  abbrev f : List ℕ
  f = x ∷ xs

  -- a word of a record, from the record's place
  word_on : (at width n j q : ℕ) → q ≡ word_at f at + width * (n - 1) + j → word_at f q ≡ record_word f at width n j
  word_on at width n j q e = ap (word_at f) e

  wide_on : (at width n j q : ℕ) → q ≡ word_at f at + width * (n - 1) + j → wide_at f q ≡ record_word f at width n j + 65536 * record_word f at width n (j + 1)
  wide_on at width n j q e =
      let next : q + 1 ≡ word_at f at + width * (n - 1) + (j + 1) = omega (arith, e) in
      ap₂ (λ x y. x + 65536 * y) (word_on at width n j q e) (word_on at width n (j + 1) (q + 1) next)

  -- where a node's words stand
  by_row : (n j : ℕ) → by_column (word_at f 0) ≡ false → node_spot (head_at f) n j ≡ word_at f (after f 12) + 3 * (n - 1) + j
  unfolding spot
  by_row n j e = rw e (omega arith)

  row_on : (n j : ℕ) → (word_at f 0 ≡ 3 → ⊥) → word_at f (node_spot (head_at f) n j) ≡ record_word f (after f 12) 3 n j
  row_on n j e = ap (word_at f) (by_row n j (ne_eqb (word_at f 0) 3 e))

  by_column_lem : (n j : ℕ) → word_at f 0 ≡ 3 → node_spot (head_at f) n j ≡ word_at f 13 + (1 * (n - 1) + word_at f 6 * j)
  unfolding spot
  by_column_lem n j e = rw (eq-eqb (word_at f 0) 3 e, ne_eqb (word_at f 0) 2 (omega (arith, e)))

  by_words_of_some : ByWords f
  unfolding contents_at
  by_words_of_some = record {
    user = λ n (pos, le). item_made 0 (user_roles f h) h.count.users n pos le ∙ word_on 7 1 n 0 (place_of h Users n) (omega arith);
    role = λ n (pos, le).
        let p : ℕ = place_of h Roles n in
        item_made no_role (role_of f h) h.count.roles n pos le
        ∙ ap₂ (λ s r. record { sends = s; receives = r }) (wide_on 8 4 n 0 p (omega arith)) (wide_on 8 4 n 2 (p + 2) (omega arith));
    juniors = λ n (pos, le) e.
        item_made 0 (juniors_of f h) h.count.roles n pos le ∙ rw ((juniors_iff (word_at f 0)).1 e) (word_on 9 1 n 0 (place_of h Juniors n) (omega arith));
    no_juniors = λ n (pos, le) e. item_made 0 (juniors_of f h) h.count.roles n pos le ∙ rw (juniors_not (word_at f 0) e);
    kind = λ n (pos, le). item_made 0 (carried f h) h.count.kinds n pos le ∙ word_on (after f 9) 1 n 0 (place_of h Kinds n) (omega arith);
    channel = λ n (pos, le).
        let p : ℕ = place_of h Channels n in
        item_made no_channel (channel_of f h) h.count.channels n pos le
        ∙ ap₂ (λ o k. record { owner = o; kind = record { 0 = k } }) (word_on (after f 10) 2 n 0 p (omega arith)) (word_on (after f 10) 2 n 1 (p + 1) (omega arith));
    session = λ n (pos, le).
        let p : ℕ = place_of h Sessions n in
        item_made no_session (session_of f h) h.count.sessions n pos le
        ∙ three (λ u m r. record { user = u; mask = m; root = r }) (word_on (after f 11) 3 n 0 p (omega arith)) (word_on (after f 11) 3 n 1 (p + 1) (omega arith)) (word_on (after f 11) 3 n 2 (p + 2) (omega arith));
    node = λ n (pos, le) e.
        item_made no_node (node_of f h) h.count.nodes n pos le ∙ three (λ t a b. record { tag = t; f1 = a; f2 = b }) (row_on n 0 e) (row_on n 1 e) (row_on n 2 e);
    column = λ n (pos, le) e.
        let c0 : word_at f 13 + (1 * (n - 1) + word_at f 6 * 0) ≡ word_at f 13 + (n - 1) = omega arith in
        let c1 : word_at f 13 + (1 * (n - 1) + word_at f 6 * 1) ≡ word_at f 13 + word_at f 6 + (n - 1) = omega arith in
        let c2 : word_at f 13 + (1 * (n - 1) + word_at f 6 * 2) ≡ word_at f 13 + 2 * word_at f 6 + (n - 1) = omega arith in
        item_made no_node (node_of f h) h.count.nodes n pos le
        ∙ three (λ t a b. record { tag = t; f1 = a; f2 = b }) (ap (word_at f) (by_column_lem n 0 e ∙ c0)) (ap (word_at f) (by_column_lem n 1 e ∙ c1)) (ap (word_at f) (by_column_lem n 2 e ∙ c2));
  }
    where
      h : Head
      h = head_at f

none_in : {A : Type 0} (n : ℕ) → InCount 0 n → A
none_in n (pos, le) = absurd (omega (arith, pos, le))

pub by_words : (f : List ℕ) → ByWords f
by_words [] = record {
  user = λ n c. none_in n c;
  role = λ n c. none_in n c;
  juniors = λ n c e. none_in n c;
  no_juniors = λ n c e. none_in n c;
  kind = λ n c. none_in n c;
  channel = λ n c. none_in n c;
  session = λ n c. none_in n c;
  node = λ n c e. none_in n c;
  column = λ n c e. none_in n c;
}
by_words (x ∷ xs) = by_words_of_some x xs
