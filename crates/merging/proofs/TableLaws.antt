-- The sections of a file of version 1 as words: users, then roles, kinds and channels, sessions, nodes; and whether two files have the same tables.
use Prim.Native.Nat.{ℕ, suc, ◌+◌, ◌*◌, ◌-◌, ◌≤◌, ◌<◌}
use mathlib.Core.Path.{◌≡◌, refl, sym, ap, ap₂, ◌∙◌}
use mathlib.Core.Bool.{Bool, true, false, ◌&&◌}
use mathlib.Core.List.{List, [], ◌∷◌, ◌++◌, append_assoc}
use native.Mathlib.Omega.{arith}
use lib.Dec.{eqb}
use lib.ListN.{length, length-append}
use Rattle.format.specs.Header.{junior_records, Laid}
use Rattle.format.specs.Sections.{words_from}
use Rattle.format.specs.Contents.{Contents, contents_at}
use Rattle.format.specs.Writing.{role_words, channel_words, node_rows, node_words, table_words}
use Rattle.format.specs.declared.Head.{Head}
use Rattle.format.proofs.ContentsLaws.{users_held, roles_held, kinds_held}
use Rattle.format.proofs.HeadLaws.{some_there}
use Rattle.format.proofs.WriteLaws.{Bytes, words_joined, tables_words, role_words_length}
use Rattle.format.proofs.SpotLaws.{words_length, section_words}
use Rattle.trees.proofs.SoundLaws.{same_head}
use Rattle.merging.specs.Merged.{same_words, same_tables}

joined : (f : List ℕ) (p q a b : ℕ) → q ≡ p + a → words_from f p (a + b) ≡ words_from f p a ++ words_from f q b
joined f p q a b e = words_joined f p a b ∙ ap (λ x. words_from f p a ++ words_from f x b) (sym e)

-- lists joined alike, of which the first parts are of a length
parts : (xs ys zs ws : List ℕ) → length xs ≡ length zs → xs ++ ys ≡ zs ++ ws → (xs ≡ zs) × (ys ≡ ws)
parts [] ys [] ws n e = (refl, e)
parts [] ys (z ∷ zs) ws n e = let no : ⊥ = omega (arith, n) in absurd no
parts (x ∷ xs) ys [] ws n e = let no : ⊥ = omega (arith, n) in absurd no
parts (x ∷ xs) ys (z ∷ zs) ws n e = let (here, later) = same_head e in let (same, left) = parts xs ys zs ws (omega (arith, n)) later in (ap₂ ◌∷◌ here same, left)

module _ (f : List ℕ) (h : Head) (l : Laid f h) (first : h.version ≡ 1) (b : Bytes f) where
  abbrev C : Contents
  C = contents_at f h

  none : junior_records h.version h.count.roles ≡ 0
  none = ap (λ v. junior_records v h.count.roles) first

  tables : words_from f h.at.users h.count.users ++ (words_from f h.at.roles (4 * h.count.roles + h.count.kinds) ++ words_from f h.at.channels (2 * h.count.channels))
      ≡ C.users ++ ((role_words C.roles ++ C.kinds) ++ channel_words C.channels)
  unfolding table_words
  tables =
      let u : ℕ = h.count.users in
      let t : ℕ = 4 * h.count.roles + h.count.kinds in
      let c : ℕ = 2 * h.count.channels in
      let all : h.at.sessions - h.at.users ≡ u + (t + c) = omega (arith, l, none) in
      ap (λ ws. words_from f h.at.users u ++ ws) (sym (joined f h.at.roles h.at.channels t c (omega (arith, l, none))))
      ∙ sym (joined f h.at.users h.at.roles u (t + c) l.roles_at)
      ∙ ap (words_from f h.at.users) (sym all)
      ∙ tables_words f h l b
      ∙ ap (λ v. table_words v C) first
      ∙ ap (λ ws. C.users ++ ws) (sym (append_assoc (role_words C.roles) C.kinds (channel_words C.channels)))

  later : words_from f h.at.roles (4 * h.count.roles + h.count.kinds) ++ words_from f h.at.channels (2 * h.count.channels) ≡ (role_words C.roles ++ C.kinds) ++ channel_words C.channels
  later = (parts (words_from f h.at.users h.count.users) _ C.users _ (words_length f h.at.users h.count.users ∙ sym (users_held f h)) tables).1

  pub users_words : words_from f h.at.users h.count.users ≡ (contents_at f h).users
  users_words = (parts (words_from f h.at.users h.count.users) _ C.users _ (words_length f h.at.users h.count.users ∙ sym (users_held f h)) tables).0

  pub roles_kinds_words : words_from f h.at.roles (4 * h.count.roles + h.count.kinds) ≡ role_words (contents_at f h).roles ++ (contents_at f h).kinds
  roles_kinds_words =
      let t : ℕ = 4 * h.count.roles + h.count.kinds in
      let size : length (role_words C.roles ++ C.kinds) ≡ t =
      length-append (role_words C.roles) C.kinds ∙ omega (arith, role_words_length C.roles, roles_held f h, kinds_held f h) in
      (parts (words_from f h.at.roles t) _ (role_words C.roles ++ C.kinds) _ (words_length f h.at.roles t ∙ sym size) later).0

  -- with the channels, which stand after them
  pub tables_later : words_from f h.at.roles (4 * h.count.roles + h.count.kinds + 2 * h.count.channels)
      ≡ (role_words (contents_at f h).roles ++ (contents_at f h).kinds) ++ channel_words (contents_at f h).channels
  tables_later = joined f h.at.roles h.at.channels (4 * h.count.roles + h.count.kinds) (2 * h.count.channels) (omega (arith, l, none)) ∙ later

pub nodes_words : (f : List ℕ) (h : Head) → h.version ≡ 1 → words_from f h.at.nodes (3 * h.count.nodes) ≡ node_rows (contents_at f h).nodes
nodes_words f h first = section_words f h ∙ ap (λ v. node_words v (contents_at f h).nodes) first

-- what lies between the users and the end lies within the file
pub inside : (f : List ℕ) (h : Head) → Laid f h → (p n : ℕ) → h.at.users ≤ p → p + n ≤ h.at.nodes + 3 * h.count.nodes → 0 < n → 2 * (p + n) ≤ length f
inside f h l p n from to some = omega (arith, some_there f h l (omega (arith, from, to, some)), to)

pub tables_inside : (f : List ℕ) (h : Head) → Laid f h → h.version ≡ 1 → (p r k : ℕ) → p ≡ h.at.roles → r ≡ h.count.roles → k ≡ h.count.kinds
    → 0 < 4 * r + k → 2 * (p + (4 * r + k)) ≤ length f
tables_inside f h l first p r k ep er ek = inside f h l p (4 * r + k) (omega (arith, l, ep)) (omega (arith, l, ep, er, ek))

-- words of another number are not the same
same_long : (xs ys : List ℕ) → (length xs ≡ length ys → ⊥) → same_words xs ys ≡ false
unfolding same_words
same_long [] [] n = absurd (n refl)
same_long [] (y ∷ ys) n = refl
same_long (x ∷ xs) [] n = refl
same_long (x ∷ xs) (y ∷ ys) n = go (eqb x y) (same_long xs ys (λ e. n (ap suc e)))
  where
    go : (b : Bool) → same_words xs ys ≡ false → (b && same_words xs ys) ≡ false
    go true later = later
    go false later = refl

same_joined : (xs ys xs' ys' : List ℕ) → length xs ≡ length ys → same_words (xs ++ xs') (ys ++ ys') ≡ (same_words xs ys && same_words xs' ys')
unfolding same_words
same_joined [] [] xs' ys' n = refl
same_joined [] (y ∷ ys) xs' ys' n = let no : ⊥ = omega (arith, n) in absurd no
same_joined (x ∷ xs) [] xs' ys' n = let no : ⊥ = omega (arith, n) in absurd no
same_joined (x ∷ xs) (y ∷ ys) xs' ys' n = go (eqb x y) (same_joined xs ys xs' ys' (omega (arith, n)))
  where
    go : (b : Bool) → same_words (xs ++ xs') (ys ++ ys') ≡ (same_words xs ys && same_words xs' ys') → (b && same_words (xs ++ xs') (ys ++ ys')) ≡ ((b && same_words xs ys) && same_words xs' ys')
    go true e = e
    go false e = refl

module _ (C D : Contents) where
  pub roles_differ : (length C.roles ≡ length D.roles → ⊥) → false ≡ same_tables C D
  unfolding same_tables
  roles_differ n =
      sym (ap (λ b. b && same_words C.kinds D.kinds) (same_long (role_words C.roles) (role_words D.roles) (λ e. n (omega (arith, e, role_words_length C.roles, role_words_length D.roles)))))

  pub kinds_differ : (length C.kinds ≡ length D.kinds → ⊥) → false ≡ same_tables C D
  unfolding same_tables
  kinds_differ n = sym (ap (λ b. same_words (role_words C.roles) (role_words D.roles) && b) (same_long C.kinds D.kinds n) ∙ go (same_words (role_words C.roles) (role_words D.roles)))
    where
      go : (b : Bool) → (b && false) ≡ false
      go true = refl
      go false = refl

  pub tables_compared : length C.roles ≡ length D.roles → same_words (role_words C.roles ++ C.kinds) (role_words D.roles ++ D.kinds) ≡ same_tables C D
  unfolding same_tables
  tables_compared n =
      same_joined (role_words C.roles) (role_words D.roles) C.kinds D.kinds (omega (arith, n, role_words_length C.roles, role_words_length D.roles))
