-- One turn of the loop each way, with a stack in an array whose element 0 is as nothing.
use Prim.Native.Nat.{ℕ, zero, suc, ◌+◌, ◌*◌, ◌-◌, ◌≤◌, ◌<◌}
use mathlib.Core.Path.{◌≡◌, refl, sym, ap, ap₂, subst, ◌∙◌}
use mathlib.Core.Bool.{Bool, true, false, cond}
use mathlib.Core.List.{List, [], ◌∷◌, ◌++◌, map}
use native.Mathlib.Omega.{arith}
use native.Mathlib.Numerals.{add-one}
use lib.Dec.{eqb}
use lib.ListN.{length, get_or, drop, set}
use lib.Seq.{sets, drop-cons, get_or-set_other}
use Rattle.format.specs.Contents.{item, no_node}
use Rattle.format.specs.declared.Node.{Node}
use Rattle.format.specs.Stacks.{stacked, top, rest}
use Rattle.format.proofs.ContentsLaws.{next-item, none_past, drop-set}
use Rattle.format.proofs.StackLaws.{stacked_more, stacked_set, stacked_push}
use Rattle.states.specs.States.{Label, beyond, states_after, labelled, packed}
use Rattle.states.specs.Kept.{saving_of, word_of, Small, no_saving, saving, savings, kept_all, state_after, followed}
use Rattle.states.proofs.AgreeLaws.{Roled, small_first, small_rest, all_small}

-- what is read within a list is there
read_any : {A : Type 0} (l : List A) (i : ℕ) (x y : A) → i < length l → get_or l i x ≡ get_or l i y
read_any [] i x y h = let no_way : ⊥ = omega arith in absurd no_way
read_any (v ∷ l) zero x y h = refl
read_any (v ∷ l) (suc i) x y h = read_any l i x y (omega arith)

module _ {A : Type 0} (z : A) where
  -- two lists that differ by nothings at their ends
  abbrev pub Same : List A → List A → Type 0
  Same cs ds = (k : ℕ) → get_or cs k z ≡ get_or ds k z

  two_nothings : Same (z ∷ z ∷ []) []
  two_nothings zero = refl
  two_nothings (suc zero) = refl
  two_nothings (suc (suc k)) = refl

  -- one fewer in use, but never fewer than the element 0
  one_less : (a : List A) (d : ℕ) → get_or a 0 z ≡ z → Same (stacked z a (d - 1 + 1)) (stacked z a d)
  unfolding stacked
  one_less a zero e zero = e
  one_less a zero e (suc k) = refl
  one_less a (suc d) e k = let back : suc d - 1 + 1 ≡ suc d = omega arith in ap (λ j. get_or (stacked z a j) k z) back

  rest_next : (cs : List A) (k : ℕ) → get_or (rest cs) k z ≡ get_or cs (suc k) z
  rest_next [] k = refl
  rest_next (c ∷ cs) k = refl

  same_rest : (cs ds : List A) → Same cs ds → Same (rest cs) (rest ds)
  same_rest cs ds h k = rest_next cs k ∙ h (suc k) ∙ sym (rest_next ds k)

  same_cons : (c d : A) (cs ds : List A) → c ≡ d → Same cs ds → Same (c ∷ cs) (d ∷ ds)
  same_cons c d cs ds e h zero = e
  same_cons c d cs ds e h (suc k) = h k

-- the first of them
top_first : (cs : List ℕ) → top cs ≡ get_or cs 0 0
top_first [] = refl
top_first (c ∷ cs) = refl

same_top : (cs ds : List ℕ) → Same 0 cs ds → top cs ≡ top ds
same_top cs ds h = top_first cs ∙ h 0 ∙ sym (top_first ds)

saving_first : (ds : List (List ℕ)) → saving ds ≡ get_or ds 0 no_saving
saving_first [] = refl
saving_first (d ∷ ds) = refl

same_saving : (cs ds : List (List ℕ)) → Same no_saving cs ds → saving cs ≡ saving ds
same_saving cs ds h = saving_first cs ∙ h 0 ∙ sym (saving_first ds)

same_past : (tag : ℕ) (cs ds : List (List ℕ)) → Same no_saving cs ds → Same no_saving (beyond tag cs) (beyond tag ds)
same_past tag cs ds h = go (eqb tag 0) (eqb tag 1)
  where
    go : (x y : Bool) → Same no_saving (cond x cs (cond y (rest (rest cs)) (rest cs))) (cond x ds (cond y (rest (rest ds)) (rest ds)))
    go true y = h
    go false true = same_rest no_saving (rest cs) (rest ds) (same_rest no_saving cs ds h)
    go false false = same_rest no_saving cs ds h

-- the nodes from the number i + 1 on, with their roles
abbrev pub labels_from : List Node → List ℕ → ℕ → List Label
labels_from ns roles i = labelled (drop i ns) (drop (suc i) roles)

labels_next : (ns : List Node) (roles : List ℕ) (i : ℕ) → i < length ns → i + 1 < length roles
    → labels_from ns roles i ≡ record { tag = (item no_node ns (i + 1)).tag; roles = get_or roles (i + 1) 0 } ∷ labels_from ns roles (i + 1)
unfolding labelled
labels_next ns roles i h k = ap₂ labelled (next-item no_node ns i h) (ap (λ j. drop j roles) (sym (add-one i)) ∙ drop-cons roles (i + 1) 0 k)

-- what a slice of u16 holds
abbrev pub Short : List ℕ → Type 0
Short rs = (i : ℕ) → get_or rs i 0 < 65536

short_drop : (k : ℕ) (rs : List ℕ) → Short rs → Short (drop k rs)
short_drop zero rs h = h
short_drop (suc k) [] h = h
short_drop (suc k) (r ∷ rs) h = short_drop k rs (λ i. h (suc i))

short_roled : (ns : List Node) (rs : List ℕ) → Short rs → Roled (labelled ns rs)
unfolding Roled labelled
short_roled [] rs h = tt
short_roled (n ∷ ns) [] h = tt
short_roled (n ∷ ns) (r ∷ rs) h = (h 0, short_roled ns rs (λ i. h (suc i)))

pub labels_roled : (ns : List Node) (k : ℕ) (rs : List ℕ) → Short rs → Roled (labelled ns (drop k rs))
labels_roled ns k rs h = short_roled ns (drop k rs) (short_drop k rs h)

-- the stack after a node: the row before it goes there, where it is no part of the node's tree
right_past : (tag : ℕ) (t : List ℕ) (a : List (List ℕ)) (d j : ℕ) → d + 1 < length a → get_or a 0 no_saving ≡ no_saving → j ≡ cond (eqb tag 0) (d + 1) (cond (eqb tag 1) (d - 1) d)
    → Same no_saving (stacked no_saving (set a (d + 1) t) (j + 1)) (beyond tag (t ∷ stacked no_saving a (d + 1)))
right_past tag t a d j h e je k = ap (λ j. get_or (stacked no_saving (set a (d + 1) t) (j + 1)) k no_saving) je ∙ go (eqb tag 0) (eqb tag 1)
  where
    go : (x y : Bool) → get_or (stacked no_saving (set a (d + 1) t) (cond x (d + 1) (cond y (d - 1) d) + 1)) k no_saving
        ≡ get_or (cond x (t ∷ stacked no_saving a (d + 1)) (cond y (rest (stacked no_saving a (d + 1))) (stacked no_saving a (d + 1)))) k no_saving
    go true y = ap (λ l. get_or l k no_saving) (stacked_push no_saving a (d + 1) t h)
    go false true =
        ap (λ l. get_or l k no_saving) (stacked_set no_saving a (d + 1) t (d - 1 + 1) (omega arith)) ∙ one_less no_saving a d e k ∙ ap (λ l. get_or (rest l) k no_saving) (sym (stacked_more no_saving a d))
    go false false = ap (λ l. get_or l k no_saving) (stacked_set no_saving a (d + 1) t (d + 1) (omega arith))

-- from the right: node i + 1 is read, i of them are left
module _ (ns : List Node) (roles : List ℕ) (i : ℕ) (h : i < length ns) (k : i + 1 < length roles) (t : List ℕ) (a : List (List ℕ)) (d : ℕ) (e : get_or a 0 no_saving ≡ no_saving)
    (st : Same no_saving (t ∷ stacked no_saving a (d + 1)) (savings (labels_from ns roles (i + 1)))) (tag : ℕ) (its : tag ≡ (item no_node ns (i + 1)).tag) (fits : d + 1 < length a) where
  abbrev ls : List Label
  ls = labels_from ns roles (i + 1)

  abbrev role : ℕ
  role = get_or roles (i + 1) 0

  one_is : t ≡ saving (savings ls)
  one_is = same_saving (t ∷ stacked no_saving a (d + 1)) (savings ls) st

  -- as the code reads it
  abbrev two : List ℕ
  two = get_or a d []

  two_is : two ≡ saving (rest (savings ls))
  two_is =
      read_any a d [] no_saving (omega (arith, fits)) ∙ sym (ap saving (stacked_more no_saving a d))
      ∙ same_saving (stacked no_saving a (d + 1)) (rest (savings ls)) (same_rest no_saving (t ∷ stacked no_saving a (d + 1)) (savings ls) st)

  this : labels_from ns roles i ≡ record { tag = tag; roles = role } ∷ ls
  this = labels_next ns roles i h k ∙ ap (λ t. record { tag = t; roles = role } ∷ ls) (sym its)

  -- no lane of either row saves more than an on step
  pub right_small : Small t × Small two
  right_small = (subst Small (sym one_is) (small_first (savings ls) (all_small ls)), subst Small (sym two_is) (small_first (rest (savings ls)) (small_rest (savings ls) (all_small ls))))

  pub right_savings : (row : List ℕ) (j : ℕ) → row ≡ saving_of tag role t two → j ≡ cond (eqb tag 0) (d + 1) (cond (eqb tag 1) (d - 1) d)
      → Same no_saving (row ∷ stacked no_saving (set a (d + 1) t) (j + 1)) (savings (labels_from ns roles i))
  unfolding savings
  right_savings row j ce je q =
      same_cons no_saving row (saving_of tag role (saving (savings ls)) (saving (rest (savings ls)))) (stacked no_saving (set a (d + 1) t) (j + 1)) (beyond tag (savings ls))
      (ce ∙ ap₂ (saving_of tag role) one_is two_is) (λ k. right_past tag t a d j fits e je k ∙ same_past tag (t ∷ stacked no_saving a (d + 1)) (savings ls) st k) q
      ∙ ap (λ ls. get_or (savings ls) q no_saving) (sym this)

  pub right_words : (words ends : List ℕ) (w : ℕ) → w ≡ word_of tag role t two → i < length words → drop (i + 1) words ≡ kept_all ls ++ ends
      → drop i (set words i w) ≡ kept_all (labels_from ns roles i) ++ ends
  unfolding kept_all
  right_words words ends w we len inv =
      drop-set words i w len ∙ ap₂ ◌∷◌ (we ∙ ap₂ (word_of tag role) one_is two_is) (ap (λ j. drop j words) (sym (add-one i)) ∙ inv)
      ∙ ap (λ ls. kept_all ls ++ ends) (sym this)

-- no state above b
unfoldable pub Under : ℕ → List ℕ → Type 0
Under b [] = Unit {0}
Under b (s ∷ st) = (s ≤ b) × Under b st

pub under_top : (b : ℕ) (st : List ℕ) → Under b st → top st ≤ b
unfolding Under
under_top b [] h = omega arith
under_top b (s ∷ st) h = h.0

under_rest : (b : ℕ) (st : List ℕ) → Under b st → Under b (rest st)
unfolding Under
under_rest b [] h = tt
under_rest b (s ∷ st) h = h.1

pub under_onward : (b tag s : ℕ) (st : List ℕ) → s ≤ b → Under b st → Under b (states_after tag s (rest st))
unfolding Under
under_onward b tag s st le h = go (eqb tag 0) (eqb tag 1)
  where
    go : (x y : Bool) → Under b (cond x (rest st) (cond y (s ∷ s ∷ rest st) (s ∷ rest st)))
    go true y = under_rest b st h
    go false true = (le, (le, under_rest b st h))
    go false false = (le, under_rest b st h)

pub under_same : (b : ℕ) (cs ds : List ℕ) → Same 0 cs ds → Under b ds → Under b cs
unfolding Under
under_same b [] ds h u = tt
under_same b (c ∷ cs) ds h u =
    (omega (arith, h 0, top_first ds, under_top b ds u), under_same b cs (rest ds) (λ k. h (suc k) ∙ sym (rest_next 0 ds k)) (under_rest b ds u))

same_onward : (tag s : ℕ) (cs ds : List ℕ) → Same 0 cs ds → Same 0 (states_after tag s cs) (states_after tag s ds)
same_onward tag s cs ds h = go (eqb tag 0) (eqb tag 1)
  where
    go : (x y : Bool) → Same 0 (cond x cs (cond y (s ∷ s ∷ cs) (s ∷ cs))) (cond x ds (cond y (s ∷ s ∷ ds) (s ∷ ds)))
    go true y = h
    go false true = same_cons 0 s s (s ∷ cs) (s ∷ ds) refl (same_cons 0 s s cs ds refl h)
    go false false = same_cons 0 s s cs ds refl h

pub same_followed : (ns : List Node) (ks cs ds : List ℕ) → Same 0 cs ds → followed ns ks cs ≡ followed ns ks ds
unfolding followed
same_followed [] ks cs ds h = refl
same_followed (n ∷ ns) [] cs ds h = refl
same_followed (n ∷ ns) (k ∷ ks) cs ds h =
    let s : ℕ = state_after k (top ds) in
    ap (λ p. record { from = p; to = state_after k p } ∷ followed ns ks (states_after n.tag (state_after k p) (rest cs))) (same_top cs ds h)
    ∙ ap (record { from = top ds; to = s } ∷◌)
    (same_followed ns ks (states_after n.tag s (rest cs)) (states_after n.tag s (rest ds)) (same_onward n.tag s (rest cs) (rest ds) (same_rest 0 cs ds h)))

-- from the left
pub left_stack : (tag s : ℕ) (a : List ℕ) (d f j : ℕ) → d + 1 < length a → get_or a 0 0 ≡ 0 → f ≡ cond (eqb tag 0) (get_or a d 0) s → j ≡ cond (eqb tag 0) (d - 1) (cond (eqb tag 1) (d + 1) d)
    → Same 0 (f ∷ stacked 0 (set a (d + 1) s) (j + 1)) (states_after tag s (stacked 0 a (d + 1)))
left_stack tag s a d f j h z fe je k = ap₂ (λ f j. get_or (f ∷ stacked 0 (set a (d + 1) s) (j + 1)) k 0) fe je ∙ go (eqb tag 0) (eqb tag 1)
  where
    go : (x y : Bool) → get_or (cond x (get_or a d 0) s ∷ stacked 0 (set a (d + 1) s) (cond x (d - 1) (cond y (d + 1) d) + 1)) k 0
        ≡ get_or (cond x (stacked 0 a (d + 1)) (cond y (s ∷ s ∷ stacked 0 a (d + 1)) (s ∷ stacked 0 a (d + 1)))) k 0
    go true y =
        ap (λ l. get_or (get_or a d 0 ∷ l) k 0) (stacked_set 0 a (d + 1) s (d - 1 + 1) (omega arith))
        ∙ same_cons 0 (get_or a d 0) (get_or a d 0) (stacked 0 a (d - 1 + 1)) (stacked 0 a d) refl (one_less 0 a d z) k ∙ ap (λ l. get_or l k 0) (sym (stacked_more 0 a d))
    go false true = ap (λ l. get_or (s ∷ l) k 0) (stacked_push 0 a (d + 1) s h)
    go false false = ap (λ l. get_or (s ∷ l) k 0) (stacked_set 0 a (d + 1) s (d + 1) (omega arith))

pub left_turn : (ns : List Node) (i : ℕ) (words turns whole st st' : List ℕ) (tag from to : ℕ) → i < length ns → i < length words
    → tag ≡ (item no_node ns (i + 1)).tag → from ≡ top st → to ≡ state_after (get_or words i 0) from → st' ≡ states_after tag to (rest st)
    → sets turns (i + 1) (map packed (followed (drop i ns) (drop i words) st)) ≡ whole
    → sets (set turns (i + 1) (from + 256 * to)) (i + 1 + 1) (map packed (followed (drop (i + 1) ns) (drop (i + 1) words) st')) ≡ whole
unfolding followed
left_turn ns i words turns whole st st' tag from to h k te fe oe se inv =
    let now : followed (drop i ns) (drop i words) st ≡ record { from = from; to = to } ∷ followed (drop (i + 1) ns) (drop (i + 1) words) st' =
    ap₂ (λ x y. followed x y st) (next-item no_node ns i h) (drop-cons words i 0 k ∙ ap (λ j. get_or words i 0 ∷ drop j words) (sym (add-one i)))
    ∙ both fe oe te se in
    ap (λ j. sets (set turns (i + 1) (from + 256 * to)) j (map packed (followed (drop (i + 1) ns) (drop (i + 1) words) st'))) (add-one (i + 1))
    ∙ ap (λ ts. sets turns (i + 1) (map packed ts)) (sym now) ∙ inv
  where
    both : from ≡ top st → to ≡ state_after (get_or words i 0) from → tag ≡ (item no_node ns (i + 1)).tag → st' ≡ states_after tag to (rest st)
        → followed (item no_node ns (i + 1) ∷ drop (i + 1) ns) (get_or words i 0 ∷ drop (i + 1) words) st
        ≡ record { from = from; to = to } ∷ followed (drop (i + 1) ns) (drop (i + 1) words) st'
    both fe oe te se = rw (se, te, oe, fe)

-- where the loops begin and end
labels_none : (ns : List Node) (roles : List ℕ) (n : ℕ) → length ns ≤ n → labels_from ns roles n ≡ []
unfolding labelled
labels_none ns roles n h = ap (λ x. labelled x (drop (suc n) roles)) (none_past ns n h)

pub right_begins : (ns : List Node) (roles : List ℕ) (n : ℕ) → length ns ≤ n → Same no_saving (no_saving ∷ no_saving ∷ []) (savings (labels_from ns roles n))
unfolding savings
right_begins ns roles n h k = two_nothings no_saving k ∙ ap (λ ls. get_or (savings ls) k no_saving) (sym (labels_none ns roles n h))

pub right_empty : (ns : List Node) (roles ends : List ℕ) (n : ℕ) → length ns ≤ n → ends ≡ kept_all (labels_from ns roles n) ++ ends
unfolding kept_all
right_empty ns roles ends n h = ap (λ ls. kept_all ls ++ ends) (sym (labels_none ns roles n h))

pub left_begins : (ns : List Node) (words turns : List ℕ)
    → sets turns 1 (map packed (followed ns words (0 ∷ 0 ∷ []))) ≡ sets turns 1 (map packed (followed ns words []))
left_begins ns words turns = ap (λ ts. sets turns 1 (map packed ts)) (same_followed ns words (0 ∷ 0 ∷ []) [] (two_nothings 0))

pub left_ends : (ns : List Node) (i : ℕ) (words turns st : List ℕ) → length ns ≤ i → turns ≡ sets turns (i + 1) (map packed (followed (drop i ns) words st))
unfolding followed
left_ends ns i words turns st h = ap (λ x. sets turns (i + 1) (map packed (followed x words st))) (sym (none_past ns i h))

-- the depths, and the element 0
pub right_depth : (tag d j : ℕ) → j ≡ cond (eqb tag 0) (d + 1) (cond (eqb tag 1) (d - 1) d) → j ≤ d + 1
right_depth tag d j e = omega (arith, e, go (eqb tag 0) (eqb tag 1))
  where
    go : (x y : Bool) → cond x (d + 1) (cond y (d - 1) d) ≤ d + 1
    go true y = omega arith
    go false true = omega arith
    go false false = omega arith

pub left_depth : (tag d j : ℕ) → j ≡ cond (eqb tag 0) (d - 1) (cond (eqb tag 1) (d + 1) d) → j ≤ d + 1
left_depth tag d j e = omega (arith, e, go (eqb tag 0) (eqb tag 1))
  where
    go : (x y : Bool) → cond x (d - 1) (cond y (d + 1) d) ≤ d + 1
    go true y = omega arith
    go false true = omega arith
    go false false = omega arith

pub first-kept : {A : Type 0} (z : A) (a : List A) (i : ℕ) (v : A) → 0 < i → get_or (set a i v) 0 z ≡ get_or a 0 z
first-kept z a i v h = get_or-set_other a i 0 v z (λ e. let no_way : 0 ≡ i = e in omega arith)
