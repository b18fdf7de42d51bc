-- The quicker look for 8: where it accepts, 8 refuses nothing (the converse is in SoundExact).
use Prim.Native.Nat.{ℕ, zero, suc, ◌+◌, ◌*◌, ◌-◌, ◌/◌, ◌%◌, ◌≤◌, ◌<◌}
use mathlib.Core.Path.{◌≡◌, refl, sym, ap, ap₂, ◌∙◌}
use mathlib.Core.Bool.{Bool, true, false, cond, not, ◌&&◌, ◌||◌, and-eq-true_iff}
use mathlib.Core.List.{List, [], ◌∷◌, map}
use native.Mathlib.Omega.{arith}
use native.Mathlib.Numerals.{add-one}
use lib.ListN.{length, set, drop}
use lib.Dec.{eqb, leb, ltb}
use borrow.Author.Tests.{leb-true, eqb-true, eqb-false, eq-eqb, ne_eqb, leb-false, lt-ltb}
use Rattle.format.specs.Answers.{fine}
use Rattle.format.specs.Contents.{item, no_session, no_node}
use Rattle.format.specs.declared.Session.{Session}
use Rattle.format.specs.declared.Node.{Node}
use Rattle.format.specs.Stacks.{stacked, top, rest}
use Rattle.trees.specs.Ends.{following}
use Rattle.trees.specs.Shape.{bound_of, root_fits, binds, unused_fit, second_fits, bound_below, due_after, shape_from, roots}
use Rattle.trees.specs.declared.Due.{Due}
use Rattle.trees.specs.declared.Due.TheVariants.{Root, Child}
use Rattle.format.proofs.ContentsLaws.{from_item, from_node, none_past}
use Rattle.format.proofs.StackLaws.{read_push}
use Rattle.trees.proofs.FitsLaws.{Fitting, passed}

-- a tree that waits for those before it to end: the number that names it, and the variables bound above it
pub record Waiting : Type 0 where
  pub number : ℕ
  pub bound : ℕ

abbrev pub waiting : ℕ → ℕ → Waiting
waiting n b = record { number = n; bound = b }

abbrev pub none : List Waiting → Bool
none [] = true
none (w ∷ st) = false

-- what follows an end: the tree on top, at the number that names it
abbrev pub resumed : (ℕ → List Waiting → Bool) → ℕ → List Waiting → Bool
resumed go j [] = false
resumed go j (w ∷ st) = eqb w.number j && go w.bound st

-- the look from node i on, with b variables bound there
unfoldable pub accepts : ℕ → List Node → ℕ → List Waiting → Bool
accepts i [] b st = none st
accepts i (n ∷ ns) b st =
    (leb n.tag 8 && unused_fit n)
    && cond (eqb n.tag 0) (resumed (accepts (suc i) ns) (suc i) st)
    (cond (eqb n.tag 1) (accepts (suc i) ns b (waiting n.f1 b ∷ st))
    (not (binds n.tag && leb 8 b) && accepts (suc i) ns (bound_below n.tag b) st))

-- the trees that were followed end where those that wait begin
accepts_follows : (i : ℕ) (ns : List Node) (b : ℕ) (st : List Waiting) → accepts i ns b st ≡ true → following i ns ≡ map (λ (w : Waiting). w.number) st
unfolding accepts following
accepts_follows i [] b [] h = refl
accepts_follows i [] b (w ∷ st) h = let no : ◌≡◌ {A = ℕ} 0 1 = cc in absurd (omega arith)
accepts_follows i (n ∷ ns) b st h =
    let p = (and-eq-true_iff (leb n.tag 8 && unused_fit n) _).0 h in
    let q = (and-eq-true_iff (leb n.tag 8) (unused_fit n)).0 p.0 in
    go (eqb n.tag 0) (eqb n.tag 1) (leb n.tag 8) st q.0 p.1 (accepts_follows (suc i) ns)
  where
    go : (x y z : Bool) (st : List Waiting) → z ≡ true
        → cond x (resumed (accepts (suc i) ns) (suc i) st)
        (cond y (accepts (suc i) ns b (waiting n.f1 b ∷ st)) (not (binds n.tag && leb 8 b) && accepts (suc i) ns (bound_below n.tag b) st)) ≡ true
        → ((b : ℕ) (st : List Waiting) → accepts (suc i) ns b st ≡ true → following (suc i) ns ≡ map (λ (w : Waiting). w.number) st)
        → cond x (suc i ∷ following (suc i) ns) (cond y (rest (following (suc i) ns)) (cond z (following (suc i) ns) [])) ≡ map (λ (w : Waiting). w.number) st
    go true y z [] t e ih = let no : ◌≡◌ {A = ℕ} 0 1 = cc in absurd (omega arith)
    go true y z (w ∷ st) t e ih =
        let p = (and-eq-true_iff (eqb w.number (suc i)) (accepts (suc i) ns w.bound st)).0 e in
        ap₂ ◌∷◌ (sym (eqb-true _ _ p.0)) (ih w.bound st p.1)
    go false true z st t e ih = ap rest (ih b (waiting n.f1 b ∷ st) e)
    go false false z st t e ih = rw t (ih (bound_below n.tag b) st ((and-eq-true_iff (not (binds n.tag && leb 8 b)) _).0 e).1)

-- what waits, and what is due: t is the number after the last node, below all that waits
abbrev Matches : ℕ → List Waiting → List Due → Type 0
Matches t [] ds = ⊥
Matches t (w ∷ []) [] = w.number ≡ t
Matches t (w ∷ v ∷ st) [] = ⊥
Matches t (w ∷ st) (d ∷ ds) = (bound_of d ≡ w.bound) × (root_fits w.number d ≡ true) × Matches t st ds

-- the last tree has ended at the last node
over : (t i : ℕ) (ns : List Node) → suc i ≡ t → i + suc (length ns) ≡ t → shape_from (suc i) ns [] ≡ fine
unfolding shape_from
over t i [] e l = refl
over t i (n ∷ ns) e l = let no : ⊥ = omega arith in absurd no

not_binder : (tag : ℕ) (x : Bool) → binds tag ≡ false → (not (binds tag) || x) ≡ true
not_binder tag x e = rw e

second : (n : Node) (e : ℕ) → n.f1 ≡ e → second_fits n e ≡ true
second n e h = go (eqb n.tag 1) (eqb e 0)
  where
    go : (x y : Bool) → (not x || (y || eqb n.f1 e)) ≡ true
    go false y = refl
    go true true = refl
    go true false = eq-eqb n.f1 e h

not_fork : (n : Node) (e : ℕ) → (n.tag ≡ 1 → ⊥) → second_fits n e ≡ true
not_fork n e h = rw (ne_eqb n.tag 1 h)

room : (b : ℕ) (x : Bool) → not (x && leb 8 b) ≡ true → (not x || ltb b 8) ≡ true
room b true h = go (leb 8 b) refl h
  where
    go : (y : Bool) → leb 8 b ≡ y → not y ≡ true → ltb b 8 ≡ true
    go false e g = lt-ltb b 8 (leb-false 8 b e)
    go true e g = let no : ◌≡◌ {A = ℕ} 0 1 = cc in absurd (omega arith)
room b false h = refl

module _ (t : ℕ) where
  pub accepts_shape : (i : ℕ) (ns : List Node) (b : ℕ) (st : List Waiting) (d : Due) (ds : List Due) → i + length ns ≡ t → Matches t st ds
      → bound_of d ≡ b → root_fits i d ≡ true → accepts i ns b st ≡ true → shape_from i ns (d ∷ ds) ≡ fine
  unfolding accepts
  accepts_shape i [] b [] d ds l m bd r h = absurd m
  accepts_shape i [] b (w ∷ st) d ds l m bd r h = let no : ◌≡◌ {A = ℕ} 0 1 = cc in absurd (omega arith)
  accepts_shape i (n ∷ ns) b st d ds l m bd r h =
      let p = (and-eq-true_iff (leb n.tag 8 && unused_fit n) _).0 h in
      let q = (and-eq-true_iff (leb n.tag 8) (unused_fit n)).0 p.0 in
      go (eqb n.tag 0) refl (eqb n.tag 1) refl st ds m q.0 q.1 p.1 (accepts_shape (suc i) ns)
    where
      e' : ℕ
      e' = top (following (suc i) ns)

      next : suc i + length ns ≡ t
      next = omega arith

      at-end : (e : ℕ) → n.tag ≡ 0 → leb n.tag 8 ≡ true → unused_fit n ≡ true → Fitting i n d e
      at-end e tag lt u = (r, leb-true n.tag 8 lt, u, not_fork n e (λ z. let no : n.tag ≡ 1 = z in omega arith), not_binder n.tag (ltb (bound_of d) 8) (rw tag))

      go : (x : Bool) → eqb n.tag 0 ≡ x → (y : Bool) → eqb n.tag 1 ≡ y → (st : List Waiting) (ds : List Due) → Matches t st ds
          → leb n.tag 8 ≡ true → unused_fit n ≡ true
          → cond x (resumed (accepts (suc i) ns) (suc i) st)
          (cond y (accepts (suc i) ns b (waiting n.f1 b ∷ st)) (not (binds n.tag && leb 8 b) && accepts (suc i) ns (bound_below n.tag b) st)) ≡ true
          → ((b : ℕ) (st : List Waiting) (d : Due) (ds : List Due) → suc i + length ns ≡ t → Matches t st ds → bound_of d ≡ b → root_fits (suc i) d ≡ true
          → accepts (suc i) ns b st ≡ true → shape_from (suc i) ns (d ∷ ds) ≡ fine)
          → shape_from i (n ∷ ns) (d ∷ ds) ≡ fine
      go true x y e [] ds m lt u a ih = absurd m
      go true x y e (w ∷ []) [] m lt u a ih =
          let tag : n.tag ≡ 0 = eqb-true n.tag 0 x in
          let number : w.number ≡ suc i = eqb-true w.number (suc i) ((and-eq-true_iff (eqb w.number (suc i)) (accepts (suc i) ns w.bound [])).0 a).0 in
          let ended : shape_from (suc i) ns (due_after n d []) ≡ fine = rw x (over t i ns (sym number ∙ m) l) in
          passed i n ns d [] (at-end e' tag lt u) ∙ ended
      go true x y e (w ∷ v ∷ st) [] m lt u a ih = absurd m
      go true x y e (w ∷ st) (d' ∷ ds) m lt u a ih =
          let tag : n.tag ≡ 0 = eqb-true n.tag 0 x in
          let p = (and-eq-true_iff (eqb w.number (suc i)) (accepts (suc i) ns w.bound st)).0 a in
          let number : w.number ≡ suc i = eqb-true w.number (suc i) p.0 in
          let left : shape_from (suc i) ns (due_after n d (d' ∷ ds)) ≡ fine =
          rw x (ih w.bound st d' ds next m.2 m.0 (rw number at m.1) p.1) in
          passed i n ns d (d' ∷ ds) (at-end e' tag lt u) ∙ left
      go false x true e st ds m lt u a ih =
          let tag : n.tag ≡ 1 = eqb-true n.tag 1 e in
          let bound : bound_below n.tag (bound_of d) ≡ b = rw tag bd in
          let child : Due = Child (bound_below n.tag (bound_of d)) in
          let two : n.f1 ≡ top (following (suc i) ns) = sym (ap top (accepts_follows (suc i) ns b (waiting n.f1 b ∷ st) a)) in
          let left : shape_from (suc i) ns (due_after n d ds) ≡ fine = rw (x, e) (ih b (waiting n.f1 b ∷ st) child (child ∷ ds) next (bound, refl, m) bound refl a) in
          passed i n ns d ds (r, leb-true n.tag 8 lt, u, second n e' two, not_binder n.tag (ltb (bound_of d) 8) (rw tag)) ∙ left
      go false x false e st ds m lt u a ih =
          let p = (and-eq-true_iff (not (binds n.tag && leb 8 b)) (accepts (suc i) ns (bound_below n.tag b) st)).0 a in
          let left : shape_from (suc i) ns (due_after n d ds) ≡ fine =
          rw (x, e) (ih (bound_below n.tag b) st (Child (bound_below n.tag (bound_of d))) ds next m (ap (bound_below n.tag) bd) refl p.1) in
          passed i n ns d ds (r, leb-true n.tag 8 lt, u, not_fork n e' (eqb-false n.tag 1 e), rw bd (room b (binds n.tag) p.0)) ∙ left

-- the sessions' trees wait in order, and below them is the number after the last node
unfoldable pub waits : List Session → ℕ → List Waiting
waits [] t = waiting t 0 ∷ []
waits (s ∷ ss) t = waiting s.root 0 ∷ waits ss t

waits_match : (ss : List Session) (t : ℕ) → Matches t (waits ss t) (roots ss)
unfolding waits roots
waits_match [] t = refl
waits_match (s ∷ ss) t = (refl, eq-eqb s.root s.root refl, waits_match ss t)

pub same_head : {A : Type 0} {a b : A} {x y : List A} → a ∷ x ≡ b ∷ y → (a ≡ b) × (x ≡ y)
same_head e = (cc, cc)

pub starts : (ss : List Session) (t : ℕ) (ns : List Node) (w : Waiting) (st : List Waiting) → w ∷ st ≡ waits ss t → w.number ≡ 1 → 1 + length ns ≡ t
    → accepts 1 ns 0 st ≡ true → shape_from 1 ns (roots ss) ≡ fine
unfolding waits roots shape_from
starts [] t [] w st e one l h = refl
starts [] t (n ∷ ns) w st e one l h =
    let t1 : t ≡ 1 = sym (ap (λ (x : Waiting). x.number) (same_head e).0) ∙ one in
    let no : ⊥ = omega arith in
    absurd no
starts (s ∷ ss) t ns w st e one l h =
    let at_one : s.root ≡ 1 = sym (ap (λ (x : Waiting). x.number) (same_head e).0) ∙ one in
    accepts_shape t 1 ns 0 st (Root s.root) (roots ss) l (rw (same_head e).1 (waits_match ss t)) refl (eq-eqb s.root 1 at_one) h

-- tests one of which fails
false_first : (a c : Bool) → a ≡ false → (a && c) ≡ false
false_first a c e = rw e

false_both : (a b c : Bool) → (a && b) ≡ false → (a && (b && c)) ≡ false
false_both true b c e = rw e
false_both false b c e = refl

-- the same look as the loop goes, at node i
module _ (ns : List Node) (i : ℕ) (pos : 1 ≤ i) (h : i ≤ length ns) (node : Node) (its : node ≡ item no_node ns i) where
  -- the look from this node on, and from the next one
  abbrev pub Here : ℕ → List Waiting → Bool
  Here b st = accepts i (drop (i - 1) ns) b st

  abbrev pub Next : ℕ → List Waiting → Bool
  Next b st = accepts (i + 1) (drop (i + 1 - 1) ns) b st

  turned : (b : ℕ) (st : List Waiting)
      → ((leb node.tag 8 && unused_fit node)
      && cond (eqb node.tag 0) (resumed (accepts (i + 1) (drop (i + 1 - 1) ns)) (i + 1) st)
      (cond (eqb node.tag 1) (accepts (i + 1) (drop (i + 1 - 1) ns) b (waiting node.f1 b ∷ st))
      (not (binds node.tag && leb 8 b) && accepts (i + 1) (drop (i + 1 - 1) ns) (bound_below node.tag b) st)))
      ≡ accepts i (drop (i - 1) ns) b st
  unfolding accepts
  turned b st = rw (from_node ns i node pos h its, add-one i)

  pub on_end : (b : ℕ) (w : Waiting) (st : List Waiting) → node.tag ≡ 0 → node.f1 ≡ 0 → node.f2 ≡ 0 → w.number ≡ i + 1 → Next w.bound st ≡ Here b (w ∷ st)
  on_end b w st t u v e = rw (t, u, v, eq-eqb w.number (i + 1) e) at (turned b (w ∷ st))

  -- an end with a field, with no tree that waits, or before another tree
  pub off_fields : (b : ℕ) (st : List Waiting) → node.tag ≡ 0 → (eqb node.f1 0 && eqb node.f2 0) ≡ false → Here b st ≡ false
  off_fields b st t z = sym (turned b st) ∙ rw t (false_first (eqb node.f1 0 && eqb node.f2 0) (resumed (accepts (i + 1) (drop (i + 1 - 1) ns)) (i + 1) st) z)

  pub off_none : (b : ℕ) → node.tag ≡ 0 → node.f1 ≡ 0 → node.f2 ≡ 0 → Here b [] ≡ false
  off_none b t u v = sym (rw (t, u, v) at (turned b []))

  pub off_number : (b : ℕ) (w : Waiting) (st : List Waiting) → node.tag ≡ 0 → node.f1 ≡ 0 → node.f2 ≡ 0 → (w.number ≡ i + 1 → ⊥) → Here b (w ∷ st) ≡ false
  off_number b w st t u v e = sym (rw (t, u, v, ne_eqb w.number (i + 1) e) at (turned b (w ∷ st)))

  pub on_fork : (b : ℕ) (st : List Waiting) → node.tag ≡ 1 → node.f2 ≡ 0 → Next b (waiting node.f1 b ∷ st) ≡ Here b st
  on_fork b st t v = rw (t, v) at (turned b st)

  pub off_fork : (b : ℕ) (st : List Waiting) → node.tag ≡ 1 → (node.f2 ≡ 0 → ⊥) → Here b st ≡ false
  off_fork b st t v = sym (rw (t, ne_eqb node.f2 0 v) at (turned b st))

  -- a node with one child
  pub on_other : (b : ℕ) (st : List Waiting) → (node.tag ≡ 0 → ⊥) → (node.tag ≡ 1 → ⊥)
      → ((leb node.tag 8 && unused_fit node) && not (binds node.tag && leb 8 b)) ≡ true → Next (bound_below node.tag b) st ≡ Here b st
  on_other b st z o fits =
      let p = (and-eq-true_iff (leb node.tag 8 && unused_fit node) (not (binds node.tag && leb 8 b))).0 fits in
      rw (p.0, p.1, ne_eqb node.tag 0 z, ne_eqb node.tag 1 o) at (turned b st)

  pub off_other : (b : ℕ) (st : List Waiting) → (node.tag ≡ 0 → ⊥) → (node.tag ≡ 1 → ⊥)
      → ((leb node.tag 8 && unused_fit node) && not (binds node.tag && leb 8 b)) ≡ false → Here b st ≡ false
  off_other b st z o bad =
      let fits : Bool = leb node.tag 8 && unused_fit node in
      let one : Bool = not (binds node.tag && leb 8 b) && Next (bound_below node.tag b) st in
      sym (turned b st)
      ∙ ap₂ (λ x y. fits && cond x (resumed (accepts (i + 1) (drop (i + 1 - 1) ns)) (i + 1) st) (cond y (Next b (waiting node.f1 b ∷ st)) one)) (ne_eqb node.tag 0 z) (ne_eqb node.tag 1 o)
      ∙ false_both fits (not (binds node.tag && leb 8 b)) (Next (bound_below node.tag b) st) bad

-- what waits, each as one number in an array
abbrev pub unpack : ℕ → Waiting
unpack w = waiting (w % 65536) (w / 65536)

abbrev pub held : List ℕ → ℕ → List Waiting
held a d = map unpack (stacked 0 a d)

-- past the last node nothing may wait
pub on_last : (ns : List Node) (i b : ℕ) (a : List ℕ) (d : ℕ) → length ns < i → eqb d 0 ≡ accepts i (drop (i - 1) ns) b (held a d)
unfolding accepts stacked
on_last ns i b a d h = rw (none_past ns (i - 1) (omega arith)) (go d)
  where
    go : (d : ℕ) → eqb d 0 ≡ none (held a d)
    go zero = refl
    go (suc d) = ne_eqb (suc d) 0 (λ (e : suc d ≡ 0). omega (arith, e))

pub unpacked : (x b : ℕ) → x < 65536 → unpack (x + 65536 * b) ≡ waiting x b
unpacked x b h =
    let low : (x + 65536 * b) % 65536 ≡ x = omega arith in
    let high : (x + 65536 * b) / 65536 ≡ b = omega arith in
    rw (low, high)

pub held_push : (a : List ℕ) (d x b : ℕ) → d < length a → x < 65536 → held (set a d (x + 65536 * b)) (d + 1) ≡ waiting x b ∷ held a d
held_push a d x b h small = read_push 0 unpack a d (x + 65536 * b) (waiting x b) h (unpacked x b small)

pub waits_push : (ss : List Session) (s d t x : ℕ) (a : List ℕ) → length ss ≡ s → d < s → d + 1 < length a → x < 65536 → x ≡ (item no_session ss (s - d)).root
    → held a (d + 1) ≡ waits (drop (s - d) ss) t
    → held (set a (d + 1) (x + 65536 * 0)) (d + 1 + 1) ≡ waits (drop (s - (d + 1)) ss) t
unfolding waits
waits_push ss s d t x a all h l small its e =
    let one : s - (d + 1) ≡ s - d - 1 = omega arith in
    held_push a (d + 1) x 0 l small ∙ ap₂ ◌∷◌ (ap (λ k. waiting k 0) its) e ∙ rw (one, from_item no_session ss (s - d) (omega arith) (omega arith))
