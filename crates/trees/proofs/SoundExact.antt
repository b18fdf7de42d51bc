-- The quicker look for 8 accepts whatever 8 doesn't refuse, so that it tells exactly whether 8 refuses.
use Prim.Native.Nat.{ℕ, suc, ◌+◌, ◌<◌}
use mathlib.Core.Path.{◌≡◌, refl, sym, ap, subst, ◌∙◌}
use mathlib.Core.Bool.{Bool, true, false, cond, not, ◌&&◌, ◌||◌, and-eq-true_iff}
use mathlib.Core.List.{List, [], ◌∷◌}
use native.Mathlib.Omega.{arith}
use lib.ListN.{length}
use lib.Dec.{eqb, leb, ltb}
use borrow.Author.Tests.{eqb-true, eq-eqb, ltb-true, le-leb, lt-leb}
use Rattle.format.specs.Answers.{fine, refused}
use Rattle.format.specs.Contents.{Contents}
use Rattle.format.specs.Stacks.{top, rest}
use Rattle.format.specs.declared.Verdict.{Verdict}
use Rattle.format.specs.declared.Session.{Session}
use Rattle.format.specs.declared.Node.{Node}
use Rattle.trees.specs.Ends.{following}
use Rattle.trees.specs.Shape.{bound_of, root_fits, binds, unused_fit, node_fits, bound_below, due_after, shape_from, roots, shape_answer}
use Rattle.trees.specs.declared.Due.{Due}
use Rattle.trees.specs.declared.Due.TheVariants.{Root, Child}
use Rattle.trees.proofs.FitsLaws.{Fitting, fits_apart, second_iff}
use Rattle.trees.proofs.SoundLaws.{Waiting, waiting, resumed, accepts, waits, same_head, starts}

not_fine : (i : ℕ) → refused 8 i ≡ fine → ⊥
not_fine i e = let no : ◌≡◌ {A = ℕ} 8 0 = ap (λ (v : Verdict). v.number) e in omega (arith, no)

-- the shape's answer has no other number than 8
shape_quiet : (i : ℕ) (ns : List Node) (ds : List Due) → (shape_from i ns ds).number ≡ 0 → shape_from i ns ds ≡ fine
unfolding shape_from
shape_quiet i [] [] q = refl
shape_quiet i [] (d ∷ ds) q = let no : ⊥ = omega (arith, q) in absurd no
shape_quiet i (n ∷ ns) [] q = let no : ⊥ = omega (arith, q) in absurd no
shape_quiet i (n ∷ ns) (d ∷ ds) q = go (node_fits i n d (top (following (suc i) ns))) q (shape_quiet (suc i) ns (due_after n d ds))
  where
    go : (b : Bool) → (cond b (shape_from (suc i) ns (due_after n d ds)) (refused 8 i)).number ≡ 0
        → ((shape_from (suc i) ns (due_after n d ds)).number ≡ 0 → shape_from (suc i) ns (due_after n d ds) ≡ fine)
        → cond b (shape_from (suc i) ns (due_after n d ds)) (refused 8 i) ≡ fine
    go true q later = later q
    go false q later = let no : ⊥ = omega (arith, q) in absurd no

pub answer_quiet : (C : Contents) → (shape_answer C).number ≡ 0 → shape_answer C ≡ fine
unfolding shape_answer
answer_quiet C q = shape_quiet 1 C.nodes (roots C.sessions) q

-- a node that was passed
goes : (i : ℕ) (n : Node) (ns : List Node) (d : Due) (ds : List Due) → shape_from i (n ∷ ns) (d ∷ ds) ≡ fine
    → Fitting i n d (top (following (suc i) ns)) × (shape_from (suc i) ns (due_after n d ds) ≡ fine)
unfolding shape_from
goes i n ns d ds h = go (node_fits i n d (top (following (suc i) ns))) refl h
  where
    go : (b : Bool) → node_fits i n d (top (following (suc i) ns)) ≡ b → cond b (shape_from (suc i) ns (due_after n d ds)) (refused 8 i) ≡ fine
        → Fitting i n d (top (following (suc i) ns)) × (shape_from (suc i) ns (due_after n d ds) ≡ fine)
    go true e h = ((fits_apart i n d (top (following (suc i) ns))).0 e, h)
    go false e h = absurd (not_fine i h)

-- the numbers at which the trees that are due begin, and then the number after the last node
abbrev Ranked : ℕ → List ℕ → List Due → Type 0
Ranked t [] ds = ⊥
Ranked t (x ∷ xs) [] = (x ≡ t) × (xs ≡ [])
Ranked t (x ∷ xs) (d ∷ ds) = (0 < x) × (root_fits x d ≡ true) × Ranked t xs ds

shape_ranked : (t i : ℕ) (ns : List Node) (ds : List Due) → 0 < i → i + length ns ≡ t → shape_from i ns ds ≡ fine → Ranked t (i ∷ following i ns) ds
unfolding shape_from following
shape_ranked t i [] [] pos l h = (omega (arith, l), refl)
shape_ranked t i [] (d ∷ ds) pos l h = absurd (not_fine i h)
shape_ranked t i (n ∷ ns) [] pos l h = absurd (not_fine i h)
shape_ranked t i (n ∷ ns) (d ∷ ds) pos l h =
    let g = goes i n ns d ds h in
    (pos, g.0.0, go (eqb n.tag 0) (eqb n.tag 1) (leb n.tag 8) (le-leb n.tag 8 g.0.1) (following (suc i) ns) (shape_ranked t (suc i) ns (due_after n d ds) (omega arith) (omega (arith, l)) g.1))
  where
    child : Due
    child = Child (bound_below n.tag (bound_of d))

    go : (x y z : Bool) → z ≡ true → (es : List ℕ) → Ranked t (suc i ∷ es) (cond x ds (cond y (child ∷ child ∷ ds) (child ∷ ds)))
        → Ranked t (cond x (suc i ∷ es) (cond y (rest es) (cond z es []))) ds
    go true y z e es r = r
    go false true z e [] r = absurd r.2
    go false true z e (x ∷ es) r = r.2.2
    go false false z e es r = rw e r.2

-- what waits stands at these numbers, with the variables bound above what is due
abbrev Lined : List Waiting → List ℕ → List Due → Type 0
Lined [] xs ds = ⊥
Lined (w ∷ st) [] ds = ⊥
Lined (w ∷ st) (x ∷ xs) [] = (w.number ≡ x) × (st ≡ [])
Lined (w ∷ st) (x ∷ xs) (d ∷ ds) = (w.number ≡ x) × (bound_of d ≡ w.bound) × Lined st xs ds

accepts_over : (i : ℕ) (ns : List Node) (b : ℕ) → shape_from i ns [] ≡ fine → accepts i ns b [] ≡ true
unfolding shape_from accepts
accepts_over i [] b h = refl
accepts_over i (n ∷ ns) b h = absurd (not_fine i h)

room_back : (b : ℕ) (x : Bool) → (not x || ltb b 8) ≡ true → not (x && leb 8 b) ≡ true
room_back b true h = rw (lt-leb 8 b (ltb-true b 8 h))
room_back b false h = refl

shape_accepts : (t i : ℕ) (ns : List Node) (b : ℕ) (st : List Waiting) (d : Due) (ds : List Due) → i + length ns ≡ t → bound_of d ≡ b
    → shape_from i ns (d ∷ ds) ≡ fine → Lined st (following i ns) ds → accepts i ns b st ≡ true
unfolding shape_from accepts following
shape_accepts t i [] b st d ds l bd h m = absurd (not_fine i h)
shape_accepts t i (n ∷ ns) b st d ds l bd h m =
    let g = goes i n ns d ds h in
    let low : leb n.tag 8 ≡ true = le-leb n.tag 8 g.0.1 in
    (and-eq-true_iff (leb n.tag 8 && unused_fit n) _).1 (
      (and-eq-true_iff (leb n.tag 8) (unused_fit n)).1 (low, g.0.2),
      go (eqb n.tag 0) (eqb n.tag 1) refl (leb n.tag 8) low (following (suc i) ns) refl st ds g.1 m g.0 (shape_accepts t (suc i) ns),
    )
  where
    child : Due
    child = Child (bound_below n.tag (bound_of d))

    next : suc i + length ns ≡ t
    next = omega (arith, l)

    go : (x y : Bool) → eqb n.tag 1 ≡ y → (z : Bool) → z ≡ true → (es : List ℕ) → following (suc i) ns ≡ es → (st : List Waiting) (ds : List Due)
        → shape_from (suc i) ns (cond x ds (cond y (child ∷ child ∷ ds) (child ∷ ds))) ≡ fine
        → Lined st (cond x (suc i ∷ es) (cond y (rest es) (cond z es []))) ds
        → Fitting i n d (top (following (suc i) ns))
        → ((b : ℕ) (st : List Waiting) (d : Due) (ds : List Due) → suc i + length ns ≡ t → bound_of d ≡ b → shape_from (suc i) ns (d ∷ ds) ≡ fine
        → Lined st (following (suc i) ns) ds → accepts (suc i) ns b st ≡ true)
        → cond x (resumed (accepts (suc i) ns) (suc i) st)
        (cond y (accepts (suc i) ns b (waiting n.f1 b ∷ st)) (not (binds n.tag && leb 8 b) && accepts (suc i) ns (bound_below n.tag b) st)) ≡ true
    go true y e z low es f [] ds h m fit later = absurd m
    go true y e z low es f (w ∷ st) [] h m fit later =
        (and-eq-true_iff (eqb w.number (suc i)) (accepts (suc i) ns w.bound st)).1
        (eq-eqb w.number (suc i) m.0, rw m.1 (accepts_over (suc i) ns w.bound h))
    go true y e z low es f (w ∷ st) (d' ∷ ds) h m fit later =
        (and-eq-true_iff (eqb w.number (suc i)) (accepts (suc i) ns w.bound st)).1
        (eq-eqb w.number (suc i) m.0, later w.bound st d' ds next m.1 h (subst (λ (q : List ℕ). Lined st q ds) (sym f) m.2))
    go false true e z low [] f st ds h m fit later =
        absurd (subst (λ (q : List ℕ). Ranked t q (child ∷ ds)) f (shape_ranked t (suc i) ns (child ∷ child ∷ ds) (omega arith) next h).2)
    go false true e z low (x ∷ es) f st ds h m fit later =
        let tag : n.tag ≡ 1 = eqb-true n.tag 1 e in
        let ranked : Ranked t (x ∷ es) (child ∷ ds) = subst (λ (q : List ℕ). Ranked t q (child ∷ ds)) f (shape_ranked t (suc i) ns (child ∷ child ∷ ds) (omega arith) next h).2 in
        let two : n.f1 ≡ x = (second_iff n x tag ranked.0).0 (rw f at fit.3) in
        let bound : bound_below n.tag (bound_of d) ≡ b = rw tag bd in
        later b (waiting n.f1 b ∷ st) child (child ∷ ds) next bound h (subst (λ (q : List ℕ). Lined (waiting n.f1 b ∷ st) q (child ∷ ds)) (sym f) (two, bound, m))
    go false false e z low es f st ds h m fit later =
        let fits : (not (binds n.tag) || ltb b 8) ≡ true = rw bd at fit.4 in
        (and-eq-true_iff (not (binds n.tag && leb 8 b)) (accepts (suc i) ns (bound_below n.tag b) st)).1 (
          room_back b (binds n.tag) fits,
          later (bound_below n.tag b) st child ds next (ap (bound_below n.tag) bd) h
              (subst (λ (q : List ℕ). Lined st q ds) (sym f) (subst (λ (k : Bool). Lined st (cond k es []) ds) low m)),
        )

ranked_lined : (t : ℕ) (ss : List Session) (xs : List ℕ) → Ranked t xs (roots ss) → Lined (waits ss t) xs (roots ss)
unfolding waits roots
ranked_lined t [] [] r = absurd r
ranked_lined t [] (x ∷ xs) r = (sym r.0, refl)
ranked_lined t (s ∷ ss) [] r = absurd r
ranked_lined t (s ∷ ss) (x ∷ xs) r = (eqb-true s.root x r.1, refl, ranked_lined t ss xs r.2)

starts_back : (ss : List Session) (t : ℕ) (ns : List Node) (w : Waiting) (st : List Waiting) → w ∷ st ≡ waits ss t → 1 + length ns ≡ t
    → shape_from 1 ns (roots ss) ≡ fine → (w.number ≡ 1) × (accepts 1 ns 0 st ≡ true)
unfolding waits roots shape_from
starts_back [] t [] w st e l h =
    (ap (λ (x : Waiting). x.number) (same_head e).0 ∙ omega (arith, l), rw (same_head e).1 (accepts_over 1 [] 0 refl))
starts_back [] t (n ∷ ns) w st e l h = absurd (not_fine 1 h)
starts_back (s ∷ ss) t ns w st e l h =
    let r = shape_ranked t 1 ns (Root s.root ∷ roots ss) (omega arith) l h in
    let one : s.root ≡ 1 = eqb-true s.root 1 r.1 in (
      ap (λ (x : Waiting). x.number) (same_head e).0 ∙ one,
      rw (same_head e).1 (shape_accepts t 1 ns 0 (waits ss t) (Root s.root) (roots ss) l refl h (ranked_lined t ss (following 1 ns) r.2)),
    )

-- the look from the first node on, with what waits
pub look_exact : (ss : List Session) (t : ℕ) (ns : List Node) (w : Waiting) (st : List Waiting) → w ∷ st ≡ waits ss t → 1 + length ns ≡ t
    → (eqb w.number 1 && accepts 1 ns 0 st) ≡ eqb (shape_from 1 ns (roots ss)).number 0
look_exact ss t ns w st e l = go (eqb w.number 1 && accepts 1 ns 0 st) refl (eqb (shape_from 1 ns (roots ss)).number 0) refl
  where
    go : (a : Bool) → (eqb w.number 1 && accepts 1 ns 0 st) ≡ a → (b : Bool) → eqb (shape_from 1 ns (roots ss)).number 0 ≡ b → (eqb w.number 1 && accepts 1 ns 0 st) ≡ eqb (shape_from 1 ns (roots ss)).number 0
    go true p true q = p ∙ sym q
    go true p false q =
        let both = (and-eq-true_iff (eqb w.number 1) (accepts 1 ns 0 st)).0 p in
        let quiet : shape_from 1 ns (roots ss) ≡ fine = starts ss t ns w st e (eqb-true w.number 1 both.0) l both.1 in
        p ∙ sym (eq-eqb (shape_from 1 ns (roots ss)).number 0 (ap (λ (v : Verdict). v.number) quiet))
    go false p true q =
        let back = starts_back ss t ns w st e l (shape_quiet 1 ns (roots ss) (eqb-true (shape_from 1 ns (roots ss)).number 0 q)) in
        (and-eq-true_iff (eqb w.number 1) (accepts 1 ns 0 st)).1 (eq-eqb w.number 1 back.0, back.1) ∙ sym q
    go false p false q = p ∙ sym q
