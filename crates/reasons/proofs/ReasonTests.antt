-- The test is true exactly for given reasons.
use Prim.Native.Nat.{ℕ, zero, suc, ◌≤◌, ◌<◌}
use mathlib.Core.Path.{◌≡◌, refl, sym, ◌∙◌}
use mathlib.Core.Bool.{Bool, true, false, not, ◌&&◌, ◌||◌, and-eq-true_iff, true≢false}
use mathlib.Core.Logic.{◌↔◌}
use native.Mathlib.Omega.{arith}
use lib.Dec.{eqb, leb, ltb}
use borrow.Author.Tests.{eqb-true, eqb-false, leb-true, leb-false, ltb-true, eq-eqb, le-leb, lt-leb, lt-ltb, not-true}
use Rattle.reasons.specs.declared.Reason.{Reason}
use Rattle.reasons.specs.IsReason.{MayCount, of_file, of_record, of_start, of_tree, of_step, of_chosen, of_placing, of_placing_node, of_unserved, of_room, of_lent, of_thread, of_pair, of_junior, of_minute, of_row, of_closed, of_joining, of_overfilled, of_unseated, of_notice, of_neither, PlaceFits, AtNode, TagFits, some_tag, no_tag, IsReason}
use Rattle.reasons.specs.Reasons.{by_none, by_node, by_choice, may_count, place_fits, at_node, tag_fits, is_reason}

either : {C : Type 0} (a b : Bool) → (a || b) ≡ true → (a ≡ true → C) → (b ≡ true → C) → C
either true b h f g = f refl
either false b h f g = g h

both : (a b : Bool) → (a && b) ≡ true → (a ≡ true) × (b ≡ true)
both a b h = (and-eq-true_iff a b).0 h

range : (a n b : ℕ) → (leb a n && leb n b) ≡ true → (a ≤ n) × (n ≤ b)
range a n b h = let x = both (leb a n) (leb n b) h in (leb-true a n x.0, leb-true n b x.1)

ranged : (a n b : ℕ) → a ≤ n → n ≤ b → (leb a n && leb n b) ≡ true
ranged a n b l u = rw (le-leb a n l, le-leb n b u) refl

or_right : (a b : Bool) → b ≡ true → (a || b) ≡ true
or_right true b h = refl
or_right false b h = h

none_given : (n c : ℕ) → c ≡ 0 → by_none n ≡ true → MayCount n c
unfolding by_none
none_given n c e h =
    either (leb 1 n && leb n 5 || leb 16 n && leb n 18 || eqb n 14 || eqb n 22 || eqb n 25) (eqb n 28) h
    (λ h. either (leb 1 n && leb n 5 || leb 16 n && leb n 18 || eqb n 14 || eqb n 22) (eqb n 25) h
    (λ h. either (leb 1 n && leb n 5 || leb 16 n && leb n 18 || eqb n 14) (eqb n 22) h
    (λ h. either (leb 1 n && leb n 5 || leb 16 n && leb n 18) (eqb n 14) h
    (λ h. either (leb 1 n && leb n 5) (leb 16 n && leb n 18) h
    (λ h. of_file (range 1 n 5 h).0 (range 1 n 5 h).1 e)
    (λ h. last (leb n 17) refl (range 16 n 18 h)))
    (λ h. of_placing (eqb-true n 14 h) e))
    (λ h. of_minute (eqb-true n 22 h) e))
    (λ h. of_joining (eqb-true n 25 h) e))
    (λ h. of_neither (eqb-true n 28 h) e)
  where
    last : (b : Bool) → leb n 17 ≡ b → (16 ≤ n) × (n ≤ 18) → MayCount n c
    last true k x = of_room x.0 (leb-true n 17 k) e
    last false k x = of_lent (omega (arith, leb-false n 17 k, x.1)) e

node_given : (n c : ℕ) → c ≡ 3 → by_node n ≡ true → MayCount n c
unfolding by_node
node_given n c e h =
    either (leb 8 n && leb n 15) (eqb n 24) h
    (λ h. first (leb n 10) (leb n 13) (leb n 14) refl refl refl (range 8 n 15 h))
    (λ h. of_closed (eqb-true n 24 h) e)
  where
    first : (a b d : Bool) → leb n 10 ≡ a → leb n 13 ≡ b → leb n 14 ≡ d → (8 ≤ n) × (n ≤ 15) → MayCount n c
    first true b d i j k x = of_tree x.0 (leb-true n 10 i) e
    first false true d i j k x = of_step (leb-false n 10 i) (leb-true n 13 j) e
    first false false true i j k x = of_placing_node (omega (arith, leb-false n 13 j, leb-true n 14 k)) e
    first false false false i j k x = of_unserved (omega (arith, leb-false n 14 k, x.1)) e

choice_given : (n c : ℕ) → c ≡ 4 → by_choice n ≡ true → MayCount n c
unfolding by_choice
choice_given n c e h =
    either (leb 11 n && leb n 13 || leb 18 n && leb n 20) (eqb n 26) h
    (λ h. either (leb 11 n && leb n 13) (leb 18 n && leb n 20) h
    (λ h. of_chosen (range 11 n 13 h).0 (range 11 n 13 h).1 e)
    (λ h. first (leb n 18) refl (range 18 n 20 h)))
    (λ h. of_unseated (eqb-true n 26 h) e)
  where
    first : (b : Bool) → leb n 18 ≡ b → (18 ≤ n) × (n ≤ 20) → MayCount n c
    first true k x = of_thread (omega (arith, leb-true n 18 k, x.0)) e
    first false k x = of_pair (leb-false n 18 k) x.1 e

may_count_lem : (n c : ℕ) → may_count n c ≡ true → MayCount n c
unfolding may_count
may_count_lem n c h =
    let t0 : Bool = eqb c 0 && by_none n in
    let t1 : Bool = eqb c 1 && (eqb n 6 || eqb n 21) in
    let t2 : Bool = eqb c 2 && (eqb n 7 || eqb n 26) in
    let t3 : Bool = eqb c 3 && by_node n in
    let t4 : Bool = eqb c 4 && by_choice n in
    let t5 : Bool = eqb c 5 && eqb n 23 in
    let t6 : Bool = eqb c 6 && eqb n 27 in
    either (t0 || t1 || t2 || t3 || t4 || t5) t6 h
    (λ h. either (t0 || t1 || t2 || t3 || t4) t5 h
    (λ h. either (t0 || t1 || t2 || t3) t4 h
    (λ h. either (t0 || t1 || t2) t3 h
    (λ h. either (t0 || t1) t2 h
    (λ h. either t0 t1 h
    (λ h. let x = both (eqb c 0) (by_none n) h in none_given n c (eqb-true c 0 x.0) x.1)
    (λ h. let x = both (eqb c 1) (eqb n 6 || eqb n 21) h in
    either (eqb n 6) (eqb n 21) x.1 (λ k. of_record (eqb-true n 6 k) (eqb-true c 1 x.0)) (λ k. of_junior (eqb-true n 21 k) (eqb-true c 1 x.0))))
    (λ h. let x = both (eqb c 2) (eqb n 7 || eqb n 26) h in
    either (eqb n 7) (eqb n 26) x.1 (λ k. of_start (eqb-true n 7 k) (eqb-true c 2 x.0)) (λ k. of_overfilled (eqb-true n 26 k) (eqb-true c 2 x.0))))
    (λ h. let x = both (eqb c 3) (by_node n) h in node_given n c (eqb-true c 3 x.0) x.1))
    (λ h. let x = both (eqb c 4) (by_choice n) h in choice_given n c (eqb-true c 4 x.0) x.1))
    (λ h. let x = both (eqb c 5) (eqb n 23) h in of_row (eqb-true n 23 x.1) (eqb-true c 5 x.0)))
    (λ h. let x = both (eqb c 6) (eqb n 27) h in of_notice (eqb-true n 27 x.1) (eqb-true c 6 x.0))

by_none_lem : (n c : ℕ) → c ≡ 0 → by_none n ≡ true → may_count n c ≡ true
unfolding may_count
by_none_lem n c e h = rw (e, h) refl

by_node_lem : (n c : ℕ) → c ≡ 3 → by_node n ≡ true → may_count n c ≡ true
unfolding may_count
by_node_lem n c e h = rw (e, h) refl

by_choice_lem : (n c : ℕ) → c ≡ 4 → by_choice n ≡ true → may_count n c ≡ true
unfolding may_count
by_choice_lem n c e h = rw (e, h) refl

at_node_lem : (n : ℕ) → 8 ≤ n → n ≤ 15 → by_node n ≡ true
unfolding by_node
at_node_lem n l u = rw (ranged 8 n 15 l u) refl

count_may : (n c : ℕ) → MayCount n c → may_count n c ≡ true
unfolding may_count by_none by_node by_choice
count_may n c (of_file l u e) = by_none_lem n c e (rw (ranged 1 n 5 l u) refl)
count_may n c (of_record i e) = rw (i, e) refl
count_may n c (of_start i e) = rw (i, e) refl
count_may n c (of_tree l u e) = by_node_lem n c e (at_node_lem n l (omega (arith, u)))
count_may n c (of_step l u e) = by_node_lem n c e (at_node_lem n (omega (arith, l)) (omega (arith, u)))
count_may n c (of_chosen l u e) = by_choice_lem n c e (rw (ranged 11 n 13 l u) refl)
count_may n c (of_placing i e) = rw (i, e) refl
count_may n c (of_placing_node i e) = rw (i, e) refl
count_may n c (of_unserved i e) = rw (i, e) refl
count_may n c (of_room l u e) = by_none_lem n c e (rw (le-leb 1 n (omega (arith, l)), lt-leb n 5 (omega (arith, l)), ranged 16 n 18 l (omega (arith, u))) refl)
count_may n c (of_lent i e) = rw (i, e) refl
count_may n c (of_thread i e) = rw (i, e) refl
count_may n c (of_pair l u e) = by_choice_lem n c e (rw (le-leb 11 n (omega (arith, l)), lt-leb n 13 (omega (arith, l)), ranged 18 n 20 (omega (arith, l)) u) refl)
count_may n c (of_junior i e) = rw (i, e) refl
count_may n c (of_minute i e) = rw (i, e) refl
count_may n c (of_row i e) = rw (i, e) refl
count_may n c (of_closed i e) = rw (i, e) refl
count_may n c (of_joining i e) = rw (i, e) refl
count_may n c (of_overfilled i e) = rw (i, e) refl
count_may n c (of_unseated i e) = rw (i, e) refl
count_may n c (of_notice i e) = rw (i, e) refl
count_may n c (of_neither i e) = rw (i, e) refl

place_fits_lem : (c p : ℕ) → place_fits c p ≡ true → p ≤ 65535 → PlaceFits c p
unfolding place_fits
place_fits_lem c p h l =
    either (eqb c 0 && eqb p 0) (ltb 0 c && ltb 0 p) h
    (λ h. let x = both (eqb c 0) (eqb p 0) h in ((λ e. eqb-true c 0 x.0, λ e. eqb-true p 0 x.1), l))
    (λ h. let x = both (ltb 0 c) (ltb 0 p) h in
    let cs : 0 < c = ltb-true 0 c x.0 in
    let ps : 0 < p = ltb-true 0 p x.1 in
    ((λ e. (let no : ⊥ = omega (arith, ps, e) in absurd no), λ e. (let no : ⊥ = omega (arith, cs, e) in absurd no)), l))

fits_place : (c p : ℕ) → PlaceFits c p → place_fits c p ≡ true
unfolding place_fits
fits_place c p g = go (eqb c 0) refl
  where
    go : (b : Bool) → eqb c 0 ≡ b → place_fits c p ≡ true
    go true e = rw (eqb-true c 0 e, g.0.1 (eqb-true c 0 e)) refl
    go false e =
        rw (e, lt-ltb 0 c (zero_or c (eqb-false c 0 e)), lt-ltb 0 p (zero_or p (λ z. eqb-false c 0 e (g.0.0 z)))) refl
      where
        zero_or : (n : ℕ) → (n ≡ 0 → ⊥) → 0 < n
        zero_or zero un = absurd (un refl)
        zero_or (suc n) un = omega arith

node_true : (n c : ℕ) → at_node n c ≡ true → AtNode n c
unfolding at_node
node_true n c h =
    let x = both (leb 9 n && leb n 15) (eqb c 3) h in
    ((range 9 n 15 x.0).0, (range 9 n 15 x.0).1, eqb-true c 3 x.1)

true_node : (n c : ℕ) → AtNode n c → at_node n c ≡ true
unfolding at_node
true_node n c g = rw (ranged 9 n 15 g.0 g.1, g.2) refl

tag_fits_lem : (n c t : ℕ) → tag_fits n c t ≡ true → TagFits n c t
unfolding tag_fits
tag_fits_lem n c t h =
    either (at_node n c && leb t 8) (not (at_node n c) && eqb t 9) h
    (λ h. let x = both (at_node n c) (leb t 8) h in some_tag (node_true n c x.0) (leb-true t 8 x.1))
    (λ h. let x = both (not (at_node n c)) (eqb t 9) h in
    no_tag (λ g. true≢false (sym (true_node n c g) ∙ not-true (at_node n c) x.0)) (eqb-true t 9 x.1))

fits_tag : (n c t : ℕ) → TagFits n c t → tag_fits n c t ≡ true
unfolding tag_fits
fits_tag n c t (some_tag g l) = rw (true_node n c g, le-leb t 8 l) refl
fits_tag n c t (no_tag un e) = go (at_node n c) refl
  where
    go : (b : Bool) → at_node n c ≡ b → (at_node n c && leb t 8 || not (at_node n c) && eqb t 9) ≡ true
    go true k = absurd (un (node_true n c k))
    go false k = rw (k, eq-eqb t 9 e) refl

pub reason_exactly : (r : Reason) → is_reason r ≡ true ↔ IsReason r
unfolding is_reason
reason_exactly r = (
  λ h.
      (let x = both (may_count r.number r.counts && place_fits r.counts r.place && tag_fits r.number r.counts r.tag) (leb r.place 65535) h in
      let y = both (may_count r.number r.counts && place_fits r.counts r.place) (tag_fits r.number r.counts r.tag) x.0 in
      let z = both (may_count r.number r.counts) (place_fits r.counts r.place) y.0 in
      (may_count_lem r.number r.counts z.0, place_fits_lem r.counts r.place z.1 (leb-true r.place 65535 x.1), tag_fits_lem r.number r.counts r.tag y.1)),
  λ g.
      rw (count_may r.number r.counts g.0, fits_place r.counts r.place g.1, fits_tag r.number r.counts r.tag g.2, le-leb r.place 65535 g.1.1) refl,
)
