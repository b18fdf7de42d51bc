-- The places of 14 and 15: a starting mask has 0, on or off its lowest node, a send or receive without a role its lowest node.
use Prim.Native.Nat.{ℕ, ◌≤◌}
use mathlib.Core.Path.{◌≡◌, refl, sym, ap, ap₂, ◌∙◌, subst}
use mathlib.Core.Logic.{◌↔◌, ◌⊎◌, inl, inr}
use mathlib.Core.Bool.{Bool, true, false}
use mathlib.Core.List.{List}
use native.Mathlib.Omega.{arith}
use lib.Dec.{eqb, ltb}
use lib.ListN.{length}
use borrow.Author.Tests.{eqb-false, ne_eqb, ltb-false, le-ltb}
use Rattle.format.specs.Contents.{Contents, item, no_session, no_node, contents_of}
use Rattle.format.specs.Answers.{fine, refused}
use Rattle.format.specs.declared.Verdict.{Verdict}
use Rattle.format.specs.declared.Node.{Node}
use Rattle.checking.specs.Check.{reading_names}
use Rattle.placing.specs.Placing.{labels_in, masks_answer, switches_answer, unserved_from}
use Rattle.reading_exact.specs.File.{InCount}
use Rattle.reading_exact.specs.Order.{Order, Sooner, First}
use Rattle.reading_exact.specs.Refusals.{nth, misshapen, reading_order}
use Rattle.reading_exact.proofs.FirstLaws.{number_of, first_zero, first_clear, first-map, Unfit, first-of}
use Rattle.reading_exact.proofs.ShapeFirst.{low_tag_lem}
use Rattle.reading_exact.proofs.FirstRefusal.{reading_fine}
use Rattle.reading_exact.proofs.TagTests.{one_of}
use Rattle.checking_exact.proofs.CheckFirst.{names_fine}
use Rattle.placing_exact.specs.Causes.{SomeMask, IsSwitch, Unserved}
use Rattle.placing_exact.specs.Promised.{Lowest}
use Rattle.placing_exact.proofs.UnservedNodes.{unserved_first}

-- the lowest place of one number's causes, where the answer is the first of them
pub lowest_place : (o : Order) (number : ℕ) (P : ℕ → Type 0) (v : Verdict) → 1 ≤ number → First o (λ n p. (n ≡ number) × P p) v → (p : ℕ)
    → (v ≡ refused number p) ↔ Lowest P p
lowest_place o number P v some found p = (to found, back found)
  where
    not_later : (n p q : ℕ) → n ≡ number → Sooner o n p number q → p ≤ q
    not_later n p q e (inl l) = absurd (omega (arith, ap o.stage e, l))
    not_later n p q e (inr (_, inl l)) = omega arith
    not_later n p q e (inr (_, inr (z, _))) = omega arith

    to : First o (λ n p. (n ≡ number) × P p) v → v ≡ refused number p → Lowest P p
    to (inl (e, clear)) z = absurd (omega (arith, some, number_of (sym e ∙ z)))
    to (inr (n, q, e, ((a, h), low))) z =
        let same : q ≡ p = ap (λ (v : Verdict). v.place) (sym e ∙ z) in
        subst (Lowest P) same (h, λ x s. not_later n q x a (low number x (refl, s)))

    back : First o (λ n p. (n ≡ number) × P p) v → Lowest P p → v ≡ refused number p
    back (inl (e, clear)) (s, least) = absurd (clear number p (refl, s))
    back (inr (n, q, e, ((a, h), low))) (s, least) =
        let same : q ≡ p = omega (arith, least q h, not_later n q p a (low number p (refl, s))) in
        e ∙ ap₂ refused a same

-- a mask that is 0, and a tag that is neither on nor off
module _ (C : Contents) where
  abbrev pub bare_mask : ℕ → Bool
  bare_mask n = eqb (item no_session C.sessions n).mask 0

  abbrev pub low_tag : ℕ → Bool
  low_tag n = ltb (item no_node C.nodes n).tag 7

  pub masks_first : (o : Order) → First o (Unfit bare_mask 14 (λ n. 0) 1 (length C.sessions)) (masks_answer C)
  unfolding masks_answer
  masks_first o = first-of o bare_mask 14 (λ n. 0) (λ x y l. omega arith) 1 (length C.sessions)

  pub switches_first : (o : Order) → First o (Unfit low_tag 14 (λ n. n) 1 (length C.nodes)) (switches_answer C)
  unfolding switches_answer
  switches_first o = first-of o low_tag 14 (λ n. n) (λ x y l. l) 1 (length C.nodes)

-- a starting mask
pub masks_cause : (C : Contents) (o : Order) → First o (λ n p. (n ≡ 14) × ((p ≡ 0) × SomeMask C)) (masks_answer C)
masks_cause C o =
    first-map o (Unfit (bare_mask C) 14 (λ n. 0) 1 (length C.sessions)) _ (masks_answer C)
    (λ n p (a, x, l, k, t, b). (a, (b, (x, (l, omega arith), eqb-false _ 0 t))))
    (λ n p (a, (b, (k, c, m))). (a, k, c.0, omega arith, ne_eqb _ 0 m, b)) (masks_first C o)

pub masks_some : (C : Contents) → (masks_answer C ≡ refused 14 0) ↔ SomeMask C
masks_some C =
    let (to, back) = lowest_place reading_order 14 (λ p. (p ≡ 0) × SomeMask C) (masks_answer C) (omega arith) (masks_cause C reading_order) 0 in
    (λ e. (to e).0.1, λ s. back ((refl, s), λ q h. omega arith))

pub masks_none : (C : Contents) → (masks_answer C ≡ fine) ↔ (SomeMask C → ⊥)
masks_none C = (
  λ e s. omega (arith, number_of (sym e ∙ (masks_some C).1 s)),
  λ never. first_clear reading_order (λ n p. (n ≡ 14) × ((p ≡ 0) × SomeMask C)) (masks_answer C) (masks_cause C reading_order) (λ n p (a, (b, s)). never s),
)

module _ (f : List ℕ) where
  abbrev C : Contents
  C = contents_of f

  abbrev ns : List Node
  ns = C.nodes

  -- every tag is one of 0 to 8
  tags_low : reading_names f ≡ fine → (i : ℕ) → InCount (length ns) i → (nth ns i).tag ≤ 8
  tags_low r = low_tag_lem ns _ (λ p m. (reading_fine f).0 ((names_fine f).0 r).0 8 p (misshapen refl m))

  abbrev High : ℕ → ℕ → Type 0
  High = Unfit (low_tag C) 14 (λ n. n) 1 (length ns)

  high_switch : reading_names f ≡ fine → (n p : ℕ) → High n p → IsSwitch ns p
  high_switch r n p (a, x, l, k, t, b) = subst (IsSwitch ns) (sym b) (c, one (nth ns x).tag (tags_low r x c) high)
    where
      c : InCount (length ns) x
      c = (l, omega arith)

      high : 7 ≤ (nth ns x).tag
      high = ltb-false (nth ns x).tag 7 t

      one : (t : ℕ) → t ≤ 8 → 7 ≤ t → (t ≡ 7) ⊎ (t ≡ 8)
      one t l k = go (eqb t 7) refl
        where
          go : (b : Bool) → eqb t 7 ≡ b → (t ≡ 7) ⊎ (t ≡ 8)
          go true e = (one_of t 7 8).0 (rw e)
          go false e = inr (omega (arith, eqb-false t 7 e))

  switch_high : (p : ℕ) → IsSwitch ns p → High 14 p
  switch_high p (c, t) = (refl, p, c.0, omega arith, le-ltb _ 7 (least (nth ns p).tag t), refl)
    where
      least : (x : ℕ) → (x ≡ 7) ⊎ (x ≡ 8) → 7 ≤ x
      least x (inl a) = omega arith
      least x (inr a) = omega arith

  -- on or off
  pub switches_cause : reading_names f ≡ fine → (o : Order) → First o (λ n p. (n ≡ 14) × IsSwitch (contents_of f).nodes p) (switches_answer (contents_of f))
  switches_cause r o =
      first-map o High _ (switches_answer C) (λ n p h. (h.0, high_switch r n p h)) (λ n p (e, s). subst (λ (m : ℕ). High m p) (sym e) (switch_high p s)) (switches_first C o)

  pub switches_lowest : reading_names f ≡ fine → (p : ℕ) → (switches_answer (contents_of f) ≡ refused 14 p) ↔ Lowest (IsSwitch (contents_of f).nodes) p
  switches_lowest r = lowest_place reading_order 14 (IsSwitch ns) (switches_answer C) (omega arith) (switches_cause r reading_order)

  pub switches_none : reading_names f ≡ fine → (switches_answer (contents_of f) ≡ fine) ↔ ((p : ℕ) → IsSwitch (contents_of f).nodes p → ⊥)
  switches_none r =
      let all = switches_cause r reading_order in (
        λ e p s. (first_zero reading_order (λ n p. (n ≡ 14) × IsSwitch ns p) (switches_answer C) (λ n p h. omega (arith, h.0)) all (number_of e)).1 14 p (refl, s),
        λ never. first_clear reading_order (λ n p. (n ≡ 14) × IsSwitch ns p) (switches_answer C) all (λ n p (a, s). never p s),
      )

  -- a send or receive without a role
  pub unserved_lowest : reading_names f ≡ fine → (p : ℕ) → (unserved_from 1 (labels_in (contents_of f)) ≡ refused 15 p) ↔ Lowest (Unserved (contents_of f)) p
  unserved_lowest r = lowest_place reading_order 15 (Unserved C) (unserved_from 1 (labels_in C)) (omega arith) (unserved_first f r reading_order)
