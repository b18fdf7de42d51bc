-- Placing's answer by stages: 17, then 1 to 10, then 14 (masks before nodes), 15, 16.
use Prim.Native.Nat.{ℕ, suc, ◌*◌, ◌≤◌, ◌<◌}
use mathlib.Core.Path.{◌≡◌, refl, sym, ap, ap₂, ◌∙◌, subst}
use mathlib.Core.Logic.{◌↔◌, ◌⊎◌, inl, inr, ◌≢◌}
use mathlib.Core.Bool.{Bool, true, false, cond, ◌&&◌}
use mathlib.Core.List.{List, [], ◌∷◌}
use native.Mathlib.Omega.{arith}
use lib.Dec.{eqb, leb, ltb}
use lib.ListN.{length}
use borrow.Author.Tests.{eqb-true, eqb-false, eq-eqb, ne_eqb, leb-true, leb-false, ltb-true, ltb-false, lt-ltb, le-ltb}
use Rattle.format.specs.Contents.{Contents, contents_of}
use Rattle.format.specs.Answers.{fine, refused, or_else}
use Rattle.format.specs.Header.{version_at, room_for}
use Rattle.format.specs.declared.Verdict.{Verdict}
use Rattle.format.proofs.AnswerLaws.{quiet_first, loud_first, both_quiet}
use Rattle.checking.specs.Check.{reading_names}
use Rattle.states.specs.States.{Label, needs}
use Rattle.groups.specs.Groups.{sizes_of}
use Rattle.placing.specs.declared.Placed.{Placed}
use Rattle.placing.specs.Placing.{labels_in, turns_for, masks_answer, switches_answer, unserved_from, size_answer, settling, placeable, judging, no_place, placed_in, measuring, placing}
use Rattle.reading_exact.specs.Order.{Order, in_turn, OfFile, First}
use Rattle.reading_exact.specs.Refusals.{reading_order}
use Rattle.reading_exact.proofs.FirstLaws.{number_of, both_zero, both_fine, Unfit}
use Rattle.reading_exact.proofs.Turns.{of_file_turn, not_of_file}
use Rattle.checking_exact.specs.Faults.{Objection, check_order}
use Rattle.checking_exact.proofs.CheckFirst.{names_first}
use Rattle.placing_exact.specs.Promised.{Clean, Unrefused}
use Rattle.placing_exact.proofs.RefusedPlaces.{bare_mask, low_tag, masks_first, switches_first, masks_none, switches_none}

-- an answer that is fine, or refuses with a number whose turn is one of lo to hi
pub data Among (lo hi : ℕ) (v : Verdict) : Type 0 where
  none : v ≡ fine → Among lo hi v
  some : lo ≤ in_turn v.number → in_turn v.number ≤ hi → Among lo hi v

-- such is the first of refusals with those turns
pub first_among : (o : Order) (R : ℕ → ℕ → Type 0) (lo hi : ℕ) (v : Verdict) → ((n p : ℕ) → R n p → (lo ≤ in_turn n) × (in_turn n ≤ hi)) → First o R v → Among lo hi v
first_among o R lo hi v within (inl (e, _)) = none e
first_among o R lo hi v within (inr (n, p, e, (r, _))) =
    let z : in_turn v.number ≡ in_turn n = ap in_turn (number_of e) in some (omega (arith, z, within n p r)) (omega (arith, z, within n p r))

pub among_fine : (lo hi : ℕ) (v : Verdict) → 1 ≤ lo → Among lo hi v → v.number ≡ 0 → v ≡ fine
among_fine lo hi v l (none e) q = e
among_fine lo hi v l (some a b) q = let z : in_turn v.number ≡ 0 = ap in_turn q in absurd (omega (arith, a, l, z))

-- a number past those is not refused with, nor one before
past_number : (lo hi : ℕ) (v : Verdict) (n p : ℕ) → hi < in_turn n → Among lo hi v → v ≡ refused n p → ⊥
past_number lo hi v n p l (none e) h = let z : 0 ≡ in_turn n = ap in_turn (number_of (sym e ∙ h)) in omega (arith, l, z)
past_number lo hi v n p l (some a b) h = let z : in_turn v.number ≡ in_turn n = ap in_turn (number_of h) in omega (arith, l, z, b)

lower_number : (lo hi : ℕ) (v : Verdict) (n p : ℕ) → 1 ≤ n → in_turn n < lo → Among lo hi v → v ≡ refused n p → ⊥
lower_number lo hi v n p k l (none e) h = omega (arith, k, number_of (sym e ∙ h))
lower_number lo hi v n p k l (some a b) h = let z : in_turn v.number ≡ in_turn n = ap in_turn (number_of h) in omega (arith, l, z, a)

-- of two answers the second's refusal, where the first has earlier turns
pub second_stage : (lo hi : ℕ) (v w : Verdict) (n p : ℕ) → 1 ≤ lo → hi < in_turn n → Among lo hi v
    → (or_else v w ≡ refused n p) ↔ ((v ≡ fine) × (w ≡ refused n p))
second_stage lo hi v w n p k l a =
    let both = both_quiet (λ x. x ≡ refused n p) v w (λ e. absurd (past_number lo hi v n p l a e)) in
    (λ h. let (q, e) = both.0 h in (among_fine lo hi v k a q, e), λ h. both.1 (number_of h.0, h.1))

-- and the first's, where the second has later ones
pub first_stage : (lo hi : ℕ) (v w : Verdict) (n p : ℕ) → 1 ≤ n → in_turn n < lo → Among lo hi w → (or_else v w ≡ refused n p) ↔ (v ≡ refused n p)
first_stage lo hi v w n p k l a = (to (eqb v.number 0), λ h. loud_first v w (λ z. omega (arith, k, z, number_of h)) ∙ h)
  where
    to : (b : Bool) → cond b w v ≡ refused n p → v ≡ refused n p
    to true h = absurd (lower_number lo hi w n p k l a h)
    to false h = h

-- of two answers in order
pub among_or : (lo x y hi : ℕ) (v w : Verdict) → lo ≤ y → x ≤ hi → Among lo x v → Among y hi w → Among lo hi (or_else v w)
among_or lo x y hi v w l k a c = go (eqb v.number 0) refl a c
  where
    go : (b : Bool) → eqb v.number 0 ≡ b → Among lo x v → Among y hi w → Among lo hi (cond b w v)
    go true e a (none z) = none z
    go true e a (some i j) = some (omega (arith, l, i)) j
    go false e (none z) c = absurd (eqb-false v.number 0 e (number_of z))
    go false e (some i j) c = some i (omega (arith, k, j))

-- The stages' turns: twice their numbers.

pub names_among : (f : List ℕ) → Among 2 20 (reading_names f)
names_among f = first_among check_order _ 2 20 (reading_names f) (λ n p (o, l). (some_turn n (of_file_turn n l).0, (of_file_turn n l).1)) (names_first f)
  where
    some_turn : (n : ℕ) → 1 ≤ n → 2 ≤ in_turn n
    some_turn n l = go (eqb n 21)
      where
        go : (b : Bool) → 2 ≤ cond b 13 (2 * n)
        go true = omega arith
        go false = omega (arith, l)

-- what 1 to 10 answer of a file: nothing, or a refusal of the file
pub data Named (v : Verdict) : Type 0 where
  names_fine : v ≡ fine → Named v
  names_wrong : OfFile v.number → Named v

pub names_of : (f : List ℕ) → Named (reading_names f)
names_of f = go (names_first f)
  where
    go : First check_order (λ n p. Objection f n p × OfFile n) (reading_names f) → Named (reading_names f)
    go (inl (e, _)) = names_fine e
    go (inr (n, p, e, ((o, l), _))) = names_wrong (subst OfFile (sym (number_of e)) l)

-- 14 for a starting mask has place 0, and for on or off a node as place
module _ (C : Contents) where
  pub masks_answers : (masks_answer C ≡ fine) ⊎ (masks_answer C ≡ refused 14 0)
  masks_answers = go (masks_first C reading_order)
    where
      go : First reading_order (Unfit (bare_mask C) 14 (λ n. 0) 1 (length C.sessions)) (masks_answer C) → (masks_answer C ≡ fine) ⊎ (masks_answer C ≡ refused 14 0)
      go (inl (e, clear)) = inl e
      go (inr (n, p, e, ((a, x, l, k, z, b), low))) = inr (e ∙ ap₂ refused a b)

  pub switches_answers : (switches_answer C ≡ fine) ⊎ ((p : ℕ) × (1 ≤ p) × (switches_answer C ≡ refused 14 p))
  switches_answers = go (switches_first C reading_order)
    where
      go : First reading_order (Unfit (low_tag C) 14 (λ n. n) 1 (length C.nodes)) (switches_answer C)
          → (switches_answer C ≡ fine) ⊎ ((p : ℕ) × (1 ≤ p) × (switches_answer C ≡ refused 14 p))
      go (inl (e, clear)) = inl e
      go (inr (n, p, e, ((a, x, l, k, z, b), low))) = inr (p, omega arith, e ∙ ap (λ (m : ℕ). refused m p) a)

  pub masks_among : Among 28 28 (masks_answer C)
  masks_among = first_among reading_order _ 28 28 (masks_answer C) (λ n p u. let z : in_turn n ≡ 28 = ap in_turn u.0 in omega (arith, z)) (masks_first C reading_order)

  pub switches_among : Among 28 28 (switches_answer C)
  switches_among = first_among reading_order _ 28 28 (switches_answer C) (λ n p u. let z : in_turn n ≡ 28 = ap in_turn u.0 in omega (arith, z)) (switches_first C reading_order)

pub unserved_answers : (i : ℕ) (ls : List Label) → (unserved_from i ls ≡ fine) ⊎ ((p : ℕ) × (unserved_from i ls ≡ refused 15 p))
unfolding unserved_from
unserved_answers i [] = inl refl
unserved_answers i (l ∷ ls) = go (needs l.tag && eqb l.roles 0) (unserved_answers (suc i) ls)
  where
    go : (b : Bool) → (unserved_from (suc i) ls ≡ fine) ⊎ ((p : ℕ) × (unserved_from (suc i) ls ≡ refused 15 p))
        → (cond b (refused 15 i) (unserved_from (suc i) ls) ≡ fine) ⊎ ((p : ℕ) × (cond b (refused 15 i) (unserved_from (suc i) ls) ≡ refused 15 p))
    go true more = inr (i, refl)
    go false more = more

pub unserved_among : (ls : List Label) → Among 30 30 (unserved_from 1 ls)
unserved_among ls = go (unserved_answers 1 ls)
  where
    go : (unserved_from 1 ls ≡ fine) ⊎ ((p : ℕ) × (unserved_from 1 ls ≡ refused 15 p)) → Among 30 30 (unserved_from 1 ls)
    go (inl e) = none e
    go (inr (p, e)) = let z = ap in_turn (number_of e) in some (omega (arith, z)) (omega (arith, z))

pub size_answers : (n : ℕ) → ((size_answer n ≡ fine) × (n ≤ 1024)) ⊎ ((size_answer n ≡ refused 16 0) × (1024 < n))
size_answers n = go (leb n 1024) refl
  where
    go : (b : Bool) → leb n 1024 ≡ b → ((cond b fine (refused 16 0) ≡ fine) × (n ≤ 1024)) ⊎ ((cond b fine (refused 16 0) ≡ refused 16 0) × (1024 < n))
    go true e = inl (refl, leb-true n 1024 e)
    go false e = inr (refl, leb-false n 1024 e)

pub size_among : (n : ℕ) → Among 32 32 (size_answer n)
size_among n = go (size_answers n)
  where
    go : ((size_answer n ≡ fine) × (n ≤ 1024)) ⊎ ((size_answer n ≡ refused 16 0) × (1024 < n)) → Among 32 32 (size_answer n)
    go (inl (e, l)) = none e
    go (inr (e, l)) = let z = ap in_turn (number_of e) in some (omega (arith, z)) (omega (arith, z))

-- The whole answer.

module _ (f : List ℕ) (room : ℕ) where
  abbrev C : Contents
  C = contents_of f

  abbrev sizes : ℕ
  sizes = sizes_of (turns_for C)

  abbrev bare : Verdict
  bare = or_else (masks_answer C) (switches_answer C)

  settling_among : Among 30 32 (settling (labels_in C))
  settling_among =
      among_or 30 30 32 32 (unserved_from 1 (labels_in C)) (size_answer sizes) (omega arith) (omega arith) (unserved_among (labels_in C)) (size_among sizes)

  bare_among : Among 28 28 bare
  bare_among = among_or 28 28 28 28 (masks_answer C) (switches_answer C) (omega arith) (omega arith) (masks_among C) (switches_among C)

  placeable_among : Among 28 32 (placeable C)
  unfolding placeable
  placeable_among = among_or 28 28 30 32 bare (settling (labels_in C)) (omega arith) (omega arith) bare_among settling_among

  pub judging_among : Among 2 32 (judging f)
  unfolding judging
  judging_among = among_or 2 20 28 32 (reading_names f) (placeable C) (omega arith) (omega arith) (names_among f) placeable_among

  -- 17 first of all
  pub room_stage : (placing f room ≡ no_place 17 0) ↔ (room < room_for f)
  unfolding placing measuring
  room_stage = (to (ltb room (room_for f)) refl (eqb (judging f).number 0) refl, λ l. rw (lt-ltb room (room_for f) l))
    where
      to : (b : Bool) → ltb room (room_for f) ≡ b → (c : Bool) → eqb (judging f).number 0 ≡ c
          → cond b (no_place 17 0) (cond c (placed_in (version_at f) C) (no_place (judging f).number (judging f).place)) ≡ no_place 17 0
          → room < room_for f
      to true e c k h = ltb-true room (room_for f) e
      to false e true k h = absurd (omega (arith, ap (λ (x : Placed). x.number) h))
      to false e false k h = absurd (past_number 2 32 (judging f) 17 0 (omega arith) judging_among (ap (λ (x : Placed). refused x.number x.place) h))

  pub placed_zero : ((placing f room).number ≡ 0) ↔ ((room_for f ≤ room) × ((judging f).number ≡ 0))
  unfolding placing measuring
  placed_zero = (to (ltb room (room_for f)) refl (eqb (judging f).number 0) refl, λ (l, q). rw (le-ltb room (room_for f) l, eq-eqb (judging f).number 0 q))
    where
      to : (b : Bool) → ltb room (room_for f) ≡ b → (c : Bool) → eqb (judging f).number 0 ≡ c
          → (cond b (no_place 17 0) (cond c (placed_in (version_at f) C) (no_place (judging f).number (judging f).place))).number ≡ 0
          → (room_for f ≤ room) × ((judging f).number ≡ 0)
      to true e c k h = absurd (omega arith)
      to false e true k h = (ltb-false room (room_for f) e, eqb-true (judging f).number 0 k)
      to false e false k h = absurd (eqb-false (judging f).number 0 k h)

  pub placed_answer : (placing f room).number ≡ 0 → placing f room ≡ placed_in (version_at f) C
  unfolding placing measuring
  placed_answer h = let (l, q) = placed_zero.0 h in rw (le-ltb room (room_for f) l, eq-eqb (judging f).number 0 q)

  pub refused_judging : (n p : ℕ) → 1 ≤ n → n ≢ 17 → (placing f room ≡ no_place n p) ↔ ((room_for f ≤ room) × (judging f ≡ refused n p))
  unfolding placing measuring
  refused_judging n p l other = (
    to (ltb room (room_for f)) refl (eqb (judging f).number 0) refl,
    λ (w, e). rw (le-ltb room (room_for f) w, ne_eqb (judging f).number 0 (λ z. omega (arith, number_of e))) (ap (λ (v : Verdict). no_place v.number v.place) e),
  )
    where
      to : (b : Bool) → ltb room (room_for f) ≡ b → (c : Bool) → eqb (judging f).number 0 ≡ c
          → cond b (no_place 17 0) (cond c (placed_in (version_at f) C) (no_place (judging f).number (judging f).place)) ≡ no_place n p
          → (room_for f ≤ room) × (judging f ≡ refused n p)
      to true e c z h = absurd (other (sym (ap (λ (x : Placed). x.number) h)))
      to false e true z h = absurd (omega (arith, ap (λ (x : Placed). x.number) h))
      to false e false z h = (ltb-false room (room_for f) e, ap (λ (x : Placed). refused x.number x.place) h)

  -- 1 to 10
  pub names_stage : (n p : ℕ) → OfFile n → (placing f room ≡ no_place n p) ↔ ((room_for f ≤ room) × (reading_names f ≡ refused n p))
  unfolding judging
  names_stage n p o =
      let (l, k) = of_file_turn n o in
      let whole = refused_judging n p l (not_of_file n 17 o (omega arith) (omega arith)) in
      let named = first_stage 28 32 (reading_names f) (placeable C) n p l (omega (arith, k)) placeable_among in
      (λ h. let (w, j) = whole.0 h in (w, named.0 j), λ (w, e). whole.1 (w, named.1 e))

  -- 14 to 16 after 1 to 10
  after_names : (n p : ℕ) → 20 < in_turn n → (judging f ≡ refused n p) ↔ ((reading_names f ≡ fine) × (placeable C ≡ refused n p))
  unfolding judging
  after_names n p l = second_stage 2 20 (reading_names f) (placeable C) n p (omega arith) l (names_among f)

  -- 15 and 16 after 14
  after_bare : (n p : ℕ) → 28 < in_turn n → (placeable C ≡ refused n p) ↔ ((bare ≡ fine) × (settling (labels_in C) ≡ refused n p))
  unfolding placeable
  after_bare n p l = second_stage 28 28 bare (settling (labels_in C)) n p (omega arith) l bare_among

  at_bare : (p : ℕ) → (placeable C ≡ refused 14 p) ↔ (bare ≡ refused 14 p)
  unfolding placeable
  at_bare p = first_stage 30 32 bare (settling (labels_in C)) 14 p (omega arith) (omega arith) settling_among

  bare_iff : (bare ≡ fine) ↔ ((masks_answer C ≡ fine) × (switches_answer C ≡ fine))
  bare_iff = both_fine (masks_answer C) (switches_answer C) (among_fine 28 28 (masks_answer C) (omega arith) (masks_among C))

  unrefused_iff : Unrefused f room ↔ ((room_for f ≤ room) × (reading_names f ≡ fine) × (bare ≡ fine))
  unrefused_iff = (
    λ u. (u.wide, u.names, bare_iff.1 ((masks_none C).1 u.masks, (switches_none f u.names).1 u.switches)),
    λ (l, e, b). let (m, s) = bare_iff.0 b in record { wide = l; names = e; masks = (masks_none C).0 m; switches = (switches_none f e).0 s },
  )

  -- 16
  pub sixteen_stage : (p : ℕ)
      → (placing f room ≡ no_place 16 p)
      ↔ (Unrefused f room × (unserved_from 1 (labels_in (contents_of f)) ≡ fine) × (size_answer (sizes_of (turns_for (contents_of f))) ≡ refused 16 p))
  sixteen_stage p =
      let whole = refused_judging 16 p (omega arith) (λ z. omega (arith, z)) in
      let named = after_names 16 p (omega arith) in
      let settled = after_bare 16 p (omega arith) in
      let last = second_stage 30 30 (unserved_from 1 (labels_in C)) (size_answer sizes) 16 p (omega arith) (omega arith) (unserved_among (labels_in C)) in (
        λ h.
            let (w, j) = whole.0 h in
            let (e, k) = named.0 j in
            let (b, z) = settled.0 k in
            let (s, n) = last.0 z in
            (unrefused_iff.1 (w, e, b), s, n),
        λ (u, s, z).
            let (w, e, b) = unrefused_iff.0 u in
            whole.1 (w, named.1 (e, settled.1 (b, last.1 (s, z)))),
      )

  -- 15
  pub fifteen_stage : (p : ℕ) → (placing f room ≡ no_place 15 p) ↔ (Unrefused f room × (unserved_from 1 (labels_in (contents_of f)) ≡ refused 15 p))
  fifteen_stage p =
      let whole = refused_judging 15 p (omega arith) (λ z. omega (arith, z)) in
      let named = after_names 15 p (omega arith) in
      let settled = after_bare 15 p (omega arith) in
      let last = first_stage 32 32 (unserved_from 1 (labels_in C)) (size_answer sizes) 15 p (omega arith) (omega arith) (size_among sizes) in (
        λ h.
            let (w, j) = whole.0 h in
            let (e, k) = named.0 j in
            let (b, z) = settled.0 k in
            (unrefused_iff.1 (w, e, b), last.0 z),
        λ (u, z).
            let (w, e, b) = unrefused_iff.0 u in
            whole.1 (w, named.1 (e, settled.1 (b, last.1 z))),
      )

  -- 14: a starting mask
  pub masks_stage : (placing f room ≡ no_place 14 0) ↔ (Clean f room × (masks_answer (contents_of f) ≡ refused 14 0))
  masks_stage =
      let whole = refused_judging 14 0 (omega arith) (λ z. omega (arith, z)) in
      let named = after_names 14 0 (omega arith) in (
        λ h.
            let (w, j) = whole.0 h in
            let (e, k) = named.0 j in
            (record { wide = w; names = e }, to (masks_answers C) ((at_bare 0).0 k)),
        λ (c, m).
            whole.1 (c.wide, named.1 (c.names, (at_bare 0).1 (loud_first (masks_answer C) (switches_answer C) (λ z. omega (arith, number_of m)) ∙ m))),
      )
    where
      -- on or off has a node as place
      switched : (switches_answer C ≡ fine) ⊎ ((p : ℕ) × (1 ≤ p) × (switches_answer C ≡ refused 14 p)) → switches_answer C ≡ refused 14 0 → ⊥
      switched (inl e) h = omega (arith, number_of (sym e ∙ h))
      switched (inr (p, l, e)) h = omega (arith, ap (λ (v : Verdict). v.place) (sym e ∙ h))

      to : (masks_answer C ≡ fine) ⊎ (masks_answer C ≡ refused 14 0) → bare ≡ refused 14 0 → masks_answer C ≡ refused 14 0
      to (inl e) h = absurd (switched (switches_answers C) (sym (quiet_first (masks_answer C) (switches_answer C) (number_of e)) ∙ h))
      to (inr e) h = e

  -- 14: on or off
  pub switches_stage : (p : ℕ) → 1 ≤ p
      → (placing f room ≡ no_place 14 p) ↔ (Clean f room × (masks_answer (contents_of f) ≡ fine) × (switches_answer (contents_of f) ≡ refused 14 p))
  switches_stage p l =
      let whole = refused_judging 14 p (omega arith) (λ z. omega (arith, z)) in
      let named = after_names 14 p (omega arith) in (
        λ h.
            let (w, j) = whole.0 h in
            let (e, k) = named.0 j in
            let (m, s) = to (masks_answers C) ((at_bare p).0 k) in
            (record { wide = w; names = e }, m, s),
        λ (c, m, s).
            whole.1 (c.wide, named.1 (c.names, (at_bare p).1 (quiet_first (masks_answer C) (switches_answer C) (number_of m) ∙ s))),
      )
    where
      to : (masks_answer C ≡ fine) ⊎ (masks_answer C ≡ refused 14 0) → bare ≡ refused 14 p
          → (masks_answer C ≡ fine) × (switches_answer C ≡ refused 14 p)
      to (inl e) h = (e, sym (quiet_first (masks_answer C) (switches_answer C) (number_of e)) ∙ h)
      to (inr e) h =
          let first : bare ≡ masks_answer C = loud_first (masks_answer C) (switches_answer C) (λ z. omega (arith, number_of e)) in
          absurd (omega (arith, l, ap (λ (v : Verdict). v.place) (sym e ∙ sym first ∙ h)))

  -- nothing refused
  pub placed_stage : ((placing f room).number ≡ 0)
      ↔ (Unrefused f room × (unserved_from 1 (labels_in (contents_of f)) ≡ fine) × (sizes_of (turns_for (contents_of f)) ≤ 1024))
  unfolding judging placeable
  placed_stage =
      let ls : List Label = labels_in C in
      let named = both_zero (reading_names f) (placeable C) in
      let settled = both_zero bare (settling ls) in
      let last = both_zero (unserved_from 1 ls) (size_answer sizes) in (
        λ h.
            let (w, j) = placed_zero.0 h in
            let (e, k) = named.0 j in
            let (b, z) = settled.0 k in
            let (s, n) = last.0 z in (
              unrefused_iff.1 (w, among_fine 2 20 (reading_names f) (omega arith) (names_among f) e, among_fine 28 28 bare (omega arith) bare_among b),
              among_fine 30 30 (unserved_from 1 ls) (omega arith) (unserved_among ls) s,
              few (size_answers sizes) n,
            ),
        λ (u, s, n).
            let (w, e, b) = unrefused_iff.0 u in
            placed_zero.1 (w, named.1 (number_of e, settled.1 (number_of b, last.1 (number_of s, fits (size_answers sizes) n)))),
      )
    where
      few : ((size_answer sizes ≡ fine) × (sizes ≤ 1024)) ⊎ ((size_answer sizes ≡ refused 16 0) × (1024 < sizes)) → (size_answer sizes).number ≡ 0 → sizes ≤ 1024
      few (inl (e, l)) q = l
      few (inr (e, l)) q = absurd (omega (arith, number_of e, q))

      fits : ((size_answer sizes ≡ fine) × (sizes ≤ 1024)) ⊎ ((size_answer sizes ≡ refused 16 0) × (1024 < sizes)) → sizes ≤ 1024 → (size_answer sizes).number ≡ 0
      fits (inl (e, l)) q = number_of e
      fits (inr (e, l)) q = absurd (omega (arith, l, q))

-- without an output nothing is refused for want of room
pub measuring_roomless : (f : List ℕ) → (measuring f).number ≢ 17
unfolding measuring
measuring_roomless f = go (eqb (judging f).number 0)
  where
    go : (b : Bool) → (cond b (placed_in (version_at f) (contents_of f)) (no_place (judging f).number (judging f).place)).number ≢ 17
    go true e = omega (arith, e)
    go false e = past_number 2 32 (judging f) 17 (judging f).place (omega arith) (judging_among f 0) (ap (λ (n : ℕ). refused n (judging f).place) e)
