-- Placing gives the first refusal in the paper's order: 17, then 1 to 8 by number and place, 21 after 6, 9 and 10 together by node, then 14 (masks before nodes), 15, 16.
use Prim.Native.Nat.{ℕ, ◌*◌, ◌≤◌, ◌<◌}
use mathlib.Core.Path.{◌≡◌, refl, sym, ap, ◌∙◌, subst}
use mathlib.Core.Logic.{◌⊎◌, inl, inr}
use mathlib.Core.Bool.{Bool, true, false, cond}
use mathlib.Core.List.{List}
use native.Mathlib.Omega.{arith}
use lib.Dec.{eqb, leb, ltb}
use borrow.Author.Tests.{eqb-true, ne_eqb, leb-true, leb-false, le-leb, ltb-true, ltb-false}
use Rattle.format.specs.Contents.{Contents, contents_of}
use Rattle.format.specs.Answers.{fine, refused, or_else}
use Rattle.format.specs.Header.{version_at, room_for}
use Rattle.format.specs.declared.Verdict.{Verdict}
use Rattle.checking.specs.Check.{reading_names}
use Rattle.groups.specs.Groups.{sizes_of}
use Rattle.placing.specs.Placing.{labels_in, turns_for, masks_answer, switches_answer, unserved_from, size_answer, settling, placeable, judging, no_place, placed_in, measuring, placing}
use Rattle.reading_exact.specs.Lists.{All}
use Rattle.reading_exact.specs.Order.{in_turn, OfFile, Sooner, First}
use Rattle.reading_exact.proofs.Turns.{turn_of, not_of_file}
use Rattle.reading_exact.proofs.FirstLaws.{Both, lowest, first_raise, first_clear, first-map, first_or}
use Rattle.checking_exact.specs.Faults.{Objection, check_order}
use Rattle.checking_exact.proofs.CheckFirst.{objection_number, names_first}
use Rattle.placing_exact.specs.Causes.{SomeMask, IsSwitch, Unserved, PlacedWith, Cause, no_room, objected, masked, switched, unserved, too_large, refusal_in, placing_order}
use Rattle.placing_exact.specs.Promised.{Unrefused}
use Rattle.placing_exact.proofs.AnswerStages.{among_fine, judging_among, size_answers}
use Rattle.placing_exact.proofs.UnservedNodes.{unserved_first}
use Rattle.placing_exact.proofs.RefusedPlaces.{masks_cause, switches_cause}
use Rattle.placing_exact.proofs.PlacingExact.{placement_read, read_placement}

-- The stages of numbers.

abbrev stage : ℕ → ℕ
stage = placing_order.stage

-- those of the file are the check's
pub stage_same : (n : ℕ) → OfFile n → stage n ≡ check_order.stage n
stage_same n o = go (leb (in_turn n) 16) refl o
  where
    go : (b : Bool) → leb (in_turn n) 16 ≡ b → OfFile n → stage n ≡ check_order.stage n
    go true e o = rw (ne_eqb n 17 (not_of_file n 17 o (omega arith) (omega arith)), e)
    go false e (inl (l, h)) = rw (ne_eqb n 17 (λ z. omega (arith, h, z)), e, le-leb n 10 h)
    go false e (inr z) = let w : in_turn n ≡ 13 = ap in_turn z in absurd (omega (arith, w, leb-false (in_turn n) 16 e))

pub stage_low : (n : ℕ) → OfFile n → (1 ≤ stage n) × (stage n ≤ 18)
stage_low n o = go (leb (in_turn n) 16) refl o
  where
    go : (b : Bool) → leb (in_turn n) 16 ≡ b → OfFile n → (1 ≤ stage n) × (stage n ≤ 18)
    go true e (inl (l, h)) =
        let z : stage n ≡ in_turn n = rw (ne_eqb n 17 (λ q. omega (arith, h, q)), e) in
        let w : in_turn n ≡ 2 * n = turn_of n (λ q. omega (arith, h, q)) in
        (omega (arith, z, w, l), omega (arith, z, leb-true (in_turn n) 16 e))
    go true e (inr q) = rw q (omega arith)
    go false e (inl (l, h)) = let z : stage n ≡ 18 = rw (ne_eqb n 17 (λ q. omega (arith, h, q)), e, le-leb n 10 h) in (omega (arith, z), omega (arith, z))
    go false e (inr z) = let w : in_turn n ≡ 13 = ap in_turn z in absurd (omega (arith, w, leb-false (in_turn n) 16 e))

check_sooner : (n p m q : ℕ) → OfFile n → OfFile m → Sooner check_order n p m q → Sooner placing_order n p m q
check_sooner n p m q l h (inl b) = inl (omega (arith, stage_same n l, stage_same m h, b))
check_sooner n p m q l h (inr (e, b)) = inr (stage_same n l ∙ e ∙ sym (stage_same m h), b)

module _ (f : List ℕ) (bytes : All (λ b. b < 256) f) (room : ℕ) where
  abbrev C : Contents
  C = contents_of f

  -- each number's causes
  abbrev NoRoom : ℕ → ℕ → Type 0
  NoRoom n p = (n ≡ 17) × ((p ≡ 0) × (room < room_for f))

  abbrev UpToTen : ℕ → ℕ → Type 0
  UpToTen n p = Objection f n p × OfFile n

  abbrev Masked : ℕ → ℕ → Type 0
  Masked n p = (n ≡ 14) × ((p ≡ 0) × SomeMask C)

  abbrev Switched : ℕ → ℕ → Type 0
  Switched n p = (n ≡ 14) × IsSwitch C.nodes p

  abbrev Lacking : ℕ → ℕ → Type 0
  Lacking n p = (n ≡ 15) × Unserved C p

  abbrev Large : ℕ → ℕ → Type 0
  Large n p = (n ≡ 16) × ((p ≡ 0) × PlacedWith (λ k. 1024 < k) f)

  abbrev Bared : ℕ → ℕ → Type 0
  Bared = Both Masked Switched

  abbrev Settling : ℕ → ℕ → Type 0
  Settling = Both Lacking Large

  abbrev Judged : ℕ → ℕ → Type 0
  Judged = Both UpToTen (Both Bared Settling)

  abbrev None : (ℕ → ℕ → Type 0) → Type 0
  None R = (n p : ℕ) → R n p → ⊥

  bared_number : (n p : ℕ) → Bared n p → n ≡ 14
  bared_number n p (inl h) = h.0
  bared_number n p (inr h) = h.0

  settling_stage : (n p : ℕ) → Settling n p → 30 ≤ stage n
  settling_stage n p (inl h) = let e : stage n ≡ 30 = ap stage h.0 in omega (arith, e)
  settling_stage n p (inr h) = let e : stage n ≡ 32 = ap stage h.0 in omega (arith, e)

  bared_stage : (n p : ℕ) → Bared n p → stage n ≡ 28
  bared_stage n p h = ap stage (bared_number n p h)

  after_names : (n p : ℕ) → Both Bared Settling n p → 28 ≤ stage n
  after_names n p (inl h) = omega (arith, bared_stage n p h)
  after_names n p (inr h) = omega (arith, settling_stage n p h)

  names_stage : (n p : ℕ) → UpToTen n p → (1 ≤ stage n) × (stage n ≤ 18)
  names_stage n p (o, l) = stage_low n l

  judged_stage : (n p : ℕ) → Judged n p → 1 ≤ stage n
  judged_stage n p (inl h) = (names_stage n p h).0
  judged_stage n p (inr h) = omega (arith, after_names n p h)

  -- 17
  abbrev room_answer : Verdict
  room_answer = cond (ltb room (room_for f)) (refused 17 0) fine

  room_first : First placing_order NoRoom room_answer
  room_first = go (ltb room (room_for f)) refl
    where
      go : (b : Bool) → ltb room (room_for f) ≡ b → First placing_order NoRoom (cond b (refused 17 0) fine)
      go true e = inr (17, 0, refl, ((refl, (refl, ltb-true room (room_for f) e)), λ m q (a, (b, _)). lowest placing_order 17 0 m q (sym a) (omega arith)))
      go false e = inl (refl, λ n p (a, (b, l)). omega (arith, l, ltb-false room (room_for f) e))

  wide : None NoRoom → room_for f ≤ room
  wide none = go (ltb room (room_for f)) refl
    where
      go : (b : Bool) → ltb room (room_for f) ≡ b → room_for f ≤ room
      go true e = absurd (none 17 0 (refl, (refl, ltb-true room (room_for f) e)))
      go false e = ltb-false room (room_for f) e

  -- 1 to 10
  names : First placing_order UpToTen (reading_names f)
  names = first_raise check_order placing_order UpToTen (reading_names f) (λ n p m q r s. check_sooner n p m q r.1 s.1) (names_first f)

  -- 14, masks before nodes
  bared : reading_names f ≡ fine → First placing_order Bared (or_else (masks_answer C) (switches_answer C))
  bared clean =
      first_or placing_order Masked Switched (masks_answer C) (switches_answer C) (λ n p h. omega (arith, h.0))
      (λ n p m q r s. inr (ap stage (r.0 ∙ sym s.0), inl (omega (arith, r.1.0, s.1.0.0)))) (masks_cause C placing_order) (λ none. switches_cause f clean placing_order)

  -- 16
  large : Unrefused f room → unserved_from 1 (labels_in C) ≡ fine → First placing_order Large (size_answer (sizes_of (turns_for C)))
  large u s = go (size_answers (sizes_of (turns_for C)))
    where
      go : ((size_answer (sizes_of (turns_for C)) ≡ fine) × (sizes_of (turns_for C) ≤ 1024)) ⊎ ((size_answer (sizes_of (turns_for C)) ≡ refused 16 0) × (1024 < sizes_of (turns_for C)))
          → First placing_order Large (size_answer (sizes_of (turns_for C)))
      go (inl (e, l)) = inl (e, λ n p (a, (b, h)). omega (arith, l, (read_placement f bytes room (λ k. 1024 < k) u h).1))
      go (inr (e, l)) =
          inr (16, 0, e, ((refl, (refl, placement_read f bytes room (λ k. 1024 < k) u s l)), λ m q (a, _). lowest placing_order 16 0 m q (sym a) (omega arith)))

  -- 15 and 16
  pub settled : Unrefused f room → First placing_order Settling (settling (labels_in C))
  settled u =
      let lacking = unserved_first f u.names placing_order in
      first_or placing_order Lacking Large (unserved_from 1 (labels_in C)) (size_answer (sizes_of (turns_for C))) (λ n p h. omega (arith, h.0))
      (λ n p m q r s. inl (omega (arith, later n m r.0 s.0))) lacking (λ none. large u (first_clear placing_order Lacking (unserved_from 1 (labels_in C)) lacking none))
    where
      later : (n m : ℕ) → n ≡ 15 → m ≡ 16 → stage n < stage m
      later n m a b = let x : stage n ≡ 30 = ap stage a in let y : stage m ≡ 32 = ap stage b in omega (arith, x, y)

  -- where nothing before 15 has a cause
  unrefused : None NoRoom → reading_names f ≡ fine → None Bared → Unrefused f room
  unrefused roomy clean bare = record {
    wide = wide roomy;
    names = clean;
    masks = λ s. bare 14 0 (inl (refl, (refl, s)));
    switches = λ p s. bare 14 p (inr (refl, s));
  }

  after : None NoRoom → reading_names f ≡ fine → First placing_order (Both Bared Settling) (placeable C)
  unfolding placeable
  after roomy clean =
      first_or placing_order Bared Settling (or_else (masks_answer C) (switches_answer C)) (settling (labels_in C)) (λ n p h. omega (arith, bared_number n p h))
      (λ n p m q r s. inl (omega (arith, bared_stage n p r, settling_stage m q s))) (bared clean) (λ bare. settled (unrefused roomy clean bare))

  judged : None NoRoom → First placing_order Judged (judging f)
  unfolding judging
  judged roomy =
      first_or placing_order UpToTen (Both Bared Settling) (reading_names f) (placeable C) (λ n p h. objection_number f n p h.0)
      (λ n p m q r s. inl (omega (arith, names_stage n p r, after_names m q s))) names (λ none. after roomy (first_clear placing_order UpToTen (reading_names f) names none))

  in-turn : refusal_in (placing f room) ≡ or_else room_answer (judging f)
  unfolding placing measuring
  in-turn = go (ltb room (room_for f)) (eqb (judging f).number 0) refl
    where
      go : (b c : Bool) → eqb (judging f).number 0 ≡ c
          → refusal_in (cond b (no_place 17 0) (cond c (placed_in (version_at f) C) (no_place (judging f).number (judging f).place))) ≡ or_else (cond b (refused 17 0) fine) (judging f)
      go true c e = refl
      go false true e = sym (among_fine 2 32 (judging f) (omega arith) (judging_among f room) (eqb-true (judging f).number 0 e))
      go false false e = refl

  to : (n p : ℕ) → Both NoRoom Judged n p → Cause f room n p
  to n p (inl (a, (b, l))) = no_room a b l
  to n p (inr (inl (o, l))) = objected l o
  to n p (inr (inr (inl (inl (a, (b, s)))))) = masked a b s
  to n p (inr (inr (inl (inr (a, s))))) = switched a s
  to n p (inr (inr (inr (inl (a, s))))) = unserved a s
  to n p (inr (inr (inr (inr (a, (b, s)))))) = too_large a b s

  from : (n p : ℕ) → Cause f room n p → Both NoRoom Judged n p
  from n p (no_room a b l) = inl (a, (b, l))
  from n p (objected l o) = inr (inl (o, l))
  from n p (masked a b s) = inr (inr (inl (inl (a, (b, s)))))
  from n p (switched a s) = inr (inr (inl (inr (a, s))))
  from n p (unserved a s) = inr (inr (inr (inl (a, s))))
  from n p (too_large a b s) = inr (inr (inr (inr (a, (b, s)))))

  pub placing_first : First placing_order (Cause f room) (refusal_in (placing f room))
  placing_first =
      subst (First placing_order (Cause f room)) (sym in-turn)
      (first-map placing_order (Both NoRoom Judged) (Cause f room) _ to from
      (first_or placing_order NoRoom Judged room_answer (judging f) (λ n p h. omega (arith, h.0)) (λ n p m q r s. inl (sooner n p m q r s)) room_first judged))
    where
      sooner : (n p m q : ℕ) → NoRoom n p → Judged m q → stage n < stage m
      sooner n p m q r s = let e : stage n ≡ 0 = ap stage r.0 in omega (arith, e, judged_stage m q s)
