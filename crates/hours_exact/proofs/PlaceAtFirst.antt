-- Placing for a minute gives the first refusal in order: 17, 22, 1 to 8 by number and place, 23 by row, 9 and 10 together by node, then 14 (masks before nodes), 15, 16.
use Prim.Native.Nat.{ℕ, ◌+◌, ◌*◌, ◌≤◌, ◌<◌}
use mathlib.Core.Path.{◌≡◌, refl, sym, ap, ◌∙◌, subst}
use mathlib.Core.Logic.{◌↔◌, ◌⊎◌, inl, inr, ◌≢◌}
use mathlib.Core.Bool.{Bool, true, false, cond}
use mathlib.Core.List.{List}
use native.Mathlib.Omega.{arith}
use lib.Dec.{eqb, leb, ltb}
use lib.ListN.{length}
use borrow.Author.Tests.{eqb-true, ne_eqb, le-leb, ltb-true, ltb-false}
use Rattle.format.specs.Contents.{Contents, contents_of}
use Rattle.format.specs.Answers.{fine, refused, or_else}
use Rattle.format.specs.Header.{version_at, room_for}
use Rattle.format.specs.declared.Verdict.{Verdict}
use Rattle.checking.specs.Check.{reading_names}
use Rattle.rules.specs.Schema.{schema_of}
use Rattle.hours.specs.Hours.{table_answer, shut}
use Rattle.checking_at.specs.CheckAt.{reading_names_at}
use Rattle.placing.specs.Placing.{labels_in, masks_answer, switches_answer, settling, placeable, no_place, placed_by}
use Rattle.placing_at.specs.PlaceAt.{open_contents, turns_at, judging_at, measuring_at, placing_at}
use Rattle.reading_exact.specs.Lists.{All}
use Rattle.reading_exact.specs.File.{File, InCount, encode}
use Rattle.reading_exact.specs.Order.{OfFile, Order, Sooner, First}
use Rattle.reading_exact.specs.Refusals.{nth, Refusable}
use Rattle.reading_exact.proofs.Exact.{one_read}
use Rattle.reading_exact.proofs.FirstLaws.{Both, lowest, first_raise, first_zero, first_clear, first-map, first_or}
use Rattle.reading_exact.proofs.FirstRefusal.{refusable_turn}
use Rattle.reading_exact.proofs.Turns.{of_file_turn, turn_of_file}
use Rattle.checking_exact.specs.Faults.{Objection, of_file, of_node, check_order}
use Rattle.checking_exact.proofs.CheckExact.{names_exact}
use Rattle.checking_exact.proofs.CheckFirst.{fault_turn, names_fine}
use Rattle.placing_exact.specs.Causes.{SomeMask, IsSwitch, Unserved, PlacedWith, refusal_in, placing_order}
use Rattle.placing_exact.specs.Promised.{Unrefused}
use Rattle.placing_exact.proofs.RefusedPlaces.{masks_cause, switches_cause}
use Rattle.placing_exact.proofs.PlacingFirst.{stage_same, settled}
use Rattle.hours_exact.specs.OpenFile.{open_file}
use Rattle.hours_exact.specs.HourFaults.{with_hours}
use Rattle.hours_exact.specs.PromisedAt.{Standing, CauseAt, no_room, bad_table, objected, bad_row, masked, switched, unserved, too_large}
use Rattle.hours_exact.proofs.HourFirst.{TableCause, table_first, RowCause}
use Rattle.hours_exact.proofs.HourOrder.{Other, stage_other, stage_table, stage_row, first_hours}
use Rattle.hours_exact.proofs.CheckAtFirst.{other_low, NameFault, name_objection, Named, named-number, stage_named, named_first}
use Rattle.hours_exact.proofs.CheckAtExact.{named_fine}
use Rattle.hours_exact.proofs.StandingPlaced.{Left, left, standing_held, standing_bytes, standing_unrefused}

abbrev None : (ℕ → ℕ → Type 0) → Type 0
None R = (n p : ℕ) → R n p → ⊥

abbrev o : Order
o = with_hours placing_order

abbrev u : Order
u = with_hours check_order

-- those of the file have the check's stages, and so has 23
pub other_file : (n : ℕ) → OfFile n → Other n
other_file n (inl (_, h)) = other_low n (omega (arith, h))
other_file n (inr e) = (λ z. omega (arith, e, z), λ z. omega (arith, e, z))

same_low : (n : ℕ) → OfFile n → o.stage n ≡ u.stage n
same_low n h =
    omega (
      arith,
      stage_same n h,
      stage_other placing_order n (other_file n h),
      stage_other check_order n (other_file n h),
    )

same_row : (n : ℕ) → n ≡ 23 → o.stage n ≡ u.stage n
same_row n e = stage_row placing_order n e ∙ sym (stage_row check_order n e)

sooner_same : (n p m q : ℕ) → o.stage n ≡ u.stage n → o.stage m ≡ u.stage m → Sooner u n p m q → Sooner o n p m q
sooner_same n p m q a b (inl l) = inl (omega (arith, a, b, l))
sooner_same n p m q a b (inr (e, l)) = inr (a ∙ e ∙ sym b, l)

module _ (f : List ℕ) (bytes : All (λ b. b < 256) f) (t : List ℕ) (m : ℕ) where
  abbrev C : Contents
  C = contents_of f

  abbrev C' : Contents
  C' = open_contents (shut t m) (contents_of f)

  abbrev count : ℕ
  count = length C.roles

  refused-of : (n p : ℕ) → Refusable f n p → OfFile n
  refused-of n p r = let (low, turn) = refusable_turn f n p r in turn_of_file n low (omega (arith, turn))

  named_same : (n p : ℕ) → Named f t m n p → o.stage n ≡ u.stage n
  named_same n p (inl (inl r)) = same_low n (refused-of n p r)
  named_same n p (inl (inr h)) = same_row n h.0
  named_same n p (inr h) = same_low n (name_objection f n p h).1

  named : First o (Named f t m) (reading_names_at f t)
  named = first_raise u o (Named f t m) (reading_names_at f t) (λ n p k q r s. sooner_same n p k q (named_same n p r) (named_same k q s)) (named_first f t m)

  -- each number's causes
  abbrev Masked : ℕ → ℕ → Type 0
  Masked n p = (n ≡ 14) × ((p ≡ 0) × SomeMask C)

  abbrev Switched : ℕ → ℕ → Type 0
  Switched n p = (n ≡ 14) × IsSwitch C.nodes p

  abbrev Lacking : ℕ → ℕ → Type 0
  Lacking n p = (n ≡ 15) × Unserved C' p

  abbrev Large : ℕ → ℕ → Type 0
  Large n p = (n ≡ 16) × ((p ≡ 0) × Standing (PlacedWith (λ k. 1024 < k)) f t m)

  abbrev Bared : ℕ → ℕ → Type 0
  Bared = Both Masked Switched

  abbrev Settling : ℕ → ℕ → Type 0
  Settling = Both Lacking Large

  -- the file, where nothing before 15 has a cause
  left_over : None (Named f t m) → None Bared → (F : File) × Left f bytes t m F
  left_over none bare =
      let (r, _, n) = (named_fine f t m).0 (first_clear o (Named f t m) (reading_names_at f t) named none) in
      let clean : reading_names f ≡ fine = (names_fine f).1 (r, n) in
      let (F, W, e, N) = (names_exact f bytes).0 clean in
      (F, left f bytes t m (record { wide = omega arith; names = clean; masks = λ s. bare 14 0 (inl (refl, (refl, s))); switches = λ p s. bare 14 p (inr (refl, s)) }) F e)

  settling_number : (n p : ℕ) → Settling n p → (15 ≤ n) × (n ≤ 16)
  settling_number n p (inl h) = (omega (arith, h.0), omega (arith, h.0))
  settling_number n p (inr h) = (omega (arith, h.0), omega (arith, h.0))

  -- by the file as it stands
  abbrev There : File → ℕ → ℕ → Type 0
  There F n p =
      ((n ≡ 15) × Unserved (contents_of (encode (open_file t m F))) p) ⊎ ((n ≡ 16) × ((p ≡ 0) × PlacedWith (λ k. 1024 < k) (encode (open_file t m F))))

  settled_at : None (Named f t m) → None Bared → First o Settling (settling (labels_in C'))
  settled_at none bare =
      let (F, l) = left_over none bare in
      let g : List ℕ = encode (open_file t m F) in
      let base = settled g (standing_bytes f bytes t m F l) (room_for g) (standing_unrefused f bytes t m F l) in
      first_hours placing_order Settling (settling (labels_in C')) (λ n p h. other_low n (omega (arith, settling_number n p h)))
      (subst (λ (v : Verdict). First placing_order Settling v) (ap (λ (X : Contents). settling (labels_in X)) (standing_held f bytes t m F l))
      (first-map placing_order (There F) Settling (settling (labels_in (contents_of g))) (to F l) (from F l) base))
    where
      to : (F : File) → Left f bytes t m F → (n p : ℕ) → There F n p → Settling n p
      to F l n p (inl (a, h)) = inl (a, subst (λ (X : Contents). Unserved X p) (standing_held f bytes t m F l) h)
      to F l n p (inr (a, (z, h))) = inr (a, (z, (F, l.reads, h)))

      from : (F : File) → Left f bytes t m F → (n p : ℕ) → Settling n p → There F n p
      from F l n p (inl (a, h)) = inl (a, subst (λ (X : Contents). Unserved X p) (sym (standing_held f bytes t m F l)) h)
      from F l n p (inr (a, (z, (X, e, h)))) = inr (a, (z, subst (λ (Y : File). PlacedWith (λ k. 1024 < k) (encode (open_file t m Y))) (one_read f X F e l.reads) h))

  -- the stages
  bared_number : (n p : ℕ) → Bared n p → n ≡ 14
  bared_number n p (inl h) = h.0
  bared_number n p (inr h) = h.0

  stage_bared : (n p : ℕ) → Bared n p → o.stage n ≡ 56
  stage_bared n p h = ap o.stage (bared_number n p h)

  stage_settling : (n p : ℕ) → Settling n p → 60 ≤ o.stage n
  stage_settling n p (inl h) = let e : o.stage n ≡ 60 = ap o.stage h.0 in omega (arith, e)
  stage_settling n p (inr h) = let e : o.stage n ≡ 64 = ap o.stage h.0 in omega (arith, e)

  abbrev After : ℕ → ℕ → Type 0
  After = Both Bared Settling

  stage_after : (n p : ℕ) → After n p → 56 ≤ o.stage n
  stage_after n p (inl h) = omega (arith, stage_bared n p h)
  stage_after n p (inr h) = omega (arith, stage_settling n p h)

  stage_names : (n p : ℕ) → Named f t m n p → (2 ≤ o.stage n) × (o.stage n ≤ 36)
  stage_names n p h = let e = named_same n p h in let (a, b) = stage_named f t m n p h in (omega (arith, e, a), omega (arith, e, b))

  bared : None (Named f t m) → First o Bared (or_else (masks_answer C) (switches_answer C))
  bared none =
      let (r, _, n) = (named_fine f t m).0 (first_clear o (Named f t m) (reading_names_at f t) named none) in
      first_or o Masked Switched (masks_answer C) (switches_answer C) (λ n p h. omega (arith, h.0))
      (λ n p k q r s. inr (ap o.stage (r.0 ∙ sym s.0), inl (omega (arith, r.1.0, s.1.0.0)))) (masks_cause C o) (λ clear. switches_cause f ((names_fine f).1 (r, n)) o)

  after : None (Named f t m) → First o After (placeable C')
  unfolding placeable masks_answer switches_answer
  after none =
      first_or o Bared Settling (or_else (masks_answer C) (switches_answer C)) (settling (labels_in C')) (λ n p h. omega (arith, bared_number n p h))
      (λ n p k q r s. inl (omega (arith, stage_bared n p r, stage_settling k q s))) (bared none) (λ bare. settled_at none bare)

  abbrev Entered : ℕ → ℕ → Type 0
  Entered = Both (Named f t m) After

  stage_entered : (n p : ℕ) → Entered n p → 2 ≤ o.stage n
  stage_entered n p (inl h) = (stage_names n p h).0
  stage_entered n p (inr h) = omega (arith, stage_after n p h)

  entered : First o Entered (or_else (reading_names_at f t) (placeable C'))
  entered =
      first_or o (Named f t m) After (reading_names_at f t) (placeable C') (named-number f t m) (λ n p k q r s. inl (omega (arith, (stage_names n p r).1, stage_after k q s))) named after

  abbrev Judged : ℕ → ℕ → Type 0
  Judged = Both (TableCause t m) Entered

  judged : First o Judged (judging_at f t m)
  unfolding judging_at
  judged =
      first_or o (TableCause t m) Entered (table_answer t m) (or_else (reading_names_at f t) (placeable C')) (λ n p h. omega (arith, h.0))
      (λ n p k q r s. inl (omega (arith, stage_table placing_order n r.0, stage_entered k q s))) (table_first t m o) (λ none. entered)

  judged_number : (n p : ℕ) → Judged n p → 1 ≤ n
  judged_number n p (inl h) = omega (arith, h.0)
  judged_number n p (inr (inl h)) = named-number f t m n p h
  judged_number n p (inr (inr (inl h))) = omega (arith, bared_number n p h)
  judged_number n p (inr (inr (inr h))) = omega (arith, settling_number n p h)

  judged_stage : (n p : ℕ) → Judged n p → 1 ≤ o.stage n
  judged_stage n p (inl h) = omega (arith, stage_table placing_order n h.0)
  judged_stage n p (inr h) = omega (arith, stage_entered n p h)

  module _ (room : ℕ) where
    abbrev NoRoom : ℕ → ℕ → Type 0
    NoRoom n p = (n ≡ 17) × ((p ≡ 0) × (room < room_for f))

    abbrev room_answer : Verdict
    room_answer = cond (ltb room (room_for f)) (refused 17 0) fine

    room_first : First o NoRoom room_answer
    room_first = go (ltb room (room_for f)) refl
      where
        go : (b : Bool) → ltb room (room_for f) ≡ b → First o NoRoom (cond b (refused 17 0) fine)
        go true e = inr (17, 0, refl, ((refl, (refl, ltb-true room (room_for f) e)), λ k q (a, _). lowest o 17 0 k q (sym a) (omega arith)))
        go false e = inl (refl, λ n p (a, (b, l)). omega (arith, l, ltb-false room (room_for f) e))

    in-turn : refusal_in (placing_at f t m room) ≡ or_else room_answer (judging_at f t m)
    unfolding placing_at measuring_at
    in-turn = go (ltb room (room_for f)) (eqb (judging_at f t m).number 0) refl
      where
        go : (b c : Bool) → eqb (judging_at f t m).number 0 ≡ c
            → refusal_in (cond b (no_place 17 0) (cond c (placed_by (version_at f) C (turns_at f t m)) (no_place (judging_at f t m).number (judging_at f t m).place))) ≡ or_else (cond b (refused 17 0) fine) (judging_at f t m)
        go true c e = refl
        go false true e = sym (first_zero o Judged (judging_at f t m) judged_number judged (eqb-true (judging_at f t m).number 0 e)).0
        go false false e = refl

    to : (n p : ℕ) → Both NoRoom Judged n p → CauseAt f t m room n p
    to n p (inl (a, (b, l))) = no_room a b l
    to n p (inr (inl (a, (b, h)))) = bad_table a b h
    to n p (inr (inr (inl (inl (inl r))))) = objected (refused-of n p r) (of_file r)
    to n p (inr (inr (inl (inl (inr (a, h)))))) = bad_row a h
    to n p (inr (inr (inl (inr h)))) = let (cause, of) = name_objection f n p h in objected of cause
    to n p (inr (inr (inr (inl (inl (a, (b, s))))))) = masked a b s
    to n p (inr (inr (inr (inl (inr (a, s)))))) = switched a s
    to n p (inr (inr (inr (inr (inl (a, s)))))) = unserved a s
    to n p (inr (inr (inr (inr (inr (a, (b, s))))))) = too_large a b s

    from : (n p : ℕ) → CauseAt f t m room n p → Both NoRoom Judged n p
    from n p (no_room a b l) = inl (a, (b, l))
    from n p (bad_table a b h) = inr (inl (a, (b, h)))
    from n p (objected l (of_file r)) = inr (inr (inl (inl (inl r))))
    from n p (objected l (of_node c s i h)) = inr (inr (inl (inr ((c, s, i, h), omega (arith, (of_file_turn n l).1, (fault_turn (schema_of C) c (nth C.nodes p) n h).2)))))
    from n p (bad_row a h) = inr (inr (inl (inl (inr (a, h)))))
    from n p (masked a b s) = inr (inr (inr (inl (inl (a, (b, s))))))
    from n p (switched a s) = inr (inr (inr (inl (inr (a, s)))))
    from n p (unserved a s) = inr (inr (inr (inr (inl (a, s)))))
    from n p (too_large a b s) = inr (inr (inr (inr (inr (a, (b, s))))))

    pub place_at_first : First (with_hours placing_order) (CauseAt f t m room) (refusal_in (placing_at f t m room))
    place_at_first =
        subst (First o (CauseAt f t m room)) (sym in-turn)
        (first-map o (Both NoRoom Judged) (CauseAt f t m room) _ to from
        (first_or o NoRoom Judged room_answer (judging_at f t m) (λ n p h. omega (arith, h.0)) (λ n p k q r s. inl (before n p k q r s)) room_first (λ none. judged)))
      where
        before : (n p k q : ℕ) → NoRoom n p → Judged k q → o.stage n < o.stage k
        before n p k q r s = let e : o.stage n ≡ 0 = ap o.stage r.0 in omega (arith, e, judged_stage k q s)
