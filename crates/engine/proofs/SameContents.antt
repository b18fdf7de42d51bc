-- What is answered of a file is answered of what it holds: of its bytes nothing counts besides but what 1 to 8 say of them.
use mathlib.Core.Path.{◌≡◌, refl, sym, ap, ap₂, subst, ◌∙◌}
use mathlib.Core.Logic.{◌⊎◌, inl, inr}
use native.Mathlib.Omega.{arith}
use borrow.Author.Tests.{eqb-true}
use Rattle.format.specs.Words.{word_at}
use Rattle.format.proofs.HeadLaws.{juniors_iff, juniors_not, IsVersion, Headed}
use Rattle.format.proofs.AnswerLaws.{NoRefusal, both_quiet}
use Rattle.checking.proofs.CheckLaws.{names_headed}
use Rattle.placing.proofs.PlaceLaws.{room_by_word}
use Prim.Native.Nat.{ℕ}
use mathlib.Core.Bool.{Bool, true, false, cond}
use mathlib.Core.List.{List, [], ◌∷◌}
use lib.Dec.{eqb, ltb}
use lib.ListN.{length}
use lib.Seq.{sets}
use Rattle.format.specs.Answers.{or_else}
use Rattle.format.specs.Header.{has_juniors, WithJuniors, Laid, head_at, version_at, room_for}
use Rattle.format.specs.declared.Verdict.{Verdict}
use Rattle.rules.specs.Checking.{names_answer}
use Rattle.states.specs.declared.Turn.{Turn}
use Rattle.groups.specs.Groups.{starts_of, placed_contents}
use Rattle.format.specs.Writing.{encoded}
use Rattle.hours.specs.Hours.{table_answer, rows_answer, shut}
use Rattle.format.specs.Contents.{Contents, contents_of}
use Rattle.reading.specs.Reading.{reading}
use Rattle.checking.specs.Check.{reading_names, checking}
use Rattle.checking_at.specs.CheckAt.{reading_at, reading_names_at, checking_at}
use Rattle.placing.specs.Placing.{turns_for, placeable, judging, no_place, placed_by, answer_by, bytes_by, measuring, placing, placed_bytes, placed_over}
use Rattle.placing.specs.declared.Placed.{Placed}
use Rattle.placing_at.specs.PlaceAt.{open_contents, turns_at, judging_at, measuring_at, placing_at, placed_bytes_at, placed_over_at}
use Rattle.running.specs.Run.{running, run_over, ready, totals_after}
use Rattle.dispatching.specs.Dispatch.{rounding, round_over}
use Rattle.seating.specs.SeatedRunning.{seated_running, seated_length, seated_over}
use Rattle.seating.specs.SeatsRead.{seats_after}
use Rattle.seating.specs.SeatedRound.{seated_rounding, seated_round_over}
use Rattle.lending.specs.Lent.{lending, choosing, records_over, beside_over}
use Rattle.lending.specs.Starting.{starting, records_started, beside_started}
use Rattle.reading_exact.specs.File.{Grants, first, second, third, version_of, masks_none, File, WellFormed, as_second, contents_for, encode}
use Rattle.reading_exact.proofs.Places.{Formed, encoded_back}
use Rattle.reading_exact.proofs.FileContents.{formed_by, contents_back, version_back}
use Rattle.reading_exact.proofs.Exact.{complete}
use Rattle.reading_exact.proofs.AsSecond.{as_second_held, as_second_read}
use Rattle.merging_exact.proofs.SameMerging.{same_own, merged_alike}
use Rattle.sheets_exact.proofs.EntryPlaced.{entry_same}
use Rattle.engine.specs.Alike.{AlikeBesideForm, AlikeBesideBytes, Alike}

-- how much output is wanted, by the version
pub wanted : (h : List ℕ) → Headed h → ((has_juniors (version_at h) ≡ false) × (room_for h ≡ 6874)) ⊎ ((has_juniors (version_at h) ≡ true) × (room_for h ≡ 6908))
wanted [] d = inl (refl, refl)
wanted (x ∷ xs) d = by d.version
  where
    h : List ℕ
    h = x ∷ xs

    by : IsVersion (word_at h 0) → ((has_juniors (word_at h 0) ≡ false) × (room_for h ≡ 6874)) ⊎ ((has_juniors (word_at h 0) ≡ true) × (room_for h ≡ 6908))
    by (inl e) = let none : WithJuniors (word_at h 0) → ⊥ = first e in inl (juniors_not (word_at h 0) none, (room_by_word h).1 (λ (l, j). none j))
      where
        first : word_at h 0 ≡ 1 → WithJuniors (word_at h 0) → ⊥
        first e (inl two) = omega (arith, e, two)
        first e (inr three) = omega (arith, e, three)
    by (inr j) = inr ((juniors_iff (word_at h 0)).1 j, (room_by_word h).0 (let l : Laid h (head_at h) = d.laid in omega (arith, l), j))

-- what placing writes, by its answer and its bytes
pub over_alike : (b b' : List ℕ) (a a' : Placed) → a ≡ a' → b ≡ b' → (out : List ℕ) → cond (eqb a.number 0) (sets out 0 b) out ≡ cond (eqb a'.number 0) (sets out 0 b') out
over_alike b b' a a' same placed out = ap₂ (λ (x : Placed) (bs : List ℕ). cond (eqb x.number 0) (sets out 0 bs) out) same placed

module _ (f g : List ℕ) (r : reading f ≡ reading g) (c : contents_of f ≡ contents_of g) where
  names : reading_names f ≡ reading_names g
  unfolding reading_names
  names = rw (r, c)

  judged : judging f ≡ judging g
  unfolding judging
  judged = ap₂ (λ v C. or_else v (placeable C)) names c

  judged_at : (t : List ℕ) (m : ℕ) → judging_at f t m ≡ judging_at g t m
  unfolding judging_at reading_names_at reading_at
  judged_at t m = rw (r, c)

  -- refused or not by the same verdict, whatever the version
  measured_alike : (v w : ℕ) (C : Contents) (ts : List Turn) (x : Verdict)
      → ((answer_by v C ts x).number ≡ (answer_by w C ts x).number) × ((answer_by v C ts x).place ≡ (answer_by w C ts x).place) × ((answer_by v C ts x).on_steps ≡ (answer_by w C ts x).on_steps)
  measured_alike v w C ts x = go (eqb x.number 0)
    where
      go : (b : Bool) → ((cond b (placed_by v C ts) (no_place x.number x.place)).number ≡ (cond b (placed_by w C ts) (no_place x.number x.place)).number)
          × ((cond b (placed_by v C ts) (no_place x.number x.place)).place ≡ (cond b (placed_by w C ts) (no_place x.number x.place)).place)
          × ((cond b (placed_by v C ts) (no_place x.number x.place)).on_steps ≡ (cond b (placed_by w C ts) (no_place x.number x.place)).on_steps)
      go true = (refl, refl, refl)
      go false = (refl, refl, refl)

  pub alike_beside_form : AlikeBesideForm f g
  unfolding reading_names checking reading_at reading_names_at checking_at measuring measuring_at running run_over ready totals_after rounding round_over seated_running seated_length seated_over seats_after seated_rounding seated_round_over lending choosing records_over beside_over starting records_started beside_started
  alike_beside_form = record {
    read = names;
    check = rw (r, c);
    measured = rw (judged, c) (measured_alike (version_at f) (version_at g) (contents_of g) (turns_for (contents_of g)) (judging g));
    measured_at = λ t m. rw (judged_at t m, c) (measured_alike (version_at f) (version_at g) (contents_of g) (turns_at g t m) (judging_at g t m));
    check_at = λ t m. rw (r, c);
    adds = entry_same f g c judged;
    run = λ ws room. rw (r, c);
    ran = λ ws out. rw (r, c);
    pair = λ ws. rw (r, c);
    round = λ ws room. rw (r, c);
    rounded = λ ws out. rw (r, c);
    totals = λ ws. rw (r, c);
    run_seated = λ ws table room. rw (r, c);
    length_seated = λ ws table room. rw (r, c);
    ran_seated = λ ws table out. rw (r, c);
    round_seated = λ ws table room. rw (r, c);
    rounded_seated = λ ws table out. rw (r, c);
    seats = λ ws table. rw (r, c);
    choose = λ l b i p. rw (r, c);
    records = λ l b i p. rw (r, c);
    beside = λ l b i p. rw (r, c);
    start = λ records words. rw (r, c);
    started = λ l b. rw (r, c);
    counts = λ l b. rw (r, c);
  }

  -- with as much output wanted: both have masks of juniors, or neither has
  module _ (w : room_for f ≡ room_for g) where
    forms : NoRefusal (reading_names g) → has_juniors (version_at f) ≡ has_juniors (version_at g)
    forms q = both (wanted f (names_headed f (subst NoRefusal (sym names) q))) (wanted g (names_headed g q))
      where
        both : ((has_juniors (version_at f) ≡ false) × (room_for f ≡ 6874)) ⊎ ((has_juniors (version_at f) ≡ true) × (room_for f ≡ 6908))
            → ((has_juniors (version_at g) ≡ false) × (room_for g ≡ 6874)) ⊎ ((has_juniors (version_at g) ≡ true) × (room_for g ≡ 6908)) → has_juniors (version_at f) ≡ has_juniors (version_at g)
        both (inl (a, x)) (inl (b, y)) = a ∙ sym b
        both (inr (a, x)) (inr (b, y)) = a ∙ sym b
        both (inl (a, x)) (inr (b, y)) = absurd (omega (arith, x, y, w))
        both (inr (a, x)) (inl (b, y)) = absurd (omega (arith, x, y, w))

    -- a placed file is as long in either form
    placed_alike : (C : Contents) (ts : List Turn) → has_juniors (version_at f) ≡ has_juniors (version_at g) → placed_by (version_at f) C ts ≡ placed_by (version_at g) C ts
    placed_alike C ts e = rw e

    unrefused : NoRefusal (judging g) → NoRefusal (reading_names g)
    unfolding judging
    unrefused q = ((both_quiet NoRefusal (reading_names g) (placeable (contents_of g)) (λ z. z)).0 q).0

    unrefused_at : (t : List ℕ) (m : ℕ) → NoRefusal (judging_at g t m) → NoRefusal (reading_names g)
    unfolding judging_at reading_names_at reading_at reading_names
    unrefused_at t m q =
        let C : Contents = contents_of g in
        let rest = ((both_quiet NoRefusal (table_answer t m) (or_else (reading_names_at g t) (placeable (open_contents (shut t m) C))) (λ z. z)).0 q).1 in
        let named = ((both_quiet NoRefusal (reading_names_at g t) (placeable (open_contents (shut t m) C)) (λ z. z)).0 rest).0 in
        let (rows, right) = (both_quiet NoRefusal (reading_at g t) (names_answer C) (λ z. z)).0 named in
        (both_quiet NoRefusal (reading g) (names_answer C) (λ z. z)).1 (((both_quiet NoRefusal (reading g) (rows_answer (length C.roles) t) (λ z. z)).0 rows).0, right)

    -- by one verdict, and turns by what a file holds
    module _ (turns : Contents → List Turn) (x : Verdict) (quiet : NoRefusal x → NoRefusal (reading_names g)) where
      answered : answer_by (version_at f) (contents_of f) (turns (contents_of f)) x ≡ answer_by (version_at g) (contents_of g) (turns (contents_of g)) x
      answered = go (eqb x.number 0) refl
        where
          go : (b : Bool) → eqb x.number 0 ≡ b
              → cond b (placed_by (version_at f) (contents_of f) (turns (contents_of f))) (no_place x.number x.place) ≡ cond b (placed_by (version_at g) (contents_of g) (turns (contents_of g))) (no_place x.number x.place)
          go true e = (λ i. placed_by (version_at f) (c i) (turns (c i))) ∙ placed_alike (contents_of g) (turns (contents_of g)) (forms (quiet (eqb-true x.number 0 e)))
          go false e = refl

    measures : measuring f ≡ measuring g
    unfolding measuring
    measures = ap (answer_by (version_at f) (contents_of f) (turns_for (contents_of f))) judged ∙ answered turns_for (judging g) unrefused

    places : (room : ℕ) → placing f room ≡ placing g room
    unfolding placing
    places room = ap₂ (λ n a. cond (ltb room n) (no_place 17 0) a) w measures

    module _ (t : List ℕ) (m : ℕ) where
      abbrev turns : Contents → List Turn
      turns C = turns_for (open_contents (shut t m) C)

      measures_at : measuring_at f t m ≡ measuring_at g t m
      unfolding measuring_at
      measures_at = ap (answer_by (version_at f) (contents_of f) (turns (contents_of f))) (judged_at t m) ∙ answered turns (judging_at g t m) (unrefused_at t m)

      places_at : (room : ℕ) → placing_at f t m room ≡ placing_at g t m room
      unfolding placing_at
      places_at room = ap₂ (λ n a. cond (ltb room n) (no_place 17 0) a) w measures_at

    pub alike_beside_bytes : AlikeBesideBytes f g
    alike_beside_bytes =
        let both = merged_alike f g (same_own f g names w) (λ e. c) in
        record {
          answers = alike_beside_form;
          measure = measures;
          place = places;
          measure_at = measures_at;
          place_at = places_at;
          merge_first = both.first;
          merge_second = both.second;
          merged_first = both.first_over;
          merged_second = both.second_over;
        }

    -- and in the same form
    module _ (form : version_at f ≡ version_at g) where
      pub alike : Alike f g
      unfolding placed_over placed_bytes placed_over_at placed_bytes_at
      alike = record {
        beside = alike_beside_bytes;
        placed = λ out.
            over_alike (placed_bytes f) (placed_bytes g) (placing f (length out)) (placing g (length out)) (places (length out)) (λ i. bytes_by (form i) (c i) (turns_for (c i))) out;
        placed_at = λ t m out.
            over_alike (placed_bytes_at f t m) (placed_bytes_at g t m) (placing_at f t m (length out)) (placing_at g t m (length out)) (places_at t m (length out)) (λ i. bytes_by (form i) (c i) (turns t m (c i))) out;
      }

-- a file of version 1 in version 2
pub second_alike : (F : File) → WellFormed F → (contents_of (encode (as_second F)) ≡ contents_of (encode F)) × AlikeBesideForm (encode (as_second F)) (encode F)
second_alike F w =
    let held : contents_of (encode (as_second F)) ≡ contents_of (encode F) = contents_back (as_second F) ∙ as_second_held F ∙ sym (contents_back F) in
    (held, alike_beside_form (encode (as_second F)) (encode F) (as_second_read F w ∙ sym (complete F w)) held)

-- placed it is the placed file in version 2, whatever the turns
module _ (F G : File) (turns : Contents → List Turn)
    (writes : encode G ≡ bytes_by (version_at (encode F)) (contents_of (encode F)) (turns (contents_of (encode F)))) where
  pub second_placed : encode (as_second G) ≡ bytes_by (version_at (encode (as_second F))) (contents_of (encode (as_second F))) (turns (contents_of (encode (as_second F))))
  unfolding encode
  second_placed = (λ i. encoded (is_second G.grants i) (whole i)) ∙ sym (λ i. bytes_by (two i) (held i) (turns (held i)))
    where
      f : List ℕ
      f = encode F

      is_second : (g : Grants) → version_of (masks_none g) ≡ 2
      is_second (first rs) = refl
      is_second (second rs) = refl
      is_second (third rs) = refl

      two : version_at (encode (as_second F)) ≡ 2
      two = version_back (as_second F) ∙ is_second F.grants

      held : contents_of (encode (as_second F)) ≡ contents_of f
      held = contents_back (as_second F) ∙ as_second_held F ∙ sym (contents_back F)

      P : Contents
      P = placed_contents (contents_of f) (turns (contents_of f)) (starts_of (turns (contents_of f)))

      formed : Formed (version_at f) P
      formed = subst (λ (v : ℕ). Formed v P) (sym (version_back F)) (subst (Formed (version_of F.grants)) (sym (contents_back F)) (formed_by F))

      whole : contents_for (as_second G) ≡ P
      whole = as_second_held G ∙ sym (contents_back G) ∙ ap (λ (g : List ℕ). contents_of g) writes ∙ encoded_back (version_at f) P formed
