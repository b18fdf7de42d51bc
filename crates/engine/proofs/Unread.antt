-- What 1 to 8 refuse, every function refuses: two files that they refuse alike are answered alike, to every caller, where placing wants as much output of both.
use Prim.Native.Nat.{ℕ}
use mathlib.Core.Path.{◌≡◌, refl, sym, ap, ap₂, ◌∙◌}
use mathlib.Core.Bool.{Bool, true, false, cond, ◌&&◌, true≢false}
use mathlib.Core.List.{List}
use native.Mathlib.Omega.{arith}
use lib.Dec.{eqb, leb, ltb}
use lib.ListN.{length, replicate}
use lib.Seq.{sets}
use borrow.Author.Tests.{ne_eqb}
use Rattle.format.specs.Answers.{refused, or_else}
use Rattle.format.specs.Header.{head_of, room_for}
use Rattle.format.specs.declared.Verdict.{Verdict}
use Rattle.std.specs.Prelude.{Err}
use Rattle.format.proofs.HeadLaws.{head_number_lem}
use Rattle.reading.specs.Reading.{reading}
use Rattle.reading.proofs.ReadingLaws.{refused_by_head}
use Rattle.checking.specs.Check.{reading_names, checking}
use Rattle.hours.specs.Hours.{table_answer}
use Rattle.checking_at.specs.CheckAt.{reading_at, reading_names_at, checking_at}
use Rattle.placing.specs.declared.Placed.{Placed}
use Rattle.placing.specs.Placing.{judging, no_place, measuring, placing, placed_bytes, placed_over}
use Rattle.placing_at.specs.PlaceAt.{judging_at, measuring_at, placing_at, placed_bytes_at, placed_over_at}
use Rattle.steps.specs.declared.Thread.{Thread}
use Rattle.running.specs.declared.Ready.{Ready}
use Rattle.running.specs.Run.{listed, running, run_over, ready, totals_of, totals_after}
use Rattle.dispatching.specs.Dispatch.{round_listed, no_round, rounding, round_over}
use Rattle.seating.specs.SeatedRunning.{seated_running, seated_length, seated_over}
use Rattle.seating.specs.SeatsRead.{no_seats, seats_after}
use Rattle.seating.specs.SeatedRound.{seated_rounding, seated_round_over}
use Rattle.lending.specs.Lent.{lending, choosing, records_over, beside_over}
use Rattle.lending.specs.Starting.{starting, records_started, beside_started}
use Rattle.merging_exact.proofs.OwnAnswers.{own_fine}
use Rattle.merging_exact.proofs.SameMerging.{MergedAlike, same_own, merged_alike}
use Rattle.sheets.specs.Entries.{refused_at, entry_of}
use Rattle.engine.specs.Alike.{Alike}

-- One such file: what each function answers.
module _ (f : List ℕ) (v : Verdict) (read : reading f ≡ v) (loud : eqb v.number 0 ≡ false) where
  names : reading_names f ≡ v
  unfolding reading_names
  names = rw (read, loud)

  checked : checking f ≡ v
  unfolding checking
  checked = rw (read, loud)

  -- 17 for the list or the output, or else that refusal
  abbrev barred : Bool → Verdict
  barred fits = cond fits v (refused 17 0)

  barred_loud : (fits : Bool) → eqb (barred fits).number 0 ≡ false
  barred_loud true = loud
  barred_loud false = refl

  module _ (ws : List ℕ) where
    run_barred : (room : ℕ) → running f ws room ≡ barred (listed (length ws) && leb 1800 room)
    unfolding running
    run_barred room = rw (names, barred_loud (listed (length ws) && leb 1800 room))

    run_kept : (out : List ℕ) → run_over f ws out ≡ out
    unfolding run_over
    run_kept out = rw (names, barred_loud (listed (length ws) && leb 1800 (length out)))

    abbrev no_pair : Verdict → Ready
    no_pair w = record { number = w.number; place = w.place; sender = 0; receiver = 0 }

    no_pair_lem : ready f ws ≡ no_pair (barred (listed (length ws)))
    unfolding ready
    no_pair_lem = simp (names, barred_loud (listed (length ws)))

    no_totals : totals_after f ws ≡ totals_of (barred (listed (length ws))) (replicate 32 0)
    unfolding totals_after
    no_totals = rw (names, barred_loud (listed (length ws)))

    no_round_lem : (room : ℕ) → rounding f ws room ≡ no_round (barred (round_listed (length ws) && leb 1800 room))
    unfolding rounding
    no_round_lem room = rw (names, barred_loud (round_listed (length ws) && leb 1800 room))

    round_kept : (out : List ℕ) → round_over f ws out ≡ out
    unfolding round_over
    round_kept out = rw (names, barred_loud (round_listed (length ws) && leb 1800 (length out)))

    module _ (table : List ℕ) where
      seated_barred : (room : ℕ) → seated_running f ws table room ≡ barred (listed (length ws) && leb 1800 room)
      unfolding seated_running
      seated_barred room = simp (names, barred_loud (listed (length ws) && leb 1800 room))

      no_length : (room : ℕ) → seated_length f ws table room ≡ 0
      unfolding seated_length
      no_length room = simp (names, barred_loud (listed (length ws) && leb 1800 room))

      seated_kept : (out : List ℕ) → seated_over f ws table out ≡ out
      unfolding seated_over
      seated_kept out = simp (names, barred_loud (listed (length ws) && leb 1800 (length out)))

      no_seated_round : (room : ℕ) → seated_rounding f ws table room ≡ no_round (barred (round_listed (length ws) && leb 1800 room))
      unfolding seated_rounding
      no_seated_round room = simp (names, barred_loud (round_listed (length ws) && leb 1800 room))

      seated_round_kept : (out : List ℕ) → seated_round_over f ws table out ≡ out
      unfolding seated_round_over
      seated_round_kept out = simp (names, barred_loud (round_listed (length ws) && leb 1800 (length out)))

      no_seats_lem : seats_after f ws table ≡ no_seats (barred (listed (length ws)))
      unfolding seats_after
      no_seats_lem = simp (names, barred_loud (listed (length ws)))

  module _ (l : List Thread) (b : List ℕ) where
    unlent : lending f l b ≡ v
    unfolding lending
    unlent = rw (names, loud)

    module _ (i p : ℕ) where
      unchosen : choosing f l b i p ≡ v
      unfolding choosing
      unchosen = rw (unlent, loud)

      records_kept : records_over f l b i p ≡ l
      unfolding records_over
      records_kept = rw (unlent, loud)

      beside_kept : beside_over f l b i p ≡ b
      unfolding beside_over
      beside_kept = rw (unlent, loud)

  unstarted : (records words : ℕ) → starting f records words ≡ v
  unfolding starting
  unstarted records words = rw (names, loud)

  module _ (l : List Thread) (b : List ℕ) where
    start_kept : records_started f l b ≡ l
    unfolding records_started
    start_kept = rw (unstarted (length l) (length b), loud)

    counts_kept : beside_started f l b ≡ b
    unfolding beside_started
    counts_kept = rw (unstarted (length l) (length b), loud)

  adds_number : entry_of f ≡ refused_at v.number
  unfolding entry_of judging
  adds_number = simp (names, loud)

  -- Placing.
  unmeasured : measuring f ≡ no_place v.number v.place
  unfolding measuring judging
  unmeasured = simp (names, loud)

  unplaced : (out : List ℕ) → placed_over f out ≡ out
  unfolding placed_over placing
  unplaced out = go (ltb (length out) (room_for f))
    where
      go : (b : Bool) → cond (eqb (cond b (no_place 17 0) (measuring f)).number 0) (sets out 0 (placed_bytes f)) out ≡ out
      go true = refl
      go false = rw (unmeasured, loud)

  -- For a minute: 22 comes before it.
  module _ (t : List ℕ) (m : ℕ) where
    abbrev early : Verdict
    early = or_else (table_answer t m) v

    early_loud : eqb early.number 0 ≡ false
    early_loud = go (eqb (table_answer t m).number 0) refl
      where
        go : (b : Bool) → eqb (table_answer t m).number 0 ≡ b → eqb (cond b v (table_answer t m)).number 0 ≡ false
        go true e = loud
        go false e = e

    named_at : reading_names_at f t ≡ v
    unfolding reading_names_at reading_at
    named_at = simp (read, loud)

    checked_at : checking_at f t m ≡ early
    unfolding checking_at
    checked_at = rw (named_at, loud)

    unmeasured_at : measuring_at f t m ≡ no_place early.number early.place
    unfolding measuring_at judging_at
    unmeasured_at = simp (named_at, loud, early_loud)

    unplaced_at : (out : List ℕ) → placed_over_at f t m out ≡ out
    unfolding placed_over_at placing_at
    unplaced_at out = go (ltb (length out) (room_for f))
      where
        go : (b : Bool) → cond (eqb (cond b (no_place 17 0) (measuring_at f t m)).number 0) (sets out 0 (placed_bytes_at f t m)) out ≡ out
        go true = refl
        go false = rw (unmeasured_at, early_loud)

-- 1 to 5 are among them.
pub loud_head : (f : List ℕ) (n : ℕ) → head_of f ≡ Err n → eqb (reading f).number 0 ≡ false
loud_head f n e = rw (refused_by_head f n e) (ne_eqb n 0 (λ z. let no : ⊥ = omega (arith, z, head_number_lem f n e) in no))

-- Two of them.
module _ (f g : List ℕ) (r : reading f ≡ reading g) (loud : eqb (reading g).number 0 ≡ false) (w : room_for f ≡ room_for g) where
  abbrev v : Verdict
  v = reading g

  same : {A : Type 0} {answer : A} (judge : List ℕ → A) → ((h : List ℕ) → reading h ≡ v → judge h ≡ answer) → judge f ≡ judge g
  same judge by = by f r ∙ sym (by g refl)

  measures : measuring f ≡ measuring g
  measures = same measuring (λ h e. unmeasured h v e loud)

  measures_at : (t : List ℕ) (m : ℕ) → measuring_at f t m ≡ measuring_at g t m
  measures_at t m = same (λ h. measuring_at h t m) (λ h e. unmeasured_at h v e loud t m)

  -- merging takes neither
  both : MergedAlike f g
  both =
      merged_alike f g (same_own f g (same reading_names (λ h e. names h v e loud)) w)
      (λ own. absurd (true≢false (sym (ap (λ (u : Verdict). eqb u.number 0) (sym (names g v refl loud) ∙ (own_fine g own).1)) ∙ loud)))

  pub unread_alike : Alike f g
  unfolding placing placing_at
  unread_alike = record {
    beside = record {
      answers = record {
        read = same reading_names (λ h e. names h v e loud);
        check = same checking (λ h e. checked h v e loud);
        measured = (ap (λ (a : Placed). a.number) measures, ap (λ (a : Placed). a.place) measures, ap (λ (a : Placed). a.on_steps) measures);
        measured_at = λ t m.
            (ap (λ (a : Placed). a.number) (measures_at t m), ap (λ (a : Placed). a.place) (measures_at t m), ap (λ (a : Placed). a.on_steps) (measures_at t m));
        check_at = λ t m. same (λ h. checking_at h t m) (λ h e. checked_at h v e loud t m);
        adds = same entry_of (λ h e. adds_number h v e loud);
        run = λ ws room. same (λ h. running h ws room) (λ h e. run_barred h v e loud ws room);
        ran = λ ws out. same (λ h. run_over h ws out) (λ h e. run_kept h v e loud ws out);
        pair = λ ws. same (λ h. ready h ws) (λ h e. no_pair_lem h v e loud ws);
        round = λ ws room. same (λ h. rounding h ws room) (λ h e. no_round_lem h v e loud ws room);
        rounded = λ ws out. same (λ h. round_over h ws out) (λ h e. round_kept h v e loud ws out);
        totals = λ ws. same (λ h. totals_after h ws) (λ h e. no_totals h v e loud ws);
        run_seated = λ ws t room. same (λ h. seated_running h ws t room) (λ h e. seated_barred h v e loud ws t room);
        length_seated = λ ws t room. same (λ h. seated_length h ws t room) (λ h e. no_length h v e loud ws t room);
        ran_seated = λ ws t out. same (λ h. seated_over h ws t out) (λ h e. seated_kept h v e loud ws t out);
        round_seated = λ ws t room. same (λ h. seated_rounding h ws t room) (λ h e. no_seated_round h v e loud ws t room);
        rounded_seated = λ ws t out. same (λ h. seated_round_over h ws t out) (λ h e. seated_round_kept h v e loud ws t out);
        seats = λ ws t. same (λ h. seats_after h ws t) (λ h e. no_seats_lem h v e loud ws t);
        choose = λ l b i p. same (λ h. choosing h l b i p) (λ h e. unchosen h v e loud l b i p);
        records = λ l b i p. same (λ h. records_over h l b i p) (λ h e. records_kept h v e loud l b i p);
        beside = λ l b i p. same (λ h. beside_over h l b i p) (λ h e. beside_kept h v e loud l b i p);
        start = λ records words. same (λ h. starting h records words) (λ h e. unstarted h v e loud records words);
        started = λ l b. same (λ h. records_started h l b) (λ h e. start_kept h v e loud l b);
        counts = λ l b. same (λ h. beside_started h l b) (λ h e. counts_kept h v e loud l b);
      };
      measure = measures;
      place = λ room. ap₂ (λ n a. cond (ltb room n) (no_place 17 0) a) w measures;
      measure_at = measures_at;
      place_at = λ t m room. ap₂ (λ n a. cond (ltb room n) (no_place 17 0) a) w (measures_at t m);
      merge_first = both.first;
      merge_second = both.second;
      merged_first = both.first_over;
      merged_second = both.second_over;
    };
    placed = λ out. same (λ h. placed_over h out) (λ h e. unplaced h v e loud out);
    placed_at = λ t m out. same (λ h. placed_over_at h t m out) (λ h e. unplaced_at h v e loud t m out);
  }
