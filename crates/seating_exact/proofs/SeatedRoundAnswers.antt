-- What a seated round of any bytes after any list answers and writes.
use Prim.Native.Nat.{ℕ, ◌+◌, ◌*◌, ◌-◌, ◌/◌, ◌%◌, ◌≤◌}
use mathlib.Core.Path.{◌≡◌, refl, sym, ap, ap₂, ◌∙◌, subst}
use mathlib.Core.Logic.{inl, inr, ◌≢◌, ◌↔◌}
use mathlib.Core.Bool.{Bool, true, false, ◌&&◌}
use mathlib.Core.List.{List, [], ◌++◌}
use native.Mathlib.Omega.{arith}
use lib.Dec.{eqb, leb}
use lib.ListN.{length, replicate, length-append}
use lib.Seq.{sets}
use borrow.Author.Tests.{eq-eqb, ne_eqb}
use Rattle.format.specs.Words.{bytes_of}
use Rattle.format.specs.Contents.{Contents, contents_of}
use Rattle.format.specs.Answers.{fine, refused, or_else}
use Rattle.format.specs.declared.Verdict.{Verdict}
use Rattle.checking.specs.Check.{reading_names}
use Rattle.steps.specs.declared.Thread.{Thread}
use Rattle.choices.specs.Choices.{Ran}
use Rattle.running.specs.Run.{ran_words, stopped}
use Rattle.reading_exact.proofs.AllLaws.{all_map}
use Rattle.reading_exact.specs.Order.{OfFile}
use Rattle.running_exact.specs.Output.{state_bytes}
use Rattle.running_exact.specs.Keeps.{Kept}
use Rattle.running_exact.proofs.RunSafe.{run_kept}
use Rattle.running_exact.proofs.AnswerCases.{Decided, no, listed_to, with_room}
use Rattle.running_exact.proofs.OutputWords.{words_length}
use Rattle.dispatching.specs.declared.Round.{Round}
use Rattle.dispatching.specs.Dispatch.{round_listed, round_answer}
use Rattle.dispatching_exact.specs.Answered.{RoundUnfit, RoundFit, no_round_at}
use Rattle.seats.specs.Seats.{Limited, limited_of, SeatedState, SeatedRan, plainly, seated_start, seated_ran_of}
use Rattle.seats.proofs.SeatedPlain.{run_alike}
use Rattle.seating.specs.SeatsRead.{seated_steps_of}
use Rattle.seating.specs.SeatedRound.{seated_round_of, after_seated_list, seated_both_by, seated_round_unready, seated_rounding, seated_round_over}
use Rattle.seating_exact.specs.SeatTable.{SeatTableFits, OverfullAt, StartFits, SeatsBar}
use Rattle.seating_exact.specs.IsSeatedRound.{IsSeatedRound, SeatedRoundTold, SeatedRoundStopped}
use Rattle.seating_exact.proofs.SeatedCases.{Readied, readied_by}
use Rattle.seating_exact.proofs.SeatedAnswers.{SeatedEnd, ends_by, Seventeen, seventeen_bars, end_no_room, end_seventeen, end_names, end_start, seated_through, seated_halted, ready_quiet, barred_loud, over_ready}
use Rattle.seating_exact.proofs.SeatedRounds.{the-seated-round, seated_round_few, seated_round_after}

never_fit : (ws : List ℕ) (room : ℕ) → RoundFit ws room → RoundUnfit ws room → ⊥
never_fit ws room (a, (b, c)) (inl u) = omega (arith, a, u)
never_fit ws room (a, (b, c)) (inr (inl u)) = omega (arith, b, u)
never_fit ws room (a, (b, c)) (inr (inr u)) = omega (arith, c, u)

fit_or : (ws : List ℕ) (room : ℕ) → Decided (RoundFit ws room) (RoundUnfit ws room) (round_listed (length ws) && leb 1800 room)
fit_or ws room = with_room (round_listed (length ws)) room (listed_to (length ws) 130942)

module _ (f table ws : List ℕ) where
  abbrev C : Contents
  C = contents_of f

  abbrev L : Limited
  L = limited_of C table

  abbrev r : SeatedRan
  r = seated_ran_of f table ws

  abbrev both : Ran
  both = seated_both_by C table ws

  abbrev verdict_of : Round → Verdict
  verdict_of q = record { number = q.number; place = q.place }

  module _ (room : ℕ) where
    ready : Readied (RoundFit ws room) (RoundUnfit ws room) f table (seated_round_unready f ws table room)
    ready = readied_by f table (RoundFit ws room) (RoundUnfit ws room) (round_listed (length ws) && leb 1800 room) (fit_or ws room)

    -- number and place are the run's through the list
    told : verdict_of (seated_rounding f ws table room) ≡ or_else (seated_round_unready f ws table room) (stopped (plainly r))
    unfolding seated_rounding
    told = go (eqb (seated_round_unready f ws table room).number 0) (eqb r.refusal 0) refl refl
      where
        go : (a b : Bool) → eqb (seated_round_unready f ws table room).number 0 ≡ a → eqb r.refusal 0 ≡ b
            → verdict_of (seated_rounding f ws table room) ≡ or_else (seated_round_unready f ws table room) (stopped (plainly r))
        go false b p q = rw p
        go true true p q = rw (p, q)
        go true false p q = let z : r.count + 0 / 2 ≡ r.count = omega arith in rw (p, q, z)

    pub seated_round_ends : SeatedEnd (RoundFit ws room) (RoundUnfit ws room) f table ws (verdict_of (seated_rounding f ws table room))
    seated_round_ends =
        subst (SeatedEnd (RoundFit ws room) (RoundUnfit ws room) f table ws) (sym told)
        (ends_by f table ws (RoundFit ws room) (RoundUnfit ws room) (seated_round_unready f ws table room) ready)

    -- 17 exactly where the list or the output doesn't fit, or, of a file that 1 to 10 leave clean, the table
    pub seated_round_seventeen : ((seated_rounding f ws table room).number ≡ 17) ↔ Seventeen f table ws (RoundUnfit ws room)
    seated_round_seventeen = end_seventeen f table ws (never_fit ws room) seated_round_ends

    -- then 1 to 10, as they are read
    pub seated_round_names : (n p : ℕ) → OfFile n
        → (verdict_of (seated_rounding f ws table room) ≡ refused n p) ↔ (RoundFit ws room × (reading_names f ≡ refused n p))
    seated_round_names n p o = end_names f table ws (never_fit ws room) n p o seated_round_ends

    -- then 26 at the lowest session that overfills a role
    pub seated_round_start : (k : ℕ)
        → (verdict_of (seated_rounding f ws table room) ≡ refused 26 k) ↔ (RoundFit ws room × (reading_names f ≡ fine) × SeatTableFits C table × OverfullAt C table k)
    seated_round_start k = end_start f table ws (never_fit ws room) k seated_round_ends

    -- where anything refuses before the first choice: length 0, words 0
    pub seated_round_none : SeatsBar (RoundUnfit ws room) f table → seated_rounding f ws table room ≡ no_round_at (seated_rounding f ws table room).number (seated_rounding f ws table room).place
    unfolding seated_rounding
    seated_round_none w = rw (ne_eqb (seated_round_unready f ws table room).number 0 (barred_loud f table ws (never_fit ws room) ready w))

    -- 17 has place 0
    pub seated_round_no_room : Seventeen f table ws (RoundUnfit ws room) → seated_rounding f ws table room ≡ no_round_at 17 0
    seated_round_no_room w =
        seated_round_none (seventeen_bars f table ws w)
        ∙ ap (λ (v : Verdict). no_round_at v.number v.place) (end_no_room f table ws (never_fit ws room) seated_round_ends w)

  -- and nothing is written
  pub seated_round_unwritten : (out : List ℕ) → SeatsBar (RoundUnfit ws (length out)) f table → seated_round_over f ws table out ≡ out
  unfolding seated_round_over
  seated_round_unwritten out w = rw (ne_eqb (seated_round_unready f ws table (length out)).number 0 (barred_loud f table ws (never_fit ws (length out)) (ready (length out)) w))

  module _ (clean : reading_names f ≡ fine) (fits : SeatTableFits C table) (starts : StartFits C table) where
    tested : (room : ℕ) → RoundFit ws room → eqb (seated_round_unready f ws table room).number 0 ≡ true
    tested room fit = eq-eqb _ 0 (ready_quiet f table ws (never_fit ws room) (ready room) fit clean fits starts)

    whole : (room : ℕ) → RoundFit ws room → seated_rounding f ws table room ≡ round_answer both (after_seated_list C table ws).words
    unfolding seated_rounding
    whole room fit = rw (tested room fit)

    over_whole : (out : List ℕ) → RoundFit ws (length out) → seated_round_over f ws table out ≡ sets out 0 (bytes_of (ran_words both))
    unfolding seated_round_over
    over_whole out fit = rw (tested (length out) fit)

    kept : (xs : List ℕ) → Kept C (seated_ran_of f table xs).seating.state
    kept xs = subst (Kept C) (run_alike L xs (seated_start C)).state (run_kept f clean (seated_steps_of f table xs))

    bytes : (xs : List ℕ)
        → 2 * length (ran_words (plainly (seated_ran_of f table xs))) ≡ state_bytes (length (seated_ran_of f table xs).seating.state.made) (length (seated_ran_of f table xs).seating.state.threads)
    bytes xs =
        let K = kept xs in
        words_length (plainly (seated_ran_of f table xs)) (all_map (λ (t : Thread) h. h.2.eight) (seated_ran_of f table xs).seating.state.threads K.threads) K.few_threads K.few_made

    -- a list that stops: the halted run's answer and output, and no round
    pub seated_round_stopped : (room : ℕ) → RoundFit ws room → r.refusal ≢ 0 → SeatedRoundStopped f ws table room r.refusal (r.count + 1)
    seated_round_stopped room fit n = record {
      ran = seated_halted f table ws room (fit.0, (fit.1.0, omega (arith, fit.1.1))) clean fits starts n;
      answer = whole room fit ∙ ap₂ round_answer same none ∙ (λ j. record { number = (halted j).number; place = (halted j).place; length = bytes ws j; words = replicate 128 0 });
      written = λ out e.
          let fit' : RoundFit ws (length out) = subst (RoundFit ws) (sym e) fit in
          over_whole out fit' ∙ ap (λ (q : Ran). sets out 0 (bytes_of (ran_words q))) same
          ∙ sym (over_ready f table ws out (fit'.0, (fit'.1.0, omega (arith, fit'.1.1))) clean fits starts);
    }
      where
        test : eqb r.refusal 0 ≡ false
        test = ne_eqb r.refusal 0 n

        none : (after_seated_list C table ws).words ≡ []
        none = rw test

        same : both ≡ plainly r
        same =
            let z : r.count + length (after_seated_list C table ws).words / 2 ≡ r.count = rw test (omega arith) in
            let s : (after_seated_list C table ws).state.state ≡ r.seating.state = rw test in
            (λ j. record { count = z j; refusal = r.refusal; state = s j })

        halted : stopped (plainly r) ≡ refused r.refusal (r.count + 1)
        halted = rw test

    -- else the run through both lists
    pub seated_round_answered : (room : ℕ) → RoundFit ws room → r.refusal ≡ 0 → (rs : List ℕ) (S' : SeatedState) → IsSeatedRound L r.seating rs S'
        → SeatedRoundTold f ws table rs room
    seated_round_answered room fit z rs S' is =
        subst (λ (x : List ℕ). SeatedRoundTold f ws table x room) (sym ((the-seated-round L r.seating rs S').0 is).0)
        (record {
          ran = seated_through f table (ws ++ rest) room (fit.0, (omega (arith, long, even, fit.1.0), omega (arith, long, few, fit.1.1))) clean fits starts (ap (λ (q : SeatedRan). q.refusal) ran);
          few = few;
          even = even;
          answer = whole room fit ∙ ap₂ round_answer same words
              ∙ (λ j. record { number = (done j).number; place = (done j).place; length = bytes (ws ++ rest) j; words = rest ++ replicate (128 - length rest) 0 });
          written = λ out e.
              let fit' : RoundFit ws (length out) = subst (RoundFit ws) (sym e) fit in
              over_whole out fit' ∙ ap (λ (q : Ran). sets out 0 (bytes_of (ran_words q))) same
              ∙ sym (over_ready f table (ws ++ rest) out (fit'.0, (omega (arith, long, even, fit'.1.0), omega (arith, long, few, fit'.1.1))) clean fits starts);
        })
      where
        rest : List ℕ
        rest = (seated_round_of L r.seating).words

        few : length rest ≤ 128
        few = omega (arith, (seated_round_few L r.seating).0, (kept ws).few_threads)

        even : length rest % 2 ≡ 0
        even = (seated_round_few L r.seating).1

        long : length (ws ++ rest) ≡ length ws + length rest
        long = length-append ws rest

        ran : seated_ran_of f table (ws ++ rest) ≡ record { count = r.count + length rest / 2; refusal = 0; seating = (seated_round_of L r.seating).state }
        ran = seated_round_after L (seated_start C) ws z fit.1.0

        test : eqb r.refusal 0 ≡ true
        test = eq-eqb r.refusal 0 z

        words : (after_seated_list C table ws).words ≡ rest
        words = rw test

        same : both ≡ plainly (seated_ran_of f table (ws ++ rest))
        same =
            let s : (after_seated_list C table ws).state.state ≡ (seated_round_of L r.seating).state.state = rw test in
            let count : r.count + length (after_seated_list C table ws).words / 2 ≡ r.count + length rest / 2 = ap (λ (x : List ℕ). r.count + length x / 2) words in
            (λ j. record { count = count j; refusal = z j; state = s j }) ∙ sym (ap plainly ran)

        done : stopped (plainly (seated_ran_of f table (ws ++ rest))) ≡ fine
        done = ap (λ (q : SeatedRan). stopped (plainly q)) ran
