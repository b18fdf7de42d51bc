-- What a round of any bytes after any list answers and writes.
use Prim.Native.Nat.{ℕ, ◌+◌, ◌*◌, ◌-◌, ◌/◌, ◌%◌, ◌≤◌, ◌<◌}
use mathlib.Core.Path.{◌≡◌, refl, sym, ap, ap₂, ◌∙◌, subst}
use mathlib.Core.Logic.{◌⊎◌, inl, inr, ◌≢◌, ◌↔◌}
use mathlib.Core.Bool.{Bool, true, false, cond, ◌&&◌, false≢true, and-eq-true_iff}
use mathlib.Core.List.{List, [], ◌++◌}
use native.Mathlib.Omega.{arith}
use lib.Dec.{eqb, leb}
use lib.ListN.{length, replicate, length-append}
use lib.Seq.{sets}
use borrow.Author.Tests.{eq-eqb, ne_eqb, le-leb, eqb-true, leb-true}
use Rattle.format.specs.Words.{bytes_of}
use Rattle.format.specs.Contents.{contents_of}
use Rattle.format.specs.Answers.{fine, refused, or_else}
use Rattle.format.specs.declared.Verdict.{Verdict}
use Rattle.checking.specs.Check.{reading_names}
use Rattle.steps.specs.declared.Thread.{Thread}
use Rattle.steps.specs.Choice.{Clinic, clinic_of, State}
use Rattle.choices.specs.Choices.{Ran, start, ran_of}
use Rattle.running.specs.Run.{ran_words, listed, stopped, running, run_over}
use Rattle.reading_exact.proofs.AllLaws.{all_map}
use Rattle.reading_exact.specs.Order.{OfFile}
use Rattle.reading_exact.proofs.Turns.{some_of_file}
use Rattle.reading_exact.proofs.FirstLaws.{number_of}
use Rattle.placing_exact.proofs.AnswerStages.{Named, names_fine, names_wrong, names_of}
use Rattle.running_exact.specs.Runs.{Fit}
use Rattle.running_exact.specs.Output.{state_bytes}
use Rattle.running_exact.proofs.RunSafe.{run_kept}
use Rattle.running_exact.proofs.RunChain.{run_whole}
use Rattle.running_exact.proofs.AnswerCases.{Decided, yes, no, listed_to, with_room, Answer, answer_of_lem, by_seventeen, to_names}
use Rattle.running_exact.proofs.RunAnswers.{run_through, run_halted}
use Rattle.running_exact.proofs.OutputWords.{words_length}
use Rattle.rounds.specs.Round.{Rounded}
use Rattle.dispatching.specs.declared.Round.{Round}
use Rattle.dispatching.specs.Dispatch.{round_of, after_list, both_by, round_listed, round_unready, round_answer, no_round, rounding, round_over}
use Rattle.dispatching_exact.specs.IsRound.{IsRound}
use Rattle.dispatching_exact.specs.Answered.{RoundUnfit, RoundFit, no_round_at, Answered, Stopped}
use Rattle.dispatching_exact.proofs.DispatchRounds.{the-round, round_few, round_words, round_ran}

never_fit : (ws : List ℕ) (room : ℕ) → RoundFit ws room → RoundUnfit ws room → ⊥
never_fit ws room (a, (b, c)) (inl u) = omega (arith, a, u)
never_fit ws room (a, (b, c)) (inr (inl u)) = omega (arith, b, u)
never_fit ws room (a, (b, c)) (inr (inr u)) = omega (arith, c, u)

fit_or : (ws : List ℕ) (room : ℕ) → Decided (RoundFit ws room) (RoundUnfit ws room) (round_listed (length ws) && leb 1800 room)
fit_or ws room = with_room (round_listed (length ws)) room (listed_to (length ws) 130942)

tested : (ws : List ℕ) (room : ℕ) → RoundFit ws room → round_listed (length ws) && leb 1800 room ≡ true
tested ws room fit = go (fit_or ws room)
  where
    go : Decided (RoundFit ws room) (RoundUnfit ws room) (round_listed (length ws) && leb 1800 room) → round_listed (length ws) && leb 1800 room ≡ true
    go (yes h e) = e
    go (no h e) = absurd (never_fit ws room fit h)

untested : (ws : List ℕ) (room : ℕ) → RoundUnfit ws room → round_listed (length ws) && leb 1800 room ≡ false
untested ws room u = go (fit_or ws room)
  where
    go : Decided (RoundFit ws room) (RoundUnfit ws room) (round_listed (length ws) && leb 1800 room) → round_listed (length ws) && leb 1800 room ≡ false
    go (yes h e) = absurd (never_fit ws room h u)
    go (no h e) = e

module _ (f ws : List ℕ) where
  -- 17 at 0 where the list or the output doesn't fit, whatever the file
  pub round_unfit : (room : ℕ) → RoundUnfit ws room → rounding f ws room ≡ no_round_at 17 0
  unfolding rounding
  round_unfit room u = rw (untested ws room u)

  abbrev verdict_of : Round → Verdict
  verdict_of r = record { number = r.number; place = r.place }

  -- number and place are the run's through the list
  told : (room : ℕ) → verdict_of (rounding f ws room) ≡ or_else (round_unready f ws room) (stopped (ran_of f ws))
  unfolding rounding
  told room = go (eqb (round_unready f ws room).number 0) (eqb (ran_of f ws).refusal 0) refl refl
    where
      go : (a b : Bool) → eqb (round_unready f ws room).number 0 ≡ a → eqb (ran_of f ws).refusal 0 ≡ b
          → verdict_of (rounding f ws room) ≡ or_else (round_unready f ws room) (stopped (ran_of f ws))
      go false b p q = rw p
      go true true p q = rw (p, q)
      go true false p q = let z : (ran_of f ws).count + 0 / 2 ≡ (ran_of f ws).count = omega arith in rw (p, q, z)

  answer : (room : ℕ) → Answer (RoundFit ws room) (RoundUnfit ws room) f ws (verdict_of (rounding f ws room))
  answer room =
      subst (Answer (RoundFit ws room) (RoundUnfit ws room) f ws) (sym (told room))
      (answer_of_lem f ws (RoundFit ws room) (RoundUnfit ws room) (round_listed (length ws) && leb 1800 room) (fit_or ws room))

  pub round_seventeen : (room : ℕ) → ((rounding f ws room).number ≡ 17) ↔ RoundUnfit ws room
  round_seventeen room = (by_seventeen f ws (never_fit ws room) (answer room), λ u. ap (λ (r : Round). r.number) (round_unfit room u))

  pub round_most : (room n : ℕ) → length ws ≡ 2 * n → 1800 ≤ room → ((rounding f ws room).number ≡ 17) ↔ (65471 < n)
  round_most room n e wide = (λ z. to ((round_seventeen room).0 z), λ l. (round_seventeen room).1 (inr (inr (omega (arith, e, l)))))
    where
      to : RoundUnfit ws room → 65471 < n
      to (inl u) = let never : ⊥ = omega (arith, u, wide) in absurd never
      to (inr (inl u)) = let never : ⊥ = omega (arith, e, u) in absurd never
      to (inr (inr u)) = omega (arith, e, u)

  -- then 1 to 10, as they are read
  wrong_names : (room : ℕ) → RoundFit ws room → OfFile (reading_names f).number → rounding f ws room ≡ no_round (reading_names f)
  unfolding rounding
  wrong_names room fit o = rw (tested ws room fit, ne_eqb (reading_names f).number 0 (λ q. omega (arith, some_of_file (reading_names f).number o, q)))

  pub round_names : (room n p : ℕ) → OfFile n → (rounding f ws room ≡ no_round_at n p) ↔ (RoundFit ws room × (reading_names f ≡ refused n p))
  round_names room n p o = (
    λ e. to_names f ws (never_fit ws room) n p o (answer room) (ap verdict_of e),
    λ (y, z). wrong_names room y (subst OfFile (sym (number_of z)) o) ∙ ap no_round z,
  )

  -- nothing is written then
  pub round_unwritten : (out : List ℕ) → RoundUnfit ws (length out) ⊎ (reading_names f ≢ fine) → round_over f ws out ≡ out
  unfolding round_over
  round_unwritten out (inl u) = rw (untested ws (length out) u)
  round_unwritten out (inr z) = go (round_listed (length ws) && leb 1800 (length out)) refl (names_of f)
    where
      go : (b : Bool) → round_listed (length ws) && leb 1800 (length out) ≡ b → Named (reading_names f) → round_over f ws out ≡ out
      go false e a = rw e
      go true e (names_fine c) = absurd (z c)
      go true e (names_wrong o) = rw (e, ne_eqb (reading_names f).number 0 (λ q. omega (arith, some_of_file (reading_names f).number o, q)))

  module _ (clean : reading_names f ≡ fine) where
    abbrev C : Clinic
    C = clinic_of (contents_of f)

    abbrev both : Ran
    both = both_by (contents_of f) ws

    whole : (room : ℕ) → RoundFit ws room → rounding f ws room ≡ round_answer both (after_list (contents_of f) ws).words
    unfolding rounding
    whole room fit = rw (tested ws room fit, clean)

    over_whole : (out : List ℕ) → RoundFit ws (length out) → round_over f ws out ≡ sets out 0 (bytes_of (ran_words both))
    unfolding round_over
    over_whole out fit = rw (tested ws (length out) fit, clean)

    -- the output of a run through a list that fits
    run_over_lem : (xs out : List ℕ) → Fit xs (length out) → run_over f xs out ≡ sets out 0 (bytes_of (ran_words (ran_of f xs)))
    unfolding run_over
    run_over_lem xs out (a, (b, c)) = rw (b, le-leb (length xs) 131070 c, le-leb 1800 (length out) a, clean)

    bytes : (xs : List ℕ) → 2 * length (ran_words (ran_of f xs)) ≡ state_bytes (length (ran_of f xs).state.made) (length (ran_of f xs).state.threads)
    bytes xs =
        let K = run_kept f clean xs in
        words_length (ran_of f xs) (all_map (λ (t : Thread) h. h.2.eight) (ran_of f xs).state.threads K.threads) K.few_threads K.few_made

    -- a list that stops: the halted run's answer and output, and no round
    pub round_stopped : (room : ℕ) → RoundFit ws room → (ran_of f ws).refusal ≢ 0 → Stopped f ws room (ran_of f ws).refusal ((ran_of f ws).count + 1)
    round_stopped room fit n = record {
      ran = run_halted f ws room (fit.0, (fit.1.0, omega (arith, fit.1.1))) clean n;
      answer = whole room fit ∙ ap₂ round_answer same none ∙ (λ j. record { number = (halted j).number; place = (halted j).place; length = bytes ws j; words = replicate 128 0 });
      written = λ out e.
          let fits : RoundFit ws (length out) = subst (RoundFit ws) (sym e) fit in
          over_whole out fits ∙ ap (λ (r : Ran). sets out 0 (bytes_of (ran_words r))) same ∙ sym (run_over_lem ws out (fits.0, (fits.1.0, omega (arith, fits.1.1))));
    }
      where
        test : eqb (ran_of f ws).refusal 0 ≡ false
        test = ne_eqb (ran_of f ws).refusal 0 n

        none : (after_list (contents_of f) ws).words ≡ []
        none = rw test

        same : both ≡ ran_of f ws
        same =
            let z : (ran_of f ws).count + length (after_list (contents_of f) ws).words / 2 ≡ (ran_of f ws).count = rw test (omega arith) in
            let s : (after_list (contents_of f) ws).state ≡ (ran_of f ws).state = rw test in
            (λ j. record { count = z j; refusal = (ran_of f ws).refusal; state = s j })

        halted : stopped (ran_of f ws) ≡ refused (ran_of f ws).refusal ((ran_of f ws).count + 1)
        halted = rw test

    -- else the run through both lists
    pub round_answered : (room : ℕ) → RoundFit ws room → (ran_of f ws).refusal ≡ 0 → (rs : List ℕ) (s' : State) → IsRound C (ran_of f ws).state rs s' → Answered f ws rs room
    round_answered room fit z rs s' is =
        subst (λ (x : List ℕ). Answered f ws x room) (sym ((the-round C (ran_of f ws).state rs s').0 is).0)
        (record {
          ran = run_through f (ws ++ round) room (fit.0, (omega (arith, long, even, fit.1.0), omega (arith, long, few, fit.1.1))) clean (ap (λ (r : Ran). r.refusal) ran);
          few = few;
          even = even;
          answer = whole room fit ∙ ap₂ round_answer same words
              ∙ (λ j. record { number = (done j).number; place = (done j).place; length = bytes (ws ++ round) j; words = round ++ replicate (128 - length round) 0 });
          written = λ out e.
              let fits : RoundFit ws (length out) = subst (RoundFit ws) (sym e) fit in
              over_whole out fits ∙ ap (λ (r : Ran). sets out 0 (bytes_of (ran_words r))) same
              ∙ sym (run_over_lem (ws ++ round) out (fits.0, (omega (arith, long, even, fits.1.0), omega (arith, long, few, fits.1.1))));
        })
      where
        round : List ℕ
        round = (round_of C (ran_of f ws).state).words

        few : length round ≤ 128
        few = round_words f clean ws

        even : length round % 2 ≡ 0
        even = (round_few C (ran_of f ws).state).1

        long : length (ws ++ round) ≡ length ws + length round
        long = length-append ws round

        ran : ran_of f (ws ++ round) ≡ record { count = length (ws ++ round) / 2; refusal = 0; state = (round_of C (ran_of f ws).state).state }
        ran = round_ran f ws z fit.1.0

        test : eqb (ran_of f ws).refusal 0 ≡ true
        test = eq-eqb (ran_of f ws).refusal 0 z

        words : (after_list (contents_of f) ws).words ≡ round
        words = rw test

        same : both ≡ ran_of f (ws ++ round)
        same =
            let s : (after_list (contents_of f) ws).state ≡ (round_of C (ran_of f ws).state).state = rw test in
            let count : (ran_of f ws).count + length (after_list (contents_of f) ws).words / 2 ≡ length (ws ++ round) / 2 =
            omega (arith, ap (λ (x : List ℕ). length x) words, long, even, run_whole C ws (start (contents_of f)) z fit.1.0) in
            (λ j. record { count = count j; refusal = z j; state = s j }) ∙ sym ran

        done : stopped (ran_of f (ws ++ round)) ≡ fine
        done = ap stopped ran
