-- What a run answers and writes, for every file and every list.
use Prim.Native.Nat.{ℕ, ◌+◌, ◌≤◌}
use mathlib.Core.Path.{◌≡◌, refl, sym}
use mathlib.Core.Logic.{◌⊎◌, inl, inr, ◌≢◌, ◌↔◌}
use mathlib.Core.Bool.{Bool, true, false, cond, ◌&&◌, false≢true}
use mathlib.Core.List.{List}
use native.Mathlib.Omega.{arith}
use lib.Dec.{eqb, leb}
use lib.ListN.{length}
use lib.Seq.{sets}
use borrow.Author.Tests.{ne_eqb}
use Rattle.format.specs.Words.{bytes_of}
use Rattle.format.specs.Answers.{fine, refused}
use Rattle.checking.specs.Check.{reading_names}
use Rattle.steps.specs.declared.Thread.{Thread}
use Rattle.choices.specs.Choices.{Ran, ran_of}
use Rattle.running.specs.Run.{ran_words, listed, unready, running, run_over}
use Rattle.reading_exact.proofs.AllLaws.{all_map}
use Rattle.reading_exact.specs.Order.{OfFile}
use Rattle.reading_exact.proofs.Turns.{some_of_file}
use Rattle.reading_exact.proofs.FirstLaws.{number_of}
use Rattle.placing_exact.proofs.AnswerStages.{Named, names_fine, names_wrong, names_of}
use Rattle.running_exact.specs.Runs.{Unfit, Fit}
use Rattle.running_exact.specs.Output.{Written}
use Rattle.running_exact.proofs.RunSafe.{run_kept}
use Rattle.running_exact.proofs.OutputWords.{written}
use Rattle.running_exact.proofs.AnswerCases.{Decided, yes, no, fit_or, never_fit, Answer, answer_of_lem, by_unfit, by_seventeen, to_names, from_names, by_whole, by_halt}

module _ (f ws : List ℕ) where
  abbrev ran : Ran
  ran = ran_of f ws

  run_answer : (room : ℕ) → Answer (Fit ws room) (Unfit ws room) f ws (running f ws room)
  unfolding running
  run_answer room = answer_of_lem f ws (Fit ws room) (Unfit ws room) (listed (length ws) && leb 1800 room) (fit_or ws room)

  module _ (room : ℕ) where
    -- 17 at 0 exactly where the list or the output doesn't fit, whatever the file
    pub run_unfit : Unfit ws room → running f ws room ≡ refused 17 0
    run_unfit u = by_unfit f ws (never_fit ws room) (run_answer room) u

    pub run_seventeen : ((running f ws room).number ≡ 17) ↔ Unfit ws room
    run_seventeen = (by_seventeen f ws (never_fit ws room) (run_answer room), λ u. number_of (run_unfit u))

    -- then 1 to 10, as they are read
    pub run_names : (n p : ℕ) → OfFile n → (running f ws room ≡ refused n p) ↔ (Fit ws room × (reading_names f ≡ refused n p))
    run_names n p o =
        (to_names f ws (never_fit ws room) n p o (run_answer room), λ (y, z). from_names f ws (never_fit ws room) n p (some_of_file n o) (run_answer room) y z)

    -- then what the run came to: 0 at 0, or the number that halted it at the choice after those done
    pub run_through : Fit ws room → reading_names f ≡ fine → ran.refusal ≡ 0 → running f ws room ≡ fine
    run_through y clean q = by_whole f ws (never_fit ws room) (run_answer room) y clean q

    pub run_halted : Fit ws room → reading_names f ≡ fine → ran.refusal ≢ 0 → running f ws room ≡ refused ran.refusal (ran.count + 1)
    run_halted y clean q = by_halt f ws (never_fit ws room) (run_answer room) y clean q

  -- Its output.

  -- nothing is written where 17 or 1 to 10 refuse
  pub run_unwritten : (out : List ℕ) → Unfit ws (length out) ⊎ (reading_names f ≢ fine) → run_over f ws out ≡ out
  unfolding run_over
  run_unwritten out why = go (listed (length ws) && leb 1800 (length out)) (fit_or ws (length out)) (names_of f) why
    where
      go : (b : Bool) → Decided (Fit ws (length out)) (Unfit ws (length out)) b → Named (reading_names f) → Unfit ws (length out) ⊎ (reading_names f ≢ fine)
          → cond (eqb (unready b f).number 0) (sets out 0 (bytes_of (ran_words ran))) out ≡ out
      go false d a w = refl
      go true (no h e) a w = absurd (false≢true (sym e))
      go true (yes h e) a (inl u) = absurd (never_fit ws (length out) h u)
      go true (yes h e) (names_fine c) (inr z) = absurd (z c)
      go true (yes h e) (names_wrong o) (inr z) = rw (ne_eqb (reading_names f).number 0 (λ q. omega (arith, some_of_file (reading_names f).number o, q)))

  -- and else the state after the choices done
  pub run_written : (out : List ℕ) → Fit ws (length out) → reading_names f ≡ fine → Written ran out (run_over f ws out)
  unfolding run_over
  run_written out y clean = go (listed (length ws) && leb 1800 (length out)) (fit_or ws (length out))
    where
      go : (b : Bool) → Decided (Fit ws (length out)) (Unfit ws (length out)) b
          → Written ran out (cond (eqb (unready b f).number 0) (sets out 0 (bytes_of (ran_words ran))) out)
      go b (no h e) = absurd (never_fit ws (length out) y h)
      go false (yes h e) = absurd (false≢true e)
      go true (yes h e) =
          let K = run_kept f clean ws in
          rw (number_of clean) (written ran (all_map (λ (t : Thread) h. h.2.eight) ran.state.threads K.threads) K.few_threads K.few_made out y.0)
