-- With all words 0 a seated run is the run; and no file that passes the check is stopped for a role, with any table.
use Prim.Native.Nat.{ℕ, zero, suc, ◌+◌, ◌*◌, ◌≤◌, ◌<◌}
use mathlib.Core.Path.{◌≡◌, refl, sym, ap, ◌∙◌, subst}
use mathlib.Core.Logic.{◌⊎◌, inl, inr, ◌≢◌}
use mathlib.Core.Bool.{Bool, true, false, cond, ◌&&◌}
use mathlib.Core.List.{List, [], ◌∷◌}
use native.Mathlib.Omega.{arith}
use lib.Dec.{eqb, leb}
use lib.ListN.{length}
use lib.Seq.{sets}
use Rattle.format.specs.Words.{bytes_of}
use Rattle.format.specs.Answers.{fine, refused, or_else}
use Rattle.format.specs.Contents.{Contents, contents_of}
use Rattle.format.specs.declared.Verdict.{Verdict}
use Rattle.checking.specs.Check.{reading_names, checking}
use Rattle.choices.specs.Choices.{Ran, ran_of}
use Rattle.running.specs.Run.{ran_words, listed, stopped, unready, running, run_over}
use Rattle.reading_exact.specs.Lists.{All}
use Rattle.reading_exact.specs.File.{InCount}
use Rattle.reading_exact.proofs.FirstLaws.{number_of}
use Rattle.reading_exact.proofs.Turns.{some_of_file}
use Rattle.running_exact.specs.Runs.{Fit}
use Rattle.running_exact.specs.Output.{state_bytes}
use Rattle.running_exact.proofs.RunSafe.{NoRole, passes_names}
use Rattle.seats.specs.Seats.{limited_of, seats_in, seated_start, plainly, seated_ran_of}
use Rattle.seats.proofs.SeatedPlain.{zeros_same, free_table, seated_safe}
use Rattle.seating.specs.SeatedRunning.{seat_table_answer, seat_start_answer, seated_unready, seated_running, seated_over, seated_length}
use Rattle.seating_exact.specs.SeatTable.{SeatTableFits, StartFits}
use Rattle.seating_exact.proofs.SeatedCases.{seat_table_fine, seat_start_fine, Readied, unlisted, misread, misfits, overfull, readied}
use Rattle.seating_exact.proofs.SeatedAnswers.{SeatedEnd, before, whole, stops, seated_run_ends, seated_written_lem}

module _ (f table : List ℕ) (zeros : All (λ w. w ≡ 0) table) (fits : length table ≡ length (contents_of f).roles) where
  pub zero_table : SeatTableFits (contents_of f) table
  zero_table = (fits, λ r c. omega (arith, free_table table zeros r))

  pub zero_start : StartFits (contents_of f) table
  zero_start k (c, (r, (l, m)), least) = omega (arith, l, free_table table zeros r)

  pub unready_same : (b : Bool) → seated_unready b f table ≡ or_else (unready b f) fine
  unready_same b =
      ap (or_else (unready b f)) (ap (λ (v : Verdict). or_else v (seat_start_answer (contents_of f) table)) (seat_table_fine f table zero_table) ∙ seat_start_fine f table zero_start)

  or_fine : (v w : Verdict) → or_else (or_else v fine) w ≡ or_else v w
  or_fine v w = go (eqb v.number 0) refl
    where
      go : (b : Bool) → eqb v.number 0 ≡ b → or_else (cond b fine v) w ≡ cond b w v
      go true e = refl
      go false e = rw e

  pub or_number : (v : Verdict) → eqb (or_else v fine).number 0 ≡ eqb v.number 0
  or_number v = go (eqb v.number 0) refl
    where
      go : (b : Bool) → eqb v.number 0 ≡ b → eqb (cond b fine v).number 0 ≡ b
      go true e = refl
      go false e = e

  -- With all words 0 the answer is that of the run without seats.
  pub zeros_answer : (ws : List ℕ) (room : ℕ) → seated_running f ws table room ≡ running f ws room
  unfolding seated_running running
  zeros_answer ws room =
      let b : Bool = listed (length ws) && leb 1800 room in
      ap (λ (v : Verdict). or_else v (stopped (plainly (seated_ran_of f table ws)))) (unready_same b)
      ∙ or_fine (unready b f) (stopped (plainly (seated_ran_of f table ws)))
      ∙ ap (λ (r : Ran). or_else (unready b f) (stopped r)) (zeros_same f table zeros ws)

  -- And so is every byte of the output.
  pub zeros_output : (ws out : List ℕ) → seated_over f ws table out ≡ run_over f ws out
  unfolding seated_over run_over
  zeros_output ws out =
      let b : Bool = listed (length ws) && leb 1800 (length out) in
      ap (λ (v : Verdict). cond (eqb v.number 0) (sets out 0 (bytes_of (ran_words (plainly (seated_ran_of f table ws))))) out) (unready_same b)
      ∙ ap (λ (c : Bool). cond c (sets out 0 (bytes_of (ran_words (plainly (seated_ran_of f table ws))))) out) (or_number (unready b f))
      ∙ ap (λ (r : Ran). cond (eqb (unready b f).number 0) (sets out 0 (bytes_of (ran_words r))) out) (zeros_same f table zeros ws)

  -- And the length is that of the state without seats.
  pub zeros_length : (ws out : List ℕ) → Fit ws (length out) → reading_names f ≡ fine
      → seated_length f ws table (length out) ≡ state_bytes (length (ran_of f ws).state.made) (length (ran_of f ws).state.threads)
  zeros_length ws out fit clean =
      (seated_written_lem f table ws out fit clean zero_table zero_start).1
      ∙ ap (λ (r : Ran). state_bytes (length r.state.made) (length r.state.threads)) (zeros_same f table zeros ws)

-- A file that passes the check is never answered 11, 12 or 13, with any table and any list.
module _ (f : List ℕ) (passes : checking f ≡ fine) (table ws : List ℕ) where
  few : (n : ℕ) → (n ≡ 0) ⊎ ((n ≡ 17) ⊎ (n ≡ 26)) → NoRole n
  few n (inl e) = (λ z. omega (arith, e, z), λ z. omega (arith, e, z), λ z. omega (arith, e, z))
  few n (inr (inl e)) = (λ z. omega (arith, e, z), λ z. omega (arith, e, z), λ z. omega (arith, e, z))
  few n (inr (inr e)) = (λ z. omega (arith, e, z), λ z. omega (arith, e, z), λ z. omega (arith, e, z))

  pub safe_by : {Yes No : Type 0} {v : Verdict} → SeatedEnd Yes No f table ws v → NoRole v.number
  safe_by (before (unlisted m e) z) = few _ (inr (inl (number_of e)))
  safe_by (before (misread y o e) z) =
      let never : ⊥ = omega (arith, number_of (passes_names f passes), some_of_file (reading_names f).number o) in absurd never
  safe_by (before (misfits y c m e) z) = few _ (inr (inl (number_of e)))
  safe_by (before (overfull y c t k o e) z) = few _ (inr (inr (number_of e)))
  safe_by (before (readied y c t s e) z) = few _ (inl (number_of e))
  safe_by (whole y c t s h e) = few _ (inl (number_of e))
  safe_by (stops y c t s h e) = subst NoRole (sym (number_of e)) (seated_safe f passes table ws)

  pub answer_safe : (room : ℕ) → ((seated_running f ws table room).number ≢ 11) × ((seated_running f ws table room).number ≢ 12) × ((seated_running f ws table room).number ≢ 13)
  answer_safe room = safe_by (seated_run_ends f table ws room)
