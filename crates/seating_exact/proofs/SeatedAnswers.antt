-- What a run with seats answers and writes, for every file, list and table.
use Prim.Native.Nat.{ℕ, ◌+◌, ◌≤◌, ◌<◌}
use mathlib.Core.Path.{◌≡◌, refl, sym, ap, ◌∙◌, subst}
use mathlib.Core.Logic.{◌⊎◌, inl, inr, ◌≢◌, ◌↔◌}
use mathlib.Core.Bool.{Bool, true, false, cond, ◌&&◌}
use mathlib.Core.List.{List}
use native.Mathlib.Omega.{arith}
use lib.Dec.{eqb, leb}
use lib.ListN.{length}
use lib.Seq.{sets}
use borrow.Author.Tests.{eqb-true, eqb-false, leb-true, leb-false, eq-eqb, ne_eqb}
use Rattle.format.specs.Words.{bytes_of}
use Rattle.format.specs.Answers.{fine, refused, or_else}
use Rattle.format.specs.Contents.{Contents, contents_of}
use Rattle.format.specs.declared.Verdict.{Verdict}
use Rattle.checking.specs.Check.{reading_names}
use Rattle.steps.specs.declared.Thread.{Thread}
use Rattle.running.specs.Run.{ran_words, listed, stopped}
use Rattle.reading_exact.specs.Order.{OfFile}
use Rattle.reading_exact.proofs.AllLaws.{all_map}
use Rattle.reading_exact.proofs.FirstLaws.{number_of}
use Rattle.reading_exact.proofs.Turns.{not_of_file, some_of_file}
use Rattle.running_exact.specs.Runs.{Unfit, Fit}
use Rattle.running_exact.specs.Output.{Written, state_bytes}
use Rattle.running_exact.specs.Keeps.{Kept}
use Rattle.running_exact.proofs.RunSafe.{run_kept}
use Rattle.running_exact.proofs.OutputWords.{written, words_length}
use Rattle.running_exact.proofs.AnswerCases.{fit_or, never_fit}
use Rattle.seats.specs.Seats.{limited_of, seated_start, SeatedRan, plainly, seated_ran_of}
use Rattle.seats.proofs.SeatedPlain.{run_alike}
use Rattle.seating.specs.SeatedRunning.{seated_unready_in, seated_running, seated_over, seated_length}
use Rattle.seating.specs.SeatsRead.{seated_steps_of}
use Rattle.seating_exact.specs.SeatTable.{SeatTableFits, SeatTableMisfits, OverfullAt, StartFits, SeatsBar}
use Rattle.seating_exact.proofs.SeatedCases.{Readied, unlisted, misread, misfits, overfull, readied, readied_by, never_fits, halted_number}

-- what can be answered before the first choice, or what the run came to
pub data SeatedEnd (Yes No : Type 0) (f table ws : List ℕ) (v : Verdict) : Type 0 where
  before : Readied Yes No f table v → v.number ≢ 0 → SeatedEnd Yes No f table ws v
  whole : Yes → reading_names f ≡ fine → SeatTableFits (contents_of f) table → StartFits (contents_of f) table → (seated_ran_of f table ws).refusal ≡ 0 → v ≡ fine
      → SeatedEnd Yes No f table ws v
  stops : Yes → reading_names f ≡ fine → SeatTableFits (contents_of f) table → StartFits (contents_of f) table
      → (10 < (seated_ran_of f table ws).refusal) × ((seated_ran_of f table ws).refusal < 21) × ((seated_ran_of f table ws).refusal ≢ 17)
      → v ≡ refused (seated_ran_of f table ws).refusal ((seated_ran_of f table ws).count + 1) → SeatedEnd Yes No f table ws v

module _ (f table ws : List ℕ) where
  abbrev C : Contents
  C = contents_of f

  abbrev r : SeatedRan
  r = seated_ran_of f table ws

  pub ends_by : (Yes No : Type 0) (u : Verdict) → Readied Yes No f table u → SeatedEnd Yes No f table ws (or_else u (stopped (plainly r)))
  ends_by Yes No u R = go (eqb u.number 0) refl R
    where
      come : Yes → reading_names f ≡ fine → SeatTableFits C table → StartFits C table → (b : Bool) → eqb r.refusal 0 ≡ b
          → SeatedEnd Yes No f table ws (cond b fine (refused r.refusal (r.count + 1)))
      come y c t s true e = whole y c t s (eqb-true r.refusal 0 e) refl
      come y c t s false e = stops y c t s (halted_number f table ws (eqb-false r.refusal 0 e)) refl

      ran : Readied Yes No f table u → u.number ≡ 0 → SeatedEnd Yes No f table ws (stopped (plainly r))
      ran (readied y c t s e) z = come y c t s (eqb r.refusal 0) refl
      ran (unlisted n e) z = let never : ⊥ = omega (arith, z, number_of e) in absurd never
      ran (misread y o e) z = let never : ⊥ = omega (arith, z, number_of e, some_of_file (reading_names f).number o) in absurd never
      ran (misfits y c t e) z = let never : ⊥ = omega (arith, z, number_of e) in absurd never
      ran (overfull y c t k o e) z = let never : ⊥ = omega (arith, z, number_of e) in absurd never

      go : (b : Bool) → eqb u.number 0 ≡ b → Readied Yes No f table u → SeatedEnd Yes No f table ws (cond b (stopped (plainly r)) u)
      go true e R = ran R (eqb-true u.number 0 e)
      go false e R = before R (eqb-false u.number 0 e)

  -- what is 17: the list or the output, or, of a file that 1 to 10 leave clean, the table
  abbrev pub Seventeen : Type 0 → Type 0
  Seventeen No = No ⊎ ((reading_names f ≡ fine) × SeatTableMisfits C table)

  pub seventeen_bars : {No : Type 0} → Seventeen No → SeatsBar No f table
  seventeen_bars (inl n) = inl n
  seventeen_bars (inr (c, m)) = inr (inr (inl m))

  module _ {Yes No : Type 0} (apart : Yes → No → ⊥) {v : Verdict} where
    pub end_no_room : SeatedEnd Yes No f table ws v → Seventeen No → v ≡ refused 17 0
    end_no_room (before (unlisted n e) z) w = e
    end_no_room (before (misread y o e) z) (inl n) = absurd (apart y n)
    end_no_room (before (misread y o e) z) (inr (c, t)) =
        let never : ⊥ = omega (arith, number_of c, some_of_file (reading_names f).number o) in absurd never
    end_no_room (before (misfits y c t e) z) w = e
    end_no_room (before (overfull y c t k o e) z) (inl n) = absurd (apart y n)
    end_no_room (before (overfull y c t k o e) z) (inr (c', m)) = absurd (never_fits C table t m)
    end_no_room (before (readied y c t s e) z) w = absurd (z (number_of e))
    end_no_room (whole y c t s h e) (inl n) = absurd (apart y n)
    end_no_room (whole y c t s h e) (inr (c', m)) = absurd (never_fits C table t m)
    end_no_room (stops y c t s h e) (inl n) = absurd (apart y n)
    end_no_room (stops y c t s h e) (inr (c', m)) = absurd (never_fits C table t m)

    pub end_seventeen : SeatedEnd Yes No f table ws v → (v.number ≡ 17) ↔ Seventeen No
    end_seventeen E = (to E, λ w. number_of (end_no_room E w))
      where
        to : SeatedEnd Yes No f table ws v → v.number ≡ 17 → Seventeen No
        to (before (unlisted n e) z) q = inl n
        to (before (misread y o e) z) q = absurd (not_of_file _ 17 o (omega arith) (omega arith) (sym (number_of e) ∙ q))
        to (before (misfits y c t e) z) q = inr (c, t)
        to (before (overfull y c t k o e) z) q = let never : ⊥ = omega (arith, number_of e, q) in absurd never
        to (before (readied y c t s e) z) q = absurd (z (number_of e))
        to (whole y c t s h e) q = let never : ⊥ = omega (arith, number_of e, q) in absurd never
        to (stops y c t s (l, h, d) e) q = absurd (d (sym (number_of e) ∙ q))

    pub end_names : (n p : ℕ) → OfFile n → SeatedEnd Yes No f table ws v → (v ≡ refused n p) ↔ (Yes × (reading_names f ≡ refused n p))
    end_names n p o E = (to E, λ (y, q). from E y q)
      where
        some : 1 ≤ n
        some = some_of_file n o

        clean_not : reading_names f ≡ fine → reading_names f ≡ refused n p → ⊥
        clean_not c q = omega (arith, number_of (sym c ∙ q), some)

        past : (k q : ℕ) → 10 < k → k < 21 → v ≡ refused k q → v ≡ refused n p → ⊥
        past k q l h e z = not_of_file n k o l h (sym (number_of (sym e ∙ z)))

        to : SeatedEnd Yes No f table ws v → v ≡ refused n p → Yes × (reading_names f ≡ refused n p)
        to (before (unlisted m e) z) q = absurd (past 17 0 (omega arith) (omega arith) e q)
        to (before (misread y w e) z) q = (y, sym e ∙ q)
        to (before (misfits y c t e) z) q = absurd (past 17 0 (omega arith) (omega arith) e q)
        to (before (overfull y c t k w e) z) q = let six : 26 ≡ n = number_of (sym e ∙ q) in absurd (twenty six o)
          where
            twenty : 26 ≡ n → OfFile n → ⊥
            twenty six (inl (a, b)) = omega (arith, six, b)
            twenty six (inr is) = omega (arith, six, is)
        to (before (readied y c t s e) z) q = absurd (z (number_of e))
        to (whole y c t s h e) q = let never : ⊥ = omega (arith, number_of (sym e ∙ q), some) in absurd never
        to (stops y c t s (l, h, d) e) q = absurd (past _ _ l h e q)

        from : SeatedEnd Yes No f table ws v → Yes → reading_names f ≡ refused n p → v ≡ refused n p
        from (before (unlisted m e) z) y q = absurd (apart y m)
        from (before (misread y' w e) z) y q = e ∙ q
        from (before (misfits y' c t e) z) y q = absurd (clean_not c q)
        from (before (overfull y' c t k w e) z) y q = absurd (clean_not c q)
        from (before (readied y' c t s e) z) y q = absurd (clean_not c q)
        from (whole y' c t s h e) y q = absurd (clean_not c q)
        from (stops y' c t s h e) y q = absurd (clean_not c q)

    pub end_start : (k : ℕ) → SeatedEnd Yes No f table ws v → (v ≡ refused 26 k) ↔ (Yes × (reading_names f ≡ fine) × SeatTableFits C table × OverfullAt C table k)
    end_start k E = (to E, from E)
      where
        of_file_not : OfFile 26 → ⊥
        of_file_not (inl (a, b)) = omega (arith, b)
        of_file_not (inr is) = omega (arith, is)

        to : SeatedEnd Yes No f table ws v → v ≡ refused 26 k → Yes × (reading_names f ≡ fine) × SeatTableFits C table × OverfullAt C table k
        to (before (unlisted m e) z) q = let never : ⊥ = omega (arith, number_of (sym e ∙ q)) in absurd never
        to (before (misread y w e) z) q = absurd (of_file_not (subst OfFile (number_of (sym e ∙ q)) w))
        to (before (misfits y c t e) z) q = let never : ⊥ = omega (arith, number_of (sym e ∙ q)) in absurd never
        to (before (overfull y c t j w e) z) q =
            let same : j ≡ k = ap (λ (u : Verdict). u.place) (sym e ∙ q) in
            (y, c, t, subst (OverfullAt C table) same w)
        to (before (readied y c t s e) z) q = absurd (z (number_of e))
        to (whole y c t s h e) q = let never : ⊥ = omega (arith, number_of (sym e ∙ q)) in absurd never
        to (stops y c t s (l, h, d) e) q = let never : ⊥ = omega (arith, h, number_of (sym e ∙ q)) in absurd never

        least : (i j : ℕ) → OverfullAt C table i → OverfullAt C table j → i < j → ⊥
        least i j (a, (x, o), b) (c, w, d) l = d i x a.0 l o

        one : (i j : ℕ) → OverfullAt C table i → OverfullAt C table j → i ≡ j
        one i j a b = by (leb i j) (leb j i) refl refl
          where
            by : (x y : Bool) → leb i j ≡ x → leb j i ≡ y → i ≡ j
            by true true p q = omega (arith, leb-true i j p, leb-true j i q)
            by false y p q = absurd (least j i b a (leb-false i j p))
            by true false p q = absurd (least i j a b (leb-false j i q))

        from : SeatedEnd Yes No f table ws v → Yes × (reading_names f ≡ fine) × SeatTableFits C table × OverfullAt C table k → v ≡ refused 26 k
        from (before (unlisted m e) z) (y, c, t, o) = absurd (apart y m)
        from (before (misread y' w e) z) (y, c, t, o) = let never : ⊥ = omega (arith, number_of c, some_of_file (reading_names f).number w) in absurd never
        from (before (misfits y' c' m e) z) (y, c, t, o) = absurd (never_fits C table t m)
        from (before (overfull y' c' t' j w e) z) (y, c, t, o) = e ∙ ap (refused 26) (one j k w o)
        from (before (readied y' c' t' s e) z) w = absurd (z (number_of e))
        from (whole y' c' t' s h e) (y, c, t, o) = absurd (s k o)
        from (stops y' c' t' s h e) (y, c, t, o) = absurd (s k o)

    -- nothing stands against it
    pub ready_quiet : Readied Yes No f table v → Yes → reading_names f ≡ fine → SeatTableFits C table → StartFits C table → v.number ≡ 0
    ready_quiet (unlisted m e) y c t s = absurd (apart y m)
    ready_quiet (misread y' w e) y c t s = number_of (e ∙ c)
    ready_quiet (misfits y' c' m e) y c t s = absurd (never_fits C table t m)
    ready_quiet (overfull y' c' t' k o e) y c t s = absurd (s k o)
    ready_quiet (readied y' c' t' s' e) y c t s = number_of e

    pub end_whole : SeatedEnd Yes No f table ws v → Yes → reading_names f ≡ fine → SeatTableFits C table → StartFits C table → r.refusal ≡ 0 → v ≡ fine
    end_whole (before R z) y c t s q = absurd (z (ready_quiet R y c t s))
    end_whole (whole y' c' t' s' h e) y c t s q = e
    end_whole (stops y' c' t' s' (l, h, d) e) y c t s q = let never : ⊥ = omega (arith, l, q) in absurd never

    pub end_stops : SeatedEnd Yes No f table ws v → Yes → reading_names f ≡ fine → SeatTableFits C table → StartFits C table → r.refusal ≢ 0
        → v ≡ refused r.refusal (r.count + 1)
    end_stops (before R z) y c t s q = absurd (z (ready_quiet R y c t s))
    end_stops (whole y' c' t' s' h e) y c t s q = absurd (q h)
    end_stops (stops y' c' t' s' h e) y c t s q = e

  module _ (room : ℕ) where
    run_ready : Readied (Fit ws room) (Unfit ws room) f table (seated_unready_in f ws table room)
    run_ready = readied_by f table (Fit ws room) (Unfit ws room) (listed (length ws) && leb 1800 room) (fit_or ws room)

    pub seated_run_ends : SeatedEnd (Fit ws room) (Unfit ws room) f table ws (seated_running f ws table room)
    unfolding seated_running
    seated_run_ends = ends_by (Fit ws room) (Unfit ws room) (seated_unready_in f ws table room) run_ready

    -- 17 exactly where the list or the output doesn't fit, or, of a file that 1 to 10 leave clean, the table; its place is 0.
    pub seated_seventeen : ((seated_running f ws table room).number ≡ 17) ↔ Seventeen (Unfit ws room)
    seated_seventeen = end_seventeen (never_fit ws room) seated_run_ends

    pub seated_no_room : Seventeen (Unfit ws room) → seated_running f ws table room ≡ refused 17 0
    seated_no_room = end_no_room (never_fit ws room) seated_run_ends

    -- 1 to 10 exactly where the list and the output fit and the file is refused so, whatever the table.
    pub seated_names : (n p : ℕ) → OfFile n → (seated_running f ws table room ≡ refused n p) ↔ (Fit ws room × (reading_names f ≡ refused n p))
    seated_names n p o = end_names (never_fit ws room) n p o seated_run_ends

    -- 26 at session k exactly where nothing of that refuses and k is the lowest whose mask, taken in order, overfills a role.
    pub seated_start_lem : (k : ℕ) → (seated_running f ws table room ≡ refused 26 k) ↔ (Fit ws room × (reading_names f ≡ fine) × SeatTableFits C table × OverfullAt C table k)
    seated_start_lem k = end_start (never_fit ws room) k seated_run_ends

    -- Then what the run came to: 0 at 0, or the number that halted it at the choice after those done, those answered 26 among them.
    pub seated_through : Fit ws room → reading_names f ≡ fine → SeatTableFits C table → StartFits C table → r.refusal ≡ 0 → seated_running f ws table room ≡ fine
    seated_through = end_whole (never_fit ws room) seated_run_ends

    pub seated_halted : Fit ws room → reading_names f ≡ fine → SeatTableFits C table → StartFits C table → r.refusal ≢ 0
        → seated_running f ws table room ≡ refused r.refusal (r.count + 1)
    seated_halted = end_stops (never_fit ws room) seated_run_ends

  -- Its output.

  -- what is refused before the first choice is loud
  pub barred_loud : {Yes No : Type 0} → (Yes → No → ⊥) → {v : Verdict} → Readied Yes No f table v → SeatsBar No f table → v.number ≢ 0
  barred_loud apart (unlisted m e) w z = omega (arith, number_of e, z)
  barred_loud apart (misread y o e) w z = omega (arith, number_of e, z, some_of_file (reading_names f).number o)
  barred_loud apart (misfits y c m e) w z = omega (arith, number_of e, z)
  barred_loud apart (overfull y c t k o e) w z = omega (arith, number_of e, z)
  barred_loud apart (readied y c t s e) (inl u) z = apart y u
  barred_loud apart (readied y c t s e) (inr (inl q)) z = q c
  barred_loud apart (readied y c t s e) (inr (inr (inl m))) z = never_fits C table t m
  barred_loud apart (readied y c t s e) (inr (inr (inr (k, o)))) z = s k o

  pub ready_number : (room : ℕ) → Fit ws room → reading_names f ≡ fine → SeatTableFits C table → StartFits C table → eqb (seated_unready_in f ws table room).number 0 ≡ true
  ready_number room y c t s = eq-eqb _ 0 (ready_quiet (never_fit ws room) (run_ready room) y c t s)

  barred_number : (room : ℕ) → SeatsBar (Unfit ws room) f table → eqb (seated_unready_in f ws table room).number 0 ≡ false
  barred_number room w = ne_eqb _ 0 (barred_loud (never_fit ws room) (run_ready room) w)

  pub over_ready : (out : List ℕ) → Fit ws (length out) → reading_names f ≡ fine → SeatTableFits C table → StartFits C table
      → seated_over f ws table out ≡ sets out 0 (bytes_of (ran_words (plainly r)))
  unfolding seated_over
  over_ready out y c t s = rw (ready_number (length out) y c t s)

  -- nothing is written where the run is refused before the first choice, and the length is 0
  pub seated_unwritten : (out : List ℕ) → SeatsBar (Unfit ws (length out)) f table → (seated_over f ws table out ≡ out) × (seated_length f ws table (length out) ≡ 0)
  unfolding seated_over seated_length
  seated_unwritten out w = (rw (barred_number (length out) w), rw (barred_number (length out) w))

  -- and else the state after the choices done, also of a halted run; the length is its bytes
  pub seated_written_lem : (out : List ℕ) → Fit ws (length out) → reading_names f ≡ fine → SeatTableFits C table → StartFits C table
      → Written (plainly r) out (seated_over f ws table out)
      × (seated_length f ws table (length out) ≡ state_bytes (length r.seating.state.made) (length r.seating.state.threads))
  unfolding seated_over seated_length
  seated_written_lem out y c t s =
      let K : Kept C r.seating.state =
      subst (Kept C) (run_alike (limited_of C table) ws (seated_start C)).state (run_kept f c (seated_steps_of f table ws)) in
      let eight = all_map (λ (t : Thread) h. h.2.eight) r.seating.state.threads K.threads in (
        rw (ready_number (length out) y c t s) (written (plainly r) eight K.few_threads K.few_made out y.0),
        rw (ready_number (length out) y c t s) (words_length (plainly r) eight K.few_threads K.few_made),
      )
