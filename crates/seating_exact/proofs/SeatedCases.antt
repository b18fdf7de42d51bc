-- What a seated run can be answered: 17, then 1 to 10, 17 for the table, 26 for the start, then what halted the run, or nothing.
use Prim.Native.Nat.{ℕ, zero, suc, ◌+◌, ◌≤◌, ◌<◌}
use mathlib.Core.Path.{◌≡◌, refl, sym, ap, ◌∙◌, subst}
use mathlib.Core.Logic.{◌⊎◌, inl, inr, ◌≢◌, ◌↔◌}
use mathlib.Core.Bool.{Bool, true, false, cond, ◌&&◌, false≢true}
use mathlib.Core.List.{List, [], ◌∷◌}
use native.Mathlib.Omega.{arith}
use lib.Dec.{eqb, leb}
use lib.ListN.{length, get_or}
use borrow.Author.Tests.{eqb-true, eqb-false, leb-true, leb-false, eq-eqb, ne_eqb}
use Rattle.format.specs.Answers.{fine, refused, or_else}
use Rattle.format.specs.Contents.{Contents, contents_of}
use Rattle.format.specs.declared.Verdict.{Verdict}
use Rattle.format.proofs.AnswerLaws.{quiet_first, loud_first}
use Rattle.checking.specs.Check.{reading_names}
use Rattle.steps.specs.Choice.{clinic_of}
use Rattle.choices.specs.Choices.{start, ran_of}
use Rattle.running.specs.Run.{stopped, unready}
use Rattle.reading_exact.specs.File.{InCount}
use Rattle.reading_exact.specs.Order.{OfFile}
use Rattle.reading_exact.proofs.FirstLaws.{number_of}
use Rattle.reading_exact.proofs.Turns.{not_of_file, some_of_file}
use Rattle.placing_exact.proofs.AnswerStages.{Named, names_fine, names_wrong, names_of}
use Rattle.running_exact.proofs.Agree.{refused_number}
use Rattle.running_exact.proofs.RunChain.{run_stopped}
use Rattle.running_exact.proofs.AnswerCases.{past_ten, Decided, yes, no}
use Rattle.seats.specs.Seats.{limited_of, seats_in, seated_start, overfilled_at, SeatedRan, plainly, steps_only, seated_ran_of}
use Rattle.seats.specs.SeatOrder.{FirstOver}
use Rattle.seats.proofs.SeatedPlain.{run_alike}
use Rattle.seats.proofs.SeatedStart.{start_over}
use Rattle.seating.specs.SeatedRunning.{small_seats, seat_table_answer, seat_start_answer, seated_unready}
use Rattle.seating.specs.SeatsRead.{seated_steps_of}
use Rattle.seating_exact.specs.SeatTable.{SeatTableFits, SeatTableMisfits, OverfullAt, StartFits}

-- each word at most 32, or one that isn't
pub small_or : (table : List ℕ) → Decided ((j : ℕ) → j < length table → get_or table j 0 ≤ 32) ((j : ℕ) × (j < length table) × (32 < get_or table j 0)) (small_seats table)
unfolding small_seats
small_or [] = yes (λ j l. absurd (omega (arith, l))) refl
small_or (w ∷ table) = go (leb w 32) (small_seats table) refl (small_or table)
  where
    go : (a b : Bool) → leb w 32 ≡ a → Decided ((j : ℕ) → j < length table → get_or table j 0 ≤ 32) ((j : ℕ) × (j < length table) × (32 < get_or table j 0)) b
        → Decided ((j : ℕ) → j < suc (length table) → get_or (w ∷ table) j 0 ≤ 32) ((j : ℕ) × (j < suc (length table)) × (32 < get_or (w ∷ table) j 0)) (a && b)
    go false b e d = no (0, omega arith, leb-false w 32 e) refl
    go true b e (no (j, l, h) z) = no (suc j, omega (arith, l), h) z
    go true b e (yes h z) = yes all z
      where
        all : (j : ℕ) → j < suc (length table) → get_or (w ∷ table) j 0 ≤ 32
        all zero l = leb-true w 32 e
        all (suc j) l = h j (omega (arith, l))

pub table_or : (C : Contents) (table : List ℕ) → Decided (SeatTableFits C table) (SeatTableMisfits C table) (eqb (length table) (length C.roles) && small_seats table)
table_or C table = go (eqb (length table) (length C.roles)) (small_seats table) refl (small_or table)
  where
    words : (r : ℕ) → InCount (length table) r → ((j : ℕ) → j < length table → get_or table j 0 ≤ 32) → seats_in table r ≤ 32
    words zero c h = let never : ⊥ = omega (arith, c.0) in absurd never
    words (suc j) c h = h j (omega (arith, c.1))

    go : (a b : Bool) → eqb (length table) (length C.roles) ≡ a → Decided ((j : ℕ) → j < length table → get_or table j 0 ≤ 32) ((j : ℕ) × (j < length table) × (32 < get_or table j 0)) b
        → Decided (SeatTableFits C table) (SeatTableMisfits C table) (a && b)
    go false b e d = no (inl (eqb-false (length table) (length C.roles) e)) refl
    go true b e (no (j, l, h) z) = no (inr (suc j, (omega arith, omega (arith, l)), h)) z
    go true b e (yes h z) = yes (eqb-true (length table) (length C.roles) e, λ r c. words r c h) z

pub never_fits : (C : Contents) (table : List ℕ) → SeatTableFits C table → SeatTableMisfits C table → ⊥
never_fits C table (e, h) (inl z) = z e
never_fits C table (e, h) (inr (r, c, l)) = omega (arith, h r c, l)

-- a list that fits or not, a file and a table: what can be answered before the first choice
pub data Readied (Yes No : Type 0) (f table : List ℕ) (v : Verdict) : Type 0 where
  unlisted : No → v ≡ refused 17 0 → Readied Yes No f table v
  misread : Yes → OfFile (reading_names f).number → v ≡ reading_names f → Readied Yes No f table v
  misfits : Yes → reading_names f ≡ fine → SeatTableMisfits (contents_of f) table → v ≡ refused 17 0 → Readied Yes No f table v
  overfull : Yes → reading_names f ≡ fine → SeatTableFits (contents_of f) table → (k : ℕ) → OverfullAt (contents_of f) table k → v ≡ refused 26 k → Readied Yes No f table v
  readied : Yes → reading_names f ≡ fine → SeatTableFits (contents_of f) table → StartFits (contents_of f) table → v ≡ fine → Readied Yes No f table v

module _ (f table : List ℕ) where
  abbrev C : Contents
  C = contents_of f

  start_or : (k : ℕ) → overfilled_at (limited_of C table) (seated_start C) (length table) ≡ k
      → ((k ≡ 0) × StartFits C table) ⊎ ((1 ≤ k) × OverfullAt C table k)
  start_or zero e = inl (refl, λ k o. let never : ⊥ = omega (arith, o.0.0, sym e ∙ (start_over C table k o.0.0).1 o) in never)
  start_or (suc k) e = inr (omega arith, (start_over C table (suc k) (omega arith)).0 e)

  pub seat_table_fine : SeatTableFits C table → seat_table_answer C table ≡ fine
  unfolding seat_table_answer
  seat_table_fine h = go (table_or C table)
    where
      go : Decided (SeatTableFits C table) (SeatTableMisfits C table) (eqb (length table) (length C.roles) && small_seats table)
          → cond (eqb (length table) (length C.roles) && small_seats table) fine (refused 17 0) ≡ fine
      go (yes a e) = rw e
      go (no a e) = absurd (never_fits C table h a)

  -- no session overfills a role: none is found
  pub start_fits_none : StartFits C table → overfilled_at (limited_of C table) (seated_start C) (length table) ≡ 0
  start_fits_none h = go (start_or (overfilled_at (limited_of C table) (seated_start C) (length table)) refl)
    where
      k : ℕ
      k = overfilled_at (limited_of C table) (seated_start C) (length table)

      go : ((k ≡ 0) × StartFits C table) ⊎ ((1 ≤ k) × OverfullAt C table k) → k ≡ 0
      go (inl (e, a)) = e
      go (inr (l, o)) = absurd (h k o)

  table_wrong : SeatTableMisfits C table → seat_table_answer C table ≡ refused 17 0
  unfolding seat_table_answer
  table_wrong h = go (table_or C table)
    where
      go : Decided (SeatTableFits C table) (SeatTableMisfits C table) (eqb (length table) (length C.roles) && small_seats table)
          → cond (eqb (length table) (length C.roles) && small_seats table) fine (refused 17 0) ≡ refused 17 0
      go (yes a e) = absurd (never_fits C table a h)
      go (no a e) = rw e

  pub seat_start_fine : StartFits C table → seat_start_answer C table ≡ fine
  unfolding seat_start_answer
  seat_start_fine h = go (start_or (overfilled_at (limited_of C table) (seated_start C) (length table)) refl)
    where
      k : ℕ
      k = overfilled_at (limited_of C table) (seated_start C) (length table)

      go : ((k ≡ 0) × StartFits C table) ⊎ ((1 ≤ k) × OverfullAt C table k) → cond (eqb k 0) fine (refused 26 k) ≡ fine
      go (inl (e, a)) = ap (λ (b : Bool). cond b fine (refused 26 k)) (eq-eqb k 0 e)
      go (inr (l, o)) = absurd (h k o)

  start_wrong : (k : ℕ) → OverfullAt C table k → seat_start_answer C table ≡ refused 26 k
  unfolding seat_start_answer
  start_wrong k o =
      let e : overfilled_at (limited_of C table) (seated_start C) (length table) ≡ k = (start_over C table k o.0.0).1 o in
      ap (λ (x : ℕ). cond (eqb x 0) fine (refused 26 x)) e ∙ ap (λ (b : Bool). cond b fine (refused 26 k)) (ne_eqb k 0 (λ z. omega (arith, z, o.0.0)))

  pub readied_by : (Yes No : Type 0) (b : Bool) → Decided Yes No b → Readied Yes No f table (seated_unready b f table)
  readied_by Yes No true (no h e) = absurd (false≢true (sym e))
  readied_by Yes No false (yes h e) = absurd (false≢true e)
  readied_by Yes No false (no h e) = unlisted h refl
  readied_by Yes No true (yes h e) = go (names_of f)
    where
      rest : Verdict
      rest = or_else (seat_table_answer C table) (seat_start_answer C table)

      begins : reading_names f ≡ fine → SeatTableFits C table → (k : ℕ) → ((k ≡ 0) × StartFits C table) ⊎ ((1 ≤ k) × OverfullAt C table k)
          → Readied Yes No f table (seat_start_answer C table)
      begins clean t k (inl (z, s)) = readied h clean t s (seat_start_fine s)
      begins clean t k (inr (l, o)) = overfull h clean t k o (start_wrong k o)

      tables : reading_names f ≡ fine → Decided (SeatTableFits C table) (SeatTableMisfits C table) (eqb (length table) (length C.roles) && small_seats table) → Readied Yes No f table rest
      tables clean (no w z) =
          misfits h clean w (ap (λ (v : Verdict). or_else v (seat_start_answer C table)) (table_wrong w))
      tables clean (yes t z) =
          subst (Readied Yes No f table) (sym (ap (λ (v : Verdict). or_else v (seat_start_answer C table)) (seat_table_fine t)))
          (begins clean t (overfilled_at (limited_of C table) (seated_start C) (length table)) (start_or (overfilled_at (limited_of C table) (seated_start C) (length table)) refl))

      go : Named (reading_names f) → Readied Yes No f table (or_else (reading_names f) rest)
      go (names_fine clean) =
          subst (Readied Yes No f table) (sym (quiet_first (reading_names f) rest (number_of clean))) (tables clean (table_or C table))
      go (names_wrong o) = misread h o (loud_first (reading_names f) rest (λ z. omega (arith, z, some_of_file (reading_names f).number o)))

  -- what halts a seated run is a refusal of a choice
  pub halted_number : (ws : List ℕ) → (seated_ran_of f table ws).refusal ≢ 0
      → (10 < (seated_ran_of f table ws).refusal) × ((seated_ran_of f table ws).refusal < 21) × ((seated_ran_of f table ws).refusal ≢ 17)
  halted_number ws z =
      let vs : List ℕ = seated_steps_of f table ws in
      let e : (ran_of f vs).refusal ≡ (seated_ran_of f table ws).refusal = (run_alike (limited_of C table) ws (seated_start C)).refusal in
      let (l, h) = run_stopped (clinic_of C) vs (start C) (λ q. z (sym e ∙ q)) in
      subst (λ (n : ℕ). (10 < n) × (n < 21) × (n ≢ 17)) e (past_ten (ran_of f vs).refusal (refused_number (clinic_of C) (ran_of f vs).state _ _ (ran_of f vs).refusal h))
