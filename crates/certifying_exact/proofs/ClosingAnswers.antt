-- What the check of a certificate answers, for every file, table of seats and certificate: each answer with its cause, and no other.
use Prim.Native.Nat.{ℕ, zero, suc, ◌≤◌, ◌<◌}
use mathlib.Core.Path.{◌≡◌, refl, sym, ap, ◌∙◌, subst}
use mathlib.Core.Logic.{◌⊎◌, inl, inr, ◌↔◌, ◌≢◌}
use mathlib.Core.Bool.{Bool, true, false, cond, ◌&&◌}
use mathlib.Core.List.{List, []}
use native.Mathlib.Omega.{arith}
use lib.Dec.{eqb, ltb}
use lib.ListN.{length}
use borrow.Author.Tests.{eqb-true, ne_eqb, ltb-true, ltb-false}
use Rattle.format.specs.Answers.{fine, refused, or_else}
use Rattle.format.specs.Contents.{Contents, contents_of}
use Rattle.format.specs.declared.Verdict.{Verdict}
use Rattle.checking.specs.Check.{reading_names}
use Rattle.reading_exact.proofs.FirstLaws.{number_of}
use Rattle.reading_exact.proofs.Turns.{not_of_file, some_of_file}
use Rattle.running.specs.Run.{stopped, unready}
use Rattle.running_exact.proofs.AnswerCases.{Decided, yes, no}
use Rattle.seats.specs.Seats.{SeatedState, seated_run, seated_start, plainly, seated_ran_of}
use Rattle.seating.specs.SeatedRunning.{seated_unready}
use Rattle.seating_exact.proofs.SeatedCases.{Readied, unlisted, misread, misfits, overfull, readied, readied_by}
use Rattle.seating_exact.proofs.SeatedAnswers.{SeatedEnd, before, whole, stops, ends_by, end_no_room, end_names, end_start, end_whole}
use Rattle.seated.specs.SeatedEntry.{seats_bar}
use Rattle.certifying.specs.declared.Closing.{Closing}
use Rattle.certifying.specs.Certificate.{Certificate, certificate_of, row_at_fault, closed_fine, closed_by, fault_at, some_rows, closing_by, closing}
use Rattle.certifying_exact.specs.Numbered.{CertificateHolds, FaultAt}
use Rattle.certifying_exact.specs.ClosingCauses.{RowsFit, RowsUnfit, Triable, closing_of, ClosingCause}
use Rattle.certifying_exact.specs.ClosingCauses as causes
use Rattle.certifying_exact.proofs.Numbering.{Judged, sound, unsound, fault_judged, holds_not_fault, one_fault}

rows_or : (n : ℕ) → Decided (RowsFit n) (RowsUnfit n) (some_rows n)
rows_or n = go (ltb 0 n) refl (ltb n 4294967295) refl
  where
    go : (a : Bool) → ltb 0 n ≡ a → (b : Bool) → ltb n 4294967295 ≡ b → Decided (RowsFit n) (RowsUnfit n) (a && b)
    go false e b f = no (inl (omega (arith, ltb-false 0 n e))) refl
    go true e false f = no (inr (ltb-false n 4294967295 f)) refl
    go true e true f = yes (ltb-true 0 n e, ltb-true n 4294967295 f) refl

rows_apart : (n : ℕ) → RowsFit n → RowsUnfit n → ⊥
rows_apart n (a, b) (inl z) = omega (arith, a, z)
rows_apart n (a, b) (inr z) = omega (arith, b, z)

module _ (f seats states places next : List ℕ) where
  abbrev K : Certificate
  K = certificate_of (contents_of f) seats states places next

  abbrev S : SeatedState
  S = seated_start (contents_of f)

  abbrev Cause : Closing → Type 0
  Cause x = ClosingCause f seats states places next x

  -- what a run with seats through no choice is answered, with these rows in place of a list
  abbrev v : Verdict
  v = or_else (seated_unready (some_rows (length places)) f seats) (stopped (plainly (seated_ran_of f seats [])))

  run_end : SeatedEnd (RowsFit (length places)) (RowsUnfit (length places)) f seats [] v
  run_end =
      ends_by f seats [] (RowsFit (length places)) (RowsUnfit (length places)) (seated_unready (some_rows (length places)) f seats)
      (readied_by f seats (RowsFit (length places)) (RowsUnfit (length places)) (some_rows (length places)) (rows_or (length places)))

  abbrev answer : Verdict → Closing
  answer u = cond (eqb u.number 0) (fault_at (row_at_fault K S)) (closed_by u)

  closing_is : closing f seats states places next ≡ answer v
  unfolding closing seated_run
  closing_is = go (unready (some_rows (length places)) f) (seats_bar (contents_of f) seats) (eqb (unready (some_rows (length places)) f).number 0) refl
    where
      inner : (w : Verdict) (b : Bool) → eqb w.number 0 ≡ b → cond b (fault_at (row_at_fault K S)) (closed_by w) ≡ answer (cond b fine w)
      inner w true e = refl
      inner w false e = sym (ap (λ (x : Bool). cond x (fault_at (row_at_fault K S)) (closed_by w)) e)

      go : (u w : Verdict) (b : Bool) → eqb u.number 0 ≡ b → cond b (answer w) (closed_by u) ≡ answer (or_else (cond b w u) fine)
      go u w true e = inner w (eqb w.number 0) refl
      go u w false e =
          sym (ap (λ (x : Bool). answer (cond x fine u)) e ∙ ap (λ (x : Bool). cond x (fault_at (row_at_fault K S)) (closed_by u)) e)

  -- an answer that refuses, and one that doesn't
  loud : (u : Verdict) → u.number ≢ 0 → answer u ≡ closed_by u
  loud u z = ap (λ (x : Bool). cond x (fault_at (row_at_fault K S)) (closed_by u)) (ne_eqb u.number 0 z)

  fault_number : (k : ℕ) → 1 ≤ k → fault_at k ≡ closing_of 18 0 k
  fault_number k one = ap (λ (x : Bool). cond x closed_fine (closing_of 18 0 k)) (ne_eqb k 0 (λ z. omega (arith, one, z)))

  tried : Triable f seats (length places) → (x : Closing) → x ≡ fault_at (row_at_fault K S) → Cause x
  tried T x e = go (fault_judged K S)
    where
      go : Judged K S (row_at_fault K S) → Cause x
      go (sound H z) = causes.holds T H (e ∙ ap fault_at z)
      go (unsound F one) = causes.faulty T (row_at_fault K S) F (e ∙ fault_number (row_at_fault K S) one)

  caused : (u : Verdict) → SeatedEnd (RowsFit (length places)) (RowsUnfit (length places)) f seats [] u → Cause (answer u)
  unfolding seated_run
  caused u (before (unlisted w e) z) = causes.unfit w (ap answer e)
  caused u (before (misread y o e) z) = causes.misread y (reading_names f).number (reading_names f).place o refl (loud u z ∙ ap closed_by e)
  caused u (before (misfits y c m e) z) = causes.misfits y c m (ap answer e)
  caused u (before (overfull y c t k o e) z) = causes.overfull y c t k o (ap answer e)
  caused u (before (readied y c t s e) z) = absurd (z (number_of e))
  caused u (whole y c t s h e) = tried (record { rows = y; file = c; table = t; start = s }) (answer u) (ap answer e)
  caused u (stops y c t s (l, h, d) e) = let never : ⊥ = omega (arith, l) in absurd never

  -- with nothing before it, the answer is the row at fault
  clear : Triable f seats (length places) → closing f seats states places next ≡ fault_at (row_at_fault K S)
  unfolding seated_run
  clear T =
      closing_is ∙ ap answer (end_whole f seats [] (rows_apart (length places)) run_end T.rows T.file T.table T.start refl)

  from_cause : (x : Closing) → Cause x → closing f seats states places next ≡ x
  from_cause x (causes.unfit w e) = closing_is ∙ ap answer (end_no_room f seats [] (rows_apart (length places)) run_end (inl w)) ∙ sym e
  from_cause x (causes.misread y n p o c e) =
      closing_is ∙ ap answer ((end_names f seats [] (rows_apart (length places)) n p o run_end).1 (y, c))
      ∙ loud (refused n p) (λ z. omega (arith, z, some_of_file n o)) ∙ sym e
  from_cause x (causes.misfits y c m e) = closing_is ∙ ap answer (end_no_room f seats [] (rows_apart (length places)) run_end (inr (c, m))) ∙ sym e
  from_cause x (causes.overfull y c t k o e) = closing_is ∙ ap answer ((end_start f seats [] (rows_apart (length places)) k run_end).1 (y, c, t, o)) ∙ sym e
  from_cause x (causes.faulty T k F e) = go (fault_judged K S)
    where
      go : Judged K S (row_at_fault K S) → closing f seats states places next ≡ x
      go (sound H z) = absurd (holds_not_fault K S k H F)
      go (unsound G one) =
          let same : row_at_fault K S ≡ k = one_fault K S (row_at_fault K S) k G F in
          clear T ∙ fault_number (row_at_fault K S) one ∙ ap (closing_of 18 0) same ∙ sym e
  from_cause x (causes.holds T H e) = go (fault_judged K S)
    where
      go : Judged K S (row_at_fault K S) → closing f seats states places next ≡ x
      go (sound G z) = clear T ∙ ap fault_at z ∙ sym e
      go (unsound F one) = absurd (holds_not_fault K S (row_at_fault K S) H F)

  -- An answer is given exactly where it has its cause.
  pub answers_by_cause : (x : Closing) → (closing f seats states places next ≡ x) ↔ ClosingCause f seats states places next x
  answers_by_cause x = (λ e. subst Cause e (subst Cause (sym closing_is) (caused v run_end)), from_cause x)

  -- 0 exactly where nothing refuses before the rows, the first row is the start and every row holds.
  pub holds_exactly : (closing f seats states places next ≡ closed_fine) ↔ (Triable f seats (length places) × CertificateHolds K S)
  holds_exactly = (λ e. to ((answers_by_cause closed_fine).0 e), λ (T, H). from_cause closed_fine (causes.holds T H refl))
    where
      to : Cause closed_fine → Triable f seats (length places) × CertificateHolds K S
      to (causes.holds T H e) = (T, H)
      to (causes.unfit w e) = let never : ⊥ = omega (arith, ap (λ (c : Closing). c.number) e) in absurd never
      to (causes.misread y n p o c e) = let never : ⊥ = omega (arith, ap (λ (c : Closing). c.number) e, some_of_file n o) in absurd never
      to (causes.misfits y c m e) = let never : ⊥ = omega (arith, ap (λ (c : Closing). c.number) e) in absurd never
      to (causes.overfull y c t k o e) = let never : ⊥ = omega (arith, ap (λ (c : Closing). c.number) e) in absurd never
      to (causes.faulty T k F e) = let never : ⊥ = omega (arith, ap (λ (c : Closing). c.number) e) in absurd never

  -- 18 with row k exactly where nothing refuses before the rows, and k, counted from 1 on, is the lowest row at fault.
  pub lowest_fault : (k : ℕ) → (closing f seats states places next ≡ closing_of 18 0 k) ↔ (Triable f seats (length places) × FaultAt K S k)
  lowest_fault k = (λ e. to ((answers_by_cause (closing_of 18 0 k)).0 e), λ (T, F). from_cause (closing_of 18 0 k) (causes.faulty T k F refl))
    where
      to : Cause (closing_of 18 0 k) → Triable f seats (length places) × FaultAt K S k
      to (causes.faulty T j F e) = (T, subst (FaultAt K S) (sym (ap (λ (c : Closing). c.row) e)) F)
      to (causes.unfit w e) = let never : ⊥ = omega (arith, ap (λ (c : Closing). c.number) e) in absurd never
      to (causes.misread y n p o c e) = absurd (not_of_file n 18 o (omega arith) (omega arith) (sym (ap (λ (c : Closing). c.number) e)))
      to (causes.misfits y c m e) = let never : ⊥ = omega (arith, ap (λ (c : Closing). c.number) e) in absurd never
      to (causes.overfull y c t j o e) = let never : ⊥ = omega (arith, ap (λ (c : Closing). c.number) e) in absurd never
      to (causes.holds T H e) = let never : ⊥ = omega (arith, ap (λ (c : Closing). c.number) e) in absurd never
