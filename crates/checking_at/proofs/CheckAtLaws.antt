-- The check for a minute, put together from the answers for the table, for the way in, for 9 to 13 and for 24.
use Prim.Native.Nat.{ℕ}
use mathlib.Core.Path.{◌≡◌, sym, ap, ap₂, subst, ◌∙◌}
use mathlib.Core.List.{List}
use lib.ListN.{length}
use lib.Seq.{sets}
use borrow.Author.Tests.{eq-eqb}
use Rattle.format.specs.Contents.{contents_at, contents_of}
use Rattle.format.specs.Answers.{or_else}
use Rattle.format.specs.Header.{head_at, Laid}
use Rattle.format.specs.declared.Verdict.{Verdict}
use Rattle.format.specs.declared.Head.{Head}
use Rattle.format.proofs.AnswerLaws.{NoRefusal, quiet_first, loud_first, both_quiet}
use Rattle.format.proofs.ContentsLaws.{roles_held}
use Rattle.reading.specs.Reading.{reading, with_head, opened}
use Rattle.std.specs.Prelude.{Result, Ok, Err}
use Rattle.reading.proofs.ReadingLaws.{by_body, head_given, refusal_given, opened_fine, opened_refused}
use Rattle.rules.specs.Checking.{names_answer, roles_answer, judgement}
use Rattle.rules.specs.Candidates.{candidates_in}
use Rattle.checking.specs.declared.Examined.{Examined}
use Rattle.checking.specs.Check.{Admitted, examined_from, surveyed_from}
use Rattle.hours.specs.Hours.{table_answer, rows_answer, shut}
use Rattle.checking_at.specs.CheckAt.{shut_answer, sooner, roles_answer_at, reading_at, opened_at, reading_names_at, entered_at, checking_at}

module _ (f t : List ℕ) where
  abbrev rowed : Verdict
  rowed = rows_answer (length (contents_of f).roles) t

  -- the way in by 1 to 8 and 23, as the code finds it
  pub opened_at_early : (w : Verdict) → opened f ≡ Err w → Err w ≡ opened_at f t
  unfolding opened opened_at reading_at
  opened_at_early w e = sym (ap (with_head (head_at f)) (loud_first (reading f) rowed (opened_refused f w e).0) ∙ e)

  pub opened_at_late : (h : Head) → opened f ≡ Ok h → with_head h (rows_answer h.count.roles t) ≡ opened_at f t
  unfolding opened_at reading_at
  opened_at_late h e =
      let (_, same, q) = opened_fine f h e in
      let count : h.count.roles ≡ length (contents_of f).roles = ap (λ (k : Head). k.count.roles) same ∙ sym (roles_held f (head_at f)) in
      ap₂ with_head same (ap (λ n. rows_answer n t) count ∙ sym (quiet_first (reading f) rowed q))

  -- a head that it gives is one that 1 to 8 gave
  pub opened_at_fine : (h : Head) → opened_at f t ≡ Ok h → (opened f ≡ Ok h) × NoRefusal (reading_at f t) × (h ≡ head_at f)
  unfolding opened opened_at reading_at
  opened_at_fine h e =
      let (q, same) = head_given (head_at f) (reading_at f t) h e in
      let read : NoRefusal (reading f) = ((both_quiet NoRefusal (reading f) rowed (λ z. z)).0 q).0 in
      (rw (eq-eqb (reading f).number 0 read) (ap Ok (sym same)), q, same)

  pub admitted_at : (a : Result Head Verdict) → opened_at f t ≡ a → Admitted f a
  admitted_at (Ok h) e = (opened_at_fine h e).0
  admitted_at (Err w) e = tt

  -- then by 9 and 10
  pub entered_at_lem : (a : Result Head Verdict) → opened_at f t ≡ a → (examined_from f a).names ≡ entered_at f t
  unfolding opened_at reading_names_at entered_at
  entered_at_lem (Ok h) e =
      let (_, q, same) = opened_at_fine h e in
      ap (λ (k : Head). with_head k (names_answer (contents_at f k))) same ∙ ap (with_head (head_at f)) (sym (quiet_first (reading_at f t) (names_answer (contents_of f)) q))
  entered_at_lem (Err w) e =
      sym (ap (with_head (head_at f)) (loud_first (reading_at f t) (names_answer (contents_of f)) (refusal_given (head_at f) (reading_at f t) w e).0) ∙ e)

  -- the way in, as it was found
  pub way_found : (a : Result Head Verdict) (x : Examined) → a ≡ opened_at f t → x ≡ examined_from f a → x.names ≡ entered_at f t
  way_found a x o e = ap (λ (y : Examined). y.names) e ∙ entered_at_lem a (sym o)

  pub entered_at_fine : (h : Head) → entered_at f t ≡ Ok h → NoRefusal (reading_names_at f t) × (h ≡ head_at f)
  unfolding entered_at
  entered_at_fine h e = head_given (head_at f) (reading_names_at f t) h e

  pub entered_at_refused : (w : Verdict) → entered_at f t ≡ Err w → (NoRefusal (reading_names_at f t) → ⊥) × (w ≡ reading_names_at f t)
  unfolding entered_at
  entered_at_refused w e = refusal_given (head_at f) (reading_names_at f t) w e

  pub head_laid : (h : Head) → entered_at f t ≡ Ok h → Laid f h
  unfolding reading_names_at reading_at
  head_laid h e =
      let (q, same) = entered_at_fine h e in
      let read = ((both_quiet NoRefusal (reading_at f t) (names_answer (contents_of f)) (λ z. z)).0 q).0 in
      subst (Laid f) (sym same) (by_body f ((both_quiet NoRefusal (reading f) rowed (λ z. z)).0 read).0).0.laid

  -- where none of them refuses
  module _ (q : NoRefusal (reading_names_at f t)) where
    parts : NoRefusal (reading_at f t) × NoRefusal (names_answer (contents_of f))
    unfolding reading_names_at
    parts = (both_quiet NoRefusal (reading_at f t) (names_answer (contents_of f)) (λ z. z)).0 q

    pub names_quiet : NoRefusal (reading f) × NoRefusal (names_answer (contents_of f))
    unfolding reading_at
    names_quiet = (((both_quiet NoRefusal (reading f) rowed (λ z. z)).0 parts.0).0, parts.1)

    pub roles_from : (a : Result Head Verdict) → opened_at f t ≡ a → (examined_from f a).roles ≡ roles_answer (contents_of f)
    unfolding opened_at
    roles_from (Ok h) e =
        ap (λ (k : Head). (judgement (contents_at f k)).roles) (opened_at_fine h e).2 ∙ rw (eq-eqb (names_answer (contents_of f)).number 0 parts.1)
    roles_from (Err w) e = absurd ((refusal_given (head_at f) (reading_at f t) w e).0 parts.0)

    pub surveyed_at : (a : Result Head Verdict) → opened_at f t ≡ a → (old : List ℕ) → surveyed_from f a old ≡ sets old 1 (candidates_in (contents_of f))
    unfolding opened_at
    surveyed_at (Ok h) e old = ap (λ (k : Head). sets old 1 (candidates_in (contents_at f k))) (opened_at_fine h e).2
    surveyed_at (Err w) e old = absurd ((refusal_given (head_at f) (reading_at f t) w e).0 parts.0)

  -- the whole check
  module _ (m : ℕ) where
    abbrev entered : Verdict
    entered = or_else (reading_names_at f t) (roles_answer_at (shut t m) (contents_of f))

    pub check_at_table : (NoRefusal (table_answer t m) → ⊥) → table_answer t m ≡ checking_at f t m
    unfolding checking_at
    check_at_table l = sym (loud_first (table_answer t m) entered l)

    module _ (table : NoRefusal (table_answer t m)) where
      pub check_at_early : (w : Verdict) → entered_at f t ≡ Err w → w ≡ checking_at f t m
      unfolding checking_at
      check_at_early w e =
          let (l, is) = entered_at_refused w e in
          is ∙ sym (quiet_first (table_answer t m) entered table ∙ loud_first (reading_names_at f t) (roles_answer_at (shut t m) (contents_of f)) l)

      pub check_at_late : (h : Head) (v : Verdict) → entered_at f t ≡ Ok h → v ≡ roles_answer (contents_of f) → sooner v (shut_answer (shut t m) (contents_at f h)) ≡ checking_at f t m
      unfolding checking_at roles_answer_at
      check_at_late h v e is =
          let (q, same) = entered_at_fine h e in
          ap₂ sooner is (ap (λ (k : Head). shut_answer (shut t m) (contents_at f k)) same)
          ∙ sym (quiet_first (table_answer t m) entered table ∙ quiet_first (reading_names_at f t) (roles_answer_at (shut t m) (contents_of f)) q)
