-- The whole check, put together from the answers for the head, for what follows it, and for the rules.
use Prim.Native.Nat.{ℕ, ◌≤◌, ◌<◌}
use mathlib.Core.Path.{◌≡◌, refl, sym, ap, ap₂, subst, ◌∙◌}
use mathlib.Core.Bool.{Bool, true, false, cond}
use mathlib.Core.List.{List}
use native.Mathlib.Omega.{arith}
use lib.Dec.{eqb}
use lib.ListN.{length}
use lib.Seq.{sets}
use borrow.Author.Tests.{eq-eqb, ne_eqb}
use Rattle.format.specs.Contents.{contents_at, contents_of}
use Rattle.format.specs.Answers.{fine, refused, or_else}
use Rattle.format.specs.Header.{head_at, head_of, Laid}
use Rattle.format.specs.declared.Verdict.{Verdict}
use Rattle.format.specs.declared.Head.{Head}
use Rattle.std.specs.Prelude.{Result, Ok, Err}
use Rattle.format.proofs.AnswerLaws.{NoRefusal, quiet_first, loud_first, both_quiet}
use Rattle.format.proofs.ContentsLaws.{users_held}
use Rattle.format.proofs.HeadLaws.{Headed, head_number_lem}
use Rattle.tables.specs.Records.{records_answer}
use Rattle.tables.proofs.RecordLaws.{owners_are_users, seated_are_users}
use Rattle.trees.specs.Shape.{shape_answer}
use Rattle.reading.specs.Reading.{body_answer, reading, with_head, opened}
use Rattle.reading.proofs.LongLaws.{StandsFor, stands_judged}
use Rattle.reading.proofs.ReadingLaws.{refused_by_head, by_body, head_given, refusal_given, opened_fine, opened_refused}
use Rattle.rules.specs.Schema.{schema_of}
use Rattle.rules.specs.Checking.{reached_in, names_answer, roles_answer, judgement}
use Rattle.rules.specs.Candidates.{candidates_in}
use Rattle.naming.specs.Scopes.{scopes_in}
use Rattle.rules.specs.Rules.{wrong}
use Rattle.rules.specs.Kept.{Owned}
use Rattle.rules.proofs.PassLaws.{by_quiet}
use Rattle.rules.specs.declared.Judged.{Judged}
use Rattle.checking.specs.Check.{reading_names, checking, entered, scoped, examined, surveyed, Admitted, examined_from, surveyed_from}

-- three answers in order
in_order : (v n r : Verdict) → or_else v (or_else n r) ≡ or_else (or_else v n) r
in_order v n r = go (eqb v.number 0) refl
  where
    go : (b : Bool) → eqb v.number 0 ≡ b → cond b (or_else n r) v ≡ or_else (cond b n v) r
    go true e = refl
    go false e = rw e

module _ (f : List ℕ) where
  -- where 1 to 8 refuse, that is the whole answer
  names_first : (NoRefusal (reading f) → ⊥) → reading_names f ≡ reading f
  unfolding reading_names
  names_first l = loud_first (reading f) (names_answer (contents_of f)) l

  check_first : (NoRefusal (reading f) → ⊥) → checking f ≡ reading f
  unfolding checking
  check_first l = loud_first (reading f) (or_else (names_answer (contents_of f)) (roles_answer (contents_of f))) l

  loud : (n : ℕ) → head_of f ≡ Err n → NoRefusal (reading f) → ⊥
  loud n e q = let z = ap (λ (v : Verdict). v.number) (refused_by_head f n e) in omega (arith, q, z, head_number_lem f n e)

  pub names_refused : (n : ℕ) → head_of f ≡ Err n → reading_names f ≡ refused n 0
  names_refused n e = names_first (loud n e) ∙ refused_by_head f n e

  pub check_refused : (n : ℕ) → head_of f ≡ Err n → checking f ≡ refused n 0
  check_refused n e = check_first (loud n e) ∙ refused_by_head f n e

  -- where they refuse nothing, it is that of the rules
  names_then : NoRefusal (reading f) → reading_names f ≡ names_answer (contents_of f)
  unfolding reading_names
  names_then q = quiet_first (reading f) (names_answer (contents_of f)) q

  pub names_parts : NoRefusal (reading_names f) → NoRefusal (reading f) × NoRefusal (names_answer (contents_of f))
  unfolding reading_names
  names_parts q = (both_quiet NoRefusal (reading f) (names_answer (contents_of f)) (λ z. z)).0 q

  -- a file that 1 to 10 refuse with no number is not refused, and has a head
  pub names_fine : NoRefusal (reading_names f) → reading_names f ≡ fine
  unfolding names_answer
  names_fine q =
      let (before, last) = names_parts q in
      names_then before ∙ by_quiet (wrong (schema_of (contents_of f))) 1 (reached_in (contents_of f)) last

  pub names_headed : NoRefusal (reading_names f) → Headed f
  names_headed q = (by_body f (names_parts q).0).0

  -- what the way in says of a file
  pub entered_fine : (h : Head) → entered f ≡ Ok h → Laid f h × (h ≡ head_at f) × (reading_names f ≡ fine)
  unfolding entered
  entered_fine h e = let (q, same) = head_given (head_at f) (reading_names f) h e in (subst (Laid f) (sym same) (names_headed q).laid, same, names_fine q)

  pub entered_refused : (w : Verdict) → entered f ≡ Err w → (NoRefusal (reading_names f) → ⊥) × (w ≡ reading_names f)
  unfolding entered
  entered_refused w e = refusal_given (head_at f) (reading_names f) w e

  -- as the code finds it: by 1 to 8, and then by the rules
  module _ (w : Verdict) (e : opened f ≡ Err w) where
    early : (NoRefusal (reading_names f) → ⊥) × (reading_names f ≡ w)
    early = let (l, same) = opened_refused f w e in (λ q. l (subst NoRefusal (names_first l) q), names_first l ∙ sym same)

    pub entered_early : Err w ≡ entered f
    unfolding entered
    entered_early = rw (ne_eqb (reading_names f).number 0 early.0) (ap Err (sym early.1))

    pub examined_early : record { names = Err w; roles = fine } ≡ examined f
    examined_early = rw (ne_eqb (reading_names f).number 0 early.0, ← entered_early)

    pub scoped_early : (old : List ℕ) → old ≡ scoped f old
    unfolding scoped
    scoped_early old = rw (ne_eqb (reading f).number 0 (opened_refused f w e).0)

    pub surveyed_early : (old : List ℕ) → old ≡ surveyed f old
    unfolding surveyed
    surveyed_early old = rw (ne_eqb (reading f).number 0 (opened_refused f w e).0)

  module _ (h : Head) (e : opened f ≡ Ok h) where
    same : h ≡ head_at f
    same = (opened_fine f h e).1

    quiet : NoRefusal (reading f)
    quiet = (opened_fine f h e).2

    names_late : reading_names f ≡ names_answer (contents_at f h)
    names_late = names_then quiet ∙ ap (λ (k : Head). names_answer (contents_at f k)) (sym same)

    pub entered_late : with_head h (names_answer (contents_at f h)) ≡ entered f
    unfolding entered
    entered_late = ap₂ with_head same (sym names_late)

    pub examined_late : (j : Judged) → j ≡ judgement (contents_at f h) → record { names = with_head h j.names; roles = j.roles } ≡ examined f
    examined_late j q = rw (q, ← entered_late, ← same, names_late)

    pub scoped_late : (old : List ℕ) → sets old 1 (scopes_in (contents_at f h)) ≡ scoped f old
    unfolding scoped
    scoped_late old = rw (eq-eqb (reading f).number 0 quiet, ← same)

    pub surveyed_late : (old : List ℕ) → sets old 1 (candidates_in (contents_at f h)) ≡ surveyed f old
    unfolding surveyed
    surveyed_late old = rw (eq-eqb (reading f).number 0 quiet, ← same)

    -- owners and sessions' users are users, of whom there are few
    pub owned : Owned (contents_at f h)
    owned =
        let l : Laid f h = (opened_fine f h e).0 in
        let body : NoRefusal (body_answer h (contents_at f h)) = subst (λ (k : Head). NoRefusal (body_answer k (contents_at f k))) (sym same) (subst NoRefusal (by_body f quiet).1 quiet) in
        let records = ((both_quiet NoRefusal (records_answer h (contents_at f h)) (shape_answer (contents_at f h)) (λ z. z)).0 body).0 in
        let few : (u : ℕ) → u ≤ length (contents_at f h).users → u < 65534 = λ u le. omega (arith, le, users_held f h, l.users) in
        (λ n. few _ (owners_are_users h (contents_at f h) records n), λ n. few _ (seated_are_users h (contents_at f h) records n))

  -- a file that was opened, and examined from there
  pub admitted : (a : Result Head Verdict) → opened f ≡ a → Admitted f a
  admitted (Ok h) e = e
  admitted (Err w) e = tt

  pub examined_from_lem : (a : Result Head Verdict) → opened f ≡ a → examined_from f a ≡ examined f
  examined_from_lem (Ok h) e = examined_late h e (judgement (contents_at f h)) refl
  examined_from_lem (Err w) e = examined_early w e

  pub surveyed_from_lem : (a : Result Head Verdict) → opened f ≡ a → (old : List ℕ) → surveyed_from f a old ≡ surveyed f old
  surveyed_from_lem (Ok h) e old = surveyed_late h e old
  surveyed_from_lem (Err w) e old = surveyed_early w e old

  -- and the check, from the way in
  check_by_names : checking f ≡ or_else (reading_names f) (roles_answer (contents_of f))
  unfolding checking reading_names
  check_by_names = in_order (reading f) (names_answer (contents_of f)) (roles_answer (contents_of f))

  pub check_early : (w : Verdict) → entered f ≡ Err w → w ≡ checking f
  check_early w e = let (l, is) = entered_refused w e in is ∙ sym (check_by_names ∙ loud_first (reading_names f) (roles_answer (contents_of f)) l)

  pub check_late : (h : Head) → entered f ≡ Ok h → (examined f).roles ≡ checking f
  check_late h e =
      let q : NoRefusal (reading_names f) = ap (λ (v : Verdict). v.number) (entered_fine h e).2 in
      rw (eq-eqb (reading_names f).number 0 q) (sym (check_by_names ∙ quiet_first (reading_names f) (roles_answer (contents_of f)) q))

-- what a caller keeps of a long input has the check's answer on the whole
pub stands_check : (kept input : List ℕ) → StandsFor kept input → checking kept ≡ checking input
stands_check = stands_judged (λ n. refused n 0) checking check_refused
