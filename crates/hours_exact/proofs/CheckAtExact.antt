-- A file passes the check for a minute exactly where the table is sound and the bytes are those of a well formed file that obeys the rules as it stands at the minute.
use Prim.Native.Nat.{ℕ, ◌≤◌, ◌<◌}
use mathlib.Core.Path.{◌≡◌, refl, sym, ap, ap₂, ◌∙◌, subst}
use mathlib.Core.Logic.Iff
use mathlib.Core.Logic.{◌↔◌}
use mathlib.Core.List.{List}
use native.Mathlib.Omega.{arith}
use lib.ListN.{length}
use Rattle.format.specs.Contents.{Contents, contents_of}
use Rattle.format.specs.Answers.{fine, or_else}
use Rattle.format.specs.Header.{head_at}
use Rattle.format.specs.declared.Verdict.{Verdict}
use Rattle.format.proofs.AnswerLaws.{NoRefusal}
use Rattle.tables.specs.Records.{records_answer}
use Rattle.trees.specs.Shape.{shape_answer}
use Rattle.reading.specs.Reading.{reading}
use Rattle.reading.proofs.ReadingLaws.{reading_iff}
use Rattle.rules.specs.Checking.{reached_in, names_answer, roles_answer}
use Rattle.rules.specs.Schema.{schema_of}
use Rattle.rules.specs.Rules.{barred}
use Rattle.rules.proofs.PassLaws.{by_quiet}
use Rattle.checking.specs.Check.{checking}
use Rattle.hours.specs.Hours.{table_answer, TableFits, rows_answer, shut}
use Rattle.checking_at.specs.CheckAt.{shut_answer, roles_answer_at, reading_at, reading_names_at, checking_at}
use Rattle.placing_at.proofs.OpenLaws.{open_names}
use Rattle.reading_exact.specs.Lists.{All}
use Rattle.reading_exact.specs.File.{roles_of, File, WellFormed, contents_for, encode, ReadsAs}
use Rattle.reading_exact.proofs.FirstLaws.{number_of, both_zero, both_fine}
use Rattle.reading_exact.proofs.FirstRefusal.{reading_zero}
use Rattle.reading_exact.proofs.FileContents.{contents_back}
use Rattle.reading_exact.proofs.Exact.{complete}
use Rattle.checking_exact.specs.Typing.{Obeys}
use Rattle.checking_exact.proofs.FileRules.{rules_ranged}
use Rattle.checking_exact.proofs.CheckExact.{read_with}
use Rattle.checking_exact.proofs.CheckFirst.{names_fine, check_fine}
use Rattle.hours_exact.specs.OpenFile.{open_file, RowsFit}
use Rattle.hours_exact.proofs.OpenFiles.{ranged_open}
use Rattle.hours_exact.proofs.OpenRules.{shut_zero, roles_open}
use Rattle.hours_exact.proofs.HourOrder.{sooner_fine}
use Rattle.hours_exact.proofs.HourFirst.{table_fine, table_zero, rows_fine, rows_zero}
use Rattle.hours_exact.proofs.CheckAtFirst.{named_zero}

-- the trees of a well formed file are followed to their ends
pub formed_shape : (F : File) → WellFormed F → NoRefusal (shape_answer (contents_for F))
formed_shape F W =
    let body = number_of ((reading_iff (encode F)).0 (complete F W)).1 in
    let shaped = ((both_zero (records_answer (head_at (encode F)) (contents_of (encode F))) (shape_answer (contents_of (encode F)))).0 body).1 in
    subst (λ (C : Contents). NoRefusal (shape_answer C)) (contents_back F) shaped

module _ (f t : List ℕ) (m : ℕ) where
  -- the answers that the check is made of
  abbrev Rest : Contents → Type 0
  Rest C = (rows_answer (length C.roles) t ≡ fine) × ((names_answer C ≡ fine) × (roles_answer_at (shut t m) C ≡ fine))

  pub named_fine : (reading_names_at f t ≡ fine) ↔ ((reading f ≡ fine) × (rows_answer (length (contents_of f).roles) t ≡ fine) × (names_answer (contents_of f) ≡ fine))
  unfolding reading_names_at reading_at
  named_fine =
      let rowed : Verdict = rows_answer (length (contents_of f).roles) t in
      let (to, back) = both_fine (reading f) rowed (λ z. (reading_zero f z).0) in
      let (through, into) = both_fine (reading_at f t) (names_answer (contents_of f)) (λ z. let (a, b) = (both_zero (reading f) rowed).0 z in back ((reading_zero f a).0, rows_zero (length (contents_of f).roles) t b)) in (
        λ h. let (r, n) = through h in let (a, b) = to r in (a, b, n),
        λ (a, b, n). into (back (a, b), n),
      )

  stages : (checking_at f t m ≡ fine) ↔ (TableFits t m × ((reading f ≡ fine) × Rest (contents_of f)))
  unfolding checking_at
  stages =
      let C : Contents = contents_of f in
      let (to, back) = both_fine (table_answer t m) (or_else (reading_names_at f t) (roles_answer_at (shut t m) C)) (table_zero t m) in
      let (through, into) = both_fine (reading_names_at f t) (roles_answer_at (shut t m) C) (named_zero f t m) in (
        λ h. let (a, b) = to h in let (n, r) = through b in let (x, y, z) = named_fine.0 n in ((table_fine t m).0 a, (x, (y, (z, r)))),
        λ (a, (x, (y, (z, r)))). back ((table_fine t m).1 a, into (named_fine.1 (x, y, z), r)),
      )

  -- what passes for a minute passes
  pub passes_plain : checking_at f t m ≡ fine → checking f ≡ fine
  unfolding roles_answer_at roles_answer
  passes_plain h =
      let C : Contents = contents_of f in
      let (_, (x, (_, (z, r)))) = stages.0 h in
      let (roles, _) = (sooner_fine (roles_answer C) (shut_answer (shut t m) C) (by_quiet (barred (schema_of C)) 1 (reached_in C)) (shut_zero (shut t m) C)).0 r in
      (check_fine f).1 ((names_fine f).1 (x, z), roles)

  -- in what a well formed file holds
  rest_iff : (F : File) → WellFormed F → Rest (contents_for F) ↔ (RowsFit (length (roles_of F.grants)) t × Obeys (open_file t m F))
  rest_iff F W =
      let s : ℕ = shut t m in
      let C : Contents = contents_for F in
      let shaped = formed_shape F W in
      let rules = rules_ranged (open_file t m F) (ranged_open t m F W) in (
        λ (r, (n, a)). ((rows_fine (length (roles_of F.grants)) t).0 r, rules.0 (open_names s C ∙ n, (roles_open s C shaped (number_of n)).0 a)),
        λ (r, ob).
            let (n, a) = rules.1 ob in
            let named = sym (open_names s C) ∙ n in
            ((rows_fine (length (roles_of F.grants)) t).1 r, (named, (roles_open s C shaped (number_of named)).1 a)),
      )

  pub check_at_exact : All (λ b. b < 256) f
      → (checking_at f t m ≡ fine) ↔ (TableFits t m × ((F : File) × WellFormed F × ReadsAs f F × (RowsFit (length (roles_of F.grants)) t × Obeys (open_file t m F))))
  check_at_exact bytes =
      Iff.trans stages (Iff.and ((λ h. h), (λ h. h)) (read_with Rest (λ F. RowsFit (length (roles_of F.grants)) t × Obeys (open_file t m F)) rest_iff f bytes))
