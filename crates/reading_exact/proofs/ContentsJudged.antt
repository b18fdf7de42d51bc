-- What reading judges of contents: their bytes are read without refusal where the contents fit, and only there.
use Prim.Native.Nat.{ℕ, ◌≤◌}
use mathlib.Core.Path.{◌≡◌, refl, sym, ap, ◌∙◌, subst}
use mathlib.Core.Logic.{◌↔◌}
use mathlib.Core.List.{List, map}
use lib.ListN.{length}
use Rattle.format.specs.Contents.{Contents, contents_of}
use Rattle.format.specs.Writing.{head_for, encoded}
use Rattle.format.specs.Answers.{fine}
use Rattle.format.specs.Header.{head_at, Laid}
use Rattle.tables.specs.Records.{records_answer}
use Rattle.trees.specs.Shape.{shape_from, shape_answer}
use Rattle.reading.specs.Reading.{reading, body_answer}
use Rattle.format.specs.declared.Head.{Head}
use Rattle.trees.specs.declared.Due.TheVariants.{Root}
use Rattle.format.proofs.HeadLaws.{IsVersion, Headed, more_few, juniors_few}
use Rattle.format.proofs.AnswerLaws.{both_quiet}
use Rattle.reading.proofs.ReadingLaws.{reading_iff}
use Rattle.reading_exact.proofs.Standing.{roots_in, roots_due}
use Rattle.reading_exact.proofs.SectionRows.{written_read, head_back}
use Rattle.reading_exact.proofs.Places.{Formed, length_encoded, encoded_back}
use Rattle.reading_exact.proofs.FirstLaws.{number_of}
use Rattle.reading_exact.proofs.RecordsJudged.{RecordsFit, records_iff}

-- counts in range, records that name only what exists, and a shape of nodes that is not refused
pub record ContentsFit (C : Contents) : Type 0 where
  pub few_users : length C.users ≤ 32
  pub few_roles : length C.roles ≤ 16
  pub few_kinds : length C.kinds ≤ 32
  pub few_channels : length C.channels ≤ 64
  pub few_sessions : length C.sessions ≤ 32
  pub few_nodes : length C.nodes ≤ 1024
  pub records : RecordsFit C
  pub shape : shape_from 1 C.nodes (map Root (roots_in C.sessions)) ≡ fine

module _ (v : ℕ) (C : Contents) (formed : Formed v C) where
  abbrev file : List ℕ
  file = encoded v C

  body_same : body_answer (head_at file) (contents_of file) ≡ body_answer (head_for v C) C
  body_same = ap (body_answer (head_at file)) (encoded_back v C formed) ∙ ap (λ (h : Head). body_answer h C) (head_back v C)

  shape_read : shape_answer C ≡ shape_from 1 C.nodes (map Root (roots_in C.sessions))
  unfolding shape_answer
  shape_read = ap (shape_from 1 C.nodes) (roots_due C.sessions)

  body_iff : (body_answer (head_for v C) C ≡ fine) ↔ (((records_answer (head_for v C) C).number ≡ 0) × (shape_answer C ≡ fine))
  body_iff = both_quiet (λ v. v ≡ fine) (records_answer (head_for v C) C) (shape_answer C) number_of

  pub judged : reading file ≡ fine → ContentsFit C
  judged e =
      let (d, body) = (reading_iff file).0 e in
      let l : Laid file (head_for v C) = subst (Laid file) (head_back v C) d.laid in
      let (zero, shape) = body_iff.0 (sym body_same ∙ body) in
      record {
        few_users = l.users;
        few_roles = l.roles;
        few_kinds = l.kinds;
        few_channels = l.channels;
        few_sessions = l.sessions;
        few_nodes = l.nodes;
        records = (records_iff (head_for v C) C).0 zero;
        shape = sym shape_read ∙ shape;
      }

  fit_laid : ContentsFit C → Laid file (head_for v C)
  fit_laid t = record {
    users = t.few_users;
    roles = t.few_roles;
    kinds = t.few_kinds;
    channels = t.few_channels;
    sessions = t.few_sessions;
    nodes = t.few_nodes;
    few_more = more_few v;
    few_juniors = juniors_few v (length C.roles);
    users_at = refl;
    roles_at = refl;
    juniors_at = refl;
    kinds_at = refl;
    channels_at = refl;
    sessions_at = refl;
    nodes_at = refl;
    sized = ap length (written_read v C) ∙ length_encoded v C formed;
  }

  fit_headed : IsVersion v → ContentsFit C → Headed file
  fit_headed known t = record { version = subst IsVersion (sym (ap (λ (h : Head). h.version) (head_back v C))) known; laid = subst (Laid file) (sym (head_back v C)) (fit_laid t) }

  pub not_refused : IsVersion v → ContentsFit C → reading file ≡ fine
  not_refused known t = (reading_iff file).1 (fit_headed known t, body_same ∙ body_iff.1 ((records_iff (head_for v C) C).1 t.records, shape_read ∙ t.shape))
