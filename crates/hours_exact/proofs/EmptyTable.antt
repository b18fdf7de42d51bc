-- With an empty table both answer as without hours.
use Prim.Native.Nat.{ℕ, ◌≤◌, ◌<◌}
use mathlib.Core.Path.{◌≡◌, refl, sym, ap, ap₂, ◌∙◌}
use mathlib.Core.Bool.{Bool, true, false, cond, ◌&&◌, and-false}
use mathlib.Core.List.{List, [], ◌∷◌}
use native.Mathlib.Omega.{arith}
use lib.Dec.{eqb, ltb}
use lib.ListN.{length}
use lib.Seq.{sets}
use borrow.Author.Tests.{eqb-true, eq-eqb}
use Rattle.masks.specs.Mask.{has}
use Rattle.masks.proofs.Laws.{has_none}
use Rattle.masks.proofs.Minus.{none_minus}
use Rattle.format.specs.Contents.{Contents, contents_of}
use Rattle.format.specs.Answers.{fine, or_else}
use Rattle.format.specs.Header.{version_at, room_for}
use Rattle.format.specs.declared.Verdict.{Verdict}
use Rattle.format.specs.declared.Node.{Node}
use Rattle.format.proofs.AnswerLaws.{quiet_first}
use Rattle.reading.specs.Reading.{reading}
use Rattle.rules.specs.Schema.{schema_of}
use Rattle.rules.specs.Rules.{barred}
use Rattle.rules.specs.Checking.{reached_in, names_answer, roles_answer}
use Rattle.rules.proofs.PassLaws.{by_quiet}
use Rattle.checking.specs.Check.{reading_names, checking}
use Rattle.hours.specs.Hours.{table_answer, rows_answer, roles_of, shut}
use Rattle.checking_at.specs.CheckAt.{opens_shut, shut_answer, sooner, roles_answer_at, reading_at, reading_names_at, checking_at}
use Rattle.placing.specs.declared.Placed.{Placed}
use Rattle.placing.specs.Placing.{turns_for, placeable, judging, no_place, answer_by, measuring, placing, bytes_by, placed_bytes, placed_over}
use Rattle.placing_at.specs.PlaceAt.{open_contents, turns_at, judging_at, measuring_at, placing_at, placed_bytes_at, placed_over_at}
use Rattle.placing_at.proofs.OpenLaws.{open_none}
use Rattle.reading_exact.specs.Lists.{All}
use Rattle.reading_exact.proofs.FirstLaws.{number_of}
use Rattle.reading_exact.proofs.FirstRefusal.{reading_zero}
use Rattle.hours_exact.proofs.HourFirst.{table_fine, rows_fine}
use Rattle.hours_exact.proofs.OpenRules.{shut_all}

-- an answer, where one of number 0 is fine
or_fine : (v : Verdict) → (v.number ≡ 0 → v ≡ fine) → or_else v fine ≡ v
or_fine v sure = go (eqb v.number 0) refl
  where
    go : (b : Bool) → eqb v.number 0 ≡ b → cond b fine v ≡ v
    go true e = sym (sure (eqb-true v.number 0 e))
    go false e = refl

sooner_none : (v : Verdict) → (v.number ≡ 0 → v ≡ fine) → sooner v fine ≡ v
sooner_none v sure = go (eqb v.number 0) refl
  where
    go : (b : Bool) → eqb v.number 0 ≡ b → cond b fine v ≡ v
    go true e = sym (sure (eqb-true v.number 0 e))
    go false e = refl

-- no role is shut
pub none_shut : (m : ℕ) → shut [] m ≡ 0
unfolding shut roles_of
none_shut m = none_minus 0

shut_nothing : (C : Contents) → shut_answer 0 C ≡ fine
shut_nothing C = (shut_all 0 C).1 (all C.nodes)
  where
    all : (ns : List Node) → All (λ (n : Node). opens_shut 0 n ≡ false) ns
    all [] = tt
    all (n ∷ ns) = (ap (λ (b : Bool). eqb n.tag 7 && b) (has_none n.f1) ∙ and-false (eqb n.tag 7), all ns)

no_row : (n : ℕ) → rows_answer n [] ≡ fine
no_row n = (rows_fine n []).1 (λ i l. absurd (omega (arith, l)))

no_table : (m : ℕ) → m ≤ 10079 → table_answer [] m ≡ fine
no_table m l = (table_fine [] m).1 (refl, omega arith, l)

module _ (f : List ℕ) (m : ℕ) (week : m ≤ 10079) where
  abbrev C : Contents
  C = contents_of f

  names_alike : reading_names_at f [] ≡ reading_names f
  unfolding reading_names_at reading_at reading_names
  names_alike = ap (λ (v : Verdict). or_else v (names_answer C)) (ap (or_else (reading f)) (no_row (length C.roles)) ∙ or_fine (reading f) (λ z. (reading_zero f z).0))

  roles_alike : roles_answer_at (shut [] m) C ≡ roles_answer C
  unfolding roles_answer_at roles_answer
  roles_alike =
      ap (λ (s : ℕ). sooner (roles_answer C) (shut_answer s C)) (none_shut m) ∙ ap (sooner (roles_answer C)) (shut_nothing C)
      ∙ sooner_none (roles_answer C) (by_quiet (barred (schema_of C)) 1 (reached_in C))

  in_order : or_else (reading_names f) (roles_answer C) ≡ checking f
  unfolding reading_names checking
  in_order = go (eqb (reading f).number 0) refl
    where
      go : (b : Bool) → eqb (reading f).number 0 ≡ b → or_else (cond b (names_answer C) (reading f)) (roles_answer C) ≡ cond b (or_else (names_answer C) (roles_answer C)) (reading f)
      go true e = refl
      go false e = rw e

  pub check_empty : checking_at f [] m ≡ checking f
  unfolding checking_at
  check_empty =
      quiet_first (table_answer [] m) (or_else (reading_names_at f []) (roles_answer_at (shut [] m) C)) (number_of (no_table m week))
      ∙ ap₂ (λ (v w : Verdict). or_else v w) names_alike roles_alike ∙ in_order

  -- what it holds is all open
  open_alike : open_contents (shut [] m) C ≡ C
  open_alike = ap (λ (s : ℕ). open_contents s C) (none_shut m) ∙ open_none C

  judged_alike : judging_at f [] m ≡ judging f
  unfolding judging_at judging
  judged_alike =
      quiet_first (table_answer [] m) (or_else (reading_names_at f []) (placeable (open_contents (shut [] m) C))) (number_of (no_table m week))
      ∙ ap₂ (λ (v : Verdict) (X : Contents). or_else v (placeable X)) names_alike open_alike

  pub place_empty : (room : ℕ) → placing_at f [] m room ≡ placing f room
  unfolding placing_at measuring_at placing measuring
  place_empty room =
      ap₂ (λ (X : Contents) (v : Verdict). cond (ltb room (room_for f)) (no_place 17 0) (answer_by (version_at f) C (turns_for X) v)) open_alike judged_alike

  pub over_empty : (out : List ℕ) → placed_over_at f [] m out ≡ placed_over f out
  unfolding placed_over_at placed_over placed_bytes_at placed_bytes
  over_empty out =
      ap₂ (λ (a : Placed) (X : Contents). cond (eqb a.number 0) (sets out 0 (bytes_by (version_at f) C (turns_for X))) out) (place_empty (length out)) open_alike
