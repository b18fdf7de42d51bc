-- In what a well formed file holds, 9 and 10 find nothing exactly where its trees' names and kinds are right, and with 11 to 13 where they are well typed.
use Prim.Native.Nat.{ℕ}
use mathlib.Core.Path.{◌≡◌, refl, sym, ap, ◌∙◌}
use mathlib.Core.Logic.Iff
use mathlib.Core.Logic.{◌↔◌}
use mathlib.Core.List.{List, [], ◌∷◌, map}
use native.Mathlib.Omega.{arith}
use Rattle.format.specs.Answers.{fine}
use Rattle.format.specs.declared.Node.{Node}
use Rattle.rules.specs.Schema.{Schema}
use Rattle.rules.specs.Rules.{Context, names_fit, kinds_fit, wrong, barred}
use Rattle.rules.specs.Checking.{reached, openings_from, openings, reached_in, first_by, names_answer, roles_answer}
use Rattle.reading_exact.specs.Lists.{All}
use Rattle.reading_exact.specs.Tree.{past, words}
use Rattle.reading_exact.specs.File.{Routine, File, WellFormed, nodes_of, rooted, contents_for}
use Rattle.reading_exact.proofs.AllLaws.{all-iff, all_and}
use Rattle.checking_exact.specs.Tables.{schema_for}
use Rattle.checking_exact.specs.Typing.{WellKinded, Obeys}
use Rattle.checking_exact.proofs.OperandKinds.{Ranged}
use Rattle.checking_exact.proofs.ClearTrees.{opening, Clear, all_clear}
use Rattle.checking_exact.proofs.TreeRules.{kinded_iff, typed_iff}

-- the sessions' contexts at the start
pub openings_for : (F : File) → openings (contents_for F) ≡ map opening F.sessions
unfolding openings_from rooted
openings_for F = go 1 F.sessions
  where
    go : (at : ℕ) (ss : List Routine) → openings_from (rooted at ss) ≡ map opening ss
    go at [] = refl
    go at (s ∷ ss) = ap {B = List Context} (λ l. opening s ∷ l) (go (past at s.tree) ss)

pub ranged : (F : File) → WellFormed F → Ranged (schema_for F)
ranged F W = record { users = omega (arith, W.few_users); channels = omega (arith, W.few_channels) }

module _ (F : File) (R : Ranged (schema_for F)) where
  abbrev D : Schema
  D = schema_for F

  -- a rule holds all over a session's tree
  abbrev Passes : (Context → Node → ℕ) → Routine → Type 0
  Passes rule s = Clear D rule (opening s) s.tree

  rule_iff : (rule : Context → Node → ℕ) → ((c : Context) → rule c (words 0 0 0) ≡ 0) → ((c : Context) (j : ℕ) → rule c (words 1 j 0) ≡ 0)
      → (first_by rule 1 (reached_in (contents_for F)) ≡ fine) ↔ All (Passes rule) F.sessions
  rule_iff rule ends forks =
      let read = ap (λ (st : List Context). first_by rule 1 (reached D (nodes_of F) st)) (openings_for F) in
      let (to, from) = all_clear D rule ends forks 1 F.sessions in
      (λ h. to (sym read ∙ h), λ h. read ∙ from h)

  wrong_iff : (names_answer (contents_for F) ≡ fine) ↔ All (Passes (wrong D)) F.sessions
  unfolding names_answer wrong names_fit kinds_fit
  wrong_iff = rule_iff (wrong D) (λ c. refl) (λ c j. refl)

  barred_iff : (roles_answer (contents_for F) ≡ fine) ↔ All (Passes (barred D)) F.sessions
  unfolding roles_answer barred
  barred_iff = rule_iff (barred D) (λ c. refl) (λ c j. refl)

  -- that its starting masks are its users' plays no part
  pub names_ranged : (names_answer (contents_for F) ≡ fine) ↔ WellKinded F
  names_ranged = Iff.trans wrong_iff (all-iff F.sessions (λ s. kinded_iff D R s.user [] s.mask s.tree))

  pub rules_ranged : ((names_answer (contents_for F) ≡ fine) × (roles_answer (contents_for F) ≡ fine)) ↔ Obeys F
  rules_ranged =
      Iff.trans (Iff.and wrong_iff barred_iff)
      (Iff.trans (all_and _ _ F.sessions) (all-iff F.sessions (λ s. typed_iff D R s.user [] s.mask s.tree)))

pub names_iff : (F : File) → WellFormed F → (names_answer (contents_for F) ≡ fine) ↔ WellKinded F
names_iff F W = names_ranged F (ranged F W)

pub rules_iff : (F : File) → WellFormed F → ((names_answer (contents_for F) ≡ fine) × (roles_answer (contents_for F) ≡ fine)) ↔ Obeys F
rules_iff F W = rules_ranged F (ranged F W)
