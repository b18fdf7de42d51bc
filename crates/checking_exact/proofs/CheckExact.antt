-- The check passes a file exactly when it obeys the format and the rules; 1 to 10 alone pass it exactly when its names and kinds are right.
use Prim.Native.Nat.{ℕ, ◌<◌}
use mathlib.Core.Path.{◌≡◌, sym, subst}
use mathlib.Core.Logic.Iff
use mathlib.Core.Logic.{◌↔◌}
use mathlib.Core.List.{List}
use Rattle.format.specs.Contents.{Contents, contents_of}
use Rattle.format.specs.Answers.{fine}
use Rattle.reading.specs.Reading.{reading}
use Rattle.rules.specs.Checking.{names_answer, roles_answer}
use Rattle.reading_exact.specs.Lists.{All}
use Rattle.reading_exact.specs.File.{File, WellFormed, contents_for, ReadsAs}
use Rattle.reading_exact.proofs.FileContents.{contents_held}
use Rattle.reading_exact.proofs.Exact.{sound, complete_read}
use Rattle.checking_exact.specs.Typing.{WellKinded, Obeys}
use Rattle.checking.specs.Check.{reading_names, checking}
use Rattle.checking_exact.proofs.FileRules.{names_iff, rules_iff}
use Rattle.checking_exact.proofs.CheckFirst.{names_fine, check_fine}

-- what holds of the contents of a well formed file where the file as data has Q
pub read_with : (P : Contents → Type 0) (Q : File → Type 0) → ((F : File) → WellFormed F → P (contents_for F) ↔ Q F) → (f : List ℕ) → All (λ b. b < 256) f
    → ((reading f ≡ fine) × P (contents_of f)) ↔ ((F : File) × WellFormed F × ReadsAs f F × Q F)
read_with P Q same f bytes = (to, back)
  where
    to : (reading f ≡ fine) × P (contents_of f) → (F : File) × WellFormed F × ReadsAs f F × Q F
    to (r, p) = let (F, W, e) = sound f bytes r in (F, W, e, (same F W).0 (subst P (contents_held F f e) p))

    back : (F : File) × WellFormed F × ReadsAs f F × Q F → (reading f ≡ fine) × P (contents_of f)
    back (F, W, e, q) = (complete_read f F W e, subst P (sym (contents_held F f e)) ((same F W).1 q))

-- 1 to 10
pub names_exact : (f : List ℕ) → All (λ b. b < 256) f → (reading_names f ≡ fine) ↔ ((F : File) × WellFormed F × ReadsAs f F × WellKinded F)
names_exact f bytes = Iff.trans (names_fine f) (read_with (λ C. names_answer C ≡ fine) WellKinded names_iff f bytes)

-- 1 to 13
pub check_exact : (f : List ℕ) → All (λ b. b < 256) f → (checking f ≡ fine) ↔ ((F : File) × WellFormed F × ReadsAs f F × Obeys F)
check_exact f bytes = Iff.trans stages (read_with (λ C. (names_answer C ≡ fine) × (roles_answer C ≡ fine)) Obeys rules_iff f bytes)
  where
    stages : (checking f ≡ fine) ↔ ((reading f ≡ fine) × ((names_answer (contents_of f) ≡ fine) × (roles_answer (contents_of f) ≡ fine)))
    stages = (
      λ h. let (n, r) = (check_fine f).0 h in let (e, m) = (names_fine f).0 n in (e, (m, r)),
      λ (e, (m, r)). (check_fine f).1 ((names_fine f).1 (e, m), r),
    )
