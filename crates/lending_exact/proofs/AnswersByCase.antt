-- Answers that code hands back as an enum, by the number and the values of each case: the way in (`Opened`) and a choice (`Answer`).
use Prim.Native.Nat.{ℕ}
use mathlib.Core.Path.{◌≡◌, refl, sym, ap}
use mathlib.Core.Bool.{Bool, true, false, cond}
use mathlib.Core.List.{List}
use lib.Dec.{eqb}
use borrow.Author.Tests.{eqb-true}
use Rattle.format.specs.Answers.{fine}
use Rattle.format.specs.Header.{head_at}
use Rattle.format.specs.declared.Head.{Head}
use Rattle.std.specs.Prelude.{Ok, Err}
use Rattle.reading.proofs.ReadingLaws.{head_given}
use Rattle.checking.specs.Check.{reading_names, entered}
use Rattle.checking_exact.proofs.CheckFirst.{names_zero}
use Rattle.steps.specs.declared.Outcome.{Outcome}
use Rattle.steps.specs.declared.Outcome.TheVariants as outcomes
use Rattle.steps.specs.Choice.{Clinic, State, done, outcome, choice}
use Rattle.steps.specs.Acted.{acted_of, outcome_of}
use Rattle.steps.proofs.ActLaws.{outcome_acted}
use Rattle.lending.specs.Lent.{chosen_answer}
use Rattle.lending.specs.Walk.{verdict_of, answer_of}

-- 1 to 10, and else the file's head
pub way_in : (f : List ℕ) → (verdict_of (entered f) ≡ reading_names f) × ((h : Head) → entered f ≡ Ok h → h ≡ head_at f)
    × (reading_names f ≡ fine → entered f ≡ Ok (head_at f))
unfolding entered
way_in f = (go (eqb (reading_names f).number 0) refl, (λ h e. (head_given (head_at f) (reading_names f) h e).1), λ e. rw e)
  where
    go : (b : Bool) → eqb (reading_names f).number 0 ≡ b → verdict_of (cond b (Ok (head_at f)) (Err (reading_names f))) ≡ reading_names f
    go true e = sym (names_zero f (eqb-true (reading_names f).number 0 e))
    go false e = refl

-- the refusal of a choice, and else the state after it
pub choice_answered : (C : Clinic) (s : State) (i p : ℕ)
    → (answer_of (acted_of (outcome C s i p)).answer ≡ chosen_answer (choice C s i p))
    × (done s i p (outcome_of (acted_of (outcome C s i p))) ≡ choice C s i p)
unfolding choice done
choice_answered C s i p = (at (outcome C s i p), ap (done s i p) (outcome_acted (outcome C s i p)))
  where
    at : (o : Outcome) → answer_of (acted_of o).answer ≡ chosen_answer (done s i p o)
    at (outcomes.Refused n) = refl
    at (outcomes.Moves t) = refl
    at (outcomes.Adds q) = refl
    at (outcomes.Makes q) = refl
    at outcomes.Ends = refl
    at (outcomes.Meets q) = refl
