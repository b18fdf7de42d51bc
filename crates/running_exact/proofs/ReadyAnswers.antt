-- What the ready pair of a list answers, for every file.
use Prim.Native.Nat.{ℕ, ◌+◌, ◌≤◌}
use mathlib.Core.Path.{◌≡◌, refl, sym, ap, ap₂, ◌∙◌}
use mathlib.Core.Logic.{◌≢◌, ◌↔◌}
use mathlib.Core.Bool.{Bool, true, false, cond}
use mathlib.Core.List.{List}
use native.Mathlib.Omega.{arith}
use lib.Dec.{eqb}
use lib.ListN.{length}
use borrow.Author.Tests.{eqb-true, ne_eqb}
use Rattle.format.specs.Answers.{fine, refused, or_else}
use Rattle.format.specs.Contents.{contents_of}
use Rattle.format.specs.declared.Verdict.{Verdict}
use Rattle.checking.specs.Check.{reading_names}
use Rattle.steps.specs.Choice.{clinic_of}
use Rattle.choices.specs.Choices.{Ran, ran_of}
use Rattle.running.specs.declared.Ready.{Ready}
use Rattle.running.specs.Run.{listed, stopped, unready, ready_pair, ready_of, ready}
use Rattle.reading_exact.specs.Order.{OfFile}
use Rattle.reading_exact.proofs.Turns.{some_of_file}
use Rattle.running_exact.specs.Runs.{Unlisted, Listed, no_pair}
use Rattle.running_exact.proofs.AnswerCases.{listed_or, never_listed, Answer, answer_of_lem, by_unfit, by_seventeen, to_names, from_names, by_whole, by_halt}

module _ (f ws : List ℕ) where
  abbrev ran : Ran
  ran = ran_of f ws

  abbrev pair : ℕ × ℕ
  pair = ready_pair (clinic_of (contents_of f)) ran.state

  abbrev verdict : Verdict
  verdict = or_else (unready (listed (length ws)) f) (stopped ran)

  ready_is : ready f ws ≡ ready_of verdict pair
  unfolding ready
  ready_is = refl

  ready_verdict : Answer (Listed ws) (Unlisted ws) f ws verdict
  ready_verdict = answer_of_lem f ws (Listed ws) (Unlisted ws) (listed (length ws)) (listed_or ws)

  -- a refusal, with 0, 0 beside it, and its number in any case
  loud_pair : (n p : ℕ) → 1 ≤ n → verdict ≡ refused n p → ready f ws ≡ no_pair n p
  loud_pair n p l e = ready_is ∙ ap (λ (v : Verdict). ready_of v pair) e ∙ rw (ne_eqb n 0 (λ z. omega (arith, l, z)))

  pair_number : (ready f ws).number ≡ verdict.number
  pair_number = ap (λ (r : Ready). r.number) ready_is ∙ go (eqb verdict.number 0) refl
    where
      go : (b : Bool) → eqb verdict.number 0 ≡ b
          → (cond b (record { number = 0; place = 0; sender = pair.0; receiver = pair.1 }) (no_pair verdict.number verdict.place)).number ≡ verdict.number
      go true e = sym (eqb-true verdict.number 0 e)
      go false e = refl

  loud_verdict : (n p : ℕ) → 1 ≤ n → ready f ws ≡ no_pair n p → verdict ≡ refused n p
  loud_verdict n p l e =
      let number : verdict.number ≡ n = sym pair_number ∙ ap (λ (r : Ready). r.number) e in
      let same : ready f ws ≡ no_pair verdict.number verdict.place = loud_pair verdict.number verdict.place (omega (arith, number, l)) refl in
      ap₂ refused number (ap (λ (r : Ready). r.place) (sym same ∙ e))

  -- 17 exactly for the list's own faults
  pub ready_unlisted : Unlisted ws → ready f ws ≡ no_pair 17 0
  ready_unlisted u = loud_pair 17 0 (omega arith) (by_unfit f ws (never_listed ws) ready_verdict u)

  pub ready_seventeen : ((ready f ws).number ≡ 17) ↔ Unlisted ws
  ready_seventeen = (λ e. by_seventeen f ws (never_listed ws) ready_verdict (sym pair_number ∙ e), λ u. ap (λ (r : Ready). r.number) (ready_unlisted u))

  -- then 1 to 10
  pub ready_names : (n p : ℕ) → OfFile n → (ready f ws ≡ no_pair n p) ↔ (Listed ws × (reading_names f ≡ refused n p))
  ready_names n p o =
      let l = some_of_file n o in
      (λ e. to_names f ws (never_listed ws) n p o ready_verdict (loud_verdict n p l e), λ (y, z). loud_pair n p l (from_names f ws (never_listed ws) n p l ready_verdict y z))

  -- then the run's halt
  pub ready_halted : Listed ws → reading_names f ≡ fine → ran.refusal ≢ 0 → ready f ws ≡ no_pair ran.refusal (ran.count + 1)
  ready_halted y clean q = loud_pair ran.refusal (ran.count + 1) (omega (arith, q)) (by_halt f ws (never_listed ws) ready_verdict y clean q)

  -- else the pair of the state after the list
  pub ready_found : Listed ws → reading_names f ≡ fine → ran.refusal ≡ 0 → ready f ws ≡ record { number = 0; place = 0; sender = pair.0; receiver = pair.1 }
  ready_found y clean q = ready_is ∙ ap (λ (v : Verdict). ready_of v pair) (by_whole f ws (never_listed ws) ready_verdict y clean q)
