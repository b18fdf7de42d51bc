-- Lists that may be lent, states of a run or not: the variable that a binder takes, and what a choice that is done leaves.
use Prim.Native.Nat.{ℕ}
use mathlib.Core.Path.{◌≡◌}
use mathlib.Core.List.{List}
use lib.ListN.{length}
use Rattle.format.specs.Contents.{Contents, contents_of}
use Rattle.format.specs.Answers.{fine}
use Rattle.rules.specs.Rules.{Context}
use Rattle.steps.specs.declared.Thread.{Thread}
use Rattle.steps.specs.Threads.{first_free}
use Rattle.steps.specs.Choice.{clinic_of, State, goes, thread_at}
use Rattle.reading_exact.specs.Lists.{All}
use Rattle.reading_exact.specs.File.{InCount}
use Rattle.running_exact.specs.Steps.{Steps}
use Rattle.running_exact.specs.Keeps.{Reaches}
use Rattle.running_exact.proofs.Agree.{choice_steps}
use Rattle.running_exact.proofs.RunSafe.{free_next}
use Rattle.lending.specs.Lent.{state_of, choosing, records_over, beside_over}
use Rattle.lending_exact.specs.Lendable.{Lendable, Eight, Lends}
use Rattle.lending_exact.proofs.LentAnswers.{chooses, left_has, lending_fine}
use Rattle.lending_exact.proofs.LendableLaws.{choosing_fine}
use Rattle.lending_exact.proofs.LentRuns.{stored_lends, loose, held_fit, lendable, chosen_held}

-- The variable that a binder takes, the first 0 of the eight, is the next on the path.
pub lent_free : (C : Contents) (l : List Thread) (b : List ℕ) → Lendable C l b → (i : ℕ) → InCount (length (state_of l b).threads) i → (c : Context)
    → Reaches C (thread_at (state_of l b) i) c → first_free (thread_at (state_of l b) i).vars ≡ length c.vars
lent_free C l b L = free_next C (state_of l b) L.threads

-- A choice that is done is a step of the state that is lent, and the list then holds that step's result.
pub lent_steps : (f : List ℕ) (l : List Thread) → All Eight l → (b : List ℕ) (i p : ℕ) → choosing f l b i p ≡ fine
    → (s' : State) × Steps (clinic_of (contents_of f)) (state_of l b) i p s' × Lends (contents_of f) (records_over f l b i p) (beside_over f l b i p) s'
lent_steps f l eights b i p e =
    let (fit, (s, h)) = (choosing_fine f l b i p).0 e in
    let L = lendable f l eights b fit i p in
    let I = chosen_held f l eights b fit i p s h in (
      s,
      choice_steps (clinic_of (contents_of f)) (state_of l b) i p s h,
      left_has f l b (λ x y. Lends (contents_of f) x y s) (chooses f l b i p fit (goes s) h) (stored_lends f ((lending_fine f l b).0 fit).0 l b L.records L.words s I.few_threads I.few_made (held_fit f (loose f) s I)),
    )
