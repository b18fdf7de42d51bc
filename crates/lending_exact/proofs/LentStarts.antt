-- The start in a lent list: it holds the state that a run begins with, and it may be lent.
use Prim.Native.Nat.{ℕ, ◌≤◌, ◌<◌}
use mathlib.Core.Path.{◌≡◌, refl, sym, ap, subst, ◌∙◌}
use mathlib.Core.Bool.{Bool, true, false, cond}
use mathlib.Core.List.{List, [], ◌∷◌}
use native.Mathlib.Omega.{arith}
use lib.Dec.{eqb}
use lib.ListN.{length, get_or}
use lib.Seq.{sets, length-sets}
use borrow.Author.Tests.{ne_eqb}
use Rattle.format.specs.Contents.{contents_of}
use Rattle.format.specs.Answers.{fine}
use Rattle.format.specs.Header.{head_at}
use Rattle.format.proofs.ContentsLaws.{sessions_held}
use Rattle.checking.specs.Check.{reading_names}
use Rattle.choices.specs.Choices.{start, run}
use Rattle.steps.proofs.TableLaws.{sets_other}
use Rattle.steps.specs.declared.Thread.{Thread}
use Rattle.steps.specs.Choice.{goes}
use Rattle.steps.specs.Beside.{made_words}
use Rattle.running_exact.proofs.FileNodes.{laid}
use Rattle.lending.specs.Lent.{state_of, lending, records_after, beside_after}
use Rattle.lending.specs.Starting.{starting, records_started, beside_started}
use Rattle.lending.proofs.StartingLaws.{start_long, starting_quiet}
use Rattle.lending_exact.specs.Lendable.{Lends}
use Rattle.lending_exact.proofs.LentRuns.{stored_lends, kept_fit, kept_lendable}
use Rattle.naming.specs.Scopes.{awaits}
use Rattle.steps.specs.Beside.{totals_for}
use Rattle.running_exact.proofs.RunSafe.{start_kept}

module _ (f : List ℕ) (l : List Thread) (b : List ℕ) (quiet : (starting f (length l) (length b)).number ≡ 0) where
  clean : reading_names f ≡ fine
  clean = (starting_quiet f l b quiet).0

  -- the start's threads and counts are stored
  records_stored : records_started f l b ≡ records_after l (goes (start (contents_of f)))
  unfolding records_started
  records_stored = ap (λ (n : ℕ). cond (eqb n 0) (records_after l (goes (start (contents_of f)))) l) quiet

  beside_stored : beside_started f l b ≡ beside_after (contents_of f) b (goes (start (contents_of f)))
  unfolding beside_started
  beside_stored = ap (λ (n : ℕ). cond (eqb n 0) (beside_after (contents_of f) b (goes (start (contents_of f)))) b) quiet

  few : length (start (contents_of f)).threads ≤ 32
  few = omega (arith, start_long f (head_at f), (laid f clean).sessions)

  -- Where nothing is refused, the list and the words beside it hold the state that a run begins with.
  pub start_lends : Lends (contents_of f) (records_started f l b) (beside_started f l b) (start (contents_of f))
  start_lends =
      let (read, records, words) = starting_quiet f l b quiet in
      subst (λ (x : List Thread). Lends (contents_of f) x (beside_started f l b) (start (contents_of f))) (sym records_stored)
      (subst (λ (y : List ℕ). Lends (contents_of f) (records_after l (goes (start (contents_of f)))) y (start (contents_of f))) (sym beside_stored)
      (stored_lends f clean l b records words (start (contents_of f)) (omega (arith, few)) (omega arith) (kept_fit f (start (contents_of f)) (start_kept f clean))))

  pub start_held : state_of (records_started f l b) (beside_started f l b) ≡ start (contents_of f)
  start_held = start_lends.state

  -- They may be lent.
  pub start_lendable : lending f (records_started f l b) (beside_started f l b) ≡ fine
  unfolding run
  start_lendable = kept_lendable f clean [] (records_started f l b) (beside_started f l b) start_lends

  -- Records past the sessions and words between the two counts and the totals keep what they held.
  pub start_records_past : (k : ℕ) (t : Thread) → length (contents_of f).sessions ≤ k → get_or (records_started f l b) k t ≡ get_or l k t
  start_records_past k t past =
      let all : length (start (contents_of f)).threads ≡ length (contents_of f).sessions = start_long f (head_at f) ∙ sym (sessions_held f (head_at f)) in
      ap (λ (x : List Thread). get_or x k t) records_stored
      ∙ sets_other (start (contents_of f)).threads l 0 k t (λ j lt e. omega (arith, lt, e, past, all))

  pub start_words_past : (k : ℕ) → 2 ≤ k → k < 130 → get_or (beside_started f l b) k 0 ≡ get_or b k 0
  unfolding made_words
  start_words_past k past low =
      ap (λ (x : List ℕ). get_or x k 0) beside_stored
      ∙ sets_other (totals_for (awaits (contents_of f)) (start (contents_of f)).threads) (sets b 0 (length (start (contents_of f)).threads ∷ 0 ∷ [])) 130 k 0 (λ j lt e. omega (arith, low, e))
      ∙ sets_other (length (start (contents_of f)).threads ∷ 0 ∷ []) b 0 k 0 (λ j lt e. omega (arith, lt, e, past))

-- Where it is refused, all stays.
module _ (f : List ℕ) (l : List Thread) (b : List ℕ) where
  pub refused_start : ((starting f (length l) (length b)).number ≡ 0 → ⊥) → (records_started f l b ≡ l) × (beside_started f l b ≡ b)
  unfolding records_started beside_started
  refused_start loud =
      let test : eqb (starting f (length l) (length b)).number 0 ≡ false = ne_eqb (starting f (length l) (length b)).number 0 loud in
      (rw test refl, rw test refl)

  -- So do the lengths, in any case.
  pub start_lengths : (length (records_started f l b) ≡ length l) × (length (beside_started f l b) ≡ length b)
  unfolding records_started beside_started
  start_lengths = go (eqb (starting f (length l) (length b)).number 0)
    where
      ts : List Thread
      ts = (start (contents_of f)).threads

      ws : List ℕ
      ws = length ts ∷ 0 ∷ made_words []

      go : (x : Bool) → (length (cond x (sets l 0 ts) l) ≡ length l) × (length (cond x (sets (sets b 0 ws) 130 (totals_for (awaits (contents_of f)) ts)) b) ≡ length b)
      go true = (length-sets l 0 ts, length-sets (sets b 0 ws) 130 (totals_for (awaits (contents_of f)) ts) ∙ length-sets b 0 ws)
      go false = (refl, refl)
