-- The totals that a run keeps beside its threads are the numbers of threads that wait, at the start and after every choice.
use Prim.Native.Nat.{ℕ, suc, ◌+◌, ◌-◌, ◌≤◌, ◌<◌}
use mathlib.Core.Path.{◌≡◌, refl, sym, ap, ◌∙◌}
use mathlib.Core.Logic.{◌↔◌}
use mathlib.Core.Bool.{Bool, true, false, cond}
use mathlib.Core.List.{List, [], ◌∷◌}
use native.Mathlib.Omega.{arith}
use lib.Dec.{eqb}
use lib.ListN.{length, get_or, set, drop, replicate, length-set}
use lib.Seq.{get_or-set_same, get_or-take, get_or-drop}
use borrow.Author.Tests.{eqb-true, eq-eqb, ne_eqb}
use Rattle.format.specs.Contents.{Contents, contents_of, in_count}
use Rattle.format.specs.Answers.{fine, refused}
use Rattle.format.specs.Header.{head_at}
use Rattle.format.specs.declared.Verdict.{Verdict}
use Rattle.format.proofs.ContentsLaws.{in_count_iff}
use Rattle.checking.specs.Check.{reading_names}
use Rattle.naming.specs.Scopes.{awaits}
use Rattle.steps.specs.declared.Thread.{Thread}
use Rattle.steps.specs.declared.Outcome.{Outcome}
use Rattle.steps.specs.declared.Outcome.TheVariants.{Refused, Moves, Adds, Makes, Ends, Meets}
use Rattle.steps.specs.Choice.{Clinic, clinic_of, State, done, outcome, choice}
use Rattle.steps.specs.Beside.{beside_words, total_at, totals_in, total_in, cleared, start_words, start_beside, counted, beside_by}
use Rattle.steps.proofs.TotalLaws.{cleared_length, cleared_other, aside_counted, aside_none, length-replicate}
use Rattle.choices.specs.Choices.{start, Ran, follow, run, ran_of}
use Rattle.choices.specs.Stored.{Tried, untried, tried_by, on_from, tried}
use Rattle.running.specs.declared.Totals.{Totals}
use Rattle.running.specs.Run.{listed, stopped, beside_of_run, totals_of, totals_after}
use Rattle.reading_exact.specs.File.{InCount}
use Rattle.running_exact.proofs.TotalWords.{start_total}
use Rattle.running_exact.proofs.TotalSteps.{Tallied, TalliedAfter, choice_tallied}
use Rattle.running_exact.proofs.AwaitedNodes.{by_receives}
use Rattle.running_exact.proofs.FileNodes.{laid}
use Rattle.running_exact.proofs.RunSafe.{start_kept, run_kept}
use Rattle.lending_exact.specs.Waiting.{waiting_in}
use Rattle.lending_exact.proofs.WaitingCounts.{counts_same}
use Rattle.lending_exact.proofs.LentRuns.{kept_fit}

module _ (D : Contents) where
  abbrev C : Clinic
  C = clinic_of D

  abbrev kind : ℕ → ℕ
  kind = awaits D

  -- a list of choices keeps the totals
  list_tallied : (ws : List ℕ) (s : State) (t : Tried) → Tallied kind t.beside s → Tallied kind (tried kind C s t ws).beside (run C s ws).state
  unfolding tried run choice done
  list_tallied [] s t h = h
  list_tallied (i ∷ []) s t h = h
  list_tallied (i ∷ p ∷ ws) s t h =
      go (outcome C s i p) (choice_tallied C kind (by_receives D) t.beside s h i p) (λ o s' g. list_tallied ws s' (tried_by kind t.beside o) g)
    where
      go : (o : Outcome) → TalliedAfter kind (beside_by kind t.beside o) (done s i p o)
          → ((o : Outcome) (s' : State) → Tallied kind (beside_by kind t.beside o) s' → Tallied kind (tried kind C s' (tried_by kind t.beside o) ws).beside (run C s' ws).state)
          → Tallied kind (on_from (done s i p o) (tried_by kind t.beside o) (λ s'. tried kind C s' (tried_by kind t.beside o) ws)).beside (follow s (done s i p o) (λ s'. run C s' ws)).state
      go (Refused n) a rec = h
      go (Moves u) a rec = rec (Moves u) _ a
      go (Adds u) a rec = rec (Adds u) _ a
      go (Makes u) a rec = rec (Makes u) _ a
      go Ends a rec = rec Ends _ a
      go (Meets u) a rec = rec (Meets u) _ a

  -- the start has them
  start_tallied : (b : List ℕ) → length b ≡ 162 → length (start D).threads ≤ 64 → Tallied kind (start_beside kind b (start D).threads) (start D)
  start_tallied b long few =
      let ts : List Thread = (start D).threads in
      let d : List ℕ = set (set b 0 (length ts)) 1 0 in
      let size : length d ≡ 162 = length-set (set b 0 (length ts)) 1 0 ∙ length-set b 0 (length ts) ∙ long in
      let aside = aside_counted kind (start_words b (length ts)) (start_words b (length ts)) ts (aside_none (start_words b (length ts))) in
      record {
        long = aside.long ∙ cleared_length d ∙ size;
        few = few;
        made = aside.same 1 (omega arith) ∙ cleared_other d 1 (omega arith) ∙ get_or-set_same (set b 0 (length ts)) 1 0 0 (omega (arith, long, length-set b 0 (length ts)));
        totals = λ k inside. start_total kind ts b k long few inside;
      }

-- For a file that 1 to 10 let through, every list and every kind: the total kept is the number of threads that stand at a receive whose channel's value has that kind. (Each start of a list is a list.)
module _ (f : List ℕ) (clean : reading_names f ≡ fine) (ws : List ℕ) where
  pub kept_totals : (k : ℕ) → InCount 32 k → get_or (beside_of_run f ws) (total_at k) 0 ≡ waiting_in (clinic_of (contents_of f)) (ran_of f ws).state k
  kept_totals k inside =
      let D : Contents = contents_of f in
      let s : State = (ran_of f ws).state in
      let zeros : List ℕ = replicate 162 0 in
      let begun = start_tallied D zeros (length-replicate 162) (start_kept f clean).few_threads in
      (list_tallied D ws (start D) (untried (start_beside (awaits D) zeros (start D).threads)) begun).totals k inside
      ∙ sym (counts_same f clean s.made k inside.0 s.threads (kept_fit f s (run_kept f clean ws)))

  -- What is answered: the run's own answer, and these.
  pub totals_answered : listed (length ws) ≡ true
      → ((totals_after f ws).number ≡ (stopped (ran_of f ws)).number) × ((totals_after f ws).place ≡ (stopped (ran_of f ws)).place)
      × ((k : ℕ) → InCount 32 k → get_or (totals_after f ws).totals (k - 1) 0 ≡ waiting_in (clinic_of (contents_of f)) (ran_of f ws).state k)
  unfolding totals_after
  totals_answered fits =
      let is : totals_after f ws ≡ totals_of (stopped (ran_of f ws)) (totals_in (beside_of_run f ws)) = rw (fits, clean) in (
        ap (λ (x : Totals). x.number) is,
        ap (λ (x : Totals). x.place) is,
        λ k inside.
            let there : 130 + (k - 1) ≡ 129 + k = omega (arith, inside.0) in
            ap (λ (x : Totals). get_or x.totals (k - 1) 0) is ∙ get_or-take 32 (drop 130 (beside_of_run f ws)) (k - 1) 0 (omega (arith, inside.0, inside.1)) ∙ get_or-drop 130 (beside_of_run f ws) (k - 1) 0
            ∙ ap (λ (x : ℕ). get_or (beside_of_run f ws) x 0) there ∙ kept_totals k inside,
      )

-- All 0 where 17 or 1 to 10 refuse.
pub totals_unlisted : (f ws : List ℕ) → listed (length ws) ≡ false → totals_after f ws ≡ totals_of (refused 17 0) (replicate 32 0)
unfolding totals_after
totals_unlisted f ws e = rw e

pub totals_unread : (f ws : List ℕ) → listed (length ws) ≡ true → ((reading_names f).number ≡ 0 → ⊥) → totals_after f ws ≡ totals_of (reading_names f) (replicate 32 0)
unfolding totals_after
totals_unread f ws fits loud = rw (fits, ne_eqb (reading_names f).number 0 loud)

-- One total read from the words: 0 for another kind than 1 to 32, and for another number of words.
pub total_read_off : (b : List ℕ) (k : ℕ) → length b ≡ 162 → InCount 32 k → total_in b k ≡ get_or b (total_at k) 0
unfolding total_in
total_read_off b k long inside = rw ((in_count_iff 32 k).1 inside, eq-eqb (length b) 162 long)

pub no_total : (b : List ℕ) (k : ℕ) → (length b ≡ 162 → InCount 32 k → ⊥) → total_in b k ≡ 0
unfolding total_in
no_total b k never = go (in_count 32 k) refl (eqb (length b) 162) refl
  where
    go : (x : Bool) → in_count 32 k ≡ x → (y : Bool) → eqb (length b) 162 ≡ y → cond x (cond y (get_or b (129 + k) 0) 0) 0 ≡ 0
    go false e y g = refl
    go true e false g = refl
    go true e true g = absurd (never (eqb-true (length b) 162 g) ((in_count_iff 32 k).0 e))
