-- What the walk over a lent list stores is what a choice leaves.
use Prim.Native.Nat.{ℕ, ◌+◌, ◌-◌, ◌≤◌, ◌<◌}
use mathlib.Core.Path.{◌≡◌, refl, sym, ap, ap₂, subst, ◌∙◌, fun_ext}
use mathlib.Core.Bool.{Bool, true, false, cond, and-eq-true_iff}
use mathlib.Core.List.{List, [], ◌∷◌, ◌++◌}
use native.Mathlib.Omega.{arith}
use lib.ListN.{length, get_or, set, take, drop, length-append, length-set}
use lib.Seq.{sets, length-take-le, get_or-take, get_or-drop}
use Rattle.format.specs.Contents.{Contents, in_count}
use Rattle.format.specs.Answers.{refused}
use Rattle.format.proofs.ContentsLaws.{in_count_lem}
use Rattle.steps.specs.declared.Thread.{Thread}
use Rattle.steps.specs.declared.Acted.{Acted}
use Rattle.steps.specs.declared.Outcome.{Outcome}
use Rattle.steps.specs.declared.Outcome.TheVariants.{Refused, Moves, Adds, Makes, Ends, Meets}
use Rattle.steps.specs.Threads.{no_thread}
use Rattle.steps.specs.Choice.{Clinic, clinic_of, State, goes, acting, thread_at, changed, added, with_made, removed, done, outcome, choice}
use Rattle.steps.specs.Acted.{partner_of, acted_of, outcome_of}
use Rattle.naming.specs.Scopes.{awaits}
use Rattle.steps.specs.Beside.{thread_count, made_count, made_of, counts_by, totals_by, beside_by, beside_of, waiting, totals_in, totals_for}
use Rattle.steps.proofs.ActLaws.{outcome_acted, length_made}
use Rattle.steps.proofs.TotalLaws.{aside_totals}
use Rattle.running_exact.proofs.TotalSteps.{Tallied, TalliedAfter, choice_tallied}
use Rattle.running_exact.proofs.AwaitedNodes.{by_receives}
use Rattle.lending.proofs.TotalsLaws.{totals_get, totals_words, same_true}
use Rattle.choices.specs.Stored.{HasRoom}
use Rattle.choices.proofs.ChoiceLaws.{acted_placed}
use Rattle.lending.specs.Lent.{thread_fits, every, same, state_of, chosen_answer, records_after, beside_after}
use Rattle.lending.specs.Walk.{Fitting, threads_fit, judged_answer, judged_records, judged_beside, outcome_on, stored_in, index_of, Storable, answer_of}
use Rattle.lending.proofs.StepLaws.{outcome_is}
use Rattle.lending.proofs.StoredLaws.{one_set, two_set, set_and_last, without_long, one_removed, counts_after, words_are, threads-told, made_told}

module _ (C : Clinic) (l : List Thread) (b : List ℕ) (fit : Fitting (length l) b) (i p : ℕ) where
  abbrev n : ℕ
  n = thread_count b

  abbrev s : State
  s = state_of l b

  abbrev own : Thread
  own = get_or l (index_of n i) no_thread

  abbrev other : Thread
  other = get_or l (index_of n p) no_thread

  abbrev o : Outcome
  o = outcome_on C b i own p other

  within_list : n ≤ length l
  within_list = omega (arith, fit.list, fit.threads)

  counted : length (take n l) ≡ n
  counted = length-take-le n l within_list

  -- the records that are looked at are the state's threads
  read_at : (j : ℕ) → in_count n j ≡ true → get_or l (index_of n j) no_thread ≡ thread_at s j
  read_at j e =
      let (pos, le) = in_count_lem n j e in
      ap (λ (x : Bool). get_or l (cond x (j - 1) 0) no_thread) e ∙ sym (get_or-take n l (j - 1) no_thread (omega (arith, pos, le)))

  -- so the step by value is the state's
  pub outcome_so : outcome C s i p ≡ o
  outcome_so = outcome_is C b (take n l) i p own other counted (read_at i) (read_at p)

  pub choice_is : choice C s i p ≡ done s i p o
  unfolding choice
  choice_is = ap (done s i p) outcome_so

  -- where there is no thread i, it is refused; and else there is room for what it adds
  no_step : in_count n i ≡ false → o ≡ Refused 18
  unfolding outcome_on
  no_step e = rw e

  room : in_count n i ≡ true → HasRoom n (made_count b) p (acted_of o).answer
  unfolding outcome_on
  room e =
      let is : o ≡ acting C n s.made own (partner_of n p other) = rw e in
      acted_placed C b p own other (acted_of o) (ap acted_of is)

  by_step : (P : Outcome → Type 0) → P (Refused 18) → (1 ≤ i → i ≤ n → (x : Outcome) → HasRoom n (made_count b) p (acted_of x).answer → P x) → P o
  by_step P none some = go (in_count n i) refl
    where
      go : (x : Bool) → in_count n i ≡ x → P o
      go true e = let (pos, le) = in_count_lem n i e in some pos le o (room e)
      go false e = subst P (sym (no_step e)) none

  pub storable : Storable (length l) n i p (acted_of o).answer
  storable = by_step (λ (x : Outcome). Storable (length l) n i p (acted_of x).answer) tt at
    where
      at : 1 ≤ i → i ≤ n → (x : Outcome) → HasRoom n (made_count b) p (acted_of x).answer → Storable (length l) n i p (acted_of x).answer
      at pos le (Refused k) h = tt
      at pos le (Moves t) h = (pos, omega (arith, le, within_list))
      at pos le (Adds q) h = (pos, omega (arith, le, within_list), omega (arith, h, fit.list))
      at pos le (Makes q) h = (pos, omega (arith, le, within_list))
      at pos le Ends h = (pos, le, within_list)
      at pos le (Meets q) h = (pos, omega (arith, le, within_list), h.0, omega (arith, h.1, within_list))

  pub records_are : stored_in l n i p o ≡ records_after l (done s i p o)
  unfolding done
  records_are = by_step (λ (x : Outcome). stored_in l n i p x ≡ records_after l (done s i p x)) refl at
    where
      at : 1 ≤ i → i ≤ n → (x : Outcome) → HasRoom n (made_count b) p (acted_of x).answer → stored_in l n i p x ≡ records_after l (done s i p x)
      at pos le (Refused k) h = refl
      at pos le (Moves t) h = sym (one_set l n within_list (i - 1) t (omega (arith, pos, le)))
      at pos le (Adds q) h = sym (set_and_last l n within_list (i - 1) q.first q.second (omega (arith, pos, le)))
      at pos le (Makes q) h = sym (one_set l n within_list (i - 1) q.thread (omega (arith, pos, le)))
      at pos le Ends h = sym (one_removed l n within_list i pos le)
      at pos le (Meets q) h = sym (two_set l n within_list (i - 1) (p - 1) q.first q.second (omega (arith, pos, le)) (omega (arith, h.0, h.1)))

  counts_are : counts_by b o ≡ counts_after b (done s i p o)
  unfolding done
  counts_are = by_step (λ (x : Outcome). counts_by b x ≡ counts_after b (done s i p x)) refl at
    where
      changed_long : (t : Thread) → n ≡ length (set (take n l) (i - 1) t)
      changed_long t = sym (length-set (take n l) (i - 1) t ∙ counted)

      as_it_was : (v : State) → n ≡ length v.threads → v.made ≡ made_of b → b ≡ counts_after b (goes v)
      as_it_was v e same = words_are b b v fit.beside fit.beside fit.made e (sym same) refl

      at : 1 ≤ i → i ≤ n → (x : Outcome) → HasRoom n (made_count b) p (acted_of x).answer → counts_by b x ≡ counts_after b (done s i p x)
      at pos le (Refused k) h = refl
      at pos le (Moves t) h = as_it_was (changed s i t) (changed_long t) refl
      at pos le (Adds q) h =
          let more : n + 1 ≡ length (set (take n l) (i - 1) q.first ++ (q.second ∷ [])) =
          omega (arith, length-append (set (take n l) (i - 1) q.first) (q.second ∷ []), changed_long q.first) in
          threads-told b fit.beside fit.threads fit.made (n + 1) (added s i q.first q.second) more refl
      at pos le (Makes q) h = made_told b fit.beside fit.threads fit.made q.made (with_made s i q.thread q.made) h (changed_long q.thread) refl
      at pos le Ends h = threads-told b fit.beside fit.threads fit.made (n - 1) (removed s i) (sym (without_long l n within_list i pos le)) refl
      at pos le (Meets q) h = as_it_was (changed (changed s i q.first) p q.second) (changed_long q.first ∙ sym (length-set (set (take n l) (i - 1) q.first) (p - 1) q.second)) refl

  -- and the totals of the threads that it leaves
  totals_of : (kind : ℕ → ℕ) (d : List ℕ) (x : Outcome) (v : State) → Tallied kind (totals_by kind d x) v → d ≡ sets b 0 (beside_of (length v.threads) v.made)
      → totals_by kind d x ≡ sets (sets b 0 (beside_of (length v.threads) v.made)) 130 (totals_for kind v.threads)
  totals_of kind d x v h e =
      let aside = aside_totals kind d x in
      totals_words kind v.threads d (totals_by kind d x) (sym aside.long ∙ h.long) aside h.totals ∙ ap (λ (y : List ℕ). sets y 130 (totals_for kind v.threads)) e

  pub beside_are : (D : Contents) → TalliedAfter (awaits D) (beside_by (awaits D) b o) (done s i p o) → beside_by (awaits D) b o ≡ beside_after D b (done s i p o)
  unfolding done
  beside_are D h = at o counts_are h
    where
      at : (x : Outcome) → counts_by b x ≡ counts_after b (done s i p x) → TalliedAfter (awaits D) (beside_by (awaits D) b x) (done s i p x) → beside_by (awaits D) b x ≡ beside_after D b (done s i p x)
      at (Refused k) e h = refl
      at (Moves t) e h = totals_of (awaits D) (counts_by b (Moves t)) (Moves t) _ h e
      at (Adds q) e h = totals_of (awaits D) (counts_by b (Adds q)) (Adds q) _ h e
      at (Makes q) e h = totals_of (awaits D) (counts_by b (Makes q)) (Makes q) _ h e
      at Ends e h = totals_of (awaits D) (counts_by b Ends) Ends _ h e
      at (Meets q) e h = totals_of (awaits D) (counts_by b (Meets q)) (Meets q) _ h e

  pub answer_is : answer_of (acted_of o).answer ≡ chosen_answer (done s i p o)
  unfolding done
  answer_is = at o
    where
      at : (x : Outcome) → answer_of (acted_of x).answer ≡ chosen_answer (done s i p x)
      at (Refused k) = refl
      at (Moves t) = refl
      at (Adds q) = refl
      at (Makes q) = refl
      at Ends = refl
      at (Meets q) = refl

-- a list whose counted records are as their nodes ask: what the step comes to is stored and answered as the choice
module _ (C : Contents) (l : List Thread) (b : List ℕ) (fit : Fitting (length l) b) (i p : ℕ) where
  -- the totals that are lent are the threads'
  lent_tallied : threads_fit C l b ≡ true → Tallied (awaits C) b (state_of l b)
  lent_tallied fits =
      let ts : List Thread = take (thread_count b) l in
      let long : length ts ≡ thread_count b = length-take-le (thread_count b) l (omega (arith, fit.list, fit.threads)) in
      let alike : totals_in b ≡ totals_for (awaits C) ts = same_true (totals_in b) (totals_for (awaits C) ts) ((and-eq-true_iff (every (thread_fits C (made_of b)) ts) (same (totals_in b) (totals_for (awaits C) ts))).0 fits).1 in
      record {
        long = fit.beside;
        few = omega (arith, long, fit.threads);
        made = sym (length_made b 2 (made_count b));
        totals = λ k inside.
            let there : 129 + k ≡ 130 + (k - 1) = omega (arith, inside.0) in
            let back : 1 + (k - 1) ≡ k = omega (arith, inside.0) in
            ap (λ (x : ℕ). get_or b x 0) there ∙ sym (get_or-take 32 (drop 130 b) (k - 1) 0 (omega (arith, inside.0, inside.1)) ∙ get_or-drop 130 b (k - 1) 0)
            ∙ ap (λ (x : List ℕ). get_or x (k - 1) 0) alike ∙ totals_get (awaits C) ts (k - 1) (omega (arith, inside.0, inside.1)) ∙ ap (λ (x : ℕ). waiting (awaits C) x ts) back;
      }

  pub judged : (kind : ℕ → ℕ) → ((j : ℕ) → kind j ≡ awaits C j) → threads_fit C l b ≡ true → (t u : Thread) → t ≡ get_or l (index_of (thread_count b) i) no_thread → u ≡ get_or l (index_of (thread_count b) p) no_thread
      → (it : Acted) → it ≡ acted_of (outcome_on (clinic_of C) b i t p u)
      → Storable (length l) (thread_count b) i p it.answer
      × (answer_of it.answer ≡ judged_answer C l b i p)
      × (stored_in l (thread_count b) i p (outcome_of it) ≡ judged_records C l b i p)
      × (beside_by kind b (outcome_on (clinic_of C) b i t p u) ≡ judged_beside C l b i p)
  judged kind kinds fits t u et eu it e =
      let x : Outcome = o (clinic_of C) l b fit i p in
      let same : outcome_on (clinic_of C) b i t p u ≡ x = ap₂ (λ (y z : Thread). outcome_on (clinic_of C) b i y p z) et eu in
      let is : it ≡ acted_of x = e ∙ ap acted_of same in
      let after : TalliedAfter (awaits C) (beside_by (awaits C) b x) (done (state_of l b) i p x) =
      subst (λ (y : Outcome). TalliedAfter (awaits C) (beside_by (awaits C) b y) (done (state_of l b) i p y)) (outcome_so (clinic_of C) l b fit i p) (choice_tallied (clinic_of C) (awaits C) (by_receives C) b (state_of l b) (lent_tallied fits) i p) in
      let chosen : done (state_of l b) i p x ≡ choice (clinic_of C) (state_of l b) i p = sym (choice_is (clinic_of C) l b fit i p) in (
        subst (λ (y : Acted). Storable (length l) (thread_count b) i p y.answer) (sym is) (storable (clinic_of C) l b fit i p),
        rw fits (ap (λ (y : Acted). answer_of y.answer) is ∙ answer_is (clinic_of C) l b fit i p ∙ ap chosen_answer chosen),
        rw fits (ap (λ (y : Acted). stored_in l (thread_count b) i p (outcome_of y)) is ∙ ap (stored_in l (thread_count b) i p) (outcome_acted x) ∙ records_are (clinic_of C) l b fit i p ∙ ap (records_after l) chosen),
        rw fits (ap₂ (λ (κ : ℕ → ℕ) (y : Outcome). beside_by κ b y) (fun_ext kinds) same ∙ beside_are (clinic_of C) l b fit i p C after ∙ ap (beside_after C b) chosen),
      )

  -- the partner that is the thread itself has its record
  pub same_record : (t u : Thread) → t ≡ get_or l (index_of (thread_count b) i) no_thread → u ≡ get_or l (index_of (thread_count b) p) no_thread → p ≡ i → u ≡ t
  same_record t u et eu e = eu ∙ ap (λ (k : ℕ). get_or l (index_of (thread_count b) k) no_thread) e ∙ sym et

  -- one that has a record that is not: nothing is done
  pub misjudged : threads_fit C l b ≡ false → (refused 18 0 ≡ judged_answer C l b i p) × (l ≡ judged_records C l b i p) × (b ≡ judged_beside C l b i p)
  misjudged unfit = (rw unfit refl, rw unfit refl, rw unfit refl)

-- where the records that are looked at stand
pub place-within : (l : List Thread) (b : List ℕ) → Fitting (length l) b → (j : ℕ) → index_of (thread_count b) j < length l
place-within l b fit j = go (in_count (thread_count b) j) refl
  where
    go : (x : Bool) → in_count (thread_count b) j ≡ x → cond x (j - 1) 0 < length l
    go true e = let (pos, le) = in_count_lem (thread_count b) j e in omega (arith, pos, le, fit.list, fit.threads)
    go false e = omega (arith, fit.list)
