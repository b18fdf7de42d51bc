-- A choice keeps what holds in every state of a run, or is refused by what may come.
use Prim.Native.Nat.{ℕ, ◌-◌, ◌≤◌}
use mathlib.Core.Path.{◌≡◌, refl}
use mathlib.Core.Bool.{Bool, true, false, cond}
use mathlib.Core.List.{List, [], ◌∷◌, ◌++◌}
use native.Mathlib.Omega.{arith}
use lib.Dec.{eqb, leb}
use lib.ListN.{length, set, take, drop, length-append, length-set, length-take, length-drop}
use borrow.Author.Tests.{eqb-true, eqb-false, leb-true}
use Rattle.format.specs.Contents.{in_count}
use Rattle.format.proofs.ContentsLaws.{in_count_iff}
use Rattle.rules.specs.Rules.{Context}
use Rattle.steps.specs.declared.Thread.{Thread}
use Rattle.steps.specs.declared.Made.{Made}
use Rattle.steps.specs.declared.Partner.{Partner}
use Rattle.steps.specs.declared.Partner.TheVariants.{Alone, With, Missing}
use Rattle.steps.specs.declared.Outcome.{Outcome}
use Rattle.steps.specs.declared.Outcome.TheVariants.{Refused, Moves, Adds, Makes, Ends, Meets}
use Rattle.steps.specs.Threads.{no_thread}
use Rattle.steps.specs.Choice.{Clinic, lone, alone_only, acting, State, Chosen, halts, goes, thread_at, partner_at, changed, done, outcome, choice}
use Rattle.reading_exact.specs.Lists.{All}
use Rattle.reading_exact.specs.File.{InCount}
use Rattle.reading_exact.proofs.AllLaws.{all_map, all_get}
use Rattle.running_exact.specs.Keeps.{Formed}
use Rattle.running_exact.proofs.ThreadLists.{all_set, all_snoc, all_removed}
use Rattle.running_exact.proofs.ThreadSteps.{Lawful, Steady, Good, fits_more}
use Rattle.running_exact.proofs.OutcomeClaims.{MayCome, Claimed, refused-told, either}
use Rattle.running_exact.proofs.LoneSteps.{lone-told}
use Rattle.running_exact.proofs.MeetingSteps.{GoodPartner, sending-told}

-- what holds in every state of a run, over any nodes
pub record Invariant (C : Clinic) (At : ℕ → Context → Type 0) (K : ℕ → ℕ → Type 0) (s : State) : Type 0 where
  pub threads : All (Good C.schema At K s.made) s.threads
  pub made : All (Formed C.schema) s.made
  pub few_threads : length s.threads ≤ 64
  pub few_made : length s.made ≤ 64

-- a choice keeps it, or is refused by one of R
abbrev pub Keeps : (C : Clinic) → (ℕ → Context → Type 0) → (ℕ → ℕ → Type 0) → (ℕ → Type 0) → Chosen → Type 0
Keeps C At K R (halts n) = R n
Keeps C At K R (goes s) = Invariant C At K s

module _ (C : Clinic) (At : ℕ → Context → Type 0) (L : Lawful C At) (K : ℕ → ℕ → Type 0) (S : Steady K) (R : ℕ → Type 0) (M : MayCome C At K R) where
  abbrev Fit : List Made → Thread → Type 0
  Fit = Good C.schema At K

  alone-told : (k : ℕ) (made : List Made) (p : Partner) (o : Outcome) → Claimed C At K R k made o → Claimed C At K R k made (alone_only p o)
  unfolding alone_only
  alone-told k made Alone o h = h
  alone-told k made Missing o h = refused-told C At K R k made 18 M.no_thread_lem
  alone-told k made (With r) o h = refused-told C At K R k made 18 M.no_thread_lem

  acting-told : (k : ℕ) (made : List Made) (t : Thread) → Fit made t → (p : Partner) → GoodPartner C.schema At K made p → Claimed C At K R k made (acting C k made t p)
  unfolding acting
  acting-told k made t (c, a, F, e) p h =
      either C At K R k made (in_count C.nodes t.node) _ _
      (λ _. either C At K R k made (eqb (C.node t.node).tag 6) _ _
      (λ z. sending-told C At L K S R M k made t (c, a, F, e) (eqb-true (C.node t.node).tag 6 z) p h)
      (λ _. either C At K R k made (eqb (C.node t.node).tag 5) _ _ (λ _. refused-told C At K R k made 18 M.no_thread_lem)
      (λ _. alone-told k made p (lone C k (length made) t (C.node t.node)) (lone-told C At L K S R M k made t c a F e))))
      (λ _. refused-told C At K R k made 18 M.no_thread_lem)

  -- one thread changed
  changed_kept : (s : State) → Invariant C At K s → (i : ℕ) (t : Thread) → Fit s.made t → Invariant C At K (changed s i t)
  changed_kept s I i t g = record {
    threads = all_set (Fit s.made) s.threads (i - 1) t g I.threads;
    made = I.made;
    few_threads = omega (arith, length-set s.threads (i - 1) t, I.few_threads);
    few_made = I.few_made;
  }

  -- another made channel takes nothing from a thread that fits
  fit_more : (made : List Made) (m : Made) (t : Thread) → Fit made t → Fit (made ++ (m ∷ [])) t
  fit_more made m t (c, a, F, e) = (c, a, fits_more C.schema At K made t c F L.apart m, e)

  -- the state after an outcome
  done_keeps : (s : State) → Invariant C At K s → (i p : ℕ) → 1 ≤ i → (o : Outcome) → Claimed C At K R (length s.threads) s.made o → Keeps C At K R (done s i p o)
  unfolding Claimed done
  done_keeps s I i p l (Refused n) h = h
  done_keeps s I i p l (Moves t) h = changed_kept s I i t h
  done_keeps s I i p l (Adds q) (g, h, z) =
      let I' = changed_kept s I i q.first g in
      record {
        threads = all_snoc (Fit s.made) (set s.threads (i - 1) q.first) q.second h I'.threads;
        made = I.made;
        few_threads = omega (arith, length-append (set s.threads (i - 1) q.first) (q.second ∷ []), length-set s.threads (i - 1) q.first);
        few_made = I.few_made;
      }
  done_keeps s I i p l (Makes q) (g, h, z) =
      let more = s.made ++ (q.made ∷ []) in
      record {
        threads = all_set (Fit more) s.threads (i - 1) q.thread g (all_map (fit_more s.made q.made) s.threads I.threads);
        made = all_snoc (Formed C.schema) s.made q.made h I.made;
        few_threads = omega (arith, length-set s.threads (i - 1) q.thread, I.few_threads);
        few_made = omega (arith, length-append s.made (q.made ∷ []));
      }
  done_keeps s I i p l Ends h = record {
    threads = all_removed (Fit s.made) s.threads i l I.threads;
    made = I.made;
    few_threads = omega (
      arith,
      length-append (take (i - 1) s.threads) (drop i s.threads),
      length-take (i - 1) s.threads,
      length-drop i s.threads,
      I.few_threads,
    );
    few_made = I.few_made;
  }
  done_keeps s I i p l (Meets q) (g, h) = changed_kept (changed s i q.first) (changed_kept s I i q.first g) p q.second h

  thread_fits : (s : State) → Invariant C At K s → (i : ℕ) → InCount (length s.threads) i → Fit s.made (thread_at s i)
  thread_fits s I i n = all_get (Fit s.made) s.threads (i - 1) no_thread (omega arith) I.threads

  partner_fits : (s : State) → Invariant C At K s → (p : ℕ) → GoodPartner C.schema At K s.made (partner_at s p)
  partner_fits s I p = go (eqb p 0) refl (leb p (length s.threads)) refl
    where
      go : (x : Bool) → eqb p 0 ≡ x → (y : Bool) → leb p (length s.threads) ≡ y
          → GoodPartner C.schema At K s.made (cond x Alone (cond y (With (thread_at s p)) Missing))
      go true x y z = tt
      go false x true z = thread_fits s I p (omega (arith, eqb-false p 0 x), leb-true p (length s.threads) z)
      go false x false z = tt

  -- any choice
  pub choice_keeps : (s : State) → Invariant C At K s → (i p : ℕ) → Keeps C At K R (choice C s i p)
  unfolding choice outcome done
  choice_keeps s I i p = go (in_count (length s.threads) i) refl
    where
      o : Outcome
      o = acting C (length s.threads) s.made (thread_at s i) (partner_at s p)

      go : (b : Bool) → in_count (length s.threads) i ≡ b → Keeps C At K R (done s i p (cond b o (Refused 18)))
      go true e =
          let n = (in_count_iff (length s.threads) i).0 e in
          done_keeps s I i p n.0 o (acting-told (length s.threads) s.made (thread_at s i) (thread_fits s I i n) (partner_at s p) (partner_fits s I p))
      go false e = M.no_thread_lem
