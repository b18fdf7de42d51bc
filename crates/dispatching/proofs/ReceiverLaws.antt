-- The search for a receiver, as a loop over the threads finds it.
use Prim.Native.Nat.{ℕ, zero, suc, ◌+◌, ◌*◌, ◌-◌, ◌≤◌, ◌<◌}
use mathlib.Core.Path.{◌≡◌, refl, sym, ap, ◌∙◌}
use mathlib.Core.Bool.{Bool, true, false, cond, not, ◌&&◌, false≢true}
use mathlib.Core.List.{List}
use mathlib.Core.Logic.{◌⊎◌, inl, inr}
use native.Mathlib.Omega.{arith}
use native.Mathlib.Numerals.{add-one}
use lib.Dec.{eqb}
use lib.ListN.{length}
use borrow.Author.Tests.{eq-eqb, ne_eqb, le-leb}
use Rattle.masks.specs.Mask.{has}
use Rattle.format.specs.Contents.{in_count}
use Rattle.format.proofs.ContentsLaws.{in_count_iff}
use Rattle.rules.specs.declared.Way.TheVariants.{Sends, Receives}
use Rattle.steps.specs.declared.Thread.{Thread}
use Rattle.steps.specs.declared.Made.{Made}
use Rattle.steps.specs.declared.Partner.TheVariants.{Alone, With}
use Rattle.steps.specs.declared.Outcome.{Outcome}
use Rattle.steps.specs.declared.Outcome.TheVariants.{Refused}
use Rattle.steps.specs.Threads.{value}
use Rattle.steps.specs.Choice.{Clinic, State, is_allowed, meeting, sending, lone, alone_only, acting, thread_at, partner_at, done, outcome, choice}
use Rattle.steps.specs.Records.{thread_in, record_at}
use Rattle.steps.specs.Beside.{thread_count, made_of}
use Rattle.steps.specs.Kept.{state_in}
use Rattle.steps.proofs.TableLaws.{threads_length, thread_get}
use Rattle.running.specs.Run.{is_meeting}
use Rattle.running.specs.Ways.{works_on, out_of, in_of, alike}
use Rattle.running.proofs.WayLaws.{ways_meet}
use Rattle.rounds.specs.Round.{is_step, receiver_for}
use Rattle.dispatching.specs.Dispatch.{threads_of, taken_of, comes_to}
use Rattle.dispatching.specs.Marks.{marks_from}

either : (P : Outcome → Type 0) (b : Bool) (x y : Outcome) → P x → P y → P (cond b x y)
either P true x y f g = f
either P false x y f g = g

-- a choice with a partner is a step exactly if it is a meeting
with_partner : (s : State) (i p : ℕ) (C : Clinic) (n : ℕ) (made : List Made) (t r : Thread)
    → is_step (taken_of (done s i p (acting C n made t (With r)))) ≡ is_meeting (acting C n made t (With r))
unfolding acting sending meeting alone_only done
with_partner s i p C n made t r =
    either P (in_count C.nodes t.node) _ _
    (either P (eqb (C.node t.node).tag 6) _ _
    (either P (in_count C.nodes r.node && eqb (C.node r.node).tag 5) _ _
    (either P (is_allowed C made t Sends (C.node t.node).f1 && is_allowed C made r Receives (C.node r.node).f1) _ _
    (either P (eqb (value t (C.node t.node).f1) (value r (C.node r.node).f1)) _ _ refl refl) refl) refl)
    (either P (eqb (C.node t.node).tag 5) _ _ refl refl)) refl
  where
    P : Outcome → Type 0
    P o = is_step (taken_of (done s i p o)) ≡ is_meeting o

-- alone, a thread at a send or a receive is refused
refused_alone : (C : Clinic) (n : ℕ) (made : List Made) (t : Thread) → ((C.node t.node).tag ≡ 6) ⊎ ((C.node t.node).tag ≡ 5) → acting C n made t Alone ≡ Refused 18
unfolding acting sending
refused_alone C n made t which = go (in_count C.nodes t.node) which
  where
    go : (h : Bool) → ((C.node t.node).tag ≡ 6) ⊎ ((C.node t.node).tag ≡ 5)
        → cond h (cond (eqb (C.node t.node).tag 6) (sending C made t (C.node t.node) Alone) (cond (eqb (C.node t.node).tag 5) (Refused 18) (alone_only Alone (lone C n (length made) t (C.node t.node))))) (Refused 18) ≡ Refused 18
    go false e = refl
    go true (inl e) = rw (eq-eqb (C.node t.node).tag 6 e)
    go true (inr e) = rw e

-- a thread that has moved, and one that has not, as code tests them
pub moved_is : (h x : Bool) → h ≡ true → false ≡ (not h && x)
moved_is true x e = refl
moved_is false x e = absurd (false≢true e)

pub free_is : (word : Thread → ℕ) (w : List ℕ) (over k p : ℕ) (t : Thread) (h r : Bool) → h ≡ false → k ≡ p - 1 → t ≡ thread_in w (record_at k) → r ≡ eqb over (word t)
    → r ≡ (not h && eqb over (word (thread_in w (record_at (p - 1)))))
free_is word w over k p t h r eh ek et er =
    er ∙ ap (λ (x : Thread). eqb over (word x)) (et ∙ ap (λ (x : ℕ). thread_in w (record_at x)) ek)
    ∙ ap (λ (x : Bool). not x && eqb over (word (thread_in w (record_at (p - 1))))) (sym eh)

module _ (C : Clinic) (w b : List ℕ) (i : ℕ) (pos : 0 < i) (le : i ≤ thread_count b) where
  abbrev s : State
  s = state_in w b

  abbrev thread : ℕ → Thread
  thread p = thread_in w (record_at (p - 1))

  -- what the thread may send on, and what another may receive on
  abbrev over : ℕ
  over = out_of C (made_of b) (thread i)

  abbrev at : ℕ → ℕ
  at p = in_of C (made_of b) (thread p)

  at_thread : (p : ℕ) → 0 < p → p ≤ thread_count b → thread_at s p ≡ thread p
  at_thread p l m = let e : 0 + 12 * (p - 1) ≡ 12 * (p - 1) = omega arith in thread_get w 0 (thread_count b) (p - 1) (omega (arith, l, m)) ∙ ap (thread_in w) e

  -- the outcome of a choice with a thread as partner
  with_thread : (p : ℕ) → 0 < p → p ≤ thread_count b → outcome C s i p ≡ acting C (thread_count b) (made_of b) (thread i) (With (thread p))
  unfolding outcome
  with_thread p l m =
      let n : length s.threads ≡ thread_count b = threads_length w 0 (thread_count b) in
      let z : p ≡ 0 → ⊥ = (λ e. omega (arith, e, l)) in
      let q : partner_at s p ≡ With (thread_at s p) = rw (ne_eqb p 0 z, le-leb p (length s.threads) (omega (arith, n, m))) in
      let c : outcome C s i p ≡ acting C (length s.threads) s.made (thread_at s i) (partner_at s p) = rw ((in_count_iff (length s.threads) i).1 (pos, omega (arith, n, le))) in
      c ∙ ap (acting C (length s.threads) s.made (thread_at s i)) (q ∙ ap With (at_thread p l m))
      ∙ ap (λ (x : Thread). acting C (length s.threads) s.made x (With (thread p))) (at_thread i pos le)
      ∙ ap (λ (x : ℕ). acting C x s.made (thread i) (With (thread p))) n

  pub step_met : (p : ℕ) → 0 < p → p ≤ thread_count b → is_step (comes_to C s i p) ≡ is_meeting (outcome C s i p)
  unfolding choice
  step_met p l m =
      let e = with_thread p l m in
      ap (λ (o : Outcome). is_step (taken_of (done s i p o))) e ∙ with_partner s i p C (thread_count b) (made_of b) (thread i) (thread p) ∙ ap is_meeting (sym e)

  -- a thread at a send or a receive has no lone step
  pub no_lone : ((C.node (thread i).node).tag ≡ 6) ⊎ ((C.node (thread i).node).tag ≡ 5) → outcome C s i 0 ≡ Refused 18
  unfolding outcome
  no_lone which =
      let n : length s.threads ≡ thread_count b = threads_length w 0 (thread_count b) in
      let c : outcome C s i 0 ≡ acting C (length s.threads) s.made (thread_at s i) Alone = rw ((in_count_iff (length s.threads) i).1 (pos, omega (arith, n, le))) in
      c ∙ ap (λ (x : Thread). acting C (length s.threads) s.made x Alone) (at_thread i pos le) ∙ refused_alone C (length s.threads) s.made (thread i) which

  step_meets : (p : ℕ) → 0 < p → p ≤ thread_count b → is_step (comes_to C s i p) ≡ alike over (at p)
  step_meets p l m = step_met p l m ∙ ap is_meeting (with_thread p l m) ∙ ways_meet C (thread_count b) (made_of b) (thread i) (thread p)

  module _ (moved there : ℕ) (few : there ≤ thread_count b) where
    -- what is found from number p on
    abbrev pub rest : ℕ → ℕ
    rest p = receiver_for threads_of (comes_to C) s i p (marks_from p (there + 1 - p) moved)

    abbrev free : ℕ → Bool
    free p = not (has moved p) && alike over (at p)

    one : (p : ℕ) → 0 < p → p ≤ there → rest p ≡ cond (free p) p (rest (p + 1))
    unfolding receiver_for marks_from
    one p l m =
        let c : there + 1 - p ≡ suc (there + 1 - (p + 1)) = omega (arith, l, m) in
        let e : is_step (comes_to C s i p) ≡ alike over (at p) = step_meets p l (omega (arith, m, few)) in
        ap (λ (x : ℕ). receiver_for threads_of (comes_to C) s i p (marks_from p x moved)) c
        ∙ ap (λ (x : ℕ). cond (not (has moved p) && is_step (comes_to C s i p)) p (receiver_for threads_of (comes_to C) s i x (marks_from x (there + 1 - (p + 1)) moved))) (sym (add-one p))
        ∙ ap (λ (x : Bool). cond (not (has moved p) && x) p (rest (p + 1))) e

    pub begin : rest 1 ≡ receiver_for threads_of (comes_to C) s i 1 (marks_from 1 there moved)
    begin = let z : there + 1 - 1 ≡ there = omega arith in ap (λ (x : ℕ). receiver_for threads_of (comes_to C) s i 1 (marks_from 1 x moved)) z

    pub none : (p x : ℕ) → there < p → rest p ≡ x → 0 ≡ x
    unfolding receiver_for marks_from
    none p x l inv =
        let z : there + 1 - p ≡ 0 = omega (arith, l) in
        sym (ap (λ (y : ℕ). receiver_for threads_of (comes_to C) s i p (marks_from p y moved)) z) ∙ inv

    -- one that may send on nothing meets nobody
    silent_from : (k p : ℕ) → over ≡ 0 → 0 < p → there + 1 ≡ p + k → rest p ≡ 0
    silent_from zero p z l e = sym (none p (rest p) (omega (arith, e)) refl)
    silent_from (suc k) p z l e = one p l (omega (arith, e)) ∙ rw (z, never (has moved p)) (silent_from k (p + 1) z (omega arith) (omega (arith, e)))
      where
        never : (h : Bool) → (not h && false) ≡ false
        never true = refl
        never false = refl

    pub silent : (own : Thread) (k v : ℕ) → k ≡ i - 1 → own ≡ thread_in w (record_at k) → v ≡ out_of C (made_of b) own → v ≡ 0
        → 0 ≡ receiver_for threads_of (comes_to C) s i 1 (marks_from 1 there moved)
    silent own k v ek eo ev z = sym (silent_from there 1 (is_over own k v ek eo ev ∙ z) (omega arith) (omega arith)) ∙ begin
      where
        is_over : (own : Thread) (k v : ℕ) → k ≡ i - 1 → own ≡ thread_in w (record_at k) → v ≡ out_of C (made_of b) own → over ≡ v
        is_over own k v ek eo ev = sym (ev ∙ ap (out_of C (made_of b)) (eo ∙ ap (λ (x : ℕ). thread_in w (record_at x)) ek))

    -- one that is not at a send may send on nothing
    pub not_sending : ((C.node (thread i).node).tag ≡ 6 → ⊥) → 0 ≡ receiver_for threads_of (comes_to C) s i 1 (marks_from 1 there moved)
    unfolding out_of
    not_sending other = silent (thread i) (i - 1) 0 refl refl (sym (none_out (in_count C.nodes (thread i).node))) refl
      where
        none_out : (h : Bool) → cond (h && eqb (C.node (thread i).node).tag 6) (works_on C (made_of b) Sends (thread i) (C.node (thread i).node).f1) 0 ≡ 0
        none_out true = rw (ne_eqb (C.node (thread i).node).tag 6 other)
        none_out false = refl

    module _ (own : Thread) (k v : ℕ) (ek : k ≡ i - 1) (eo : own ≡ thread_in w (record_at k)) (ev : v ≡ out_of C (made_of b) own) (some : v ≡ 0 → ⊥) where
      is_over : v ≡ over
      is_over = ev ∙ ap (out_of C (made_of b)) (eo ∙ ap (λ (x : ℕ). thread_in w (record_at x)) ek)

      -- the test of the number p, as code has it
      tested : (p : ℕ) (r : Bool) → r ≡ (not (has moved p) && eqb v (at p)) → r ≡ free p
      tested p r er =
          er ∙ ap (λ (x : Bool). not (has moved p) && (not x && eqb v (at p))) (sym (ne_eqb v 0 some))
          ∙ ap (λ (x : ℕ). not (has moved p) && alike x (at p)) is_over

      pub passed : (p : ℕ) (r : Bool) (x : ℕ) → 0 < p → p ≤ there → r ≡ (not (has moved p) && eqb v (at p)) → r ≡ false → rest p ≡ x → rest (p + 1) ≡ x
      passed p r x l m er f inv =
          let e : free p ≡ false = sym (tested p r er) ∙ f in
          sym (one p l m ∙ ap (λ (y : Bool). cond y p (rest (p + 1))) e) ∙ inv

      pub found : (p : ℕ) (r : Bool) (x : ℕ) → 0 < p → p ≤ there → r ≡ (not (has moved p) && eqb v (at p)) → r ≡ true → rest p ≡ x → p ≡ x
      found p r x l m er f inv =
          let e : free p ≡ true = sym (tested p r er) ∙ f in
          sym (one p l m ∙ ap (λ (y : Bool). cond y p (rest (p + 1))) e) ∙ inv
