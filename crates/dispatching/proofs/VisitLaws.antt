-- What a visit leaves, as code tells of it.
use Prim.Native.Nat.{ℕ, zero, suc, ◌+◌, ◌-◌, ◌≤◌, ◌<◌}
use mathlib.Core.Path.{◌≡◌, refl, sym, ap, ◌∙◌, subst}
use mathlib.Core.Bool.{Bool, true, false, false≢true}
use mathlib.Core.List.{List, [], ◌∷◌, ◌++◌}
use native.Mathlib.Omega.{arith}
use lib.Dec.{ltb}
use lib.ListN.{length, set, take, drop, length-set, length-append}
use borrow.Author.Tests.{ne_eqb, lt-ltb, le-ltb}
use Rattle.masks.specs.Mask.{with}
use Rattle.steps.specs.declared.Pair.{Pair}
use Rattle.steps.specs.declared.Outcome.{Outcome}
use Rattle.steps.specs.declared.Outcome.TheVariants.{Refused, Moves, Adds, Makes, Ends, Meets}
use Rattle.steps.specs.declared.Answer.{Answer}
use Rattle.steps.specs.declared.Answer.TheVariants as answers
use Rattle.steps.specs.Acted.{acted_of}
use Rattle.steps.specs.Choice.{Clinic, State, removed, done, outcome, choice}
use Rattle.steps.specs.Beside.{thread_count, beside_by}
use Rattle.steps.specs.Kept.{state_in, Sized, state_left}
use Rattle.steps.proofs.TableLaws.{threads_length}
use Rattle.choices.specs.Choices.{run}
use Rattle.choices.specs.Stored.{Chose, untried, tried, Through}
use Rattle.choices.specs.declared.Went.{Went}
use Rattle.choices.proofs.RunLaws.{refused_by}
use Rattle.choices.proofs.TriedLaws.{one_chose}
use Rattle.running.specs.Run.{is_meeting}
use Rattle.rounds.specs.Round.{Taken, refuses, steps, lone_else, met_by, without_item, Going, receiver_for, meeting_with, going, visited, visit}
use Rattle.rounds.proofs.Searching.{receiver_steps}
use Rattle.rounds.proofs.PlaceLaws.{length_without_item}
use Rattle.dispatching.specs.declared.Visit.{Visit}
use Rattle.dispatching.specs.Dispatch.{threads_of, taken_of, comes_to}
use Rattle.dispatching.specs.Marks.{marks_from, close_up}
use Rattle.dispatching.specs.Visits.{VisitTold}
use Rattle.dispatching.proofs.MarkLaws.{marks_with, marks_gone}
use Rattle.dispatching.proofs.ReceiverLaws.{step_met}

pub marks_length : (p k m : ℕ) → length (marks_from p k m) ≡ k
unfolding marks_from
marks_length p zero m = refl
marks_length p (suc k) m = ap suc (marks_length (suc p) k m)

-- the thread i has moved
marks_at : (there m i : ℕ) → 0 < i → marks_from 1 there (with m i) ≡ set (marks_from 1 there m) (i - 1) true
marks_at there m i l = let e : 1 + (i - 1) ≡ i = omega (arith, l) in ap (λ (x : ℕ). marks_from 1 there (with m x)) (sym e) ∙ marks_with 1 there m (i - 1) (omega arith)

-- the thread i is gone
marks_left : (there m i : ℕ) → 0 < i → i ≤ there → marks_from 1 (there - 1) (close_up m i) ≡ without_item (marks_from 1 there m) (i - 1)
marks_left there m i l h =
    let e : 1 + (i - 1) ≡ i = omega (arith, l) in
    let k : suc (there - 1) ≡ there = omega (arith, l, h) in
    ap (λ (x : ℕ). marks_from 1 (there - 1) (close_up m x)) (sym e) ∙ marks_gone 0 (there - 1) m (i - 1) (omega (arith, l, h))
    ∙ ap (λ (x : ℕ). without_item (marks_from 1 x m) (i - 1)) k

meets_of : (o : Outcome) → is_meeting o ≡ true → (q : Pair) × (o ≡ Meets q)
meets_of (Refused n) e = absurd (false≢true e)
meets_of (Moves t) e = absurd (false≢true e)
meets_of (Adds q) e = absurd (false≢true e)
meets_of (Makes q) e = absurd (false≢true e)
meets_of Ends e = absurd (false≢true e)
meets_of (Meets q) e = (q, refl)

-- an answer that is neither a refusal nor an end
abbrev pub StaysOn : Answer → Type 0
StaysOn (answers.Refused n) = ⊥
StaysOn answers.Moves = Unit {0}
StaysOn answers.Adds = Unit {0}
StaysOn (answers.Makes m) = Unit {0}
StaysOn answers.Ends = ⊥
StaysOn answers.Meets = Unit {0}

abbrev IsEnd : Answer → Type 0
IsEnd (answers.Refused n) = ⊥
IsEnd answers.Moves = ⊥
IsEnd answers.Adds = ⊥
IsEnd (answers.Makes m) = ⊥
IsEnd answers.Ends = Unit {0}
IsEnd answers.Meets = ⊥

ends_by : (o : Outcome) → answers.Ends ≡ (acted_of o).answer → o ≡ Ends
ends_by (Refused n) e = absurd (subst IsEnd e tt)
ends_by (Moves t) e = absurd (subst IsEnd e tt)
ends_by (Adds q) e = absurd (subst IsEnd e tt)
ends_by (Makes q) e = absurd (subst IsEnd e tt)
ends_by Ends e = refl
ends_by (Meets q) e = absurd (subst IsEnd e tt)

module _ (C : Clinic) (w b : List ℕ) (sized : Sized w b) (i there moved : ℕ) (pos : 0 < i) (le : i ≤ there) (few : there ≤ thread_count b) where
  abbrev s : State
  s = state_in w b

  abbrev marks : List Bool
  marks = marks_from 1 there moved

  abbrev receiver : ℕ
  receiver = receiver_for threads_of (comes_to C) s i 1 marks

  abbrev meeting_of : ℕ → Going State
  meeting_of p = going threads_of (comes_to C) s (i - 1) marks (meeting_with threads_of (comes_to C) s i p)

  own : suc (i - 1) ≡ i
  own = omega (arith, pos)

  counted : (w b : List ℕ) → threads_of (state_in w b) ≡ thread_count b
  counted w b = threads_length w 0 (thread_count b)

  -- a visit that does nothing
  abbrev passing : Visit
  passing = record { is_done = false; partner = 0; next = i + 1; present = there; moved = moved }

  -- nobody can be met
  pub told_nothing : (p : ℕ) (v : Visit) → p ≡ receiver → p ≡ 0 → v ≡ passing → VisitTold (meeting_of receiver) i there v w b
  told_nothing p v e z ev =
      subst (λ (x : Visit). VisitTold (meeting_of receiver) i there x w b) (sym ev)
      (subst (λ (x : ℕ). VisitTold (meeting_of x) i there passing w b) (sym z ∙ e)
      (record { words = refl; next = omega (arith, own); marks = refl; state = refl; sized = sized; few = few; less = omega arith }))

  -- the receiver that is found is met
  pub found_there : (p : ℕ) → p ≡ receiver → (p ≡ 0 → ⊥) → (0 < p) × (p ≤ there)
  found_there p e n =
      let (l, h, t) = receiver_steps threads_of (comes_to C) s i marks p e n in
      (l, omega (arith, l, h, marks_length 1 there moved))

  pub told_met : (kind : ℕ → ℕ) (p : ℕ) (r : Went) (w' b' : List ℕ) (m₁ m₂ : ℕ) → p ≡ receiver → (p ≡ 0 → ⊥)
      → Through (run C s (i ∷ p ∷ [])) (tried kind C s (untried b) (i ∷ p ∷ [])) r w' b'
      → m₁ ≡ with moved p → m₂ ≡ with m₁ i
      → VisitTold (meeting_of receiver) i there (record { is_done = true; partner = p; next = i + 1; present = there; moved = m₂ }) w' b'
  unfolding choice done
  told_met kind p r w' b' m₁ m₂ e n through e₁ e₂ =
      let (l, h) = found_there p e n in
      let (_, _, t) = receiver_steps threads_of (comes_to C) s i marks p e n in
      let (q, o) = meets_of (outcome C s i p) (sym (step_met C w b i pos (omega (arith, le, few)) p l (omega (arith, h, few))) ∙ t) in
      let (_, state, _, sized') = one_chose kind C w b w' b' i p r through in
      let is : comes_to C s i p ≡ taken_of (done s i p (Meets q)) = ap (λ (x : Outcome). taken_of (done s i p x)) o in
      let g : meeting_of receiver ≡ going threads_of (comes_to C) s (i - 1) marks (met_by p (taken_of (done s i p (Meets q)))) =
      ap meeting_of (sym e) ∙ rw (ne_eqb p 0 n) (ap (λ (x : Taken State). going threads_of (comes_to C) s (i - 1) marks (met_by p x)) is) in
      let left : state_in w' b' ≡ state_left s (done s i p (Meets q)) = state ∙ ap (λ (x : Outcome). state_left s (done s i p x)) o in
      let same : threads_of (state_in w' b') ≡ threads_of s =
      ap threads_of left ∙ length-set (set s.threads (i - 1) q.first) (p - 1) q.second ∙ length-set s.threads (i - 1) q.first in
      subst (λ (x : Going State). VisitTold x i there (record { is_done = true; partner = p; next = i + 1; present = there; moved = m₂ }) w' b') (sym g)
      (record {
        words = ap (λ (x : ℕ). x ∷ p ∷ []) (sym own);
        next = omega (arith, own);
        marks = ap (marks_from 1 there) (e₂ ∙ ap (λ (x : ℕ). with x i) e₁) ∙ marks_at there (with moved p) i pos ∙ ap (λ (x : List Bool). set x (i - 1) true) (marks_at there moved p l);
        state = left;
        sized = sized';
        few = omega (arith, few, same, counted w b, counted w' b');
        less = omega arith;
      })

  -- a visit, by what the lone choice comes to
  abbrev the_visit : Going State
  the_visit = visit threads_of (comes_to C) s (i - 1) marks

  visit_by : (o : Taken State) → comes_to C s i 0 ≡ o → the_visit ≡ going threads_of (comes_to C) s (i - 1) marks (lone_else o (meeting_with threads_of (comes_to C) s i receiver))
  unfolding visit visited
  visit_by o e =
      ap (λ (x : ℕ). going threads_of (comes_to C) s (i - 1) marks (lone_else (comes_to C s x 0) (meeting_with threads_of (comes_to C) s x (receiver_for threads_of (comes_to C) s x 1 marks)))) own
      ∙ ap (λ (x : Taken State). going threads_of (comes_to C) s (i - 1) marks (lone_else x (meeting_with threads_of (comes_to C) s i receiver))) e

  -- no lone step, and nobody to meet
  pub told_still : (n : ℕ) → outcome C s i 0 ≡ Refused n → 0 ≡ receiver → (v : Visit) (w' b' : List ℕ) → v ≡ passing → Sized w' b' → state_in w' b' ≡ s → VisitTold the_visit i there v w' b'
  unfolding choice done
  told_still n o z v w' b' ev sized' left =
      subst (λ (x : Visit). VisitTold the_visit i there x w' b') (sym ev)
      (subst (λ (x : Going State). VisitTold x i there passing w' b') (ap meeting_of z ∙ sym (visit_by (refuses n) (ap (λ (x : Outcome). taken_of (done s i 0 x)) o)))
      (record { words = refl; next = omega (arith, own); marks = refl; state = left; sized = sized'; few = omega (arith, few, ap threads_of left, counted w b, counted w' b'); less = omega arith }))

  -- no lone step: what a meeting leaves
  pub told_meeting : (n : ℕ) → outcome C s i 0 ≡ Refused n → (v : Visit) (w' b' : List ℕ) → VisitTold (meeting_of receiver) i there v w' b' → VisitTold the_visit i there v w' b'
  unfolding choice done
  told_meeting n o v w' b' t =
      subst (λ (x : Going State). VisitTold x i there v w' b') (sym (visit_by (refuses n) (ap (λ (x : Outcome). taken_of (done s i 0 x)) o))) t

  module _ (s' : State) (e : comes_to C s i 0 ≡ steps s') (w' b' : List ℕ) (sized' : Sized w' b') (left : state_in w' b' ≡ s') (m : ℕ) where
    stays : thread_count b' ≡ threads_of s'
    stays = sym (counted w' b') ∙ ap threads_of left

    told_alone : threads_of s ≤ threads_of s' → m ≡ with moved i → VisitTold the_visit i there (record { is_done = true; partner = 0; next = i + 1; present = there; moved = m }) w' b'
    told_alone more em =
        let long : ltb (threads_of s') (threads_of s) ≡ false = le-ltb (threads_of s') (threads_of s) more in
        subst (λ (x : Going State). VisitTold x i there (record { is_done = true; partner = 0; next = i + 1; present = there; moved = m }) w' b') (sym (visit_by (steps s') e))
        (record {
          words = ap (λ (x : ℕ). x ∷ 0 ∷ []) (sym own);
          next = let z : i + 1 ≡ suc (suc (i - 1)) = omega (arith, own) in rw long z;
          marks = rw long (ap (marks_from 1 there) em ∙ marks_at there moved i pos);
          state = left;
          sized = sized';
          few = omega (arith, few, counted w b, stays, more);
          less = omega arith;
        })

    told_end : suc (threads_of s') ≡ threads_of s → m ≡ close_up moved i → VisitTold the_visit i there (record { is_done = true; partner = 0; next = i; present = there - 1; moved = m }) w' b'
    told_end one em =
        let short : ltb (threads_of s') (threads_of s) ≡ true = lt-ltb (threads_of s') (threads_of s) (omega (arith, one)) in
        subst (λ (x : Going State). VisitTold x i there (record { is_done = true; partner = 0; next = i; present = there - 1; moved = m }) w' b') (sym (visit_by (steps s') e))
        (record {
          words = ap (λ (x : ℕ). x ∷ 0 ∷ []) (sym own);
          next = rw short (sym own);
          marks = rw short (ap (marks_from 1 (there - 1)) em ∙ marks_left there moved i pos le);
          state = left;
          sized = sized';
          few = omega (arith, few, counted w b, stays, one);
          less = omega (arith, pos, le);
        })

  -- the lone choice, as the loop over a list of one choice tells of it
  module _ (kind : ℕ → ℕ) (r : Went) (w' b' : List ℕ) (through : Through (run C s (i ∷ 0 ∷ [])) (tried kind C s (untried b) (i ∷ 0 ∷ [])) r w' b') where
    chose : Chose (beside_by kind b (outcome C s i 0)) (outcome C s i 0) i 0 r.last w b w' b'
    chose = one_chose kind C w b w' b' i 0 r through

    -- a refused one leaves the state, and one that is not at a send does nothing
    pub lone_refused : (n : ℕ) (v : Visit) → r.last ≡ answers.Refused n → 0 ≡ receiver → v ≡ passing → VisitTold the_visit i there v w' b'
    unfolding choice done
    lone_refused n v e z ev =
        let o : outcome C s i 0 ≡ Refused n = refused_by (outcome C s i 0) n (sym e ∙ chose.0) in
        told_still n o z v w' b' ev chose.3 (chose.1 ∙ ap (λ (x : Outcome). state_left s (done s i 0 x)) o)

    pub lone_ends : (m : ℕ) → r.last ≡ answers.Ends → m ≡ close_up moved i → VisitTold the_visit i there (record { is_done = true; partner = 0; next = i; present = there - 1; moved = m }) w' b'
    unfolding choice done
    lone_ends m e em =
        let o : outcome C s i 0 ≡ Ends = ends_by (outcome C s i 0) (sym e ∙ chose.0) in
        told_end (removed s i) (ap (λ (x : Outcome). taken_of (done s i 0 x)) o) w' b' chose.3 (chose.1 ∙ ap (λ (x : Outcome). state_left s (done s i 0 x)) o) m shorter em
      where
        shorter : suc (threads_of (removed s i)) ≡ threads_of s
        shorter =
            ap (λ (x : ℕ). suc (length (take (i - 1) s.threads ++ drop x s.threads))) (sym own)
            ∙ length_without_item s.threads (i - 1) (omega (arith, pos, le, few, counted w b))

    -- one that is done and is no end
    pub lone_goes : (m : ℕ) → StaysOn r.last → m ≡ with moved i → VisitTold the_visit i there (record { is_done = true; partner = 0; next = i + 1; present = there; moved = m }) w' b'
    unfolding choice done
    lone_goes m h em = go (outcome C s i 0) refl (subst StaysOn chose.0 h)
      where
        on : (s' : State) → comes_to C s i 0 ≡ steps s' → state_in w' b' ≡ s' → threads_of s ≤ threads_of s'
            → VisitTold the_visit i there (record { is_done = true; partner = 0; next = i + 1; present = there; moved = m }) w' b'
        on s' e left more = told_alone s' e w' b' chose.3 left m more em

        go : (o : Outcome) → outcome C s i 0 ≡ o → StaysOn (acted_of o).answer
            → VisitTold the_visit i there (record { is_done = true; partner = 0; next = i + 1; present = there; moved = m }) w' b'
        go (Refused n) e g = absurd g
        go (Moves t) e g =
            on _ (ap (λ (x : Outcome). taken_of (done s i 0 x)) e) (chose.1 ∙ ap (λ (x : Outcome). state_left s (done s i 0 x)) e) (omega (arith, length-set s.threads (i - 1) t))
        go (Adds q) e g =
            on _ (ap (λ (x : Outcome). taken_of (done s i 0 x)) e) (chose.1 ∙ ap (λ (x : Outcome). state_left s (done s i 0 x)) e)
            (omega (arith, length-append (set s.threads (i - 1) q.first) (q.second ∷ []), length-set s.threads (i - 1) q.first))
        go (Makes q) e g =
            on _ (ap (λ (x : Outcome). taken_of (done s i 0 x)) e) (chose.1 ∙ ap (λ (x : Outcome). state_left s (done s i 0 x)) e) (omega (arith, length-set s.threads (i - 1) q.thread))
        go Ends e g = absurd g
        go (Meets q) e g =
            on _ (ap (λ (x : Outcome). taken_of (done s i 0 x)) e) (chose.1 ∙ ap (λ (x : Outcome). state_left s (done s i 0 x)) e)
            (omega (arith, length-set (set s.threads (i - 1) q.first) (0 - 1) q.second, length-set s.threads (i - 1) q.first))
