-- What a visit of a round with seats leaves, as code tells of it.
use Prim.Native.Nat.{ℕ, zero, suc, ◌+◌, ◌-◌, ◌≤◌, ◌<◌}
use mathlib.Core.Path.{◌≡◌, refl, sym, ap, ap₂, ◌∙◌, subst}
use mathlib.Core.Bool.{Bool, true, false, cond, not, ◌&&◌, false≢true}
use mathlib.Core.List.{List, [], ◌∷◌, ◌++◌}
use native.Mathlib.Omega.{arith}
use lib.Dec.{eqb, ltb}
use lib.ListN.{length, set, take, drop, length-set}
use borrow.Author.Tests.{eq-eqb, ne_eqb, lt-ltb, le-ltb}
use Rattle.masks.specs.Mask.{with}
use Rattle.format.specs.Contents.{Contents}
use Rattle.steps.specs.declared.Pair.{Pair}
use Rattle.steps.specs.declared.Outcome.{Outcome}
use Rattle.steps.specs.declared.Outcome.TheVariants.{Refused, Moves, Adds, Makes, Ends, Meets}
use Rattle.steps.specs.Choice.{Clinic, clinic_of, State, Chosen, halts, goes, done, outcome, choice}
use Rattle.steps.specs.Beside.{thread_count}
use Rattle.steps.specs.Kept.{state_in}
use Rattle.steps.proofs.TableLaws.{threads_length}
use Rattle.running.specs.Run.{is_meeting}
use Rattle.rounds.specs.Round.{Taken, refuses, waits, steps, is_step, Visited, nothing_done, waited, alone, met, lone_else, met_by, without_item, Going, receiver_for, meeting_with, going, visited, visit}
use Rattle.rounds.proofs.Searching.{receiver_steps}
use Rattle.dispatching.specs.declared.Visit.{Visit}
use Rattle.dispatching.specs.Dispatch.{threads_of, taken_of, comes_to}
use Rattle.dispatching.specs.Marks.{marks_from, close_up}
use Rattle.dispatching.proofs.MarkLaws.{marks_with, marks_gone}
use Rattle.dispatching.proofs.VisitLaws.{marks_length}
use Rattle.dispatching.proofs.ReceiverLaws.{step_met}
use Rattle.seats.specs.Seats.{Limited, limited_of, SeatedState, thread_node, asks_seat, gets_seat, owners_by, seated_by, lines_left, stand_in_line, seated_choice}
use Rattle.seats.proofs.SeatedTold.{asks_iff}
use Rattle.seating.specs.SeatedRound.{seated_threads}
use Rattle.seated.specs.declared.Sat.{Sat}
use Rattle.seated.specs.declared.Sat.TheVariants as sat
use Rattle.seated.specs.SeatedTables.{seated_in, Seated, SatTold, must_wait, ChoseSeated}
use Rattle.seated_rounds.specs.SeatedVisits.{SeatedVisitTold}

-- one that waits has the state that it had
waits_state : (L : Limited) (S S' : SeatedState) (i p : ℕ) → seated_choice L S i p ≡ waits S' → S'.state ≡ S.state
unfolding seated_choice
waits_state L S S' i p e = sym (ap left e) ∙ go (must_wait L S i p) (choice L.clinic S.state i p)
  where
    left : Taken SeatedState → State
    left (refuses n) = S.state
    left (waits T) = T.state
    left (steps T) = S.state

    go : (b : Bool) (c : Chosen)
        → left (cond b (waits (stand_in_line L S i)) (seated_by (owners_by S.owners i (thread_node L S i).tag) (cond (asks_seat L S i p) (lines_left L S i) S.lines) c)) ≡ S.state
    go true c = refl
    go false (halts n) = refl
    go false (goes s) = refl

-- with a partner no seat is asked for: the choice is the run's own
module _ (C : Contents) (table : List ℕ) (S : SeatedState) (i : ℕ) where
  abbrev limits : Limited
  limits = limited_of C table

  with_partner : (p : ℕ) → 1 ≤ p → seated_choice limits S i p ≡ seated_by (owners_by S.owners i (thread_node limits S i).tag) S.lines (choice (clinic_of C) S.state i p)
  unfolding seated_choice
  with_partner p l = rw (none (asks_seat limits S i p) refl)
    where
      none : (b : Bool) → asks_seat limits S i p ≡ b → asks_seat limits S i p ≡ false
      none false e = e
      none true e = let no : ⊥ = omega (arith, l, ((asks_iff limits S i p).0 e).alone) in absurd no

  same_step : (p : ℕ) → 1 ≤ p → is_step (seated_choice limits S i p) ≡ is_step (comes_to (clinic_of C) S.state i p)
  same_step p l = ap is_step (with_partner p l) ∙ go (choice (clinic_of C) S.state i p)
    where
      go : (c : Chosen) → is_step (seated_by (owners_by S.owners i (thread_node limits S i).tag) S.lines c) ≡ is_step (taken_of c)
      go (halts n) = refl
      go (goes s) = refl

  pub receiver_same : (ms : List Bool) (p : ℕ) → 1 ≤ p → receiver_for threads_of (comes_to (clinic_of C)) S.state i p ms ≡ receiver_for seated_threads (seated_choice limits) S i p ms
  unfolding receiver_for
  receiver_same [] p l = refl
  receiver_same (m ∷ ms) p l =
      ap₂ (λ (b : Bool) (x : ℕ). cond (not m && b) p x) (sym (same_step p l)) (receiver_same ms (suc p) (omega arith))

meets_of : (o : Outcome) → is_meeting o ≡ true → (q : Pair) × (o ≡ Meets q)
meets_of (Refused n) e = absurd (false≢true e)
meets_of (Moves t) e = absurd (false≢true e)
meets_of (Adds q) e = absurd (false≢true e)
meets_of (Makes q) e = absurd (false≢true e)
meets_of Ends e = absurd (false≢true e)
meets_of (Meets q) e = (q, refl)

marks_at : (there m i : ℕ) → 0 < i → marks_from 1 there (with m i) ≡ set (marks_from 1 there m) (i - 1) true
marks_at there m i l = let e : 1 + (i - 1) ≡ i = omega (arith, l) in ap (λ (x : ℕ). marks_from 1 there (with m x)) (sym e) ∙ marks_with 1 there m (i - 1) (omega arith)

marks_left : (there m i : ℕ) → 0 < i → i ≤ there → marks_from 1 (there - 1) (close_up m i) ≡ without_item (marks_from 1 there m) (i - 1)
marks_left there m i l h =
    let e : 1 + (i - 1) ≡ i = omega (arith, l) in
    let k : suc (there - 1) ≡ there = omega (arith, l, h) in
    ap (λ (x : ℕ). marks_from 1 (there - 1) (close_up m x)) (sym e) ∙ marks_gone 0 (there - 1) m (i - 1) (omega (arith, l, h))
    ∙ ap (λ (x : ℕ). without_item (marks_from 1 x m) (i - 1)) k

module _ (C : Contents) (table w b os ls : List ℕ) (K : Seated (limited_of C table) w b os ls) (i there moved : ℕ) (pos : 0 < i) (le : i ≤ there) (few : there ≤ thread_count b) where
  abbrev L : Limited
  L = limited_of C table

  abbrev S : SeatedState
  S = seated_in w b os ls

  abbrev marks : List Bool
  marks = marks_from 1 there moved

  abbrev receiver : ℕ
  receiver = receiver_for seated_threads (seated_choice L) S i 1 marks

  abbrev meeting_of : ℕ → Going SeatedState
  meeting_of p = going seated_threads (seated_choice L) S (i - 1) marks (meeting_with seated_threads (seated_choice L) S i p)

  abbrev the_visit : Going SeatedState
  the_visit = visit seated_threads (seated_choice L) S (i - 1) marks

  own : suc (i - 1) ≡ i
  own = omega (arith, pos)

  counted : (w b os ls : List ℕ) → seated_threads (seated_in w b os ls) ≡ thread_count b
  counted w b os ls = threads_length w 0 (thread_count b)

  pub receiver_is : (p : ℕ) → p ≡ receiver_for threads_of (comes_to (clinic_of C)) (state_in w b) i 1 marks → p ≡ receiver
  receiver_is p e = e ∙ receiver_same C table S i marks 1 (omega arith)

  -- nobody can be met
  pub told_nothing : (p : ℕ) → p ≡ receiver → p ≡ 0 → SeatedVisitTold L (meeting_of receiver) i there (record { is_done = false; partner = 0; next = i + 1; present = there; moved = moved }) w b os ls
  told_nothing p e z =
      subst (λ (x : ℕ). SeatedVisitTold L (meeting_of x) i there (record { is_done = false; partner = 0; next = i + 1; present = there; moved = moved }) w b os ls) (sym z ∙ e)
      (record { words = refl; next = omega (arith, own); marks = refl; state = refl; kept = K; few = few; less = omega arith })

  pub found_there : (p : ℕ) → p ≡ receiver → (p ≡ 0 → ⊥) → (0 < p) × (p ≤ there)
  found_there p e n =
      let (l, h, t) = receiver_steps seated_threads (seated_choice L) S i marks p e n in
      (l, omega (arith, l, h, marks_length 1 there moved))

  -- the receiver that is found is met
  module _ (kind : ℕ → ℕ) (r : Sat) (w' b' os' ls' : List ℕ) (p : ℕ) (D : ChoseSeated kind L i p r w b os ls w' b' os' ls') where
    step_of : (x : Sat) → SatTold x (seated_choice L S i p) S (seated_in w' b' os' ls') → is_step (seated_choice L S i p) ≡ true → seated_choice L S i p ≡ steps (seated_in w' b' os' ls')
    step_of (sat.Refused n) (h, q) t = absurd (false≢true (sym (ap is_step h) ∙ t))
    step_of sat.Waits h t = absurd (false≢true (sym (ap is_step h) ∙ t))
    step_of sat.Ends (h, q) t = h
    step_of sat.Steps (h, q) t = h

    pub told_met : (m₁ m₂ : ℕ) → p ≡ receiver → (p ≡ 0 → ⊥) → m₁ ≡ with moved p → m₂ ≡ with m₁ i
        → SeatedVisitTold L (meeting_of receiver) i there (record { is_done = true; partner = p; next = i + 1; present = there; moved = m₂ }) w' b' os' ls'
    unfolding choice done
    told_met m₁ m₂ e n e₁ e₂ =
        let (l, h) = found_there p e n in
        let (_, _, t) = receiver_steps seated_threads (seated_choice L) S i marks p e n in
        let is : seated_choice L S i p ≡ steps (seated_in w' b' os' ls') = step_of r D.told t in
        let (q, o) = meets_of (outcome (clinic_of C) (state_in w b) i p) (sym (step_met (clinic_of C) w b i pos (omega (arith, le, few)) p l (omega (arith, h, few))) ∙ sym (same_step C table S i p l) ∙ t) in
        let size : seated_threads (seated_in w' b' os' ls') ≡ seated_threads S =
        same_size q (sym is ∙ with_partner C table S i p l ∙ ap (λ (x : Outcome). seated_by (owners_by S.owners i (thread_node L S i).tag) S.lines (done (state_in w b) i p x)) o) in
        let g : meeting_of receiver ≡ going seated_threads (seated_choice L) S (i - 1) marks (met p (seated_in w' b' os' ls')) =
        ap meeting_of (sym e) ∙ rw (ne_eqb p 0 n) (ap (λ (x : Taken SeatedState). going seated_threads (seated_choice L) S (i - 1) marks (met_by p x)) is) in
        subst (λ (x : Going SeatedState). SeatedVisitTold L x i there (record { is_done = true; partner = p; next = i + 1; present = there; moved = m₂ }) w' b' os' ls') (sym g)
        (record {
          words = ap (λ (x : ℕ). x ∷ p ∷ []) (sym own);
          next = omega (arith, own);
          marks = ap (marks_from 1 there) (e₂ ∙ ap (λ (x : ℕ). with x i) e₁) ∙ marks_at there (with moved p) i pos ∙ ap (λ (x : List Bool). set x (i - 1) true) (marks_at there moved p l);
          state = refl;
          kept = D.kept;
          few = omega (arith, few, size, counted w b os ls, counted w' b' os' ls');
          less = omega arith;
        })
      where
        left : Taken SeatedState → ℕ
        left (refuses n) = 0
        left (waits T) = 0
        left (steps T) = seated_threads T

        same_size : (q : Pair) → steps (seated_in w' b' os' ls') ≡ seated_by (owners_by S.owners i (thread_node L S i).tag) S.lines (done (state_in w b) i p (Meets q)) → seated_threads (seated_in w' b' os' ls') ≡ seated_threads S
        same_size q z =
            ap left z ∙ length-set (set S.state.threads (i - 1) q.first) (p - 1) q.second ∙ length-set S.state.threads (i - 1) q.first

  -- a visit, by what the lone choice comes to
  visit_by : (o : Taken SeatedState) → seated_choice L S i 0 ≡ o → the_visit ≡ going seated_threads (seated_choice L) S (i - 1) marks (lone_else o (meeting_with seated_threads (seated_choice L) S i receiver))
  unfolding visit visited
  visit_by o e =
      ap (λ (x : ℕ). going seated_threads (seated_choice L) S (i - 1) marks (lone_else (seated_choice L S x 0) (meeting_with seated_threads (seated_choice L) S x (receiver_for seated_threads (seated_choice L) S x 1 marks)))) own
      ∙ ap (λ (x : Taken SeatedState). going seated_threads (seated_choice L) S (i - 1) marks (lone_else x (meeting_with seated_threads (seated_choice L) S i receiver))) e

  module _ (kind : ℕ → ℕ) (r : Sat) (w' b' os' ls' : List ℕ) (D : ChoseSeated kind L i 0 r w b os ls w' b' os' ls') where
    abbrev T : SeatedState
    T = seated_in w' b' os' ls'

    told_as : (x : Sat) → r ≡ x → SatTold x (seated_choice L S i 0) S T
    told_as x e = subst (λ (y : Sat). SatTold y (seated_choice L S i 0) S T) e D.told

    -- a refused one leaves the state, and the thread may meet another
    pub lone_refused : (n : ℕ) → r ≡ sat.Refused n → (T ≡ S) × (there ≤ thread_count b') × (the_visit ≡ meeting_of receiver)
    lone_refused n e =
        let (h, same) = told_as (sat.Refused n) e in
        (same, omega (arith, few, ap seated_threads same, counted w b os ls, counted w' b' os' ls'), visit_by (refuses n) h)

    -- a meeting in tables that hold the same state
    pub met-told : (v : Visit) (w'' b'' os'' ls'' : List ℕ) → T ≡ S → the_visit ≡ meeting_of receiver
        → SeatedVisitTold L (going seated_threads (seated_choice L) T (i - 1) marks (meeting_with seated_threads (seated_choice L) T i (receiver_for seated_threads (seated_choice L) T i 1 marks))) i there v w'' b'' os'' ls''
        → SeatedVisitTold L the_visit i there v w'' b'' os'' ls''
    met-told v w'' b'' os'' ls'' same by t =
        subst (λ (x : Going SeatedState). SeatedVisitTold L x i there v w'' b'' os'' ls'')
        (ap (λ (x : SeatedState). going seated_threads (seated_choice L) x (i - 1) marks (meeting_with seated_threads (seated_choice L) x i (receiver_for seated_threads (seated_choice L) x i 1 marks))) same ∙ sym by) t

    -- one that gets no seat is in the list, and has not moved
    pub lone_waits : r ≡ sat.Waits → SeatedVisitTold L the_visit i there (record { is_done = true; partner = 0; next = i + 1; present = there; moved = moved }) w' b' os' ls'
    lone_waits e =
        let h = told_as sat.Waits e in
        let size : seated_threads T ≡ seated_threads S = ap threads_of (waits_state L S T i 0 h) in
        subst (λ (x : Going SeatedState). SeatedVisitTold L x i there (record { is_done = true; partner = 0; next = i + 1; present = there; moved = moved }) w' b' os' ls') (sym (visit_by (waits T) h))
        (record {
          words = ap (λ (x : ℕ). x ∷ 0 ∷ []) (sym own);
          next = omega (arith, own);
          marks = refl;
          state = refl;
          kept = D.kept;
          few = omega (arith, few, size, counted w b os ls, counted w' b' os' ls');
          less = omega arith;
        })

    pub lone_steps : (m : ℕ) → r ≡ sat.Steps → m ≡ with moved i → SeatedVisitTold L the_visit i there (record { is_done = true; partner = 0; next = i + 1; present = there; moved = m }) w' b' os' ls'
    lone_steps m e em =
        let (h, more) = told_as sat.Steps e in
        let long : ltb (seated_threads T) (seated_threads S) ≡ false = le-ltb (seated_threads T) (seated_threads S) more in
        subst (λ (x : Going SeatedState). SeatedVisitTold L x i there (record { is_done = true; partner = 0; next = i + 1; present = there; moved = m }) w' b' os' ls') (sym (visit_by (steps T) h))
        (record {
          words = ap (λ (x : ℕ). x ∷ 0 ∷ []) (sym own);
          next = let z : i + 1 ≡ suc (suc (i - 1)) = omega (arith, own) in rw long z;
          marks = rw long (ap (marks_from 1 there) em ∙ marks_at there moved i pos);
          state = refl;
          kept = D.kept;
          few = omega (arith, few, more, counted w b os ls, counted w' b' os' ls');
          less = omega arith;
        })

    pub lone_ends : (m : ℕ) → r ≡ sat.Ends → m ≡ close_up moved i → SeatedVisitTold L the_visit i there (record { is_done = true; partner = 0; next = i; present = there - 1; moved = m }) w' b' os' ls'
    lone_ends m e em =
        let (h, one) = told_as sat.Ends e in
        let short : ltb (seated_threads T) (seated_threads S) ≡ true = lt-ltb (seated_threads T) (seated_threads S) (omega (arith, one)) in
        subst (λ (x : Going SeatedState). SeatedVisitTold L x i there (record { is_done = true; partner = 0; next = i; present = there - 1; moved = m }) w' b' os' ls') (sym (visit_by (steps T) h))
        (record {
          words = ap (λ (x : ℕ). x ∷ 0 ∷ []) (sym own);
          next = rw short (sym own);
          marks = rw short (ap (marks_from 1 (there - 1)) em ∙ marks_left there moved i pos le);
          state = refl;
          kept = D.kept;
          few = omega (arith, few, one, counted w b os ls, counted w' b' os' ls');
          less = omega (arith, pos, le);
        })
