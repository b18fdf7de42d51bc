-- A seated choice, as a function and in words.
use Prim.Native.Nat.{ℕ, zero, suc, ◌-◌, ◌≤◌, ◌<◌}
use mathlib.Core.Path.{◌≡◌, refl, sym, ap, ◌∙◌, subst}
use mathlib.Core.Logic.{◌⊎◌, inl, inr, ◌↔◌, ◌≢◌}
use mathlib.Core.Bool.{Bool, true, false, cond, not, ◌&&◌}
use mathlib.Core.List.{List, [], ◌∷◌}
use native.Mathlib.Omega.{arith}
use lib.Dec.{eqb, leb, ltb}
use lib.ListN.{length, get_or}
use borrow.Author.Tests.{ltb-true, lt-ltb, eqb-true, eq-eqb, ne_eqb, not-true}
use Rattle.masks.specs.Mask.{has, with}
use Rattle.format.proofs.BoolLaws.{eq_iff, le_iff, and_iff}
use Rattle.format.proofs.ContentsLaws.{in_count_iff}
use Rattle.steps.specs.Threads.{masked}
use Rattle.steps.specs.Choice.{State, Chosen, thread_at, changed, choice, halts, goes}
use Rattle.reading_exact.specs.File.{InCount}
use Rattle.running_exact.specs.Steps.{Steps, on}
use Rattle.running_exact.proofs.StepsChosen.{steps_choice}
use Rattle.running_exact.proofs.Agree.{choice_steps, never_both}
use Rattle.rounds.specs.Round.{Taken, refuses, waits, steps}
use Rattle.seats.specs.Seats.{Limited, SeatedState, sits, seats_taken, thread_node, owner_of, asks_seat, is_next, gets_seat, owners_by, seated_by, lines_left, stand_in_line, seated_choice}
use Rattle.seats.specs.SeatOrder.{AsksSeat, IsNext, GetsSeat, SeatedStep, got_none, took_seat, asked_none, refused_plainly}
use Rattle.seats.proofs.LineLaws.{never}

lt_iff : (a b : ℕ) → (ltb a b ≡ true) ↔ (a < b)
lt_iff a b = (ltb-true a b, lt-ltb a b)

not_iff : (b : Bool) → (not b ≡ true) ↔ (b ≡ false)
not_iff b = (not-true b, λ e. ap not e)

next_iff : (l : List ℕ) (k : ℕ) → (is_next l k ≡ true) ↔ IsNext l k
unfolding is_next
next_iff [] k = (λ e. tt, λ e. refl)
next_iff (x ∷ l) k = eq_iff x k

same_iff : (b : Bool) → (b ≡ true) ↔ (b ≡ true)
same_iff b = (λ e. e, λ e. e)

both_iff : {a b : Bool} {A B : Type 0} → ((a ≡ true) ↔ A) → ((b ≡ true) ↔ B) → ((a && b) ≡ true) ↔ (A × B)
both_iff p q = and_iff p (λ _. q)

module _ (L : Limited) (S : SeatedState) (i p : ℕ) where
  pub asks_iff : (asks_seat L S i p ≡ true) ↔ AsksSeat L S i p
  unfolding asks_seat
  asks_iff =
      let all =
      both_iff (in_count_iff (length S.state.threads) i)
      (both_iff (in_count_iff L.clinic.nodes (thread_at S.state i).node)
      (both_iff (eq_iff p 0)
      (both_iff (eq_iff (thread_node L S i).tag 7)
      (both_iff (same_iff (has (L.clinic.schema.assigned (thread_at S.state i).user) (thread_node L S i).f1))
      (both_iff (lt_iff 0 (L.seats (thread_node L S i).f1)) (not_iff (sits S (owner_of S i) (thread_node L S i).f1))))))) in (
        λ e. let (a, (b, (c, (d, (f, (g, h)))))) = all.0 e in record { thread = a; node = b; alone = c; on = d; assigned = f; limited = g; without = h },
        λ A. all.1 (A.thread, (A.node, (A.alone, (A.on, (A.assigned, (A.limited, A.without)))))),
      )

  pub gets_iff : (gets_seat L S i ≡ true) ↔ GetsSeat L S i
  unfolding gets_seat
  gets_iff =
      and_iff (lt_iff (seats_taken L S (thread_node L S i).f1) (L.seats (thread_node L S i).f1)) (λ _. next_iff (S.lines (thread_node L S i).f1) (owner_of S i))

  -- the state after the on that asks
  abbrev pub put_on : State
  put_on = changed S.state i (masked (thread_at S.state i) (with (thread_at S.state i).mask (thread_node L S i).f1))

  -- a choice that asks for a seat is a step, but for the seat
  pub asks_steps : AsksSeat L S i p → Steps L.clinic S.state i p put_on
  asks_steps A =
      subst (λ (q : ℕ). Steps L.clinic S.state i q put_on) (sym A.alone) (on i (thread_node L S i) (A.thread, A.node, refl) A.on A.assigned)

  no_asks : asks_seat L S i p ≡ false → AsksSeat L S i p → ⊥
  no_asks e A = never (asks_iff.1 A) e

  no_gets : gets_seat L S i ≡ false → GetsSeat L S i → ⊥
  no_gets e G = never (gets_iff.1 G) e

  not_asked : (AsksSeat L S i p → ⊥) → asks_seat L S i p ≡ false
  not_asked f = go (asks_seat L S i p) refl
    where
      go : (b : Bool) → asks_seat L S i p ≡ b → b ≡ false
      go true e = absurd (f (asks_iff.0 e))
      go false e = refl

  not_got : (GetsSeat L S i → ⊥) → gets_seat L S i ≡ false
  not_got f = go (gets_seat L S i) refl
    where
      go : (b : Bool) → gets_seat L S i ≡ b → b ≡ false
      go true e = absurd (f (gets_iff.0 e))
      go false e = refl

  pub asks_or : AsksSeat L S i p ⊎ (AsksSeat L S i p → ⊥)
  asks_or = go (asks_seat L S i p) refl
    where
      go : (b : Bool) → asks_seat L S i p ≡ b → AsksSeat L S i p ⊎ (AsksSeat L S i p → ⊥)
      go true e = inl (asks_iff.0 e)
      go false e = inr (no_asks e)

  pub gets_or : GetsSeat L S i ⊎ (GetsSeat L S i → ⊥)
  gets_or = go (gets_seat L S i) refl
    where
      go : (b : Bool) → gets_seat L S i ≡ b → GetsSeat L S i ⊎ (GetsSeat L S i → ⊥)
      go true e = inl (gets_iff.0 e)
      go false e = inr (no_gets e)

  abbrev after : List ℕ
  after = owners_by S.owners i (thread_node L S i).tag

  -- The function does what the words say, and nothing else is so.
  pub choice_seated : SeatedStep L S i p (seated_choice L S i p)
  unfolding seated_choice
  choice_seated = go (asks_seat L S i p) (gets_seat L S i) (choice L.clinic S.state i p) refl refl refl
    where
      go : (a g : Bool) (o : Chosen) → asks_seat L S i p ≡ a → gets_seat L S i ≡ g → choice L.clinic S.state i p ≡ o
          → SeatedStep L S i p (cond (a && not g) (waits (stand_in_line L S i)) (seated_by after (cond a (lines_left L S i) S.lines) o))
      go true true (goes s) x y z = took_seat (asks_iff.0 x) (gets_iff.0 y) s (choice_steps L.clinic S.state i p s z)
      go true true (halts n) x y z =
          absurd (never_both L.clinic S.state i p n put_on z (steps_choice L.clinic S.state i p put_on (asks_steps (asks_iff.0 x))))
      go true false o x y z = got_none (asks_iff.0 x) (no_gets y)
      go false g (goes s) x y z = asked_none (no_asks x) s (choice_steps L.clinic S.state i p s z)
      go false g (halts n) x y z = refused_plainly (no_asks x) n z

  pub seated_choice_lem : (a : Taken SeatedState) → SeatedStep L S i p a → seated_choice L S i p ≡ a
  unfolding seated_choice
  seated_choice_lem a (got_none A G) = rw (asks_iff.1 A, not_got G)
  seated_choice_lem a (took_seat A G s st) = rw (asks_iff.1 A, gets_iff.1 G, steps_choice L.clinic S.state i p s st)
  seated_choice_lem a (asked_none A s st) = rw (not_asked A, steps_choice L.clinic S.state i p s st)
  seated_choice_lem a (refused_plainly A n h) = rw (not_asked A, h)

  pub seated_agrees : (a : Taken SeatedState) → (seated_choice L S i p ≡ a) ↔ SeatedStep L S i p a
  seated_agrees a = (λ e. subst (SeatedStep L S i p) e choice_seated, seated_choice_lem a)

  -- what each answer says
  abbrev AnswerSays : Taken SeatedState → Type 0
  AnswerSays (steps S') = Steps L.clinic S.state i p S'.state × (AsksSeat L S i p → GetsSeat L S i)
  AnswerSays (waits S') =
      AsksSeat L S i p × (GetsSeat L S i → ⊥) × (S'.state ≡ S.state) × (S'.owners ≡ S.owners)
      × ((r : ℕ) → r ≢ (thread_node L S i).f1 → S'.lines r ≡ S.lines r)
  AnswerSays (refuses n) = choice L.clinic S.state i p ≡ halts n

  says : (a : Taken SeatedState) → SeatedStep L S i p a → AnswerSays a
  says a (got_none A G) = (A, G, refl, refl, λ r z. rw (ne_eqb r (thread_node L S i).f1 z))
  says a (took_seat A G s st) = (st, λ _. G)
  says a (asked_none A s st) = (st, λ B. absurd (A B))
  says a (refused_plainly A n h) = h

  told : (a : Taken SeatedState) → seated_choice L S i p ≡ a → AnswerSays a
  told a e = says a ((seated_agrees a).0 e)

  -- A choice steps on, to a state, exactly where it is a step to that state and gets a seat if it asks for one.
  pub goes_iff : (s : State)
      → ((S' : SeatedState) × (seated_choice L S i p ≡ steps S') × (S'.state ≡ s)) ↔ (Steps L.clinic S.state i p s × (AsksSeat L S i p → GetsSeat L S i))
  goes_iff s = (λ (S', e, q). subst (λ (x : State). Steps L.clinic S.state i p x × (AsksSeat L S i p → GetsSeat L S i)) q (told (steps S') e), λ (st, f). back st f asks_or)
    where
      back : Steps L.clinic S.state i p s → (AsksSeat L S i p → GetsSeat L S i) → AsksSeat L S i p ⊎ (AsksSeat L S i p → ⊥)
          → (S' : SeatedState) × (seated_choice L S i p ≡ steps S') × (S'.state ≡ s)
      back st f (inl A) = (_, seated_choice_lem _ (took_seat A (f A) s st), refl)
      back st f (inr A) = (_, seated_choice_lem _ (asked_none A s st), refl)

  -- It is answered 26 exactly where it asks for a seat and does not get one.
  pub waits_iff : ((S' : SeatedState) × (seated_choice L S i p ≡ waits S')) ↔ (AsksSeat L S i p × (GetsSeat L S i → ⊥))
  waits_iff = (λ (S', e). let (A, G, x, y, z) = told (waits S') e in (A, G), λ (A, G). (stand_in_line L S i, seated_choice_lem _ (got_none A G)))

  -- Then the state, the threads' sessions and all other lines are the same.
  pub waits_only_line : (S' : SeatedState) → seated_choice L S i p ≡ waits S'
      → (S'.state ≡ S.state) × (S'.owners ≡ S.owners) × ((r : ℕ) → r ≢ (thread_node L S i).f1 → S'.lines r ≡ S.lines r)
  waits_only_line S' e = let (A, G, x, y, z) = told (waits S') e in (x, y, z)

  -- It is refused exactly as it is without seats.
  pub halts_iff : (n : ℕ) → (seated_choice L S i p ≡ refuses n) ↔ (choice L.clinic S.state i p ≡ halts n)
  halts_iff n = (told (refuses n), λ e. back e asks_or)
    where
      back : choice L.clinic S.state i p ≡ halts n → AsksSeat L S i p ⊎ (AsksSeat L S i p → ⊥) → seated_choice L S i p ≡ refuses n
      back e (inl A) = absurd (never_both L.clinic S.state i p n put_on e (steps_choice L.clinic S.state i p put_on (asks_steps A)))
      back e (inr A) = seated_choice_lem _ (refused_plainly A n e)
