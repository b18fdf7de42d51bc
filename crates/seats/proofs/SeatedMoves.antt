-- What a seated choice does to the lines and to the threads' sessions, in words.
use Prim.Native.Nat.{ℕ, zero, suc, ◌+◌, ◌-◌, ◌≤◌, ◌<◌}
use mathlib.Core.Path.{◌≡◌, refl, sym, ap, ◌∙◌, subst}
use mathlib.Core.Logic.{◌⊎◌, inl, inr, ◌≢◌}
use mathlib.Core.Bool.{Bool, true, false, cond}
use mathlib.Core.List.{List, [], ◌∷◌, ◌++◌}
use native.Mathlib.Omega.{arith}
use lib.Dec.{eqb}
use lib.ListN.{length, get_or, set, take, drop, length-set}
use borrow.Author.Tests.{eq-eqb, ne_eqb}
use Rattle.format.specs.declared.Node.{Node}
use Rattle.steps.specs.Choice.{Clinic, State, thread_at}
use Rattle.running_exact.specs.Steps.{StandsAt, Steps, on, off, fork, repeat, new, compare, end, meet}
use Rattle.rounds.specs.Round.{Taken, refuses, waits, steps}
use Rattle.seats.specs.Seats.{Limited, SeatedState, thread_node, owner_of, in_line, line_with, owners_by, seated_choice}
use Rattle.seats.specs.SeatOrder.{AsksSeat, IsNext, SeatedStep, got_none, took_seat, asked_none, refused_plainly}
use Rattle.seats.proofs.StepOwners.{owners_gone, owners_more, owners_same, length-snoc, length_removed}
use Rattle.seats.proofs.SeatedTold.{seated_agrees}
use Rattle.seats.proofs.SeatedKept.{line_at, line_off}

module _ (L : Limited) (S : SeatedState) (i p : ℕ) where
  abbrev role : ℕ
  role = (thread_node L S i).f1

  abbrev own : ℕ
  own = owner_of S i

  -- the line with the session at its end, or the old one where it is in it already
  abbrev Joins : List ℕ → Type 0
  Joins l =
      ((in_line own (S.lines role) ≡ true) × (l ≡ S.lines role)) ⊎ ((in_line own (S.lines role) ≡ false) × (l ≡ S.lines role ++ (own ∷ [])))

  -- no line and none after it, or the session was its head
  abbrev Leaves : List ℕ → Type 0
  Leaves l = ((S.lines role ≡ []) × (l ≡ [])) ⊎ (S.lines role ≡ own ∷ l)

  abbrev Does : Taken SeatedState → Type 0
  Does (refuses n) = Unit {0}
  Does (waits S') = Joins (S'.lines role)
  Does (steps S') =
      (AsksSeat L S i p × Leaves (S'.lines role) × ((r : ℕ) → r ≢ role → S'.lines r ≡ S.lines r))
      ⊎ ((AsksSeat L S i p → ⊥) × ((r : ℕ) → S'.lines r ≡ S.lines r))

  joins : Joins (line_with (S.lines role) own)
  unfolding line_with
  joins = go (in_line own (S.lines role)) refl
    where
      go : (b : Bool) → in_line own (S.lines role) ≡ b → Joins (cond b (S.lines role) (S.lines role ++ (own ∷ [])))
      go true e = inl (e, refl)
      go false e = inr (e, refl)

  leaves : (l : List ℕ) → S.lines role ≡ l → IsNext l own → Leaves (drop 1 l)
  leaves [] e n = inl (e, refl)
  leaves (x ∷ l) e n = inr (e ∙ ap {B = List ℕ} (λ y. y ∷ l) n)

  does : (a : Taken SeatedState) → SeatedStep L S i p a → Does a
  does a (got_none A G) = subst Joins (sym (line_at S.lines role role (line_with (S.lines role) own) refl)) joins
  does a (took_seat A G s st) =
      inl (A, subst Leaves (sym (line_at S.lines role role (drop 1 (S.lines role)) refl)) (leaves (S.lines role) refl G.1), λ r z. line_off S.lines role r (drop 1 (S.lines role)) z)
  does a (asked_none A s st) = inr (A, λ r. refl)
  does a (refused_plainly A n h) = tt

  -- One that waits: its session is at the line's end, or where it stood already.
  pub waits_joins : (S' : SeatedState) → seated_choice L S i p ≡ waits S'
      → ((in_line own (S.lines role) ≡ true) × (S'.lines role ≡ S.lines role)) ⊎ ((in_line own (S.lines role) ≡ false) × (S'.lines role ≡ S.lines role ++ (own ∷ [])))
  waits_joins S' e = does (waits S') ((seated_agrees L S i p (waits S')).0 e)

  -- One that goes on: where it asked for a seat there was no line, or the session was its head and leaves it; every other line, and all lines where it asked for none, stay.
  pub steps_lines : (S' : SeatedState) → seated_choice L S i p ≡ steps S'
      → (AsksSeat L S i p × (((S.lines role ≡ []) × (S'.lines role ≡ [])) ⊎ (S.lines role ≡ own ∷ S'.lines role)) × ((r : ℕ) → r ≢ role → S'.lines r ≡ S.lines r))
      ⊎ ((AsksSeat L S i p → ⊥) × ((r : ℕ) → S'.lines r ≡ S.lines r))
  steps_lines S' e = does (steps S') ((seated_agrees L S i p (steps S')).0 e)

-- A thread's session.
module _ (C : Clinic) (s : State) (os : List ℕ) where
  abbrev tag_at : ℕ → ℕ
  tag_at i = (C.node (thread_at s i).node).tag

  -- as many threads: the same; one more: its maker's, at the end; one less: its own goes
  abbrev Follow : ℕ → State → List ℕ → Type 0
  Follow i s' os' =
      ((length s'.threads ≡ length s.threads) × (os' ≡ os))
      ⊎ (((length s'.threads ≡ suc (length s.threads)) × (os' ≡ os ++ (get_or os (i - 1) 0 ∷ [])))
      ⊎ ((suc (length s'.threads) ≡ length s.threads) × (os' ≡ take (i - 1) os ++ drop i os)))

  tag_is : (i : ℕ) (n : Node) (v : ℕ) → StandsAt C s i n → n.tag ≡ v → tag_at i ≡ v
  tag_is i n v st e = ap (λ (m : Node). m.tag) st.2 ∙ e

  follow : (i p : ℕ) (s' : State) → Steps C s i p s' → Follow i s' (owners_by os i (tag_at i))
  follow i' p' s' (on i n st e a) = inl (length-set s.threads (i - 1) _, owners_same os i (tag_at i) (omega (arith, tag_is i n 7 st e)))
  follow i' p' s' (off i n st e a) = inl (length-set s.threads (i - 1) _, owners_same os i (tag_at i) (omega (arith, tag_is i n 8 st e)))
  follow i' p' s' (fork i n st e a) =
      inr (inl (length-snoc (set s.threads (i - 1) _) _ ∙ ap suc (length-set s.threads (i - 1) _), owners_more os i (tag_at i) (inl (tag_is i n 1 st e))))
  follow i' p' s' (repeat i n st e a) =
      inr (inl (length-snoc (set s.threads (i - 1) _) _ ∙ ap suc (length-set s.threads (i - 1) _), owners_more os i (tag_at i) (inr (tag_is i n 2 st e))))
  follow i' p' s' (new i n st e a) = inl (length-set s.threads (i - 1) _, owners_same os i (tag_at i) (omega (arith, tag_is i n 3 st e)))
  follow i' p' s' (compare i n st e a) = inl (length-set s.threads (i - 1) _, owners_same os i (tag_at i) (omega (arith, tag_is i n 4 st e)))
  follow i' p' s' (end i n st e) = inr (inr (length_removed s.threads i st.0, owners_gone os i (tag_at i) (tag_is i n 0 st e)))
  follow i' p' s' (meet i p n m st e sp d a b c) =
      inl (length-set (set s.threads (i - 1) _) (p - 1) _ ∙ length-set s.threads (i - 1) _, owners_same os i (tag_at i) (omega (arith, tag_is i n 6 st e)))

module _ (L : Limited) (S : SeatedState) (i p : ℕ) where
  abbrev Followed : Taken SeatedState → Type 0
  Followed (refuses n) = Unit {0}
  Followed (waits S') = S'.owners ≡ S.owners
  Followed (steps S') = Follow L.clinic S.state S.owners i S'.state S'.owners

  followed : (a : Taken SeatedState) → SeatedStep L S i p a → Followed a
  followed a (got_none A G) = refl
  followed a (took_seat A G s st) = follow L.clinic S.state S.owners i p s st
  followed a (asked_none A s st) = follow L.clinic S.state S.owners i p s st
  followed a (refused_plainly A n h) = tt

  -- A new thread has its maker's session, an end takes its own away, and no other choice changes a thread's session.
  pub owners_follow : (S' : SeatedState) → seated_choice L S i p ≡ steps S'
      → ((length S'.state.threads ≡ length S.state.threads) × (S'.owners ≡ S.owners))
      ⊎ (((length S'.state.threads ≡ suc (length S.state.threads)) × (S'.owners ≡ S.owners ++ (owner_of S i ∷ [])))
      ⊎ ((suc (length S'.state.threads) ≡ length S.state.threads) × (S'.owners ≡ take (i - 1) S.owners ++ drop i S.owners)))
  owners_follow S' e = followed (steps S') ((seated_agrees L S i p (steps S')).0 e)
