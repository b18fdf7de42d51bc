-- A choice that names a thread that there is none of is refused.
use Prim.Native.Nat.{ℕ, zero, suc, ◌+◌, ◌-◌, ◌≤◌, ◌<◌}
use mathlib.Core.Path.{◌≡◌, refl, sym, ap, ◌∙◌, subst}
use mathlib.Core.Logic.{◌⊎◌, inl, inr, ⊎_elim}
use mathlib.Core.Bool.{Bool, true, false, cond, not, ◌&&◌}
use mathlib.Core.List.{List, [], ◌∷◌}
use native.Mathlib.Omega.{arith}
use lib.Dec.{eqb, leb, ltb}
use lib.ListN.{length}
use borrow.Author.Tests.{eq-eqb, ne_eqb, leb-true}
use Rattle.format.specs.Contents.{in_count}
use Rattle.format.specs.declared.Node.{Node}
use Rattle.format.proofs.ContentsLaws.{in_count_lem}
use Rattle.steps.specs.declared.Thread.{Thread}
use Rattle.steps.specs.declared.Partner.TheVariants.{Alone, With, Missing}
use Rattle.steps.specs.declared.Outcome.{Outcome}
use Rattle.steps.specs.declared.Outcome.TheVariants.{Refused, Moves, Adds, Makes, Ends, Meets}
use Rattle.steps.specs.Choice.{Clinic, State, Chosen, halts, goes, thread_at, partner_at, sending, lone, alone_only, acting, done, outcome, choice}
use Rattle.rounds.specs.Round.{Taken, refuses, waits, steps}
use Rattle.schedules.specs.Tables.{Refuses, RefusesUnknown}
use Rattle.masks.specs.Mask.{has}
use Rattle.seats.specs.Seats.{Limited, SeatedState, sits, thread_node, owner_of, asks_seat, gets_seat, owners_by, lines_left, stand_in_line, seated_by, seated_choice}

-- there is no such thread, or no such partner
abbrev Beyond : ℕ → ℕ → ℕ → Type 0
Beyond n i p = (i ≡ 0) ⊎ ((n < i) ⊎ (n < p))

not_counted : (n i : ℕ) → ((i ≡ 0) ⊎ (n < i)) → in_count n i ≡ false
not_counted n i h = go (in_count n i) refl
  where
    go : (b : Bool) → in_count n i ≡ b → in_count n i ≡ false
    go false e = e
    go true e =
        let (one, most) = in_count_lem n i e in
        absurd (⊎_elim (λ z. let no : ⊥ = omega (arith, z, one) in no) (λ z. let no : ⊥ = omega (arith, z, most) in no) h)

not_within : (n p : ℕ) → n < p → leb p n ≡ false
not_within n p h = go (leb p n) refl
  where
    go : (b : Bool) → leb p n ≡ b → leb p n ≡ false
    go false e = e
    go true e = let no : ⊥ = omega (arith, h, leb-true p n e) in absurd no

-- the choice with no such partner, by the tag
missed : (C : Clinic) (n : ℕ) (s : State) (t : Thread) → acting C n s.made t Missing ≡ Refused 18
unfolding acting sending alone_only
missed C n s t = go (in_count C.nodes t.node) (eqb (C.node t.node).tag 6) (eqb (C.node t.node).tag 5)
  where
    go : (x y z : Bool) → cond x (cond y (Refused 18) (cond z (Refused 18) (Refused 18))) (Refused 18) ≡ Refused 18
    go false y z = refl
    go true true z = refl
    go true false true = refl
    go true false false = refl

beyond_refused : (C : Clinic) (s : State) (i p : ℕ) → Beyond (length s.threads) i p → choice C s i p ≡ halts 18
unfolding choice outcome done
beyond_refused C s i p (inl z) = rw (not_counted (length s.threads) i (inl z))
beyond_refused C s i p (inr (inl z)) = rw (not_counted (length s.threads) i (inr z))
beyond_refused C s i p (inr (inr z)) = go (in_count (length s.threads) i)
  where
    partner : partner_at s p ≡ Missing
    partner = rw (ne_eqb p 0 (λ e. let no : ⊥ = omega (arith, z, e) in no), not_within (length s.threads) p z)

    act : acting C (length s.threads) s.made (thread_at s i) (partner_at s p) ≡ Refused 18
    act = ap (acting C (length s.threads) s.made (thread_at s i)) partner ∙ missed C (length s.threads) s (thread_at s i)

    go : (b : Bool) → done s i p (cond b (acting C (length s.threads) s.made (thread_at s i) (partner_at s p)) (Refused 18)) ≡ halts 18
    go false = refl
    go true = ap (done s i p) act

-- no seat is asked for there
asks_none : (L : Limited) (S : SeatedState) (i p : ℕ) → Beyond (length S.state.threads) i p → asks_seat L S i p ≡ false
unfolding asks_seat
asks_none L S i p (inl z) = rw (not_counted (length S.state.threads) i (inl z))
asks_none L S i p (inr (inl z)) = rw (not_counted (length S.state.threads) i (inr z))
asks_none L S i p (inr (inr z)) = go (in_count (length S.state.threads) i) (in_count L.clinic.nodes (thread_at S.state i).node)
  where
    rest : Bool
    rest =
        eqb (thread_node L S i).tag 7
        && (has (L.clinic.schema.assigned (thread_at S.state i).user) (thread_node L S i).f1
        && (ltb 0 (L.seats (thread_node L S i).f1) && not (sits S (owner_of S i) (thread_node L S i).f1)))

    other : eqb p 0 ≡ false
    other = ne_eqb p 0 (λ e. let no : ⊥ = omega (arith, z, e) in no)

    go : (x y : Bool) → x && (y && (eqb p 0 && rest)) ≡ false
    go false y = refl
    go true false = refl
    go true true = ap (λ (b : Bool). b && rest) other

abbrev pub seated_threads : SeatedState → ℕ
seated_threads S = length S.state.threads

pub seated_refuses_unknown : (L : Limited) → RefusesUnknown (seated_choice L) seated_threads
unfolding seated_choice
seated_refuses_unknown L S i p h =
    subst (λ (b : Bool). Refuses (cond (b && not (gets_seat L S i)) (waits (stand_in_line L S i)) (seated_by (owners_by S.owners i (thread_node L S i).tag) (cond b (lines_left L S i) S.lines) (choice L.clinic S.state i p))))
    (sym (asks_none L S i p h))
    (subst (λ (x : Chosen). Refuses (seated_by (owners_by S.owners i (thread_node L S i).tag) S.lines x)) (sym (beyond_refused L.clinic S.state i p h)) tt)
