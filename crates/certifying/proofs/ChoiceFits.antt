-- A choice leaves each thread its eight variables, and at most 64 threads and 64 made channels.
use Prim.Native.Nat.{ℕ, zero, suc, ◌+◌, ◌-◌, ◌≤◌, ◌<◌}
use mathlib.Core.Path.{◌≡◌, refl, ◌∙◌}
use mathlib.Core.Bool.{Bool, true, false, cond, not, ◌&&◌}
use mathlib.Core.List.{List, [], ◌∷◌}
use native.Mathlib.Omega.{arith}
use lib.Dec.{eqb, leb, ltb}
use lib.ListN.{length, get_or, set, take, drop, length-append, length-set, length-take, length-drop}
use borrow.Author.Tests.{ltb-true}
use Rattle.masks.specs.Mask.{has, with, without}
use Rattle.format.specs.Contents.{in_count}
use Rattle.format.specs.declared.Node.{Node}
use Rattle.reading_exact.specs.Lists.{All}
use Rattle.reading_exact.proofs.AllLaws.{all_append}
use Rattle.rules.specs.declared.Way.TheVariants.{Sends, Receives}
use Rattle.steps.specs.declared.Thread.{Thread}
use Rattle.steps.specs.declared.Made.{Made}
use Rattle.steps.specs.declared.Partner.{Partner}
use Rattle.steps.specs.declared.Partner.TheVariants.{Alone, With, Missing}
use Rattle.steps.specs.declared.Outcome.{Outcome}
use Rattle.steps.specs.declared.Outcome.TheVariants.{Refused, Moves, Adds, Makes, Ends, Meets}
use Rattle.steps.specs.Threads.{no_thread, value, moved_to, onward, masked, bound, first_free}
use Rattle.steps.specs.Choice.{Clinic, State, Chosen, halts, goes, thread_at, partner_at, is_allowed, meeting, sending, lone, alone_only, acting, done, outcome, choice}
use Rattle.running_exact.proofs.OutputWords.{Eight}
use Rattle.running_exact.proofs.ThreadLists.{all_set}
use Rattle.rounds.specs.Round.{waits}
use Rattle.seats.specs.Seats.{Limited, SeatedState, seated_choice, seated_by, asks_seat, gets_seat, stand_in_line, owners_by, thread_node, lines_left}
use Rattle.schedules.specs.Tables.{LeadsTo}

bound_eight : (t : Thread) (v : ℕ) → Eight t → Eight (bound t v)
bound_eight t v e = length-set t.vars (first_free t.vars) v ∙ e

abbrev EightWith : Partner → Type 0
EightWith Alone = Unit {0}
EightWith Missing = Unit {0}
EightWith (With r) = Eight r

-- what a choice comes to, with so many threads and these made channels
module _ (C : Clinic) (n : ℕ) (made : List Made) where
  abbrev FitsIn : Outcome → Type 0
  FitsIn (Refused x) = Unit {0}
  FitsIn (Moves t) = Eight t
  FitsIn (Adds q) = Eight q.first × Eight q.second × (n < 64)
  FitsIn (Makes q) = Eight q.thread × (length made < 64)
  FitsIn Ends = Unit {0}
  FitsIn (Meets q) = Eight q.first × Eight q.second

  by_test : (b : Bool) (x : Outcome) (y : ℕ) → (b ≡ true → FitsIn x) → FitsIn (cond b x (Refused y))
  by_test true x y h = h refl
  by_test false x y h = tt

  either : (b : Bool) (x y : Outcome) → FitsIn x → FitsIn y → FitsIn (cond b x y)
  either true x y h k = h
  either false x y h k = k

  one_of : (a b c d e f g : Bool) (o p q r s t u v : Outcome) → FitsIn o → FitsIn p → FitsIn q → FitsIn r → FitsIn s → FitsIn t → FitsIn u → FitsIn v
      → FitsIn (cond a o (cond b p (cond c q (cond d r (cond e s (cond f t (cond g u v)))))))
  one_of true b c d e f g o p q r s t u v h1 h2 h3 h4 h5 h6 h7 h8 = h1
  one_of false true c d e f g o p q r s t u v h1 h2 h3 h4 h5 h6 h7 h8 = h2
  one_of false false true d e f g o p q r s t u v h1 h2 h3 h4 h5 h6 h7 h8 = h3
  one_of false false false true e f g o p q r s t u v h1 h2 h3 h4 h5 h6 h7 h8 = h4
  one_of false false false false true f g o p q r s t u v h1 h2 h3 h4 h5 h6 h7 h8 = h5
  one_of false false false false false true g o p q r s t u v h1 h2 h3 h4 h5 h6 h7 h8 = h6
  one_of false false false false false false true o p q r s t u v h1 h2 h3 h4 h5 h6 h7 h8 = h7
  one_of false false false false false false false o p q r s t u v h1 h2 h3 h4 h5 h6 h7 h8 = h8

  lone_fits : (t : Thread) (m : Node) → Eight t → FitsIn (lone C n (length made) t m)
  unfolding lone
  lone_fits t m e =
      one_of (eqb m.tag 0) (eqb m.tag 1) (eqb m.tag 2) (eqb m.tag 3) (eqb m.tag 4) (eqb m.tag 7) (eqb m.tag 8)
      Ends
      (cond (ltb n 64) (Adds (record { first = onward t; second = moved_to t m.f1 })) (Refused 20))
      (cond (ltb n 64) (Adds (record { first = t; second = onward t })) (Refused 20))
      (cond (ltb (length made) 64) (Makes (record { thread = bound t (385 + length made); made = record { owner = t.user; kind = record { 0 = m.f1 } } }))
      (Refused 20))
      (cond (eqb (value t m.f1) (value t m.f2)) (Moves (onward t)) (Refused 19))
      (cond (has (C.schema.assigned t.user) m.f1) (Moves (masked t (with t.mask m.f1))) (Refused 11))
      (cond (has t.mask m.f1) (Moves (masked t (without t.mask m.f1))) (Refused 12))
      (Refused 18)
      tt
      (by_test (ltb n 64) (Adds (record { first = onward t; second = moved_to t m.f1 })) 20 (λ h. (e, e, ltb-true n 64 h)))
      (by_test (ltb n 64) (Adds (record { first = t; second = onward t })) 20 (λ h. (e, e, ltb-true n 64 h)))
      (by_test (ltb (length made) 64)
      (Makes (record { thread = bound t (385 + length made); made = record { owner = t.user; kind = record { 0 = m.f1 } } })) 20
      (λ h. (bound_eight t (385 + length made) e, ltb-true (length made) 64 h)))
      (by_test (eqb (value t m.f1) (value t m.f2)) (Moves (onward t)) 19 (λ h. e))
      (by_test (has (C.schema.assigned t.user) m.f1) (Moves (masked t (with t.mask m.f1))) 11 (λ h. e))
      (by_test (has t.mask m.f1) (Moves (masked t (without t.mask m.f1))) 12 (λ h. e))
      tt

  alone_fits : (p : Partner) (o : Outcome) → FitsIn o → FitsIn (alone_only p o)
  unfolding alone_only
  alone_fits Alone o h = h
  alone_fits Missing o h = tt
  alone_fits (With r) o h = tt

  meeting_fits : (t : Thread) (k : Node) (r : Thread) (m : Node) → Eight t → Eight r → FitsIn (meeting C made t k r m)
  unfolding meeting
  meeting_fits t k r m e f =
      by_test (is_allowed C made t Sends k.f1 && is_allowed C made r Receives m.f1)
      (cond (eqb (value t k.f1) (value r m.f1)) (Meets (record { first = onward t; second = bound r (value t k.f2) })) (Refused 19)) 13
      (λ h. by_test (eqb (value t k.f1) (value r m.f1)) (Meets (record { first = onward t; second = bound r (value t k.f2) })) 19
      (λ g. (e, bound_eight r (value t k.f2) f)))

  sending_fits : (t : Thread) (k : Node) (p : Partner) → Eight t → EightWith p → FitsIn (sending C made t k p)
  unfolding sending
  sending_fits t k Alone e f = tt
  sending_fits t k Missing e f = tt
  sending_fits t k (With r) e f =
      by_test (in_count C.nodes r.node && eqb (C.node r.node).tag 5) (meeting C made t k r (C.node r.node)) 18
      (λ h. meeting_fits t k r (C.node r.node) e f)

  acting_fits : (t : Thread) (p : Partner) → Eight t → EightWith p → FitsIn (acting C n made t p)
  unfolding acting
  acting_fits t p e f =
      let m : Node = C.node t.node in
      by_test (in_count C.nodes t.node) (cond (eqb m.tag 6) (sending C made t m p)
      (cond (eqb m.tag 5) (Refused 18) (alone_only p (lone C n (length made) t m)))) 18
      (λ h. either (eqb m.tag 6) (sending C made t m p) (cond (eqb m.tag 5) (Refused 18) (alone_only p (lone C n (length made) t m)))
      (sending_fits t m p e f)
      (either (eqb m.tag 5) (Refused 18) (alone_only p (lone C n (length made) t m)) tt (alone_fits p (lone C n (length made) t m) (lone_fits t m e))))

-- threads of a list, and a list without one
nth_eight : (ts : List Thread) → All Eight ts → (k : ℕ) → Eight (get_or ts k no_thread)
nth_eight [] h k = refl
nth_eight (t ∷ ts) (e, h) zero = e
nth_eight (t ∷ ts) (e, h) (suc k) = nth_eight ts h k

take_eight : (k : ℕ) (ts : List Thread) → All Eight ts → All Eight (take k ts)
take_eight zero ts h = tt
take_eight (suc k) [] h = tt
take_eight (suc k) (t ∷ ts) (e, h) = (e, take_eight k ts h)

drop_eight : (k : ℕ) (ts : List Thread) → All Eight ts → All Eight (drop k ts)
drop_eight zero ts h = h
drop_eight (suc k) [] h = tt
drop_eight (suc k) (t ∷ ts) (e, h) = drop_eight k ts h

-- a state whose threads have eight variables each; and one of at most 64 threads and 64 made channels
abbrev pub Eights : State → Type 0
Eights s = All Eight s.threads

abbrev pub Few : State → Type 0
Few s = (length s.threads ≤ 64) × (length s.made ≤ 64)

abbrev After : (State → Type 0) → Chosen → Type 0
After P (halts n) = Unit {0}
After P (goes s) = P s

done_eight : (C : Clinic) (s : State) (i p : ℕ) (o : Outcome) → Eights s → FitsIn C (length s.threads) s.made o → After Eights (done s i p o)
unfolding done
done_eight C s i p (Refused n) h e = tt
done_eight C s i p (Moves t) h e = all_set Eight s.threads (i - 1) t e h
done_eight C s i p (Adds q) h (e, f, z) = all_append Eight (set s.threads (i - 1) q.first) (q.second ∷ [])
    (all_set Eight s.threads (i - 1) q.first e h) (f, tt)
done_eight C s i p (Makes q) h (e, z) = all_set Eight s.threads (i - 1) q.thread e h
done_eight C s i p Ends h e = all_append Eight (take (i - 1) s.threads) (drop i s.threads) (take_eight (i - 1) s.threads h)
    (drop_eight i s.threads h)
done_eight C s i p (Meets q) h (e, f) = all_set Eight (set s.threads (i - 1) q.first) (p - 1) q.second f
    (all_set Eight s.threads (i - 1) q.first e h)

done_few : (C : Clinic) (s : State) (i p : ℕ) (o : Outcome) → Few s → FitsIn C (length s.threads) s.made o → After Few (done s i p o)
unfolding done
done_few C s i p (Refused n) few e = tt
done_few C s i p (Moves t) (a, b) e = (omega (arith, length-set s.threads (i - 1) t), b)
done_few C s i p (Adds q) (a, b) (e, f, z) =
    (omega (arith, length-append (set s.threads (i - 1) q.first) (q.second ∷ []), length-set s.threads (i - 1) q.first), b)
done_few C s i p (Makes q) (a, b) (e, z) = (omega (arith, length-set s.threads (i - 1) q.thread), omega (arith, length-append s.made (q.made ∷ [])))
done_few C s i p Ends (a, b) e =
    (omega (arith, length-append (take (i - 1) s.threads) (drop i s.threads), length-take (i - 1) s.threads, length-drop i s.threads), b)
done_few C s i p (Meets q) (a, b) e =
    (omega (arith, length-set s.threads (i - 1) q.first, length-set (set s.threads (i - 1) q.first) (p - 1) q.second), b)

partner_eight : (s : State) (p : ℕ) → Eights s → EightWith (partner_at s p)
partner_eight s p h = go (eqb p 0) (leb p (length s.threads))
  where
    go : (a b : Bool) → EightWith (cond a Alone (cond b (With (thread_at s p)) Missing))
    go true b = tt
    go false true = nth_eight s.threads h (p - 1)
    go false false = tt

outcome_fits : (C : Clinic) (s : State) (i p : ℕ) → Eights s → FitsIn C (length s.threads) s.made (outcome C s i p)
unfolding outcome
outcome_fits C s i p h =
    by_test C (length s.threads) s.made (in_count (length s.threads) i) (acting C (length s.threads) s.made (thread_at s i) (partner_at s p)) 18
    (λ _. acting_fits C (length s.threads) s.made (thread_at s i) (partner_at s p) (nth_eight s.threads h (i - 1)) (partner_eight s p h))

-- what holds of the state before, and after the run's choice, holds after the seated one
by_choice_lem : (P : State → Type 0) (L : Limited) (S : SeatedState) (i p : ℕ) → P S.state → After P (choice L.clinic S.state i p)
    → LeadsTo (λ T. P T.state) (seated_choice L S i p)
unfolding seated_choice
by_choice_lem P L S i p h e = go (asks_seat L S i p && not (gets_seat L S i))
  where
    by : (os : List ℕ) (lines : ℕ → List ℕ) (a : Chosen) → After P a → LeadsTo (λ T. P T.state) (seated_by os lines a)
    by os lines (halts n) e = tt
    by os lines (goes s) e = e

    go : (b : Bool) → LeadsTo (λ T. P T.state) (cond b (waits (stand_in_line L S i))
        (seated_by (owners_by S.owners i (thread_node L S i).tag) (cond (asks_seat L S i p) (lines_left L S i) S.lines) (choice L.clinic S.state i p)))
    go true = h
    go false = by (owners_by S.owners i (thread_node L S i).tag) (cond (asks_seat L S i p) (lines_left L S i) S.lines) (choice L.clinic S.state i p) e

module _ (L : Limited) (S : SeatedState) (i p : ℕ) (eights : All Eight S.state.threads) where
  pub choice_eight : LeadsTo (λ T. All Eight T.state.threads) (seated_choice L S i p)
  unfolding choice
  choice_eight = by_choice_lem Eights L S i p eights (done_eight L.clinic S.state i p (outcome L.clinic S.state i p) eights
      (outcome_fits L.clinic S.state i p eights))

  pub choice_few : Few S.state → LeadsTo (λ T. Few T.state) (seated_choice L S i p)
  unfolding choice
  choice_few few = by_choice_lem Few L S i p few (done_few L.clinic S.state i p (outcome L.clinic S.state i p) few
      (outcome_fits L.clinic S.state i p eights))
