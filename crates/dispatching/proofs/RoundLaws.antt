-- A round, as a loop over its visits goes through it: some choices are written, and what is left from here gives what the whole gives.
use Prim.Native.Nat.{ℕ, suc, ◌+◌, ◌*◌, ◌-◌, ◌≤◌, ◌<◌}
use mathlib.Core.Path.{◌≡◌, refl, sym, ap, ◌∙◌}
use mathlib.Core.Bool.{Bool, true, false, cond}
use mathlib.Core.List.{List, [], ◌∷◌, ◌++◌, append_assoc, append-nil}
use native.Mathlib.Omega.{arith}
use lib.ListN.{length, set, replicate, length-append, length-replicate}
use Rattle.steps.specs.Choice.{Clinic, State}
use Rattle.steps.specs.Beside.{thread_count}
use Rattle.steps.specs.Kept.{state_in, Sized}
use Rattle.steps.proofs.TableLaws.{threads_length}
use Rattle.rounds.specs.Round.{Going, Rounded, visit, round_from, round}
use Rattle.dispatching.specs.declared.Visit.{Visit}
use Rattle.dispatching.specs.Dispatch.{threads_of, comes_to, round_of, filled}
use Rattle.dispatching.specs.Marks.{marks_from}
use Rattle.dispatching.specs.Visits.{choice_of, VisitTold, HandedBack}
use Rattle.dispatching.proofs.MarkLaws.{marks_none}

pub filled_length : (ws : List ℕ) → length ws ≤ 128 → length (filled ws) ≡ 128
filled_length ws h = omega (arith, h, length-append ws (replicate (128 - length ws) 0), length-replicate {A = ℕ} (128 - length ws) 0)

-- two words more
two_more : (ws : List ℕ) (k x y : ℕ) → set (set (ws ++ (0 ∷ 0 ∷ replicate k 0)) (length ws) x) (suc (length ws)) y ≡ (ws ++ (x ∷ y ∷ [])) ++ replicate k 0
two_more [] k x y = refl
two_more (v ∷ ws) k x y = ap (λ (l : List ℕ). v ∷ l) (two_more ws k x y)

filled_more : (ws : List ℕ) (n x y : ℕ) → length ws ≡ 2 * n → n < 64 → set (set (filled ws) (2 * n) x) (2 * n + 1) y ≡ filled (ws ++ (x ∷ y ∷ []))
filled_more ws n x y e h =
    let one : suc (2 * n) ≡ 2 * n + 1 = omega arith in
    let k : 128 - length ws ≡ suc (suc (126 - 2 * n)) = omega (arith, e, h) in
    let m : 126 - 2 * n ≡ 128 - length (ws ++ (x ∷ y ∷ [])) = omega (arith, e, h, length-append ws (x ∷ y ∷ [])) in
    ap (λ (j : ℕ). set (set (filled ws) (2 * n) x) j y) (sym one) ∙ ap (λ (j : ℕ). set (set (ws ++ replicate j 0) (2 * n) x) (suc (2 * n)) y) k
    ∙ ap (λ (j : ℕ). set (set (ws ++ replicate (suc (suc (126 - 2 * n))) 0) j x) (suc j) y) (sym e)
    ∙ two_more ws (126 - 2 * n) x y ∙ ap (λ (j : ℕ). (ws ++ (x ∷ y ∷ [])) ++ replicate j 0) m

abbrev left_from : Clinic → List ℕ → List ℕ → ℕ → ℕ → ℕ → Rounded State
left_from C w b i there moved = round_from threads_of (comes_to C) (suc there - i) (i - 1) (marks_from 1 there moved) (state_in w b)

pub record Left (C : Clinic) (q : Rounded State) (w b l : List ℕ) (i there moved n : ℕ) : Type 0 where
  pub done : List ℕ
  pub size : length done ≡ 2 * n
  pub written : l ≡ filled done
  pub words : q.words ≡ done ++ (left_from C w b i there moved).words
  pub state : q.state ≡ (left_from C w b i there moved).state
  pub sized : Sized w b
  pub pos : 0 < i
  pub past : i ≤ suc there
  pub few : there ≤ thread_count b
  pub room : n + (suc there - i) ≤ 64

pub left_begin : (C : Clinic) (w b l : List ℕ) (there : ℕ) → Sized w b → l ≡ replicate 128 0 → there ≡ thread_count b
    → Left C (round_of C (state_in w b)) w b l 1 there 0 0
unfolding round
left_begin C w b l there z el et =
    let all : round_of C (state_in w b) ≡ left_from C w b 1 there 0 =
    ap (λ (k : ℕ). round_from threads_of (comes_to C) k 0 (replicate k false) (state_in w b)) (threads_length w 0 (thread_count b) ∙ sym et)
    ∙ ap (λ (ms : List Bool). round_from threads_of (comes_to C) there 0 ms (state_in w b)) (sym (marks_none 1 there))
    ∙ (let one : there ≡ suc there - 1 = omega arith in ap (λ (k : ℕ). round_from threads_of (comes_to C) k 0 (marks_from 1 there 0) (state_in w b)) one) in
    record {
      done = [];
      size = refl;
      written = el;
      words = ap (λ (r : Rounded State). r.words) all;
      state = ap (λ (r : Rounded State). r.state) all;
      sized = z;
      pos = omega arith;
      past = omega arith;
      few = omega (arith, et);
      room = omega (arith, et, z.threads);
    }

module _ (C : Clinic) (q : Rounded State) (w b l : List ℕ) (i there moved n : ℕ) (L : Left C q w b l i there moved n) where
  pub length_left : length l ≡ 128
  length_left = ap (λ (x : List ℕ). length x) L.written ∙ filled_length L.done (omega (arith, L.size, L.room))

  pub room_for : i ≤ there → 2 * n + 2 ≤ length l
  room_for h =
      let few : n < 64 = omega (arith, L.room, h) in
      omega (arith, length_left, few)

  -- one visit more
  pub left_more : (v : Visit) (w' b' l' : List ℕ) (n' : ℕ) → i ≤ there
      → VisitTold (visit threads_of (comes_to C) (state_in w b) (i - 1) (marks_from 1 there moved)) i there v w' b'
      → n' ≡ cond v.is_done (n + 1) n → l' ≡ cond v.is_done (set (set l (2 * n) i) (2 * n + 1) v.partner) l
      → Left C q w' b' l' v.next v.present v.moved n'
  unfolding round_from
  left_more v w' b' l' n' h t en el = record {
    done = L.done ++ choice_of i v;
    size = size v.is_done refl;
    written = written v.is_done refl;
    words = L.words ∙ ap (λ (r : Rounded State). L.done ++ r.words) step
        ∙ ap (λ (x : List ℕ). L.done ++ (x ++ (left_from C w' b' v.next v.present v.moved).words)) (sym t.words)
        ∙ sym (append_assoc L.done (choice_of i v) (left_from C w' b' v.next v.present v.moved).words);
    state = L.state ∙ ap (λ (r : Rounded State). r.state) step;
    sized = t.sized;
    pos = omega (arith, t.next);
    past = omega (arith, t.less, h);
    few = t.few;
    room = room v.is_done refl;
  }
    where
      g : Going State
      g = visit threads_of (comes_to C) (state_in w b) (i - 1) (marks_from 1 there moved)

      left : suc there - i ≡ suc (suc v.present - v.next)
      left = omega (arith, t.less, h)

      step : left_from C w b i there moved ≡ record { words = g.words ++ (left_from C w' b' v.next v.present v.moved).words; state = (left_from C w' b' v.next v.present v.moved).state }
      step =
          let place : g.place ≡ v.next - 1 = omega (arith, t.next) in
          let from : round_from threads_of (comes_to C) (suc v.present - v.next) g.place g.marks g.state ≡ left_from C w' b' v.next v.present v.moved =
          ap (λ (x : ℕ). round_from threads_of (comes_to C) (suc v.present - v.next) x g.marks g.state) place
          ∙ ap (λ (x : List Bool). round_from threads_of (comes_to C) (suc v.present - v.next) (v.next - 1) x g.state) (sym t.marks)
          ∙ ap (λ (x : State). round_from threads_of (comes_to C) (suc v.present - v.next) (v.next - 1) (marks_from 1 v.present v.moved) x) (sym t.state) in
          ap (λ (k : ℕ). round_from threads_of (comes_to C) k (i - 1) (marks_from 1 there moved) (state_in w b)) left
          ∙ ap (λ (r : Rounded State). record { words = g.words ++ r.words; state = r.state }) from

      size : (d : Bool) → v.is_done ≡ d → length (L.done ++ choice_of i v) ≡ 2 * n'
      size true e =
          let m : n' ≡ n + 1 = en ∙ rw e in
          let k : length (choice_of i v) ≡ 2 = rw e in
          omega (arith, m, k, L.size, length-append L.done (choice_of i v))
      size false e =
          let m : n' ≡ n = en ∙ rw e in
          let k : length (choice_of i v) ≡ 0 = rw e in
          omega (arith, m, k, L.size, length-append L.done (choice_of i v))

      written : (d : Bool) → v.is_done ≡ d → l' ≡ filled (L.done ++ choice_of i v)
      written true e =
          el ∙ rw e (ap (λ (x : List ℕ). set (set x (2 * n) i) (2 * n + 1) v.partner) L.written ∙ filled_more L.done n i v.partner L.size (omega (arith, L.room, h)))
      written false e = el ∙ rw e (L.written ∙ ap filled (sym (append-nil L.done)))

      room : (d : Bool) → v.is_done ≡ d → n' + (suc v.present - v.next) ≤ 64
      room true e = let m : n' ≡ n + 1 = en ∙ rw e in omega (arith, m, left, L.room)
      room false e = let m : n' ≡ n = en ∙ rw e in omega (arith, m, left, L.room)

  pub left_less : (v : Visit) (w' b' : List ℕ) → i ≤ there
      → VisitTold (visit threads_of (comes_to C) (state_in w b) (i - 1) (marks_from 1 there moved)) i there v w' b' → suc v.present - v.next < suc there - i
  left_less v w' b' h t = omega (arith, t.less, h)

  -- no visit is left
  pub left_ends : (r : ℕ) → there < i → r ≡ n → HandedBack q r w b l
  unfolding round_from
  left_ends r h er =
      let none : suc there - i ≡ 0 = omega (arith, h) in
      let over : left_from C w b i there moved ≡ record { words = []; state = state_in w b } =
      ap (λ (k : ℕ). round_from threads_of (comes_to C) k (i - 1) (marks_from 1 there moved) (state_in w b)) none in
      let all : q.words ≡ L.done = L.words ∙ ap (λ (x : Rounded State). L.done ++ x.words) over ∙ append-nil L.done in
      let long : length q.words ≡ 2 * n = ap (λ (x : List ℕ). length x) all ∙ L.size in
      record {
        count = omega (arith, er, long);
        most = omega (arith, er, L.room);
        words = L.written ∙ ap filled (sym all);
        state = sym (L.state ∙ ap (λ (x : Rounded State). x.state) over);
        sized = L.sized;
      }
