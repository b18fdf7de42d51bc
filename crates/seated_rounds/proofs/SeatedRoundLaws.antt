-- A round with seats, as a loop over its visits goes through it: some choices are written, and what is left from here gives what the whole gives.
use Prim.Native.Nat.{ℕ, zero, suc, ◌+◌, ◌*◌, ◌-◌, ◌/◌, ◌≤◌, ◌<◌}
use mathlib.Core.Path.{◌≡◌, refl, sym, ap, ap₂, ◌∙◌, subst}
use mathlib.Core.Bool.{Bool, true, false, cond}
use mathlib.Core.List.{List, [], ◌∷◌, ◌++◌, append_assoc, append-nil}
use native.Mathlib.Omega.{arith}
use lib.ListN.{length, set, replicate, length-append, length-replicate}
use Rattle.steps.specs.Beside.{thread_count}
use Rattle.steps.proofs.TableLaws.{threads_length}
use Rattle.rounds.specs.Round.{Going, Rounded, visit, round_from, round}
use Rattle.dispatching.specs.declared.Visit.{Visit}
use Rattle.dispatching.specs.Dispatch.{filled}
use Rattle.seats.specs.Seats.{Limited, SeatedState, seated_choice}
use Rattle.seating.specs.SeatedRound.{seated_threads, seated_round_of}
use Rattle.seated.specs.SeatedTables.{seated_in, Seated}
use Rattle.dispatching.specs.Marks.{marks_from}
use Rattle.dispatching.specs.Visits.{choice_of}
use Rattle.seated_rounds.specs.SeatedVisits.{SeatedVisitTold, SeatedBack}
use Rattle.dispatching.proofs.RoundLaws.{filled_length}
use Rattle.dispatching.proofs.MarkLaws.{marks_none}

-- two words more
two_more : (ws : List ℕ) (k x y : ℕ) → set (set (ws ++ (0 ∷ 0 ∷ replicate k 0)) (length ws) x) (suc (length ws)) y ≡ (ws ++ (x ∷ y ∷ [])) ++ replicate k 0
two_more [] k x y = refl
two_more (v ∷ ws) k x y = ap (λ (l : List ℕ). v ∷ l) (two_more ws k x y)

filled_more : (ws : List ℕ) (n x y : ℕ) → length ws ≡ 2 * n → n < 64 → set (set (filled ws) (2 * n) x) (2 * n + 1) y ≡ filled (ws ++ (x ∷ y ∷ []))
filled_more ws n x y e h =
    let one : suc (2 * n) ≡ 2 * n + 1 = omega arith in
    let k : 128 - length ws ≡ suc (suc (126 - 2 * n)) = omega (arith, e, h) in
    let m : 126 - 2 * n ≡ 128 - length (ws ++ (x ∷ y ∷ [])) = omega (arith, e, h, length-append ws (x ∷ y ∷ [])) in
    ap (λ (j : ℕ). set (set (filled ws) (2 * n) x) j y) (sym one) ∙ ap (λ (j : ℕ). set (set (ws ++ replicate j 0) (2 * n) x) (suc (2 * n)) y) k
    ∙ ap (λ (j : ℕ). set (set (ws ++ replicate (suc (suc (126 - 2 * n))) 0) j x) (suc j) y) (sym e)
    ∙ two_more ws (126 - 2 * n) x y ∙ ap (λ (j : ℕ). (ws ++ (x ∷ y ∷ [])) ++ replicate j 0) m

abbrev left_from : Limited → List ℕ → List ℕ → List ℕ → List ℕ → ℕ → ℕ → ℕ → Rounded SeatedState
left_from M w b os ls i there moved = round_from seated_threads (seated_choice M) (suc there - i) (i - 1) (marks_from 1 there moved) (seated_in w b os ls)

pub record Left (M : Limited) (q : Rounded SeatedState) (w b os ls l : List ℕ) (i there moved n : ℕ) : Type 0 where
  pub done : List ℕ
  pub size : length done ≡ 2 * n
  pub written : l ≡ filled done
  pub words : q.words ≡ done ++ (left_from M w b os ls i there moved).words
  pub state : q.state ≡ (left_from M w b os ls i there moved).state
  pub kept : Seated M w b os ls
  pub pos : 0 < i
  pub past : i ≤ suc there
  pub few : there ≤ thread_count b
  pub room : n + (suc there - i) ≤ 64

pub left_begin : (M : Limited) (w b os ls l : List ℕ) (there : ℕ) → Seated M w b os ls → l ≡ replicate 128 0 → there ≡ thread_count b
    → Left M (seated_round_of M (seated_in w b os ls)) w b os ls l 1 there 0 0
unfolding round
left_begin M w b os ls l there z el et =
    let all : seated_round_of M (seated_in w b os ls) ≡ left_from M w b os ls 1 there 0 =
    ap (λ (k : ℕ). round_from seated_threads (seated_choice M) k 0 (replicate k false) (seated_in w b os ls)) (threads_length w 0 (thread_count b) ∙ sym et)
    ∙ ap (λ (ms : List Bool). round_from seated_threads (seated_choice M) there 0 ms (seated_in w b os ls)) (sym (marks_none 1 there))
    ∙ (let one : there ≡ suc there - 1 = omega arith in ap (λ (k : ℕ). round_from seated_threads (seated_choice M) k 0 (marks_from 1 there 0) (seated_in w b os ls)) one) in
    record {
      done = [];
      size = refl;
      written = el;
      words = ap (λ (r : Rounded SeatedState). r.words) all;
      state = ap (λ (r : Rounded SeatedState). r.state) all;
      kept = z;
      pos = omega arith;
      past = omega arith;
      few = omega (arith, et);
      room = omega (arith, et, z.sized.threads);
    }

module _ (M : Limited) (q : Rounded SeatedState) (w b os ls l : List ℕ) (i there moved n : ℕ) (L : Left M q w b os ls l i there moved n) where
  pub length_left : length l ≡ 128
  length_left = ap (λ (x : List ℕ). length x) L.written ∙ filled_length L.done (omega (arith, L.size, L.room))

  pub room_for : i ≤ there → 2 * n + 2 ≤ length l
  room_for h =
      let few : n < 64 = omega (arith, L.room, h) in
      omega (arith, length_left, few)

  -- one visit more
  pub left_more : (v : Visit) (w' b' os' ls' l' : List ℕ) (n' : ℕ) → i ≤ there
      → SeatedVisitTold M (visit seated_threads (seated_choice M) (seated_in w b os ls) (i - 1) (marks_from 1 there moved)) i there v w' b' os' ls'
      → n' ≡ cond v.is_done (n + 1) n → l' ≡ cond v.is_done (set (set l (2 * n) i) (2 * n + 1) v.partner) l
      → Left M q w' b' os' ls' l' v.next v.present v.moved n'
  unfolding round_from
  left_more v w' b' os' ls' l' n' h t en el = record {
    done = L.done ++ choice_of i v;
    size = size v.is_done refl;
    written = written v.is_done refl;
    words = L.words ∙ ap (λ (r : Rounded SeatedState). L.done ++ r.words) step
        ∙ ap (λ (x : List ℕ). L.done ++ (x ++ (left_from M w' b' os' ls' v.next v.present v.moved).words)) (sym t.words)
        ∙ sym (append_assoc L.done (choice_of i v) (left_from M w' b' os' ls' v.next v.present v.moved).words);
    state = L.state ∙ ap (λ (r : Rounded SeatedState). r.state) step;
    kept = t.kept;
    pos = omega (arith, t.next);
    past = omega (arith, t.less, h);
    few = t.few;
    room = room v.is_done refl;
  }
    where
      g : Going SeatedState
      g = visit seated_threads (seated_choice M) (seated_in w b os ls) (i - 1) (marks_from 1 there moved)

      left : suc there - i ≡ suc (suc v.present - v.next)
      left = omega (arith, t.less, h)

      step : left_from M w b os ls i there moved ≡ record { words = g.words ++ (left_from M w' b' os' ls' v.next v.present v.moved).words; state = (left_from M w' b' os' ls' v.next v.present v.moved).state }
      step =
          let place : g.place ≡ v.next - 1 = omega (arith, t.next) in
          let from : round_from seated_threads (seated_choice M) (suc v.present - v.next) g.place g.marks g.state ≡ left_from M w' b' os' ls' v.next v.present v.moved =
          ap (λ (x : ℕ). round_from seated_threads (seated_choice M) (suc v.present - v.next) x g.marks g.state) place
          ∙ ap (λ (x : List Bool). round_from seated_threads (seated_choice M) (suc v.present - v.next) (v.next - 1) x g.state) (sym t.marks)
          ∙ ap (λ (x : SeatedState). round_from seated_threads (seated_choice M) (suc v.present - v.next) (v.next - 1) (marks_from 1 v.present v.moved) x) (sym t.state) in
          ap (λ (k : ℕ). round_from seated_threads (seated_choice M) k (i - 1) (marks_from 1 there moved) (seated_in w b os ls)) left
          ∙ ap (λ (r : Rounded SeatedState). record { words = g.words ++ r.words; state = r.state }) from

      size : (d : Bool) → v.is_done ≡ d → length (L.done ++ choice_of i v) ≡ 2 * n'
      size true e =
          let m : n' ≡ n + 1 = en ∙ rw e in
          let k : length (choice_of i v) ≡ 2 = rw e in
          omega (arith, m, k, L.size, length-append L.done (choice_of i v))
      size false e =
          let m : n' ≡ n = en ∙ rw e in
          let k : length (choice_of i v) ≡ 0 = rw e in
          omega (arith, m, k, L.size, length-append L.done (choice_of i v))

      written : (d : Bool) → v.is_done ≡ d → l' ≡ filled (L.done ++ choice_of i v)
      written true e =
          el ∙ rw e (ap (λ (x : List ℕ). set (set x (2 * n) i) (2 * n + 1) v.partner) L.written ∙ filled_more L.done n i v.partner L.size (omega (arith, L.room, h)))
      written false e = el ∙ rw e (L.written ∙ ap filled (sym (append-nil L.done)))

      room : (d : Bool) → v.is_done ≡ d → n' + (suc v.present - v.next) ≤ 64
      room true e = let m : n' ≡ n + 1 = en ∙ rw e in omega (arith, m, left, L.room)
      room false e = let m : n' ≡ n = en ∙ rw e in omega (arith, m, left, L.room)

  pub left_less : (v : Visit) (w' b' os' ls' : List ℕ) → i ≤ there
      → SeatedVisitTold M (visit seated_threads (seated_choice M) (seated_in w b os ls) (i - 1) (marks_from 1 there moved)) i there v w' b' os' ls' → suc v.present - v.next < suc there - i
  left_less v w' b' os' ls' h t = omega (arith, t.less, h)

  -- no visit is left
  pub left_ends : (r : ℕ) → there < i → r ≡ n → SeatedBack M q r w b os ls l
  unfolding round_from
  left_ends r h er =
      let none : suc there - i ≡ 0 = omega (arith, h) in
      let over : left_from M w b os ls i there moved ≡ record { words = []; state = seated_in w b os ls } =
      ap (λ (k : ℕ). round_from seated_threads (seated_choice M) k (i - 1) (marks_from 1 there moved) (seated_in w b os ls)) none in
      let all : q.words ≡ L.done = L.words ∙ ap (λ (x : Rounded SeatedState). L.done ++ x.words) over ∙ append-nil L.done in
      let long : length q.words ≡ 2 * n = ap (λ (x : List ℕ). length x) all ∙ L.size in
      record {
        count = omega (arith, er, long);
        most = omega (arith, er, L.room);
        words = L.written ∙ ap filled (sym all);
        state = sym (L.state ∙ ap (λ (x : Rounded SeatedState). x.state) over);
        kept = L.kept;
      }
