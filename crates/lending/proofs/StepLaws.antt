-- The step of a lent choice: a choice looks only at the acting thread and the partner's, so it may be carried out in a table that holds these two.
use Prim.Native.Nat.{ℕ, zero, suc, ◌+◌, ◌*◌, ◌-◌, ◌≤◌, ◌<◌}
use mathlib.Core.Path.{◌≡◌, refl, sym, ap, ap₂, subst, ◌∙◌}
use mathlib.Core.Bool.{Bool, true, false, cond, ◌&&◌, and-eq-true_iff}
use mathlib.Core.List.{List, [], ◌∷◌, ◌++◌}
use native.Mathlib.Omega.{arith}
use lib.Dec.{eqb, leb}
use lib.ListN.{length, get_or, set, length-set, length-append, get_or-append}
use lib.Seq.{get_or-set_same, get_or-set_other, get_or_at}
use borrow.Author.Tests.{eqb-true, eqb-false, ne_eqb, lt-ltb, le-leb}
use Rattle.format.specs.Contents.{in_count}
use Rattle.format.specs.declared.Node.{Node}
use Rattle.format.proofs.ContentsLaws.{in_count_lem}
use Rattle.steps.specs.declared.Thread.{Thread}
use Rattle.steps.specs.declared.Made.{Made}
use Rattle.steps.specs.declared.Partner.TheVariants.{Alone, With, Missing}
use Rattle.steps.specs.declared.Acted.{Acted}
use Rattle.steps.specs.declared.Answer.{Answer}
use Rattle.steps.specs.declared.Answer.TheVariants as answers
use Rattle.steps.specs.declared.Outcome.{Outcome}
use Rattle.steps.specs.declared.Outcome.TheVariants.{Refused, Moves, Adds, Makes, Ends, Meets}
use Rattle.steps.specs.Threads.{no_thread}
use Rattle.steps.specs.Choice.{Clinic, State, thread_at, partner_at, sending, alone_only, acting, done, outcome}
use Rattle.steps.specs.Acted.{partner_of, acted_of, outcome_by}
use Rattle.steps.specs.Beside.{thread_count, made_count, made_of, beside_by}
use Rattle.steps.specs.Records.{thread_in, threads_in, stored}
use Rattle.steps.specs.Kept.{state_in, state_left, Sized}
use Rattle.steps.proofs.TableLaws.{threads_length, thread_get, thread_same, stored_same, stored_other, stored_length}
use Rattle.choices.specs.Stored.{HasRoom, Chose}
use Rattle.choices.proofs.ChoiceLaws.{acted_placed, looked}
use Rattle.lending.specs.Walk.{outcome_on, second_at}

-- two choices that agree where a test holds
agree : {A : Type 0} (x : Bool) (a c r : A) → (x ≡ true → a ≡ c) → cond x a r ≡ cond x c r
agree true a c r h = h refl
agree false a c r h = refl

positive : (k : ℕ) → (k ≡ 0 → ⊥) → 0 < k
positive zero h = absurd (h refl)
positive (suc k) h = omega arith

-- What a choice comes to in a state of n threads, by two threads that are those of the state where it has them.
module _ (C : Clinic) (b : List ℕ) (ts : List Thread) (i p : ℕ) (own other : Thread) (long : length ts ≡ thread_count b)
    (mine : in_count (thread_count b) i ≡ true → own ≡ get_or ts (i - 1) no_thread) (theirs : in_count (thread_count b) p ≡ true → other ≡ get_or ts (p - 1) no_thread) where
  abbrev n : ℕ
  n = thread_count b

  abbrev s : State
  s = record { threads = ts; made = made_of b }

  partner_is : partner_of n p other ≡ partner_at s p
  partner_is = go (eqb p 0) (leb p n) refl refl ∙ ap (λ (k : ℕ). partner_of k p (thread_at s p)) (sym long)
    where
      go : (x y : Bool) → eqb p 0 ≡ x → leb p n ≡ y → cond x Alone (cond y (With other) Missing) ≡ cond x Alone (cond y (With (thread_at s p)) Missing)
      go true y e q = refl
      go false false e q = refl
      go false true e q = ap With (theirs (rw (lt-ltb 0 p (positive p (eqb-false p 0 e)), q)))

  pub outcome_is : outcome C s i p ≡ outcome_on C b i own p other
  unfolding outcome outcome_on
  outcome_is =
      ap (λ (k : ℕ). cond (in_count k i) (acting C k s.made (thread_at s i) (partner_at s p)) (Refused 18)) long
      ∙ agree (in_count n i) (acting C n s.made (thread_at s i) (partner_at s p)) (acting C n s.made own (partner_of n p other)) (Refused 18)
      (λ e. ap₂ (acting C n s.made) (sym (mine e)) (sym partner_is))

-- No thread meets itself: it would be at a send and at a receive.
abbrev Unmet : Outcome → Type 0
Unmet (Refused k) = Unit {0}
Unmet (Moves t) = Unit {0}
Unmet (Adds q) = Unit {0}
Unmet (Makes q) = Unit {0}
Unmet Ends = Unit {0}
Unmet (Meets q) = ⊥

either : (x : Bool) (a c : Outcome) → (x ≡ true → Unmet a) → (x ≡ false → Unmet c) → Unmet (cond x a c)
either true a c f g = f refl
either false a c f g = g refl

self_unmet : (C : Clinic) (n : ℕ) (made : List Made) (t : Thread) → Unmet (acting C n made t (With t))
unfolding acting sending alone_only
self_unmet C n made t =
    let m : Node = C.node t.node in
    either (in_count C.nodes t.node) _ _
    (λ e. either (eqb m.tag 6) _ _
    (λ six. either (in_count C.nodes t.node && eqb m.tag 5) _ _
    (λ both. let five = ((and-eq-true_iff (in_count C.nodes t.node) (eqb m.tag 5)).0 both).1 in
    let no : ⊥ = omega (arith, eqb-true m.tag 6 six, eqb-true m.tag 5 five) in absurd no)
    (λ q. tt))
    (λ six. either (eqb m.tag 5) _ _ (λ q. tt) (λ q. tt)))
    (λ e. tt)

-- what an answer leaves, by the answer
pub read_as : (w : List ℕ) (n at to : ℕ) (a a' : Answer) (it : Acted) → a ≡ a' → it ≡ acted_of (outcome_by a' (thread_in w (12 * at)) (thread_in w (12 * second_at n to a')))
    → it ≡ acted_of (outcome_by a (thread_in w (12 * at)) (thread_in w (12 * second_at n to a)))
read_as w n at to a a' it e q = q ∙ ap (λ (x : Answer). acted_of (outcome_by x (thread_in w (12 * at)) (thread_in w (12 * second_at n to x)))) (sym e)

-- a table keeps its length
pub laid_long : (w v : List ℕ) (k : ℕ) (t : Thread) → (v ≡ stored w k t) × (length t.vars ≡ 8) → length v ≡ length w
laid_long w v k t e = ap length e.0 ∙ stored_length w k t

-- where the second thread is found, there is a record
pub second_low : (n m p to : ℕ) (a : Answer) → n ≤ 64 → to < 64 → HasRoom n m p a → second_at n to a < 64
second_low n m p to (answers.Refused k) few low h = low
second_low n m p to answers.Moves few low h = low
second_low n m p to answers.Adds few low h = h
second_low n m p to (answers.Makes q) few low h = low
second_low n m p to answers.Ends few low h = low
second_low n m p to answers.Meets few low h = low

-- The threads that a choice of thread i with partner p leaves in a table are those of its outcome.
module _ (ts : List Thread) (ms : List Made) (n m i p at to : ℕ) (long : length ts ≡ n) (pos : 1 ≤ i) (le : i ≤ n) (ea : at ≡ i - 1) (et : in_count n p ≡ true → to ≡ p - 1)
    (w b : List ℕ) where
  abbrev before : State
  before = record { threads = ts; made = ms }

  read_at : (l : List Thread) (k : ℕ) → threads_in w 0 (thread_count b) ≡ l → k < length l → thread_in w (12 * k) ≡ get_or l k no_thread
  read_at l k e lt =
      let there : 12 * k ≡ 0 + 12 * k = omega arith in
      let inside : k < thread_count b = omega (arith, lt, ap length e, threads_length w 0 (thread_count b)) in
      ap (thread_in w) there ∙ sym (thread_get w 0 (thread_count b) k inside) ∙ ap (λ (x : List Thread). get_or x k no_thread) e

  -- the acting thread, changed
  own_set : (t : Thread) (l : List Thread) → l ≡ set ts (i - 1) t → get_or l at no_thread ≡ t
  own_set t l e = ap₂ (λ (x : List Thread) (k : ℕ). get_or x k no_thread) e ea ∙ get_or-set_same ts (i - 1) t no_thread (omega (arith, pos, le, long))

  own_read : (t : Thread) → threads_in w 0 (thread_count b) ≡ set ts (i - 1) t → thread_in w (12 * at) ≡ t
  own_read t e = read_at (set ts (i - 1) t) at e (omega (arith, length-set ts (i - 1) t, ea, pos, le, long)) ∙ own_set t (set ts (i - 1) t) refl

  abbrev found : Answer → Outcome
  found a = outcome_by a (thread_in w (12 * at)) (thread_in w (12 * second_at n to a))

  pub left_is : (x : Outcome) → HasRoom n m p (acted_of x).answer → (p ≡ i → Unmet x) → state_in w b ≡ state_left before (done before i p x) → found (acted_of x).answer ≡ x
  unfolding done
  left_is (Refused k) room apart e = refl
  left_is (Moves t) room apart e = ap Moves (own_read t (ap (λ (y : State). y.threads) e))
  left_is (Adds q) room apart e =
      let first : List Thread = set ts (i - 1) q.first in
      let l : List Thread = first ++ (q.second ∷ []) in
      let all : length first ≡ n = length-set ts (i - 1) q.first ∙ long in
      let more : length l ≡ n + 1 = omega (arith, length-append first (q.second ∷ []), all) in
      let has : threads_in w 0 (thread_count b) ≡ l = ap (λ (y : State). y.threads) e in
      ap₂ (λ (t u : Thread). Adds (record { first = t; second = u }))
      (read_at l at has (omega (arith, more, ea, pos, le)) ∙ get_or-append first (q.second ∷ []) no_thread at (omega (arith, all, ea, pos, le)) ∙ own_set q.first first refl)
      (read_at l n has (omega (arith, more)) ∙ get_or_at first q.second [] no_thread n all)
  left_is (Makes q) room apart e = ap (λ (t : Thread). Makes (record { thread = t; made = q.made })) (own_read q.thread (ap (λ (y : State). y.threads) e))
  left_is Ends room apart e = refl
  left_is (Meets q) room apart e =
      let first : List Thread = set ts (i - 1) q.first in
      let l : List Thread = set first (p - 1) q.second in
      let all : length first ≡ n = length-set ts (i - 1) q.first ∙ long in
      let same : length l ≡ n = length-set first (p - 1) q.second ∙ all in
      let has : threads_in w 0 (thread_count b) ≡ l = ap (λ (y : State). y.threads) e in
      let there : to ≡ p - 1 = et (rw (lt-ltb 0 p room.0, le-leb p n room.1) refl) in
      ap₂ (λ (t u : Thread). Meets (record { first = t; second = u }))
      (read_at l at has (omega (arith, same, ea, pos, le)) ∙ get_or-set_other first (p - 1) at q.second no_thread (λ z. apart (omega (arith, z, ea, pos, room.0))) ∙ own_set q.first first refl)
      (read_at l to has (omega (arith, same, there, room.0, room.1)) ∙ ap (λ (k : ℕ). get_or l k no_thread) there ∙ get_or-set_same first (p - 1) q.second no_thread (omega (arith, all, room.0, room.1)))

-- Two records laid in a table at their places, the acting thread's last.
module _ (C : Clinic) (w v u b : List ℕ) (size : Sized w b) (i p q at to : ℕ) (own other : Thread) (inside : in_count (thread_count b) i ≡ true)
    (seen : q ≡ cond (in_count (thread_count b) p) p i) (ea : at ≡ i - 1) (et : to ≡ q - 1) (same : p ≡ i → other ≡ own)
    (first : (v ≡ stored w (12 * to) other) × (length other.vars ≡ 8)) (then : (u ≡ stored v (12 * at) own) × (length own.vars ≡ 8)) where
  abbrev c : ℕ
  c = thread_count b

  abbrev x : Outcome
  x = outcome_on C b i own p other

  bounds : (1 ≤ i) × (i ≤ c)
  bounds = in_count_lem c i inside

  looked_low : (1 ≤ q) × (q ≤ c)
  looked_low = looked c i p q inside seen

  v_long : length v ≡ 768
  v_long = ap length first.0 ∙ stored_length w (12 * to) other ∙ size.words

  u_long : length u ≡ 768
  u_long = ap length then.0 ∙ stored_length v (12 * at) own ∙ v_long

  pub laid_sized : Sized u b
  laid_sized = record { words = u_long; beside = size.beside; threads = size.threads; made = size.made }

  own_there : own ≡ get_or (threads_in u 0 c) (i - 1) no_thread
  own_there =
      let here : 0 + 12 * (i - 1) ≡ 12 * at = omega (arith, ea) in
      sym (thread_get u 0 c (i - 1) (omega (arith, bounds)) ∙ ap₂ thread_in then.0 here
      ∙ stored_same v (12 * at) own (omega (arith, v_long, ea, bounds, size.threads)) then.1)

  other_there : in_count c p ≡ true → other ≡ get_or (threads_in u 0 c) (p - 1) no_thread
  other_there e = go (eqb p i) refl
    where
      go : (y : Bool) → eqb p i ≡ y → other ≡ get_or (threads_in u 0 c) (p - 1) no_thread
      go true z =
          let is : p ≡ i = eqb-true p i z in
          same is ∙ own_there ∙ ap (λ (k : ℕ). get_or (threads_in u 0 c) (k - 1) no_thread) (sym is)
      go false z =
          let apart : p ≡ i → ⊥ = eqb-false p i z in
          let some = in_count_lem c p e in
          let partner : q ≡ p = seen ∙ ap (λ (y : Bool). cond y p i) e in
          let here : 12 * to ≡ 0 + 12 * (p - 1) = omega (arith, et, partner) in
          let kept : thread_in v (12 * to) ≡ thread_in u (0 + 12 * (p - 1)) =
          thread_same v u (12 * to) (0 + 12 * (p - 1)) (λ j small.
          ap (λ (k : ℕ). get_or v (k + j) 0) here
          ∙ sym (ap (λ (y : List ℕ). get_or y (0 + 12 * (p - 1) + j) 0) then.0 ∙ stored_other v (12 * at) (0 + 12 * (p - 1) + j) own (λ k less f. apart (omega (arith, f, less, small, ea, some, bounds))))) in
          sym (thread_get u 0 c (p - 1) (omega (arith, some)) ∙ sym kept ∙ ap (λ (y : List ℕ). thread_in y (12 * to)) first.0
          ∙ stored_same w (12 * to) other (omega (arith, size.words, size.threads, et, partner, some)) first.1)

  -- the choice in that table is the step
  chosen : outcome C (state_in u b) i p ≡ x
  chosen = outcome_is C b (threads_in u 0 c) i p own other (threads_length u 0 c) (λ e. own_there) other_there

  step_of : x ≡ acting C c (made_of b) own (partner_of c p other)
  unfolding outcome_on
  step_of = rw inside refl

  room : HasRoom c (made_count b) p (acted_of x).answer
  room = acted_placed C b p own other (acted_of x) (ap acted_of step_of)

  unmet : p ≡ i → Unmet x
  unmet e =
      let some : (0 < p) × (p ≤ c) = (omega (arith, e, bounds), omega (arith, e, bounds)) in
      let with-own : partner_of c p other ≡ With own = rw (ne_eqb p 0 (λ z. omega (arith, z, some.0)), le-leb p c some.1) (ap With (same e)) in
      subst Unmet (sym (step_of ∙ ap (acting C c (made_of b) own) with-own)) (self_unmet C c (made_of b) own)

  module _ (kind : ℕ → ℕ) (r : Answer) (w' b' : List ℕ) (did : Chose (beside_by kind b (outcome C (state_in u b) i p)) (outcome C (state_in u b) i p) i p r u b w' b') where
    done_so : Chose (beside_by kind b x) x i p r u b w' b'
    done_so = subst (λ (o : Outcome). Chose (beside_by kind b o) o i p r u b w' b') chosen did

    pub step_second : (m : ℕ) → m ≡ c → second_at m to r < 64
    step_second m e =
        subst (λ (k : ℕ). second_at k to r < 64) (sym e) (second_low c (made_count b) p to r size.threads (omega (arith, et, looked_low, size.threads)) (subst (HasRoom c (made_count b) p) (sym done_so.0) room))

    pub step_left : (m : ℕ) → m ≡ c → (it : Acted) → it ≡ acted_of (outcome_by r (thread_in w' (12 * at)) (thread_in w' (12 * second_at m to r)))
        → (it ≡ acted_of x) × (b' ≡ beside_by kind b x)
    step_left m count it e =
        let (answer, state, words, sized) = done_so in
        let there : in_count c p ≡ true → to ≡ p - 1 = λ e. et ∙ ap (λ (k : ℕ). k - 1) (seen ∙ ap (λ (y : Bool). cond y p i) e) in (
          e ∙ ap (λ (k : ℕ). acted_of (outcome_by r (thread_in w' (12 * at)) (thread_in w' (12 * second_at k to r)))) count
              ∙ ap (λ (a : Answer). acted_of (outcome_by a (thread_in w' (12 * at)) (thread_in w' (12 * second_at c to a)))) answer
              ∙ ap acted_of (left_is (threads_in u 0 c) (made_of b) c (made_count b) i p at to (threads_length u 0 c) bounds.0 bounds.1 ea there w' b' x room unmet state),
          words,
        )

-- no thread i: nothing is done
pub step-none : (kind : ℕ → ℕ) (C : Clinic) (b : List ℕ) (i p : ℕ) (own other : Thread) (it : Acted) → in_count (thread_count b) i ≡ false → it ≡ acted_of (Refused 18)
    → (it ≡ acted_of (outcome_on C b i own p other)) × (b ≡ beside_by kind b (outcome_on C b i own p other))
unfolding outcome_on
step-none kind C b i p own other it outside e = rw outside (e, refl)
