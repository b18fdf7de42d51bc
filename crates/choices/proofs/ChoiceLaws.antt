-- What a choice comes to: no refusal is 0, there is room for what it adds, and the partner that it moves is a thread.
use Prim.Native.Nat.{ℕ, zero, suc, ◌+◌, ◌*◌, ◌-◌, ◌≤◌, ◌<◌}
use mathlib.Core.Path.{◌≡◌, refl, sym, ap, ap₂, subst, ◌∙◌}
use mathlib.Core.Bool.{Bool, true, false, cond, ◌&&◌}
use mathlib.Core.List.{List}
use native.Mathlib.Omega.{arith}
use lib.Dec.{eqb, leb, ltb}
use lib.ListN.{length, get_or}
use borrow.Author.Tests.{eqb-false, leb-true, ltb-true, lt-ltb}
use Rattle.masks.specs.Mask.{has}
use Rattle.format.specs.Contents.{in_count}
use Rattle.format.specs.declared.Node.{Node}
use Rattle.format.proofs.ContentsLaws.{in_count_lem}
use Rattle.rules.specs.declared.Way.TheVariants.{Sends, Receives}
use Rattle.steps.specs.declared.Thread.{Thread}
use Rattle.steps.specs.declared.Made.{Made}
use Rattle.steps.specs.declared.Partner.{Partner}
use Rattle.steps.specs.declared.Partner.TheVariants.{Alone, With, Missing}
use Rattle.steps.specs.declared.Outcome.{Outcome}
use Rattle.steps.specs.declared.Outcome.TheVariants.{Refused, Moves, Adds, Makes, Ends, Meets}
use Rattle.steps.specs.declared.Acted.{Acted}
use Rattle.steps.specs.declared.Answer.{Answer}
use Rattle.steps.specs.declared.Answer.TheVariants as answers
use Rattle.steps.specs.Threads.{value, no_thread}
use Rattle.steps.specs.Choice.{Clinic, is_allowed, meeting, sending, lone, alone_only, acting, State, Chosen, halts, goes, thread_at, partner_at, done, outcome, choice}
use Rattle.steps.specs.Records.{thread_in, threads_in}
use Rattle.steps.specs.Beside.{made_in}
use Rattle.steps.specs.Acted.{partner_of, acted_of, outcome_by, outcome_of}
use Rattle.choices.specs.Stored.{HasRoom}
use Rattle.steps.proofs.TableLaws.{thread_get}
use Rattle.steps.proofs.ActLaws.{outcome_acted, length_made}

abbrev Fair : ℕ → ℕ → ℕ → Outcome → Type 0
Fair n m p (Refused k) = k ≡ 0 → ⊥
Fair n m p (Moves t) = Unit {0}
Fair n m p (Adds q) = n < 64
Fair n m p (Makes q) = m < 64
Fair n m p Ends = Unit {0}
Fair n m p (Meets q) = (0 < p) × (p ≤ n)

either : (P : Outcome → Type 0) (b : Bool) (x y : Outcome) → (b ≡ true → P x) → (b ≡ false → P y) → P (cond b x y)
either P true x y f g = f refl
either P false x y f g = g refl

some : (k : ℕ) → suc k ≡ 0 → ⊥
some k e = omega (arith, e)

positive : (p : ℕ) → (p ≡ 0 → ⊥) → 0 < p
positive zero h = absurd (h refl)
positive (suc p) h = omega arith

meeting_fair : (n m p : ℕ) (C : Clinic) (made : List Made) (t : Thread) (a : Node) (r : Thread) (b : Node) → 0 < p → p ≤ n → Fair n m p (meeting C made t a r b)
unfolding meeting
meeting_fair n m p C made t a r b pos le =
    either (Fair n m p) (is_allowed C made t Sends a.f1 && is_allowed C made r Receives b.f1) _ _
    (λ e. either (Fair n m p) (eqb (value t a.f1) (value r b.f1)) _ _ (λ q. (pos, le)) (λ q. some 18))
    (λ e. some 12)

sending_fair : (n m p : ℕ) (C : Clinic) (made : List Made) (t : Thread) (a : Node) (r : Thread) (b1 b2 : Bool) → eqb p 0 ≡ b1 → leb p n ≡ b2
    → Fair n m p (sending C made t a (cond b1 Alone (cond b2 (With r) Missing)))
unfolding sending
sending_fair n m p C made t a r true b2 e1 e2 = some 17
sending_fair n m p C made t a r false false e1 e2 = some 17
sending_fair n m p C made t a r false true e1 e2 =
    let apart : p ≡ 0 → ⊥ = eqb-false p 0 e1 in
    either (Fair n m p) (in_count C.nodes r.node && eqb (C.node r.node).tag 5) _ _
    (λ q. meeting_fair n m p C made t a r (C.node r.node) (positive p apart) (leb-true p n e2))
    (λ q. some 17)

lone_fair : (n m p : ℕ) (C : Clinic) (t : Thread) (a : Node) → Fair n m p (lone C n m t a)
unfolding lone
lone_fair n m p C t a =
    either (Fair n m p) (eqb a.tag 0) _ _ (λ e. tt)
    (λ e. either (Fair n m p) (eqb a.tag 1) _ _ (λ e1. either (Fair n m p) (ltb n 64) _ _ (λ q. ltb-true n 64 q) (λ q. some 19))
    (λ e1. either (Fair n m p) (eqb a.tag 2) _ _ (λ e2. either (Fair n m p) (ltb n 64) _ _ (λ q. ltb-true n 64 q) (λ q. some 19))
    (λ e2. either (Fair n m p) (eqb a.tag 3) _ _ (λ e3. either (Fair n m p) (ltb m 64) _ _ (λ q. ltb-true m 64 q) (λ q. some 19))
    (λ e3. either (Fair n m p) (eqb a.tag 4) _ _ (λ e4. either (Fair n m p) (eqb (value t a.f1) (value t a.f2)) _ _ (λ q. tt) (λ q. some 18))
    (λ e4. either (Fair n m p) (eqb a.tag 7) _ _ (λ e7. either (Fair n m p) (has (C.schema.assigned t.user) a.f1) _ _ (λ q. tt) (λ q. some 10))
    (λ e7. either (Fair n m p) (eqb a.tag 8) _ _ (λ e8. either (Fair n m p) (has t.mask a.f1) _ _ (λ q. tt) (λ q. some 11)) (λ e8. some 17)))))))

alone_fair : (n m p : ℕ) (q : Partner) (o : Outcome) → Fair n m p o → Fair n m p (alone_only q o)
unfolding alone_only
alone_fair n m p Alone o h = h
alone_fair n m p Missing o h = some 17
alone_fair n m p (With r) o h = some 17

acting_fair : (n p : ℕ) (C : Clinic) (made : List Made) (t r : Thread) → Fair n (length made) p (acting C n made t (partner_of n p r))
unfolding acting
acting_fair n p C made t r =
    let P : Outcome → Type 0 = Fair n (length made) p in
    either P (in_count C.nodes t.node) _ _
    (λ e. either P (eqb (C.node t.node).tag 6) _ _ (λ e6. sending_fair n (length made) p C made t (C.node t.node) r (eqb p 0) (leb p n) refl refl)
    (λ e6. either P (eqb (C.node t.node).tag 5) _ _ (λ e5. some 17)
    (λ e5. alone_fair n (length made) p (partner_of n p r) _ (lone_fair n (length made) p C t (C.node t.node)))))
    (λ e. some 17)

fair_placed : (n m p : ℕ) (a : Answer) (t u : Thread) → Fair n m p (outcome_by a t u) → HasRoom n m p a
fair_placed n m p (answers.Refused k) t u h = tt
fair_placed n m p answers.Moves t u h = tt
fair_placed n m p answers.Adds t u h = h
fair_placed n m p (answers.Makes q) t u h = h
fair_placed n m p answers.Ends t u h = tt
fair_placed n m p answers.Meets t u h = h

-- a choice that is refused has a number
abbrev pub Halts : Chosen → Type 0
Halts (halts n) = n ≡ 0 → ⊥
Halts (goes s) = Unit {0}

done-told : (n m : ℕ) (s : State) (i p : ℕ) (o : Outcome) → Fair n m p o → Halts (done s i p o)
unfolding done
done-told n m s i p (Refused k) h = h
done-told n m s i p (Moves u) h = tt
done-told n m s i p (Adds q) h = tt
done-told n m s i p (Makes q) h = tt
done-told n m s i p Ends h = tt
done-told n m s i p (Meets q) h = tt

pub choice-told : (C : Clinic) (s : State) (i p : ℕ) → Halts (choice C s i p)
unfolding choice outcome
choice-told C s i p = done-told (length s.threads) (length s.made) s i p (outcome C s i p) (go (in_count (length s.threads) i))
  where
    go : (b : Bool) → Fair (length s.threads) (length s.made) p (cond b (acting C (length s.threads) s.made (thread_at s i) (partner_at s p)) (Refused 18))
    go true = acting_fair (length s.threads) p C s.made (thread_at s i) (thread_at s p)
    go false = some 17

-- the thread looked at for the partner is a thread; it is the partner where the choice names one
pub looked : (n i p q : ℕ) → in_count n i ≡ true → q ≡ cond (in_count n p) p i → (0 < q) × (q ≤ n)
looked n i p q h e = go (in_count n p) refl e
  where
    go : (x : Bool) → in_count n p ≡ x → q ≡ cond x p i → (0 < q) × (q ≤ n)
    go true w f = subst (λ (k : ℕ). (0 < k) × (k ≤ n)) (sym f) (in_count_lem n p w)
    go false w f = subst (λ (k : ℕ). (0 < k) × (k ≤ n)) (sym f) (in_count_lem n i h)

partner_read : (ts : List Thread) (n i p q at to : ℕ) (own other : Thread) → q ≡ cond (in_count n p) p i → at ≡ i - 1 → own ≡ get_or ts at no_thread → to ≡ q - 1
    → other ≡ get_or ts to no_thread → other ≡ cond (in_count n p) (get_or ts (p - 1) no_thread) own
partner_read ts n i p q at to own other e a mine b theirs = go (in_count n p) e
  where
    go : (x : Bool) → q ≡ cond x p i → other ≡ cond x (get_or ts (p - 1) no_thread) own
    go true f = theirs ∙ ap (λ (k : ℕ). get_or ts k no_thread) (b ∙ ap (λ (k : ℕ). k - 1) f)
    go false f = theirs ∙ ap (λ (k : ℕ). get_or ts k no_thread) (b ∙ ap (λ (k : ℕ). k - 1) f ∙ sym a) ∙ sym mine

-- the choice of a state whose counts and made channels stand in a table, by the threads read from it
module _ (C : Clinic) (b : List ℕ) (p : ℕ) (own other : Thread) (it : Acted)
    (acted : it ≡ acted_of (acting C (get_or b 0 0) (made_in b 2 (get_or b 1 0)) own (partner_of (get_or b 0 0) p other))) where
  pub acted_placed : HasRoom (get_or b 0 0) (get_or b 1 0) p it.answer
  acted_placed =
      let made : List Made = made_in b 2 (get_or b 1 0) in
      let o : Outcome = acting C (get_or b 0 0) made own (partner_of (get_or b 0 0) p other) in
      let fair : Fair (get_or b 0 0) (get_or b 1 0) p o = subst (λ (k : ℕ). Fair (get_or b 0 0) k p o) (length_made b 2 (get_or b 1 0)) (acting_fair (get_or b 0 0) p C made own other) in
      fair_placed (get_or b 0 0) (get_or b 1 0) p it.answer it.first it.second (subst (Fair (get_or b 0 0) (get_or b 1 0) p) (sym (ap outcome_of acted ∙ outcome_acted o)) fair)

  module _ (ts : List Thread) (long : length ts ≡ get_or b 0 0) where
    abbrev s : State
    s = record { threads = ts; made = made_in b 2 (get_or b 1 0) }

    partner_same : other ≡ cond (in_count (get_or b 0 0) p) (thread_at s p) own → (b1 b2 : Bool) → eqb p 0 ≡ b1 → leb p (get_or b 0 0) ≡ b2
        → cond b1 Alone (cond b2 (With other) Missing) ≡ cond b1 Alone (cond b2 (With (thread_at s p)) Missing)
    partner_same e true b2 e1 e2 = refl
    partner_same e false false e1 e2 = refl
    partner_same e false true e1 e2 = ap With (e ∙ (rw (lt-ltb 0 p (positive p (eqb-false p 0 e1)), e2)))

    pub outcome_by_lem : (i q at to : ℕ) → in_count (get_or b 0 0) i ≡ true → q ≡ cond (in_count (get_or b 0 0) p) p i → at ≡ i - 1 → own ≡ get_or ts at no_thread
        → to ≡ q - 1 → other ≡ get_or ts to no_thread → outcome_of it ≡ outcome C s i p
    unfolding outcome
    outcome_by_lem i q at to inside e a mine there theirs =
        let n : ℕ = get_or b 0 0 in
        let read : own ≡ thread_at s i = mine ∙ ap (λ (k : ℕ). get_or ts k no_thread) a in
        let other-read : other ≡ cond (in_count n p) (thread_at s p) own = partner_read ts n i p q at to own other e a mine there theirs in
        let partner : partner_of n p other ≡ partner_of n p (thread_at s p) = partner_same other-read (eqb p 0) (leb p n) refl refl in
        let o : outcome_of it ≡ acting C n s.made (thread_at s i) (partner_of n p (thread_at s p)) =
        ap outcome_of acted ∙ outcome_acted _ ∙ ap₂ (acting C n s.made) read partner in
        let whole : in_count (length ts) i ≡ true = ap (λ (k : ℕ). in_count k i) long ∙ inside in
        o ∙ ap (λ (k : ℕ). acting C k s.made (thread_at s i) (partner_of k p (thread_at s p))) (sym long) ∙ sym (rw whole)

pub outcome_none : (C : Clinic) (s : State) (n i p : ℕ) → length s.threads ≡ n → in_count n i ≡ false → outcome C s i p ≡ Refused 18
unfolding outcome
outcome_none C s n i p long outside = let whole : in_count (length s.threads) i ≡ false = ap (λ (k : ℕ). in_count k i) long ∙ outside in rw whole

-- a thread of the words of a table is one of the threads in it
pub thread_read : (w : List ℕ) (n at : ℕ) (t : Thread) → at < n → t ≡ thread_in w (12 * at) → t ≡ get_or (threads_in w 0 n) at no_thread
thread_read w n at t lt e =
    let there : 12 * at ≡ 0 + 12 * at = omega arith in
    e ∙ ap (thread_in w) there ∙ sym (thread_get w 0 n at lt)
