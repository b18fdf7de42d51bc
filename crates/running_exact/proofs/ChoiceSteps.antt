-- What a choice comes to: a step of the relation, or a refusal whose condition holds.
use Prim.Native.Nat.{ℕ, suc, ◌-◌, ◌≤◌, zero-le}
use mathlib.Core.Path.{◌≡◌, refl, sym, ap, ◌∙◌, subst}
use mathlib.Core.Logic.{◌⊎◌, inl, inr, ◌≢◌}
use mathlib.Core.Bool.{Bool, true, false, cond, ◌&&◌, false≢true, and-eq-true_iff}
use native.Mathlib.Nat.{not-le_of_lt}
use native.Mathlib.Omega.{arith}
use lib.Dec.{eqb, leb, ltb}
use lib.ListN.{length}
use borrow.Author.Tests.{ltb-true, ltb-false, eqb-true, eqb-false, leb-true, leb-false, eq-eqb}
use Rattle.masks.specs.Mask.{has}
use Rattle.format.specs.Contents.{in_count}
use Rattle.format.specs.declared.Node.{Node}
use Rattle.format.proofs.BoolLaws.{and_fails}
use Rattle.format.proofs.ContentsLaws.{in_count_iff}
use Rattle.rules.specs.declared.Way.{Way}
use Rattle.rules.specs.declared.Way.TheVariants.{Sends, Receives}
use Rattle.steps.specs.declared.Thread.{Thread}
use Rattle.steps.specs.declared.Partner.{Partner}
use Rattle.steps.specs.declared.Partner.TheVariants.{Alone, With, Missing}
use Rattle.steps.specs.declared.Outcome.{Outcome}
use Rattle.steps.specs.declared.Outcome.TheVariants.{Refused}
use Rattle.steps.specs.Threads.{value}
use Rattle.steps.specs.Choice.{Clinic, State, Chosen, halts, goes, thread_at, partner_at, kind_held, is_allowed, meeting, sending, lone, alone_only, acting, done, outcome, choice}
use Rattle.reading_exact.specs.File.{InCount}
use Rattle.checking_exact.proofs.NameFaults.{fails_iff}
use Rattle.rules.proofs.PermittedRoles.{able_iff}
use Rattle.running_exact.specs.Steps.{StandsAt, Able, Steps, on, off, fork, repeat, new, compare, end, meet}
use Rattle.running_exact.specs.Conditions.{
  Lone,
  Condition,
  no_thread_lem,
  partner,
  no_receiver,
  receive_first,
  not_assigned,
  not_active,
  sender_unable,
  receiver_unable,
  unequal,
  channels_differ,
  threads_full,
  channels_full,
}

above : (k t : ℕ) → k ≤ t → (t ≡ k → ⊥) → suc k ≤ t
above k t l z = omega (arith, l, z)

-- a tag that is no receive and no send is a lone step's, or none
pub lone_or_none : (t : ℕ) → (t ≡ 5 → ⊥) → (t ≡ 6 → ⊥) → Lone t ⊎ (9 ≤ t)
lone_or_none t five six = low (leb t 4) refl
  where
    last : (b : Bool) → eqb t 8 ≡ b → (t ≡ 7 → ⊥) → 5 ≤ t → Lone t ⊎ (9 ≤ t)
    last true e seven l = inl (inr (inr (eqb-true t 8 e)))
    last false e seven l = inr (above 8 t (above 7 t (above 6 t (above 5 t l five) six) seven) (eqb-false t 8 e))

    high : (b : Bool) → eqb t 7 ≡ b → 5 ≤ t → Lone t ⊎ (9 ≤ t)
    high true e l = inl (inr (inl (eqb-true t 7 e)))
    high false e l = last (eqb t 8) refl (eqb-false t 7 e) l

    low : (b : Bool) → leb t 4 ≡ b → Lone t ⊎ (9 ≤ t)
    low true e = inl (inl (leb-true t 4 e))
    low false e = high (eqb t 7) refl (leb-false t 4 e)

module _ (C : Clinic) (s : State) where
  -- what an outcome says of a choice
  abbrev pub StepOrRefusal : ℕ → ℕ → Chosen → Type 0
  StepOrRefusal i p (halts n) = Condition C s i p n
  StepOrRefusal i p (goes s') = Steps C s i p s'

  -- a lone step of thread i at the node n, and a send of it
  abbrev pub lone_at : ℕ → Node → Outcome
  lone_at i n = lone C (length s.threads) (length s.made) (thread_at s i) n

  abbrev pub send_at : ℕ → Node → Partner → Outcome
  send_at i n q = sending C s.made (thread_at s i) n q

  abbrev Comes : ℕ → ℕ → Outcome → Type 0
  Comes i p o = StepOrRefusal i p (done s i p o)

  branch : (i p : ℕ) (b : Bool) (o o' : Outcome) → (b ≡ true → Comes i p o) → (b ≡ false → Comes i p o') → Comes i p (cond b o o')
  branch i p true o o' f g = f refl
  branch i p false o o' f g = g refl

  -- a thread at a node of no tag is no thread that stands at a node
  none_18 : (i p : ℕ) (n : Node) → StandsAt C s i n → 9 ≤ n.tag → Condition C s i p 18
  none_18 i p n st l =
      no_thread_lem (λ m at t. out n.tag l (subst (λ (x : Node). Lone x.tag ⊎ ((x.tag ≡ 5) ⊎ (x.tag ≡ 6))) (sym at.2 ∙ st.2) t))
    where
      out : (t : ℕ) → 9 ≤ t → Lone t ⊎ ((t ≡ 5) ⊎ (t ≡ 6)) → ⊥
      out t l (inl (inl e)) = omega arith
      out t l (inl (inr (inl e))) = omega arith
      out t l (inl (inr (inr e))) = omega arith
      out t l (inr (inl e)) = omega arith
      out t l (inr (inr e)) = omega arith

  not_counted : (k x : ℕ) → in_count k x ≡ false → InCount k x → ⊥
  not_counted k x = (fails_iff (in_count k x) (InCount k x) (in_count_iff k x)).0

  able_at : (t : Thread) (w : Way) (x : ℕ) → is_allowed C s.made t w x ≡ true → Able C s t w x
  able_at t w x = (able_iff C.schema t.mask w (kind_held C.schema s.made (value t x))).0

  unable : (t : Thread) (w : Way) (x : ℕ) → is_allowed C s.made t w x ≡ false → Able C s t w x → ⊥
  unable t w x =
      let k : ℕ = kind_held C.schema s.made (value t x) in
      (fails_iff (is_allowed C s.made t w x) (Able C s t w x) (able_iff C.schema t.mask w k)).0

  -- a lone step, with no partner
  lone-told : (i : ℕ) (n : Node) → StandsAt C s i n → Lone n.tag ⊎ (9 ≤ n.tag) → Comes i 0 (lone_at i n)
  unfolding lone done
  lone-told i n st tags =
      let t : Thread = thread_at s i in
      let tag : ℕ = n.tag in
      branch i 0 (eqb tag 0) _ _ (λ e. end i n st (eqb-true tag 0 e)) (λ e0.
      branch i 0 (eqb tag 1) _ _ (λ e. branch i 0 (ltb (length s.threads) 64) _ _
      (λ h. fork i n st (eqb-true tag 1 e) (ltb-true (length s.threads) 64 h))
      (λ h. threads_full n st (inl (eqb-true tag 1 e)) (ltb-false (length s.threads) 64 h))) (λ e1.
      branch i 0 (eqb tag 2) _ _ (λ e. branch i 0 (ltb (length s.threads) 64) _ _
      (λ h. repeat i n st (eqb-true tag 2 e) (ltb-true (length s.threads) 64 h))
      (λ h. threads_full n st (inr (eqb-true tag 2 e)) (ltb-false (length s.threads) 64 h))) (λ e2.
      branch i 0 (eqb tag 3) _ _ (λ e. branch i 0 (ltb (length s.made) 64) _ _
      (λ h. new i n st (eqb-true tag 3 e) (ltb-true (length s.made) 64 h))
      (λ h. channels_full n st (eqb-true tag 3 e) (ltb-false (length s.made) 64 h))) (λ e3.
      branch i 0 (eqb tag 4) _ _ (λ e. branch i 0 (eqb (value t n.f1) (value t n.f2)) _ _
      (λ h. compare i n st (eqb-true tag 4 e) (eqb-true (value t n.f1) (value t n.f2) h))
      (λ h. unequal n st (eqb-true tag 4 e) (eqb-false (value t n.f1) (value t n.f2) h))) (λ e4.
      branch i 0 (eqb tag 7) _ _ (λ e. branch i 0 (has (C.schema.assigned t.user) n.f1) _ _
      (λ h. on i n st (eqb-true tag 7 e) h)
      (λ h. not_assigned n st (eqb-true tag 7 e) h)) (λ e7.
      branch i 0 (eqb tag 8) _ _ (λ e. branch i 0 (has t.mask n.f1) _ _
      (λ h. off i n st (eqb-true tag 8 e) h)
      (λ h. not_active n st (eqb-true tag 8 e) h)) (λ e8.
      none_18 i 0 n st (rest tags (eqb-false tag 0 e0) (eqb-false tag 1 e1) (eqb-false tag 2 e2) (eqb-false tag 3 e3) (eqb-false tag 4 e4)
      (eqb-false tag 7 e7) (eqb-false tag 8 e8)))))))))
    where
      rest : Lone n.tag ⊎ (9 ≤ n.tag) → (n.tag ≡ 0 → ⊥) → (n.tag ≡ 1 → ⊥) → (n.tag ≡ 2 → ⊥) → (n.tag ≡ 3 → ⊥) → (n.tag ≡ 4 → ⊥) → (n.tag ≡ 7 → ⊥)
          → (n.tag ≡ 8 → ⊥) → 9 ≤ n.tag
      rest (inl (inl l)) z0 z1 z2 z3 z4 z7 z8 =
          absurd (not-le_of_lt (above 4 n.tag (above 3 n.tag (above 2 n.tag (above 1 n.tag (above 0 n.tag zero-le z0) z1) z2) z3) z4) l)
      rest (inl (inr (inl l))) z0 z1 z2 z3 z4 z7 z8 = absurd (z7 l)
      rest (inl (inr (inr l))) z0 z1 z2 z3 z4 z7 z8 = absurd (z8 l)
      rest (inr l) z0 z1 z2 z3 z4 z7 z8 = l

  partner_18 : (i p : ℕ) (n : Node) → StandsAt C s i n → p ≢ 0 → Lone n.tag ⊎ (9 ≤ n.tag) → Condition C s i p 18
  partner_18 i p n st z (inl l) = partner n st l z
  partner_18 i p n st z (inr l) = none_18 i p n st l

  alone-told : (i p : ℕ) (n : Node) → StandsAt C s i n → Lone n.tag ⊎ (9 ≤ n.tag)
      → Comes i p (alone_only (partner_at s p) (lone_at i n))
  unfolding alone_only done
  alone-told i p n st tags = go (eqb p 0) refl
    where
      some : (b : Bool) → p ≢ 0
          → Comes i p (alone_only (cond b (With (thread_at s p)) Missing) (lone_at i n))
      some true z = partner_18 i p n st z tags
      some false z = partner_18 i p n st z tags

      go : (b : Bool) → eqb p 0 ≡ b
          → Comes i p (alone_only (cond b Alone (cond (leb p (length s.threads)) (With (thread_at s p)) Missing)) (lone_at i n))
      go true e = subst (λ (q : ℕ). Comes i q (lone_at i n)) (sym (eqb-true p 0 e)) (lone-told i n st tags)
      go false e = some (leb p (length s.threads)) (eqb-false p 0 e)

  meeting-told : (i p : ℕ) (n m : Node) → StandsAt C s i n → n.tag ≡ 6 → StandsAt C s p m → m.tag ≡ 5
      → Comes i p (meeting C s.made (thread_at s i) n (thread_at s p) m)
  unfolding meeting done
  meeting-told i p n m st six at five =
      let t : Thread = thread_at s i in
      let r : Thread = thread_at s p in
      branch i p (is_allowed C s.made t Sends n.f1 && is_allowed C s.made r Receives m.f1) _ _
      (λ e. let both = and_iff_able e in
      branch i p (eqb (value t n.f1) (value r m.f1)) _ _
      (λ h. meet i p n m st six at five both.0 both.1 (eqb-true (value t n.f1) (value r m.f1) h))
      (λ h. channels_differ n m st six at five (eqb-false (value t n.f1) (value r m.f1) h)))
      (λ e. and_fails (is_allowed C s.made t Sends n.f1) (is_allowed C s.made r Receives m.f1) e
      (λ h. sender_unable n m st six at five (unable t Sends n.f1 h))
      (λ _ h. receiver_unable n m st six at five (unable r Receives m.f1 h)))
    where
      and_iff_able : (is_allowed C s.made (thread_at s i) Sends n.f1 && is_allowed C s.made (thread_at s p) Receives m.f1) ≡ true
          → Able C s (thread_at s i) Sends n.f1 × Able C s (thread_at s p) Receives m.f1
      and_iff_able e =
          let (a, b) = (and-eq-true_iff (is_allowed C s.made (thread_at s i) Sends n.f1) (is_allowed C s.made (thread_at s p) Receives m.f1)).0 e in
          (able_at (thread_at s i) Sends n.f1 a, able_at (thread_at s p) Receives m.f1 b)

  sending-told : (i p : ℕ) (n : Node) → StandsAt C s i n → n.tag ≡ 6 → Comes i p (send_at i n (partner_at s p))
  unfolding sending done
  sending-told i p n st six = go (eqb p 0) refl
    where
      -- the partner is a thread at a receive
      met : InCount (length s.threads) p → Comes i p (send_at i n (With (thread_at s p)))
      met c =
          let j : ℕ = (thread_at s p).node in
          branch i p (in_count C.nodes j && eqb (C.node j).tag 5) _ _
          (λ e. let (a, b) = (and-eq-true_iff (in_count C.nodes j) (eqb (C.node j).tag 5)).0 e in
          meeting-told i p n (C.node j) st six (c, (in_count_iff C.nodes j).0 a, refl) (eqb-true (C.node j).tag 5 b))
          (λ e. no_receiver n st six (λ m at five.
          let a : in_count C.nodes j ≡ true = (in_count_iff C.nodes j).1 at.1 in
          let b : eqb (C.node j).tag 5 ≡ true = eq-eqb (C.node j).tag 5 (ap (λ (x : Node). x.tag) at.2 ∙ five) in
          false≢true (sym e ∙ (and-eq-true_iff (in_count C.nodes j) (eqb (C.node j).tag 5)).1 (a, b))))

      some : (b : Bool) → leb p (length s.threads) ≡ b → 1 ≤ p → Comes i p (send_at i n (cond b (With (thread_at s p)) Missing))
      some true e l = met (l, leb-true p (length s.threads) e)
      some false e l = no_receiver n st six (λ m at five. not-le_of_lt (leb-false p (length s.threads) e) at.0.1)

      go : (b : Bool) → eqb p 0 ≡ b
          → Comes i p (send_at i n (cond b Alone (cond (leb p (length s.threads)) (With (thread_at s p)) Missing)))
      go true e = no_receiver n st six (λ m at five. let z : p ≡ 0 = eqb-true p 0 e in let never : ⊥ = omega (arith, z, at.0.0) in never)
      go false e = some (leb p (length s.threads)) refl (above 0 p zero-le (eqb-false p 0 e))

  acting-told : (i p : ℕ) → InCount (length s.threads) i
      → Comes i p (acting C (length s.threads) s.made (thread_at s i) (partner_at s p))
  unfolding acting done
  acting-told i p c =
      let j : ℕ = (thread_at s i).node in
      branch i p (in_count C.nodes j) _ _
      (λ e. let st : StandsAt C s i (C.node j) = (c, (in_count_iff C.nodes j).0 e, refl) in
      branch i p (eqb (C.node j).tag 6) _ _ (λ e6. sending-told i p (C.node j) st (eqb-true (C.node j).tag 6 e6)) (λ e6.
      branch i p (eqb (C.node j).tag 5) _ _ (λ e5. receive_first (C.node j) st (eqb-true (C.node j).tag 5 e5)) (λ e5.
      alone-told i p (C.node j) st (lone_or_none (C.node j).tag (eqb-false (C.node j).tag 5 e5) (eqb-false (C.node j).tag 6 e6)))))
      (λ e. no_thread_lem (λ m at t. not_counted C.nodes j e at.1))

  -- a choice is a step, or its refusal's condition holds
  pub choice_step_or_refusal : (i p : ℕ) → StepOrRefusal i p (choice C s i p)
  unfolding choice outcome done
  choice_step_or_refusal i p = go (in_count (length s.threads) i) refl
    where
      go : (b : Bool) → in_count (length s.threads) i ≡ b
          → StepOrRefusal i p (done s i p (cond b (acting C (length s.threads) s.made (thread_at s i) (partner_at s p)) (Refused 18)))
      go true e = acting-told i p ((in_count_iff (length s.threads) i).0 e)
      go false e = no_thread_lem (λ m at t. not_counted (length s.threads) i e at.0)
