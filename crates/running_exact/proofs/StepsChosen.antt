-- A choice by the node at which its thread stands: the steps are done, and each condition refuses.
use Prim.Native.Nat.{ℕ, ◌-◌, ◌≤◌, zero-le}
use mathlib.Core.Path.{◌≡◌, refl, sym, ap, ◌∙◌, subst}
use mathlib.Core.Logic.{◌⊎◌, inl, inr, ◌≢◌}
use mathlib.Core.Bool.{Bool, true, false, cond, ◌&&◌, not-eq-not, and-eq-true_iff}
use native.Mathlib.Nat.{le_refl}
use native.Mathlib.Omega.{arith}
use lib.Dec.{eqb, leb}
use lib.ListN.{length}
use borrow.Author.Tests.{eqb-true, eqb-false, leb-true, eq-eqb, ne_eqb, lt-ltb, le-ltb, le-leb}
use Rattle.format.specs.Contents.{in_count}
use Rattle.format.specs.declared.Node.{Node}
use Rattle.format.proofs.ContentsLaws.{in_count_iff}
use Rattle.rules.specs.declared.Way.{Way}
use Rattle.rules.specs.declared.Way.TheVariants.{Sends, Receives}
use Rattle.steps.specs.declared.Thread.{Thread}
use Rattle.steps.specs.declared.Partner.{Partner}
use Rattle.steps.specs.declared.Partner.TheVariants.{Alone, With, Missing}
use Rattle.steps.specs.declared.Outcome.{Outcome}
use Rattle.steps.specs.declared.Outcome.TheVariants.{Refused, Meets}
use Rattle.steps.specs.Threads.{value, onward, bound}
use Rattle.steps.specs.Choice.{Clinic, State, halts, goes, thread_at, partner_at, kind_held, is_allowed, meeting, sending, lone, alone_only, acting, done, outcome, choice}
use Rattle.reading_exact.specs.File.{InCount}
use Rattle.checking_exact.proofs.NameFaults.{fails_iff}
use Rattle.rules.proofs.PermittedRoles.{able_iff}
use Rattle.running_exact.specs.Steps.{StandsAt, Able, Steps, on, off, fork, repeat, new, compare, end, meet}
use Rattle.running_exact.specs.Conditions.{
  Lone,
  Condition,
  no_thread_lem,
  partner,
  no_receiver,
  receive_first,
  not_assigned,
  not_active,
  sender_unable,
  receiver_unable,
  unequal,
  channels_differ,
  threads_full,
  channels_full,
  choice_order,
}
use Rattle.running_exact.proofs.ChoiceSteps.{lone_or_none, lone_at, send_at}

lone_other : (t k : ℕ) → (k ≡ 5) ⊎ (k ≡ 6) → Lone t → t ≡ k → ⊥
lone_other t k (inl five) (inl l) e = omega (arith, five, l, e)
lone_other t k (inl five) (inr (inl l)) e = omega (arith, five, l, e)
lone_other t k (inl five) (inr (inr l)) e = omega (arith, five, l, e)
lone_other t k (inr six) (inl l) e = omega (arith, six, l, e)
lone_other t k (inr six) (inr (inl l)) e = omega (arith, six, l, e)
lone_other t k (inr six) (inr (inr l)) e = omega (arith, six, l, e)

module _ (C : Clinic) (s : State) where
  -- what a thread's choice comes to at a node
  abbrev reached : ℕ → ℕ → Node → Outcome
  reached i p n =
      cond (eqb n.tag 6) (send_at C s i n (partner_at s p))
      (cond (eqb n.tag 5) (Refused 18) (alone_only (partner_at s p) (lone_at C s i n)))

  pub at_node_lem : (i p : ℕ) (n : Node) → StandsAt C s i n → choice C s i p ≡ done s i p (reached i p n)
  unfolding choice outcome acting
  at_node_lem i p n st =
      subst (λ (x : Node). choice C s i p ≡ done s i p (reached i p x)) st.2
      (rw ((in_count_iff (length s.threads) i).1 st.0, (in_count_iff C.nodes (thread_at s i).node).1 st.1))

  -- a lone step
  at_lone : (i p : ℕ) (n : Node) → StandsAt C s i n → Lone n.tag
      → choice C s i p ≡ done s i p (alone_only (partner_at s p) (lone_at C s i n))
  at_lone i p n st l =
      at_node_lem i p n st ∙ rw (ne_eqb n.tag 6 (lone_other n.tag 6 (inr refl) l), ne_eqb n.tag 5 (lone_other n.tag 5 (inl refl) l))

  alone : (i : ℕ) (n : Node) → StandsAt C s i n → Lone n.tag
      → choice C s i 0 ≡ done s i 0 (lone_at C s i n)
  unfolding alone_only
  alone i n st l = at_lone i 0 n st l

  -- a send
  pub at_send : (i p : ℕ) (n : Node) → StandsAt C s i n → n.tag ≡ 6 → choice C s i p ≡ done s i p (send_at C s i n (partner_at s p))
  at_send i p n st six = at_node_lem i p n st ∙ rw (eq-eqb n.tag 6 six)

  pub counted_partner : (p : ℕ) → InCount (length s.threads) p → partner_at s p ≡ With (thread_at s p)
  counted_partner p c = let z : p ≡ 0 → ⊥ = (λ e. omega (arith, e, c.0)) in rw (ne_eqb p 0 z, le-leb p (length s.threads) c.1)

  -- a send and a receive
  at_meet : (i p : ℕ) (n m : Node) → StandsAt C s i n → n.tag ≡ 6 → StandsAt C s p m → m.tag ≡ 5
      → choice C s i p ≡ done s i p (meeting C s.made (thread_at s i) n (thread_at s p) m)
  unfolding sending
  at_meet i p n m st six at five =
      at_send i p n st six ∙ ap (λ (q : Partner). done s i p (send_at C s i n q)) (counted_partner p at.0)
      ∙ subst (λ (x : Node). x.tag ≡ 5 → done s i p (send_at C s i n (With (thread_at s p))) ≡ done s i p (meeting C s.made (thread_at s i) n (thread_at s p) x)) at.2
      (λ e. rw ((in_count_iff C.nodes (thread_at s p).node).1 at.1, eq-eqb (C.node (thread_at s p).node).tag 5 e)) five

  allows : (t : Thread) (w : Way) (x : ℕ) → Able C s t w x → is_allowed C s.made t w x ≡ true
  allows t w x = (able_iff C.schema t.mask w (kind_held C.schema s.made (value t x))).1

  forbids : (t : Thread) (w : Way) (x : ℕ) → (Able C s t w x → ⊥) → is_allowed C s.made t w x ≡ false
  forbids t w x = (fails_iff (is_allowed C s.made t w x) (Able C s t w x) (able_iff C.schema t.mask w (kind_held C.schema s.made (value t x)))).1

  -- a step is done
  pub steps_choice : (i p : ℕ) (s' : State) → Steps C s i p s' → choice C s i p ≡ goes s'
  unfolding lone meeting done
  steps_choice j p s' (on i n st e h) = alone i n st (inr (inl e)) ∙ rw (e, h)
  steps_choice j p s' (off i n st e h) = alone i n st (inr (inr e)) ∙ rw (e, h)
  steps_choice j p s' (fork i n st e l) = alone i n st (inl (omega (arith, e))) ∙ rw (e, lt-ltb (length s.threads) 64 l)
  steps_choice j p s' (repeat i n st e l) = alone i n st (inl (omega (arith, e))) ∙ rw (e, lt-ltb (length s.threads) 64 l)
  steps_choice j p s' (new i n st e l) = alone i n st (inl (omega (arith, e))) ∙ rw (e, lt-ltb (length s.made) 64 l)
  steps_choice j p s' (compare i n st e q) = alone i n st (inl (omega (arith, e))) ∙ rw (e, eq-eqb (value (thread_at s i) n.f1) (value (thread_at s i) n.f2) q)
  steps_choice j p s' (end i n st e) = alone i n st (inl (omega (arith, e))) ∙ rw e
  steps_choice j q s' (meet i p n m st six at five x y z) =
      at_meet i p n m st six at five
      ∙ rw (allows (thread_at s i) Sends n.f1 x, allows (thread_at s p) Receives m.f1 y, eq-eqb (value (thread_at s i) n.f1) (value (thread_at s p) m.f1) z)

  -- refused with a number no later in the order
  abbrev pub Halted : ℕ → ℕ → ℕ → Type 0
  Halted i p n = (k : ℕ) × (choice C s i p ≡ halts k) × (choice_order.turn k ≤ choice_order.turn n)

  halt_18 : (i p n : ℕ) → choice C s i p ≡ halts 18 → Halted i p n
  halt_18 i p n e = (18, e, zero-le)

  partner_halts : (i p : ℕ) (n : Node) → StandsAt C s i n → Lone n.tag → p ≢ 0 → choice C s i p ≡ halts 18
  unfolding alone_only done
  partner_halts i p n st l z = at_lone i p n st l ∙ go (eqb p 0) refl
    where
      some : (b : Bool) → done s i p (alone_only (cond b (With (thread_at s p)) Missing) (lone_at C s i n)) ≡ halts 18
      some true = refl
      some false = refl

      go : (b : Bool) → eqb p 0 ≡ b
          → done s i p (alone_only (cond b Alone (cond (leb p (length s.threads)) (With (thread_at s p)) Missing)) (lone_at C s i n)) ≡ halts 18
      go true e = absurd (z (eqb-true p 0 e))
      go false e = some (leb p (length s.threads))

  -- a lone step that would be refused alone
  lone_halts : (i p : ℕ) (n : Node) (k : ℕ) → StandsAt C s i n → Lone n.tag → lone_at C s i n ≡ Refused k → Halted i p k
  unfolding done
  lone_halts i p n k st l h = go (eqb p 0) refl
    where
      go : (b : Bool) → eqb p 0 ≡ b → Halted i p k
      go true e = subst (λ (q : ℕ). Halted i q k) (sym (eqb-true p 0 e)) (k, alone i n st l ∙ ap (done s i 0) h, le_refl (choice_order.turn k))
      go false e = halt_18 i p k (partner_halts i p n st l (eqb-false p 0 e))

  -- a send whose partner isn't a thread at a receive
  unreceived : (i p : ℕ) (n : Node) → StandsAt C s i n → n.tag ≡ 6 → ((m : Node) → StandsAt C s p m → m.tag ≡ 5 → ⊥) → choice C s i p ≡ halts 18
  unfolding sending done
  unreceived i p n st six h = at_send i p n st six ∙ go (eqb p 0) refl
    where
      there : InCount (length s.threads) p → done s i p (send_at C s i n (With (thread_at s p))) ≡ halts 18
      there c =
          let j : ℕ = (thread_at s p).node in
          let e : (in_count C.nodes j && eqb (C.node j).tag 5) ≡ false = not-eq-not.0 (λ e.
          let (a, b) = (and-eq-true_iff (in_count C.nodes j) (eqb (C.node j).tag 5)).0 e in
          h (C.node j) (c, (in_count_iff C.nodes j).0 a, refl) (eqb-true (C.node j).tag 5 b)) in
          ap (λ (b : Bool). done s i p (cond b (meeting C s.made (thread_at s i) n (thread_at s p) (C.node j)) (Refused 18))) e

      some : (b : Bool) → leb p (length s.threads) ≡ b → (p ≡ 0 → ⊥) → done s i p (send_at C s i n (cond b (With (thread_at s p)) Missing)) ≡ halts 18
      some true e z = there (omega (arith, z), leb-true p (length s.threads) e)
      some false e z = refl

      go : (b : Bool) → eqb p 0 ≡ b
          → done s i p (send_at C s i n (cond b Alone (cond (leb p (length s.threads)) (With (thread_at s p)) Missing))) ≡ halts 18
      go true e = refl
      go false e = some (leb p (length s.threads)) refl (eqb-false p 0 e)

  still_18 : (q : Partner) (o : Outcome) → o ≡ Refused 18 → alone_only q o ≡ Refused 18
  unfolding alone_only
  still_18 Alone o e = e
  still_18 Missing o e = refl
  still_18 (With r) o e = refl

  other : (n : Node) (k : ℕ) → 9 ≤ n.tag → k ≤ 8 → eqb n.tag k ≡ false
  other n k l m = ne_eqb n.tag k (λ e. omega (arith, l, m, e))

  lone_tagless : (i : ℕ) (n : Node) → 9 ≤ n.tag → lone_at C s i n ≡ Refused 18
  unfolding lone
  lone_tagless i n l =
      rw (
        other n 0 l (omega arith),
        other n 1 l (omega arith),
        other n 2 l (omega arith),
        other n 3 l (omega arith),
        other n 4 l (omega arith),
        other n 7 l (omega arith),
        other n 8 l (omega arith),
      )

  -- a node of no tag
  tagless : (i p : ℕ) (n : Node) → StandsAt C s i n → 9 ≤ n.tag → choice C s i p ≡ halts 18
  unfolding done
  tagless i p n st l =
      at_node_lem i p n st ∙ (rw (other n 6 l (omega arith), other n 5 l (omega arith)))
      ∙ ap (done s i p) (still_18 (partner_at s p) (lone_at C s i n) (lone_tagless i n l))

  -- no such thread, or one that stands at no node
  threadless : (i p : ℕ) → ((n : Node) → StandsAt C s i n → Lone n.tag ⊎ ((n.tag ≡ 5) ⊎ (n.tag ≡ 6)) → ⊥) → choice C s i p ≡ halts 18
  unfolding choice outcome acting done
  threadless i p h = go (in_count (length s.threads) i) refl
    where
      tagged : (n : Node) → StandsAt C s i n → Lone n.tag ⊎ (9 ≤ n.tag) → choice C s i p ≡ halts 18
      tagged n st (inl l) = absurd (h n st (inl l))
      tagged n st (inr l) = tagless i p n st l

      at : (b : Bool) → InCount (length s.threads) i → in_count C.nodes (thread_at s i).node ≡ b → choice C s i p ≡ halts 18
      at true c e =
          let n : Node = C.node (thread_at s i).node in
          let st : StandsAt C s i n = (c, (in_count_iff C.nodes (thread_at s i).node).0 e, refl) in
          tagged n st (lone_or_none n.tag (λ five. h n st (inr (inl five))) (λ six. h n st (inr (inr six))))
      at false c e = rw ((in_count_iff (length s.threads) i).1 c, e)

      go : (b : Bool) → in_count (length s.threads) i ≡ b → choice C s i p ≡ halts 18
      go true e = at (in_count C.nodes (thread_at s i).node) ((in_count_iff (length s.threads) i).0 e) refl
      go false e = rw e

  second_fails : (a b : Bool) (o : Outcome) → b ≡ false → cond (a && b) o (Refused 13) ≡ Refused 13
  second_fails true b o e = rw e
  second_fails false b o e = refl

  -- 19, unless 13 comes before it
  differing : (a : Bool) (o : Outcome) → (k : ℕ) × (cond a (cond false o (Refused 19)) (Refused 13) ≡ Refused k) × (choice_order.turn k ≤ 19)
  differing true o = (19, refl, le_refl 19)
  differing false o = (13, refl, omega arith)

  -- where a condition holds, the choice is refused, with its number or an earlier one
  pub condition_halts : (i p n : ℕ) → Condition C s i p n → Halted i p n
  unfolding lone meeting done
  condition_halts i p k (no_thread_lem h) = halt_18 i p k (threadless i p h)
  condition_halts i p k (partner n st l z) = halt_18 i p k (partner_halts i p n st l z)
  condition_halts i p k (no_receiver n st six h) = halt_18 i p k (unreceived i p n st six h)
  condition_halts i p k (receive_first n st five) = halt_18 i p k (at_node_lem i p n st ∙ rw five)
  condition_halts i p k (not_assigned n st e h) = lone_halts i p n 11 st (inr (inl e)) (rw (e, h))
  condition_halts i p k (not_active n st e h) = lone_halts i p n 12 st (inr (inr e)) (rw (e, h))
  condition_halts i p k (sender_unable n m st six at five h) =
      (13, at_meet i p n m st six at five ∙ rw (forbids (thread_at s i) Sends n.f1 h), le_refl 13)
  condition_halts i p k (receiver_unable n m st six at five h) =
      (13, at_meet i p n m st six at five ∙ ap (done s i p) (second_fails (is_allowed C s.made (thread_at s i) Sends n.f1) _ _ (forbids (thread_at s p) Receives m.f1 h)), le_refl 13)
  condition_halts i p k (unequal n st e h) =
      lone_halts i p n 19 st (inl (omega (arith, e))) (rw (e, ne_eqb (value (thread_at s i) n.f1) (value (thread_at s i) n.f2) h))
  condition_halts i p k (channels_differ n m st six at five h) =
      let t : Thread = thread_at s i in
      let r : Thread = thread_at s p in
      let both : Bool = is_allowed C s.made t Sends n.f1 && is_allowed C s.made r Receives m.f1 in
      let met : Outcome = Meets (record { first = onward t; second = bound r (value t n.f2) }) in
      let (k, e, l) = differing both met in
      let d : eqb (value t n.f1) (value r m.f1) ≡ false = ne_eqb (value t n.f1) (value r m.f1) h in
      let q : meeting C s.made t n r m ≡ cond both (cond false met (Refused 19)) (Refused 13) = ap (λ (b : Bool). cond both (cond b met (Refused 19)) (Refused 13)) d in
      (k, at_meet i p n m st six at five ∙ ap (done s i p) (q ∙ e), l)
  condition_halts i p k (threads_full n st (inl e) l) = lone_halts i p n 20 st (inl (omega (arith, e))) (rw (e, le-ltb (length s.threads) 64 l))
  condition_halts i p k (threads_full n st (inr e) l) = lone_halts i p n 20 st (inl (omega (arith, e))) (rw (e, le-ltb (length s.threads) 64 l))
  condition_halts i p k (channels_full n st e l) = lone_halts i p n 20 st (inl (omega (arith, e))) (rw (e, le-ltb (length s.made) 64 l))
