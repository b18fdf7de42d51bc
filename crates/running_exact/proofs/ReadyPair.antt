-- The ready pair of a state: the lowest sender, then the lowest receiver that can meet it without refusal.
use Prim.Native.Nat.{ℕ, ◌-◌, ◌≤◌, ◌<◌}
use mathlib.Core.Path.{◌≡◌, refl, sym, ap, ◌∙◌, subst}
use mathlib.Core.Logic.{◌↔◌, ◌⊎◌, inl, inr, ◌≢◌}
use mathlib.Core.Bool.{Bool, true, false, cond, ◌&&◌, false≢true}
use native.Mathlib.Omega.{arith}
use lib.Dec.{eqb, leb}
use lib.ListN.{length}
use borrow.Author.Tests.{eqb-false, leb-true, eq-eqb, ne_eqb}
use Rattle.format.specs.Contents.{in_count}
use Rattle.format.specs.declared.Node.{Node}
use Rattle.format.proofs.ContentsLaws.{in_count_iff}
use Rattle.rules.specs.declared.Way.TheVariants.{Sends, Receives}
use Rattle.steps.specs.declared.Thread.{Thread}
use Rattle.steps.specs.declared.Partner.{Partner}
use Rattle.steps.specs.declared.Partner.TheVariants.{Alone, With, Missing}
use Rattle.steps.specs.declared.Outcome.{Outcome}
use Rattle.steps.specs.declared.Outcome.TheVariants.{Refused, Moves, Adds, Makes, Ends, Meets}
use Rattle.steps.specs.Threads.{value, onward, bound}
use Rattle.steps.specs.Choice.{Clinic, State, halts, goes, thread_at, partner_at, is_allowed, meeting, sending, acting, done, outcome, choice}
use Rattle.running.specs.Run.{is_meeting, ready_pair}
use Rattle.reading_exact.specs.File.{InCount}
use Rattle.running_exact.specs.Steps.{StandsAt, Steps, on, off, fork, repeat, new, compare, end, meet}
use Rattle.running_exact.proofs.StepsChosen.{at_send, counted_partner}
use Rattle.running_exact.proofs.Agree.{choice_steps, never_both}
use Rattle.running_exact.proofs.ReadyFound.{meets, ReadyIs, no_pair_lem, a_pair, ready_is}

-- a send is refused, or it is a meeting
abbrev Either : Outcome → Type 0
Either o = ((k : ℕ) × (o ≡ Refused k)) ⊎ (is_meeting o ≡ true)

either_cond : (b : Bool) (o : Outcome) (n : ℕ) → Either o → Either (cond b o (Refused n))
either_cond true o n h = h
either_cond false o n h = inl (n, refl)

module _ (C : Clinic) (s : State) where
  abbrev Counted : ℕ → Type 0
  Counted i = InCount (length s.threads) i

  sending_either : (t : Thread) (n : Node) (q : Partner) → Either (sending C s.made t n q)
  unfolding sending meeting
  sending_either t n Alone = inl (18, refl)
  sending_either t n Missing = inl (18, refl)
  sending_either t n (With r) =
      let m : Node = C.node r.node in
      let o : Outcome = Meets (record { first = onward t; second = bound r (value t n.f2) }) in
      let same : Bool = eqb (value t n.f1) (value r m.f1) in
      let may : Bool = is_allowed C s.made t Sends n.f1 && is_allowed C s.made r Receives m.f1 in
      either_cond (in_count C.nodes r.node && eqb m.tag 5) (cond may (cond same o (Refused 19)) (Refused 13)) 18
      (either_cond may (cond same o (Refused 19)) 13 (either_cond same o 19 (inr refl)))

  meets_goes : (i p : ℕ) (o : Outcome) → is_meeting o ≡ true → (s' : State) × (done s i p o ≡ goes s')
  unfolding done
  meets_goes i p (Refused n) h = absurd (false≢true h)
  meets_goes i p (Moves t) h = absurd (false≢true h)
  meets_goes i p (Adds q) h = absurd (false≢true h)
  meets_goes i p (Makes q) h = absurd (false≢true h)
  meets_goes i p Ends h = absurd (false≢true h)
  meets_goes i p (Meets q) h = (_, refl)

  -- two threads that can meet: the choice is done
  choice_goes : (i p : ℕ) → Counted i → Counted p → meets C s (thread_at s i) (thread_at s p) ≡ true → (s' : State) × (choice C s i p ≡ goes s')
  unfolding choice outcome
  choice_goes i p c d h =
      let (s', e) = meets_goes i p (acting C (length s.threads) s.made (thread_at s i) (With (thread_at s p))) h in
      let a : choice C s i p ≡ done s i p (acting C (length s.threads) s.made (thread_at s i) (partner_at s p)) = rw ((in_count_iff (length s.threads) i).1 c) in
      (s', a ∙ ap (λ (q : Partner). done s i p (acting C (length s.threads) s.made (thread_at s i) q)) (counted_partner C s p d) ∙ e)

  acting_send : (i : ℕ) (n : Node) (q : Partner) → StandsAt C s i n → n.tag ≡ 6
      → acting C (length s.threads) s.made (thread_at s i) q ≡ sending C s.made (thread_at s i) n q
  unfolding acting
  acting_send i n q st six =
      subst (λ (x : Node). x.tag ≡ 6 → acting C (length s.threads) s.made (thread_at s i) q ≡ sending C s.made (thread_at s i) x q) st.2
      (λ e. rw ((in_count_iff C.nodes (thread_at s i).node).1 st.1, eq-eqb (C.node (thread_at s i).node).tag 6 e)) six

  refuses : (i p : ℕ) (o : Outcome) → Either o → is_meeting o ≡ false → (m : ℕ) × (done s i p o ≡ halts m)
  unfolding done
  refuses i p o (inl (k, e)) z = (k, ap (done s i p) e)
  refuses i p o (inr h) z = absurd (false≢true (sym z ∙ h))

  -- a send is refused with every partner that it can't meet
  send_halts : (i p : ℕ) (n : Node) → StandsAt C s i n → n.tag ≡ 6 → (Counted p → meets C s (thread_at s i) (thread_at s p) ≡ false)
      → (m : ℕ) × (choice C s i p ≡ halts m)
  unfolding sending done
  send_halts i p n st six h = go (eqb p 0) refl
    where
      there : Counted p → (m : ℕ) × (choice C s i p ≡ halts m)
      there c =
          let o : Outcome = sending C s.made (thread_at s i) n (With (thread_at s p)) in
          let z : is_meeting o ≡ false = sym (ap is_meeting (acting_send i n (With (thread_at s p)) st six)) ∙ h c in
          let (m, e) = refuses i p o (sending_either (thread_at s i) n (With (thread_at s p))) z in
          (m, at_send C s i p n st six ∙ ap (λ (q : Partner). done s i p (sending C s.made (thread_at s i) n q)) (counted_partner C s p c) ∙ e)

      some : (b : Bool) → leb p (length s.threads) ≡ b → (p ≡ 0 → ⊥) → (m : ℕ) × (choice C s i p ≡ halts m)
      some true e z = there (omega (arith, z), leb-true p (length s.threads) e)
      some false e z = (18, at_send C s i p n st six ∙ rw (ne_eqb p 0 z, e))

      go : (b : Bool) → eqb p 0 ≡ b → (m : ℕ) × (choice C s i p ≡ halts m)
      go true e = (18, at_send C s i p n st six ∙ rw e)
      go false e = some (leb p (length s.threads)) refl (eqb-false p 0 e)

  -- a step of two is a send's
  paired_send : (i p : ℕ) (s' : State) → 1 ≤ p → Steps C s i p s' → (n : Node) × StandsAt C s i n × (n.tag ≡ 6)
  paired_send j p s' l (on i n st e h) = let never : ⊥ = omega (arith, l) in absurd never
  paired_send j p s' l (off i n st e h) = let never : ⊥ = omega (arith, l) in absurd never
  paired_send j p s' l (fork i n st e h) = let never : ⊥ = omega (arith, l) in absurd never
  paired_send j p s' l (repeat i n st e h) = let never : ⊥ = omega (arith, l) in absurd never
  paired_send j p s' l (new i n st e h) = let never : ⊥ = omega (arith, l) in absurd never
  paired_send j p s' l (compare i n st e h) = let never : ⊥ = omega (arith, l) in absurd never
  paired_send j p s' l (end i n st e) = let never : ⊥ = omega (arith, l) in absurd never
  paired_send j q s' l (meet i p n m st six at five x y z) = (n, st, six)

  -- A ready pair is a send and its partner, and the choice is a step.
  pub ready_done : (i p : ℕ) → ready_pair C s ≡ (i, p) → i ≢ 0 → (s' : State) × Steps C s i p s' × (n : Node) × StandsAt C s i n × (n.tag ≡ 6)
  ready_done i p e z = go (ready_is C s i p e)
    where
      go : ReadyIs C s i p → (s' : State) × Steps C s i p s' × (n : Node) × StandsAt C s i n × (n.tag ≡ 6)
      go (no_pair_lem a b h) = absurd (z a)
      go (a_pair c d h f g) =
          let (s', w) = choice_goes i p c d h in
          let st : Steps C s i p s' = choice_steps C s i p s' w in
          let (n, at, six) = paired_send i p s' d.0 st in
          (s', st, n, at, six)

  -- It is the lowest: every send before it is refused with every partner, and this send with every partner before that one.
  pub ready_lowest : (i p : ℕ) → ready_pair C s ≡ (i, p) → i ≢ 0
      → ((j q : ℕ) (n : Node) → j < i → StandsAt C s j n → n.tag ≡ 6 → (m : ℕ) × (choice C s j q ≡ halts m))
      × ((q : ℕ) → q < p → (m : ℕ) × (choice C s i q ≡ halts m))
  ready_lowest i p e z = go (ready_is C s i p e)
    where
      go : ReadyIs C s i p
          → ((j q : ℕ) (n : Node) → j < i → StandsAt C s j n → n.tag ≡ 6 → (m : ℕ) × (choice C s j q ≡ halts m))
          × ((q : ℕ) → q < p → (m : ℕ) × (choice C s i q ≡ halts m))
      go (no_pair_lem a b h) = absurd (z a)
      go (a_pair c d h f g) =
          let (s', st, n, at, six) = ready_done i p e z in
          (λ j q k l sj t. send_halts j q k sj t (f j q l sj.0), λ q l. send_halts i q n at six (g q l))

  -- every send is refused with every partner
  abbrev NoneMeets : Type 0
  NoneMeets = (j q : ℕ) (n : Node) → StandsAt C s j n → n.tag ≡ 6 → (m : ℕ) × (choice C s j q ≡ halts m)

  -- 0, 0 exactly if no pair exists: every send is refused with every partner.
  pub ready_none : (ready_pair C s ≡ (0, 0)) ↔ ((j q : ℕ) (n : Node) → StandsAt C s j n → n.tag ≡ 6 → (m : ℕ) × (choice C s j q ≡ halts m))
  ready_none = (λ e. to (ready_is C s 0 0 e), λ h. back h (ready_pair C s) refl)
    where
      to : ReadyIs C s 0 0 → NoneMeets
      to (no_pair_lem a b h) j q n st six = send_halts j q n st six (h j q st.0)
      to (a_pair c d h f g) j q n st six = let never : ⊥ = omega (arith, c.0) in absurd never

      found : NoneMeets → (i p : ℕ) → ready_pair C s ≡ (i, p) → ReadyIs C s i p → ready_pair C s ≡ (0, 0)
      found h i p e (no_pair_lem a b f) = e ∙ ap (λ (x : ℕ). (x, p)) a ∙ ap (λ (x : ℕ). (0, x)) b
      found h i p e (a_pair c d t f g) =
          let (s', w) = choice_goes i p c d t in
          let (n, st, six) = paired_send i p s' d.0 (choice_steps C s i p s' w) in
          let (m, k) = h i p n st six in
          absurd (never_both C s i p m s' k w)

      back : NoneMeets → (x : ℕ × ℕ) → ready_pair C s ≡ x → ready_pair C s ≡ (0, 0)
      back h (i, p) e = found h i p e (ready_is C s i p e)

  -- Sender and receiver of a ready pair are 0 together.
  pub ready_zero : (i p : ℕ) → ready_pair C s ≡ (i, p) → (i ≡ 0) ↔ (p ≡ 0)
  ready_zero i p e = go (ready_is C s i p e)
    where
      go : ReadyIs C s i p → (i ≡ 0) ↔ (p ≡ 0)
      go (no_pair_lem a b h) = (λ z. b, λ z. a)
      go (a_pair c d h f g) = (λ z. let never : ⊥ = omega (arith, z, c.0) in absurd never, λ z. let never : ⊥ = omega (arith, z, d.0) in absurd never)
