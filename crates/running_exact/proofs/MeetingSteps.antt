-- A send with a receive leaves two threads that fit: the value sent has the kind that rule 1 gives the receive's variable.
use Prim.Native.Nat.{ℕ, suc}
use mathlib.Core.Path.{◌≡◌, sym, ap, ◌∙◌, subst}
use mathlib.Core.Logic.{inr}
use mathlib.Core.Bool.{false, ◌&&◌, and-eq-true_iff}
use mathlib.Core.List.{List}
use native.Mathlib.Omega.{arith}
use lib.Dec.{eqb}
use borrow.Author.Tests.{eqb-true}
use Rattle.format.specs.Contents.{in_count}
use Rattle.format.specs.declared.Node.{Node}
use Rattle.format.proofs.BoolLaws.{and_fails}
use Rattle.rules.specs.declared.Way.TheVariants.{Sends, Receives}
use Rattle.rules.specs.Schema.{Schema}
use Rattle.rules.specs.Names.{kind_of}
use Rattle.rules.specs.Rules.{Context, able, bind, activate}
use Rattle.steps.specs.declared.Thread.{Thread}
use Rattle.steps.specs.declared.Made.{Made}
use Rattle.steps.specs.declared.Partner.{Partner}
use Rattle.steps.specs.declared.Partner.TheVariants.{Alone, With, Missing}
use Rattle.steps.specs.declared.Outcome.{Outcome}
use Rattle.steps.specs.declared.Outcome.TheVariants.{Refused, Meets}
use Rattle.steps.specs.Threads.{value, onward, bound}
use Rattle.steps.specs.Choice.{Clinic, kind_held, is_allowed, meeting, sending}
use Rattle.reading_exact.specs.Refusals.{OneChild}
use Rattle.checking_exact.specs.Typing.{HasKind}
use Rattle.running_exact.specs.Keeps.{HasValue, Fits}
use Rattle.running_exact.proofs.HeldValues.{operand_value}
use Rattle.running_exact.proofs.NodeSteps.{receive_names, send_names, child_same, child_receive, receive_barred, send_barred}
use Rattle.running_exact.proofs.ThreadSteps.{Lawful, Steady, Good, onward_good, bound_good, kinds_agree}
use Rattle.running_exact.proofs.OutcomeClaims.{MayCome, Claimed, refused-told, meets-told, either}

-- a partner that is a thread fits its node's context
abbrev pub GoodPartner : Schema → (ℕ → Context → Type 0) → (ℕ → ℕ → Type 0) → List Made → Partner → Type 0
GoodPartner D At K made Alone = Unit {0}
GoodPartner D At K made Missing = Unit {0}
GoodPartner D At K made (With r) = Good D At K made r

module _ (C : Clinic) (At : ℕ → Context → Type 0) (L : Lawful C At) (K : ℕ → ℕ → Type 0) (S : Steady K) (R : ℕ → Type 0) (M : MayCome C At K R) (k : ℕ) (made : List Made) where
  abbrev D : Schema
  D = C.schema

  abbrev T : Outcome → Type 0
  T = Claimed C At K R k made

  -- the sender t in the context c, the receiver r in the context d
  module _ (t r : Thread) (c d : Context) (a : At t.node c) (b : At r.node d) (F : Fits D made c t) (G : Fits D made d r) (e : K t.mask c.mask)
      (g : K r.mask d.mask) where
    abbrev n : Node
    n = C.node t.node

    abbrev m : Node
    m = C.node r.node

    -- the channels' kinds by rule 1
    abbrev sent : ℕ
    sent = kind_of D c.vars n.f1

    abbrev got : ℕ
    got = kind_of D d.vars m.f1

    module _ (z : n.tag ≡ 6) (w : m.tag ≡ 5) where
      names : HasKind D c.vars n.f1 sent × HasKind D c.vars n.f2 (D.carries sent)
      names = send_names D c n L.ranged (L.clear t.node c a) z

      kind_sent : kind_held D made (value t n.f1) ≡ sent
      kind_sent = kinds_agree D At K made t c F L.apart n.f1 sent names.0

      kind_got : kind_held D made (value r m.f1) ≡ got
      kind_got = kinds_agree D At K made r d G L.apart m.f1 got (receive_names D d m L.ranged (L.clear r.node d b) w)

      no_send : is_allowed C made t Sends n.f1 ≡ false → T (Refused 13)
      no_send x =
          refused-told C At K R k made 13
          (M.role t.node c a t.mask e 12 (send_barred D (activate c t.mask) n z (ap (able D t.mask Sends) (sym kind_sent) ∙ x)))

      no_receive : is_allowed C made r Receives m.f1 ≡ false → T (Refused 13)
      no_receive x =
          refused-told C At K R k made 13
          (M.role r.node d b r.mask g 12 (receive_barred D (activate d r.mask) m w (ap (able D r.mask Receives) (sym kind_got) ∙ x)))

      -- one value is one channel, and has one kind
      meets : value t n.f1 ≡ value r m.f1 → T (Meets (record { first = onward t; second = bound r (value t n.f2) }))
      meets x =
          let one : OneChild n.tag = (omega arith, omega arith) in
          let two : OneChild m.tag = (omega arith, omega arith) in
          let kind : sent ≡ got = sym kind_sent ∙ ap (kind_held D made) x ∙ kind_got in
          let there : At (suc r.node) (bind d (D.carries got) false) = subst (At (suc r.node)) (child_receive D d m w) (L.child r.node d b two) in
          let v : HasValue D made (value t n.f2) (D.carries sent) =
          operand_value D L.apart made c.vars t n.f2 (D.carries sent) F.vars names.1 in
          meets-told C At K R k made (record { first = onward t; second = bound r (value t n.f2) })
          (onward_good D At K made t c F (subst (At (suc t.node)) (child_same D c n (inr (inr z))) (L.child t.node c a one)) e)
          (bound_good D At K made r d G L.apart (D.carries got) (value t n.f2) false there g (L.room r.node d b (inr w))
          (subst (λ (j : ℕ). HasValue D made (value t n.f2) (D.carries j)) kind v))

      meeting-told : T (meeting C made t n r m)
      unfolding meeting
      meeting-told =
          either C At K R k made (is_allowed C made t Sends n.f1 && is_allowed C made r Receives m.f1) _ _
          (λ _. either C At K R k made (eqb (value t n.f1) (value r m.f1)) _ _ (λ x. meets (eqb-true (value t n.f1) (value r m.f1) x))
          (λ _. refused-told C At K R k made 19 M.unequal))
          (λ x. and_fails (is_allowed C made t Sends n.f1) (is_allowed C made r Receives m.f1) x no_send (λ _. no_receive))

  -- a send with the partner that a choice names
  pub sending-told : (t : Thread) → Good D At K made t → (C.node t.node).tag ≡ 6 → (p : Partner) → GoodPartner D At K made p
      → T (sending C made t (C.node t.node) p)
  unfolding sending
  sending-told t g z Alone h = refused-told C At K R k made 18 M.no_thread_lem
  sending-told t g z Missing h = refused-told C At K R k made 18 M.no_thread_lem
  sending-told t (c, a, F, e) z (With r) (d, b, G, g) =
      either C At K R k made (in_count C.nodes r.node && eqb (C.node r.node).tag 5) _ _
      (λ x.
      let w = ((and-eq-true_iff (in_count C.nodes r.node) (eqb (C.node r.node).tag 5)).0 x).1 in
      meeting-told t r c d a b F G e g z (eqb-true (C.node r.node).tag 5 w))
      (λ _. refused-told C At K R k made 18 M.no_thread_lem)
