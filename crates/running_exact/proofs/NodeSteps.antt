-- What rules 1 to 6 say at a node, by its tag: names that are right, the context of the child, and the refusal for a role.
use Prim.Native.Nat.{ℕ}
use mathlib.Core.Path.{◌≡◌, refl, subst}
use mathlib.Core.Logic.{◌⊎◌, inl, inr}
use mathlib.Core.Bool.{Bool, true, false, cond, and-eq-true_iff}
use native.Mathlib.Omega.{arith}
use lib.Dec.{eqb, ltb}
use borrow.Author.Tests.{eqb-true}
use Rattle.masks.specs.Mask.{has, with, without}
use Rattle.format.specs.declared.Node.{Node}
use Rattle.format.proofs.ContentsLaws.{in_count_iff}
use Rattle.rules.specs.declared.Way.TheVariants.{Sends, Receives}
use Rattle.rules.specs.Schema.{Schema}
use Rattle.rules.specs.Names.{kind_of}
use Rattle.rules.specs.Rules.{Context, names_fit, kinds_fit, able, wrong, barred, bind, activate, child_of}
use Rattle.reading_exact.specs.File.{InCount}
use Rattle.checking_exact.specs.Typing.{HasKind}
use Rattle.checking_exact.proofs.OperandKinds.{Ranged, named_kind}
use Rattle.checking_exact.proofs.NameFaults.{names_fit_lem, both_kinds}

module _ (D : Schema) (c : Context) (n : Node) where
  kinds_fit_lem : wrong D c n ≡ 0 → kinds_fit D c.user c.vars n ≡ true
  unfolding wrong
  kinds_fit_lem h = go (names_fit D c.vars n) (kinds_fit D c.user c.vars n) refl h
    where
      go : (a b : Bool) → kinds_fit D c.user c.vars n ≡ b → ◌≡◌ {A = ℕ} (cond a (cond b 0 10) 9) 0 → kinds_fit D c.user c.vars n ≡ true
      go true true e h = e
      go true false e h = let never : ⊥ = omega arith in absurd never
      go false b e h = let never : ⊥ = omega arith in absurd never

  module _ (R : Ranged D) (clear : wrong D c n ≡ 0) where
    -- new names a kind
    pub new_names : n.tag ≡ 3 → InCount D.kinds n.f1
    unfolding names_fit
    new_names t = (in_count_iff D.kinds n.f1).0 (rw t at (names_fit_lem D R c n clear))

    -- receive names something of a kind
    pub receive_names : n.tag ≡ 5 → HasKind D c.vars n.f1 (kind_of D c.vars n.f1)
    unfolding names_fit
    receive_names t = named_kind D R c.vars n.f1 (rw t at (names_fit_lem D R c n clear))

    -- send does, and what it sends is of the kind carried
    pub send_names : n.tag ≡ 6
        → HasKind D c.vars n.f1 (kind_of D c.vars n.f1) × HasKind D c.vars n.f2 (D.carries (kind_of D c.vars n.f1))
    unfolding names_fit kinds_fit
    send_names t =
        let (a, b) = both_kinds D R c.vars n.f1 n.f2 (rw t at (names_fit_lem D R c n clear)) in
        let (p, q) = (and-eq-true_iff (ltb 0 (kind_of D c.vars n.f1)) (eqb (kind_of D c.vars n.f2) (D.carries (kind_of D c.vars n.f1)))).0 (rw t at (kinds_fit_lem clear)) in
        (a, subst (HasKind D c.vars n.f2) (eqb-true (kind_of D c.vars n.f2) (D.carries (kind_of D c.vars n.f1)) q) b)

  -- the context of the child: repeat, compare and send leave it
  pub child_same : (n.tag ≡ 2) ⊎ ((n.tag ≡ 4) ⊎ (n.tag ≡ 6)) → child_of D c n ≡ c
  unfolding child_of
  child_same (inl t) = rw t
  child_same (inr (inl t)) = rw t
  child_same (inr (inr t)) = rw t

  -- new binds a variable of the kind named
  pub child_new : n.tag ≡ 3 → child_of D c n ≡ bind c n.f1 true
  unfolding child_of
  child_new t = rw t

  -- receive binds one of the kind carried
  pub child_receive : n.tag ≡ 5 → child_of D c n ≡ bind c (D.carries (kind_of D c.vars n.f1)) false
  unfolding child_of
  child_receive t = rw t

  -- on adds a role
  pub child_on : n.tag ≡ 7 → child_of D c n ≡ activate c (with c.mask n.f1)
  unfolding child_of
  child_on t = rw t

  -- off removes one
  pub child_off : n.tag ≡ 8 → child_of D c n ≡ activate c (without c.mask n.f1)
  unfolding child_of
  child_off t = rw t

  -- refusals for roles: 11
  pub on_barred : n.tag ≡ 7 → has (D.assigned c.user) n.f1 ≡ false → barred D c n ≡ 11
  unfolding barred
  on_barred t e = rw (t, e)

  -- 12
  pub off_barred : n.tag ≡ 8 → has c.mask n.f1 ≡ false → barred D c n ≡ 12
  unfolding barred
  off_barred t e = rw (t, e)

  -- 13 of a receive
  pub receive_barred : n.tag ≡ 5 → able D c.mask Receives (kind_of D c.vars n.f1) ≡ false → barred D c n ≡ 13
  unfolding barred
  receive_barred t e = rw (t, e)

  -- 13 of a send
  pub send_barred : n.tag ≡ 6 → able D c.mask Sends (kind_of D c.vars n.f1) ≡ false → barred D c n ≡ 13
  unfolding barred
  send_barred t e = rw (t, e)
