-- The states that a node may have are those with which rules 5 and 6 hold at it.
use Prim.Native.Nat.{ℕ, zero, suc}
use mathlib.Core.Path.{◌≡◌, refl, sym, ap, ◌∙◌}
use mathlib.Core.Bool.{Bool, true, false, cond, not, and-eq-true_iff, false≢true}
use mathlib.Core.List.{List}
use native.Mathlib.Omega.{arith}
use lib.Bits.{bit_and}
use lib.Dec.{eqb}
use borrow.Author.Tests.{eqb-false, ne_eqb}
use Rattle.masks.specs.Mask.{has}
use Rattle.masks.proofs.Laws.{has_and, has_pos}
use Rattle.masks.proofs.Meets.{meet_iff}
use Rattle.format.specs.declared.Node.{Node}
use Rattle.rules.specs.declared.Way.{Way}
use Rattle.rules.specs.declared.Way.TheVariants.{Sends, Receives}
use Rattle.rules.specs.Schema.{Schema, permitting}
use Rattle.rules.specs.Names.{Bound, kind_of}
use Rattle.rules.specs.Rules.{Context, able, barred, child_of}
use Rattle.rules.specs.Candidates.{candidates}
use Rattle.states.specs.States.{suits}
use Rattle.reading_exact.specs.Tree.{Step, repeat, new, compare, receive, send, words, step_node}
use Rattle.placing_exact.specs.Placed.{label, vars_below}
use Rattle.placing_exact.proofs.HeldRole.{Is, is_has, has_is}

-- none, or a role of the mask
abbrev pub Role : ℕ → ℕ → Type 0
Role a zero = Unit {0}
Role a (suc k) = has a (suc k) ≡ true

-- a context by its variables and its mask
abbrev pub at : ℕ → List Bound → ℕ → Context
at u vs m = record { user = u; mask = m; vars = vs }

-- rule 6 for a mask of one role: the role permits
held_able : (D : Schema) (w : Way) (k m p : ℕ) → Is m p → able D m w k ≡ true → has (permitting D w k) p ≡ true
unfolding able
held_able D w k m p i = go (eqb (bit_and m (permitting D w k)) 0) refl
  where
    go : (b : Bool) → eqb (bit_and m (permitting D w k)) 0 ≡ b → not b ≡ true → has (permitting D w k) p ≡ true
    go true e h = absurd (false≢true h)
    go false e h =
        let (x, a, b) = (meet_iff m (permitting D w k)).0 (eqb-false (bit_and m (permitting D w k)) 0 e) in
        ap (has (permitting D w k)) (sym (has_is m p x i a)) ∙ b

able_held : (D : Schema) (w : Way) (k m p : ℕ) → Is m (suc p) → has (permitting D w k) (suc p) ≡ true → able D m w k ≡ true
unfolding able
able_held D w k m p i h = rw (ne_eqb (bit_and m (permitting D w k)) 0 ((meet_iff m (permitting D w k)).1 (suc p, is_has m p i, h)))

-- a role of the user that permits
pub both : (a b x : ℕ) → has a x ≡ true → has b x ≡ true → has (bit_and a b) x ≡ true
both a b x h k = has_and a b x ∙ (and-eq-true_iff (has a x) (has b x)).1 (h, k)

pub first-of : (a b x : ℕ) → has (bit_and a b) x ≡ true → has a x ≡ true
first-of a b x h = ((and-eq-true_iff (has a x) (has b x)).0 (sym (has_and a b x) ∙ h)).0

pub second-of : (a b x : ℕ) → has (bit_and a b) x ≡ true → has b x ≡ true
second-of a b x h = ((and-eq-true_iff (has a x) (has b x)).0 (sym (has_and a b x) ∙ h)).1

-- what is not refused is had
pub not_barred : (b : Bool) (n : ℕ) → ◌≡◌ {A = ℕ} (cond b 0 (suc n)) 0 → b ≡ true
not_barred true n h = refl
not_barred false n h = let no : ⊥ = omega arith in absurd no

module _ (D : Schema) (u : ℕ) (vs : List Bound) where
  abbrev mask : ℕ
  mask = D.assigned u

  -- the roles that a node may be given are the user's
  pub candidate_role : (n : Node) (x : ℕ) → has (label D u vs n).roles x ≡ true → has (D.assigned u) x ≡ true
  unfolding candidates
  candidate_role n x = go (eqb n.tag 5) (eqb n.tag 6)
    where
      receiving : ℕ
      receiving = permitting D Receives (kind_of D vs n.f1)

      sending : ℕ
      sending = permitting D Sends (kind_of D vs n.f1)

      go : (b c : Bool) → has (cond b (bit_and mask receiving) (cond c (bit_and mask sending) mask)) x ≡ true → has mask x ≡ true
      go true c h = first-of mask receiving x h
      go false true h = first-of mask sending x h
      go false false h = h

  -- a state that a node may have is none or a role of the user
  pub suits_role : (n : Node) (p : ℕ) → suits (label D u vs n) p ≡ true → Role (D.assigned u) p
  unfolding suits
  suits_role n zero h = tt
  suits_role n (suc k) h = candidate_role n (suc k) h

  -- an end may have any
  pub role_end : (p : ℕ) → Role (D.assigned u) p → suits (label D u vs (words 0 0 0)) p ≡ true
  unfolding suits candidates
  role_end zero h = refl
  role_end (suc k) h = h

  -- a fork too
  pub role_fork : (p : ℕ) → Role (D.assigned u) p → suits (label D u vs (words 1 0 0)) p ≡ true
  unfolding suits candidates
  role_fork zero h = refl
  role_fork (suc k) h = h

  -- with a state that a step may have, rule 6 holds at it
  pub suits_step : (s : Step) (m p : ℕ) → Is m p → suits (label D u vs (step_node s)) p ≡ true → barred D (at u vs m) (step_node s) ≡ 0
  unfolding suits candidates barred
  suits_step repeat m p i h = refl
  suits_step (new k) m p i h = refl
  suits_step (compare x y) m p i h = refl
  suits_step (receive c) m zero i h = absurd (false≢true h)
  suits_step (receive c) m (suc p) i h =
      let k : ℕ = kind_of D vs c in
      rw (able_held D Receives k m p i (second-of mask (permitting D Receives k) (suc p) h))
  suits_step (send c v) m zero i h = absurd (false≢true h)
  suits_step (send c v) m (suc p) i h =
      let k : ℕ = kind_of D vs c in
      rw (able_held D Sends k m p i (second-of mask (permitting D Sends k) (suc p) h))

  -- and where rule 6 holds the step may have the state
  pub step_suits : (s : Step) (m p : ℕ) → Is m p → Role (D.assigned u) p → barred D (at u vs m) (step_node s) ≡ 0
      → suits (label D u vs (step_node s)) p ≡ true
  unfolding suits candidates barred
  step_suits repeat m zero i q h = refl
  step_suits repeat m (suc p) i q h = q
  step_suits (new k) m zero i q h = refl
  step_suits (new k) m (suc p) i q h = q
  step_suits (compare x y) m zero i q h = refl
  step_suits (compare x y) m (suc p) i q h = q
  step_suits (receive c) m zero i q h =
      let k : ℕ = kind_of D vs c in
      let no : ⊥ = omega (arith, has_pos (permitting D Receives k) 0 (held_able D Receives k m 0 i (not_barred (able D m Receives k) 12 h))) in absurd no
  step_suits (receive c) m (suc p) i q h =
      let k : ℕ = kind_of D vs c in
      both mask (permitting D Receives k) (suc p) q (held_able D Receives k m (suc p) i (not_barred (able D m Receives k) 12 h))
  step_suits (send c v) m zero i q h =
      let k : ℕ = kind_of D vs c in
      let no : ⊥ = omega (arith, has_pos (permitting D Sends k) 0 (held_able D Sends k m 0 i (not_barred (able D m Sends k) 12 h))) in absurd no
  step_suits (send c v) m (suc p) i q h =
      let k : ℕ = kind_of D vs c in
      both mask (permitting D Sends k) (suc p) q (held_able D Sends k m (suc p) i (not_barred (able D m Sends k) 12 h))

  -- a step leaves the mask as it is
  pub child_step : (s : Step) (m : ℕ) → child_of D (at u vs m) (step_node s) ≡ at u (vars_below D u vs s) m
  unfolding child_of
  child_step repeat m = refl
  child_step (new k) m = refl
  child_step (compare x y) m = refl
  child_step (receive c) m = refl
  child_step (send c v) m = refl
