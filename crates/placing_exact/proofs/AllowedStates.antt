-- The states that nodes may have are those of the paper's words: 0 or a role of the user, and at a send or receive a role that permits it.
use Prim.Native.Nat.{ℕ, zero, suc, ◌≤◌}
use mathlib.Core.Path.{◌≡◌, refl, sym, ap, ◌∙◌, subst}
use mathlib.Core.Logic.{◌↔◌, ◌⊎◌, inl, inr}
use mathlib.Core.Bool.{true, false, not, false≢true}
use mathlib.Core.List.{List, [], ◌∷◌}
use native.Mathlib.Omega.{arith}
use lib.Bits.{bit_and}
use Rattle.masks.specs.Mask.{has}
use Rattle.rules.specs.declared.Way.{Way}
use Rattle.rules.specs.declared.Way.TheVariants.{Sends, Receives}
use Rattle.rules.specs.Schema.{Schema, permits, permitting}
use Rattle.rules.specs.Names.{Bound, kind_of}
use Rattle.rules.specs.Rules.{child_of}
use Rattle.rules.specs.Candidates.{candidates}
use Rattle.optimum.specs.Optimum.{States, Within, Allowed}
use Rattle.states.specs.States.{Label, needs, suits}
use Rattle.reading_exact.specs.Lists.{All}
use Rattle.reading_exact.specs.Tree.{Tree, end, fork, step, switch, repeat, new, compare, receive, send, words}
use Rattle.reading_exact.specs.File.{Routine, File, WellFormed}
use Rattle.reading_exact.proofs.AllLaws.{all_map}
use Rattle.checking_exact.specs.Tables.{schema_for}
use Rattle.checking_exact.specs.Typing.{HasKind, with_variable, Kinded, k-end, k_fork, k_repeat, k_new, k_compare, k_receive, k_send, k_switch, WellKinded}
use Rattle.checking_exact.proofs.OperandKinds.{Ranged, kind_at_lem}
use Rattle.rules.proofs.PermittedRoles.{permitting_iff}
use Rattle.checking_exact.proofs.FileRules.{ranged}
use Rattle.placing_exact.specs.Placed.{label, labels, vars_below, AllStates, IsState, Permits, Stated, AllStated}
use Rattle.placing_exact.proofs.StateRules.{both, first-of, second-of}
use Rattle.placing_exact.proofs.SoundSessions.{roles_fit}

-- each state is 0 or a role of the user, and permits the node's step, by its label
abbrev pub AllAllowed : (D : Schema) (ss : List Routine) → AllStates D ss → Type 0
AllAllowed D [] a = Unit {0}
AllAllowed D (s ∷ ss) a =
    Within 16 (labels D s.user [] s.tree) a.0 × Allowed suits (labels D s.user [] s.tree) a.0 × AllAllowed D ss a.1

module _ (D : Schema) (R : Ranged D) (u : ℕ) where
  -- a node that needs no role may have any of the user's
  any_state : (l : Label) → needs l.tag ≡ false → l.roles ≡ D.assigned u → (s : ℕ) → (suits l s ≡ true) ↔ IsState D u s
  unfolding suits
  any_state l e r zero = (λ h. inl refl, λ h. ap not e)
  any_state l e r (suc s) = (λ h. inr (sym (ap (λ (m : ℕ). has m (suc s)) r) ∙ h), back)
    where
      back : (suc s ≡ 0) ⊎ (has (D.assigned u) (suc s) ≡ true) → has l.roles (suc s) ≡ true
      back (inl z) = absurd (omega (arith, z))
      back (inr h) = ap (λ (m : ℕ). has m (suc s)) r ∙ h

  -- a send or receive one that permits it
  one_permits : (l : Label) (w : Way) (vs : List Bound) (c k : ℕ) → needs l.tag ≡ true → l.roles ≡ bit_and (D.assigned u) (permitting D w (kind_of D vs c)) → HasKind D vs c k
      → (s : ℕ) → (suits l s ≡ true) ↔ (IsState D u s × Permits D vs w c s)
  unfolding suits
  one_permits l w vs c k e r h zero = (
    λ z. absurd (false≢true (sym (ap not e) ∙ z)),
    λ (i, (k, a, b, q)). let never : ⊥ = omega (arith, b) in absurd never,
  )
  one_permits l w vs c k e r h (suc s) = (
    λ z.
        let m = sym (ap (λ (m : ℕ). has m (suc s)) r) ∙ z in
        let (i, p) = (permitting_iff D w (record { 0 = kind_of D vs c }) D.roles (suc s)).0 (second-of (D.assigned u) (permitting D w (kind_of D vs c)) (suc s) m) in
        let kind = kind_at_lem D R vs c k h in
        (inr (first-of (D.assigned u) (permitting D w (kind_of D vs c)) (suc s) m), (k, h, i, ap (λ (x : ℕ). permits D w (record { 0 = suc s }) (record { 0 = x })) (sym kind) ∙ p)),
    back,
  )
    where
      back : ((suc s ≡ 0) ⊎ (has (D.assigned u) (suc s) ≡ true)) × Permits D vs w c (suc s) → has l.roles (suc s) ≡ true
      back (inl z, p) = absurd (omega (arith, z))
      back (inr a, (j, g, i, q)) =
          let kind = kind_at_lem D R vs c j g in
          let p = (permitting_iff D w (record { 0 = kind_of D vs c }) D.roles (suc s)).1 (i, ap (λ (x : ℕ). permits D w (record { 0 = suc s }) (record { 0 = x })) kind ∙ q) in
          ap (λ (m : ℕ). has m (suc s)) r ∙ both (D.assigned u) (permitting D w (kind_of D vs c)) (suc s) a p

  module _ (few : (r : ℕ) → has (D.assigned u) r ≡ true → r ≤ 16) where
    low : (s : ℕ) → IsState D u s → s ≤ 16
    low s (inl z) = omega (arith, z)
    low s (inr h) = few s h

    abbrev Fits : (vs : List Bound) (t : Tree) → States (labels D u vs t) → Type 0
    Fits vs t a = Within 16 (labels D u vs t) a × Allowed suits (labels D u vs t) a

    stated_iff : (vs : List Bound) (t : Tree) → Kinded D u vs t → (a : States (labels D u vs t)) → Fits vs t a ↔ Stated D u vs t a
    unfolding candidates child_of
    stated_iff vs end k-end a =
        let one = any_state (label D u vs (words 0 0 0)) refl refl a.0 in
        (λ (i, h). one.0 h.0, λ h. ((low a.0 h, tt, tt), (one.1 h, tt, tt)))
    stated_iff vs (fork x y) (k_fork p q) a =
        let one = any_state (label D u vs (words 1 0 0)) refl refl a.0 in
        let left = stated_iff vs x p a.1 in
        let right = stated_iff vs y q a.2 in (
          λ (i, h). (one.0 h.0, left.0 (i.1, h.1), right.0 (i.2, h.2)),
          λ (s, l, r). let (i, h) = left.1 l in let (j, g) = right.1 r in ((low a.0 s, i, j), (one.1 s, h, g)),
        )
    stated_iff vs (step repeat t) (k_repeat p) a =
        let one = any_state (label D u vs (words 2 0 0)) refl refl a.0 in
        let more = stated_iff vs t p a.1 in
        (λ (i, h). (one.0 h.0, tt, more.0 (i.1, h.1)), λ (s, _, m). let (i, h) = more.1 m in ((low a.0 s, i, tt), (one.1 s, h, tt)))
    stated_iff vs (step (new k) t) (k_new n p) a =
        let one = any_state (label D u vs (words 3 k 0)) refl refl a.0 in
        let more = stated_iff (vars_below D u vs (new k)) t p a.1 in
        (λ (i, h). (one.0 h.0, tt, more.0 (i.1, h.1)), λ (s, _, m). let (i, h) = more.1 m in ((low a.0 s, i, tt), (one.1 s, h, tt)))
    stated_iff vs (step (compare x y) t) (k_compare k c d p) a =
        let one = any_state (label D u vs (words 4 x y)) refl refl a.0 in
        let more = stated_iff vs t p a.1 in
        (λ (i, h). (one.0 h.0, tt, more.0 (i.1, h.1)), λ (s, _, m). let (i, h) = more.1 m in ((low a.0 s, i, tt), (one.1 s, h, tt)))
    stated_iff vs (step (receive c) t) (k_receive k g o p) a =
        let one = one_permits (label D u vs (words 5 c 0)) Receives vs c k refl refl g a.0 in
        let more = stated_iff (vars_below D u vs (receive c)) t (below p (kind_at_lem D R vs c k g)) a.1 in (
          λ (i, h). let (s, n) = one.0 h.0 in (s, n, more.0 (i.1, h.1)),
          λ (s, n, m). let (i, h) = more.1 m in ((low a.0 s, i, tt), (one.1 (s, n), h, tt)),
        )
      where
        below : {j k : ℕ} → Kinded D u (with_variable vs (D.carries k) false) t → j ≡ k → Kinded D u (with_variable vs (D.carries j) false) t
        below p e = subst (λ (x : ℕ). Kinded D u (with_variable vs (D.carries x) false) t) (sym e) p
    stated_iff vs (step (send c v) t) (k_send k g l o p) a =
        let one = one_permits (label D u vs (words 6 c v)) Sends vs c k refl refl g a.0 in
        let more = stated_iff vs t p a.1 in (
          λ (i, h). let (s, n) = one.0 h.0 in (s, n, more.0 (i.1, h.1)),
          λ (s, n, m). let (i, h) = more.1 m in ((low a.0 s, i, tt), (one.1 (s, n), h, tt)),
        )
    stated_iff vs (switch w r t) (k_switch i p) a = stated_iff vs t p a

module _ (D : Schema) (R : Ranged D) where
  all-iff : (ss : List Routine) → All (λ (s : Routine). (r : ℕ) → has (D.assigned s.user) r ≡ true → r ≤ 16) ss → All (λ (s : Routine). Kinded D s.user [] s.tree) ss
      → (a : AllStates D ss) → AllAllowed D ss a ↔ AllStated D ss a
  all-iff [] few k a = (λ h. tt, λ h. tt)
  all-iff (s ∷ ss) few k a =
      let one = stated_iff D R s.user few.0 [] s.tree k.0 a.0 in
      let more = all-iff ss few.1 k.1 a.1 in (
        λ (i, h, m). (one.0 (i, h), more.0 m),
        λ (p, m). let (i, h) = one.1 p in (i, h, more.1 m),
      )

pub allowed_stated : (F : File) → WellFormed F → WellKinded F → (a : AllStates (schema_for F) F.sessions)
    → AllAllowed (schema_for F) F.sessions a ↔ AllStated (schema_for F) F.sessions a
allowed_stated F W N =
    all-iff (schema_for F) (ranged F W) F.sessions (all_map (λ s h r m. omega (arith, W.few_roles, roles_fit F W s.user h.0 r m)) F.sessions W.sessions_fit) N
