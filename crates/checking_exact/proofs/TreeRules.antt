-- 9 and 10 find nothing all over a tree exactly where its names and kinds are right, and in such a tree 11 to 13 where rules 5 and 6 hold.
use Prim.Native.Nat.{ℕ, suc}
use mathlib.Core.Path.{◌≡◌, refl, sym, subst}
use mathlib.Core.Logic.{◌↔◌}
use mathlib.Core.Bool.{Bool, true, false, cond}
use mathlib.Core.List.{List}
use native.Mathlib.Omega.{arith}
use Rattle.masks.specs.Mask.{has, with, without}
use Rattle.rules.specs.declared.Way.TheVariants.{Sends, Receives}
use Rattle.rules.specs.Schema.{Schema, Permitted}
use Rattle.rules.specs.Names.{Bound, kind_of}
use Rattle.rules.specs.Rules.{Context, able, wrong, barred, child_of}
use Rattle.reading_exact.specs.Tree.{repeat, new, compare, receive, send, on, off, Tree, end, fork, step, switch}
use Rattle.checking_exact.specs.Typing.{HasKind, with_variable, Typed}
use Rattle.checking_exact.specs.Typing.{Kinded, k-end, k_fork, k_repeat, k_new, k_compare, k_receive, k_send, k_switch}
use Rattle.checking_exact.specs.Typing.{ByRoles, r_end, r_fork, r_repeat, r_new, r_compare, r_receive, r_send, r_on, r_off}
use Rattle.rules.proofs.PermittedRoles.{able_iff}
use Rattle.checking_exact.proofs.OperandKinds.{Ranged, kind_at_lem}
use Rattle.checking_exact.proofs.ClearTrees.{Clear}
use Rattle.checking_exact.proofs.StepRules.{step_iff, switch_iff}

not_barred : (b : Bool) (n : ℕ) → ◌≡◌ {A = ℕ} (cond b 0 (suc n)) 0 → b ≡ true
not_barred true n h = refl
not_barred false n h = let no : ⊥ = omega arith in absurd no

module _ (D : Schema) (R : Ranged D) (u : ℕ) where
  abbrev at : List Bound → ℕ → Context
  at vs m = record { user = u; mask = m; vars = vs }

  clear_kinded : (t : Tree) (vs : List Bound) (m : ℕ) → Clear D (wrong D) (at vs m) t → Kinded D u vs t
  unfolding Clear child_of
  clear_kinded end vs m w = k-end
  clear_kinded (fork x y) vs m w = k_fork (clear_kinded x vs m w.0) (clear_kinded y vs m w.1)
  clear_kinded (step repeat t) vs m w = k_repeat (clear_kinded t vs m w.1)
  clear_kinded (step (new k) t) vs m w = k_new ((step_iff D R u vs m (new k)).0 w.0) (clear_kinded t (with_variable vs k true) m w.1)
  clear_kinded (step (compare x y) t) vs m w = let (k, p, q) = (step_iff D R u vs m (compare x y)).0 w.0 in k_compare k p q (clear_kinded t vs m w.1)
  clear_kinded (step (receive c) t) vs m w =
      let (k, p, q) = (step_iff D R u vs m (receive c)).0 w.0 in
      let e : k ≡ kind_of D vs c = sym (kind_at_lem D R vs c k p) in
      k_receive (kind_of D vs c) (subst (HasKind D vs c) e p) q (clear_kinded t (with_variable vs (D.carries (kind_of D vs c)) false) m w.1)
  clear_kinded (step (send c v) t) vs m w = let (k, p, l, q) = (step_iff D R u vs m (send c v)).0 w.0 in k_send k p l q (clear_kinded t vs m w.1)
  clear_kinded (switch on r t) vs m w = k_switch ((switch_iff D R u vs m on r).0 w.0) (clear_kinded t vs (with m r) w.1)
  clear_kinded (switch off r t) vs m w = k_switch ((switch_iff D R u vs m off r).0 w.0) (clear_kinded t vs (without m r) w.1)

  kinded_clear : (vs : List Bound) (m : ℕ) (t : Tree) → Kinded D u vs t → Clear D (wrong D) (at vs m) t
  unfolding Clear child_of
  kinded_clear vs m t k-end = tt
  kinded_clear vs m t (k_fork {a = x} {b = y} h k) = (kinded_clear vs m x h, kinded_clear vs m y k)
  kinded_clear vs m t (k_repeat {t = x} h) = ((step_iff D R u vs m repeat).1 tt, kinded_clear vs m x h)
  kinded_clear vs m t (k_new {t = x} {k = k} n h) = ((step_iff D R u vs m (new k)).1 n, kinded_clear (with_variable vs k true) m x h)
  kinded_clear vs m t (k_compare {t = x} {a = a} {b = b} k p q h) = ((step_iff D R u vs m (compare a b)).1 (k, p, q), kinded_clear vs m x h)
  kinded_clear vs m t (k_receive {t = x} {c = c} k p q h) =
      let e : k ≡ kind_of D vs c = sym (kind_at_lem D R vs c k p) in (
        (step_iff D R u vs m (receive c)).1 (k, p, q),
        subst (λ (j : ℕ). Clear D (wrong D) (at (with_variable vs (D.carries j) false) m) x) e (kinded_clear (with_variable vs (D.carries k) false) m x h),
      )
  kinded_clear vs m t (k_send {t = x} {c = c} {v = v} k p l q h) = ((step_iff D R u vs m (send c v)).1 (k, p, l, q), kinded_clear vs m x h)
  kinded_clear vs m t (k_switch {t = x} {w = on} {r = r} n h) = ((switch_iff D R u vs m on r).1 n, kinded_clear vs (with m r) x h)
  kinded_clear vs m t (k_switch {t = x} {w = off} {r = r} n h) = ((switch_iff D R u vs m off r).1 n, kinded_clear vs (without m r) x h)

  pub kinded_iff : (vs : List Bound) (m : ℕ) (t : Tree) → Clear D (wrong D) (at vs m) t ↔ Kinded D u vs t
  kinded_iff vs m t = (clear_kinded t vs m, kinded_clear vs m t)

  clear_roles : (vs : List Bound) (m : ℕ) (t : Tree) → Kinded D u vs t → Clear D (barred D) (at vs m) t → ByRoles D u vs m t
  unfolding Clear child_of barred
  clear_roles vs m t k-end b = r_end
  clear_roles vs m t (k_fork {a = x} {b = y} h k) b = r_fork (clear_roles vs m x h b.0) (clear_roles vs m y k b.1)
  clear_roles vs m t (k_repeat {t = x} h) b = r_repeat (clear_roles vs m x h b.1)
  clear_roles vs m t (k_new {t = x} {k = k} n h) b = r_new (clear_roles (with_variable vs k true) m x h b.1)
  clear_roles vs m t (k_compare {t = x} k p q h) b = r_compare (clear_roles vs m x h b.1)
  clear_roles vs m t (k_receive {t = x} {c = c} k p q h) b =
      let e : kind_of D vs c ≡ k = kind_at_lem D R vs c k p in
      let a = (able_iff D m Receives (kind_of D vs c)).0 (not_barred (able D m Receives (kind_of D vs c)) 12 b.0) in
      r_receive k p (subst (Permitted D m Receives) e a)
      (clear_roles (with_variable vs (D.carries k) false) m x h (subst (λ (j : ℕ). Clear D (barred D) (at (with_variable vs (D.carries j) false) m) x) e b.1))
  clear_roles vs m t (k_send {t = x} {c = c} k p l q h) b =
      let a = (able_iff D m Sends (kind_of D vs c)).0 (not_barred (able D m Sends (kind_of D vs c)) 12 b.0) in
      r_send k p (subst (Permitted D m Sends) (kind_at_lem D R vs c k p) a) (clear_roles vs m x h b.1)
  clear_roles vs m t (k_switch {t = x} {w = on} {r = r} n h) b = r_on (not_barred (has (D.assigned u) r) 10 b.0) (clear_roles vs (with m r) x h b.1)
  clear_roles vs m t (k_switch {t = x} {w = off} {r = r} n h) b = r_off (not_barred (has m r) 11 b.0) (clear_roles vs (without m r) x h b.1)

  roles_clear : (vs : List Bound) (m : ℕ) (t : Tree) → ByRoles D u vs m t → Clear D (barred D) (at vs m) t
  unfolding Clear child_of barred
  roles_clear vs m t r_end = tt
  roles_clear vs m t (r_fork {a = x} {b = y} h k) = (roles_clear vs m x h, roles_clear vs m y k)
  roles_clear vs m t (r_repeat {t = x} h) = (refl, roles_clear vs m x h)
  roles_clear vs m t (r_new {t = x} {k = k} h) = (refl, roles_clear (with_variable vs k true) m x h)
  roles_clear vs m t (r_compare {t = x} h) = (refl, roles_clear vs m x h)
  roles_clear vs m t (r_receive {t = x} {c = c} k p z h) =
      let e : k ≡ kind_of D vs c = sym (kind_at_lem D R vs c k p) in
      let g : able D m Receives (kind_of D vs c) ≡ true = (able_iff D m Receives (kind_of D vs c)).1 (subst (Permitted D m Receives) e z) in
      (rw g, subst (λ (j : ℕ). Clear D (barred D) (at (with_variable vs (D.carries j) false) m) x) e (roles_clear (with_variable vs (D.carries k) false) m x h))
  roles_clear vs m t (r_send {t = x} {c = c} k p z h) =
      let e : k ≡ kind_of D vs c = sym (kind_at_lem D R vs c k p) in
      let g : able D m Sends (kind_of D vs c) ≡ true = (able_iff D m Sends (kind_of D vs c)).1 (subst (Permitted D m Sends) e z) in
      (rw g, roles_clear vs m x h)
  roles_clear vs m t (r_on {t = x} {r = r} e h) = (rw e, roles_clear vs (with m r) x h)
  roles_clear vs m t (r_off {t = x} {r = r} e h) = (rw e, roles_clear vs (without m r) x h)

  pub by_roles_iff : (vs : List Bound) (m : ℕ) (t : Tree) → Kinded D u vs t → Clear D (barred D) (at vs m) t ↔ ByRoles D u vs m t
  by_roles_iff vs m t h = (clear_roles vs m t h, roles_clear vs m t)

  pub typed_iff : (vs : List Bound) (m : ℕ) (t : Tree) → (Clear D (wrong D) (at vs m) t × Clear D (barred D) (at vs m) t) ↔ Typed D u vs m t
  typed_iff vs m t =
      let (to, from) = kinded_iff vs m t in
      (λ (w, b). (to w, (by_roles_iff vs m t (to w)).0 b), λ (h, r). (from h, (by_roles_iff vs m t h).1 r))
