-- Tables that agree up to a map of operands judge a moved tree as they judge the tree.
use Prim.Native.Nat.{ℕ}
use mathlib.Core.Path.{◌≡◌, sym, ap, ◌∙◌, subst}
use mathlib.Core.Logic.{◌↔◌}
use mathlib.Core.Bool.{true, false}
use mathlib.Core.List.{List}
use Rattle.masks.specs.Mask.{has, with, without}
use Rattle.rules.specs.declared.Way.{Way}
use Rattle.rules.specs.declared.Way.TheVariants.{Sends, Receives}
use Rattle.rules.specs.Schema.{Schema, permits, Permitted}
use Rattle.rules.specs.Names.{Bound}
use Rattle.reading_exact.specs.Tree.{Tree, end, fork, step, switch, repeat, new, compare, receive, send, on, off}
use Rattle.reading_exact.specs.File.{InCount}
use Rattle.checking_exact.specs.Typing.{HasKind, Receivable, with_variable, Typed}
use Rattle.checking_exact.specs.Typing.{Kinded, k-end, k_fork, k_repeat, k_new, k_compare, k_receive, k_send, k_switch}
use Rattle.checking_exact.specs.Typing.{ByRoles, r_end, r_fork, r_repeat, r_new, r_compare, r_receive, r_send, r_on, r_off}
use Rattle.checking_exact.proofs.OperandKinds.{Ranged, kind_at_lem}
use Rattle.merging_exact.specs.Moved.{moved_tree}

-- names and kinds: what D has for a tree of user u, E has for the moved tree of user v
pub record Renames (D E : Schema) (u v : ℕ) (σ : ℕ → ℕ) : Type 0 where
  pub roles : D.roles ≡ E.roles
  pub kinds : D.kinds ≡ E.kinds
  pub carries : (k : ℕ) → D.carries k ≡ E.carries k
  pub names : (vs : List Bound) (x k : ℕ) → HasKind D vs x k → HasKind E vs (σ x) k
  pub receives : (vs : List Bound) (x : ℕ) → Receivable D u vs x → Receivable E v vs (σ x)

-- and roles: v is assigned what u is, and every role is granted the same
pub record Moves (D E : Schema) (u v : ℕ) (σ : ℕ → ℕ) : Type 0 where
  pub renames : Renames D E u v σ
  pub assigned : D.assigned u ≡ E.assigned v
  pub grants : (w : Way) (r : ℕ) → D.grants w r ≡ E.grants w r

-- an operand has one kind
pub one_kind : (D : Schema) → Ranged D → (vs : List Bound) (x j k : ℕ) → HasKind D vs x j → HasKind D vs x k → j ≡ k
one_kind D R vs x j k p q = sym (kind_at_lem D R vs x j p) ∙ kind_at_lem D R vs x k q

count : (n m x : ℕ) → n ≡ m → InCount n x → InCount m x
count n m x e c = subst (λ (k : ℕ). InCount k x) e c

module _ (D E : Schema) (u v : ℕ) (σ : ℕ → ℕ) (M : Renames D E u v σ) where
  pub kinded_moved : (vs : List Bound) (t : Tree) → Kinded D u vs t → Kinded E v vs (moved_tree σ t)
  unfolding moved_tree
  kinded_moved vs end k-end = k-end
  kinded_moved vs (fork x y) (k_fork p q) = k_fork (kinded_moved vs x p) (kinded_moved vs y q)
  kinded_moved vs (step repeat t) (k_repeat p) = k_repeat (kinded_moved vs t p)
  kinded_moved vs (step (new k) t) (k_new n p) = k_new (count _ _ k M.kinds n) (kinded_moved (with_variable vs k true) t p)
  kinded_moved vs (step (compare a b) t) (k_compare k p q r) = k_compare k (M.names vs a k p) (M.names vs b k q) (kinded_moved vs t r)
  kinded_moved vs (step (receive c) t) (k_receive k p q r) =
      k_receive k (M.names vs c k p) (M.receives vs c q)
      (subst (λ (j : ℕ). Kinded E v (with_variable vs j false) (moved_tree σ t)) (M.carries k) (kinded_moved (with_variable vs (D.carries k) false) t r))
  kinded_moved vs (step (send c x) t) (k_send k p l q r) =
      k_send k (M.names vs c k p) l (subst (HasKind E vs (σ x)) (M.carries k) (M.names vs x (D.carries k) q)) (kinded_moved vs t r)
  kinded_moved vs (switch w r t) (k_switch n p) = k_switch (count _ _ r M.roles n) (kinded_moved vs t p)

module _ (D E : Schema) (u v : ℕ) (σ : ℕ → ℕ) (M : Moves D E u v σ) where
  permitted_moved : (m : ℕ) (w : Way) (k : ℕ) → Permitted D m w k → Permitted E m w k
  unfolding permits
  permitted_moved m w k (r, c, a, p) = (r, count _ _ r M.renames.roles c, a, ap (λ (g : ℕ). has g k) (sym (M.grants w r)) ∙ p)

  permitted_back : (m : ℕ) (w : Way) (k : ℕ) → Permitted E m w k → Permitted D m w k
  unfolding permits
  permitted_back m w k (r, c, a, p) = (r, count _ _ r (sym M.renames.roles) c, a, ap (λ (g : ℕ). has g k) (M.grants w r) ∙ p)

  pub roles_moved : (vs : List Bound) (m : ℕ) (t : Tree) → ByRoles D u vs m t → ByRoles E v vs m (moved_tree σ t)
  unfolding moved_tree
  roles_moved vs m end r_end = r_end
  roles_moved vs m (fork x y) (r_fork p q) = r_fork (roles_moved vs m x p) (roles_moved vs m y q)
  roles_moved vs m (step repeat t) (r_repeat p) = r_repeat (roles_moved vs m t p)
  roles_moved vs m (step (new k) t) (r_new p) = r_new (roles_moved (with_variable vs k true) m t p)
  roles_moved vs m (step (compare a b) t) (r_compare p) = r_compare (roles_moved vs m t p)
  roles_moved vs m (step (receive c) t) (r_receive k p z r) =
      r_receive k (M.renames.names vs c k p) (permitted_moved m Receives k z)
      (subst (λ (j : ℕ). ByRoles E v (with_variable vs j false) m (moved_tree σ t)) (M.renames.carries k) (roles_moved (with_variable vs (D.carries k) false) m t r))
  roles_moved vs m (step (send c x) t) (r_send k p z r) = r_send k (M.renames.names vs c k p) (permitted_moved m Sends k z) (roles_moved vs m t r)
  roles_moved vs m (switch on r t) (r_on e p) = r_on (ap (λ (g : ℕ). has g r) (sym M.assigned) ∙ e) (roles_moved vs (with m r) t p)
  roles_moved vs m (switch off r t) (r_off e p) = r_off e (roles_moved vs (without m r) t p)

  pub typed_moved : (vs : List Bound) (m : ℕ) (t : Tree) → Typed D u vs m t → Typed E v vs m (moved_tree σ t)
  typed_moved vs m t (k, r) = (kinded_moved D E u v σ M.renames vs t k, roles_moved vs m t r)

  module _ (R : Ranged E) where
    -- back, where the names and kinds of the tree are right before it is moved
    roles_back : (vs : List Bound) (m : ℕ) (t : Tree) → Kinded D u vs t → ByRoles E v vs m (moved_tree σ t) → ByRoles D u vs m t
    unfolding moved_tree
    roles_back vs m end k-end r_end = r_end
    roles_back vs m (fork x y) (k_fork a b) (r_fork p q) = r_fork (roles_back vs m x a p) (roles_back vs m y b q)
    roles_back vs m (step repeat t) (k_repeat a) (r_repeat p) = r_repeat (roles_back vs m t a p)
    roles_back vs m (step (new k) t) (k_new n a) (r_new p) = r_new (roles_back (with_variable vs k true) m t a p)
    roles_back vs m (step (compare x y) t) (k_compare k b c a) (r_compare p) = r_compare (roles_back vs m t a p)
    roles_back vs m (step (receive c) t) (k_receive k b o a) (r_receive j d z p) =
        let e : j ≡ k = one_kind E R vs (σ c) j k d (M.renames.names vs c k b) in
        let g : E.carries j ≡ D.carries k = ap E.carries e ∙ sym (M.renames.carries k) in
        r_receive k b (permitted_back m Receives k (subst (λ (i : ℕ). Permitted E m Receives i) e z))
        (roles_back (with_variable vs (D.carries k) false) m t a (subst (λ (i : ℕ). ByRoles E v (with_variable vs i false) m (moved_tree σ t)) g p))
    roles_back vs m (step (send c x) t) (k_send k b l o a) (r_send j d z p) =
        let e : j ≡ k = one_kind E R vs (σ c) j k d (M.renames.names vs c k b) in
        r_send k b (permitted_back m Sends k (subst (λ (i : ℕ). Permitted E m Sends i) e z)) (roles_back vs m t a p)
    roles_back vs m (switch on r t) (k_switch n a) (r_on e p) = r_on (ap (λ (g : ℕ). has g r) M.assigned ∙ e) (roles_back vs (with m r) t a p)
    roles_back vs m (switch off r t) (k_switch n a) (r_off e p) = r_off e (roles_back vs (without m r) t a p)

    pub typed_back : (vs : List Bound) (m : ℕ) (t : Tree) → Kinded D u vs t → Typed E v vs m (moved_tree σ t) → Typed D u vs m t
    typed_back vs m t k (_, r) = (k, roles_back vs m t k r)

    pub typed_both : (vs : List Bound) (m : ℕ) (t : Tree) → Kinded D u vs t → Typed D u vs m t ↔ Typed E v vs m (moved_tree σ t)
    typed_both vs m t k = (typed_moved vs m t, typed_back vs m t k)
