-- Placing sees of a moved tree what it sees of the tree.
use Prim.Native.Nat.{ℕ, zero, suc}
use mathlib.Core.Path.{◌≡◌, refl, sym, ap, ap₂, ◌∙◌}
use mathlib.Core.Bool.{true, false, cond}
use mathlib.Core.List.{List}
use Rattle.masks.specs.Mask.{has, with}
use Rattle.rules.specs.declared.Way.{Way}
use Rattle.rules.specs.declared.Way.TheVariants.{Sends, Receives}
use Rattle.rules.specs.Schema.{Schema, permits, permitting_to, permitting}
use Rattle.rules.specs.Names.{Bound, kind_of}
use Rattle.rules.specs.Rules.{child_of}
use Rattle.rules.specs.Candidates.{candidates}
use Rattle.reading_exact.specs.Tree.{Tree, end, fork, step, switch, repeat, new, compare, receive, send, words}
use Rattle.checking_exact.specs.Typing.{HasKind, with_variable, Kinded, k-end, k_fork, k_repeat, k_new, k_compare, k_receive, k_send, k_switch}
use Rattle.checking_exact.proofs.OperandKinds.{Ranged, kind_at_lem}
use Rattle.optimum.specs.Optimum.{Bin, nil, node}
use Rattle.states.specs.States.{Label}
use Rattle.placing_exact.specs.Placed.{context, label, labels}
use Rattle.merging_exact.specs.Moved.{moved_tree}
use Rattle.merging_exact.proofs.MovedRules.{Moves}

module _ (D E : Schema) (u v : ℕ) (σ : ℕ → ℕ) (M : Moves D E u v σ) where
  permitting_moved : (w : Way) (k n : ℕ) → permitting_to D w (record { 0 = k }) n ≡ permitting_to E w (record { 0 = k }) n
  unfolding permitting_to permits
  permitting_moved w k zero = refl
  permitting_moved w k (suc n) = ap₂ {C = ℕ} (λ g m. cond (has g k) (with m (suc n)) m) (M.grants w (suc n)) (permitting_moved w k n)

  permit_moved : (w : Way) (k : ℕ) → permitting D w k ≡ permitting E w k
  permit_moved w k = permitting_moved w k D.roles ∙ ap (permitting_to E w (record { 0 = k })) M.renames.roles

  module _ (R : Ranged D) (S : Ranged E) where
    kind_moved : (vs : List Bound) (x k : ℕ) → HasKind D vs x k → kind_of D vs x ≡ kind_of E vs (σ x)
    kind_moved vs x k p = kind_at_lem D R vs x k p ∙ sym (kind_at_lem E S vs (σ x) k (M.renames.names vs x k p))

    same_label : (vs : List Bound) (t a b x y : ℕ) → candidates D (context u vs) (words t a b) ≡ candidates E (context v vs) (words t x y)
        → label D u vs (words t a b) ≡ label E v vs (words t x y)
    same_label vs t a b x y e = λ i. record { tag = t; roles = e i }

    send_label : (vs : List Bound) (c x k : ℕ) → HasKind D vs c k → label D u vs (words 6 c x) ≡ label E v vs (words 6 (σ c) (σ x))
    unfolding candidates
    send_label vs c x k p = same_label vs 6 c x (σ c) (σ x) (rw (M.assigned, kind_moved vs c k p, permit_moved Sends (kind_of E vs (σ c))))

    receive_label : (vs : List Bound) (c k : ℕ) → HasKind D vs c k → label D u vs (words 5 c 0) ≡ label E v vs (words 5 (σ c) 0)
    unfolding candidates
    receive_label vs c k p = same_label vs 5 c 0 (σ c) 0 (rw (M.assigned, kind_moved vs c k p, permit_moved Receives (kind_of E vs (σ c))))

    one : {n m : Label} {l r : Bin Label} → n ≡ m → l ≡ r → node n l nil ≡ node m r nil
    one e f = λ i. node (e i) (f i) nil

    pub labels_moved : (vs : List Bound) (t : Tree) → Kinded D u vs t → labels D u vs t ≡ labels E v vs (moved_tree σ t)
    unfolding moved_tree child_of candidates
    labels_moved vs end k-end = ap (λ (n : Label). node n nil nil) (same_label vs 0 0 0 0 0 M.assigned)
    labels_moved vs (fork x y) (k_fork p q) =
        let n = same_label vs 1 0 0 0 0 M.assigned in
        let l = labels_moved vs x p in
        let r = labels_moved vs y q in
        λ i. node (n i) (l i) (r i)
    labels_moved vs (step repeat t) (k_repeat p) = one (same_label vs 2 0 0 0 0 M.assigned) (labels_moved vs t p)
    labels_moved vs (step (new k) t) (k_new n p) = one (same_label vs 3 k 0 k 0 M.assigned) (labels_moved (with_variable vs k true) t p)
    labels_moved vs (step (compare a b) t) (k_compare k p q r) = one (same_label vs 4 a b (σ a) (σ b) M.assigned) (labels_moved vs t r)
    labels_moved vs (step (receive c) t) (k_receive k p q r) =
        let here : D.carries (kind_of D vs c) ≡ D.carries k = ap D.carries (kind_at_lem D R vs c k p) in
        let there : D.carries k ≡ E.carries (kind_of E vs (σ c)) = M.renames.carries k ∙ ap E.carries (sym (kind_at_lem E S vs (σ c) k (M.renames.names vs c k p))) in
        one (receive_label vs c k p)
        (ap (λ (j : ℕ). labels D u (with_variable vs j false) t) here
        ∙ labels_moved (with_variable vs (D.carries k) false) t r
        ∙ ap (λ (j : ℕ). labels E v (with_variable vs j false) (moved_tree σ t)) there)
    labels_moved vs (step (send c x) t) (k_send k p l q r) = one (send_label vs c x k p) (labels_moved vs t r)
    labels_moved vs (switch w r t) (k_switch n p) = labels_moved vs t p
