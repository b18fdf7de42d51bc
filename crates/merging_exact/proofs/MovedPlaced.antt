-- What is placed of a moved tree is what is placed of the tree, moved: whichever states are taken, so long as they are taken from what placing sees.
use Prim.Native.Nat.{ℕ, zero, suc}
use mathlib.Core.Path.{◌≡◌, refl, sym, ap, ap₂, ◌∙◌}
use mathlib.Core.Bool.{Bool, true, false, cond}
use mathlib.Core.List.{List, []}
use lib.Dec.{eqb}
use Rattle.rules.specs.Schema.{Schema}
use Rattle.rules.specs.Names.{Bound}
use Rattle.reading_exact.specs.Tree.{Tree, end, fork, step, switch}
use Rattle.checking_exact.specs.Typing.{Kinded}
use Rattle.checking_exact.proofs.OperandKinds.{Ranged}
use Rattle.optimum.specs.Optimum.{Bin, nil, node, States, choose}
use Rattle.states.specs.States.{Label, cost}
use Rattle.placing_exact.specs.Placement.{on_steps}
use Rattle.placing_exact.specs.Placed.{vars_below, labels, leave, enter, turned, insert, taking, placed_tree}
use Rattle.merging_exact.specs.Moved.{moved_step, moved_tree}
use Rattle.merging_exact.proofs.MovedTrees.{moved_ons}
use Rattle.merging_exact.proofs.MovedRules.{Moves}
use Rattle.merging_exact.proofs.MovedLabels.{labels_moved}

-- a tree with a state for each node of any tree of labels: of the tables nothing is used but the labels
unfoldable pub inserted : ℕ → Tree → (b : Bin Label) → States b → Tree
inserted p end nil a = end
inserted p end (node n l r) a = turned p a.0 end
inserted p (fork x y) nil a = fork x y
inserted p (fork x y) (node n l r) a = turned p a.0 (fork (inserted a.0 x l a.1) (inserted a.0 y r a.2))
inserted p (step s t) nil a = step s t
inserted p (step s t) (node n l r) a = turned p a.0 (step s (inserted a.0 t l a.1))
inserted p (switch w r t) b a = inserted p t b a

pub insert_inserted : (D : Schema) (u p : ℕ) (vs : List Bound) (t : Tree) (a : States (labels D u vs t)) → insert D u p vs t a ≡ inserted p t (labels D u vs t) a
unfolding insert inserted
insert_inserted D u p vs end a = refl
insert_inserted D u p vs (fork x y) a =
    ap₂ (λ (l r : Tree). turned p a.0 (fork l r)) (insert_inserted D u a.0 vs x a.1) (insert_inserted D u a.0 vs y a.2)
insert_inserted D u p vs (step s t) a = ap (λ (l : Tree). turned p a.0 (step s l)) (insert_inserted D u a.0 (vars_below D u vs s) t a.1)
insert_inserted D u p vs (switch w r t) a = insert_inserted D u p vs t a

module _ (σ : ℕ → ℕ) where
  -- off and on stay
  turned_moved : (p s : ℕ) (t : Tree) → turned p s (moved_tree σ t) ≡ moved_tree σ (turned p s t)
  unfolding turned leave enter moved_tree
  turned_moved p s t = go (eqb p s)
    where
      entered : (s : ℕ) (t : Tree) → enter s (moved_tree σ t) ≡ moved_tree σ (enter s t)
      entered zero t = refl
      entered (suc r) t = refl

      left : (p : ℕ) (t : Tree) → leave p (moved_tree σ t) ≡ moved_tree σ (leave p t)
      left zero t = refl
      left (suc r) t = refl

      go : (b : Bool) → cond b (moved_tree σ t) (leave p (enter s (moved_tree σ t))) ≡ moved_tree σ (cond b t (leave p (enter s t)))
      go true = refl
      go false = ap (leave p) (entered s t) ∙ left p (enter s t)

  pub inserted_moved : (p : ℕ) (t : Tree) (b : Bin Label) (a : States b) → inserted p (moved_tree σ t) b a ≡ moved_tree σ (inserted p t b a)
  unfolding inserted moved_tree
  inserted_moved p end nil a = refl
  inserted_moved p end (node n l r) a = turned_moved p a.0 end
  inserted_moved p (fork x y) nil a = refl
  inserted_moved p (fork x y) (node n l r) a =
      ap₂ (λ (l r : Tree). turned p a.0 (fork l r)) (inserted_moved a.0 x l a.1) (inserted_moved a.0 y r a.2)
      ∙ turned_moved p a.0 (fork (inserted a.0 x l a.1) (inserted a.0 y r a.2))
  inserted_moved p (step s t) nil a = refl
  inserted_moved p (step s t) (node n l r) a =
      ap (λ (l : Tree). turned p a.0 (step (moved_step σ s) l)) (inserted_moved a.0 t l a.1)
      ∙ turned_moved p a.0 (step s (inserted a.0 t l a.1))
  inserted_moved p (switch w r t) b a = inserted_moved p t b a

-- by any rule that takes states from the labels
module _ (rule : (b : Bin Label) → States b) (D E : Schema) (u v : ℕ) (σ : ℕ → ℕ) (M : Moves D E u v σ) (R : Ranged D) (S : Ranged E) where
  pub rule_moved : (t : Tree) → Kinded D u [] t
      → insert E v 0 [] (moved_tree σ t) (rule (labels E v [] (moved_tree σ t))) ≡ moved_tree σ (insert D u 0 [] t (rule (labels D u [] t)))
  rule_moved t k =
      insert_inserted E v 0 [] (moved_tree σ t) (rule (labels E v [] (moved_tree σ t)))
      ∙ ap (λ (b : Bin Label). inserted 0 (moved_tree σ t) b (rule b)) (sym (labels_moved D E u v σ M R S [] t k))
      ∙ inserted_moved σ 0 t (labels D u [] t) (rule (labels D u [] t))
      ∙ ap (moved_tree σ) (sym (insert_inserted D u 0 [] t (rule (labels D u [] t))))

module _ (D E : Schema) (u v : ℕ) (σ : ℕ → ℕ) (M : Moves D E u v σ) (R : Ranged D) (S : Ranged E) where
  -- by the tie rule
  pub placed_moved : (t : Tree) → Kinded D u [] t → placed_tree E v (moved_tree σ t) ≡ moved_tree σ (placed_tree D u t)
  unfolding placed_tree taking
  placed_moved t k = rule_moved (choose cost 16 0) D E u v σ M R S t k

  pub ons_moved : (t : Tree) → Kinded D u [] t → on_steps (placed_tree E v (moved_tree σ t)) ≡ on_steps (placed_tree D u t)
  ons_moved t k = ap on_steps (placed_moved t k) ∙ moved_ons σ (placed_tree D u t)
