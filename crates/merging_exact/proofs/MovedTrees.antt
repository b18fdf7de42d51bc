-- What moving the operands of a tree leaves as it is.
use Prim.Native.Nat.{ℕ, suc, ◌+◌, max}
use mathlib.Core.Path.{◌≡◌, refl, ap, ap₂, ◌∙◌}
use Rattle.reading_exact.specs.Tree.{Step, repeat, new, compare, receive, send, Tree, end, fork, step, switch, on, off, past, binders, height}
use Rattle.placing_exact.specs.Placement.{plain, on_steps}
use Rattle.merging_exact.specs.Moved.{moved_step, moved_tree}

step_same : (s : Step) → moved_step (λ x. x) s ≡ s
step_same repeat = refl
step_same (new k) = refl
step_same (compare a b) = refl
step_same (receive c) = refl
step_same (send c v) = refl

pub moved_same : (t : Tree) → moved_tree (λ x. x) t ≡ t
unfolding moved_tree
moved_same end = refl
moved_same (fork a b) = ap₂ fork (moved_same a) (moved_same b)
moved_same (step s t) = ap₂ step (step_same s) (moved_same t)
moved_same (switch w r t) = ap (switch w r) (moved_same t)

pub moved_past : (σ : ℕ → ℕ) (i : ℕ) (t : Tree) → past i (moved_tree σ t) ≡ past i t
unfolding moved_tree past
moved_past σ i end = refl
moved_past σ i (fork a b) = ap (λ (k : ℕ). past k (moved_tree σ b)) (moved_past σ (suc i) a) ∙ moved_past σ (past (suc i) a) b
moved_past σ i (step s t) = moved_past σ (suc i) t
moved_past σ i (switch w r t) = moved_past σ (suc i) t

step_binders : (σ : ℕ → ℕ) (s : Step) → binders (moved_step σ s) ≡ binders s
step_binders σ repeat = refl
step_binders σ (new k) = refl
step_binders σ (compare a b) = refl
step_binders σ (receive c) = refl
step_binders σ (send c v) = refl

pub moved_height : (σ : ℕ → ℕ) (t : Tree) → height (moved_tree σ t) ≡ height t
unfolding moved_tree height
moved_height σ end = refl
moved_height σ (fork a b) = ap₂ max (moved_height σ a) (moved_height σ b)
moved_height σ (step s t) = ap₂ (λ (n m : ℕ). n + m) (step_binders σ s) (moved_height σ t)
moved_height σ (switch w r t) = moved_height σ t

pub moved_plain : (σ : ℕ → ℕ) (t : Tree) → plain (moved_tree σ t) ≡ moved_tree σ (plain t)
unfolding moved_tree plain
moved_plain σ end = refl
moved_plain σ (fork a b) = ap₂ fork (moved_plain σ a) (moved_plain σ b)
moved_plain σ (step s t) = ap (step (moved_step σ s)) (moved_plain σ t)
moved_plain σ (switch w r t) = moved_plain σ t

pub moved_ons : (σ : ℕ → ℕ) (t : Tree) → on_steps (moved_tree σ t) ≡ on_steps t
unfolding moved_tree on_steps
moved_ons σ end = refl
moved_ons σ (fork a b) = ap₂ (λ (n m : ℕ). n + m) (moved_ons σ a) (moved_ons σ b)
moved_ons σ (step s t) = moved_ons σ t
moved_ons σ (switch on r t) = ap suc (moved_ons σ t)
moved_ons σ (switch off r t) = moved_ons σ t
