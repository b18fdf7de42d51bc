-- What a role held idly costs: by a node's label, by the active set, and beside the on steps.
use Prim.Native.Nat.{ℕ, zero, suc, ◌+◌, ◌*◌, ◌≤◌}
use mathlib.Core.Path.{◌≡◌, refl, sym, ap, ◌∙◌}
use mathlib.Core.Bool.{Bool, true, false, cond, ◌||◌, true≢false}
use native.Mathlib.Omega.{arith}
use lib.Dec.{eqb, ltb}
use borrow.Author.Tests.{ne_eqb}
use Rattle.masks.specs.Mask.{has}
use Rattle.masks.proofs.Laws.{has_none, empty}
use Rattle.optimum.specs.Optimum.{Bin, nil, node, States, weight, nodes}
use Rattle.optimum.proofs.Gate.{weight_mix, weight_most}
use Rattle.states.specs.States.{Label, on_step, idle, burden}
use Rattle.reading_exact.specs.Tree.{Step, repeat, new, compare, receive, send, step_node}
use Rattle.placing_exact.specs.Idle.{some_role, idle_step}
use Rattle.placing_exact.proofs.HeldRole.{Is, is_has}
use Rattle.placing_exact.proofs.StepCosts.{on_most}

-- as a weight: the parent's state plays no part
abbrev pub idling : ℕ → Label → ℕ → ℕ
idling p l s = idle l s

pub idle_parent : (p q : ℕ) (t : Bin Label) (a : States t) → weight idling p t a ≡ weight idling q t a
unfolding weight
idle_parent p q nil a = refl
idle_parent p q (node l x y) a = refl

-- tags 0 to 4 only
pub idle_tag : (l : Label) (s : ℕ) → idle l s ≡ cond (ltb 4 l.tag) 0 (some_role s)
idle_tag l s = go (eqb s 0) (ltb 4 l.tag)
  where
    go : (x y : Bool) → ◌≡◌ {A = ℕ} (cond (x || y) 0 1) (cond y 0 (cond x 0 1))
    go true true = refl
    go true false = refl
    go false true = refl
    go false false = refl

pub step_tag : (z : Step) (s : ℕ) → cond (ltb 4 (step_node z).tag) 0 (some_role s) ≡ idle_step s z
step_tag repeat s = refl
step_tag (new k) s = refl
step_tag (compare a b) s = refl
step_tag (receive c) s = refl
step_tag (send c v) s = refl

-- a mask of one role or none has a role where the state is one
pub some_held : (m p : ℕ) → Is m p → some_role m ≡ some_role p
some_held m zero i = ap some_role (empty m i)
some_held m (suc k) i = rw (ne_eqb m 0 some, ne_eqb (suc k) 0 (λ e. let no : suc k ≡ 0 = e in omega arith))
  where
    some : m ≡ 0 → ⊥
    some e = true≢false (sym (is_has m k i) ∙ ap (λ (x : ℕ). has x (suc k)) e ∙ has_none (suc k))

pub step_held : (z : Step) (m p : ℕ) → Is m p → idle_step m z ≡ idle_step p z
step_held z m p i = sym (step_tag z m) ∙ ap (λ (k : ℕ). cond (ltb 4 (step_node z).tag) 0 k) (some_held m p i) ∙ step_tag z p

-- at most one a node, so that 1,024 nodes never come to one on step
idle_most : (p : ℕ) (l : Label) (s : ℕ) → idling p l s ≤ 1
idle_most p l s = go (eqb s 0 || ltb 4 l.tag)
  where
    go : (b : Bool) → cond b 0 1 ≤ 1
    go true = omega arith
    go false = omega arith

pub idle_few : (p : ℕ) (t : Bin Label) (a : States t) → weight idling p t a ≤ nodes t
idle_few p t a = omega (arith, weight_most idling 1 idle_most p t a)

pub burden_most : (p : ℕ) (l : Label) (s : ℕ) → burden p l s ≤ 1026
burden_most p l s = omega (arith, on_most p l s, idle_most p l s)

pub burden_mix : (p : ℕ) (t : Bin Label) (a : States t) → weight burden p t a ≡ 1025 * weight on_step p t a + weight idling p t a
burden_mix p t a = weight_mix 1025 on_step idling p t a
