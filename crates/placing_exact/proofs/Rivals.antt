-- Every tree that passes and holds at most one role gives allowed states that cost no more on steps than it has.
use Prim.Native.Nat.{ℕ, zero, suc, ◌≤◌}
use mathlib.Core.Path.{◌≡◌, sym, ◌∙◌, subst}
use mathlib.Core.Bool.{true, true≢false}
use mathlib.Core.List.{List}
use native.Mathlib.Omega.{arith}
use Rattle.masks.specs.Mask.{has, with, without}
use Rattle.masks.proofs.Laws.{has_pos}
use Rattle.rules.specs.Schema.{Schema}
use Rattle.rules.specs.Names.{Bound}
use Rattle.rules.specs.Rules.{Context, barred, child_of}
use Rattle.optimum.specs.Optimum.{States, Within, Allowed, weight}
use Rattle.states.specs.States.{suits, on_step}
use Rattle.reading_exact.specs.Tree.{Tree, end, fork, step, switch, on, off, words, step_node}
use Rattle.checking_exact.proofs.ClearTrees.{Clear}
use Rattle.placing_exact.specs.Placement.{on_steps, Holds}
use Rattle.placing_exact.specs.Idle.{idle_nodes}
use Rattle.placing_exact.specs.Placed.{label, vars_below, labels}
use Rattle.placing_exact.proofs.HeldRole.{Is, has_is, is_with, is_with_same, is_without, with_other, holds_one}
use Rattle.placing_exact.proofs.StepCosts.{on_same, on_near, on_zero, weight_parent}
use Rattle.placing_exact.proofs.IdleCosts.{idling, idle_parent}
use Rattle.placing_exact.proofs.IdleTrees.{end_idle, fork_idle, step_idle}
use Rattle.placing_exact.proofs.StateRules.{Role, at, not_barred, role_end, role_fork, step_suits, child_step}

module _ (D : Schema) (u : ℕ) where
  -- states no worse than the tree reached with the mask m, below a node of state p
  pub record Reads (vs : List Bound) (t : Tree) (m p : ℕ) : Type 0 where
    pub states : States (labels D u vs t)
    pub within : Within 16 (labels D u vs t) states
    pub allowed : Allowed suits (labels D u vs t) states
    pub turns : weight on_step p (labels D u vs t) states ≤ on_steps t
    pub idles : weight idling p (labels D u vs t) states ≡ idle_nodes m t

  module _ (low : (r : ℕ) → has (D.assigned u) r ≡ true → r ≤ 16) where
    role_low : (p : ℕ) → Role (D.assigned u) p → p ≤ 16
    role_low zero h = omega arith
    role_low (suc p) h = low (suc p) h

    on_case : (m p : ℕ) (vs : List Bound) (r : ℕ) (t : Tree) → Is m p → Role (D.assigned u) p → has (D.assigned u) r ≡ true → Holds (with m r) t
        → ((q : ℕ) → Is (with m r) q → Role (D.assigned u) q → Reads vs t (with m r) q) → Reads vs (switch on r t) m p
    unfolding on_steps idle_nodes
    on_case m p vs zero t i q h z ih = let no : ⊥ = omega (arith, has_pos (D.assigned u) 0 h) in absurd no
    on_case m zero vs (suc r) t i q h z ih =
        let f = ih (suc r) (is_with m r i) h in
        record {
          states = f.states;
          within = f.within;
          allowed = f.allowed;
          turns = omega (arith, f.turns, weight_parent on_step 0 (suc r) 1 (on_near 0 (suc r)) (labels D u vs t) f.states);
          idles = idle_parent 0 (suc r) (labels D u vs t) f.states ∙ f.idles;
        }
    on_case m (suc j) vs (suc r) t i q h z ih =
        let f = ih (suc j) (rw (with_other m j r i (holds_one (with m (suc r)) t z)) (is_with_same m j i)) q in
        record {
          states = f.states;
          within = f.within;
          allowed = f.allowed;
          turns = omega (arith, f.turns);
          idles = f.idles;
        }

    off_case : (m p : ℕ) (vs : List Bound) (r : ℕ) (t : Tree) → Is m p → has m r ≡ true
        → (Is (without m r) 0 → Reads vs t (without m r) 0) → Reads vs (switch off r t) m p
    unfolding on_steps idle_nodes
    off_case m zero vs r t i h ih = absurd (true≢false (sym h ∙ i r))
    off_case m (suc j) vs r t i h ih =
        let f = ih (rw (has_is m (suc j) r i h) (is_without m j i)) in
        record {
          states = f.states;
          within = f.within;
          allowed = f.allowed;
          turns = omega (arith, f.turns, weight_parent on_step (suc j) 0 0 (on_zero (suc j)) (labels D u vs t) f.states);
          idles = idle_parent (suc j) 0 (labels D u vs t) f.states ∙ f.idles;
        }

    -- at each node the state is the role held there
    pub reads : (m p : ℕ) (vs : List Bound) (t : Tree) → Is m p → Role (D.assigned u) p → Clear D (barred D) (at u vs m) t → Holds m t → Reads vs t m p
    unfolding Clear Holds on_steps idle_nodes weight barred child_of
    reads m p vs end i q h z =
        record {
          states = (p, tt, tt);
          within = (role_low p q, tt, tt);
          allowed = (role_end D u vs p q, tt, tt);
          turns = omega (arith, on_same p (label D u vs (words 0 0 0)));
          idles = omega (arith, end_idle D u vs m p i);
        }
    reads m p vs (fork x y) i q h z =
        let f = reads m p vs x i q h.0 z.1 in
        let g = reads m p vs y i q h.1 z.2 in
        record {
          states = (p, f.states, g.states);
          within = (role_low p q, f.within, g.within);
          allowed = (role_fork D u vs p q, f.allowed, g.allowed);
          turns = omega (arith, f.turns, g.turns, on_same p (label D u vs (words 1 0 0)));
          idles = omega (arith, f.idles, g.idles, fork_idle D u vs m p i);
        }
    reads m p vs (step s t) i q h z =
        let d : Clear D (barred D) (at u (vars_below D u vs s) m) t = subst (λ (e : Context). Clear D (barred D) e t) (child_step D u vs s m) h.1 in
        let f = reads m p (vars_below D u vs s) t i q d z.1 in
        record {
          states = (p, f.states, tt);
          within = (role_low p q, f.within, tt);
          allowed = (step_suits D u vs s m p i q h.0, f.allowed, tt);
          turns = omega (arith, f.turns, on_same p (label D u vs (step_node s)));
          idles = omega (arith, f.idles, step_idle D u vs s m p i);
        }
    reads m p vs (switch on r t) i q h z =
        on_case m p vs r t i q (not_barred (has (D.assigned u) r) 10 h.0) z.1 (λ p' i' q'. reads (with m r) p' vs t i' q' h.1 z.1)
    reads m p vs (switch off r t) i q h z =
        off_case m p vs r t i (not_barred (has m r) 11 h.0) (λ i'. reads (without m r) 0 vs t i' tt h.1 z.1)
