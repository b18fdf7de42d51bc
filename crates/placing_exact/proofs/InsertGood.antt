-- Putting in on and off by states: what it gives back, what it counts, and that it passes and holds.
use Prim.Native.Nat.{ℕ, zero, suc, ◌+◌}
use mathlib.Core.Path.{◌≡◌, refl, sym, ap, ap₂, ◌∙◌, subst}
use mathlib.Core.Bool.{Bool, true, false, cond}
use mathlib.Core.List.{List}
use native.Mathlib.Omega.{arith}
use lib.Dec.{eqb, ltb}
use borrow.Author.Tests.{eqb-true, eqb-false, ltb-true, ltb-false}
use Rattle.masks.specs.Mask.{has, with, without}
use Rattle.rules.specs.Schema.{Schema}
use Rattle.rules.specs.Names.{Bound}
use Rattle.rules.specs.Rules.{Context, wrong, barred, child_of}
use Rattle.optimum.specs.Optimum.{scan, Bin, nil, node, States, Allowed, weight, gate, best, choose}
use Rattle.optimum.proofs.Optimal.{scan_least}
use Rattle.states.specs.States.{Label, suits, on_step, cost}
use Rattle.reading_exact.specs.Tree.{Tree, end, fork, step, switch, on, off, words, step_node}
use Rattle.reading_exact.specs.File.{InCount}
use Rattle.checking_exact.proofs.OperandKinds.{Ranged}
use Rattle.checking_exact.proofs.StepRules.{switch_iff}
use Rattle.checking_exact.proofs.ClearTrees.{Clear}
use Rattle.placing_exact.specs.Placement.{plain, on_steps, Holds}
use Rattle.placing_exact.specs.Placed.{label, vars_below, labels, leave, enter, turned, insert}
use Rattle.placing_exact.proofs.HeldRole.{Is, is_has, is_one, is_with, is_without}
use Rattle.placing_exact.proofs.StepCosts.{on_same, on_none, on_other}
use Rattle.placing_exact.proofs.StateRules.{Role, at, suits_role, suits_step, child_step}

plain_turned : (p s : ℕ) (t : Tree) → plain (turned p s t) ≡ plain t
unfolding plain turned leave enter
plain_turned p s t = go p s (eqb p s)
  where
    go : (p s : ℕ) (b : Bool) → plain (cond b t (leave p (enter s t))) ≡ plain t
    go p s true = refl
    go zero zero false = refl
    go zero (suc k) false = refl
    go (suc j) zero false = refl
    go (suc j) (suc k) false = refl

on_turned : (p s : ℕ) (l : Label) (t : Tree) → on_steps (turned p s t) ≡ on_step p l s + on_steps t
unfolding on_steps turned leave enter
on_turned p s l t = go p s (eqb p s) refl
  where
    go : (p s : ℕ) (b : Bool) → eqb p s ≡ b → on_steps (cond b t (leave p (enter s t))) ≡ on_step p l s + on_steps t
    go p s true e = let z : p ≡ s = eqb-true p s e in omega (arith, ap (λ (x : ℕ). on_step p l x) z, on_same p l)
    go zero zero false e = omega (arith, on_none zero l)
    go zero (suc k) false e = omega (arith, on_other zero l k (eqb-false zero (suc k) e))
    go (suc j) zero false e = omega (arith, on_none (suc j) l)
    go (suc j) (suc k) false e = omega (arith, on_other (suc j) l k (eqb-false (suc j) (suc k) e))

-- the first least is 0 where 0 costs nothing
zero_first : (k : ℕ) (f : ℕ → ℕ) → f 0 ≡ 0 → (scan k f).0 ≡ 0
zero_first k f h = go (ltb 0 (scan k f).0) refl
  where
    go : (b : Bool) → ltb 0 (scan k f).0 ≡ b → (scan k f).0 ≡ 0
    go true e = omega (arith, (scan_least k f).first 0 (ltb-true 0 (scan k f).0 e))
    go false e = omega (arith, ltb-false 0 (scan k f).0 e)

module _ (D : Schema) (u : ℕ) where
  -- on and off are passed over
  pub labels_plain : (vs : List Bound) (t : Tree) → labels D u vs (plain t) ≡ labels D u vs t
  unfolding plain
  labels_plain vs end = refl
  labels_plain vs (fork x y) = ap₂ (node (label D u vs (words 1 0 0))) (labels_plain vs x) (labels_plain vs y)
  labels_plain vs (step s t) = ap (λ (b : Bin Label). node (label D u vs (step_node s)) b nil) (labels_plain (vars_below D u vs s) t)
  labels_plain vs (switch w r t) = labels_plain vs t

  -- the tree is given back
  pub plain_insert : (p : ℕ) (vs : List Bound) (t : Tree) (a : States (labels D u vs t)) → plain (insert D u p vs t a) ≡ plain t
  unfolding plain insert
  plain_insert p vs end a = plain_turned p a.0 end
  plain_insert p vs (fork x y) a =
      plain_turned p a.0 _ ∙ ap₂ fork (plain_insert a.0 vs x a.1) (plain_insert a.0 vs y a.2)
  plain_insert p vs (step s t) a = plain_turned p a.0 _ ∙ ap (step s) (plain_insert a.0 (vars_below D u vs s) t a.1)
  plain_insert p vs (switch w r t) a = plain_insert p vs t a

  -- the on steps put in are those that the states cost
  pub on_insert : (p : ℕ) (vs : List Bound) (t : Tree) (a : States (labels D u vs t))
      → on_steps (insert D u p vs t a) ≡ weight on_step p (labels D u vs t) a
  unfolding on_steps insert weight
  on_insert p vs end a = omega (arith, on_turned p a.0 (label D u vs (words 0 0 0)) end)
  on_insert p vs (fork x y) a =
      omega (
        arith,
        on_turned p a.0 (label D u vs (words 1 0 0)) (fork (insert D u a.0 vs x a.1) (insert D u a.0 vs y a.2)),
        on_insert a.0 vs x a.1,
        on_insert a.0 vs y a.2,
      )
  on_insert p vs (step s t) a =
      omega (
        arith,
        on_turned p a.0 (label D u vs (step_node s)) (step s (insert D u a.0 (vars_below D u vs s) t a.1)),
        on_insert a.0 (vars_below D u vs s) t a.1,
      )
  on_insert p vs (switch w r t) a = on_insert p vs t a

  -- the states at the ends are 0
  unfoldable pub Ends : (vs : List Bound) (t : Tree) → States (labels D u vs t) → Type 0
  Ends vs end a = a.0 ≡ 0
  Ends vs (fork x y) a = Ends vs x a.1 × Ends vs y a.2
  Ends vs (step s t) a = Ends (vars_below D u vs s) t a.1
  Ends vs (switch w r t) a = Ends vs t a

  end_free : (p : ℕ) (vs : List Bound) → cost p (label D u vs (words 0 0 0)) 0 ≡ 0
  unfolding gate suits
  end_free p vs = refl

  -- the states taken are such
  pub choose_ends : (p : ℕ) (vs : List Bound) (t : Tree) → Ends vs t (choose cost 16 p (labels D u vs t))
  unfolding choose best Ends
  choose_ends p vs end =
      zero_first 16 (λ s. cost p (label D u vs (words 0 0 0)) s + (best cost 16 s nil + best cost 16 s nil)) (omega (arith, end_free p vs))
  choose_ends p vs (fork x y) =
      let s = (choose cost 16 p (labels D u vs (fork x y))).0 in
      (choose_ends s vs x, choose_ends s vs y)
  choose_ends p vs (step s t) = choose_ends (choose cost 16 p (labels D u vs (step s t))).0 (vars_below D u vs s) t
  choose_ends p vs (switch w r t) = choose_ends p vs t

  module _ (R : Ranged D) (fit : (r : ℕ) → has (D.assigned u) r ≡ true → InCount D.roles r) where
    -- names and kinds are right, rules 5 and 6 hold, and at most one role is held
    abbrev pub Good : List Bound → ℕ → Tree → Type 0
    Good vs m t = Clear D (wrong D) (at u vs m) t × Clear D (barred D) (at u vs m) t × Holds m t

    enter_good : (m s : ℕ) (vs : List Bound) (t : Tree) → Is m 0 → Role (D.assigned u) s → ((n : ℕ) → Is n s → Good vs n t) → Good vs m (enter s t)
    unfolding enter Clear Holds child_of barred
    enter_good m zero vs t i h k = k m i
    enter_good m (suc s) vs t i h k =
        let g = k (with m (suc s)) (is_with m s i) in
        (((switch_iff D R u vs m on (suc s)).1 (fit (suc s) h), g.0), (rw h, g.1), (is_one m 0 i, g.2))

    leave_good : (m p : ℕ) (vs : List Bound) (t : Tree) → Is m p → Role (D.assigned u) p → ((n : ℕ) → Is n 0 → Good vs n t) → Good vs m (leave p t)
    unfolding leave Clear Holds child_of barred
    leave_good m zero vs t i h k = k m i
    leave_good m (suc p) vs t i h k =
        let g = k (without m (suc p)) (is_without m p i) in
        (((switch_iff D R u vs m off (suc p)).1 (fit (suc p) h), g.0), (rw (is_has m p i), g.1), (is_one m (suc p) i, g.2))

    turned_good : (m p s : ℕ) (vs : List Bound) (t : Tree) → Is m p → Role (D.assigned u) p → Role (D.assigned u) s
        → ((n : ℕ) → Is n s → Good vs n t) → Good vs m (turned p s t)
    unfolding turned
    turned_good m p s vs t i q h k = go (eqb p s) refl
      where
        go : (b : Bool) → eqb p s ≡ b → Good vs m (cond b t (leave p (enter s t)))
        go true e = k m (rw (eqb-true p s e) at i)
        go false e = leave_good m p vs (enter s t) i q (λ n j. enter_good n s vs t j h k)

    -- allowed states, 0 at the ends, give a tree that passes and holds
    pub insert_good : (m p l : ℕ) (vs : List Bound) (t : Tree) (a : States (labels D u vs t)) → Is m p → Role (D.assigned u) p
        → Clear D (wrong D) (at u vs l) t → Allowed suits (labels D u vs t) a → Ends vs t a → Good vs m (insert D u p vs t a)
    unfolding insert Clear Holds Ends wrong child_of
    insert_good m p l vs end a i q c h z =
        turned_good m p a.0 vs end i q (suits_role D u vs (words 0 0 0) a.0 h.0) (λ n j. (tt, tt, rw z at j))
    insert_good m p l vs (fork x y) a i q c h z =
        let o : Role (D.assigned u) a.0 = suits_role D u vs (words 1 0 0) a.0 h.0 in
        turned_good m p a.0 vs _ i q o (λ n j.
        let f = insert_good n a.0 l vs x a.1 j o c.0 h.1 z.0 in
        let g = insert_good n a.0 l vs y a.2 j o c.1 h.2 z.1 in
        ((f.0, g.0), (f.1, g.1), (is_one n a.0 j, f.2, g.2)))
    insert_good m p l vs (step s t) a i q c h z =
        let o : Role (D.assigned u) a.0 = suits_role D u vs (step_node s) a.0 h.0 in
        let d : Clear D (wrong D) (at u (vars_below D u vs s) l) t = subst (λ (e : Context). Clear D (wrong D) e t) (child_step D u vs s l) c.1 in
        turned_good m p a.0 vs _ i q o (λ n j.
        let f = insert_good n a.0 l (vars_below D u vs s) t a.1 j o d h.1 z in
        let e = sym (child_step D u vs s n) in (
          (c.0, subst (λ (e : Context). Clear D (wrong D) e (insert D u a.0 (vars_below D u vs s) t a.1)) e f.0),
          (suits_step D u vs s n a.0 j h.0, subst (λ (e : Context). Clear D (barred D) e (insert D u a.0 (vars_below D u vs s) t a.1)) e f.1),
          (is_one n a.0 j, f.2),
        ))
    insert_good m p l vs (switch on r t) a i q c h z = insert_good m p (with l r) vs t a i q c.1 h z
    insert_good m p l vs (switch off r t) a i q c h z = insert_good m p (without l r) vs t a i q c.1 h z
