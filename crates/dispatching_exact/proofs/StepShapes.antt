-- What a step does to the list of threads.
use Prim.Native.Nat.{ℕ, suc, ◌-◌, ◌+◌, ◌≤◌, ◌<◌}
use mathlib.Core.Path.{◌≡◌, refl, sym, ap, ◌∙◌, subst}
use mathlib.Core.Logic.{◌⊎◌, inl, inr, ◌≢◌}
use mathlib.Core.List.{List, [], ◌∷◌, ◌++◌}
use native.Mathlib.Omega.{arith}
use lib.ListN.{length, get_or, set, take, drop, length-set, length-append, get_or-append}
use lib.Seq.{get_or-set_other}
use Rattle.format.specs.declared.Node.{Node}
use Rattle.steps.specs.declared.Thread.{Thread}
use Rattle.steps.specs.Threads.{no_thread}
use Rattle.steps.specs.Choice.{Clinic, State, thread_at}
use Rattle.reading_exact.specs.File.{InCount}
use Rattle.running_exact.specs.Steps.{StandsAt, Steps, on, off, fork, repeat, new, compare, end, meet}
use Rattle.running_exact.specs.Conditions.{Lone}
use Rattle.rounds.specs.Round.{without_item}
use Rattle.rounds.proofs.PlaceLaws.{without_item_below, without_item_above, length_without_item}

-- a lone step of the thread in place a: it is changed, it is changed and there is a new last one, it is gone
pub data Shape (xs : List Thread) (a : ℕ) (ys : List Thread) : Type 0 where
  changes : (t : Thread) → ys ≡ set xs a t → Shape xs a ys
  grows : (t u : Thread) → ys ≡ set xs a t ++ (u ∷ []) → Shape xs a ys
  shrinks : ys ≡ without_item xs a → Shape xs a ys

module _ (C : Clinic) (s : State) where
  -- a lone step: where the thread stands
  pub record LoneStep (i : ℕ) (s' : State) : Type 0 where
    pub node : Node
    pub stands : StandsAt C s i node
    pub tag : Lone node.tag
    pub shape : Shape s.threads (i - 1) s'.threads

  gone : (i : ℕ) → 1 ≤ i → take (i - 1) s.threads ++ drop i s.threads ≡ without_item s.threads (i - 1)
  gone i l = let e : i ≡ suc (i - 1) = omega (arith, l) in ap (λ (x : ℕ). take (i - 1) s.threads ++ drop x s.threads) e

  lone_at : (i p : ℕ) (s' : State) → p ≡ 0 → Steps C s i p s' → LoneStep i s'
  lone_at j p s' z (on i n st e h) = record { node = n; stands = st; tag = inr (inl e); shape = changes _ refl }
  lone_at j p s' z (off i n st e h) = record { node = n; stands = st; tag = inr (inr e); shape = changes _ refl }
  lone_at j p s' z (fork i n st e h) = record { node = n; stands = st; tag = inl (omega (arith, e)); shape = grows _ _ refl }
  lone_at j p s' z (repeat i n st e h) = record { node = n; stands = st; tag = inl (omega (arith, e)); shape = grows _ _ refl }
  lone_at j p s' z (new i n st e h) = record { node = n; stands = st; tag = inl (omega (arith, e)); shape = changes _ refl }
  lone_at j p s' z (compare i n st e h) = record { node = n; stands = st; tag = inl (omega (arith, e)); shape = changes _ refl }
  lone_at j p s' z (end i n st e) = record { node = n; stands = st; tag = inl (omega (arith, e)); shape = shrinks (gone i st.0.0) }
  lone_at j q s' z (meet i p n m st six at five x y w) = let l : 1 ≤ p = at.0.0 in let never : ⊥ = omega (arith, l, z) in absurd never

  pub lone_step : (i : ℕ) (s' : State) → Steps C s i 0 s' → LoneStep i s'
  lone_step i s' st = lone_at i 0 s' refl st

  -- a meeting: where the two stand
  pub record Meeting (i p : ℕ) (s' : State) : Type 0 where
    pub node : Node
    pub other : Node
    pub stands : StandsAt C s i node
    pub six : node.tag ≡ 6
    pub there : StandsAt C s p other
    pub five : other.tag ≡ 5
    pub first : Thread
    pub second : Thread
    pub threads : s'.threads ≡ set (set s.threads (i - 1) first) (p - 1) second

  pub meeting_step : (i p : ℕ) (s' : State) → 1 ≤ p → Steps C s i p s' → Meeting i p s'
  meeting_step j p s' l (on i n st e h) = let never : ⊥ = omega (arith, l) in absurd never
  meeting_step j p s' l (off i n st e h) = let never : ⊥ = omega (arith, l) in absurd never
  meeting_step j p s' l (fork i n st e h) = let never : ⊥ = omega (arith, l) in absurd never
  meeting_step j p s' l (repeat i n st e h) = let never : ⊥ = omega (arith, l) in absurd never
  meeting_step j p s' l (new i n st e h) = let never : ⊥ = omega (arith, l) in absurd never
  meeting_step j p s' l (compare i n st e h) = let never : ⊥ = omega (arith, l) in absurd never
  meeting_step j p s' l (end i n st e) = let never : ⊥ = omega (arith, l) in absurd never
  meeting_step j q s' l (meet i p n m st six at five x y z) =
      record { node = n; other = m; stands = st; six = six; there = at; five = five; first = _; second = _; threads = refl }

  -- a thread named in a step is a thread
  pub step_counted : (i p : ℕ) (s' : State) → Steps C s i p s' → (1 ≤ i) × (i ≤ length s.threads) × (p ≤ length s.threads)
  step_counted j p s' (on i n st e h) = (st.0.0, st.0.1, omega arith)
  step_counted j p s' (off i n st e h) = (st.0.0, st.0.1, omega arith)
  step_counted j p s' (fork i n st e h) = (st.0.0, st.0.1, omega arith)
  step_counted j p s' (repeat i n st e h) = (st.0.0, st.0.1, omega arith)
  step_counted j p s' (new i n st e h) = (st.0.0, st.0.1, omega arith)
  step_counted j p s' (compare i n st e h) = (st.0.0, st.0.1, omega arith)
  step_counted j p s' (end i n st e) = (st.0.0, st.0.1, omega arith)
  step_counted j q s' (meet i p n m st six at five x y z) = (st.0.0, st.0.1, at.0.1)

-- how many threads a shape leaves
pub shape_count : (xs : List Thread) (a : ℕ) (ys : List Thread) → a < length xs → Shape xs a ys
    → (length ys ≡ length xs) ⊎ ((length ys ≡ suc (length xs)) ⊎ (suc (length ys) ≡ length xs))
shape_count xs a ys l (changes t e) = inl (ap (λ (x : List Thread). length x) e ∙ length-set xs a t)
shape_count xs a ys l (grows t u e) =
    let n : length ys ≡ length (set xs a t) + 1 = ap (λ (x : List Thread). length x) e ∙ length-append (set xs a t) (u ∷ []) in
    let m : length (set xs a t) ≡ length xs = length-set xs a t in
    inr (inl (omega (arith, n, m)))
shape_count xs a ys l (shrinks e) =
    let n : length ys ≡ length (without_item xs a) = ap (λ (x : List Thread). length x) e in
    let m : suc (length (without_item xs a)) ≡ length xs = length_without_item xs a l in
    inr (inr (omega (arith, n, m)))

-- what it leaves of the others
pub shape_others : (xs : List Thread) (a b : ℕ) (ys : List Thread) → a < length xs → Shape xs a ys → length xs ≤ length ys → b < length xs → b ≢ a
    → get_or ys b no_thread ≡ get_or xs b no_thread
shape_others xs a b ys l (changes t e) m h z = ap (λ (x : List Thread). get_or x b no_thread) e ∙ get_or-set_other xs a b t no_thread z
shape_others xs a b ys l (grows t u e) m h z =
    let n : length (set xs a t) ≡ length xs = length-set xs a t in
    ap (λ (x : List Thread). get_or x b no_thread) e ∙ get_or-append (set xs a t) (u ∷ []) no_thread b (omega (arith, n, h)) ∙ get_or-set_other xs a b t no_thread z
shape_others xs a b ys l (shrinks e) m h z =
    let n : length ys ≡ length (without_item xs a) = ap (λ (x : List Thread). length x) e in
    let k : suc (length (without_item xs a)) ≡ length xs = length_without_item xs a l in
    let never : ⊥ = omega (arith, n, m, k) in
    absurd never

pub shape_gone : (xs : List Thread) (a : ℕ) (ys : List Thread) → Shape xs a ys → length ys < length xs → ys ≡ without_item xs a
shape_gone xs a ys (changes t e) m =
    let n : length ys ≡ length xs = ap (λ (x : List Thread). length x) e ∙ length-set xs a t in
    let never : ⊥ = omega (arith, n, m) in
    absurd never
shape_gone xs a ys (grows t u e) m =
    let n : length ys ≡ length (set xs a t) + 1 = ap (λ (x : List Thread). length x) e ∙ length-append (set xs a t) (u ∷ []) in
    let k : length (set xs a t) ≡ length xs = length-set xs a t in
    let never : ⊥ = omega (arith, n, k, m) in
    absurd never
shape_gone xs a ys (shrinks e) m = e
