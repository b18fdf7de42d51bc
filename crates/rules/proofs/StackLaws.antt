-- The contexts that wait, each as one number on a stack in an array.
use Prim.Native.Nat.{ℕ, ◌+◌, ◌≤◌, ◌<◌}
use mathlib.Core.Path.{◌≡◌, refl, sym, ap, ap₂, subst, ◌∙◌}
use mathlib.Core.List.{List, [], ◌∷◌, map}
use native.Mathlib.Omega.{arith}
use lib.ListN.{length, set}
use Rattle.format.specs.Stacks.{stacked}
use Rattle.format.proofs.StackLaws.{read_push}
use Rattle.rules.specs.declared.Point.{Point}
use Rattle.rules.specs.Rules.{Context}
use Rattle.rules.specs.Kept.{vars_of, context_of, Waits}
use Rattle.rules.proofs.NameLaws.{vars_kept, vars_none}

-- the contexts on a stack, as g reads them
module _ (g : ℕ → Point) where
  pub contexts_push : (t a : List ℕ) (d v : ℕ) (p : Point) {c : Context} {cs : List Context} → d < length a → g v ≡ p → context_of t p ≡ c → map (context_of t) (map g (stacked 0 a d)) ≡ cs
      → map (context_of t) (map g (stacked 0 (set a d v) (d + 1))) ≡ c ∷ cs
  contexts_push t a d v p h e one more = ap (map (context_of t)) (read_push 0 g a d v p h e) ∙ ap₂ ◌∷◌ one more

  pub waits_push : (P : Point → Type 0) (b : ℕ) (a : List ℕ) (d v : ℕ) (p : Point) → d < length a → g v ≡ p → p.bound ≤ b → P p → Waits P p.bound (map g (stacked 0 a d))
      → Waits P b (map g (stacked 0 (set a d v) (d + 1)))
  waits_push P b a d v p h e le has w = subst (λ (ps : List Point). Waits P b ps) (sym (read_push 0 g a d v p h e)) (le, has, w)

-- bounds fall down the stack
pub waits_more : (P : Point → Type 0) (b c : ℕ) (ps : List Point) → b ≤ c → Waits P b ps → Waits P c ps
waits_more P b c [] le h = tt
waits_more P b c (p ∷ ps) le h = (omega (arith, h.0), h.1, h.2)

-- a store past their variables leaves the contexts
pub contexts_kept : (P : Point → Type 0) (t : List ℕ) (i v b : ℕ) (ps : List Point) → b ≤ i → Waits P b ps → map (context_of (set t (512 + i) v)) ps ≡ map (context_of t) ps
contexts_kept P t i v b [] le h = refl
contexts_kept P t i v b (p ∷ ps) le h =
    let its : vars_of p.user (set t (512 + i) v) p.bound ≡ vars_of p.user t p.bound = vars_kept p.user t p.bound i v (omega (arith, h.0)) in
    let rest = contexts_kept P t i v p.bound ps (omega (arith, h.0)) h.2 in
    ap₂ ◌∷◌ (rw its) rest

-- with no variable bound it does not matter where they are kept
pub contexts_bare : (P : Point → Type 0) (t : List ℕ) (ps : List Point) → Waits P 0 ps → map (context_of t) ps ≡ map (context_of []) ps
contexts_bare P t [] h = refl
contexts_bare P t (p ∷ ps) h =
    let z : p.bound ≡ 0 = omega (arith, h.0) in
    let its : vars_of p.user t p.bound ≡ vars_of p.user [] p.bound = ap (vars_of p.user t) z ∙ vars_none p.user t ∙ sym (vars_none p.user []) ∙ sym (ap (vars_of p.user []) z) in
    let under : Waits P 0 ps = waits_more P p.bound 0 ps (omega (arith, h.0)) h.2 in
    ap₂ ◌∷◌ (rw its) (contexts_bare P t ps under)

-- with nothing bound
pub context_bare : (u a m : ℕ) → context_of [] (record { user = u; assigned = a; mask = m; bound = 0 }) ≡ record { user = u; mask = m; vars = [] }
context_bare u a m = rw (vars_none u [])
