-- A context as one number: a variable more at the end, and the pass over the nodes that stores it.
use Prim.Native.Nat.{ℕ, ◌+◌, ◌*◌, ◌-◌, ◌%◌, ◌^◌, ◌≤◌, ◌<◌}
use mathlib.Core.Path.{◌≡◌, refl, sym, ap, ap₂, ◌∙◌}
use mathlib.Core.Bool.{Bool, true, false, cond}
use mathlib.Core.List.{List, [], ◌∷◌, ◌++◌, map}
use native.Mathlib.Omega.{arith}
use native.Mathlib.Nat.{lt_of_lt_of_le}
use lib.Dec.{eqb}
use lib.ListN.{length, get_or, set}
use lib.Pow.{shl_lt, shl_exact, pow_mono}
use borrow.Author.Tests.{eqb-true, eqb-false, lt-ltb, le-ltb}
use Rattle.format.specs.Stacks.{stacked, top, rest}
use Rattle.format.proofs.StackLaws.{stacked_top, stacked_push}
use Rattle.rules.specs.Schema.{Schema}
use Rattle.rules.specs.Names.{Bound}
use Rattle.rules.specs.Rules.{Context, bind}
use Rattle.naming.specs.Scopes.{bound_in, bind_scope, scope_from, scope_of}
use Rattle.rules.specs.Kept.{kind_in, variable, vars_of, context_of}
use Rattle.naming.specs.Kept.{bare_point}
use Rattle.rules.proofs.NameLaws.{vars_kept, vars_more}

-- a kind in one of the eight places keeps below the 58th bit, and is not cut off
pub digit_low : (k b : ℕ) → k < 64 → b < 8 → k * 2 ^ (10 + 6 * b) < 2 ^ 58
digit_low k b small few = lt_of_lt_of_le (shl_lt 6 (10 + 6 * b) small) (pow_mono {i = 6 + (10 + 6 * b)} {j = 58} (omega arith))

pub digit_kept : (k b : ℕ) → k < 64 → b < 8 → k * 2 ^ (10 + 6 * b) % 2 ^ 64 ≡ k * 2 ^ (10 + 6 * b)
digit_kept k b small few = shl_exact 6 (10 + 6 * b) 64 small (omega arith)

-- one variable more, and none more than eight
pub binds : (w k b s : ℕ) → b ≡ bound_in w → b < 8 → s ≡ k % 64 * 2 ^ (10 + 6 * b) → w % 2 ^ 58 + 64 + s ≡ bind_scope w k
unfolding bind_scope
binds w k b s e few its = rw (its, ← e, lt-ltb b 8 few)

pub binds_none : (w k b : ℕ) → b ≡ bound_in w → 8 ≤ b → w ≡ bind_scope w k
unfolding bind_scope
binds_none w k b e many = rw (← e, le-ltb b 8 many)

-- variables are bound at the end, so that the number goes with the context
pub scope_more : (w : ℕ) (bs : List Bound) (b : Bound) → scope_from w (bs ++ (b ∷ [])) ≡ bind_scope (scope_from w bs) b.sort
unfolding scope_from
scope_more w [] b = refl
scope_more w (x ∷ bs) b = scope_more (bind_scope w x.sort) bs b

pub scope_bind : (c : Context) (k : ℕ) (fresh : Bool) → scope_of (bind c k fresh) ≡ bind_scope (scope_of c) k
unfolding scope_of
scope_bind c k fresh = scope_more (c.user % 64) c.vars (record { sort = k; fresh = fresh })

-- after a step that stores v past the b variables of the table of names, and leaves d of them to the child
pub scope_next : (D : Schema) (t : List ℕ) (u b v d : ℕ) → 512 + b < length t → b ≤ d → d ≤ b + 1
    → cond (eqb d b) (scope_of (context_of t (bare_point D u b))) (bind_scope (scope_of (context_of t (bare_point D u b))) (kind_in v))
    ≡ scope_of (context_of (set t (512 + b) v) (bare_point D u d))
unfolding scope_of
scope_next D t u b v d long least most = go (eqb d b) refl
  where
    go : (q : Bool) → eqb d b ≡ q → cond q (scope_of (context_of t (bare_point D u b))) (bind_scope (scope_of (context_of t (bare_point D u b))) (kind_in v))
        ≡ scope_of (context_of (set t (512 + b) v) (bare_point D u d))
    go true e =
        let kept : vars_of u (set t (512 + b) v) b ≡ vars_of u t b = vars_kept u t b b v (omega arith) in
        sym (ap (λ k. scope_from (u % 64) (vars_of u (set t (512 + b) v) k)) (eqb-true d b e) ∙ ap (scope_from (u % 64)) kept)
    go false e =
        let one : d ≡ b + 1 = omega (arith, eqb-false d b e) in
        sym (ap (λ k. scope_from (u % 64) (vars_of u (set t (512 + b) v) k)) one ∙ ap (scope_from (u % 64)) (vars_more u t b v long) ∙ scope_more (u % 64) (vars_of u t b) (variable u v))

-- the numbers of the contexts that wait, on a stack in an array
pub scope_pushed : (a : List ℕ) (d w : ℕ) (c : Context) (cs : List Context) → d < length a → w ≡ scope_of c → stacked 0 a d ≡ map scope_of cs
    → stacked 0 (set a d w) (d + 1) ≡ map scope_of (c ∷ cs)
scope_pushed a d w c cs h e more = stacked_push 0 a d w h ∙ ap₂ ◌∷◌ e more

pub scope_popped : (a : List ℕ) (d : ℕ) (c : Context) (cs : List Context) → 0 < d → stacked 0 a d ≡ map scope_of (c ∷ cs)
    → (get_or a (d - 1) 0 ≡ scope_of c) × (stacked 0 a (d - 1) ≡ map scope_of cs)
scope_popped a d c cs pos e = let q = sym (stacked_top 0 a d pos) ∙ e in (ap top q, ap rest q)
