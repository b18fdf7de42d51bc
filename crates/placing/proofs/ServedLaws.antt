-- The nodes that are left to look at for 15.
use Prim.Native.Nat.{ℕ, suc, ◌+◌, ◌≤◌, ◌<◌}
use mathlib.Core.Path.{◌≡◌, refl, sym, ◌∙◌}
use mathlib.Core.List.{List, [], ◌∷◌}
use mathlib.Core.Bool.{Bool, true, false, cond, not, ◌&&◌, true≢false}
use native.Mathlib.Omega.{arith}
use lib.Dec.{eqb}
use lib.ListN.{length, get_or, drop}
use borrow.Author.Tests.{eqb-false}
use Rattle.format.specs.Answers.{refused, first_of}
use Rattle.format.specs.Contents.{item, no_node}
use Rattle.format.specs.declared.Node.{Node}
use Rattle.format.specs.declared.Verdict.{Verdict}
use Rattle.format.proofs.AnswerLaws.{NoRefusal}
use Rattle.states.specs.States.{Label, needs, labelled}
use Rattle.states.specs.Kept.{Served}
use Rattle.placing.specs.Placing.{unserved_from}

-- 15 as the first of the nodes that is not served, from a number on; these are a node's tests by its number
unserved_first : (fits : ℕ → Bool) (ns : List Node) (rs : List ℕ) (i : ℕ) → length ns ≤ length rs
    → ((k : ℕ) → k < length ns → fits (i + k) ≡ not (needs (get_or ns k no_node).tag && eqb (get_or rs k 0) 0))
    → unserved_from i (labelled ns rs) ≡ first_of fits (refused 15) i (length ns)
unfolding unserved_from labelled first_of
unserved_first fits [] rs i room same = refl
unserved_first fits (n ∷ ns) [] i room same = absurd (omega (arith, room))
unserved_first fits (n ∷ ns) (r ∷ rs) i room same =
    let rest = unserved_first fits ns rs (suc i) (omega (arith, room)) (λ k h. let e : suc i + k ≡ i + suc k = omega arith in rw e (same (suc k) (omega arith))) in
    let z : i + 0 ≡ i = omega arith in
    turned (needs n.tag && eqb r 0) (fits i) (refused 15 i) _ _ (rw z at (same 0 (omega arith))) rest
  where
    turned : (b c : Bool) (v w x : Verdict) → c ≡ not b → w ≡ x → cond b v w ≡ cond c x v
    turned true c v w x e f = rw e
    turned false c v w x e f = rw e f

-- the test of a node by its number, where each node's roles stand in a table
abbrev pub served_at : List Node → List ℕ → ℕ → Bool
served_at ns rs n = not (needs (item no_node ns n).tag && eqb (get_or rs n 0) 0)

pub first_unserved : (ns : List Node) (rs : List ℕ) → length ns < length rs → unserved_from 1 (labelled ns (drop 1 rs)) ≡ first_of (served_at ns rs) (refused 15) 1 (length ns)
unfolding item
first_unserved ns [] room = absurd (omega (arith, room))
first_unserved ns (r ∷ rs) room = unserved_first (served_at ns (r ∷ rs)) ns rs 1 (omega (arith, room)) (λ k h. let e : 1 + k ≡ suc k = omega arith in rw e)

-- where there is none, each node that needs a state has one
pub all_served : (i : ℕ) (ls : List Label) → NoRefusal (unserved_from i ls) → Served ls
unfolding unserved_from Served
all_served i [] q = tt
all_served i (l ∷ ls) q = go (needs l.tag) refl (eqb l.roles 0) refl (all_served (suc i) ls) q
  where
    go : (x : Bool) → needs l.tag ≡ x → (y : Bool) → eqb l.roles 0 ≡ y → (NoRefusal (unserved_from (suc i) ls) → Served ls)
        → NoRefusal (cond (x && y) (refused 15 i) (unserved_from (suc i) ls)) → (needs l.tag ≡ true → l.roles ≡ 0 → ⊥) × Served ls
    go true e true g further q = let no_way : ⊥ = omega (arith, q) in absurd no_way
    go true e false g further q = (λ n z. eqb-false l.roles 0 g z, further q)
    go false e y g further q = (λ n z. true≢false (sym n ∙ e), further q)
