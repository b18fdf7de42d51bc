-- The kind that a thread at a node waits for is 0 where the node is no receive, in every file.
use Prim.Native.Nat.{ℕ, zero, suc, ◌+◌, ◌*◌, ◌-◌, ◌/◌, ◌%◌, ◌^◌, ◌≤◌, ◌<◌}
use mathlib.Core.Path.{◌≡◌, refl, sym, ap, ◌∙◌}
use mathlib.Core.Bool.{Bool, true, false, cond}
use mathlib.Core.List.{List, [], ◌∷◌, map}
use native.Mathlib.Omega.{arith}
use lib.Dec.{eqb, ltb}
use lib.ListN.{length, get_or, length-map, get_or-eq_default}
use borrow.Author.Tests.{ne_eqb, ltb-true, ltb-false}
use Rattle.format.specs.Contents.{Contents, item, no_node}
use Rattle.format.specs.declared.Node.{Node}
use Rattle.rules.specs.Schema.{Schema, schema_of}
use Rattle.rules.specs.Names.{kind_of}
use Rattle.rules.specs.Rules.{Context, wrong, waiting_after}
use Rattle.rules.specs.Checking.{reached, reached_in, rightly}
use Rattle.naming.specs.Scopes.{scope_of, awaited_in, marked, awaited, node_scope, scopes_in, awaits}
use Rattle.checking_exact.specs.Faults.{nowhere}
use Rattle.steps.specs.Choice.{clinic_of}
use Rattle.running_exact.proofs.TotalSteps.{ByReceives}

abbrev none : Context × Node
none = (nowhere, no_node)

-- the kind stands above the rest
pub awaited_marked : (w k : ℕ) → awaited_in (marked w k) ≡ k % 64
unfolding marked
awaited_marked w k = omega arith

-- as far as names are right the nodes are those that are reached, each with its own node
pub rightly_get : (D : Schema) (rs : List (Context × Node)) (i : ℕ) → i < length (rightly D rs) → get_or (rightly D rs) i none ≡ get_or rs i none
unfolding rightly
rightly_get D [] i lt = refl
rightly_get D (r ∷ rs) i lt = go (eqb (wrong D r.0 r.1) 0) i lt (λ j. rightly_get D rs j)
  where
    go : (b : Bool) (i : ℕ) → i < length (cond b (r ∷ rightly D rs) []) → ((j : ℕ) → j < length (rightly D rs) → get_or (rightly D rs) j none ≡ get_or rs j none)
        → get_or (cond b (r ∷ rightly D rs) []) i none ≡ get_or (r ∷ rs) i none
    go true zero lt rec = refl
    go true (suc i) lt rec = rec i (omega (arith, lt))
    go false i lt rec = let no : ⊥ = omega (arith, lt) in absurd no

rightly_less : (D : Schema) (rs : List (Context × Node)) → length (rightly D rs) ≤ length rs
unfolding rightly
rightly_less D [] = omega arith
rightly_less D (r ∷ rs) = go (eqb (wrong D r.0 r.1) 0) (rightly_less D rs)
  where
    go : (b : Bool) → length (rightly D rs) ≤ length rs → length (cond b (r ∷ rightly D rs) []) ≤ suc (length rs)
    go true h = omega (arith, h)
    go false h = omega arith

pub reached_node : (D : Schema) (ns : List Node) (st : List Context) (i : ℕ) → i < length (reached D ns st) → (get_or (reached D ns st) i none).1 ≡ get_or ns i no_node
unfolding reached
reached_node D [] st i lt = let no : ⊥ = omega (arith, lt) in absurd no
reached_node D (n ∷ ns) [] i lt = let no : ⊥ = omega (arith, lt) in absurd no
reached_node D (n ∷ ns) (c ∷ st) zero lt = refl
reached_node D (n ∷ ns) (c ∷ st) (suc i) lt = reached_node D ns (waiting_after D c n st) i (omega (arith, lt))

map_get : {A : Type 0} (g : A → ℕ) (l : List A) (i : ℕ) (d : A) → i < length l → get_or (map g l) i 0 ≡ g (get_or l i d)
map_get g [] i d lt = let no : ⊥ = omega (arith, lt) in absurd no
map_get g (x ∷ l) zero d lt = refl
map_get g (x ∷ l) (suc i) d lt = map_get g l i d (omega (arith, lt))

module _ (C : Contents) where
  abbrev D : Schema
  D = schema_of C

  abbrev rs : List (Context × Node)
  rs = rightly D (reached_in C)

  -- what is kept of a node that is reached rightly
  pub scope_at : (i : ℕ) → i < length rs → get_or (scopes_in C) i 0 ≡ node_scope D (get_or (reached_in C) i none).0 (get_or C.nodes i no_node)
  unfolding scopes_in
  scope_at i lt =
      map_get (λ (r : Context × Node). node_scope D r.0 r.1) rs i none lt
      ∙ ap (λ (r : Context × Node). node_scope D r.0 r.1) (rightly_get D (reached_in C) i lt)
      ∙ ap (node_scope D (get_or (reached_in C) i none).0) (reached_node D C.nodes _ i (omega (arith, lt, rightly_less D (reached_in C))))

  pub by_receives : ByReceives (clinic_of C) (awaits C)
  unfolding item node_scope scopes_in
  by_receives zero inside other = let no : ⊥ = omega (arith, inside.0) in absurd no
  by_receives (suc i) inside other = go (ltb i (length rs)) refl
    where
      n : Node
      n = get_or C.nodes i no_node

      go : (b : Bool) → ltb i (length rs) ≡ b → awaited_in (get_or (scopes_in C) i 0) ≡ 0
      go true e =
          let c : Context = (get_or (reached_in C) i none).0 in
          ap awaited_in (scope_at i (ltb-true i (length rs) e)) ∙ awaited_marked (scope_of c) (awaited D c n)
          ∙ ap (λ (b : Bool). cond b (kind_of D c.vars n.f1) 0 % 64) (ne_eqb n.tag 5 other)
      go false e =
          ap awaited_in (get_or-eq_default (scopes_in C) 0 {n = i} (omega (arith, ltb-false i (length rs) e, length-map rs (λ (r : Context × Node). node_scope D r.0 r.1))))
