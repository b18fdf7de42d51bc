-- The pass over the nodes that finds 9 and 10 and stores what each node is reached with.
use Prim.Native.Nat.{ℕ, ◌+◌, ◌-◌, ◌≤◌, ◌<◌}
use mathlib.Core.Path.{◌≡◌, refl, sym, ap, ap₂, ◌∙◌}
use mathlib.Core.Bool.{Bool, true, false, cond}
use mathlib.Core.List.{List, [], ◌∷◌, map}
use native.Mathlib.Numerals.{add-one}
use lib.Dec.{eqb, ltb}
use lib.ListN.{length, set, drop}
use lib.Seq.{sets, set_out}
use borrow.Author.Tests.{ltb-true, ltb-false}
use Rattle.format.specs.Contents.{Contents, item, no_node}
use Rattle.format.specs.Answers.{fine, refused}
use Rattle.format.specs.declared.Verdict.{Verdict}
use Rattle.format.specs.declared.Node.{Node}
use Rattle.rules.specs.Schema.{Schema, schema_of}
use Rattle.rules.specs.Rules.{Context, names_fit, kinds_fit, wrong, waiting_after}
use Rattle.rules.specs.Checking.{reached, rightly, openings, names_answer}
use Rattle.naming.specs.Scopes.{scope_of, marked, awaited, node_scope, scopes_in}
use Rattle.rules.specs.Kept.{unmasked}
use Rattle.rules.proofs.PassLaws.{bare_after, tells, tells_at, tells_none, none_told, none_waits, none_left, Names, names_begin, names_on, names_refused, names_out, names_end}

-- a context as one number has no active set
module _ (D : Schema) where
  abbrev scopes : List Node → List Context → List ℕ
  scopes ns st = map (λ (r : Context × Node). node_scope D r.0 r.1) (rightly D (reached D ns st))

  bare_scopes : (ns : List Node) (st : List Context) → scopes ns (map unmasked st) ≡ scopes ns st
  unfolding reached rightly wrong scope_of node_scope
  bare_scopes [] st = refl
  bare_scopes (n ∷ ns) [] = refl
  bare_scopes (n ∷ ns) (c ∷ st) =
      go (eqb (wrong D c n) 0)
      (sym (bare_scopes ns (waiting_after D (unmasked c) n (map unmasked st))) ∙ ap (scopes ns) (bare_after D c n st) ∙ bare_scopes ns (waiting_after D c n st))
    where
      go : (b : Bool) → scopes ns (waiting_after D (unmasked c) n (map unmasked st)) ≡ scopes ns (waiting_after D c n st)
          → map (λ (r : Context × Node). node_scope D r.0 r.1) (cond b ((unmasked c, n) ∷ rightly D (reached D ns (waiting_after D (unmasked c) n (map unmasked st)))) [])
          ≡ map (λ (r : Context × Node). node_scope D r.0 r.1) (cond b ((c, n) ∷ rightly D (reached D ns (waiting_after D c n st))) [])
      go true e = ap (λ (ws : List ℕ). node_scope D c n ∷ ws) e
      go false e = refl

  scopes_aside : (ns : List Node) (st us : List Context) → map unmasked st ≡ map unmasked us → scopes ns st ≡ scopes ns us
  scopes_aside ns st us e = sym (bare_scopes ns st) ∙ ap (scopes ns) e ∙ bare_scopes ns us

module _ (C : Contents) (out : List ℕ) where
  abbrev scopes_from : ℕ → List Context → List ℕ
  scopes_from i st = tells C (node_scope (schema_of C)) i st

  -- the contexts st wait at the node i; l is the table of what the nodes before it are reached with
  pub record Scoping (i : ℕ) (st : List Context) (l : List ℕ) : Type 0 where
    pub names : Names C i st
    pub stored : sets l i (scopes_from i st) ≡ sets out 1 (scopes_in C)

  -- the pass is over, with an answer
  abbrev pub Settled : Verdict → List ℕ → Type 0
  Settled v l = (v ≡ names_answer C) × (l ≡ sets out 1 (scopes_in C))

  pub scoping_begins : (st : List Context) → st ≡ map unmasked (openings C) → Scoping 1 st out
  unfolding scopes_in
  scoping_begins st e =
      record { names = names_begin C st e; stored = ap (sets out 1) (ap (scopes (schema_of C) C.nodes) e ∙ bare_scopes (schema_of C) C.nodes (openings C)) }

  -- where no context waits, and past the last node
  pub scoping_out : (i : ℕ) (l : List ℕ) → Scoping i [] l → Settled fine l
  scoping_out i l left = (names_out C i left.names, ap (sets l i) (sym (none_told C (node_scope (schema_of C)) i [] (none_waits C i))) ∙ left.stored)

  pub scoping_ends : (i : ℕ) (st : List Context) (l : List ℕ) → length C.nodes < i → Scoping i st l → Settled fine l
  scoping_ends i st l past left =
      (names_end C i st past left.names, ap (sets l i) (sym (none_told C (node_scope (schema_of C)) i st (none_left C i st past))) ∙ left.stored)

-- a node in its context
module _ (C : Contents) (out : List ℕ) (i : ℕ) (c : Context) (st : List Context) (l : List ℕ) (n : Node) (pos : 1 ≤ i) (le : i ≤ length C.nodes)
    (its : n ≡ item no_node C.nodes i) (left : Scoping C out i (c ∷ st) l) where
  -- refused for its names
  pub scoping_refused : (b : ℕ) → b ≡ wrong (schema_of C) c n → (b ≡ 0 → ⊥) → Settled C out (refused b i) l
  scoping_refused b e bad = (
    names_refused C i c st b n pos le its e bad left.names,
    ap (sets l i) (sym (tells_none C (node_scope (schema_of C)) i c st n pos le its (λ z. bad (e ∙ z)))) ∙ left.stored,
  )

  -- which is kept as w with the kind k, where there is room for it
  module _ (j w k : ℕ) (at : j ≡ i) (kept : i < length l → w ≡ scope_of c) (kind : wrong (schema_of C) c n ≡ 0 → k ≡ awaited (schema_of C) c n) where
    same_store : wrong (schema_of C) c n ≡ 0 → set l i (marked w k) ≡ set l i (node_scope (schema_of C) c n)
    unfolding node_scope
    same_store good = go (ltb i (length l)) refl
      where
        go : (b : Bool) → ltb i (length l) ≡ b → set l i (marked w k) ≡ set l i (marked (scope_of c) (awaited (schema_of C) c n))
        go true e = ap (set l i) (ap₂ marked (kept (ltb-true i (length l) e)) (kind good))
        go false e = set_out l i (marked w k) (ltb-false i (length l) e) ∙ sym (set_out l i (marked (scope_of c) (awaited (schema_of C) c n)) (ltb-false i (length l) e))

    pub scoping_on : (next : List Context) → wrong (schema_of C) c n ≡ 0 → map unmasked next ≡ map unmasked (waiting_after (schema_of C) c n st)
        → Scoping C out (i + 1) next (set l j (marked w k))
    scoping_on next good same =
        let D : Schema = schema_of C in
        let shape : scopes_from C out i (c ∷ st) ≡ node_scope D c n ∷ scopes_from C out (i + 1) next =
        tells_at C (node_scope D) i c st n pos le its good
        ∙ ap (λ (ws : List ℕ). node_scope D c n ∷ ws) (sym (scopes_aside D (drop (i + 1 - 1) C.nodes) next (waiting_after D c n st) same)) in
        record {
          names = names_on C i c st next n pos le its good same left.names;
          stored = ap (λ (a : ℕ). sets (set l a (marked w k)) (i + 1) (scopes_from C out (i + 1) next)) at ∙ ap (λ (t : List ℕ). sets t (i + 1) (scopes_from C out (i + 1) next)) (same_store good)
              ∙ ap (λ (m : ℕ). sets (set l i (node_scope D c n)) m (scopes_from C out (i + 1) next)) (add-one i) ∙ ap (sets l i) (sym shape) ∙ left.stored;
        }

    -- an end and a fork
    pub scoping_tree : n.tag ≡ 0 → Scoping C out (i + 1) st (set l j (marked w k))
    unfolding wrong names_fit kinds_fit
    scoping_tree t = scoping_on st (rw t) (rw t)

    pub scoping_fork : n.tag ≡ 1 → Scoping C out (i + 1) (c ∷ c ∷ st) (set l j (marked w k))
    unfolding wrong names_fit kinds_fit
    scoping_fork t = scoping_on (c ∷ c ∷ st) (rw t) (rw t)
