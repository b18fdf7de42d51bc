-- What 1 to 10 leave of the context of a node: a user and kinds in count, and eight variables at most.
use Prim.Native.Nat.{ℕ, zero, suc, ◌≤◌, ◌<◌}
use mathlib.Core.Path.{◌≡◌, refl, sym, subst}
use mathlib.Core.Logic.{◌≢◌, inl, inr}
use mathlib.Core.Bool.{Bool, true, false}
use mathlib.Core.List.{List, [], ◌∷◌}
use native.Mathlib.Omega.{arith}
use lib.Dec.{eqb, leb}
use lib.ListN.{length, length-append}
use borrow.Author.Tests.{eqb-true, eqb-false, leb-true, leb-false}
use Rattle.masks.specs.Mask.{with, without}
use Rattle.format.specs.Contents.{Contents, in_count, contents_of}
use Rattle.format.specs.Answers.{fine}
use Rattle.format.specs.Header.{head_at}
use Rattle.format.specs.declared.Node.{Node}
use Rattle.format.proofs.ContentsLaws.{in_count_iff, item_zero, users_held, kinds_held}
use Rattle.checking.specs.Check.{reading_names}
use Rattle.rules.specs.Schema.{Schema, schema_of}
use Rattle.rules.specs.Names.{kind_of}
use Rattle.rules.specs.Rules.{Context, wrong, bind, activate, child_of}
use Rattle.rules.specs.Checking.{openings}
use Rattle.reading_exact.specs.File.{InCount}
use Rattle.reading_exact.specs.Refusals.{nth, misnamed, kind, kind_of_lem}
use Rattle.reading_exact.proofs.AllLaws.{all_map}
use Rattle.checking_exact.specs.Faults.{InContext, root, child, first_child, second_child}
use Rattle.checking_exact.proofs.OperandKinds.{Ranged}
use Rattle.checking_exact.proofs.NameFaults.{fails_iff}
use Rattle.checking_exact.proofs.KnownKinds.{Closed, Known, known_more, kind-known}
use Rattle.running_exact.proofs.NodeSteps.{new_names, receive_names}
use Rattle.running_exact.proofs.FileNodes.{StandsIn, refusable_none, laid, ranged, names_clear, binder_room, openings_length}
use Rattle.running_exact.proofs.FileNodes.{opening_get}
use Rattle.running_exact.proofs.StartKept.{session_seated}
use Rattle.lending.specs.Lent.{context_at}
use Rattle.lending.specs.Scopes.{Narrow}
use Rattle.lending.proofs.ContextLaws.{contexts_at}

-- a node's only child has one variable more after new and receive, and else at most another active set
by_child : (D : Schema) (c : Context) (n : Node) (P : Context → Type 0) → (n.tag ≡ 3 → P (bind c n.f1 true))
    → (n.tag ≡ 5 → P (bind c (D.carries (kind_of D c.vars n.f1)) false)) → (n.tag ≢ 3 → n.tag ≢ 5 → (m : ℕ) → P (activate c m)) → P (child_of D c n)
unfolding child_of
by_child D c n P new receive other = go (eqb n.tag 3) refl (eqb n.tag 5) refl (eqb n.tag 7) refl (eqb n.tag 8) refl
  where
    go : (x : Bool) → eqb n.tag 3 ≡ x → (y : Bool) → eqb n.tag 5 ≡ y → (z : Bool) → eqb n.tag 7 ≡ z → (w : Bool) → eqb n.tag 8 ≡ w
        → P (child_of D c n)
    go true a y b z d w e = rw a (new (eqb-true n.tag 3 a))
    go false a true b z d w e = rw (a, b) (receive (eqb-true n.tag 5 b))
    go false a false b true d w e = rw (a, b, d) (other (eqb-false n.tag 3 a) (eqb-false n.tag 5 b) (with c.mask n.f1))
    go false a false b false d true e = rw (a, b, d, e) (other (eqb-false n.tag 3 a) (eqb-false n.tag 5 b) (without c.mask n.f1))
    go false a false b false d false e = rw (a, b, d, e) (other (eqb-false n.tag 3 a) (eqb-false n.tag 5 b) c.mask)

module _ (f : List ℕ) (clean : reading_names f ≡ fine) where
  abbrev C : Contents
  C = contents_of f

  abbrev D : Schema
  D = schema_of C

  abbrev ns : List Node
  ns = C.nodes

  abbrev os : List Context
  os = openings C

  -- kinds named by channels and kinds are in count, or 0
  pub closed : Closed D
  closed = record { kind = λ c n. of_channel c n (in_count D.kinds (D.kind c)) refl; carries = of_kind }
    where
      of_channel : (c : ℕ) → InCount D.channels c → (b : Bool) → in_count D.kinds (D.kind c) ≡ b → D.kind c ≤ D.kinds
      of_channel c n true e = ((in_count_iff D.kinds (D.kind c)).0 e).1
      of_channel c n false e = absurd (refusable_none f clean 6 _ (misnamed refl (kind_of_lem c n ((fails_iff _ _ (in_count_iff D.kinds (D.kind c))).0 e) refl)))

      carries_low : (k : ℕ) → InCount D.kinds k → (b : Bool) → leb (D.carries k) D.kinds ≡ b → D.carries k ≤ D.kinds
      carries_low k n true e = leb-true (D.carries k) D.kinds e
      carries_low k n false e = absurd (refusable_none f clean 6 _ (misnamed refl (kind k n (leb-false (D.carries k) D.kinds e) refl)))

      of_kind : (k : ℕ) → k ≤ D.kinds → D.carries k ≤ D.kinds
      of_kind zero l = omega (arith, item_zero 0 C.kinds)
      of_kind (suc k) l = carries_low (suc k) (omega arith, l) (leb (D.carries (suc k)) D.kinds) refl

  -- user and kinds are in count, and there are eight variables at most
  abbrev pub Counted : Context → Type 0
  Counted c = InCount D.users c.user × (length c.vars ≤ 8) × Known D c.vars

  -- so with one variable more of a kind in count
  counted_bind : (c : Context) (k : ℕ) (fresh : Bool) → length c.vars < 8 → k ≤ D.kinds → Counted c → Counted (bind c k fresh)
  counted_bind c k fresh room l (u, b, h) = (u, omega (arith, length-append c.vars (record { sort = k; fresh = fresh } ∷ [])), known_more D c.vars k fresh h l)

  -- so at the only child
  counted_child : (i : ℕ) (c : Context) → StandsIn (contents_of f) i c → Counted c → Counted (child_of D c (nth ns i))
  counted_child i c s (u, l, k) =
      by_child D c n Counted (λ t. counted_bind c n.f1 true (binder_room f clean s (inl t)) (new_names D c n R clear t).1 (u, l, k))
      (λ t.
      let low = kind-known D closed c.vars n.f1 (kind_of D c.vars n.f1) k (receive_names D c n R clear t) in
      counted_bind c (D.carries (kind_of D c.vars n.f1)) false (binder_room f clean s (inr t)) (closed.carries (kind_of D c.vars n.f1) low) (u, l, k))
      (λ _ _ m. (u, l, k))
    where
      n : Node
      n = nth ns i

      R : Ranged D
      R = ranged f clean

      clear : wrong D c n ≡ 0
      clear = names_clear f clean i c s

  -- so at every node that is reached
  pub counted_context : {i : ℕ} {c : Context} → InContext D ns os i c → Counted c
  counted_context (root {k = k} n b) =
      let m : InCount (length C.sessions) k = (n.0, omega (arith, openings_length C.sessions)) in
      subst Counted (sym (opening_get C.sessions k n.0)) ((session_seated f clean k m).0, omega arith, tt)
  counted_context (child {i = i} {c = c} n o r) = counted_child i c (n, r) (counted_context r)
  counted_context (first_child n t r) = counted_context r
  counted_context (second_child n t r h) = counted_context r

  -- counts are at most 32
  narrow_in : {i : ℕ} {c : Context} → InContext D ns os i c → Narrow c
  narrow_in {i} {c} h =
      let (u, l, k) = counted_context h in
      record {
        user = omega (arith, (laid f clean).users, users_held f (head_at f));
        bound = l;
        kinds = all_map (λ b p. omega (arith, (laid f clean).kinds, kinds_held f (head_at f))) c.vars k;
      }

  -- and every node is reached
  pub narrow : (j : ℕ) → InCount (length ns) j → Narrow (context_at C j)
  narrow j n = narrow_in (contexts_at f clean j n)
