-- Where 1 to 10 refuse nothing, every node has its candidates.
use Prim.Native.Nat.{ℕ, suc}
use mathlib.Core.Path.{◌≡◌, refl, ap, ◌∙◌}
use mathlib.Core.List.{List, [], ◌∷◌, ◌++◌}
use mathlib.Core.Bool.{Bool, true, false}
use native.Mathlib.Omega.{arith}
use lib.Dec.{eqb}
use lib.ListN.{length, length-map}
use Rattle.format.specs.Contents.{Contents}
use Rattle.format.specs.declared.Session.{Session}
use Rattle.format.specs.declared.Node.{Node}
use Rattle.format.proofs.AnswerLaws.{NoRefusal}
use Rattle.format.specs.Stacks.{top}
use Rattle.trees.specs.Ends.{following}
use Rattle.trees.specs.Shape.{node_fits, due_after, shape_from, roots, shape_answer}
use Rattle.trees.specs.declared.Due.{Due}
use Rattle.rules.specs.Schema.{Schema, schema_of}
use Rattle.rules.specs.Rules.{Context, waiting_after}
use Rattle.rules.specs.Checking.{reached, openings_from, openings, reached_in, rightly, names_answer}
use Rattle.rules.specs.Candidates.{candidates, candidates_in}
use Rattle.rules.proofs.PassLaws.{all_right}
use Rattle.states.specs.States.{labelled}

-- as many contexts wait as trees are due
same_wait : (D : Schema) (c : Context) (d : Due) (n : Node) (st : List Context) (ds : List Due) → length st ≡ length ds
    → length (waiting_after D c n st) ≡ length (due_after n d ds)
same_wait D c d n st ds e = go (eqb n.tag 0) refl (eqb n.tag 1) refl
  where
    go : (x : Bool) → eqb n.tag 0 ≡ x → (y : Bool) → eqb n.tag 1 ≡ y → length (waiting_after D c n st) ≡ length (due_after n d ds)
    go true p y q = rw p e
    go false p true q = rw (p, q) (ap (λ k. suc (suc k)) e)
    go false p false q = rw (p, q) (ap suc e)

-- in a file of whole trees every node is reached
reached_length : (D : Schema) (i : ℕ) (ns : List Node) (st : List Context) (ds : List Due) → length st ≡ length ds → NoRefusal (shape_from i ns ds)
    → length (reached D ns st) ≡ length ns
unfolding reached shape_from
reached_length D i [] st ds e s = refl
reached_length D i (n ∷ ns) [] [] e s = let no_way : ⊥ = omega (arith, s) in absurd no_way
reached_length D i (n ∷ ns) [] (d ∷ ds) e s = let no_way : ⊥ = omega (arith, e) in absurd no_way
reached_length D i (n ∷ ns) (c ∷ st) [] e s = let no_way : ⊥ = omega (arith, s) in absurd no_way
reached_length D i (n ∷ ns) (c ∷ st) (d ∷ ds) e s =
    ap suc (go (node_fits i n d (top (following (suc i) ns))) refl (reached_length D (suc i) ns (waiting_after D c n st) (due_after n d ds) (same_wait D c d n st ds (omega (arith, e)))))
  where
    go : (x : Bool) → node_fits i n d (top (following (suc i) ns)) ≡ x
        → (NoRefusal (shape_from (suc i) ns (due_after n d ds)) → length (reached D ns (waiting_after D c n st)) ≡ length ns)
        → length (reached D ns (waiting_after D c n st)) ≡ length ns
    go true p ih = ih (rw p at s)
    go false p ih = let bad : ◌≡◌ {A = ℕ} 8 0 = rw p at s in let no_way : ⊥ = omega (arith, bad) in absurd no_way

same_begin : (ss : List Session) → length (openings_from ss) ≡ length (roots ss)
unfolding openings_from roots
same_begin [] = refl
same_begin (s ∷ ss) = ap suc (same_begin ss)

pub candidates_length : (C : Contents) → NoRefusal (shape_answer C) → NoRefusal (names_answer C) → length (candidates_in C) ≡ length C.nodes
unfolding candidates_in names_answer shape_answer
candidates_length C s n =
    length-map (rightly (schema_of C) (reached_in C)) (λ (r : Context × Node). candidates (schema_of C) r.0 r.1) ∙ ap length (all_right (schema_of C) 1 (reached_in C) n)
    ∙ reached_length (schema_of C) 1 C.nodes (openings C) (roots C.sessions) (same_begin C.sessions) s

-- what stands after the nodes' own masks plays no part
pub labelled_more : (ns : List Node) (rs xs : List ℕ) → length rs ≡ length ns → labelled ns (rs ++ xs) ≡ labelled ns rs
unfolding labelled
labelled_more [] [] xs e = refl
labelled_more [] (r ∷ rs) xs e = refl
labelled_more (n ∷ ns) [] xs e = let no_way : ⊥ = omega (arith, e) in absurd no_way
labelled_more (n ∷ ns) (r ∷ rs) xs e = ap (λ l. record { tag = n.tag; roles = r } ∷ l) (labelled_more ns rs xs (omega (arith, e)))
