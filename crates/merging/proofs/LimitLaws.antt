-- What a file that 1 to 10 leave names is within the limits: owners and sessions' users, roots, and the second children of forks.
use Prim.Native.Nat.{ℕ, zero, suc, ◌+◌, ◌≤◌}
use mathlib.Core.Path.{◌≡◌, refl, sym, ap, subst, ◌∙◌}
use mathlib.Core.Bool.{Bool, true, false, cond}
use mathlib.Core.List.{List, [], ◌∷◌}
use native.Mathlib.Omega.{arith}
use lib.Dec.{eqb, leb}
use lib.ListN.{length, get_or}
use borrow.Author.Tests.{eqb-true, le-leb}
use Rattle.format.specs.Answers.{refused}
use Rattle.format.specs.Stacks.{top, rest}
use Rattle.format.specs.Contents.{Contents, item, no_session, no_node, contents_at}
use Rattle.format.specs.declared.Head.{Head}
use Rattle.format.specs.declared.Session.{Session}
use Rattle.format.specs.declared.Node.{Node}
use Rattle.format.proofs.AnswerLaws.{NoRefusal, both_quiet}
use Rattle.format.proofs.ContentsLaws.{users_held, nodes_held}
use Rattle.tables.specs.Records.{records_answer}
use Rattle.tables.proofs.RecordLaws.{owners_are_users, seated_are_users}
use Rattle.trees.specs.Ends.{following}
use Rattle.trees.specs.Shape.{root_fits, node_fits, bound_of, bound_below, due_after, shape_from, roots, shape_answer}
use Rattle.trees.specs.declared.Due.{Due}
use Rattle.trees.specs.declared.Due.TheVariants.{Root, Child}
use Rattle.trees.proofs.FitsLaws.{Fitting, fits_apart, second_iff}
use Rattle.reading.specs.Reading.{body_answer, reading}
use Rattle.std.specs.Prelude.{Ok}
use Rattle.reading.proofs.ReadingLaws.{by_body}
use Rattle.checking.specs.Check.{entered}
use Rattle.checking.proofs.CheckLaws.{entered_fine, names_parts}
use Rattle.format.specs.declared.Verdict.{Verdict}
use Rattle.merging.specs.Writers.{Limited}

-- a node that 8 passes, and what is judged after it
goes : (i : ℕ) (n : Node) (ns : List Node) (d : Due) (ds : List Due) → NoRefusal (shape_from i (n ∷ ns) (d ∷ ds))
    → Fitting i n d (top (following (suc i) ns)) × NoRefusal (shape_from (suc i) ns (due_after n d ds))
unfolding shape_from
goes i n ns d ds q = go (node_fits i n d (top (following (suc i) ns))) refl q
  where
    go : (b : Bool) → node_fits i n d (top (following (suc i) ns)) ≡ b → NoRefusal (cond b (shape_from (suc i) ns (due_after n d ds)) (refused 8 i))
        → Fitting i n d (top (following (suc i) ns)) × NoRefusal (shape_from (suc i) ns (due_after n d ds))
    go true e q = ((fits_apart i n d (top (following (suc i) ns))).0 e, q)
    go false e q = let no : ⊥ = omega (arith, q) in absurd no

-- trees that can be followed end at a number of 1 to the number after the last node
abbrev Ending : ℕ → List ℕ → Type 0
Ending hi [] = Unit {0}
Ending hi (e ∷ es) = (1 ≤ e) × (e ≤ hi) × Ending hi es

ending_rest : (hi : ℕ) (es : List ℕ) → Ending hi es → Ending hi (rest es)
ending_rest hi [] h = tt
ending_rest hi (e ∷ es) h = h.2

ending : (i : ℕ) (ns : List Node) → Ending (i + length ns) (following i ns)
unfolding following
ending i [] = tt
ending i (n ∷ ns) =
    let last : suc i + length ns ≡ i + suc (length ns) = omega arith in
    go (eqb n.tag 0) (eqb n.tag 1) (leb n.tag 8) (rw last at (ending (suc i) ns))
  where
    go : (a b c : Bool) → Ending (i + suc (length ns)) (following (suc i) ns)
        → Ending (i + suc (length ns)) (cond a (suc i ∷ following (suc i) ns) (cond b (rest (following (suc i) ns)) (cond c (following (suc i) ns) [])))
    go true b c h = (omega arith, omega arith, h)
    go false true c h = ending_rest (i + suc (length ns)) (following (suc i) ns) h
    go false false true h = h
    go false false false h = tt

-- where 8 refuses nothing, as many trees can be followed as are due
followed : (i : ℕ) (ns : List Node) (ds : List Due) → NoRefusal (shape_from i ns ds) → length (following i ns) ≡ length ds
unfolding shape_from following
followed i [] [] q = refl
followed i [] (d ∷ ds) q = let no : ⊥ = omega (arith, q) in absurd no
followed i (n ∷ ns) [] q = let no : ⊥ = omega (arith, q) in absurd no
followed i (n ∷ ns) (d ∷ ds) q =
    let (fits, later) = goes i n ns d ds q in
    go (eqb n.tag 0) (eqb n.tag 1) (leb n.tag 8) (le-leb n.tag 8 fits.1) (following (suc i) ns) (followed (suc i) ns (due_after n d ds) later)
  where
    child : Due
    child = Child (bound_below n.tag (bound_of d))

    go : (a b c : Bool) → c ≡ true → (es : List ℕ) → length es ≡ length (cond a ds (cond b (child ∷ child ∷ ds) (child ∷ ds)))
        → length (cond a (suc i ∷ es) (cond b (rest es) (cond c es []))) ≡ suc (length ds)
    go true b c t es e = ap suc e
    go false true c t [] e = let no : ⊥ = omega (arith, e) in absurd no
    go false true c t (x ∷ es) e = omega (arith, e)
    go false false true t es e = e
    go false false false t es e = let no : ◌≡◌ {A = ℕ} 0 1 = cc in absurd (omega arith)

-- so a fork's first child has an end, which is its second child
fork_end : (hi : ℕ) (es : List ℕ) → Ending hi es → 1 ≤ length es → (1 ≤ top es) × (top es ≤ hi)
fork_end hi [] h l = let no : ⊥ = omega (arith, l) in absurd no
fork_end hi (e ∷ es) h l = (h.0, h.1)

forks_end : (i : ℕ) (ns : List Node) (ds : List Due) → NoRefusal (shape_from i ns ds) → (k : ℕ) → (get_or ns k no_node).tag ≡ 1 → (get_or ns k no_node).f1 ≤ i + length ns
unfolding shape_from
forks_end i [] ds q k t = let no : ◌≡◌ {A = ℕ} 0 1 = t in absurd (omega (arith, no))
forks_end i (n ∷ ns) [] q k t = let no : ⊥ = omega (arith, q) in absurd no
forks_end i (n ∷ ns) (d ∷ ds) q zero t =
    let (fits, later) = goes i n ns d ds q in
    let zero-not : eqb n.tag 0 ≡ false = ap (λ x. eqb x 0) t in
    let one : eqb n.tag 1 ≡ true = ap (λ x. eqb x 1) t in
    let two : 1 ≤ length (following (suc i) ns) = omega (arith, followed (suc i) ns (due_after n d ds) later ∙ due (eqb n.tag 0) (eqb n.tag 1) zero-not one) in
    let (some, most) = fork_end (suc i + length ns) (following (suc i) ns) (ending (suc i) ns) two in
    let is : n.f1 ≡ top (following (suc i) ns) = (second_iff n (top (following (suc i) ns)) t some).0 fits.3 in
    omega (arith, is, most)
  where
    child : Due
    child = Child (bound_below n.tag (bound_of d))

    due : (a b : Bool) → a ≡ false → b ≡ true → length (cond a ds (cond b (child ∷ child ∷ ds) (child ∷ ds))) ≡ suc (suc (length ds))
    due a b x y = rw (x, y)
forks_end i (n ∷ ns) (d ∷ ds) q (suc k) t =
    let last : suc i + length ns ≡ i + suc (length ns) = omega arith in
    rw last at (forks_end (suc i) ns (due_after n d ds) (goes i n ns d ds q).1 k t)

-- a root that is due is the number of a node
abbrev Rooted : ℕ → List Due → Type 0
Rooted hi [] = Unit {0}
Rooted hi (Root r ∷ ds) = (r ≤ hi) × Rooted hi ds
Rooted hi (Child b ∷ ds) = Rooted hi ds

rooted : (i : ℕ) (ns : List Node) (ds : List Due) → NoRefusal (shape_from i ns ds) → Rooted (i + length ns) ds
unfolding shape_from
rooted i [] [] q = tt
rooted i [] (d ∷ ds) q = let no : ⊥ = omega (arith, q) in absurd no
rooted i (n ∷ ns) [] q = tt
rooted i (n ∷ ns) (d ∷ ds) q =
    let (fits, later) = goes i n ns d ds q in
    let last : suc i + length ns ≡ i + suc (length ns) = omega arith in
    here d fits.0 (below (eqb n.tag 0) (eqb n.tag 1) (rw last at (rooted (suc i) ns (due_after n d ds) later)))
  where
    child : Due
    child = Child (bound_below n.tag (bound_of d))

    below : (a b : Bool) → Rooted (i + suc (length ns)) (cond a ds (cond b (child ∷ child ∷ ds) (child ∷ ds))) → Rooted (i + suc (length ns)) ds
    below true b h = h
    below false true h = h
    below false false h = h

    here : (d : Due) → root_fits i d ≡ true → Rooted (i + suc (length ns)) ds → Rooted (i + suc (length ns)) (d ∷ ds)
    here (Root r) e h = (omega (arith, eqb-true r i e), h)
    here (Child b) e h = h

roots_named : (hi : ℕ) (ss : List Session) → Rooted hi (roots ss) → (k : ℕ) → (get_or ss k no_session).root ≤ hi
unfolding roots
roots_named hi [] h k = omega arith
roots_named hi (s ∷ ss) h zero = h.0
roots_named hi (s ∷ ss) h (suc k) = roots_named hi ss h.1 k

-- by number
module _ (C : Contents) (few : length C.nodes ≤ 1024) (q : NoRefusal (shape_answer C)) where
  forks_limited : (n : ℕ) → (item no_node C.nodes n).tag ≡ 1 → (item no_node C.nodes n).f1 ≤ 1025
  unfolding item shape_answer
  forks_limited zero t = omega arith
  forks_limited (suc n) t = omega (arith, few, forks_end 1 C.nodes (roots C.sessions) q n t)

  roots_limited : (n : ℕ) → (item no_session C.sessions n).root ≤ 1025
  unfolding item shape_answer
  roots_limited zero = omega arith
  roots_limited (suc n) = omega (arith, few, roots_named (1 + length C.nodes) C.sessions (rooted 1 C.nodes (roots C.sessions) q) n)

pub limited : (f : List ℕ) (h : Head) → entered f ≡ Ok h → Limited (contents_at f h)
limited f h e =
    let (laid, same, passes) = entered_fine f h e in
    let q : NoRefusal (reading f) = (names_parts f (ap (λ (v : Verdict). v.number) passes)).0 in
    let body : NoRefusal (body_answer h (contents_at f h)) = subst (λ (k : Head). NoRefusal (body_answer k (contents_at f k))) (sym same) (subst NoRefusal (by_body f q).1 q) in
    let (records, shape) = (both_quiet NoRefusal (records_answer h (contents_at f h)) (shape_answer (contents_at f h)) (λ z. z)).0 body in
    let few : length (contents_at f h).nodes ≤ 1024 = omega (arith, nodes_held f h, laid.nodes) in
    record {
      owners = λ n. omega (arith, owners_are_users h (contents_at f h) records n, users_held f h, laid.users);
      users = λ n. omega (arith, seated_are_users h (contents_at f h) records n, users_held f h, laid.users);
      roots = roots_limited (contents_at f h) few shape;
      forks = forks_limited (contents_at f h) few shape;
    }
