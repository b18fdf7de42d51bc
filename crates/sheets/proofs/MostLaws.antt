-- The most on steps in one session, a session at a time: 8 has judged that each one's nodes end where the next one's root stands.
use Prim.Native.Nat.{ℕ, zero, suc, ◌+◌, ◌-◌, ◌≤◌, ◌<◌, max}
use mathlib.Core.Path.{◌≡◌, refl, sym, ap, ap₂, ◌∙◌, subst}
use mathlib.Core.List.{List, [], ◌∷◌, ◌++◌, map}
use mathlib.Core.Bool.{Bool, true, false, cond}
use native.Mathlib.Omega.{arith}
use native.Mathlib.Numerals.{add-one}
use lib.Dec.{eqb}
use lib.ListN.{length, get_or, take, drop, length-drop, length-map}
use lib.Seq.{drop-cons, drop-drop, take-take, length-take-le}
use borrow.Author.Tests.{eqb-true, eq-eqb, ne_eqb}
use Rattle.format.specs.Answers.{refused}
use Rattle.format.specs.Header.{Laid}
use Rattle.format.specs.Contents.{contents_at, item, no_session}
use Rattle.format.specs.Stacks.{top}
use Rattle.format.specs.declared.Head.{Head}
use Rattle.format.specs.declared.Session.{Session}
use Rattle.format.specs.declared.Node.{Node}
use Rattle.format.specs.declared.Verdict.{Verdict}
use Rattle.format.proofs.AnswerLaws.{NoRefusal, both_quiet}
use Rattle.format.proofs.ContentsLaws.{next-item, from_item, none_past, nodes_held, sessions_held}
use Rattle.tables.specs.Records.{records_answer}
use Rattle.trees.specs.Ends.{following}
use Rattle.trees.specs.Shape.{bound_of, bound_below, root_fits, node_fits, depth_after, due_after, shape_from, roots, shape_answer}
use Rattle.trees.specs.declared.Due.{Due}
use Rattle.trees.specs.declared.Due.TheVariants.{Root, Child}
use Rattle.trees.proofs.FitsLaws.{fits_apart}
use Rattle.reading.specs.Reading.{body_answer, reading}
use Rattle.std.specs.Prelude.{Ok}
use Rattle.reading.proofs.ReadingLaws.{by_body}
use Rattle.checking.specs.Check.{entered}
use Rattle.checking.proofs.CheckLaws.{entered_fine, names_parts}
use Rattle.states.specs.States.{unpacked}
use Rattle.states.specs.declared.Turn.{Turn}
use Rattle.groups.specs.Groups.{on_of, ons_of, turns_in}
use Rattle.sheets.specs.Entries.{most_from, end_by}

-- a file that 1 to 10 leave has passed 8
entered_shape : (f : List ℕ) (h : Head) → entered f ≡ Ok h → NoRefusal (shape_from 1 (contents_at f h).nodes (roots (contents_at f h).sessions))
unfolding shape_answer
entered_shape f h e =
    let (laid, same, passes) = entered_fine f h e in
    let q : NoRefusal (reading f) = (names_parts f (ap (λ (v : Verdict). v.number) passes)).0 in
    let body : NoRefusal (body_answer h (contents_at f h)) = subst (λ (k : Head). NoRefusal (body_answer k (contents_at f k))) (sym same) (subst NoRefusal (by_body f q).1 q) in
    ((both_quiet NoRefusal (records_answer h (contents_at f h)) (shape_answer (contents_at f h)) (λ z. z)).0 body).1

-- the turns of the nodes from one up to another, as a table holds them
abbrev pub part : List ℕ → ℕ → ℕ → List Turn
part table at end = map unpacked (take (end - at) (drop at table))

drop-map : {A B : Type 0} (f : A → B) (j : ℕ) (l : List A) → drop j (map f l) ≡ map f (drop j l)
drop-map f zero l = refl
drop-map f (suc j) [] = refl
drop-map f (suc j) (x ∷ l) = drop-map f j l

take-map : {A B : Type 0} (f : A → B) (j : ℕ) (l : List A) → take j (map f l) ≡ map f (take j l)
take-map f zero l = refl
take-map f (suc j) [] = refl
take-map f (suc j) (x ∷ l) = ap (f x ∷◌) (take-map f j l)

drop-take : {A : Type 0} (j m : ℕ) (l : List A) → drop j (take (j + m) l) ≡ take m (drop j l)
drop-take zero m l = let z : 0 + m ≡ m = omega arith in ap (λ (x : ℕ). take x l) z
drop-take (suc j) m [] = let z : suc j + m ≡ suc (j + m) = omega arith in rw z (sym (take_none m))
  where
    take_none : {A : Type 0} (m : ℕ) → ◌≡◌ {A = List A} (take m []) []
    take_none zero = refl
    take_none (suc m) = refl
drop-take (suc j) m (x ∷ l) = let z : suc j + m ≡ suc (j + m) = omega arith in rw z (drop-take j m l)

module _ (table : List ℕ) where
  pub part-more : (at end : ℕ) → at < end → end ≤ length table → part table at end ≡ unpacked (get_or table at 0) ∷ part table (at + 1) end
  part-more at end h k =
      let c : end - at ≡ suc (end - (at + 1)) = omega arith in
      rw (drop-cons table at 0 (omega arith), c, ← add-one at)

  pub part_none : (at end : ℕ) → end ≤ at → part table at end ≡ []
  part_none at end h = let z : end - at ≡ 0 = omega arith in rw z

  part_drop : (at j end : ℕ) → at + j ≤ end → drop j (part table at end) ≡ part table (at + j) end
  part_drop at j end h =
      let c : end - at ≡ j + (end - (at + j)) = omega arith in
      drop-map unpacked j (take (end - at) (drop at table))
      ∙ ap (map unpacked) (ap (λ (x : ℕ). drop j (take x (drop at table))) c ∙ drop-take j (end - (at + j)) (drop at table) ∙ ap (take (end - (at + j))) (drop-drop j at table))

  part_take : (at j end : ℕ) → at + j ≤ end → take j (part table at end) ≡ part table at (at + j)
  part_take at j end h =
      let c : j ≡ at + j - at = omega arith in
      take-map unpacked j (take (end - at) (drop at table))
      ∙ ap (map unpacked) (take-take j (end - at) (drop at table) (omega arith) ∙ ap (λ (x : ℕ). take x (drop at table)) c)

  part_length : (at end : ℕ) → end ≤ length table → length (part table at end) ≡ end - at
  part_length at end h =
      length-map (take (end - at) (drop at table)) unpacked ∙ length-take-le (end - at) (drop at table) (omega (arith, length-drop at table))

  pub part_all : (n : ℕ) → part table 1 (1 + n) ≡ turns_in table n
  unfolding turns_in
  part_all n = let c : 1 + n - 1 ≡ n = omega arith in ap (λ (x : ℕ). map unpacked (take x (drop 1 table))) c

  -- the on steps of one node more
  pub ons_next : (at end : ℕ) → at < end → end ≤ length table → ons_of (part table at end) ≡ on_of (unpacked (get_or table at 0)) + ons_of (part table (at + 1) end)
  unfolding ons_of
  ons_next at end h k = ap ons_of (part-more at end h k)

  pub ons_none : (at end : ℕ) → end ≤ at → ons_of (part table at end) ≡ 0
  unfolding ons_of
  ons_none at end h = ap ons_of (part_none at end h)

-- a node that 8 passes, and what is judged after it
goes : (i : ℕ) (n : Node) (ns : List Node) (d : Due) (ds : List Due) → NoRefusal (shape_from i (n ∷ ns) (d ∷ ds))
    → (root_fits i d ≡ true) × NoRefusal (shape_from (suc i) ns (due_after n d ds))
unfolding shape_from
goes i n ns d ds q = go (node_fits i n d (top (following (suc i) ns))) refl q
  where
    go : (b : Bool) → node_fits i n d (top (following (suc i) ns)) ≡ b → NoRefusal (cond b (shape_from (suc i) ns (due_after n d ds)) (refused 8 i))
        → (root_fits i d ≡ true) × NoRefusal (shape_from (suc i) ns (due_after n d ds))
    go true e q = (((fits_apart i n d (top (following (suc i) ns))).0 e).0, q)
    go false e q = let no : ⊥ = omega (arith, q) in absurd no

-- sessions whose trees are due end where the nodes before them do
ends-here : (i : ℕ) (ns : List Node) (ss : List Session) → NoRefusal (shape_from i ns (roots ss)) → end_by (i + length ns) ss ≡ i
unfolding shape_from roots
ends-here i [] [] q = omega arith
ends-here i (n ∷ ns) [] q = let no : ⊥ = omega (arith, q) in absurd no
ends-here i [] (s ∷ ss) q = let no : ⊥ = omega (arith, q) in absurd no
ends-here i (n ∷ ns) (s ∷ ss) q = eqb-true s.root i (goes i n ns (Root s.root) (roots ss) q).0

at_zero : (d a b : ℕ) → d ≡ 0 → cond (eqb d 0) a b ≡ a
at_zero d a b z = rw (eq-eqb d 0 z)

past_zero : (d a b k : ℕ) → d ≡ suc k → cond (eqb d 0) a b ≡ b
past_zero d a b k e = rw (ne_eqb d 0 (λ z. let no : suc k ≡ 0 = sym e ∙ z in omega (arith, no)))

-- a session of which so many trees are due, with a sum so far, ends after some nodes
record Ended (i : ℕ) (ns : List Node) (ts : List Turn) (ss : List Session) (due sum most : ℕ) : Type 0 where
  pub size : ℕ
  pub some : 1 ≤ size
  pub within : size ≤ length ns
  pub left : NoRefusal (shape_from (i + size) (drop size ns) (roots ss))
  pub same : most_from due sum most ns ts ≡ most_from 1 0 (max most (sum + ons_of (take size ts))) (drop size ns) (drop size ts)

-- what is due after a node: that of its session, then the other sessions
after : (n : Node) (d : Due) (cs : List Due) (ss : List Session)
    → (es : List Due) × (due_after n d (cs ++ roots ss) ≡ es ++ roots ss) × (length es ≡ depth_after n.tag (suc (length cs)))
after n d cs ss = go (eqb n.tag 0) (eqb n.tag 1)
  where
    child : Due
    child = Child (bound_below n.tag (bound_of d))

    go : (a b : Bool) → (es : List Due) × (cond a (cs ++ roots ss) (cond b (child ∷ child ∷ (cs ++ roots ss)) (child ∷ (cs ++ roots ss))) ≡ es ++ roots ss)
        × (length es ≡ cond a (suc (length cs) - 1) (cond b (suc (length cs) + 1) (suc (length cs))))
    go true b = (cs, refl, omega arith)
    go false true = (child ∷ child ∷ cs, refl, omega arith)
    go false false = (child ∷ cs, refl, refl)

ended : (i : ℕ) (ns : List Node) (ts : List Turn) (d : Due) (cs : List Due) (ss : List Session) (sum most : ℕ) → length ts ≡ length ns
    → NoRefusal (shape_from i ns (d ∷ (cs ++ roots ss))) → Ended i ns ts ss (suc (length cs)) sum most
unfolding shape_from most_from ons_of
ended i [] ts d cs ss sum most l q = let no : ⊥ = omega (arith, q) in absurd no
ended i (n ∷ ns) [] d cs ss sum most l q = let no : ⊥ = omega (arith, l) in absurd no
ended i (n ∷ ns) (t ∷ ts) d cs ss sum most l q =
    let (es, e, depth) = after n d cs ss in
    let later = subst (λ (st : List Due). NoRefusal (shape_from (suc i) ns st)) e (goes i n ns d (cs ++ roots ss) q).1 in
    let short : length ts ≡ length ns = omega (arith, l) in
    go es depth later (λ x xs p. ended (suc i) ns ts x xs ss (sum + on_of t) most short p)
  where
    closed : ℕ
    closed = most_from 1 0 (max most (sum + on_of t)) ns ts

    going : ℕ
    going = most_from (depth_after n.tag (suc (length cs))) (sum + on_of t) most ns ts

    go : (es : List Due) → length es ≡ depth_after n.tag (suc (length cs)) → NoRefusal (shape_from (suc i) ns (es ++ roots ss))
        → ((x : Due) (xs : List Due) → NoRefusal (shape_from (suc i) ns (x ∷ (xs ++ roots ss))) → Ended (suc i) ns ts ss (suc (length xs)) (sum + on_of t) most)
        → Ended i (n ∷ ns) (t ∷ ts) ss (suc (length cs)) sum most
    go [] depth later ih =
        let z : sum + on_of t ≡ sum + (on_of t + 0) = omega arith in
        record {
          size = 1;
          some = omega arith;
          within = omega arith;
          left = subst (λ (j : ℕ). NoRefusal (shape_from j ns (roots ss))) (sym (add-one i)) later;
          same = at_zero (depth_after n.tag (suc (length cs))) closed going (sym depth) ∙ ap (λ (x : ℕ). most_from 1 0 (max most x) ns ts) z;
        }
    go (x ∷ es) depth later ih =
        let r = ih x es later in
        let number : suc i + r.size ≡ i + suc r.size = omega arith in
        let sums : sum + on_of t + ons_of (take r.size ts) ≡ sum + (on_of t + ons_of (take r.size ts)) = omega arith in
        record {
          size = suc r.size;
          some = omega arith;
          within = omega (arith, r.within);
          left = subst (λ (j : ℕ). NoRefusal (shape_from j (drop r.size ns) (roots ss))) number r.left;
          same = past_zero (depth_after n.tag (suc (length cs))) closed going (length es) (sym depth)
              ∙ ap (λ (k : ℕ). most_from k (sum + on_of t) most ns ts) (sym depth)
              ∙ r.same
              ∙ ap (λ (x : ℕ). most_from 1 0 (max most x) (drop r.size ns) (drop r.size ts)) sums;
        }

-- after k sessions: the next one begins at a number, and the pass from there on, with the most so far, is the whole pass
module _ (ns : List Node) (ss : List Session) (turns : List ℕ) (whole : ℕ) where
  pub record Passing (most at k : ℕ) : Type 0 where
    pub some : 1 ≤ at
    pub within : at ≤ 1 + length ns
    pub left : NoRefusal (shape_from at (drop (at - 1) ns) (roots (drop k ss)))
    pub same : most_from 1 0 most (drop (at - 1) ns) (part turns at (1 + length ns)) ≡ whole

  passing_next : (most at k end : ℕ) → length ns < length turns → 1 ≤ k → k ≤ length ss → end ≡ end_by (1 + length ns) (drop k ss) → Passing most at (k - 1)
      → Passing (max most (ons_of (part turns at end))) end k
  unfolding roots
  passing_next most at k end room pos h e p =
      let rs : List Node = drop (at - 1) ns in
      let ts : List Turn = part turns at (1 + length ns) in
      let later : List Session = drop k ss in
      let long : length ts ≡ length rs = part_length turns at (1 + length ns) (omega (arith, room)) ∙ omega (arith, p.some, length-drop (at - 1) ns) in
      let due : NoRefusal (shape_from at rs (Root (item no_session ss k).root ∷ ([] ++ roots later))) =
      subst (λ (x : List Session). NoRefusal (shape_from at rs (roots x))) (from_item no_session ss k pos h) p.left in
      let r = ended at rs ts (Root (item no_session ss k).root) [] later 0 most long due in
      let j : ℕ = r.size in
      let fits : at + j ≤ 1 + length ns = omega (arith, r.within, p.some, p.within, length-drop (at - 1) ns) in
      let rest : drop j rs ≡ drop (at + j - 1) ns =
      let c : at - 1 + j ≡ at + j - 1 = omega (arith, p.some) in drop-drop j (at - 1) ns ∙ ap (λ (x : ℕ). drop x ns) c in
      let left : NoRefusal (shape_from (at + j) (drop (at + j - 1) ns) (roots later)) = subst (λ (x : List Node). NoRefusal (shape_from (at + j) x (roots later))) rest r.left in
      let last : at + j + length (drop (at + j - 1) ns) ≡ 1 + length ns = omega (arith, fits, p.some, length-drop (at + j - 1) ns) in
      let here : at + j ≡ end = sym (e ∙ ap (λ (x : ℕ). end_by x later) (sym last) ∙ ends-here (at + j) (drop (at + j - 1) ns) later left) in
      let sums : 0 + ons_of (take j ts) ≡ ons_of (part turns at (at + j)) = let c : 0 + ons_of (take j ts) ≡ ons_of (take j ts) = omega arith in c ∙ ap ons_of (part_take turns at j (1 + length ns) fits) in
      subst (λ (x : ℕ). Passing (max most (ons_of (part turns at x))) x k) here
      (record {
        some = omega (arith, p.some);
        within = fits;
        left = left;
        same = ap₂ (λ (x : ℕ) (y : List Node). most_from 1 0 (max most x) y (part turns (at + j) (1 + length ns))) (sym sums) (sym rest)
            ∙ ap (most_from 1 0 (max most (0 + ons_of (take j ts))) (drop j rs)) (sym (part_drop turns at j (1 + length ns) fits))
            ∙ sym r.same
            ∙ p.same;
      })

  passing_last : (most at k : ℕ) → length ss ≤ k → Passing most at k → most ≡ whole
  unfolding shape_from roots most_from
  passing_last most at k h p = go (drop (at - 1) ns) (subst (λ (x : List Session). NoRefusal (shape_from at (drop (at - 1) ns) (roots x))) (none_past ss k h) p.left) p.same
    where
      go : (rs : List Node) → NoRefusal (shape_from at rs (roots [])) → most_from 1 0 most rs (part turns at (1 + length ns)) ≡ whole → most ≡ whole
      go [] q e = e
      go (n ∷ rs) q e = let no : ⊥ = omega (arith, q) in absurd no

passing_first : (ns : List Node) (ss : List Session) (turns : List ℕ) → NoRefusal (shape_from 1 ns (roots ss)) → Passing ns ss turns (most_from 1 0 0 ns (turns_in turns (length ns))) 0 1 0
passing_first ns ss turns q = record {
  some = omega arith;
  within = omega arith;
  left = q;
  same = ap (most_from 1 0 0 ns) (part_all turns (length ns));
}

-- the same for a file that 1 to 10 leave clean
abbrev pub Passed : List ℕ → Head → List ℕ → ℕ → ℕ → ℕ → Type 0
Passed f h turns most at k =
    Passing (contents_at f h).nodes (contents_at f h).sessions turns (most_from 1 0 0 (contents_at f h).nodes (turns_in turns h.count.nodes)) most at k

pub passed_first : (f : List ℕ) (h : Head) (turns : List ℕ) → entered f ≡ Ok h → Passed f h turns 0 1 0
passed_first f h turns e =
    let ns : List Node = (contents_at f h).nodes in
    let ss : List Session = (contents_at f h).sessions in
    subst (λ (n : ℕ). Passing ns ss turns (most_from 1 0 0 ns (turns_in turns n)) 0 1 0) (nodes_held f h) (passing_first ns ss turns (entered_shape f h e))

pub passed_next : (f : List ℕ) (h : Head) (turns : List ℕ) (most at k end : ℕ) → entered f ≡ Ok h → length turns ≡ 1025 → 1 ≤ k → k ≤ h.count.sessions
    → end ≡ end_by (1 + h.count.nodes) (drop k (contents_at f h).sessions) → Passed f h turns most at (k - 1)
    → Passed f h turns (max most (ons_of (part turns at end))) end k × (end ≤ 1025)
passed_next f h turns most at k end e room pos le is p =
    let ns : List Node = (contents_at f h).nodes in
    let ss : List Session = (contents_at f h).sessions in
    let laid : Laid f h = (entered_fine f h e).0 in
    let n : length ns ≡ h.count.nodes = nodes_held f h in
    let here : end ≡ end_by (1 + length ns) (drop k ss) = is ∙ ap (λ (m : ℕ). end_by (1 + m) (drop k ss)) (sym n) in
    let next : Passed f h turns (max most (ons_of (part turns at end))) end k =
    passing_next ns ss turns (most_from 1 0 0 ns (turns_in turns h.count.nodes)) most at k end (omega (arith, n, laid.nodes, room)) pos (omega (arith, sessions_held f h)) here p in
    (next, omega (arith, next.within, n, laid.nodes))

pub passed_last : (f : List ℕ) (h : Head) (turns : List ℕ) (most at k : ℕ) → h.count.sessions ≤ k → Passed f h turns most at k
    → most ≡ most_from 1 0 0 (contents_at f h).nodes (turns_in turns h.count.nodes)
passed_last f h turns most at k le p =
    let ns : List Node = (contents_at f h).nodes in
    passing_last ns (contents_at f h).sessions turns (most_from 1 0 0 ns (turns_in turns h.count.nodes)) most at k (omega (arith, sessions_held f h)) p

-- where sessions before the k-th after them end, as the code finds it
pub end_last : (ss : List Session) (k last x : ℕ) → k ≡ length ss → x ≡ last → 1 + x ≡ end_by (1 + last) (drop k ss)
end_last ss k last x h e = ap (1 +◌) e ∙ sym (ap (end_by (1 + last)) (none_past ss k (omega (arith, h))))

pub end_next : (ss : List Session) (k last x : ℕ) → k < length ss → x ≡ (item no_session ss (k + 1)).root → x ≡ end_by (1 + last) (drop k ss)
end_next ss k last x h e = e ∙ sym (ap (end_by (1 + last)) (next-item no_session ss k h))
