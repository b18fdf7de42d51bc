-- 15 is the first send or receive, in its context, that no role of the user permits.
use Prim.Native.Nat.{ℕ, suc, ◌-◌, ◌≤◌, ◌<◌}
use mathlib.Core.Path.{◌≡◌, refl, sym, ap, ◌∙◌, subst}
use mathlib.Core.Logic.{◌↔◌, ◌⊎◌, inl, inr}
use mathlib.Core.Bool.{Bool, true, false, cond, not, ◌&&◌, and-false}
use mathlib.Core.List.{List, [], ◌∷◌, map}
use native.Mathlib.Omega.{arith}
use lib.Bits.{bit_and}
use lib.Dec.{eqb}
use lib.ListN.{length, get_or, drop, length-map}
use borrow.Author.Tests.{eqb-true, eqb-false, eq-eqb}
use Rattle.format.specs.Contents.{Contents, contents_of}
use Rattle.format.specs.Answers.{fine, refused}
use Rattle.format.specs.Header.{head_at}
use Rattle.format.specs.declared.Node.{Node}
use Rattle.format.specs.declared.Verdict.{Verdict}
use Rattle.tables.specs.Records.{records_answer}
use Rattle.trees.specs.Shape.{shape_answer}
use Rattle.reading.proofs.ReadingLaws.{reading_iff}
use Rattle.rules.specs.declared.Way.{Way}
use Rattle.rules.specs.declared.Way.TheVariants.{Sends, Receives}
use Rattle.rules.specs.Schema.{Schema, schema_of, permitting, Permitted}
use Rattle.rules.specs.Names.{kind_of}
use Rattle.rules.specs.Rules.{Context, names_fit, able, wrong, waiting_after}
use Rattle.rules.specs.Checking.{reached, openings, reached_in, first_by, rightly, names_answer}
use Rattle.rules.specs.Candidates.{candidates, candidates_in}
use Rattle.rules.proofs.PassLaws.{all_right}
use Rattle.checking.specs.Check.{reading_names}
use Rattle.states.specs.States.{needs, labelled}
use Rattle.placing.specs.Placing.{labels_in, unserved_from}
use Rattle.placing.proofs.CandidateLaws.{candidates_length}
use Rattle.reading_exact.specs.Tree.{words}
use Rattle.reading_exact.specs.File.{InCount}
use Rattle.reading_exact.specs.Order.{Order, First}
use Rattle.reading_exact.specs.Refusals.{nth, misshapen}
use Rattle.reading_exact.proofs.FirstLaws.{number_of, both_zero, first-map}
use Rattle.reading_exact.proofs.TagTests.{one_of}
use Rattle.reading_exact.proofs.ReachedStack.{reached_single, TopReached as Waiting, along}
use Rattle.reading_exact.proofs.FirstRefusal.{reading_fine}
use Rattle.reading_exact.proofs.ShapeFirst.{low_tag_lem}
use Rattle.checking_exact.specs.Typing.{HasKind}
use Rattle.checking_exact.specs.Faults.{InContext}
use Rattle.checking_exact.proofs.ContextStack.{contexts}
use Rattle.checking_exact.proofs.OperandKinds.{Ranged, laid_ranged, kind_at_lem, named_kind}
use Rattle.checking_exact.proofs.NameFaults.{by_tag, fails_iff, both_kinds, names_fit_lem}
use Rattle.rules.proofs.PermittedRoles.{able_iff}
use Rattle.checking_exact.proofs.FirstNode.{ReachedAt, Refuses, first_by_lem, all_held}
use Rattle.checking_exact.proofs.CheckFirst.{names_fine}
use Rattle.placing_exact.specs.Causes.{Unserved, no_receiver, no_sender}

-- 15 as a rule at a node in its context
unfoldable lacking : Schema → Context → Node → ℕ
lacking D c n = cond (needs n.tag && eqb (candidates D c n) 0) 15 0

-- the nodes that placing sees are those reached
unserved_by : (D : Schema) (i : ℕ) (ns : List Node) (st : List Context)
    → unserved_from i (labelled ns (map (λ (r : Context × Node). candidates D r.0 r.1) (reached D ns st))) ≡ first_by (lacking D) i (reached D ns st)
unfolding reached first_by labelled unserved_from lacking
unserved_by D i [] st = refl
unserved_by D i (n ∷ ns) [] = refl
unserved_by D i (n ∷ ns) (c ∷ st) = go (needs n.tag && eqb (candidates D c n) 0) (unserved_by D (suc i) ns (waiting_after D c n st))
  where
    go : {v w : Verdict} (b : Bool) → v ≡ w → cond b (refused 15 i) v ≡ cond (eqb (cond b 15 0) 0) w (refused (cond b 15 0) i)
    go true e = refl
    go false e = e

module _ (D : Schema) (R : Ranged D) (c : Context) where
  -- no role of the user permits
  none_permits : (w : Way) (k : ℕ) → eqb (bit_and (D.assigned c.user) (permitting D w k)) 0 ≡ true → Permitted D (D.assigned c.user) w k → ⊥
  unfolding able
  none_permits w k e = (fails_iff (able D (D.assigned c.user) w k) (Permitted D (D.assigned c.user) w k) (able_iff D (D.assigned c.user) w k)).0 (ap not e)

  permits_none : (w : Way) (x k : ℕ) → HasKind D c.vars x k → (Permitted D (D.assigned c.user) w k → ⊥)
      → eqb (bit_and (D.assigned c.user) (permitting D w (kind_of D c.vars x))) 0 ≡ true
  unfolding able
  permits_none w x k h never = go (eqb (bit_and (D.assigned c.user) (permitting D w (kind_of D c.vars x))) 0) barred
    where
      barred : able D (D.assigned c.user) w (kind_of D c.vars x) ≡ false
      barred =
          ap (able D (D.assigned c.user) w) (kind_at_lem D R c.vars x k h)
          ∙ (fails_iff (able D (D.assigned c.user) w k) (Permitted D (D.assigned c.user) w k) (able_iff D (D.assigned c.user) w k)).1 never

      go : (b : Bool) → not b ≡ false → b ≡ true
      go true e = refl
      go false e = sym e

  -- what the rule says at a node whose names fit
  abbrev Lack : ℕ → Way → Type 0
  Lack x w = HasKind D c.vars x (kind_of D c.vars x) × (Permitted D (D.assigned c.user) w (kind_of D c.vars x) → ⊥)

  abbrev Told : ℕ → ℕ → ℕ → Type 0
  Told t a b =
      names_fit D c.vars (words t a b) ≡ true → (lacking D c (words t a b) ≡ 0 → ⊥)
      → (lacking D c (words t a b) ≡ 15) × (((t ≡ 5) × Lack a Receives) ⊎ ((t ≡ 6) × Lack a Sends))

  lacking_by : (b : Bool) (P : Type 0) → (◌≡◌ {A = ℕ} (cond b 15 0) 0 → ⊥) → (b ≡ true → P) → (◌≡◌ {A = ℕ} (cond b 15 0) 15) × P
  lacking_by true P h g = (refl, g refl)
  lacking_by false P h g = absurd (h refl)

  told : (t a b : ℕ) → t ≤ 8 → Told t a b
  unfolding names_fit lacking candidates
  told t a b =
      by_tag (λ t. Told t a b)
      (λ n h. absurd (h refl))
      (λ n h. absurd (h refl))
      (λ n h. absurd (h refl))
      (λ n h. absurd (h refl))
      (λ n h. absurd (h refl))
      (λ n h. lacking_by (eqb (bit_and (D.assigned c.user) (permitting D Receives (kind_of D c.vars a))) 0) _ h
      (λ e. inl (refl, (named_kind D R c.vars a n, none_permits Receives (kind_of D c.vars a) e))))
      (λ n h. lacking_by (eqb (bit_and (D.assigned c.user) (permitting D Sends (kind_of D c.vars a))) 0) _ h
      (λ e. inr (refl, ((both_kinds D R c.vars a b n).0, none_permits Sends (kind_of D c.vars a) e))))
      (λ n h. absurd (h refl))
      (λ n h. absurd (h refl))
      t

  -- and a node that no role of the user permits is refused by it
  lacks_receiver : (t a b k : ℕ) → t ≡ 5 → HasKind D c.vars a k → (Permitted D (D.assigned c.user) Receives k → ⊥) → lacking D c (words t a b) ≡ 15
  unfolding lacking candidates
  lacks_receiver t a b k e h never = let z = permits_none Receives a k h never in rw (e, z)

  lacks_sender : (t a b k : ℕ) → t ≡ 6 → HasKind D c.vars a k → (Permitted D (D.assigned c.user) Sends k → ⊥) → lacking D c (words t a b) ≡ 15
  unfolding lacking candidates
  lacks_sender t a b k e h never = let z = permits_none Sends a k h never in rw (e, z)

-- a file that 1 to 10 let through
module _ (f : List ℕ) (clean : reading_names f ≡ fine) where
  abbrev C : Contents
  C = contents_of f

  abbrev D : Schema
  D = schema_of C

  abbrev ns : List Node
  ns = C.nodes

  abbrev os : List Context
  os = openings C

  low : (i : ℕ) → InCount (length ns) i → (nth ns i).tag ≤ 8
  low = low_tag_lem ns _ (λ p m. (reading_fine f).0 ((names_fine f).0 clean).0 8 p (misshapen refl m))

  R : Ranged D
  R = laid_ranged f (head_at f) ((reading_iff f).0 ((names_fine f).0 clean).0).0.laid

  right : first_by (wrong D) 1 (reached_in C) ≡ fine
  unfolding names_answer
  right = ((names_fine f).0 clean).1

  to : (n p : ℕ) → Refuses D ns os (lacking D) n p → (n ≡ 15) × Unserved C p
  to n p (c, s, e, z) =
      let x : Node = nth ns p in
      let fit = names_fit_lem D R c x (all_held D ns os (wrong D) low right p c s) in
      let (q, h) = told D R c x.tag x.f1 x.f2 (low p s.1) fit (λ w. z (sym e ∙ w)) in
      (sym e ∙ q, go h)
    where
      go : (((nth ns p).tag ≡ 5) × Lack D R c (nth ns p).f1 Receives) ⊎ (((nth ns p).tag ≡ 6) × Lack D R c (nth ns p).f1 Sends) → Unserved C p
      go (inl (t, (k, never))) = no_receiver c _ s.0 s.1 t k never
      go (inr (t, (k, never))) = no_sender c _ s.0 s.1 t k never

  from : (n p : ℕ) → (n ≡ 15) × Unserved C p → Refuses D ns os (lacking D) n p
  from n p (e, no_receiver c k s i t h never) =
      (c, (s, i), lacks_receiver D R c (nth ns p).tag (nth ns p).f1 (nth ns p).f2 k t h never ∙ sym e, λ z. omega (arith, e, z))
  from n p (e, no_sender c k s i t h never) =
      (c, (s, i), lacks_sender D R c (nth ns p).tag (nth ns p).f1 (nth ns p).f2 k t h never ∙ sym e, λ z. omega (arith, e, z))

  read : unserved_from 1 (labels_in C) ≡ first_by (lacking D) 1 (reached_in C)
  unfolding candidates_in
  read =
      ap (λ (rs : List (Context × Node)). unserved_from 1 (labelled ns (map (λ (r : Context × Node). candidates D r.0 r.1) rs))) (all_right D 1 (reached_in C) (number_of right))
      ∙ unserved_by D 1 ns os

  pub unserved_first : (o : Order) → First o (λ n p. (n ≡ 15) × Unserved (contents_of f) p) (unserved_from 1 (labels_in (contents_of f)))
  unserved_first o =
      subst (First o (λ n p. (n ≡ 15) × Unserved C p)) (sym read)
      (first-map o (Refuses D ns os (lacking D)) _ _ to from
      (first_by_lem D ns os (lacking D) o low (λ n p m q a b. ap o.stage ((to n p a).0 ∙ sym (to m q b).0))))

-- The same by the table of candidates.

got_first : (x : ℕ) (xs : List ℕ) (j : ℕ) → j ≡ 0 → get_or (x ∷ xs) j 0 ≡ x
got_first x xs j e = ap (λ (i : ℕ). get_or (x ∷ xs) i 0) e

got_next : (x : ℕ) (xs : List ℕ) (j k : ℕ) → j ≡ suc k → get_or (x ∷ xs) j 0 ≡ get_or xs k 0
got_next x xs j k e = ap (λ (i : ℕ). get_or (x ∷ xs) i 0) e

module _ (D : Schema) (ns : List Node) (os : List Context) (low : (i : ℕ) → InCount (length ns) i → (nth ns i).tag ≤ 8) where
  abbrev given : List (Context × Node) → List ℕ
  given rs = map (λ (r : Context × Node). candidates D r.0 r.1) rs

  -- from node i on each has its candidates at its number
  abbrev Held : ℕ → List Node → List Context → Type 0
  Held i l st =
      (p : ℕ) → i ≤ p → p - i < length (reached D l st)
      → (c : Context) × InContext D ns os p c × (get_or (given (reached D l st)) (p - i) 0 ≡ candidates D c (nth ns p))

  held_here : (i : ℕ) (c : Context) (l : List Node) (st : List Context) → InCount (length ns) i → drop i ns ≡ l → Waiting (contexts D os) ns i (c ∷ st)
      → ((nth ns i).tag ≤ 8 → Held (suc i) l (waiting_after D c (nth ns i) st)) → Held i (nth ns i ∷ l) (c ∷ st)
  unfolding reached
  held_here i c l st m left (s, h) more p b k = go (eqb p i) refl
    where
      all : List ℕ
      all = given (reached D l (waiting_after D c (nth ns i) st))

      go : (t : Bool) → eqb p i ≡ t → (d : Context) × InContext D ns os p d × (get_or (candidates D c (nth ns i) ∷ all) (p - i) 0 ≡ candidates D d (nth ns p))
      go true e =
          let z : p ≡ i = eqb-true p i e in
          (c, subst (λ (q : ℕ). InContext D ns os q c) (sym z) h.0, got_first _ all (p - i) (omega (arith, z)) ∙ ap (λ (q : ℕ). candidates D c (nth ns q)) (sym z))
      go false e =
          let z = eqb-false p i e in
          let next : p - i ≡ suc (p - suc i) = omega (arith, b, z) in
          after next (more (low i m) p (omega (arith, b, z)) (omega (arith, k, next)))
        where
          after : p - i ≡ suc (p - suc i) → (d : Context) × InContext D ns os p d × (get_or all (p - suc i) 0 ≡ candidates D d (nth ns p))
              → (d : Context) × InContext D ns os p d × (get_or (candidates D c (nth ns i) ∷ all) (p - i) 0 ≡ candidates D d (nth ns p))
          after next (d, r, q) = (d, r, got_next _ all (p - i) (p - suc i) next ∙ q)

  held : Held 1 ns os
  unfolding reached
  held =
      along (contexts D os) ns Held (λ i st e s p b k. let never : ⊥ = omega (arith, k) in absurd never)
      (λ i n l m s p b k. let never : ⊥ = omega (arith, k) in absurd never) held_here

module _ (f : List ℕ) (clean : reading_names f ≡ fine) where
  -- every node has its candidates
  long : length (candidates_in (contents_of f)) ≡ length (contents_of f).nodes
  long =
      let (r, n) = (names_fine f).0 clean in
      let body = number_of ((reading_iff f).0 r).1 in
      candidates_length (contents_of f) ((both_zero (records_answer (head_at f) (contents_of f)) (shape_answer (contents_of f))).0 body).1 (number_of n)

  reached_held : (p : ℕ) → InCount (length (contents_of f).nodes) p
      → (c : Context) × ReachedAt (schema_of (contents_of f)) (contents_of f).nodes (openings (contents_of f)) p c
      × (get_or (candidates_in (contents_of f)) (p - 1) 0 ≡ candidates (schema_of (contents_of f)) c (nth (contents_of f).nodes p))
  unfolding candidates_in
  reached_held p i =
      let C : Contents = contents_of f in
      let D : Schema = schema_of C in
      let whole : rightly D (reached_in C) ≡ reached_in C = all_right D 1 (reached_in C) (number_of (right f clean)) in
      let roles : candidates_in C ≡ given D C.nodes (openings C) (low f clean) (reached_in C) = ap (given D C.nodes (openings C) (low f clean)) whole in
      let short : length (candidates_in C) ≡ length (reached_in C) = ap length roles ∙ length-map (reached_in C) (λ (r : Context × Node). candidates D r.0 r.1) in
      let (c, s, q) = held D C.nodes (openings C) (low f clean) p i.0 (omega (arith, i, long, short)) in
      (c, (s, i), ap (λ (rs : List ℕ). get_or rs (p - 1) 0) roles ∙ q)

  -- a send or receive without a role is one that has none in the table
  pub unserved_table : (p : ℕ)
      → Unserved (contents_of f) p
      ↔ (InCount (length (contents_of f).nodes) p × (((nth (contents_of f).nodes p).tag ≡ 5) ⊎ ((nth (contents_of f).nodes p).tag ≡ 6)) × (get_or (candidates_in (contents_of f)) (p - 1) 0 ≡ 0))
  unfolding lacking
  unserved_table p = (λ u. table u (from f clean 15 p (refl, u)), λ (i, t, z). words_of i t z (reached_held p i))
    where
      x : Node
      x = nth (contents_of f).nodes p

      D : Schema
      D = schema_of (contents_of f)

      none_given : (c : Context) (b : Bool) → eqb (candidates D c x) 0 ≡ b → lacking D c x ≡ 15 → candidates D c x ≡ 0
      none_given c true e h = eqb-true (candidates D c x) 0 e
      none_given c false e h = let never : ◌≡◌ {A = ℕ} 0 15 = sym (rw (e, and-false)) ∙ h in absurd (omega (arith, never))

      step_tag : Unserved (contents_of f) p → (x.tag ≡ 5) ⊎ (x.tag ≡ 6)
      step_tag (no_receiver c k s i t h never) = inl t
      step_tag (no_sender c k s i t h never) = inr t

      table : Unserved (contents_of f) p → Refuses D (contents_of f).nodes (openings (contents_of f)) (lacking D) 15 p
          → InCount (length (contents_of f).nodes) p × ((x.tag ≡ 5) ⊎ (x.tag ≡ 6)) × (get_or (candidates_in (contents_of f)) (p - 1) 0 ≡ 0)
      table u (c, (s, i), e, _) =
          let (d, (r, _), q) = reached_held p i in
          let same : d ≡ c = reached_single (contexts D (openings (contents_of f))) (contents_of f).nodes r s in
          (i, step_tag u, q ∙ ap (λ (y : Context). candidates D y x) same ∙ none_given c (eqb (candidates D c x) 0) refl e)

      words_of : InCount (length (contents_of f).nodes) p → (x.tag ≡ 5) ⊎ (x.tag ≡ 6) → get_or (candidates_in (contents_of f)) (p - 1) 0 ≡ 0
          → (c : Context) × ReachedAt D (contents_of f).nodes (openings (contents_of f)) p c × (get_or (candidates_in (contents_of f)) (p - 1) 0 ≡ candidates D c x) → Unserved (contents_of f) p
      words_of i t z (c, s, q) =
          let none : eqb (candidates D c x) 0 ≡ true = eq-eqb (candidates D c x) 0 (sym q ∙ z) in
          let need : needs x.tag ≡ true = (one_of x.tag 5 6).1 t in
          let lacks : lacking D c x ≡ 15 = rw (need, none) in
          (to f clean 15 p (c, s, lacks, λ e. omega (arith, e))).1
