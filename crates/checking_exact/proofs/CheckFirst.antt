-- The check gives the first refusal in the paper's order: 1 to 8 by number and place, 21 after 6, then 9 and 10 together by node, then 11 to 13 by node.
use Prim.Native.Nat.{ℕ, ◌*◌, ◌≤◌, ◌<◌}
use mathlib.Core.Path.{◌≡◌, refl, sym, ◌∙◌, subst}
use mathlib.Core.Logic.{◌↔◌, inl, inr}
use mathlib.Core.Bool.{Bool, true, false, cond}
use mathlib.Core.List.{List}
use native.Mathlib.Omega.{arith}
use lib.Dec.{eqb, leb}
use lib.ListN.{length}
use borrow.Author.Tests.{eqb-false, leb-true, leb-false, le-leb, lt-leb}
use Rattle.format.specs.Contents.{Contents, contents_of}
use Rattle.format.specs.Answers.{fine, or_else}
use Rattle.format.specs.Header.{head_at}
use Rattle.format.specs.declared.Verdict.{Verdict}
use Rattle.format.specs.declared.Node.{Node}
use Rattle.format.proofs.AnswerLaws.{loud_first}
use Rattle.reading.specs.Reading.{reading}
use Rattle.reading.proofs.ReadingLaws.{reading_iff}
use Rattle.rules.specs.Schema.{Schema, schema_of}
use Rattle.rules.specs.Rules.{Context, wrong, barred}
use Rattle.rules.specs.Checking.{openings, names_answer, roles_answer}
use Rattle.reading_exact.specs.File.{InCount}
use Rattle.reading_exact.specs.Order.{in_turn, OfFile, Sooner, First}
use Rattle.reading_exact.specs.Refusals.{nth, misshapen, Refusable, reading_order}
use Rattle.reading_exact.proofs.FirstLaws.{first_raise, first_zero, first_clear, first-map, first_split, both_fine}
use Rattle.reading_exact.proofs.ShapeFirst.{low_tag_lem}
use Rattle.reading_exact.proofs.Turns.{turn_of, of_file_turn, turn_of_file}
use Rattle.reading_exact.proofs.FirstRefusal.{first_refusal, refusable_turn, reading_zero, reading_fine}
use Rattle.checking.specs.Check.{reading_names, checking}
use Rattle.checking_exact.specs.Faults.{Fault, Objection, of_file, of_node, check_order}
use Rattle.checking_exact.proofs.OperandKinds.{Ranged, laid_ranged}
use Rattle.checking_exact.proofs.FirstNode.{ReachedAt, Refuses, first_by_lem, all_held}
use Rattle.checking_exact.proofs.NameFaults.{wrong_fault, fault_wrong}
use Rattle.checking_exact.proofs.RoleFaults.{barred_fault, fault_barred, fault_number}

-- The stages of numbers.

abbrev stage : ℕ → ℕ
stage = check_order.stage

pub low_stage : (n : ℕ) → in_turn n ≤ 16 → stage n ≡ in_turn n
low_stage n l = rw (le-leb (in_turn n) 16 l)

pub names_stage : (n : ℕ) → 16 < in_turn n → in_turn n ≤ 20 → stage n ≡ 18
names_stage n l h = go (eqb n 21) refl
  where
    go : (b : Bool) → eqb n 21 ≡ b → stage n ≡ 18
    go true e = let z : in_turn n ≡ 13 = rw e in absurd (omega (arith, l, z))
    go false e = let z : in_turn n ≡ 2 * n = turn_of n (eqb-false n 21 e) in rw (lt-leb (in_turn n) 16 l, le-leb n 10 (omega (arith, h, z)))

pub roles_stage : (n : ℕ) → 20 < in_turn n → stage n ≡ 22
roles_stage n l = go (eqb n 21) refl
  where
    go : (b : Bool) → eqb n 21 ≡ b → stage n ≡ 22
    go true e = let z : in_turn n ≡ 13 = rw e in absurd (omega (arith, l, z))
    go false e = let z : in_turn n ≡ 2 * n = turn_of n (eqb-false n 21 e) in rw (lt-leb (in_turn n) 16 (omega arith), lt-leb n 10 (omega (arith, l, z)))

-- those of the file are over before 11
past_ten : (n m : ℕ) → in_turn n ≤ 20 → 20 < in_turn m → stage n < stage m
past_ten n m l h = go (leb (in_turn n) 16) refl
  where
    go : (b : Bool) → leb (in_turn n) 16 ≡ b → stage n < stage m
    go true e = let low = leb-true (in_turn n) 16 e in omega (arith, low, low_stage n low, roles_stage m h)
    go false e = omega (arith, names_stage n (leb-false (in_turn n) 16 e) l, roles_stage m h)

-- and of those 1 to 8 and 21 before 9
past_eight : (n m : ℕ) → in_turn n ≤ 16 → 16 < in_turn m → stage n < stage m
past_eight n m l h = go (leb (in_turn m) 20) refl
  where
    go : (b : Bool) → leb (in_turn m) 20 ≡ b → stage n < stage m
    go true e = omega (arith, l, low_stage n l, names_stage m h (leb-true (in_turn m) 20 e))
    go false e = omega (arith, l, low_stage n l, roles_stage m (leb-false (in_turn m) 20 e))

-- among 1 to 8 and 21 the order is that of reading
pub reading_sooner : (n p m q : ℕ) → in_turn n ≤ 16 → in_turn m ≤ 16 → Sooner reading_order n p m q → Sooner check_order n p m q
reading_sooner n p m q l h (inl b) = inl (omega (arith, b, low_stage n l, low_stage m h))
reading_sooner n p m q l h (inr (e, b)) = inr (low_stage n l ∙ e ∙ sym (low_stage m h), b)

-- a node's refusals come after those, each by its number
pub fault_turn : (D : Schema) (c : Context) (x : Node) (n : ℕ) → Fault D c x n → (1 ≤ n) × (16 < in_turn n) × (in_turn n ≡ 2 * n)
fault_turn D c x n h =
    let (low, high) = fault_number D c x n h in
    let z : in_turn n ≡ 2 * n = turn_of n (λ e. omega (arith, high, e)) in
    (omega (arith, low), omega (arith, low, z), z)

pub objection_number : (f : List ℕ) (n p : ℕ) → Objection f n p → 1 ≤ n
objection_number f n p (of_file r) = (refusable_turn f n p r).0
objection_number f n p (of_node c s i h) = (fault_turn _ c _ n h).0

module _ (f : List ℕ) where
  abbrev C : Contents
  C = contents_of f

  abbrev D : Schema
  D = schema_of C

  abbrev ns : List Node
  ns = C.nodes

  abbrev os : List Context
  os = openings C

  abbrev UpToTen : ℕ → ℕ → Type 0
  UpToTen n p = Objection f n p × (in_turn n ≤ 20)

  -- a file that 1 to 8 leave clean
  module _ (none : (n p : ℕ) → Refusable f n p → ⊥) where
    low : (i : ℕ) → InCount (length ns) i → (nth ns i).tag ≤ 8
    low = low_tag_lem ns _ (λ p m. none 8 p (misshapen refl m))

    R : Ranged D
    R = laid_ranged f (head_at f) ((reading_iff f).0 ((reading_fine f).1 none)).0.laid

    names : First check_order (λ n p. UpToTen n p × (16 < in_turn n)) (names_answer C)
    unfolding names_answer
    names =
        first-map check_order (Refuses D ns os (wrong D)) _ _ to from
        (first_by_lem D ns os (wrong D) check_order low (λ n p m q a b. nine (to n p a) ∙ sym (nine (to m q b))))
      where
        to : (n p : ℕ) → Refuses D ns os (wrong D) n p → UpToTen n p × (16 < in_turn n)
        to n p (c, s, e, z) =
            let (h, l) = wrong_fault D R c (nth ns p) (low p s.1) (λ w. z (sym e ∙ w)) in
            subst (λ (k : ℕ). UpToTen k p × (16 < in_turn k)) e ((of_node c s.0 s.1 h, omega (arith, l, (fault_turn D c (nth ns p) _ h).2)), (fault_turn D c (nth ns p) _ h).1)

        from : (n p : ℕ) → UpToTen n p × (16 < in_turn n) → Refuses D ns os (wrong D) n p
        from n p ((of_file r, l), h) = absurd (omega (arith, h, (refusable_turn f n p r).1))
        from n p ((of_node c s i x, l), h) = (c, (s, i), fault_wrong D R c (nth ns p) n x (omega (arith, l, (fault_turn D c (nth ns p) n x).2)), λ z. omega (arith, z, (fault_turn D c (nth ns p) n x).0))

        nine : {n p : ℕ} → UpToTen n p × (16 < in_turn n) → stage n ≡ 18
        nine {n} ((_, l), h) = names_stage n h l

    -- where 9 and 10 find nothing
    roles : ((n p : ℕ) → UpToTen n p → ⊥) → First check_order (λ n p. Objection f n p × (20 < in_turn n)) (roles_answer C)
    unfolding names_answer roles_answer
    roles named =
        first-map check_order (Refuses D ns os (barred D)) _ _ to from
        (first_by_lem D ns os (barred D) check_order low (λ n p m q a b. roles_stage n (to n p a).1 ∙ sym (roles_stage m (to m q b).1)))
      where
        clear : (p : ℕ) (c : Context) → ReachedAt D ns os p c → wrong D c (nth ns p) ≡ 0
        clear = all_held D ns os (wrong D) low (first_clear check_order (λ n p. UpToTen n p × (16 < in_turn n)) (names_answer C) names (λ n p h. named n p h.0))

        to : (n p : ℕ) → Refuses D ns os (barred D) n p → Objection f n p × (20 < in_turn n)
        to n p (c, s, e, z) =
            let (h, l) = barred_fault D R c (nth ns p) (low p s.1) (clear p c s) (λ w. z (sym e ∙ w)) in
            subst (λ (k : ℕ). Objection f k p × (20 < in_turn k)) e (of_node c s.0 s.1 h, omega (arith, l, (fault_turn D c (nth ns p) _ h).2))

        from : (n p : ℕ) → Objection f n p × (20 < in_turn n) → Refuses D ns os (barred D) n p
        from n p (of_file r, h) = absurd (omega (arith, h, (refusable_turn f n p r).1))
        from n p (of_node c s i x, h) = (c, (s, i), fault_barred D R c (nth ns p) n x (omega (arith, h, (fault_turn D c (nth ns p) n x).2)), λ z. omega (arith, z, (fault_turn D c (nth ns p) n x).0))

  -- 1 to 8
  eight : (n p : ℕ) → Refusable f n p → UpToTen n p × (in_turn n ≤ 16)
  eight n p r = ((of_file r, omega (arith, (refusable_turn f n p r).1)), (refusable_turn f n p r).1)

  file : First check_order (λ n p. UpToTen n p × (in_turn n ≤ 16)) (reading f)
  file =
      first-map check_order (Refusable f) _ (reading f) eight from
      (first_raise reading_order check_order (Refusable f) (reading f)
      (λ n p m q r s. reading_sooner n p m q (refusable_turn f n p r).1 (refusable_turn f m q s).1) (first_refusal f))
    where
      from : (n p : ℕ) → UpToTen n p × (in_turn n ≤ 16) → Refusable f n p
      from n p ((of_file r, _), l) = r
      from n p ((of_node c s i h, _), l) = absurd (omega (arith, l, (fault_turn D c (nth ns p) n h).1))

  names_by_turn : First check_order UpToTen (reading_names f)
  unfolding reading_names
  names_by_turn =
      first_split check_order UpToTen 16 (reading f) (names_answer C) (λ n p h. objection_number f n p h.0) past_eight file
      (λ none. names (λ n p r. none n p (eight n p r)))

  -- 1 to 10, 21 among them
  pub names_first : First check_order (λ n p. Objection f n p × OfFile n) (reading_names f)
  names_first =
      first-map check_order UpToTen _ (reading_names f) (λ n p (o, l). (o, turn_of_file n (objection_number f n p o) l)) (λ n p (o, l). (o, (of_file_turn n l).1)) names_by_turn

  in-turn : checking f ≡ or_else (reading_names f) (roles_answer C)
  unfolding checking reading_names
  in-turn = go (eqb (reading f).number 0) refl
    where
      go : (b : Bool) → eqb (reading f).number 0 ≡ b → cond b (or_else (names_answer C) (roles_answer C)) (reading f) ≡ or_else (cond b (names_answer C) (reading f)) (roles_answer C)
      go true e = refl
      go false e = sym (loud_first (reading f) (roles_answer C) (eqb-false (reading f).number 0 e))

  -- 1 to 13
  pub check_first : First check_order (Objection f) (checking f)
  check_first =
      subst (First check_order (Objection f)) (sym in-turn)
      (first_split check_order (Objection f) 20 (reading_names f) (roles_answer C) (objection_number f) past_ten names_by_turn
      (λ none. roles (λ n p r. none n p (eight n p r).0) none))

  -- An answer of number 0 is fine, and so are the stages that it is made of.

  pub names_zero : (reading_names f).number ≡ 0 → reading_names f ≡ fine
  names_zero z = (first_zero check_order UpToTen (reading_names f) (λ n p h. objection_number f n p h.0) names_by_turn z).0

  pub names_fine : (reading_names f ≡ fine) ↔ ((reading f ≡ fine) × (names_answer C ≡ fine))
  unfolding reading_names
  names_fine = both_fine (reading f) (names_answer C) (λ z. (reading_zero f z).0)

  pub check_fine : (checking f ≡ fine) ↔ ((reading_names f ≡ fine) × (roles_answer C ≡ fine))
  check_fine =
      subst (λ (v : Verdict). (v ≡ fine) ↔ ((reading_names f ≡ fine) × (roles_answer C ≡ fine))) (sym in-turn)
      (both_fine (reading_names f) (roles_answer C) names_zero)
