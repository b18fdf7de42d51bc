-- The check for a minute gives the first refusal in order: 22, 1 to 8 by number and place, 23 by row, 9 and 10 together by node, then 11 to 13 and 24 by node.
use Prim.Native.Nat.{ℕ, ◌+◌, ◌*◌, ◌≤◌, ◌<◌}
use mathlib.Core.Path.{◌≡◌, refl, sym, ap, ◌∙◌, subst}
use mathlib.Core.Logic.{◌↔◌, ◌⊎◌, inl, inr, ◌≢◌}
use mathlib.Core.Bool.{Bool, true, false, cond, not, ◌&&◌, false≢true, and-eq-true_iff, not-eq-not}
use mathlib.Core.List.{List}
use native.Mathlib.Omega.{arith}
use lib.Dec.{eqb, leb}
use lib.ListN.{length}
use borrow.Author.Tests.{eqb-true, eq-eqb, leb-true, leb-false}
use Rattle.masks.specs.Mask.{has}
use Rattle.masks.proofs.Laws.{has_pos}
use Rattle.format.specs.Contents.{Contents, item, no_node, contents_of}
use Rattle.format.specs.Answers.{fine, refused, or_else, first_of}
use Rattle.format.specs.Header.{head_at, Laid}
use Rattle.format.specs.declared.Verdict.{Verdict}
use Rattle.format.specs.declared.Node.{Node}
use Rattle.format.proofs.AnswerLaws.{quiet_first}
use Rattle.format.proofs.ContentsLaws.{roles_held}
use Rattle.reading.specs.Reading.{reading}
use Rattle.reading.proofs.ReadingLaws.{reading_iff}
use Rattle.rules.specs.Schema.{Schema, schema_of}
use Rattle.rules.specs.Rules.{Context}
use Rattle.rules.specs.Checking.{openings, names_answer, roles_answer}
use Rattle.checking.specs.Check.{reading_names, checking}
use Rattle.hours.specs.Hours.{rows, row_at, table_answer, TableFits, rows_answer, shut, Open}
use Rattle.hours.proofs.ShutLaws.{shut_exactly, open_exactly, shut_most}
use Rattle.checking_at.specs.CheckAt.{opens_shut, shut_answer, roles_answer_at, reading_at, reading_names_at, checking_at}
use Rattle.reading_exact.specs.File.{InCount}
use Rattle.reading_exact.specs.Order.{Order, in_turn, OfFile, Sooner, First}
use Rattle.reading_exact.specs.Refusals.{nth, Refusable, reading_order}
use Rattle.reading_exact.proofs.FirstLaws.{Both, number_of, first_raise, first_zero, first_clear, first-map, first_or, Unfit, first-of}
use Rattle.reading_exact.proofs.FirstRefusal.{first_refusal, refusable_turn, reading_zero, reading_fine}
use Rattle.reading_exact.proofs.Turns.{turn_of, turn_some, of_file_turn}
use Rattle.checking_exact.specs.Faults.{InContext, Fault, nameless, mismatched, not_assigned, not_active, cannot_receive, cannot_send, Objection, of_file, of_node, check_order}
use Rattle.checking_exact.proofs.RoleFaults.{fault_number}
use Rattle.checking_exact.proofs.CheckFirst.{low_stage, fault_turn, names_stage, roles_stage, reading_sooner, objection_number, names_first, check_first}
use Rattle.hours_exact.specs.OpenFile.{RowsFit}
use Rattle.hours_exact.specs.HourFaults.{ObjectionAt, of_table, of_row, without_hours, on_shut, with_hours}
use Rattle.hours_exact.proofs.HourFirst.{TableCause, table_first, RowCause, rows_first, rows_fine}
use Rattle.hours_exact.proofs.HourOrder.{Other, stage_other, stage_table, stage_row, first_hours, sooner_first}

abbrev None : (ℕ → ℕ → Type 0) → Type 0
None R = (n p : ℕ) → R n p → ⊥

-- small numbers, and 24, are neither 22 nor 23
pub other_low : (n : ℕ) → n ≤ 17 → Other n
other_low n l = (λ e. omega (arith, l, e), λ e. omega (arith, l, e))

other_turn : (n : ℕ) → in_turn n ≤ 16 → Other n
other_turn n l = (λ e. let z : in_turn n ≡ 44 = ap in_turn e in omega (arith, l, z), λ e. let z : in_turn n ≡ 46 = ap in_turn e in omega (arith, l, z))

module _ (f : List ℕ) where
  abbrev C : Contents
  C = contents_of f

  abbrev D : Schema
  D = schema_of C

  abbrev ns : List Node
  ns = C.nodes

  -- what 9 to 13 object to at a node
  abbrev AtNode : ℕ → ℕ → Type 0
  AtNode n p = (c : Context) × InContext D ns (openings C) p c × InCount (length ns) p × Fault D c (nth ns p) n

  node_number : (n p : ℕ) → AtNode n p → (9 ≤ n) × (n ≤ 13)
  node_number n p (c, s, i, h) = fault_number D c (nth ns p) n h

  node_turn : (n p : ℕ) → AtNode n p → in_turn n ≡ 2 * n
  node_turn n p (c, s, i, h) = (fault_turn D c (nth ns p) n h).2

  -- 1 to 8
  pub file_first : First check_order (Refusable f) (reading f)
  file_first =
      first_raise reading_order check_order (Refusable f) (reading f)
      (λ n p m q r s. reading_sooner n p m q (refusable_turn f n p r).1 (refusable_turn f m q s).1) (first_refusal f)

  -- 9 and 10, where 1 to 8 find nothing
  abbrev pub NameFault : ℕ → ℕ → Type 0
  NameFault n p = AtNode n p × (n ≤ 10)

  pub name_objection : (n p : ℕ) → NameFault n p → Objection f n p × OfFile n
  name_objection n p ((c, s, i, h), l) = (of_node c s i h, inl ((fault_turn D c (nth ns p) n h).0, l))

  pub nodes_first : None (Refusable f) → First check_order NameFault (names_answer C)
  unfolding reading_names
  nodes_first none =
      let quiet : reading_names f ≡ names_answer C = quiet_first (reading f) (names_answer C) (number_of ((reading_fine f).1 none)) in
      first-map check_order (λ n p. Objection f n p × OfFile n) NameFault (names_answer C) to name_objection (subst (First check_order (λ n p. Objection f n p × OfFile n)) quiet (names_first f))
    where
      to : (n p : ℕ) → Objection f n p × OfFile n → NameFault n p
      to n p (of_file r, l) = absurd (none n p r)
      to n p (of_node c s i h, l) = ((c, s, i, h), omega (arith, (of_file_turn n l).1, (fault_turn D c (nth ns p) n h).2))

  -- 11 to 13, where 1 to 10 find nothing
  abbrev RoleFault : ℕ → ℕ → Type 0
  RoleFault n p = AtNode n p × (10 < n)

  roles_first : None (Refusable f) → None NameFault → First check_order RoleFault (roles_answer C)
  unfolding checking
  roles_first none named =
      let read = quiet_first (reading f) (or_else (names_answer C) (roles_answer C)) (number_of ((reading_fine f).1 none)) in
      let clear : names_answer C ≡ fine = first_clear check_order NameFault (names_answer C) (nodes_first none) named in
      let quiet : checking f ≡ roles_answer C = read ∙ quiet_first (names_answer C) (roles_answer C) (number_of clear) in
      first-map check_order (Objection f) RoleFault (roles_answer C) (λ n p h. to n p h (leb n 10) refl) (λ n p ((c, s, i, h), l). of_node c s i h)
      (subst (First check_order (Objection f)) quiet (check_first f))
    where
      to : (n p : ℕ) → Objection f n p → (b : Bool) → leb n 10 ≡ b → RoleFault n p
      to n p (of_file r) b e = absurd (none n p r)
      to n p (of_node c s i h) true e = absurd (named n p ((c, s, i, h), leb-true n 10 e))
      to n p (of_node c s i h) false e = ((c, s, i, h), leb-false n 10 e)

  -- at most 16 roles
  few_roles : None (Refusable f) → length C.roles ≤ 16
  few_roles none = omega (arith, roles_held f (head_at f), ((reading_iff f).0 ((reading_fine f).1 none)).0.laid.roles)

  module _ (t : List ℕ) (m : ℕ) where
    abbrev o : Order
    o = with_hours check_order

    abbrev count : ℕ
    count = length C.roles

    -- 24
    abbrev ShutFault : ℕ → ℕ → Type 0
    ShutFault n p = (n ≡ 24) × (InCount (length ns) p × ((nth ns p).tag ≡ 7) × InCount count (nth ns p).f1 × (Open t m (nth ns p).f1 → ⊥))

    abbrev fits : ℕ → Bool
    fits n = not (opens_shut (shut t m) (item no_node ns n))

    pub shut_first : None (Refusable f) → RowsFit count t → First o ShutFault (shut_answer (shut t m) C)
    unfolding shut_answer
    shut_first none rowed =
        first-map o (Unfit fits 24 (λ n. n) 1 (length ns)) ShutFault _ to from (first-of o fits 24 (λ n. n) (λ x y l. l) 1 (length ns))
      where
        -- a shut role is one of the file's, and closed
        closed : (r : ℕ) → has (shut t m) r ≡ true → InCount count r × (Open t m r → ⊥)
        closed r h =
            let pos = has_pos (shut t m) r h in
            let most = shut_most t m r h in
            let (i, l, e) = ((shut_exactly t m r pos most).0 h).0 in
            let (_, le, _, _) = rowed i l in
            ((pos, omega (arith, le, e)), λ open'. false≢true (sym ((open_exactly t m r pos most).1 open') ∙ h))

        turned : (b : Bool) → not b ≡ false → b ≡ true
        turned true h = refl
        turned false h = sym h

        to : (n p : ℕ) → Unfit fits 24 (λ n. n) 1 (length ns) n p → ShutFault n p
        to n p (a, x, l, k, h, z) =
            let (tag, in-mask) = (and-eq-true_iff (eqb (nth ns x).tag 7) (has (shut t m) (nth ns x).f1)).0 (turned (opens_shut (shut t m) (nth ns x)) h) in
            let (c, never) = closed (nth ns x).f1 in-mask in
            (a, subst (λ (q : ℕ). InCount (length ns) q × ((nth ns q).tag ≡ 7) × InCount count (nth ns q).f1 × (Open t m (nth ns q).f1 → ⊥)) (sym z) ((l, omega (arith, k)), eqb-true (nth ns x).tag 7 tag, c, never))

        from : (n p : ℕ) → ShutFault n p → Unfit fits 24 (λ n. n) 1 (length ns) n p
        from n p (a, ((l, k), tag, c, never)) =
            let r : ℕ = (nth ns p).f1 in
            let in-mask : has (shut t m) r ≡ true = sure r c never (has (shut t m) r) refl in
            (a, p, l, omega (arith, k), ap not ((and-eq-true_iff (eqb (nth ns p).tag 7) (has (shut t m) r)).1 (eq-eqb (nth ns p).tag 7 tag, in-mask)), refl)
          where
            sure : (r : ℕ) → InCount count r → (Open t m r → ⊥) → (b : Bool) → has (shut t m) r ≡ b → has (shut t m) r ≡ true
            sure r c never true e = e
            sure r c never false e = absurd (never ((open_exactly t m r c.0 (omega (arith, c.1, few_roles none))).0 e))

    -- the stages: 22, 1 to 8, 23, 9 and 10, then 11 to 13 and 24
    stage_file : (n p : ℕ) → Refusable f n p → (2 ≤ o.stage n) × (o.stage n ≤ 32)
    stage_file n p r =
        let (some, few) = refusable_turn f n p r in
        let e = stage_other check_order n (other_turn n few) in
        (omega (arith, e, low_stage n few, turn_some n some), omega (arith, e, low_stage n few, few))

    stage_of_row : (n p : ℕ) → RowCause count t n p → o.stage n ≡ 33
    stage_of_row n p h = stage_row check_order n h.0

    stage_name : (n p : ℕ) → NameFault n p → o.stage n ≡ 36
    stage_name n p (h, l) =
        let z = node_turn n p h in
        omega (arith, stage_other check_order n (other_low n (omega (arith, l))), names_stage n (omega (arith, z, node_number n p h)) (omega (arith, z, l)))

    stage_role : (n p : ℕ) → RoleFault n p → o.stage n ≡ 44
    stage_role n p (h, l) = omega (arith, stage_other check_order n (other_low n (omega (arith, node_number n p h))), roles_stage n (omega (arith, l, node_turn n p h)))

    stage_shut : (n p : ℕ) → ShutFault n p → o.stage n ≡ 44
    stage_shut n p (a, _) = ap o.stage a

    abbrev Read : ℕ → ℕ → Type 0
    Read = Both (Refusable f) (RowCause count t)

    abbrev pub Named : ℕ → ℕ → Type 0
    Named = Both Read NameFault

    abbrev Roled : ℕ → ℕ → Type 0
    Roled = Both RoleFault ShutFault

    read_number : (n p : ℕ) → Read n p → 1 ≤ n
    read_number n p (inl r) = (refusable_turn f n p r).0
    read_number n p (inr h) = omega (arith, h.0)

    pub named-number : (n p : ℕ) → Named n p → 1 ≤ n
    named-number n p (inl r) = read_number n p r
    named-number n p (inr h) = omega (arith, node_number n p h.0)

    stage_read : (n p : ℕ) → Read n p → (2 ≤ o.stage n) × (o.stage n ≤ 33)
    stage_read n p (inl r) = let (a, b) = stage_file n p r in (a, omega (arith, b))
    stage_read n p (inr h) = let e = stage_of_row n p h in (omega (arith, e), omega (arith, e))

    pub stage_named : (n p : ℕ) → Named n p → (2 ≤ o.stage n) × (o.stage n ≤ 36)
    stage_named n p (inl r) = let (a, b) = stage_read n p r in (a, omega (arith, b))
    stage_named n p (inr h) = let e = stage_name n p h in (omega (arith, e), omega (arith, e))

    stage_roled : (n p : ℕ) → Roled n p → o.stage n ≡ 44
    stage_roled n p (inl h) = stage_role n p h
    stage_roled n p (inr h) = stage_shut n p h

    read_at_first : First o Read (reading_at f t)
    unfolding reading_at
    read_at_first =
        first_or o (Refusable f) (RowCause count t) (reading f) (rows_answer count t) (λ n p r. (refusable_turn f n p r).0)
        (λ n p k q r s. inl (omega (arith, (stage_file n p r).1, stage_of_row k q s)))
        (first_hours check_order (Refusable f) (reading f) (λ n p r. other_turn n (refusable_turn f n p r).1) file_first) (λ none. rows_first count t o)

    -- 1 to 8, 23, 9 and 10
    pub named_first : First (with_hours check_order) Named (reading_names_at f t)
    unfolding reading_names_at
    named_first =
        first_or o Read NameFault (reading_at f t) (names_answer C) read_number (λ n p k q r s. inl (omega (arith, (stage_read n p r).1, stage_name k q s))) read_at_first
        (λ none. first_hours check_order NameFault (names_answer C) (λ n p (h, l). other_low n (omega (arith, l))) (nodes_first (λ n p r. none n p (inl r))))

    roled_first : None Named → First o Roled (roles_answer_at (shut t m) C)
    unfolding roles_answer_at
    roled_first none =
        let file : None (Refusable f) = λ n p r. none n p (inl (inl r)) in
        let fit : RowsFit count t = (rows_fine count t).0 (first_clear o (RowCause count t) (rows_answer count t) (rows_first count t o) (λ n p h. none n p (inl (inr h)))) in
        sooner_first o RoleFault ShutFault 44 stage_role stage_shut (λ n p k (h, l) (a, _). omega (arith, node_number n p h, a)) (λ n p (h, l). omega (arith, l)) (λ n p (a, _). omega (arith, a))
        (roles_answer C) (shut_answer (shut t m) C)
        (first_hours check_order RoleFault (roles_answer C) (λ n p (h, l). other_low n (omega (arith, node_number n p h))) (roles_first file (λ n p h. none n p (inr h))))
        (shut_first file fit)

    entered_first : First o (Both Named Roled) (or_else (reading_names_at f t) (roles_answer_at (shut t m) C))
    entered_first =
        first_or o Named Roled (reading_names_at f t) (roles_answer_at (shut t m) C) named-number (λ n p k q r s. inl (omega (arith, (stage_named n p r).1, stage_roled k q s))) named_first roled_first

    later : (n p : ℕ) → Both Named Roled n p → 2 ≤ o.stage n
    later n p (inl h) = (stage_named n p h).0
    later n p (inr h) = omega (arith, stage_roled n p h)

    to : (n p : ℕ) → Both (TableCause t m) (Both Named Roled) n p → ObjectionAt f t m n p
    to n p (inl (a, (z, h))) = of_table a z h
    to n p (inr (inl (inl (inl r)))) = without_hours (of_file r)
    to n p (inr (inl (inl (inr (a, h))))) = of_row a h
    to n p (inr (inl (inr ((c, s, i, h), l)))) = without_hours (of_node c s i h)
    to n p (inr (inr (inl ((c, s, i, h), l)))) = without_hours (of_node c s i h)
    to n p (inr (inr (inr (a, (i, tag, k, never))))) = on_shut a i tag k never

    from : (n p : ℕ) → ObjectionAt f t m n p → Both (TableCause t m) (Both Named Roled) n p
    from n p (of_table a z h) = inl (a, (z, h))
    from n p (of_row a h) = inr (inl (inl (inr (a, h))))
    from n p (without_hours (of_file r)) = inr (inl (inl (inl r)))
    from n p (without_hours (of_node c s i h)) = go (leb n 10) refl
      where
        go : (b : Bool) → leb n 10 ≡ b → Both (TableCause t m) (Both Named Roled) n p
        go true e = inr (inl (inr ((c, s, i, h), leb-true n 10 e)))
        go false e = inr (inr (inl ((c, s, i, h), leb-false n 10 e)))
    from n p (on_shut a i tag k never) = inr (inr (inr (a, (i, tag, k, never))))

    pub check_at_first : First (with_hours check_order) (ObjectionAt f t m) (checking_at f t m)
    unfolding checking_at
    check_at_first =
        first-map o (Both (TableCause t m) (Both Named Roled)) (ObjectionAt f t m) _ to from
        (first_or o (TableCause t m) (Both Named Roled) (table_answer t m) (or_else (reading_names_at f t) (roles_answer_at (shut t m) C)) (λ n p h. omega (arith, h.0))
        (λ n p k q r s. inl (omega (arith, stage_table check_order n r.0, later k q s))) (table_first t m o) (λ none. entered_first))

    -- numbers 0 are fine
    pub named_zero : (reading_names_at f t).number ≡ 0 → reading_names_at f t ≡ fine
    named_zero z = (first_zero o Named (reading_names_at f t) named-number named_first z).0
