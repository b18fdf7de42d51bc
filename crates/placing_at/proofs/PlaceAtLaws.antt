-- Placing for a minute, whole, from what is decided.
use Prim.Native.Nat.{ℕ, ◌≤◌, ◌<◌}
use mathlib.Core.Path.{◌≡◌, refl, sym, ap, subst, ◌∙◌}
use mathlib.Core.List.{List, [], ◌∷◌, map}
use mathlib.Core.Bool.{cond}
use native.Mathlib.Omega.{arith}
use lib.Dec.{eqb}
use lib.ListN.{length, replicate, drop, length-map}
use lib.Seq.{sets, length-sets}
use borrow.Author.Tests.{eq-eqb, ne_eqb, lt-ltb, le-ltb}
use Rattle.masks.specs.Mask.{minus}
use Rattle.format.specs.Contents.{Contents, contents_at, contents_of}
use Rattle.format.specs.Answers.{or_else}
use Rattle.format.specs.Header.{version_at, head_at, room_for}
use Rattle.format.specs.declared.Verdict.{Verdict}
use Rattle.format.specs.declared.Head.{Head}
use Rattle.format.specs.declared.Node.{Node}
use Rattle.format.proofs.AnswerLaws.{NoRefusal, quiet_first, loud_first, both_quiet}
use Rattle.format.proofs.ContentsLaws.{nodes_held}
use Rattle.tables.specs.Records.{records_answer}
use Rattle.trees.specs.Shape.{shape_answer}
use Rattle.reading.specs.Reading.{body_answer, reading}
use Rattle.std.specs.Prelude.{Result, Ok, Err}
use Rattle.reading.proofs.ReadingLaws.{by_body}
use Rattle.rules.specs.Checking.{names_answer}
use Rattle.rules.specs.Candidates.{candidates_in}
use Rattle.checking.specs.Check.{reading_names, entered, surveyed_from}
use Rattle.hours.specs.Hours.{table_answer, shut}
use Rattle.checking_at.specs.CheckAt.{reading_names_at, opened_at, entered_at}
use Rattle.checking_at.proofs.CheckAtLaws.{entered_at_fine, entered_at_refused, head_laid, names_quiet, surveyed_at}
use Rattle.states.specs.States.{Label, labelled, turns_of}
use Rattle.states.specs.declared.Turn.{Turn}
use Rattle.placing.specs.Placing.{labels_in, labels_from, turns_for, masks_answer, switches_answer, placeable_by, placeable, no_place, answer_by, answer_from, over_by, over_from}
use Rattle.placing.proofs.DecideLaws.{labels_kept}
use Rattle.placing.proofs.PlaceLaws.{answer_loud, over_answered}
use Rattle.placing_at.specs.PlaceAt.{open_contents, turns_at, judging_at, measuring_at, placing_at, placed_bytes_at, placed_over_at}
use Rattle.placing_at.proofs.OpenLaws.{open_candidates}

-- nodes whose roles are all changed alike
relabel : (g : ℕ → ℕ) → Label → Label
relabel g l = record { tag = l.tag; roles = g l.roles }

labelled_map : (g : ℕ → ℕ) (ns : List Node) (rs : List ℕ) → labelled ns (map g rs) ≡ map (relabel g) (labelled ns rs)
unfolding labelled relabel
labelled_map g [] rs = refl
labelled_map g (n ∷ ns) [] = refl
labelled_map g (n ∷ ns) (r ∷ rs) = ap (λ (l : List Label). record { tag = n.tag; roles = g r } ∷ l) (labelled_map g ns rs)

drop-map : (g : ℕ → ℕ) (rs : List ℕ) → drop 1 (map g rs) ≡ map g (drop 1 rs)
drop-map g [] = refl
drop-map g (r ∷ rs) = refl

-- the open ones of the candidates that a pass kept in a table
open_labels : (s : ℕ) (C : Contents) (t : List ℕ) → NoRefusal (shape_answer C) → NoRefusal (names_answer C) → length C.nodes < length t
    → labels_from C (map (λ m. minus m s) (sets t 1 (candidates_in C))) ≡ labels_in (open_contents s C)
open_labels s C t shaped named room =
    let g : ℕ → ℕ = λ m. minus m s in
    ap (labelled C.nodes) (drop-map g (sets t 1 (candidates_in C)))
    ∙ labelled_map g C.nodes (drop 1 (sets t 1 (candidates_in C)))
    ∙ ap (map (relabel g)) (labels_kept C t shaped named room)
    ∙ sym (labelled_map g C.nodes (candidates_in C))
    ∙ ap (labelled C.nodes) (sym (open_candidates s C))

-- 14 looks at no user
open_placeable : (s : ℕ) (C : Contents) → placeable_by C (labels_in (open_contents s C)) ≡ placeable (open_contents s C)
unfolding placeable masks_answer switches_answer
open_placeable s C = refl

module _ (f t : List ℕ) (m : ℕ) where
  abbrev s : ℕ
  s = shut t m

  abbrev later : Verdict
  later = or_else (reading_names_at f t) (placeable (open_contents s (contents_of f)))

  pub too_small_at : (room : ℕ) → room < room_for f → placing_at f t m room ≡ no_place 17 0
  unfolding placing_at
  too_small_at room h = rw (lt-ltb room (room_for f) h)

  pub answers_at : (room : ℕ) → room_for f ≤ room → placing_at f t m room ≡ measuring_at f t m
  unfolding placing_at
  answers_at room h = rw (le-ltb room (room_for f) h)

  pub measuring_refused_at : (v : Verdict) → judging_at f t m ≡ v → (NoRefusal v → ⊥) → measuring_at f t m ≡ no_place v.number v.place
  unfolding measuring_at
  measuring_refused_at v e l = ap (answer_by (version_at f) (contents_of f) (turns_at f t m)) e ∙ answer_loud (version_at f) (contents_of f) (turns_at f t m) v l

  pub refused_at : (room : ℕ) (v : Verdict) → room_for f ≤ room → judging_at f t m ≡ v → (NoRefusal v → ⊥) → placing_at f t m room ≡ no_place v.number v.place
  refused_at room v h e l = answers_at room h ∙ measuring_refused_at v e l

  -- where anything is refused the output stays
  pub over_kept_at : (out : List ℕ) (n p : ℕ) → (n ≡ 0 → ⊥) → placing_at f t m (length out) ≡ no_place n p → placed_over_at f t m out ≡ out
  unfolding placed_over_at
  over_kept_at out n p l e = rw (e, ne_eqb n 0 l)

  -- 22
  pub table_loud : (NoRefusal (table_answer t m) → ⊥) → judging_at f t m ≡ table_answer t m
  unfolding judging_at
  table_loud l = loud_first (table_answer t m) later l

  module _ (table : NoRefusal (table_answer t m)) where
    -- a file that 1 to 8, 23, 9 and 10 refuse
    pub names_loud_at : (w : Verdict) → entered_at f t ≡ Err w → (judging_at f t m ≡ w) × (NoRefusal w → ⊥)
    unfolding judging_at
    names_loud_at w e =
        let (l, same) = entered_at_refused f t w e in
        (quiet_first (table_answer t m) later table ∙ loud_first (reading_names_at f t) (placeable (open_contents s (contents_of f))) l ∙ sym same, λ q. l (subst NoRefusal same q))

    -- a file that they leave clean, by its head
    module _ (h : Head) (e : entered_at f t ≡ Ok h) where
      quiet : NoRefusal (reading_names_at f t)
      quiet = (entered_at_fine f t h e).0

      same : h ≡ head_at f
      same = (entered_at_fine f t h e).1

      pub judged_at : judging_at f t m ≡ placeable (open_contents (shut t m) (contents_at f h))
      unfolding judging_at
      judged_at =
          quiet_first (table_answer t m) later table ∙ quiet_first (reading_names_at f t) (placeable (open_contents s (contents_of f))) quiet
          ∙ ap (λ (k : Head). placeable (open_contents s (contents_at f k))) (sym same)

      -- the open ones of its nodes' candidates
      surveyed_open : (old roles : List ℕ) → roles ≡ sets old 1 (candidates_in (contents_of f)) → length (contents_at f h).nodes < length old
          → (labels_from (contents_at f h) (map (λ k. minus k (shut t m)) roles) ≡ labels_in (open_contents (shut t m) (contents_at f h)))
          × (length (map (λ k. minus k (shut t m)) roles) ≡ length old)
      surveyed_open old roles filled room =
          let (r, n) = names_quiet f t quiet in
          let body : NoRefusal (body_answer (head_at f) (contents_of f)) = subst NoRefusal (by_body f r).1 r in
          let shaped = ((both_quiet NoRefusal (records_answer (head_at f) (contents_of f)) (shape_answer (contents_of f)) (λ z. z)).0 body).1 in
          let fits = subst (λ (k : Head). length (contents_at f k).nodes < length old) same room in
          let labels = ap (λ (l : List ℕ). labels_from (contents_of f) (map (λ k. minus k s) l)) filled ∙ open_labels s (contents_of f) old shaped n fits in (
            subst (λ (k : Head). labels_from (contents_at f k) (map (λ k. minus k s) roles) ≡ labels_in (open_contents s (contents_at f k))) (sym same) labels,
            length-map roles (λ k. minus k s) ∙ ap length filled ∙ length-sets old 1 (candidates_in (contents_of f)),
          )

      -- they stand in the table from which the shut ones were taken
      pub closed_labels : (a : Result Head Verdict) → a ≡ opened_at f t → (roles : List ℕ) → roles ≡ surveyed_from f a (replicate 1025 0) → (k : ℕ) → k ≡ shut t m
          → (closed : List ℕ) → closed ≡ map (λ r. minus r k) roles
          → (labels_from (contents_at f h) closed ≡ labels_in (open_contents (shut t m) (contents_at f h))) × (length closed ≡ 1025)
      closed_labels a o roles r k is closed d =
          let filled = r ∙ surveyed_at f t quiet a (sym o) (replicate 1025 0) in
          let l : closed ≡ map (λ r. minus r (shut t m)) roles = d ∙ ap (λ (s : ℕ). map (λ r. minus r s) roles) is in
          subst (λ (x : List ℕ). (labels_from (contents_at f h) x ≡ labels_in (open_contents (shut t m) (contents_at f h))) × (length x ≡ 1025)) (sym l)
          (surveyed_open (replicate 1025 0) roles filled (omega (arith, nodes_held f h, (head_laid f t h e).nodes)))

      -- what is placed from such a table is what is placed for the minute
      module _ (roles : List ℕ) (l : labels_from (contents_at f h) roles ≡ labels_in (open_contents (shut t m) (contents_at f h))) where
        seen : {A : Type 0} (g : ℕ → Contents → List Turn → Verdict → A)
            → g h.version (contents_at f h) (turns_of (labels_from (contents_at f h) roles)) (placeable_by (contents_at f h) (labels_from (contents_at f h) roles)) ≡ g (version_at f) (contents_of f) (turns_at f t m) (judging_at f t m)
        seen g =
            ap (λ ls. g h.version (contents_at f h) (turns_of ls) (placeable_by (contents_at f h) ls)) l
            ∙ ap (g h.version (contents_at f h) (turns_for (open_contents s (contents_at f h)))) (open_placeable s (contents_at f h) ∙ sym judged_at)
            ∙ ap (λ (k : Head). g k.version (contents_at f k) (turns_for (open_contents s (contents_at f k))) (judging_at f t m)) same

        pub measure_from_at : answer_from h.version (contents_at f h) roles ≡ measuring_at f t m
        unfolding measuring_at
        measure_from_at = seen answer_by

        pub answer_from_at : (room : ℕ) → room_for f ≤ room → answer_from h.version (contents_at f h) roles ≡ placing_at f t m room
        answer_from_at room wide = measure_from_at ∙ sym (answers_at room wide)

        pub over_from_at : (out : List ℕ) → room_for f ≤ length out → over_from h.version (contents_at f h) roles out ≡ placed_over_at f t m out
        unfolding placed_over_at placed_bytes_at measuring_at
        over_from_at out wide =
            seen (λ v C ts x. over_by v C ts x out) ∙ over_answered (version_at f) (contents_of f) (turns_at f t m) (judging_at f t m) out
            ∙ ap (λ a. cond (eqb a.number 0) (sets out 0 (placed_bytes_at f t m)) out) (sym (answers_at (length out) wide))

  -- the way in is the one without hours
  pub entered_plain : (h : Head) → entered_at f t ≡ Ok h → entered f ≡ Ok h
  unfolding entered reading_names
  entered_plain h e =
      let (q, same) = entered_at_fine f t h e in
      let (r, n) = names_quiet f t q in
      let clean : NoRefusal (reading_names f) = (both_quiet NoRefusal (reading f) (names_answer (contents_of f)) (λ z. z)).1 (r, n) in
      rw (eq-eqb (reading_names f).number 0 clean) (ap Ok (sym same))
