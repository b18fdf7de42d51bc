-- Placing for a minute answers, or refuses, exactly as the request fixes it: what a placed file is, and when each of 15 to 17 is the answer.
use Prim.Native.Nat.{ℕ, ◌+◌, ◌*◌, ◌≤◌, ◌<◌}
use mathlib.Core.Path.{◌≡◌, refl, sym, ap, ◌∙◌, subst}
use mathlib.Core.Logic.{◌↔◌, ◌⊎◌, inl, inr, ◌≢◌}
use mathlib.Core.Bool.{Bool, true, false, cond}
use mathlib.Core.List.{List, [], ◌∷◌, ◌++◌}
use native.Mathlib.Omega.{arith}
use lib.Dec.{eqb, ltb}
use lib.ListN.{length, drop}
use lib.Seq.{sets-eq}
use borrow.Author.Tests.{eq-eqb, ne_eqb, lt-ltb, ltb-true, ltb-false}
use Rattle.format.specs.Contents.{Contents, contents_of}
use Rattle.format.specs.Answers.{fine, refused}
use Rattle.format.specs.Header.{has_juniors, head_at, version_at, Laid, largest, largest_first, room_for}
use Rattle.format.specs.declared.Verdict.{Verdict}
use Rattle.format.proofs.HeadLaws.{Headed}
use Rattle.checking.specs.Check.{reading_names}
use Rattle.checking.proofs.CheckLaws.{names_headed}
use Rattle.hours.specs.Hours.{table_answer, rows_answer, shut}
use Rattle.placing.specs.declared.Placed.{Placed}
use Rattle.placing.specs.Placing.{turns_for, no_place, placing}
use Rattle.placing.proofs.PlaceLaws.{length_within}
use Rattle.placing_at.specs.PlaceAt.{open_contents, turns_at, measuring_at, placing_at, placed_bytes_at, placed_over_at}
use Rattle.placing_at.proofs.PlaceAtLaws.{too_small_at, answers_at}
use Rattle.reading_exact.specs.Lists.{All}
use Rattle.reading_exact.specs.Tree.{Tree}
use Rattle.reading_exact.specs.File.{File, encode, ReadsAs, sent}
use Rattle.reading_exact.specs.Order.{OfFile, Order, Sooner, First}
use Rattle.reading_exact.proofs.Turns.{not_of_file}
use Rattle.reading_exact.proofs.FileContents.{version_back, version_read, single}
use Rattle.reading_exact.proofs.Exact.{one_read}
use Rattle.reading_exact.proofs.FirstLaws.{number_of, first_zero, first_clear}
use Rattle.checking_exact.specs.Faults.{Objection, check_order}
use Rattle.checking_exact.specs.Tables.{schema_for}
use Rattle.checking_exact.proofs.CheckExact.{names_exact}
use Rattle.checking_exact.proofs.CheckFirst.{objection_number, names_first}
use Rattle.placing_exact.specs.Placement.{on_steps_of, graft, Placement, PlacementByRoles}
use Rattle.placing_exact.specs.Placed.{placed_trees, insert_all, taking_all}
use Rattle.placing_exact.specs.Idle.{idle_nodes_of, idle_in}
use Rattle.placing_exact.specs.Causes.{Unserved, PlacedWith, refusal_in, placing_order}
use Rattle.placing_exact.specs.Promised.{Lowest, Unrefused, NoPlacement, Ruled}
use Rattle.placing_exact.proofs.GroupSessions.{placed_inserted}
use Rattle.placing_exact.proofs.FilePlaced.{placement_served}
use Rattle.placing_exact.proofs.FixedStates.{taking_fixed}
use Rattle.placing_exact.proofs.PlacingFirst.{stage_low}
use Rattle.placing_exact.proofs.PlacingExact.{fifteen_exactly, fifteen_place, sixteen_exactly, placed_exactly, placed_written, ruled}
use Rattle.placing_exact.proofs.IdleRivals.{least_idle_of_all}
use Rattle.placing_exact.proofs.RivalsByRoles.{fewest_of_all, none_at_all}
use Rattle.hours_exact.specs.OpenFile.{open_file}
use Rattle.hours_exact.specs.HourFaults.{with_hours}
use Rattle.hours_exact.specs.PromisedAt.{WellPlacedAt, UnrefusedAt, Standing, CauseAt, no_room, bad_table, objected, bad_row, masked, switched, unserved, too_large, RuledAt}
use Rattle.hours_exact.proofs.OpenFiles.{ready_open}
use Rattle.hours_exact.proofs.HourOrder.{stage_other, stage_table, stage_row}
use Rattle.hours_exact.proofs.HourFirst.{TableCause, table_first, table_fine, RowCause, rows_first, rows_fine}
use Rattle.hours_exact.proofs.StandingPlaced.{Left, left_at, standing_held, standing_bytes, standing_unrefused, placed_standing, written_at, well_placed_at}
use Rattle.hours_exact.proofs.PlaceAtFirst.{other_file, place_at_first}

abbrev o : Order
o = with_hours placing_order

-- those of the file come before 14
low_stage : (n : ℕ) → OfFile n → o.stage n ≤ 36
low_stage n h = omega (arith, stage_other placing_order n (other_file n h), (stage_low n h).1)

-- how much output is wanted, by the version
room_of : (h : List ℕ) → Headed h → room_for h ≡ cond (has_juniors (version_at h)) largest largest_first
room_of [] d = refl
room_of (x ∷ xs) d = let l : Laid (x ∷ xs) (head_at (x ∷ xs)) = d.laid in rw (lt-ltb 1 (length (x ∷ xs)) (omega (arith, l)))

module _ (f : List ℕ) (bytes : All (λ b. b < 256) f) (t : List ℕ) (m room : ℕ) where
  abbrev answer : Placed
  answer = placing_at f t m room

  -- a cause of a stage from 15's on is 15's or 16's
  late_cause : (n p : ℕ) → 60 ≤ o.stage n → CauseAt f t m room n p → (15 ≤ n) × (n ≤ 16)
  late_cause n p l (no_room a b h) = let e : o.stage n ≡ 0 = ap o.stage a in absurd (omega (arith, l, e))
  late_cause n p l (bad_table a b h) = absurd (omega (arith, l, stage_table placing_order n a))
  late_cause n p l (objected h x) = absurd (omega (arith, l, low_stage n h))
  late_cause n p l (bad_row a h) = absurd (omega (arith, l, stage_row placing_order n a))
  late_cause n p l (masked a b h) = let e : o.stage n ≡ 56 = ap o.stage a in absurd (omega (arith, l, e))
  late_cause n p l (switched a h) = let e : o.stage n ≡ 56 = ap o.stage a in absurd (omega (arith, l, e))
  late_cause n p l (unserved a h) = (omega (arith, a), omega (arith, a))
  late_cause n p l (too_large a b h) = (omega (arith, a), omega (arith, a))

  cause_number : (n p : ℕ) → CauseAt f t m room n p → 1 ≤ n
  cause_number n p (no_room a b h) = omega (arith, a)
  cause_number n p (bad_table a b h) = omega (arith, a)
  cause_number n p (objected h x) = objection_number f n p x
  cause_number n p (bad_row a h) = omega (arith, a)
  cause_number n p (masked a b h) = omega (arith, a)
  cause_number n p (switched a h) = omega (arith, a)
  cause_number n p (unserved a h) = omega (arith, a)
  cause_number n p (too_large a b h) = omega (arith, a)

  -- a refusal has its cause, and none of an earlier stage has one
  refused_for : (n p : ℕ) → 1 ≤ n → answer ≡ no_place n p → CauseAt f t m room n p × ((k q : ℕ) → CauseAt f t m room k q → o.stage n ≤ o.stage k)
  refused_for n p some h = go (place_at_first f bytes t m room)
    where
      not-before : (k q i x : ℕ) → Sooner o k q i x → o.stage k ≤ o.stage i
      not-before k q i x (inl l) = omega arith
      not-before k q i x (inr (e, _)) = omega arith

      go : First o (CauseAt f t m room) (refusal_in answer) → CauseAt f t m room n p × ((k q : ℕ) → CauseAt f t m room k q → o.stage n ≤ o.stage k)
      go (inl (z, _)) = absurd (omega (arith, some, number_of (sym z ∙ ap refusal_in h)))
      go (inr (k, q, z, (r, low))) =
          let same = sym z ∙ ap refusal_in h in
          let a : k ≡ n = number_of same in
          let b : q ≡ p = ap (λ (v : Verdict). v.place) same in
          (subst (λ (x : ℕ). CauseAt f t m room n x) b (subst (λ (x : ℕ). CauseAt f t m room x q) a r), λ i x c. omega (arith, ap o.stage a, not-before k q i x (low i x c)))

  -- where only 15 and 16 have causes nothing before refuses
  unrefused_by : ((n p : ℕ) → CauseAt f t m room n p → (15 ≤ n) × (n ≤ 16)) → UnrefusedAt f t m room
  unrefused_by late = record {
    wide = wide (ltb room (room_for f)) refl;
    table = (table_fine t m).0 (first_clear o (TableCause t m) (table_answer t m) (table_first t m o) (λ n p (a, (b, h)). never n p (bad_table a b h) (λ e. omega (arith, a, e))));
    names = first_clear check_order (λ n p. Objection f n p × OfFile n) (reading_names f) (names_first f) (λ n p (h, l). never n p (objected l h) (λ e. not_of_file n n l (omega (arith, e)) (omega (arith, e)) refl));
    rows = (rows_fine count t).0 (first_clear o (RowCause count t) (rows_answer count t) (rows_first count t o) (λ n p (a, h). never n p (bad_row a h) (λ e. omega (arith, a, e))));
    masks = λ s. never 14 0 (masked refl refl s) (λ e. omega (arith, e));
    switches = λ p s. never 14 p (switched refl s) (λ e. omega (arith, e));
  }
    where
      count : ℕ
      count = length (contents_of f).roles

      never : (n p : ℕ) → CauseAt f t m room n p → ((15 ≤ n) × (n ≤ 16) → ⊥) → ⊥
      never n p c wrong = wrong (late n p c)

      wide : (b : Bool) → ltb room (room_for f) ≡ b → room_for f ≤ room
      wide true e = absurd (never 17 0 (no_room refl refl (ltb-true room (room_for f) e)) (λ e. omega (arith, e)))
      wide false e = ltb-false room (room_for f) e

  unrefused_late : (n p : ℕ) → 60 ≤ o.stage n → 1 ≤ n → answer ≡ no_place n p → UnrefusedAt f t m room
  unrefused_late n p l some h = let (_, low) = refused_for n p some h in unrefused_by (λ k q c. late_cause k q (omega (arith, l, low k q c)) c)

  unrefused_placed : answer.number ≡ 0 → UnrefusedAt f t m room
  unrefused_placed z = unrefused_by (λ k q c. absurd ((first_zero o (CauseAt f t m room) (refusal_in answer) cause_number (place_at_first f bytes t m room) z).1 k q c))

  some_file : UnrefusedAt f t m room → (F : File) × ReadsAs f F
  some_file u = let (F, W, e, N) = (names_exact f bytes).0 u.names in (F, e)

  -- 17: output under 6,874 bytes, or 6,908 where the first word is 2 or 3
  pub seventeen_at : (placing_at f t m room ≡ no_place 17 0) ↔ (room < room_for f)
  seventeen_at = (λ h. of (refused_for 17 0 (omega arith) h).0, λ l. too_small_at f t m room l)
    where
      of : CauseAt f t m room 17 0 → room < room_for f
      of (no_room a b h) = h
      of (bad_table a b h) = absurd (omega (arith, a))
      of (objected h x) = absurd (not_of_file 17 17 h (omega arith) (omega arith) refl)
      of (bad_row a h) = absurd (omega (arith, a))
      of (masked a b h) = absurd (omega (arith, a))
      of (switched a h) = absurd (omega (arith, a))
      of (unserved a h) = absurd (omega (arith, a))
      of (too_large a b h) = absurd (omega (arith, a))

  -- a file as it stands at the minute, where nothing before 15 refuses
  module _ (u : UnrefusedAt f t m room) (F : File) (e : ReadsAs f F) where
    abbrev G : File
    G = open_file t m F

    abbrev g : List ℕ
    g = encode G

    l : Left f bytes t m F
    l = left_at f bytes t m u F e

    same : answer ≡ placing g (room_for g)
    same = placed_standing f bytes t m F l u

    gbytes : All (λ b. b < 256) g
    gbytes = standing_bytes f bytes t m F l

    clear : Unrefused g (room_for g)
    clear = standing_unrefused f bytes t m F l

  -- 15: there is no placement with the open roles
  pub fifteen_at : ((p : ℕ) × (placing_at f t m room ≡ no_place 15 p)) ↔ (UnrefusedAt f t m room × ((F : File) → ReadsAs f F → (ts : List Tree) → Placement (open_file t m F) ts → ⊥))
  fifteen_at = (
    λ (p, h).
        let u = unrefused_late 15 p (omega arith) (omega arith) h in
        (u, λ F e ts P. ((fifteen_exactly (g u F e) (gbytes u F e) (room_for (g u F e))).0 (p, sym (same u F e) ∙ h)).1 (open_file t m F) (sent refl) ts P),
    λ (u, none).
        let (F, e) = some_file u in
        let no : NoPlacement (g u F e) = λ X i ts P. none F e ts (subst (λ (Y : File). Placement Y ts) (one_read (g u F e) X (open_file t m F) i (sent refl)) P) in
        let (p, h) = (fifteen_exactly (g u F e) (gbytes u F e) (room_for (g u F e))).1 (clear u F e, no) in
        (p, same u F e ∙ h),
  )

  -- of any rivals by rules 5 and 6
  pub none_at : ((p : ℕ) × (placing_at f t m room ≡ no_place 15 p)) ↔ (UnrefusedAt f t m room × ((F : File) → ReadsAs f F → (ts : List Tree) → PlacementByRoles (open_file t m F) ts → ⊥))
  none_at = (
    λ (p, h).
        let u = unrefused_late 15 p (omega arith) (omega arith) h in
        (u, λ F e ts P. ((none_at_all (g u F e) (gbytes u F e) (room_for (g u F e))).0 (p, sym (same u F e) ∙ h)).1 (open_file t m F) (sent refl) ts P),
    λ (u, none).
        let (F, e) = some_file u in
        let (p, h) = (none_at_all (g u F e) (gbytes u F e) (room_for (g u F e))).1
        (clear u F e, λ X i ts P. none F e ts (subst (λ (Y : File). PlacementByRoles Y ts) (one_read (g u F e) X (open_file t m F) i (sent refl)) P)) in
        (p, same u F e ∙ h),
  )

  -- 15, by its place: the lowest send or receive that no open role of the user permits
  pub fifteen_place_at : (p : ℕ) → (placing_at f t m room ≡ no_place 15 p) ↔ (UnrefusedAt f t m room × Lowest (Unserved (open_contents (shut t m) (contents_of f))) p)
  fifteen_place_at p = (
    λ h.
        let u = unrefused_late 15 p (omega arith) (omega arith) h in
        let (F, e) = some_file u in
        let (_, low) = (fifteen_place (g u F e) (gbytes u F e) (room_for (g u F e)) p).0 (sym (same u F e) ∙ h) in
        (u, subst (λ (X : Contents). Lowest (Unserved X) p) (standing_held f bytes t m F (l u F e)) low),
    λ (u, low).
        let (F, e) = some_file u in
        same u F e ∙ (fifteen_place (g u F e) (gbytes u F e) (room_for (g u F e)) p).1 (clear u F e, subst (λ (X : Contents). Lowest (Unserved X) p) (sym (standing_held f bytes t m F (l u F e))) low),
  )

  -- the size of what the tie rule fixes of the file as it stands
  standing_size : (Size : ℕ → Type 0) → Standing (PlacedWith Size) f t m → (F : File) → ReadsAs f F → PlacedWith Size (encode (open_file t m F))
  standing_size Size (X, i, h) F e = subst (λ (Y : File). PlacedWith Size (encode (open_file t m Y))) (one_read f X F i e) h

  -- 16, at place 0
  pub sixteen_at : (p : ℕ) → (placing_at f t m room ≡ no_place 16 p) ↔ ((p ≡ 0) × UnrefusedAt f t m room × Standing (PlacedWith (λ n. 1024 < n)) f t m)
  sixteen_at p = (
    λ h.
        let u = unrefused_late 16 p (omega arith) (omega arith) h in
        let (F, e) = some_file u in
        let (z, _, big) = (sixteen_exactly (g u F e) (gbytes u F e) (room_for (g u F e)) p).0 (sym (same u F e) ∙ h) in
        (z, u, (F, e, big)),
    λ (z, u, big).
        let (F, e) = some_file u in
        same u F e ∙ (sixteen_exactly (g u F e) (gbytes u F e) (room_for (g u F e)) p).1 (z, clear u F e, standing_size (λ n. 1024 < n) big F e),
  )

  -- nothing is refused
  pub placed_at : ((placing_at f t m room).number ≡ 0) ↔ (UnrefusedAt f t m room × Standing (PlacedWith (λ n. n ≤ 1024)) f t m)
  placed_at = (
    λ z.
        let u = unrefused_placed z in
        let (F, e) = some_file u in
        let (_, small) = (placed_exactly (g u F e) (gbytes u F e) (room_for (g u F e))).0 (sym (ap (λ (a : Placed). a.number) (same u F e)) ∙ z) in
        (u, (F, e, small)),
    λ (u, small).
        let (F, e) = some_file u in
        ap (λ (a : Placed). a.number) (same u F e) ∙ (placed_exactly (g u F e) (gbytes u F e) (room_for (g u F e))).1 (clear u F e, standing_size (λ n. n ≤ 1024) small F e),
  )

  -- the tie rule
  pub ruled_at : UnrefusedAt f t m room → (F : File) → ReadsAs f F → (ts : List Tree) → Placement (open_file t m F) ts → RuledAt f t m F
  ruled_at u F e ts P =
      let rule = ruled (g u F e) (gbytes u F e) (room_for (g u F e)) (clear u F e) (open_file t m F) (sent refl) ts P in
      let r = ready_open t m F (l u F e).ready in
      let D = schema_for (open_file t m F) in
      let fixed = taking_fixed (open_file t m F) r.formed r.named r.bare (placement_served (open_file t m F) r.formed r.named r.bare ts P) in
      let trees = placed_inserted D F.sessions ∙ ap (insert_all D F.sessions) (rule.only (taking_all D F.sessions) fixed) in
      record {
        stands = rule;
        taken = ap (λ (C : Contents). turns_for C) (sym (standing_held f bytes t m F (l u F e)));
        written = written_at f bytes t m F (l u F e) ∙ ap (λ (ts : List Tree). encode (graft F ts)) trees;
      }

  -- what is placed
  module _ (placed : (placing_at f t m room).number ≡ 0) where
    pub well_at : WellPlacedAt f t m (placing_at f t m room) (placed_bytes_at f t m)
    well_at =
        let u = unrefused_placed placed in
        let (F, e) = some_file u in
        well_placed_at f bytes t m F (l u F e) u placed

    -- no rival with the open roles has fewer on steps
    pub fewest_at : (F : File) → ReadsAs f F → (ts : List Tree) → PlacementByRoles (open_file t m F) ts → (placing_at f t m room).on_steps ≤ on_steps_of ts
    fewest_at F e ts P =
        let u = unrefused_placed placed in
        let there = sym (ap (λ (a : Placed). a.number) (same u F e)) ∙ placed in
        omega (arith, ap (λ (a : Placed). a.on_steps) (same u F e), fewest_of_all (g u F e) (gbytes u F e) (room_for (g u F e)) there (open_file t m F) (sent refl) ts P)

    -- nor one with as few holds a role through fewer nodes of tags 0 to 4
    pub least_idle_at : (F H : File) → ReadsAs f F → encode H ≡ placed_bytes_at f t m → (ts : List Tree) → PlacementByRoles (open_file t m F) ts → on_steps_of ts ≤ (placing_at f t m room).on_steps
        → idle_nodes_of H.sessions ≤ idle_in F ts
    least_idle_at F H e w ts P few =
        let u = unrefused_placed placed in
        let there = sym (ap (λ (a : Placed). a.number) (same u F e)) ∙ placed in
        let trees : List Tree = placed_trees (schema_for (open_file t m F)) F.sessions in
        let written = sym (placed_written (g u F e) (gbytes u F e) (room_for (g u F e)) there (open_file t m F) (sent refl)) in
        let fewer : on_steps_of ts ≤ (placing (g u F e) (room_for (g u F e))).on_steps = omega (arith, few, ap (λ (a : Placed). a.on_steps) (same u F e)) in
        let is : H ≡ graft F trees = single H (graft F trees) (w ∙ written_at f bytes t m F (l u F e)) in
        omega (
          arith,
          least_idle_of_all (g u F e) (gbytes u F e) (room_for (g u F e)) there (open_file t m F) (graft (open_file t m F) trees) (sent refl) written ts P fewer,
          ap (λ (X : File). idle_nodes_of X.sessions) is,
        )

    -- the output has room for it: the file as it stands at the minute wants as much
    fits_at : length (placed_bytes_at f t m) ≤ room
    fits_at =
        let u = unrefused_placed placed in
        let (F, e) = some_file u in
        let version : version_at (g u F e) ≡ version_at f = version_back (open_file t m F) ∙ sym (version_read F f e) in
        let there = names_headed (g u F e) (number_of (clear u F e).names) in
        let wanted = room_of (g u F e) there ∙ ap (λ (v : ℕ). cond (has_juniors v) largest largest_first) version ∙ sym (room_of f (names_headed f (number_of u.names))) in
        omega (arith, well_at.sized, ap (λ (a : Placed). a.length) (same u F e), length_within (g u F e) (room_for (g u F e)), wanted, u.wide)

-- measuring wants no room
pub roomless_at : (f : List ℕ) → All (λ b. b < 256) f → (t : List ℕ) (m : ℕ) → (measuring_at f t m).number ≢ 17
roomless_at f bytes t m e = go (place_at_first f bytes t m (room_for f))
  where
    same : (placing_at f t m (room_for f)).number ≡ (measuring_at f t m).number
    same = ap (λ (a : Placed). a.number) (answers_at f t m (room_for f) (omega arith))

    none : (n p : ℕ) → n ≡ 17 → CauseAt f t m (room_for f) n p → ⊥
    none n p z (no_room a b h) = omega (arith, h)
    none n p z (bad_table a b h) = omega (arith, a, z)
    none n p z (objected h x) = not_of_file n 17 h (omega arith) (omega arith) z
    none n p z (bad_row a h) = omega (arith, a, z)
    none n p z (masked a b h) = omega (arith, a, z)
    none n p z (switched a h) = omega (arith, a, z)
    none n p z (unserved a h) = omega (arith, a, z)
    none n p z (too_large a b h) = omega (arith, a, z)

    go : First o (CauseAt f t m (room_for f)) (refusal_in (placing_at f t m (room_for f))) → ⊥
    go (inl (z, _)) = omega (arith, e, same, number_of z)
    go (inr (k, q, z, (r, _))) = none k q (sym (number_of z) ∙ same ∙ e) r

-- a refusal leaves the output as it was
pub kept_at : (f t : List ℕ) (m : ℕ) (out : List ℕ) → (placing_at f t m (length out)).number ≢ 0 → placed_over_at f t m out ≡ out
unfolding placed_over_at
kept_at f t m out h = rw (ne_eqb (placing_at f t m (length out)).number 0 h)

-- output bytes past the placed file keep what they held
pub written_over_at : (f : List ℕ) → All (λ b. b < 256) f → (t : List ℕ) (m : ℕ) (out : List ℕ) → (placing_at f t m (length out)).number ≡ 0
    → placed_over_at f t m out ≡ placed_bytes_at f t m ++ drop (length (placed_bytes_at f t m)) out
unfolding placed_over_at
written_over_at f bytes t m out h =
    let long : 0 + length (placed_bytes_at f t m) ≤ length out = omega (arith, fits_at f bytes t m (length out) h) in
    let all : 0 + length (placed_bytes_at f t m) ≡ length (placed_bytes_at f t m) = omega arith in
    rw (eq-eqb (placing_at f t m (length out)).number 0 h)
    (sets-eq (placed_bytes_at f t m) out 0 long ∙ ap (λ (n : ℕ). placed_bytes_at f t m ++ drop n out) all)
