-- Which words may be lent; and the offers of a run's state.
use Prim.Native.Nat.{ℕ, zero, suc, ◌+◌, ◌*◌, ◌≤◌, ◌<◌}
use mathlib.Core.Path.{◌≡◌, refl, sym, ap, ap₂, ◌∙◌, subst}
use mathlib.Core.Logic.{◌↔◌}
use mathlib.Core.Bool.{Bool, true, false, cond, ◌&&◌, and-eq-true_iff, false≢true}
use mathlib.Core.List.{List, [], ◌∷◌, ◌++◌, Memᴰ}
use native.Mathlib.Omega.{arith}
use lib.Dec.{eqb, ltb}
use lib.ListN.{length, get_or, take, drop, length-append}
use lib.Seq.{take_all, get_or-append_seam}
use borrow.Author.Tests.{eqb-true, eq-eqb, lt-ltb, ltb-true, ltb-false}
use Rattle.format.specs.Answers.{fine, refused}
use Rattle.format.specs.Contents.{Contents, contents_of, in_count}
use Rattle.format.specs.Header.{Laid, head_at}
use Rattle.format.proofs.ContentsLaws.{in_count_iff, sessions_held, roles_held}
use Rattle.checking.specs.Check.{reading_names}
use Rattle.checking.proofs.CheckLaws.{names_fine, names_headed}
use Rattle.reading_exact.specs.Lists.{All}
use Rattle.steps.specs.declared.Thread.{Thread}
use Rattle.steps.specs.Choice.{State, Chosen, clinic_of, choice, halts, goes}
use Rattle.running_exact.specs.Keeps.{Kept}
use Rattle.running_exact.proofs.StepsChosen.{steps_choice}
use Rattle.running_exact.proofs.OutputWords.{Eight}
use Rattle.running_exact.proofs.RunSafe.{run_kept}
use Rattle.rounds.specs.Round.{Taken, refuses, waits, steps}
use Rattle.schedules.specs.Tables.{LeadsTo, Yields}
use Rattle.seats.specs.Seats.{Limited, limited_of, seats_in, SeatedState, thread_node, seated_choice, steps_only, seated_start, seated_ran_of}
use Rattle.seats.specs.SeatOrder.{AsksSeat, SeatedStep, got_none, took_seat, asked_none, refused_plainly, Ordered, AfterAnswer, Always, AnswerWord}
use Rattle.seats.proofs.SeatedTold.{choice_seated}
use Rattle.seats.proofs.SeatedRuns.{always_last, run_ordered, line_fits}
use Rattle.seats.proofs.SeatedStart.{start_ordered}
use Rattle.seats.proofs.SeatedPlain.{run_alike, free_table}
use Rattle.seated.specs.SeatedEntry.{seats_bar}
use Rattle.seated.proofs.EntryLaws.{bar_clear}
use Rattle.rows.specs.Rows.{row_words, stands_at, row_threads, threads_from, lines_from, seated_at, RowFits}
use Rattle.rows.specs.Fits.{row_fits}
use Rattle.rows.proofs.StandLaws.{made_length}
use Rattle.rows.proofs.ReadLaws.{Readable, stands_part, state_read, state_fits}
use Rattle.rows.proofs.LoadLaws.{row_lines_past}
use Rattle.rows.proofs.FitLaws.{row_fits_iff}
use Rattle.ordering.specs.Order.{in_order}
use Rattle.ordering.proofs.OrderLaws.{in_order_iff, past_seats}
use Rattle.certifying.proofs.KnownLaws.{ordered_readable}
use Rattle.certifying.proofs.ChoiceFits.{choice_eight}
use Rattle.certifying_exact.proofs.Certified.{start_eight}
use Rattle.offering.specs.Offers.{Offer, offers_of, offers_put, begun, is_state, offering_of, refusing, offering_in, offering_by, offering}
use Rattle.offering_exact.specs.Offered.{StateWords}
use Rattle.offering_exact.proofs.Offered.{offered_exactly}

-- words stand in themselves
stands_here : (ws xs : List ℕ) → stands_at (xs ++ ws) (length xs) ws ≡ true
unfolding stands_at
stands_here [] xs = refl
stands_here (w ∷ ws) xs =
    let low : length xs < length (xs ++ (w ∷ ws)) = omega (arith, length-append xs (w ∷ ws)) in
    let next : length xs + 1 ≡ length (xs ++ (w ∷ [])) = sym (length-append xs (w ∷ [])) in
    ap₂ (λ (a b : Bool). a && (b && stands_at (xs ++ (w ∷ ws)) (length xs + 1) ws)) (lt-ltb (length xs) (length (xs ++ (w ∷ ws))) low) (eq-eqb _ _ (get_or-append_seam xs w ws 0))
    ∙ ap₂ (λ (l : List ℕ) (k : ℕ). stands_at l k ws) (sym (snoc_append xs w ws)) next ∙ stands_here ws (xs ++ (w ∷ []))
  where
    snoc_append : (xs : List ℕ) (w : ℕ) (ws : List ℕ) → (xs ++ (w ∷ [])) ++ ws ≡ xs ++ (w ∷ ws)
    snoc_append [] w ws = refl
    snoc_append (x ∷ xs) w ws = ap (λ (l : List ℕ). x ∷ l) (snoc_append xs w ws)

-- threads that are read from a row
read_eights : (s : List ℕ) (p k : ℕ) → All Eight (row_threads s p k)
unfolding row_threads
read_eights s p zero = tt
read_eights s p (suc k) = (refl, read_eights s (p + 12) k)

read_count : (s : List ℕ) (p k : ℕ) → length (row_threads s p k) ≡ k
unfolding row_threads
read_count s p zero = refl
read_count s p (suc k) = ap suc (read_count s (p + 12) k)

module _ (C : Contents) (seats s : List ℕ) (roles : length seats ≤ 16) (sessions : length C.sessions ≤ 32) where
  abbrev S : SeatedState
  S = seated_at (length seats) s 0

  -- seats and lines of no other numbers than 1 to 16
  no_more : (r : ℕ) → in_count 16 r ≡ false → (seats_in seats r ≡ 0) × (S.lines r ≡ [])
  no_more zero e = (refl, refl)
  no_more (suc r) e = (past_seats seats (suc r) roles e, row_lines_past s (lines_from s 0) (length seats) r (omega (arith, beyond r e, roles)))
    where
      beyond : (r : ℕ) → in_count 16 (suc r) ≡ false → 16 ≤ r
      beyond r e = go (ltb r 16) refl
        where
          go : (b : Bool) → ltb r 16 ≡ b → 16 ≤ r
          go true lt = absurd (false≢true (sym e ∙ (in_count_iff 16 (suc r)).1 (omega arith, omega (arith, ltb-true r 16 lt))))
          go false le = ltb-false r 16 le

  lent_to : is_state C seats s ≡ true → StateWords C seats s S
  unfolding is_state
  lent_to e =
      let (a, rest) = (and-eq-true_iff (row_fits (length seats) s 0) _).0 e in
      let (b, more) = (and-eq-true_iff (eqb (length (row_words (length seats) S)) (length s)) _).0 rest in
      let (c, d) = (and-eq-true_iff (stands_at s 0 (row_words (length seats) S)) (in_order (length C.sessions) (seats_in seats) S)).0 more in
      let F : RowFits (length seats) s 0 = (row_fits_iff (length seats) s 0).0 a in
      let long : length (row_words (length seats) S) ≡ length s = eqb-true _ _ b in
      record {
        words = sym (ap (λ (n : ℕ). take n s) long ∙ take_all (length s) s (omega arith)) ∙ (stands_part s (row_words (length seats) S) 0 (omega arith) c).1;
        ordered = (in_order_iff (limited_of C seats) S no_more).0 d;
        vars = read_eights s _ (get_or s 0 0);
        threads = omega (arith, read_count s (threads_from s 0) (get_or s 0 0), F.threads);
        made = omega (arith, made_length s 2 (get_or s 1 0), F.made);
      }

  lent_from : (T : SeatedState) → StateWords C seats s T → is_state C seats s ≡ true
  unfolding is_state
  lent_from T W =
      let R : Readable (length seats) T = ordered_readable C seats T W.vars W.ordered in
      let stands : stands_at s 0 (row_words (length seats) T) ≡ true = ap (λ (l : List ℕ). stands_at l 0 (row_words (length seats) T)) W.words ∙ stands_here (row_words (length seats) T) [] in
      let read : S ≡ T = state_read s (length seats) T R 0 stands in
      let F : RowFits (length seats) s 0 = state_fits s (length seats) T R 0 stands W.threads W.made (λ r. omega (arith, line_fits (limited_of C seats) T W.ordered r, sessions)) in
      (and-eq-true_iff (row_fits (length seats) s 0) _).1 (
        (row_fits_iff (length seats) s 0).1 F,
        (and-eq-true_iff (eqb (length (row_words (length seats) S)) (length s)) _).1 (
          eq-eqb _ _ (ap (λ (x : SeatedState). length (row_words (length seats) x)) read ∙ sym (ap length W.words)),
          (and-eq-true_iff (stands_at s 0 (row_words (length seats) S)) (in_order (length C.sessions) (seats_in seats) S)).1 (
            ap (λ (x : SeatedState). stands_at s 0 (row_words (length seats) x)) read ∙ stands,
            (in_order_iff (limited_of C seats) S no_more).1 (subst (Ordered (limited_of C seats)) (sym read) W.ordered),
          ),
        ),
      )

  -- The lent words are those of a state in order exactly if the test says so; and that state is read from them.
  pub lent_exactly : (is_state C seats s ≡ true) ↔ ((T : SeatedState) × StateWords C seats s T)
  lent_exactly = ((λ e. (S, lent_to e)), λ (T, W). lent_from T W)

  pub lent_read : (T : SeatedState) → StateWords C seats s T → S ≡ T
  lent_read T W =
      state_read s (length seats) T (ordered_readable C seats T W.vars W.ordered) 0
      (ap (λ (l : List ℕ). stands_at l 0 (row_words (length seats) T)) W.words ∙ stands_here (row_words (length seats) T) [])

-- every state of a run may be lent
always_eight : (L : Limited) (ws : List ℕ) (S : SeatedState) → All Eight S.state.threads → Always (λ T. All Eight T.state.threads) L S ws
always_eight L [] S h = h
always_eight L (i ∷ []) S h = h
always_eight L (i ∷ p ∷ ws) S h = (h, go (seated_choice L S i p) (choice_eight L S i p h) (always_eight L ws))
  where
    go : (a : Taken SeatedState) → LeadsTo (λ T. All Eight T.state.threads) a → ((T : SeatedState) → All Eight T.state.threads → Always (λ U. All Eight U.state.threads) L T ws)
        → AfterAnswer a (λ T. Always (λ U. All Eight U.state.threads) L T ws)
    go (refuses n) e ih = tt
    go (waits T) e ih = ih T e
    go (steps T) e ih = ih T e

module _ (f seats : List ℕ) (clean : (reading_names f).number ≡ 0) (clear : (seats_bar (contents_of f) seats).number ≡ 0) where
  abbrev C : Contents
  C = contents_of f

  abbrev L : Limited
  L = limited_of C seats

  laid : Laid f (head_at f)
  laid = (names_headed f clean).laid

  few_sessions : length C.sessions ≤ 32
  few_sessions = omega (arith, sessions_held f (head_at f), laid.sessions)

  few_roles : length seats ≤ 16
  few_roles = omega (arith, (bar_clear C seats clear).0, roles_held f (head_at f), laid.roles)

  by_state : (s out : List ℕ) → offering f seats s out ≡ offering_in C seats s out
  unfolding offering
  by_state s out =
      ap (λ (b : Bool). cond b (offering_by C seats s out) (refusing (reading_names f) out)) (eq-eqb (reading_names f).number 0 clean)
      ∙ ap (λ (b : Bool). cond b (offering_in C seats s out) (refusing (seats_bar C seats) out)) (eq-eqb (seats_bar C seats).number 0 clear)

  -- The words of a state in order: its offers, as many as have room.
  pub lent_offers : (s out : List ℕ) (T : SeatedState) → StateWords C seats s T → offering f seats s out ≡ offering_of (offers_put (length seats) (begun out) (offers_of L T))
  lent_offers s out T W =
      by_state s out ∙ ap (λ (b : Bool). cond b (offering_of (offers_put (length seats) (begun out) (offers_of L (seated_at (length seats) s 0)))) (refusing (refused 18 0) out)) ((lent_exactly C seats s few_roles few_sessions).1 (T, W))
      ∙ ap (λ (x : SeatedState). offering_of (offers_put (length seats) (begun out) (offers_of L x))) (lent_read C seats s few_roles few_sessions T W)

  -- Any others: 18.
  pub lent_refused : (s out : List ℕ) → ((T : SeatedState) → StateWords C seats s T → ⊥) → offering f seats s out ≡ refusing (refused 18 0) out
  lent_refused s out none = by_state s out ∙ go (is_state C seats s) refl
    where
      go : (b : Bool) → is_state C seats s ≡ b → offering_in C seats s out ≡ refusing (refused 18 0) out
      go true e = let (T, W) = (lent_exactly C seats s few_roles few_sessions).0 e in absurd (none T W)
      go false e = ap (λ (b : Bool). cond b (offering_of (offers_put (length seats) (begun out) (offers_of L (seated_at (length seats) s 0)))) (refusing (refused 18 0) out)) e

  module _ (ws : List ℕ) where
    abbrev T : SeatedState
    T = (seated_ran_of f seats ws).seating

    kept : Kept C T.state
    kept = subst (Kept C) (run_alike L ws (seated_start C)).state (run_kept f (names_fine f clean) (steps_only L (seated_start C) ws))

    -- Every state of a run may be lent.
    pub run_lent : StateWords C seats (row_words (length seats) T) T
    run_lent = record {
      words = refl;
      ordered = run_ordered L ws (seated_start C) (start_ordered C seats (bar_clear C seats clear).1);
      vars = always_last L (λ U. All Eight U.state.threads) ws (seated_start C) (always_eight L ws (seated_start C) (start_eight C.sessions));
      threads = kept.few_threads;
      made = kept.few_made;
    }

    pub run_offers : (out : List ℕ) → offering f seats (row_words (length seats) T) out ≡ offering_of (offers_put (length seats) (begun out) (offers_of L T))
    run_offers out = lent_offers (row_words (length seats) T) out T run_lent

-- With a table of zeros the offers are the choices of the run without seats.
module _ (C : Contents) (seats : List ℕ) (zeros : All (λ w. w ≡ 0) seats) (S : SeatedState) (i p : ℕ) where
  abbrev limited : Limited
  limited = limited_of C seats

  abbrev PlainOffer : State → Type 0
  PlainOffer s = (o : Offer) × Memᴰ o (offers_of limited S) × (o.thread ≡ i) × (o.partner ≡ p) × (o.answer ≡ 0) × (o.seating.state ≡ s)

  none_asks : AsksSeat limited S i p → ⊥
  none_asks A = omega (arith, A.limited, free_table seats zeros (thread_node limited S i).f1)

  -- what comes of the choice, with seats and without
  pub data Alike : Taken SeatedState → Chosen → Type 0 where
    both_halt : (n : ℕ) → Alike (refuses n) (halts n)
    both_go : (T : SeatedState) → Alike (steps T) (goes T.state)

  alike : Alike (seated_choice limited S i p) (choice (clinic_of C) S.state i p)
  alike = go (seated_choice limited S i p) (choice_seated limited S i p)
    where
      go : (a : Taken SeatedState) → SeatedStep limited S i p a → Alike a (choice (clinic_of C) S.state i p)
      go a (got_none A G) = absurd (none_asks A)
      go a (took_seat A G s st) = absurd (none_asks A)
      go a (asked_none A s st) = subst (Alike a) (sym (steps_choice (clinic_of C) S.state i p s st)) (both_go _)
      go a (refused_plainly A n h) = subst (Alike a) (sym h) (both_halt n)

  pub plain_offers : (s : State) → (choice (clinic_of C) S.state i p ≡ goes s) ↔ PlainOffer s
  plain_offers s = (to, from)
    where
      offers : (a : Taken SeatedState) (c : Chosen) → Alike a c → seated_choice limited S i p ≡ a → c ≡ goes s → PlainOffer s
      offers a c (both_halt n) e h = let z : ◌≡◌ {A = ℕ} 0 1 = cc in let no_way : ⊥ = omega (arith, z) in absurd no_way
      offers a c (both_go T) e h =
          let o : Offer = record { thread = i; partner = p; answer = 0; seating = T } in
          let same : T.state ≡ s = cc in
          (o, (offered_exactly limited S o).1 (subst (λ (x : Taken SeatedState). AnswerWord x 0 × Yields x T) (sym e) (refl, refl)), refl, refl, refl, same)

      to : choice (clinic_of C) S.state i p ≡ goes s → PlainOffer s
      to h = offers (seated_choice limited S i p) (choice (clinic_of C) S.state i p) alike refl h

      taken : (a : Taken SeatedState) (c : Chosen) → Alike a c → (T : SeatedState) → Yields a T → T.state ≡ s → c ≡ goes s
      taken a c (both_halt n) T y e = absurd y
      taken a c (both_go U) T y e = ap goes (ap (λ (x : SeatedState). x.state) y ∙ e)

      from : PlainOffer s → choice (clinic_of C) S.state i p ≡ goes s
      from (o, m, et, ep, ea, es) =
          let (w, y) = (offered_exactly limited S o).0 m in
          taken (seated_choice limited S i p) (choice (clinic_of C) S.state i p) alike o.seating
          (subst (λ (x : ℕ). Yields (seated_choice limited S x p) o.seating) et (subst (λ (x : ℕ). Yields (seated_choice limited S o.thread x) o.seating) ep y)) es
