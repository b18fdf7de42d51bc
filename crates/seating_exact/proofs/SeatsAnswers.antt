-- What is read of the seats after any list, of any bytes and with any table.
use Prim.Native.Nat.{ℕ, zero, suc, ◌+◌, ◌*◌, ◌-◌, ◌≤◌, ◌<◌}
use mathlib.Core.Path.{◌≡◌, refl, sym, ap, ◌∙◌, subst}
use mathlib.Core.Logic.{◌↔◌}
use mathlib.Core.Bool.{Bool, true, false}
use mathlib.Core.List.{List, [], ◌∷◌, ◌++◌}
use native.Mathlib.Omega.{arith}
use lib.Dec.{eqb, ltb}
use lib.ListN.{length, get_or, drop, replicate, length-append, length-replicate, get_or-append}
use lib.Seq.{get_or-take, get_or-drop, get_or-append-add}
use borrow.Author.Tests.{eq-eqb, ne_eqb, ltb-true, ltb-false}
use Rattle.format.specs.Answers.{fine, refused, or_else}
use Rattle.format.specs.Contents.{Contents, contents_of, tabled}
use Rattle.format.specs.declared.Verdict.{Verdict}
use Rattle.format.proofs.ContentsLaws.{item_get, item_made, sessions_held}
use Rattle.checking.specs.Check.{reading_names}
use Rattle.steps.specs.Choice.{clinic_of, State}
use Rattle.running.specs.Run.{listed, stopped, beside_of_run}
use Rattle.reading_exact.specs.File.{InCount}
use Rattle.reading_exact.specs.Order.{OfFile}
use Rattle.running_exact.specs.Runs.{Unlisted, Listed}
use Rattle.running_exact.proofs.AnswerCases.{listed_or, never_listed}
use Rattle.running_exact.proofs.FileNodes.{laid}
use Rattle.format.specs.Header.{head_at}
use Rattle.lending_exact.specs.Waiting.{waiting_in}
use Rattle.lending_exact.proofs.RunTotals.{kept_totals}
use Rattle.seats.specs.Seats.{Limited, limited_of, seats_in, SeatedState, seats_taken, SeatedRan, plainly, seated_start, seated_ran_of}
use Rattle.seats.specs.SeatOrder.{SessionsIn, Ordered}
use Rattle.seats.proofs.SeatedPlain.{run_alike}
use Rattle.seats.proofs.SeatedRuns.{line_fits}
use Rattle.seats.proofs.SessionCounts.{taken_counts}
use Rattle.seats.proofs.SeatedLast.{last_answer}
use Rattle.seating.specs.declared.Seats.{Seats}
use Rattle.seating.specs.SeatedRunning.{seated_unready}
use Rattle.seating.specs.SeatsRead.{line_words, lines_from, seated_steps_of, seats_after}
use Rattle.seating_exact.specs.SeatTable.{SeatTableFits, OverfullAt, StartFits, SeatsBar}
use Rattle.seating_exact.specs.SeatsTold.{SeatsTold, no_seats_at}
use Rattle.seating_exact.proofs.SeatedCases.{Readied, readied_by}
use Rattle.seating_exact.proofs.SeatedAnswers.{SeatedEnd, ends_by, Seventeen, seventeen_bars, end_no_room, end_seventeen, end_names, end_start, ready_quiet, barred_loud}
use Rattle.seating_exact.proofs.SeatedFiles.{file_ordered}

get_tabled : (g : ℕ → ℕ) (k r : ℕ) → InCount k r → get_or (tabled g 1 k) (r - 1) 0 ≡ g r
get_tabled g k r c = sym (item_get 0 (tabled g 1 k) r c.0) ∙ item_made 0 g k r c.0 c.1

past_zeros : (n j : ℕ) → ◌≡◌ {A = ℕ} (get_or (replicate n 0) j 0) 0
past_zeros zero j = refl
past_zeros (suc n) zero = refl
past_zeros (suc n) (suc j) = past_zeros n j

past_end : (l : List ℕ) (j : ℕ) → length l ≤ j → get_or l j 0 ≡ 0
past_end [] j h = refl
past_end (x ∷ l) zero h = let no : ⊥ = omega (arith, h) in absurd no
past_end (x ∷ l) (suc j) h = past_end l j (omega (arith, h))

-- word j of a line
line_word : (l : List ℕ) (j : ℕ) → get_or (line_words l) j 0 ≡ get_or l j 0
line_word l j = go (ltb j (length l)) refl
  where
    go : (b : Bool) → ltb j (length l) ≡ b → get_or (line_words l) j 0 ≡ get_or l j 0
    go true e = get_or-append l (replicate (32 - length l) 0) 0 j (ltb-true j (length l) e)
    go false e =
        let h : length l ≤ j = ltb-false j (length l) e in
        let z : length l + (j - length l) ≡ j = omega (arith, h) in
        ap (λ (x : ℕ). get_or (line_words l) x 0) (sym z) ∙ get_or-append-add l (replicate (32 - length l) 0) (j - length l) 0
        ∙ past_zeros (32 - length l) (j - length l) ∙ sym (past_end l j h)

zeros_size : (n : ℕ) → length {A = ℕ} (replicate n 0) ≡ n
zeros_size n = length-replicate n 0

line_size : (l : List ℕ) → length l ≤ 32 → length (line_words l) ≡ 32
line_size l h = omega (arith, length-append l (replicate (32 - length l) 0), zeros_size (32 - length l), h)

-- and of the lines of all roles
lines_word : (lines : ℕ → List ℕ) → ((r : ℕ) → length (lines r) ≤ 32) → (n r k j : ℕ) → k < n → j < 32
    → get_or (lines_from lines r n) (32 * k + j) 0 ≡ get_or (lines (r + k)) j 0
unfolding lines_from
lines_word lines f zero r k j l h = let no : ⊥ = omega (arith, l) in absurd no
lines_word lines f (suc n) r zero j l h =
    let z : 32 * 0 + j ≡ j = omega arith in
    let e : r ≡ r + 0 = omega arith in
    ap (λ (x : ℕ). get_or (line_words (lines r) ++ lines_from lines (suc r) n) x 0) z
    ∙ get_or-append (line_words (lines r)) (lines_from lines (suc r) n) 0 j (omega (arith, line_size (lines r) (f r), h))
    ∙ line_word (lines r) j ∙ ap (λ (x : ℕ). get_or (lines x) j 0) e
lines_word lines f (suc n) r (suc k) j l h =
    let z : 32 * suc k + j ≡ length (line_words (lines r)) + (32 * k + j) = omega (arith, line_size (lines r) (f r)) in
    let e : suc r + k ≡ r + suc k = omega arith in
    ap (λ (x : ℕ). get_or (line_words (lines r) ++ lines_from lines (suc r) n) x 0) z
    ∙ get_or-append-add (line_words (lines r)) (lines_from lines (suc r) n) (32 * k + j) 0
    ∙ lines_word lines f n (suc r) k j (omega (arith, l)) h ∙ ap (λ (x : ℕ). get_or (lines x) j 0) e

module _ (f table ws : List ℕ) where
  abbrev C : Contents
  C = contents_of f

  abbrev L : Limited
  L = limited_of C table

  abbrev r : SeatedRan
  r = seated_ran_of f table ws

  abbrev verdict_of : Seats → Verdict
  verdict_of x = record { number = x.number; place = x.place }

  ready : Readied (Listed ws) (Unlisted ws) f table (seated_unready (listed (length ws)) f table)
  ready = readied_by f table (Listed ws) (Unlisted ws) (listed (length ws)) (listed_or ws)

  told : verdict_of (seats_after f ws table) ≡ or_else (seated_unready (listed (length ws)) f table) (stopped (plainly r))
  unfolding seats_after
  told = go (eqb (seated_unready (listed (length ws)) f table).number 0) refl
    where
      go : (b : Bool) → eqb (seated_unready (listed (length ws)) f table).number 0 ≡ b
          → verdict_of (seats_after f ws table) ≡ or_else (seated_unready (listed (length ws)) f table) (stopped (plainly r))
      go true e = rw e
      go false e = rw e

  pub seats_ends : SeatedEnd (Listed ws) (Unlisted ws) f table ws (verdict_of (seats_after f ws table))
  seats_ends =
      subst (SeatedEnd (Listed ws) (Unlisted ws) f table ws) (sym told)
      (ends_by f table ws (Listed ws) (Unlisted ws) (seated_unready (listed (length ws)) f table) ready)

  -- 17 exactly where the list doesn't fit, or, of a file that 1 to 10 leave clean, the table; there is no output
  pub seats_seventeen : ((seats_after f ws table).number ≡ 17) ↔ Seventeen f table ws (Unlisted ws)
  seats_seventeen = end_seventeen f table ws (never_listed ws) seats_ends

  pub seats_names : (n p : ℕ) → OfFile n → (verdict_of (seats_after f ws table) ≡ refused n p) ↔ (Listed ws × (reading_names f ≡ refused n p))
  seats_names n p o = end_names f table ws (never_listed ws) n p o seats_ends

  pub seats_start : (k : ℕ) → (verdict_of (seats_after f ws table) ≡ refused 26 k) ↔ (Listed ws × (reading_names f ≡ fine) × SeatTableFits C table × OverfullAt C table k)
  seats_start k = end_start f table ws (never_listed ws) k seats_ends

  -- where anything refuses before the first choice, all but number and place is 0
  pub seats_none : SeatsBar (Unlisted ws) f table → seats_after f ws table ≡ no_seats_at (seats_after f ws table).number (seats_after f ws table).place
  unfolding seats_after
  seats_none w = rw (ne_eqb (seated_unready (listed (length ws)) f table).number 0 (barred_loud f table ws (never_listed ws) ready w))

  -- 17 has place 0
  pub seats_no_room : Seventeen f table ws (Unlisted ws) → seats_after f ws table ≡ no_seats_at 17 0
  seats_no_room w =
      seats_none (seventeen_bars f table ws w)
      ∙ ap (λ (v : Verdict). no_seats_at v.number v.place) (end_no_room f table ws (never_listed ws) seats_ends w)

  module _ (list : Listed ws) (clean : reading_names f ≡ fine) (fits : SeatTableFits C table) (starts : StartFits C table) where
    abbrev T : SeatedState
    T = r.seating

    ordered : Ordered L T
    ordered = file_ordered f table starts ws

    few : length C.sessions ≤ 32
    few = omega (arith, sessions_held f (head_at f), (laid f clean).sessions)

    quiet : eqb (seated_unready (listed (length ws)) f table).number 0 ≡ true
    quiet = eq-eqb _ 0 (ready_quiet f table ws (never_listed ws) ready list clean fits starts)

    short : (q : ℕ) → length (T.lines q) ≤ 32
    short q = omega (arith, line_fits L T ordered q, few)

    -- number and place are the run's
    pub seats_verdict : verdict_of (seats_after f ws table) ≡ stopped (plainly r)
    unfolding seats_after
    seats_verdict = rw quiet

    -- The totals of a seated run are the count.
    pub seated_totals : (k : ℕ) → InCount 32 k → get_or (seats_after f ws table).totals (k - 1) 0 ≡ waiting_in (clinic_of C) T.state k
    unfolding seats_after
    seated_totals k c =
        let vs : List ℕ = seated_steps_of f table ws in
        let there : 130 + (k - 1) ≡ 129 + k = omega (arith, c.0) in
        rw quiet
        (get_or-take 32 (drop 130 (beside_of_run f vs)) (k - 1) 0 (omega (arith, c.0, c.1)) ∙ get_or-drop 130 (beside_of_run f vs) (k - 1) 0
        ∙ ap (λ (x : ℕ). get_or (beside_of_run f vs) x 0) there ∙ kept_totals f clean vs k c
        ∙ ap (λ (s : State). waiting_in (clinic_of C) s k) (run_alike L ws (seated_start C)).state)

    -- As read, never more sessions in a role with a limit than it has seats.
    pub taken_within : (q : ℕ) → InCount 16 q → 1 ≤ seats_in table q → get_or (seats_after f ws table).taken (q - 1) 0 ≤ seats_in table q
    unfolding seats_after
    taken_within q c h = rw quiet (subst (λ (x : ℕ). x ≤ seats_in table q) (sym (get_tabled (seats_taken L T) 16 q c)) (ordered.seats q h))

    -- What is read of the seats is the state's.
    pub seats-told : SeatsTold f table ws (seats_after f ws table)
    unfolding seats_after
    seats-told = record {
      waited = rw quiet;
      last = rw quiet (last_answer L ws (seated_start C));
      taken = λ q c. rw quiet (subst (SessionsIn T q) (sym (get_tabled (seats_taken L T) 16 q c)) (taken_counts L T ordered q));
      waiting = λ q c. rw quiet (get_tabled (λ x. length (T.lines x)) 16 q c);
      line = λ q j c h.
          let z : 1 + (q - 1) ≡ q = omega (arith, c.0) in
          rw quiet (lines_word T.lines short 16 1 (q - 1) j (omega (arith, c.0, c.1)) h ∙ ap (λ (x : ℕ). get_or (T.lines x) j 0) z);
      fits = short;
      totals = seated_totals;
    }
