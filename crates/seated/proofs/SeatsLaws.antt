-- What is read of the seats, of whole files.
use Prim.Native.Nat.{ℕ, ◌+◌, ◌*◌, ◌-◌, ◌/◌, ◌%◌, ◌≤◌}
use mathlib.Core.Path.{◌≡◌, sym, ap, ◌∙◌}
use mathlib.Core.Bool.{true, false, cond}
use mathlib.Core.List.{List, []}
use lib.Dec.{eqb}
use lib.ListN.{length, get_or, replicate}
use borrow.Author.Tests.{eq-eqb, ne_eqb}
use Rattle.masks.specs.Mask.{held}
use Rattle.format.specs.Contents.{Contents, contents_at, tabled}
use Rattle.format.specs.Answers.{fine, refused}
use Rattle.format.specs.declared.Head.{Head}
use Rattle.format.specs.declared.Verdict.{Verdict}
use Rattle.std.specs.Prelude.{Ok, Err}
use Rattle.naming.specs.Scopes.{awaited_by}
use Rattle.checking.specs.Check.{reading_names, entered, scoped}
use Rattle.checking.proofs.CheckLaws.{entered_fine, entered_refused}
use Rattle.steps.specs.Records.{threads_in}
use Rattle.steps.specs.Beside.{thread_count, start_beside, totals_in}
use Rattle.choices.specs.Choices.{start}
use Rattle.choices.specs.Stored.{untried, beside_run}
use Rattle.steps.specs.Choice.{clinic_of}
use Rattle.running.specs.Run.{listed, stopped}
use Rattle.running.proofs.EntryLaws.{stopped_by}
use Rattle.running.proofs.TableAwaits.{table_awaits}
use Rattle.seats.specs.Seats.{Limited, limited_of, SeatedState, seats_taken, SeatedRan, plainly, steps_only, waits_in, last_in, seated_start}
use Rattle.seating.specs.declared.Seats.{Seats}
use Rattle.seating.specs.SeatTables.{gathered}
use Rattle.seating.specs.SeatsRead.{lines_from, seats_of, no_seats, seats_after}
use Rattle.seated.specs.declared.SeatedWent.{SeatedWent}
use Rattle.seated.specs.SeatedLists.{seated_beside, SeatedThrough}
use Rattle.seated.specs.SeatedEntry.{seats_bar, ran_seated, seats_by}
use Rattle.seated.specs.ReadWords.{line_word}
use Rattle.seated.proofs.BesideLaws.{beside_steps}
use Rattle.seated.proofs.EntryLaws.{went_is}
use Rattle.seated.proofs.ReadLaws.{taken_read, waiting_read, line_read}

module _ (kind : ℕ → ℕ) (C : Contents) (table ws : List ℕ) (bar : Verdict) (is : bar ≡ seats_bar C table) where
  number_is : bar.number ≡ (seats_bar C table).number
  number_is = ap (λ (v : Verdict). v.number) is

  pub read_barred : (y : Seats) → (bar.number ≡ 0 → ⊥) → y ≡ no_seats bar → y ≡ seats_by kind C table ws
  read_barred y n ey = let t = ne_eqb (seats_bar C table).number 0 (λ q. n (number_is ∙ q)) in ey ∙ ap no_seats is ∙ rw t

  module _ (went : SeatedWent) (w b os ls : List ℕ) (few : length C.sessions ≤ 32)
      (T : SeatedThrough kind (limited_of C table) (seated_start C) (start_beside kind (replicate 162 0) (start C).threads) ws went w b os ls) where
    abbrev R : SeatedRan
    R = ran_seated C table ws

    abbrev L : Limited
    L = limited_of C table

    pub read_done : (v : Verdict) (taken waiting line totals : List ℕ) → bar.number ≡ 0 → v ≡ cond (eqb went.refusal 0) fine (refused went.refusal (went.count + 1))
        → taken ≡ tabled (λ role. held 32 (gathered (threads_in w 0 (thread_count b)) os role 0)) 1 16 → waiting ≡ tabled (λ role. get_or ls (33 * (role - 1)) 0) 1 16
        → line ≡ tabled (λ x. line_word ls (x / 32) (x % 32)) 0 512 → totals ≡ totals_in b
        → ◌≡◌ {A = Seats} (record { number = v.number; place = v.place; waited = went.waited; last = went.last; taken = taken; waiting = waiting; line = line; totals = totals }) (seats_by kind C table ws)
    read_done v taken waiting line totals z ev et ew el eo =
        let t = eq-eqb (seats_bar C table).number 0 (sym number_is ∙ z) in
        let answer : v ≡ stopped (plainly R) = stopped_by (plainly R) (record { count = went.count; refusal = went.refusal }) (went_is C table ws [] bar is kind (start_beside kind (replicate 162 0) (start C).threads) went w b os ls T) v ev in
        let waited : went.waited ≡ waits_in L (seated_start C) ws = ap (λ (x : SeatedWent). x.waited) T.told in
        let last : went.last ≡ last_in L (seated_start C) 0 ws = ap (λ (x : SeatedWent). x.last) T.told in
        let taking : taken ≡ tabled (seats_taken L R.seating) 1 16 = et ∙ taken_read L w b os ls few T.kept ∙ ap (λ (S : SeatedState). tabled (seats_taken L S) 1 16) T.state in
        let waits : waiting ≡ tabled (λ r. length (R.seating.lines r)) 1 16 = ew ∙ waiting_read ls T.kept.rows ∙ ap (λ (S : SeatedState). tabled (λ r. length (S.lines r)) 1 16) T.state in
        let lines : line ≡ lines_from R.seating.lines 1 16 = el ∙ line_read ls T.kept.rows ∙ ap (λ (S : SeatedState). lines_from S.lines 1 16) T.state in
        let counts : totals ≡ totals_in (seated_beside kind L (seated_start C) (start_beside kind (replicate 162 0) (start C).threads) ws) = eo ∙ ap totals_in T.beside in
        let whole : ◌≡◌ {A = Seats} (record { number = v.number; place = v.place; waited = went.waited; last = went.last; taken = taken; waiting = waiting; line = line; totals = totals })
        (seats_of (stopped (plainly R)) L R.seating (waits_in L (seated_start C) ws) (last_in L (seated_start C) 0 ws) (totals_in (seated_beside kind L (seated_start C) (start_beside kind (replicate 162 0) (start C).threads) ws))) =
        λ j. record { number = (answer j).number; place = (answer j).place; waited = waited j; last = last j; taken = taking j; waiting = waits j; line = lines j; totals = counts j } in
        rw t whole

-- the totals are those of the run without the choices answered 26
by_steps : (kind : ℕ → ℕ) (C : Contents) (table ws : List ℕ)
    → seated_beside kind (limited_of C table) (seated_start C) (start_beside kind (replicate 162 0) (start C).threads) ws
    ≡ beside_run kind (clinic_of C) (start C) (replicate 162 0) (steps_only (limited_of C table) (seated_start C) ws)
by_steps kind C table ws = sym (beside_steps kind (limited_of C table) ws (seated_start C) (untried (start_beside kind (replicate 162 0) (start C).threads)))

pub seats_unfit : (f ws table : List ℕ) (y : Seats) → listed (length ws) ≡ false → y ≡ no_seats (refused 17 0) → y ≡ seats_after f ws table
unfolding seats_after
seats_unfit f ws table y e ey = ey ∙ rw e

module _ (f ws table : List ℕ) (fits : listed (length ws) ≡ true) where
  pub seats_refused : (v : Verdict) (y : Seats) → entered f ≡ Err v → y ≡ no_seats v → y ≡ seats_after f ws table
  unfolding seats_after
  seats_refused v y e ey =
      let (loud, same) = entered_refused f v e in
      let test = ne_eqb (reading_names f).number 0 loud in
      let whole : no_seats (reading_names f) ≡ seats_after f ws table = rw (fits, test) (rw test) in
      ey ∙ ap no_seats same ∙ whole

  pub seats_done : (h : Head) (old scopes : List ℕ) (y : Seats) → entered f ≡ Ok h → length old ≡ 1025 → old ≡ replicate (length old) 0 → scopes ≡ scoped f old
      → y ≡ seats_by (awaited_by scopes) (contents_at f h) table ws → y ≡ seats_after f ws table
  unfolding seats_after
  seats_done h old scopes y e long zeros its ey =
      let (laid, same, clean) = entered_fine f h e in
      let C : Contents = contents_at f h in
      let R : SeatedRan = ran_seated C table ws in
      let L : Limited = limited_of C table in
      ey ∙ ap (λ (kind : ℕ → ℕ). seats_by kind C table ws) (table_awaits f h old scopes e long zeros its)
      ∙ ap (λ (b : List ℕ). cond (eqb (seats_bar C table).number 0) (seats_of (stopped (plainly R)) L R.seating (waits_in L (seated_start C) ws) (last_in L (seated_start C) 0 ws) (totals_in b)) (no_seats (seats_bar C table)))
      (by_steps _ C table ws)
      ∙ rw (fits, clean, same)
