-- Seated runs of whole files: what each way through the entry points answers.
use Prim.Native.Nat.{ℕ, suc, ◌+◌, ◌*◌, ◌≤◌, ◌<◌}
use mathlib.Core.Path.{◌≡◌, refl, sym, ap, ap₂, ◌∙◌}
use mathlib.Core.Bool.{Bool, true, false, cond, ◌&&◌, and-eq-true_iff}
use mathlib.Core.List.{List, [], ◌∷◌}
use native.Mathlib.Omega.{arith}
use lib.Dec.{eqb, leb}
use lib.ListN.{length}
use lib.Seq.{sets}
use borrow.Author.Tests.{eq-eqb, ne_eqb, eqb-true, eqb-false}
use Rattle.format.specs.Contents.{Contents, contents_at}
use Rattle.format.specs.Words.{bytes_of}
use Rattle.format.specs.Answers.{fine, refused, or_else}
use Rattle.format.specs.declared.Head.{Head}
use Rattle.format.specs.declared.Verdict.{Verdict}
use Rattle.std.specs.Prelude.{Ok, Err}
use Rattle.checking.specs.Check.{reading_names, entered}
use Rattle.checking.proofs.CheckLaws.{entered_fine, entered_refused}
use Rattle.steps.specs.Beside.{thread_count, made_count}
use Rattle.steps.specs.Kept.{state_in}
use Rattle.choices.specs.declared.Progress.{Progress}
use Rattle.choices.specs.Choices.{Ran}
use Rattle.running.specs.Run.{ran_words, listed, stopped}
use Rattle.running.proofs.EntryLaws.{progress_of, stopped_by, put_by}
use Rattle.dispatching.proofs.EntryLaws.{output_words}
use Rattle.rounds.specs.Round.{Taken, refuses, waits, steps}
use Rattle.seats.specs.Seats.{Limited, limited_of, SeatedState, seated_choice, SeatedRan, follow_seated, seated_run, plainly, seated_start, overfilled_at}
use Rattle.std.specs.List.{list_all}
use Rattle.seating.specs.SeatedRunning.{small_seats, seat_table_answer, seat_start_answer, seated_running, seated_over, seated_length}
use Rattle.format.specs.declared.Written.{Written}
use Rattle.seated.specs.declared.SeatedWent.{SeatedWent}
use Rattle.seated.specs.SeatedLists.{SeatedThrough}
use Rattle.seated.specs.SeatedEntry.{written_of, seated_written, seats_bar, ran_seated, written_by, out_by}

-- two words a choice, and a refused one is not done
abbrev Counts : SeatedRan → ℕ → Type 0
Counts r words = (2 * r.count ≤ words) × ((r.refusal ≡ 0 → ⊥) → 2 * r.count < words)

pub seated_counts : (L : Limited) (S : SeatedState) (ws : List ℕ) → Counts (seated_run L S ws) (length ws)
unfolding seated_run
seated_counts L S [] = (omega arith, λ n. absurd (n refl))
seated_counts L S (i ∷ []) = (omega arith, λ n. absurd (n refl))
seated_counts L S (i ∷ p ∷ ws) = go (seated_choice L S i p) (λ S'. seated_counts L S' ws)
  where
    go : (a : Taken SeatedState) → ((S' : SeatedState) → Counts (seated_run L S' ws) (length ws)) → Counts (follow_seated S a (λ S'. seated_run L S' ws)) (suc (suc (length ws)))
    go (refuses n) later = (omega arith, λ x. omega arith)
    go (waits S') later = let (a, b) = later S' in (omega (arith, a), λ x. omega (arith, b x))
    go (steps S') later = let (a, b) = later S' in (omega (arith, a), λ x. omega (arith, b x))

-- the words of the table, all small
pub all_small : (l : List ℕ) → list_all (λ x. leb x 32) l ≡ small_seats l
unfolding small_seats
all_small [] = refl
all_small (x ∷ l) = ap (λ (b : Bool). leb x 32 && b) (all_small l)

-- what refuses before the first choice
module _ (C : Contents) (table : List ℕ) where
  abbrev test : Bool
  test = eqb (length table) (length C.roles) && small_seats table

  abbrev over : ℕ
  over = overfilled_at (limited_of C table) (seated_start C) (length table)

  pub bar_table : test ≡ false → refused 17 0 ≡ seats_bar C table
  unfolding seat_table_answer
  bar_table e = sym (rw e)

  pub bar_none : test ≡ true → (k : ℕ) → k ≡ over → k ≡ 0 → fine ≡ seats_bar C table
  unfolding seat_table_answer seat_start_answer
  bar_none e k ek z = sym (rw (e, eq-eqb over 0 (sym ek ∙ z)))

  pub bar_start : test ≡ true → (k : ℕ) → k ≡ over → (k ≡ 0 → ⊥) → refused 26 k ≡ seats_bar C table
  unfolding seat_table_answer seat_start_answer
  bar_start e k ek z = ap (refused 26) ek ∙ sym (rw (e, ne_eqb over 0 (λ q. z (ek ∙ q))))

  pub bar_clear : (seats_bar C table).number ≡ 0 → (length table ≡ length C.roles) × (over ≡ 0)
  unfolding seat_table_answer seat_start_answer
  bar_clear h = go test refl (eqb over 0) refl
    where
      go : (x : Bool) → test ≡ x → (y : Bool) → eqb over 0 ≡ y → (length table ≡ length C.roles) × (over ≡ 0)
      go false e y f = let no : ⊥ = omega (arith, ap (λ (v : Verdict). v.number) (bar_table e) ∙ h) in absurd no
      go true e true f = (eqb-true (length table) (length C.roles) ((and-eq-true_iff (eqb (length table) (length C.roles)) (small_seats table)).0 e).0, eqb-true over 0 f)
      go true e false f = let no : ⊥ = omega (arith, ap (λ (v : Verdict). v.number) (bar_start e over refl (eqb-false over 0 f)) ∙ h) in absurd no

-- a file that 1 to 10 leave clean
module _ (C : Contents) (table ws out : List ℕ) (bar : Verdict) (is : bar ≡ seats_bar C table) where
  number_is : bar.number ≡ (seats_bar C table).number
  number_is = ap (λ (v : Verdict). v.number) is

  pub into_barred : (y : Written) → (bar.number ≡ 0 → ⊥) → y ≡ written_of bar 0 → (y ≡ written_by C table ws) × (out ≡ out_by C table ws out)
  into_barred y n ey =
      let t = ne_eqb (seats_bar C table).number 0 (λ q. n (number_is ∙ q)) in
      (ey ∙ ap (λ (v : Verdict). written_of v 0) is ∙ rw t, rw t)

  module _ (kind : ℕ → ℕ) (b₀ : List ℕ) (went : SeatedWent) (w b os ls : List ℕ) (T : SeatedThrough kind (limited_of C table) (seated_start C) b₀ ws went w b os ls) where
    abbrev R : Ran
    R = plainly (ran_seated C table ws)

    abbrev k : Progress
    k = record { count = went.count; refusal = went.refusal }

    pub went_is : k ≡ progress_of R
    went_is = ap (λ (x : SeatedWent). record { count = x.count; refusal = x.refusal }) T.told

    pub went_word : length ws ≤ 131070 → (went.refusal ≡ 0 → ⊥) → went.count < 65535
    went_word h n =
        omega (arith, h, ap (λ (x : Progress). x.count) went_is, (seated_counts (limited_of C table) (seated_start C) ws).1 (λ z. n (ap (λ (x : Progress). x.refusal) went_is ∙ z)))

    pub into_done : (v : Verdict) (n : ℕ) (out' : List ℕ) → bar.number ≡ 0 → v ≡ cond (eqb went.refusal 0) fine (refused went.refusal (went.count + 1)) → n ≡ 8 + 4 * made_count b + 24 * thread_count b
        → out' ≡ sets out 0 (bytes_of (ran_words (record { count = went.count; refusal = went.refusal; state = state_in w b })))
        → (◌≡◌ {A = Written} (record { number = v.number; place = v.place; length = n }) (written_by C table ws)) × (out' ≡ out_by C table ws out)
    into_done v n out' z ev en eo =
        let t = eq-eqb (seats_bar C table).number 0 (sym number_is ∙ z) in
        let same : state_in w b ≡ R.state = ap (λ (S : SeatedState). S.state) T.state in
        let whole : ◌≡◌ {A = Ran} (record { count = went.count; refusal = went.refusal; state = state_in w b }) R = λ j. record { count = (went_is j).count; refusal = (went_is j).refusal; state = same j } in
        let words : n ≡ 2 * length (ran_words R) = en ∙ output_words went.count went.refusal w b ∙ ap (λ (r : Ran). 2 * length (ran_words r)) whole in
        (rw t (ap₂ written_of (stopped_by R k went_is v ev) words), rw t (put_by R k went_is (state_in w b) out out' same eo))

-- the answer that stands first
choose_written : (v w : Verdict) (n : ℕ) → cond (eqb v.number 0) (written_of w n) (written_of v 0) ≡ written_of (or_else v w) (cond (eqb v.number 0) n 0)
choose_written v w n = go (eqb v.number 0)
  where
    go : (b : Bool) → cond b (written_of w n) (written_of v 0) ≡ written_of (cond b w v) (cond b n 0)
    go true = refl
    go false = refl

pub seated_unfit : (f ws table out : List ℕ) (y : Written) → listed (length ws) && leb 1800 (length out) ≡ false → y ≡ written_of (refused 17 0) 0
    → (y ≡ seated_written f ws table (length out)) × (out ≡ seated_over f ws table out)
unfolding seated_running seated_over seated_length
seated_unfit f ws table out y e ey = (ey ∙ rw e, rw e)

module _ (f ws table out : List ℕ) (fits : listed (length ws) && leb 1800 (length out) ≡ true) where
  pub seated_refused : (v : Verdict) (y : Written) → entered f ≡ Err v → y ≡ written_of v 0 → (y ≡ seated_written f ws table (length out)) × (out ≡ seated_over f ws table out)
  unfolding seated_running seated_over seated_length
  seated_refused v y e ey =
      let (loud, same) = entered_refused f v e in
      let test = ne_eqb (reading_names f).number 0 loud in
      let whole : written_of (reading_names f) 0 ≡ seated_written f ws table (length out) = rw (fits, test) (rw test) in
      (ey ∙ ap (λ (x : Verdict). written_of x 0) same ∙ whole, rw (fits, test) (rw test))

  pub seated_done : (h : Head) (y : Written) (out' : List ℕ) → entered f ≡ Ok h → y ≡ written_by (contents_at f h) table ws → out' ≡ out_by (contents_at f h) table ws out
      → (y ≡ seated_written f ws table (length out)) × (out' ≡ seated_over f ws table out)
  unfolding seated_running seated_over seated_length
  seated_done h y out' e ey eo =
      let (laid, same, clean) = entered_fine f h e in
      let C : Contents = contents_at f h in
      let chosen = choose_written (seats_bar C table) (stopped (plainly (ran_seated C table ws))) (2 * length (ran_words (plainly (ran_seated C table ws)))) in
      (ey ∙ chosen ∙ rw (fits, clean, same), eo ∙ rw (fits, clean, same))

-- the table's test, as code makes it
pub fits_short : (l : List ℕ) (roles : ℕ) → (eqb (length l) roles && small_seats l) ≡ true → length l ≡ roles
fits_short l roles e = eqb-true (length l) roles ((and-eq-true_iff (eqb (length l) roles) (small_seats l)).0 e).0

pub test_is : (C : Contents) (table : List ℕ) (roles : ℕ) (r : Bool) → length C.roles ≡ roles → r ≡ (eqb (length table) roles && small_seats table) → r ≡ (eqb (length table) (length C.roles) && small_seats table)
test_is C table roles r e er = er ∙ ap (λ (x : ℕ). eqb (length table) x && small_seats table) (sym e)
