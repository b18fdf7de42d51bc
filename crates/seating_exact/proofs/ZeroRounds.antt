-- With all words 0 a round with seats is the round, and what is read of the seats is what is read without them: nobody waits.
use Prim.Native.Nat.{ℕ}
use mathlib.Core.Path.{◌≡◌, refl, sym, ap, ap₂, ◌∙◌, subst}
use mathlib.Core.Bool.{Bool, true, false, cond, ◌&&◌}
use mathlib.Core.List.{List, [], ◌∷◌}
use native.Mathlib.Omega.{arith}
use lib.Dec.{eqb, leb}
use lib.ListN.{length, replicate}
use lib.Seq.{sets}
use Rattle.format.specs.Words.{bytes_of}
use Rattle.format.specs.Answers.{fine, or_else}
use Rattle.format.specs.Contents.{Contents, contents_of, tabled}
use Rattle.format.specs.declared.Verdict.{Verdict}
use Rattle.steps.specs.Choice.{clinic_of, State, choice}
use Rattle.steps.specs.Beside.{totals_in}
use Rattle.choices.specs.Choices.{Ran, ran_of}
use Rattle.running.specs.Run.{ran_words, listed, stopped, unready, beside_of_run, totals_of, totals_after}
use Rattle.reading_exact.specs.Lists.{All}
use Rattle.running_exact.proofs.StepsChosen.{steps_choice}
use Rattle.rounds.specs.Round.{Taken, waits, Rounded}
use Rattle.dispatching.specs.declared.Round.{Round}
use Rattle.dispatching.specs.Dispatch.{threads_of, taken_of, comes_to, round_of, round_by, with_round, after_list, both_by, round_listed, round_answer, no_round, rounding, round_over}
use Rattle.seats.specs.Seats.{Limited, limited_of, SeatedState, thread_node, seated_choice, plainly, last_by, last_in, waits_in, seated_start, seated_ran_of}
use Rattle.seats.specs.SeatOrder.{AsksSeat, SeatedStep, got_none, took_seat, asked_none, refused_plainly}
use Rattle.seats.proofs.SeatedTold.{choice_seated}
use Rattle.seats.proofs.SeatedPlain.{all_steps, zeros_same, free_table}
use Rattle.seating.specs.declared.Seats.{Seats}
use Rattle.seating.specs.SeatsRead.{lines_from, seated_steps_of, seats_of, no_seats, seats_after}
use Rattle.seating.specs.SeatedRound.{seated_threads, seated_round_of, seated_round_by, after_seated_list, seated_both_by, seated_rounding, seated_round_over}
use Rattle.seating_exact.specs.SeatsTold.{ReadsPlainly}
use Rattle.seating_exact.proofs.RoundsMapped.{part_taken, part_rounded, same_round}
use Rattle.seating_exact.proofs.SeatedZeros.{zero_start, unready_same, or_number}
use Rattle.seating_exact.proofs.SeatedFiles.{file_ordered}

abbrev state_of : SeatedState → State
state_of S = S.state

-- no limit: a choice comes to what it does without seats
module _ (L : Limited) (free : (r : ℕ) → L.seats r ≡ 0) where
  none_asks : (S : SeatedState) (i p : ℕ) → AsksSeat L S i p → ⊥
  none_asks S i p A = omega (arith, A.limited, free (thread_node L S i).f1)

  same_choice : (S : SeatedState) (i p : ℕ) → part_taken state_of (seated_choice L S i p) ≡ comes_to L.clinic S.state i p
  same_choice S i p = go (seated_choice L S i p) (choice_seated L S i p)
    where
      go : (a : Taken SeatedState) → SeatedStep L S i p a → part_taken state_of a ≡ comes_to L.clinic S.state i p
      go a (got_none A G) = absurd (none_asks S i p A)
      go a (took_seat A G s st) = absurd (none_asks S i p A)
      go a (asked_none A s st) = sym (ap taken_of (steps_choice L.clinic S.state i p s st))
      go a (refused_plainly A n h) = sym (ap taken_of h)

  same_seated_round : (S : SeatedState) → part_rounded state_of (seated_round_of L S) ≡ round_of L.clinic S.state
  same_seated_round S = same_round state_of seated_threads (seated_choice L) threads_of (comes_to L.clinic) (λ T. refl) same_choice S

  same_by : (n : ℕ) (S : SeatedState) → part_rounded state_of (seated_round_by L n S) ≡ round_by L.clinic n S.state
  same_by n S = go (eqb n 0)
    where
      go : (b : Bool) → ◌≡◌ {A = Rounded State} (record { words = cond b (seated_round_of L S).words []; state = (cond b (seated_round_of L S).state S).state })
          (record { words = cond b (round_of L.clinic S.state).words []; state = cond b (round_of L.clinic S.state).state S.state })
      go true = same_seated_round S
      go false = refl

  -- nor is any answered 26
  last_zero : (ws : List ℕ) (S : SeatedState) → last_in L S 0 ws ≡ 0
  unfolding last_in
  last_zero [] S = refl
  last_zero (i ∷ []) S = refl
  last_zero (i ∷ p ∷ ws) S = go (seated_choice L S i p) (choice_seated L S i p) (last_zero ws)
    where
      go : (a : Taken SeatedState) → SeatedStep L S i p a → ((S' : SeatedState) → last_in L S' 0 ws ≡ 0) → last_by a 0 (λ v S'. last_in L S' v ws) ≡ 0
      go a (got_none A G) f = absurd (none_asks S i p A)
      go a (took_seat A G s st) f = absurd (none_asks S i p A)
      go a (asked_none A s st) f = f _
      go a (refused_plainly A n h) f = refl

module _ (f table : List ℕ) (zeros : All (λ w. w ≡ 0) table) (fits : length table ≡ length (contents_of f).roles) (ws : List ℕ) where
  abbrev C : Contents
  C = contents_of f

  abbrev L : Limited
  L = limited_of C table

  after_same : part_rounded state_of (after_seated_list C table ws) ≡ after_list C ws
  after_same =
      same_by L (free_table table zeros) (seated_ran_of f table ws).refusal (seated_ran_of f table ws).seating
      ∙ ap (λ (r : Ran). round_by (clinic_of C) r.refusal r.state) (zeros_same f table zeros ws)

  both_same : seated_both_by C table ws ≡ both_by C ws
  both_same = ap₂ (λ (r : Ran) (q : Rounded State). with_round r q) (zeros_same f table zeros ws) after_same

  or_round : (v : Verdict) (x : Round) → cond (eqb (or_else v fine).number 0) x (no_round (or_else v fine)) ≡ cond (eqb v.number 0) x (no_round v)
  or_round v x = go (eqb v.number 0) refl
    where
      go : (b : Bool) → eqb v.number 0 ≡ b → cond (eqb (cond b fine v).number 0) x (no_round (cond b fine v)) ≡ cond b x (no_round v)
      go true e = refl
      go false e = rw e

  -- With all words 0 the round's answer and words are those without seats.
  pub zeros_round : (room : ℕ) → seated_rounding f ws table room ≡ rounding f ws room
  unfolding seated_rounding rounding
  zeros_round room =
      let b : Bool = round_listed (length ws) && leb 1800 room in
      let x : Round = round_answer (seated_both_by C table ws) (after_seated_list C table ws).words in
      ap (λ (v : Verdict). cond (eqb v.number 0) x (no_round v)) (unready_same f table zeros fits b) ∙ or_round (unready b f) x
      ∙ ap₂ (λ (r : Ran) (q : Rounded State). cond (eqb (unready b f).number 0) (round_answer r q.words) (no_round (unready b f))) both_same after_same

  -- And so is every byte of its output.
  pub zeros_round_output : (out : List ℕ) → seated_round_over f ws table out ≡ round_over f ws out
  unfolding seated_round_over round_over
  zeros_round_output out =
      let b : Bool = round_listed (length ws) && leb 1800 (length out) in
      ap (λ (v : Verdict). cond (eqb v.number 0) (sets out 0 (bytes_of (ran_words (seated_both_by C table ws)))) out) (unready_same f table zeros fits b)
      ∙ ap₂ (λ (c : Bool) (r : Ran). cond c (sets out 0 (bytes_of (ran_words r))) out) (or_number f table zeros fits (unready b f)) both_same

  no_line : (r : ℕ) → (seated_ran_of f table ws).seating.lines r ≡ []
  no_line r = (file_ordered f table (zero_start f table zeros fits) ws).unlimited r (free_table table zeros r)

  -- What is read: number, place and totals as without seats, and nobody waits.
  pub zeros_read : ReadsPlainly (seats_after f ws table) (totals_after f ws)
  unfolding seats_after totals_after tabled lines_from
  zeros_read = subst (λ (v : Verdict). ReadsPlainly (cond (eqb v.number 0) read (no_seats v)) (totals_after f ws)) (sym (unready_same f table zeros fits (listed (length ws)))) (go (eqb u.number 0) refl)
    where
      u : Verdict
      u = unready (listed (length ws)) f

      read : Seats
      read = seats_of (stopped (plainly (seated_ran_of f table ws))) L (seated_ran_of f table ws).seating (waits_in L (seated_start C) ws) (last_in L (seated_start C) 0 ws) (totals_in (beside_of_run f (seated_steps_of f table ws)))

      none_waits : tabled (λ r. length ((seated_ran_of f table ws).seating.lines r)) 1 16 ≡ replicate 16 0
      none_waits = λ j. tabled (λ r. length (no_line r j)) 1 16

      none_listed : lines_from (seated_ran_of f table ws).seating.lines 1 16 ≡ replicate 512 0
      none_listed = λ j. lines_from (λ r. no_line r j) 1 16

      go : (b : Bool) → eqb u.number 0 ≡ b
          → ReadsPlainly (cond (eqb (cond b fine u).number 0) read (no_seats (cond b fine u))) (cond b (totals_of (stopped (ran_of f ws)) (totals_in (beside_of_run f ws))) (totals_of u (replicate 32 0)))
      go true e =
          let (all, none) = all_steps L (free_table table zeros) ws (seated_start C) in
          record {
            number = ap (λ (r : Ran). (stopped r).number) (zeros_same f table zeros ws);
            place = ap (λ (r : Ran). (stopped r).place) (zeros_same f table zeros ws);
            totals = ap (λ (l : List ℕ). totals_in (beside_of_run f l)) all;
            waited = none;
            last = last_zero L (free_table table zeros) ws (seated_start C);
            waiting = none_waits;
            line = none_listed;
          }
      go false e = rw e (record { number = refl; place = refl; totals = refl; waited = refl; last = refl; waiting = refl; line = refl })
