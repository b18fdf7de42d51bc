-- Rounds with seats of whole files: the round after a run, and what each way through the entry point answers.
use Prim.Native.Nat.{ℕ, ◌+◌, ◌*◌, ◌≤◌, ◌<◌}
use mathlib.Core.Path.{◌≡◌, sym, ap, ap₂, ◌∙◌, subst}
use mathlib.Core.Bool.{true, false, cond, ◌&&◌}
use mathlib.Core.List.{List}
use native.Mathlib.Omega.{arith}
use lib.Dec.{eqb, leb}
use lib.ListN.{length, replicate}
use lib.Seq.{sets}
use borrow.Author.Tests.{eq-eqb, ne_eqb}
use Rattle.format.specs.Contents.{Contents, contents_at}
use Rattle.format.specs.Words.{bytes_of}
use Rattle.format.specs.Answers.{fine, refused}
use Rattle.format.specs.declared.Head.{Head}
use Rattle.format.specs.declared.Verdict.{Verdict}
use Rattle.std.specs.Prelude.{Ok, Err}
use Rattle.checking.specs.Check.{reading_names, entered}
use Rattle.checking.proofs.CheckLaws.{entered_fine, entered_refused}
use Rattle.steps.specs.Choice.{State}
use Rattle.steps.specs.Beside.{thread_count, made_count}
use Rattle.steps.specs.Kept.{state_in}
use Rattle.choices.specs.declared.Progress.{Progress}
use Rattle.choices.specs.Choices.{Ran}
use Rattle.running.specs.Run.{ran_words, stopped}
use Rattle.running.proofs.EntryLaws.{progress_of, stopped_by, put_by}
use Rattle.rounds.specs.Round.{Rounded}
use Rattle.dispatching.specs.declared.Round.{Round}
use Rattle.dispatching.specs.Dispatch.{round_listed, round_answer, no_round}
use Rattle.dispatching.proofs.EntryLaws.{output_words}
use Rattle.seats.specs.Seats.{Limited, limited_of, SeatedState, seated_start}
use Rattle.seating.specs.SeatedRound.{seated_round_of, seated_round_by, seated_ran_by, after_seated_list, seated_both_by, seated_rounding, seated_round_over}
use Rattle.seated.specs.declared.SeatedWent.{SeatedWent}
use Rattle.seated.specs.SeatedTables.{seated_in, Seated}
use Rattle.seated.specs.SeatedLists.{SeatedThrough}
use Rattle.seated.specs.SeatedEntry.{seats_bar}
use Rattle.seated.proofs.EntryLaws.{seated_counts}
use Rattle.seated_rounds.specs.SeatedVisits.{SeatedBack}
use Rattle.seated_rounds.specs.RoundEntry.{round_with_seats, round_out_by}

-- a stopped list has no round
pub none_added : (L : Limited) (refusal : ℕ) (w b os ls l : List ℕ) → (refusal ≡ 0 → ⊥) → Seated L w b os ls → l ≡ replicate 128 0 → SeatedBack L (seated_round_by L refusal (seated_in w b os ls)) 0 w b os ls l
none_added L refusal w b os ls l n z e =
    let t = ne_eqb refusal 0 n in
    record { count = rw t; most = omega arith; words = rw t e; state = rw t; kept = z }

pub round_added : (L : Limited) (refusal r : ℕ) (S : SeatedState) (w b os ls l : List ℕ) → refusal ≡ 0 → SeatedBack L (seated_round_of L S) r w b os ls l → SeatedBack L (seated_round_by L refusal S) r w b os ls l
round_added L refusal r S w b os ls l e A =
    let t = eq-eqb refusal 0 e in
    record { count = rw t A.count; most = A.most; words = rw t A.words; state = rw t A.state; kept = A.kept }

-- a file that 1 to 10 leave clean
module _ (C : Contents) (table ws out : List ℕ) (bar : Verdict) (is : bar ≡ seats_bar C table) where
  number_is : bar.number ≡ (seats_bar C table).number
  number_is = ap (λ (v : Verdict). v.number) is

  pub into_barred : (y : Round) → (bar.number ≡ 0 → ⊥) → y ≡ no_round bar → (y ≡ round_with_seats C table ws) × (out ≡ round_out_by C table ws out)
  into_barred y n ey =
      let t = ne_eqb (seats_bar C table).number 0 (λ q. n (number_is ∙ q)) in
      (ey ∙ ap no_round is ∙ rw t, rw t)

  -- a run, then its round
  module _ (kind : ℕ → ℕ) (b₀ : List ℕ) (own : SeatedWent) (w₁ b₁ os₁ ls₁ : List ℕ) (T : SeatedThrough kind (limited_of C table) (seated_start C) b₀ ws own w₁ b₁ os₁ ls₁)
      (more : ℕ) (w b os ls l : List ℕ) (added : SeatedBack (limited_of C table) (seated_round_by (limited_of C table) own.refusal (seated_in w₁ b₁ os₁ ls₁)) more w b os ls l) where
    abbrev B : Ran
    B = seated_both_by C table ws

    abbrev k : Progress
    k = record { count = own.count + more; refusal = own.refusal }

    count-is : own.count ≡ (seated_ran_by C table ws).count
    count-is = ap (λ (x : SeatedWent). x.count) T.told

    refusal_is : own.refusal ≡ (seated_ran_by C table ws).refusal
    refusal_is = ap (λ (x : SeatedWent). x.refusal) T.told

    same_round : seated_round_by (limited_of C table) own.refusal (seated_in w₁ b₁ os₁ ls₁) ≡ after_seated_list C table ws
    same_round = ap₂ (λ (n : ℕ) (S : SeatedState). seated_round_by (limited_of C table) n S) refusal_is T.state

    after_added : SeatedBack (limited_of C table) (after_seated_list C table ws) more w b os ls l
    after_added = subst (λ (q : Rounded SeatedState). SeatedBack (limited_of C table) q more w b os ls l) same_round added

    pub both_fit : length ws ≤ 130942 → own.count + more < 65536
    both_fit h = omega (arith, h, count-is, (seated_counts (limited_of C table) (seated_start C) ws).0, after_added.most)

    pub both_place : length ws ≤ 130942 → (own.refusal ≡ 0 → ⊥) → own.count + more < 65535
    both_place h n = omega (arith, h, count-is, (seated_counts (limited_of C table) (seated_start C) ws).1 (λ z. n (refusal_is ∙ z)), after_added.most)

    both_is : k ≡ progress_of B
    both_is = (λ j. record { count = count-is j + after_added.count j; refusal = refusal_is j })

    both_state : state_in w b ≡ B.state
    both_state = ap (λ (S : SeatedState). S.state) after_added.state

    pub into_done : (v : Verdict) (n : ℕ) (out' : List ℕ) → bar.number ≡ 0 → v ≡ cond (eqb own.refusal 0) fine (refused own.refusal (own.count + more + 1)) → n ≡ 8 + 4 * made_count b + 24 * thread_count b
        → out' ≡ sets out 0 (bytes_of (ran_words (record { count = own.count + more; refusal = own.refusal; state = state_in w b })))
        → (◌≡◌ {A = Round} (record { number = v.number; place = v.place; length = n; words = l }) (round_with_seats C table ws)) × (out' ≡ round_out_by C table ws out)
    into_done v n out' z ev en eo =
        let t = eq-eqb (seats_bar C table).number 0 (sym number_is ∙ z) in
        let said : v ≡ stopped B = stopped_by B k both_is v ev in
        let long : n ≡ 2 * length (ran_words B) =
        en ∙ output_words B.count B.refusal w b ∙ ap (λ (s : State). 2 * length (ran_words (record { count = B.count; refusal = B.refusal; state = s }))) both_state in
        let whole : ◌≡◌ {A = Round} (record { number = v.number; place = v.place; length = n; words = l }) (round_answer B (after_seated_list C table ws).words) =
        λ j. record { number = (said j).number; place = (said j).place; length = long j; words = after_added.words j } in
        (rw t whole, rw t (put_by B k both_is (state_in w b) out out' both_state eo))

pub round_unfit : (f ws table out : List ℕ) (y : Round) → round_listed (length ws) && leb 1800 (length out) ≡ false → y ≡ no_round (refused 17 0)
    → (y ≡ seated_rounding f ws table (length out)) × (out ≡ seated_round_over f ws table out)
unfolding seated_rounding seated_round_over
round_unfit f ws table out y e ey = (ey ∙ rw e, rw e)

module _ (f ws table out : List ℕ) (fits : round_listed (length ws) && leb 1800 (length out) ≡ true) where
  pub round_refused : (v : Verdict) (y : Round) → entered f ≡ Err v → y ≡ no_round v → (y ≡ seated_rounding f ws table (length out)) × (out ≡ seated_round_over f ws table out)
  unfolding seated_rounding seated_round_over
  round_refused v y e ey =
      let (loud, same) = entered_refused f v e in
      let test = ne_eqb (reading_names f).number 0 loud in
      let whole : no_round (reading_names f) ≡ seated_rounding f ws table (length out) = rw (fits, test) (rw test) in
      (ey ∙ ap no_round same ∙ whole, rw (fits, test) (rw test))

  pub round_done : (h : Head) (y : Round) (out' : List ℕ) → entered f ≡ Ok h → y ≡ round_with_seats (contents_at f h) table ws → out' ≡ round_out_by (contents_at f h) table ws out
      → (y ≡ seated_rounding f ws table (length out)) × (out' ≡ seated_round_over f ws table out)
  unfolding seated_rounding seated_round_over
  round_done h y out' e ey eo = let (laid, same, clean) = entered_fine f h e in (ey ∙ rw (fits, clean, same), eo ∙ rw (fits, clean, same))
