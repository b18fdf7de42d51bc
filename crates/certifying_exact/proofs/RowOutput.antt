-- A row's words are those of a run's output from the third on, then the sessions, then the lines.
use Prim.Native.Nat.{ℕ, zero, suc, ◌+◌, ◌*◌, ◌≤◌, ◌<◌}
use mathlib.Core.Path.{◌≡◌, refl, sym, ap, ◌∙◌, subst}
use mathlib.Core.List.{List, [], ◌∷◌, ◌++◌, append_assoc}
use mathlib.Core.Bool.{true}
use native.Mathlib.Omega.{arith}
use lib.ListN.{length, get_or, drop, length-append, length-drop, get_or-append}
use lib.Seq.{get_or-drop}
use Rattle.format.specs.Words.{word_at}
use Rattle.format.specs.Contents.{contents_of}
use Rattle.steps.specs.Beside.{made_words}
use Rattle.running.specs.Run.{thread_words, ran_words}
use Rattle.running_exact.specs.Runs.{Fit}
use Rattle.running_exact.proofs.OutputWords.{over_word}
use Rattle.seats.specs.Seats.{SeatedState, SeatedRan, plainly, seated_ran_of}
use Rattle.seating.specs.SeatedRunning.{seated_over, seated_length}
use Rattle.seating_exact.proofs.SeatedAnswers.{ready_number, over_ready, seated_written_lem}
use Rattle.rows.specs.Rows.{line_words, row_words}
use Rattle.certifying.specs.Certificate.{certificate_of, is_row, closing, closed_fine}
use Rattle.certifying_exact.specs.Numbered.{collect}
use Rattle.certifying_exact.specs.ClosingCauses.{Triable}
use Rattle.certifying_exact.proofs.Certified.{schedule_is_a_row}
use Rattle.certifying_exact.proofs.Numbering.{stands_each}
use Rattle.certifying_exact.proofs.ClosingAnswers.{holds_exactly}

-- for each role how many wait, and these
lines_collected : (lines : ℕ → List ℕ) (k r : ℕ) → line_words lines r k ≡ collect (λ x. length (lines x) ∷ lines x) r k
unfolding line_words collect
lines_collected lines zero r = refl
lines_collected lines (suc k) r =
    let one : suc r ≡ r + 1 = omega arith in
    ap (λ (l : List ℕ). length (lines r) ∷ lines r ++ l) (ap (λ (x : ℕ). line_words lines x k) one ∙ lines_collected lines k (r + 1))

pub row_in_parts : (roles : ℕ) (r : SeatedRan)
    → row_words roles r.seating
    ≡ drop 2 (ran_words (plainly r)) ++ (r.seating.owners ++ collect (λ x. length (r.seating.lines x) ∷ r.seating.lines x) 1 roles)
unfolding row_words ran_words
row_in_parts roles r =
    let S : SeatedState = r.seating in
    let m : List ℕ = made_words S.state.made in
    let t : List ℕ = thread_words S.state.threads in
    let rest : List ℕ = S.owners ++ collect (λ x. length (S.lines x) ∷ S.lines x) 1 roles in
    ap (λ (l : List ℕ). length S.state.threads ∷ length S.state.made ∷ l)
    (ap (λ (l : List ℕ). m ++ (t ++ (S.owners ++ l))) (lines_collected S.lines roles 1) ∙ sym (append_assoc m t rest))

-- word i of the row is word i + 2 of the output
row_word : (roles : ℕ) (r : SeatedRan) (i : ℕ) → i + 2 < length (ran_words (plainly r))
    → (i < length (row_words roles r.seating)) × (get_or (row_words roles r.seating) i 0 ≡ get_or (ran_words (plainly r)) (i + 2) 0)
row_word roles r i low =
    let W : List ℕ = ran_words (plainly r) in
    let rest : List ℕ = r.seating.owners ++ collect (λ x. length (r.seating.lines x) ∷ r.seating.lines x) 1 roles in
    let parts = row_in_parts roles r in
    let few : i < length (drop 2 W) = omega (arith, low, length-drop 2 W) in
    let turn : 2 + i ≡ i + 2 = omega arith in (
      omega (arith, few, ap length parts ∙ length-append (drop 2 W) rest),
      ap (λ (l : List ℕ). get_or l i 0) parts ∙ get_or-append (drop 2 W) rest 0 i few ∙ get_or-drop 2 W i 0 ∙ ap (λ (x : ℕ). get_or W x 0) turn,
    )

module _ (f seats states places next : List ℕ) (fine : closing f seats states places next ≡ closed_fine) (ws out : List ℕ) (fit : Fit ws (length out)) where
  abbrev r : SeatedRan
  r = seated_ran_of f seats ws

  T : Triable f seats (length places)
  T = ((holds_exactly f seats states places next).0 fine).0

  length_is : seated_length f ws seats (length out) ≡ 2 * length (ran_words (plainly r))
  unfolding seated_length
  length_is = rw (ready_number f seats ws (length out) fit T.file T.table T.start)

  fits : 2 * length (ran_words (plainly r)) ≤ length out
  fits =
      let (written, bytes) = seated_written_lem f seats ws out fit T.file T.table T.start in
      omega (arith, length_is, bytes, written.size, fit.0)

  -- The state that a run writes stands in a row of the certificate, word by word.
  pub output_is_a_row : (k : ℕ) × (k < length places)
      × ((i : ℕ) → 2 * (i + 2) < seated_length f ws seats (length out) → get_or states (get_or places k 0 + i) 0 ≡ word_at (seated_over f ws seats out) (i + 2))
  output_is_a_row =
      let (k, low, same, stands) = schedule_is_a_row f seats states places next fine ws in (
        k,
        low,
        λ i short.
            let less : i + 2 < length (ran_words (plainly r)) = omega (arith, short, length_is) in
            let (there, word) = row_word (length seats) r i less in
            let over = over_ready f seats ws out fit T.file T.table T.start in
            (stands_each states (row_words (length seats) r.seating) (get_or places k 0) stands i there).1 ∙ word
            ∙ sym (ap (λ (l : List ℕ). word_at l (i + 2)) over ∙ over_word (ran_words (plainly r)) out fits (i + 2) less),
      )
