-- What is answered and written, case by case.
use Prim.Native.Nat.{ℕ, ◌+◌, ◌≤◌, ◌<◌}
use mathlib.Core.Path.{◌≡◌, refl, ap, ◌∙◌}
use mathlib.Core.Bool.{true, false, and-eq-true_iff}
use mathlib.Core.List.{List, ◌++◌}
use native.Mathlib.Omega.{arith}
use lib.Dec.{leb}
use lib.ListN.{length, drop}
use borrow.Author.Tests.{le-leb, lt-leb, leb-true}
use Rattle.phrases.specs.Phrases.{put_into, phrase}
use Rattle.reasons.specs.declared.Reason.{Reason}
use Rattle.phrases.specs.Table.{last_number, meaning_row}
use Rattle.reasons.specs.Reasons.{is_reason, sentence, reason_over, reason_length, has_meaning, meaning, meaning_length, meaning_over}
use Rattle.reasons.proofs.ReasonTests.{reason_exactly}
use Rattle.reasons.proofs.TableBounds.{InTable, parts, sentence_length, meaning_room}

abbrev pub SentenceWritten : Reason → List ℕ → ℕ → List ℕ → Type 0
SentenceWritten r out j m = (j ≡ reason_length r (length out)) × (m ≡ reason_over r out)

pub said_short : (r : Reason) (out : List ℕ) → length out < 120 → SentenceWritten r out 0 out
unfolding reason_over reason_length
said_short r out h = rw (lt-leb 120 (length out) h) (refl, refl)

pub said_not : (r : Reason) (out : List ℕ) → 120 ≤ length out → is_reason r ≡ false → SentenceWritten r out 0 out
unfolding reason_over reason_length
said_not r out h v = rw (le-leb 120 (length out) h, v) (refl, refl)

pub said_yes : (r : Reason) (out m : List ℕ) (j : ℕ) → 120 ≤ length out → is_reason r ≡ true → j ≡ length (sentence r) → m ≡ put_into out 0 (sentence r) → SentenceWritten r out j m
unfolding reason_over reason_length put_into
said_yes r out m j h v e k =
    rw (le-leb 120 (length out) h, v)
    (e, k ∙ ap (λ (n : ℕ). sentence r ++ drop n out) (let z : 0 + length (sentence r) ≡ length (sentence r) = omega arith in z))

-- the meaning alone
abbrev pub MeaningWritten : ℕ → List ℕ → ℕ → List ℕ → Type 0
MeaningWritten n out j m = (j ≡ meaning_length n (length out)) × (m ≡ meaning_over n out)

pub meant_short : (n : ℕ) (out : List ℕ) → length out < 120 → MeaningWritten n out 0 out
unfolding meaning_length meaning_over
meant_short n out h = rw (lt-leb 120 (length out) h) (refl, refl)

pub meant_not : (n : ℕ) (out : List ℕ) → 120 ≤ length out → has_meaning n ≡ false → MeaningWritten n out 0 out
unfolding meaning_length meaning_over meaning
meant_not n out h v = rw (le-leb 120 (length out) h, v) (refl, refl)

pub meant_yes : (n : ℕ) (out m : List ℕ) (j : ℕ) → 120 ≤ length out → has_meaning n ≡ true → j ≡ 0 + length (phrase (meaning_row n)) → m ≡ put_into out 0 (phrase (meaning_row n)) → MeaningWritten n out j m
unfolding meaning_length meaning_over meaning put_into
meant_yes n out m j h v e k =
    let z : 0 + length (phrase (meaning_row n)) ≡ length (phrase (meaning_row n)) = omega arith in
    rw (le-leb 120 (length out) h, v) (e ∙ z, k ∙ ap (λ (i : ℕ). phrase (meaning_row n) ++ drop i out) z)

pub meaning_in : (n : ℕ) → has_meaning n ≡ true → (1 ≤ n) × (n ≤ last_number)
unfolding has_meaning
meaning_in n h = let x = (and-eq-true_iff (leb 1 n) (leb n last_number)).0 h in (leb-true 1 n x.0, leb-true n last_number x.1)

-- what the tests say of the room that is needed
pub parts_in : (r : Reason) → is_reason r ≡ true → InTable r
parts_in r v = parts r ((reason_exactly r).0 v)

pub sentence_most : (r : Reason) → is_reason r ≡ true → length (sentence r) ≤ 120
sentence_most r v = (sentence_length r ((reason_exactly r).0 v)).1

pub meaning_fits : (n : ℕ) → has_meaning n ≡ true → (n ≤ last_number) × (length (phrase (meaning_row n)) ≤ 87)
meaning_fits n v = let x = meaning_in n v in (x.1, (meaning_room n x.0 x.1).1)
