-- What callers get, from the laws of sentences.
use Prim.Native.Nat.{ℕ, ◌+◌, ◌≤◌, ◌<◌}
use mathlib.Core.Path.{◌≡◌, refl, sym, ap, ◌∙◌}
use mathlib.Core.Bool.{Bool, true, false, cond, ◌&&◌, and-eq-true_iff}
use mathlib.Core.List.{List, [], ◌++◌}
use mathlib.Core.Logic.{◌↔◌, ◌≢◌}
use native.Mathlib.Omega.{arith}
use lib.Dec.{leb}
use lib.ListN.{length, take, drop}
use lib.Seq.{drop-append_seam, take-append_seam}
use borrow.Author.Tests.{leb-true, leb-false, le-leb}
use Rattle.phrases.specs.Table.{last_number, row_count, count_row, ending_row, meaning_row}
use Rattle.phrases.specs.Phrases.{phrases, phrase, leading}
use Rattle.reasons.specs.declared.Reason.{Reason}
use Rattle.reasons.specs.IsReason.{IsReason, decimal_value}
use Rattle.reasons.specs.Reasons.{is_reason, digits_of, sentence, no_reason, understood, reason_length, reason_over, has_meaning, meaning, meaning_length, meaning_over}
use Rattle.reasons.proofs.DigitLaws.{digits_value}
use Rattle.reasons.proofs.ReasonTests.{reason_exactly}
use Rattle.reasons.proofs.TableBounds.{number_in, meaning_room, sentence_length}
use Rattle.reasons.proofs.ReadBack.{stands, ends, read_back, says_yes, says_no, no_is_no_reason}
use Rattle.reasons.proofs.ReasonAnswers.{meaning_in}

-- where there is a sentence, and where none
pub answered : (r : Reason) (out : List ℕ) → 120 ≤ length out → IsReason r
    → (reason_length r (length out) ≡ length (sentence r)) × (reason_over r out ≡ sentence r ++ drop (length (sentence r)) out)
unfolding reason_length reason_over
answered r out h g = rw (le-leb 120 (length out) h, (reason_exactly r).1 g) (refl, refl)

pub answered_exactly : (r : Reason) (room : ℕ) → (reason_length r room ≢ 0) ↔ ((120 ≤ room) × IsReason r)
unfolding reason_length
answered_exactly r room = (to (leb 120 room && is_reason r) refl, back)
  where
    to : (b : Bool) → (leb 120 room && is_reason r) ≡ b → (cond b (length (sentence r)) 0 ≡ 0 → ⊥) → (120 ≤ room) × IsReason r
    to true e un = let x = (and-eq-true_iff (leb 120 room) (is_reason r)).0 e in (leb-true 120 room x.0, (reason_exactly r).0 x.1)
    to false e un = absurd (un refl)

    back : (120 ≤ room) × IsReason r → cond (leb 120 room && is_reason r) (length (sentence r)) 0 ≡ 0 → ⊥
    back (h, g) z =
        let k : cond (leb 120 room && is_reason r) (length (sentence r)) 0 ≡ length (sentence r) = rw (le-leb 120 room h, (reason_exactly r).1 g) refl in
        let none : ⊥ = omega (arith, k, z, (sentence_length r g).0) in
        none

pub unanswered : (r : Reason) (out : List ℕ) → ((120 ≤ length out) × IsReason r → ⊥) → (reason_length r (length out) ≡ 0) × (reason_over r out ≡ out)
unfolding reason_length reason_over
unanswered r out un = go (leb 120 (length out) && is_reason r) refl
  where
    go : (b : Bool) → (leb 120 (length out) && is_reason r) ≡ b
        → (cond b (length (sentence r)) 0 ≡ 0) × (cond b (sentence r ++ drop (length (sentence r)) out) out ≡ out)
    go true e = let x = (and-eq-true_iff (leb 120 (length out)) (is_reason r)).0 e in absurd (un (leb-true 120 (length out) x.0, (reason_exactly r).0 x.1))
    go false e = (refl, refl)

pub past_sentence : (r : Reason) (out : List ℕ) → drop (reason_length r (length out)) (reason_over r out) ≡ drop (reason_length r (length out)) out
unfolding reason_length reason_over
past_sentence r out = go (leb 120 (length out) && is_reason r)
  where
    go : (b : Bool) → drop (cond b (length (sentence r)) 0) (cond b (sentence r ++ drop (length (sentence r)) out) out) ≡ drop (cond b (length (sentence r)) 0) out
    go true = drop-append_seam (sentence r) (drop (length (sentence r)) out)
    go false = refl

pub read_written : (r : Reason) (out : List ℕ) → 120 ≤ length out → IsReason r → understood (take (reason_length r (length out)) (reason_over r out)) ≡ r
read_written r out h g =
    let x = answered r out h g in
    ap (λ (n : ℕ). understood (take n (reason_over r out))) x.0 ∙ ap (λ (q : List ℕ). understood (take (length (sentence r)) q)) x.1
    ∙ ap understood (take-append_seam (sentence r) (drop (length (sentence r)) out)) ∙ read_back r g

-- what is read
pub understood_exactly : (s : List ℕ) (r : Reason) → IsReason r → (understood s ≡ r) ↔ (sentence r ≡ s)
understood_exactly s r g = (λ e. to e, λ e. ap understood (sym e) ∙ read_back r g)
  where
    to : understood s ≡ r → sentence r ≡ s
    to e =
        let some : (understood s).number ≡ 0 → ⊥ = λ z. (let none : ⊥ = omega (arith, z, ap (λ (q : Reason). q.number) e, (number_in r.number r.counts g.0).0) in none) in
        ap sentence (sym e) ∙ (says_yes s some).written

pub no_exactly : (s : List ℕ) → (understood s ≡ no_reason) ↔ ((r : Reason) → IsReason r → sentence r ≢ s)
no_exactly s = (λ e. says_no s (ap (λ (q : Reason). q.number) e), λ none. back none)
  where
    back : ((r : Reason) → IsReason r → sentence r ≢ s) → understood s ≡ no_reason
    back none = go (leb 1 (understood s).number) refl
      where
        go : (b : Bool) → leb 1 (understood s).number ≡ b → understood s ≡ no_reason
        go true e =
            let l : 1 ≤ (understood s).number = leb-true 1 (understood s).number e in
            let w = says_yes s (λ z. (let no : ⊥ = omega (arith, l, z) in no)) in
            absurd (none (understood s) w.given w.written)
        go false e = no_is_no_reason s (omega (arith, leb-false 1 (understood s).number e))

-- the rule at each two rows
pub none_begins_another : (i j : ℕ) → i < row_count → j < row_count → i ≢ j → (x : List ℕ) → phrase i ++ x ≢ phrase j
none_begins_another i j l m un x e = un (sym (stands i l x) ∙ ap (leading phrases) e ∙ ends j m)

pub in-decimal : (p : ℕ) → p ≤ 65535 → decimal_value 0 (digits_of 5 p) ≡ p
in-decimal p l = digits_value 5 p (omega (arith, l))

-- the meaning alone
pub meaning_exactly : (n room : ℕ) → (meaning_length n room ≢ 0) ↔ ((120 ≤ room) × (1 ≤ n) × (n ≤ last_number))
unfolding meaning_length meaning has_meaning
meaning_exactly n room = (to (leb 120 room) (leb 1 n && leb n last_number) refl refl, back)
  where
    to : (a b : Bool) → leb 120 room ≡ a → (leb 1 n && leb n last_number) ≡ b → (cond a (length (cond b (phrase (meaning_row n)) [])) 0 ≡ 0 → ⊥) → (120 ≤ room) × (1 ≤ n) × (n ≤ last_number)
    to true true d e un = let x = (and-eq-true_iff (leb 1 n) (leb n last_number)).0 e in (leb-true 120 room d, leb-true 1 n x.0, leb-true n last_number x.1)
    to true false d e un = absurd (un refl)
    to false b d e un = absurd (un refl)

    back : (120 ≤ room) × (1 ≤ n) × (n ≤ last_number) → cond (leb 120 room) (length (cond (leb 1 n && leb n last_number) (phrase (meaning_row n)) [])) 0 ≡ 0 → ⊥
    back (h, l, u) z =
        let k : cond (leb 120 room) (length (cond (leb 1 n && leb n last_number) (phrase (meaning_row n)) [])) 0 ≡ length (phrase (meaning_row n)) =
        rw (le-leb 120 room h, le-leb 1 n l, le-leb n last_number u) refl in
        let none : ⊥ = omega (arith, k, z, (meaning_room n l u).0) in
        none

pub meaning_most : (n room : ℕ) → meaning_length n room ≤ 120
unfolding meaning_length meaning
meaning_most n room = go (leb 120 room) (has_meaning n) refl
  where
    go : (a b : Bool) → has_meaning n ≡ b → cond a (length (cond b (phrase (meaning_row n)) [])) 0 ≤ 120
    go true true e = let w = meaning_in n e in omega (arith, (meaning_room n w.0 w.1).1)
    go true false e = omega arith
    go false b e = omega arith

pub past_meaning : (n : ℕ) (out : List ℕ) → drop (meaning_length n (length out)) (meaning_over n out) ≡ drop (meaning_length n (length out)) out
unfolding meaning_length meaning_over
past_meaning n out = go (leb 120 (length out))
  where
    go : (b : Bool) → drop (cond b (length (meaning n)) 0) (cond b (meaning n ++ drop (length (meaning n)) out) out) ≡ drop (cond b (length (meaning n)) 0) out
    go true = drop-append_seam (meaning n) (drop (length (meaning n)) out)
    go false = refl

-- a sentence begins with its number's meaning
pub meaning_first : (r : Reason) → IsReason r → (rest : List ℕ) × (sentence r ≡ meaning r.number ++ rest)
unfolding sentence meaning has_meaning
meaning_first r g =
    let x = number_in r.number r.counts g.0 in (
      phrase (count_row r.counts) ++ (digits_of 5 r.place ++ phrase (ending_row r.tag)),
      rw (le-leb 1 r.number x.0, le-leb r.number last_number x.1) refl,
    )

-- .. and has its four parts
pub in_parts : (r : Reason) → IsReason r → sentence r ≡ meaning r.number ++ (phrase (10 + r.counts) ++ (digits_of 5 r.place ++ phrase r.tag))
unfolding sentence meaning has_meaning
in_parts r g =
    let x = number_in r.number r.counts g.0 in rw (le-leb 1 r.number x.0, le-leb r.number last_number x.1) refl

pub meant : (n : ℕ) (out : List ℕ) → 120 ≤ length out → (meaning_length n (length out) ≡ length (meaning n)) × (meaning_over n out ≡ meaning n ++ drop (length (meaning n)) out)
unfolding meaning_length meaning_over
meant n out h = rw (le-leb 120 (length out) h) (refl, refl)
