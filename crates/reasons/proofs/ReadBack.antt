-- What is read is what was written; no two given reasons share a sentence.
use Prim.Native.Nat.{ℕ, ◌-◌, ◌≤◌, ◌<◌}
use mathlib.Core.Path.{◌≡◌, refl, sym, ap, ◌∙◌}
use mathlib.Core.Bool.{Bool, true, false, cond, ◌&&◌, and-eq-true_iff}
use mathlib.Core.List.{List, [], ◌∷◌, ◌++◌}
use native.Mathlib.Omega.{arith}
use lib.ListN.{length, drop}
use lib.Seq.{drop-append_seam}
use borrow.Author.Tests.{eq-eqb}
use Rattle.phrases.specs.Table.{row_count, count_row, meaning_row}
use Rattle.phrases.specs.Phrases.{phrases, phrase, leading, same_bytes}
use Rattle.phrases.proofs.PhraseRule.{rule, told}
use Rattle.phrases.proofs.PhraseLaws.{many, same_bytes_lem}
use Rattle.reasons.specs.declared.Reason.{Reason}
use Rattle.reasons.specs.IsReason.{IsReason}
use Rattle.reasons.specs.Reasons.{is_reason, digits_of, sentence, numeral, past_digits, after_phrase, with_ending, guess, no_reason, understood}
use Rattle.reasons.proofs.DigitLaws.{digits_are, digits_length, digits_value, numeral_of, past_of}
use Rattle.reasons.proofs.ReasonTests.{reason_exactly}
use Rattle.reasons.proofs.TableBounds.{number_in, tag_in, ending_plain}

-- a phrase at the start is told, and taken off
pub stands : (i : ℕ) → i < row_count → (x : List ℕ) → leading phrases (phrase i ++ x) ≡ i
unfolding phrase
stands i l x = told phrases rule i (omega (arith, l, many)) x

off : (i : ℕ) → i < row_count → (x : List ℕ) → drop (length (phrase (leading phrases (phrase i ++ x)))) (phrase i ++ x) ≡ x
off i l x = ap (λ k. drop (length (phrase k)) (phrase i ++ x)) (stands i l x) ∙ drop-append_seam (phrase i) x

after_phrase_lem : (f : ℕ → List ℕ → Reason) (i : ℕ) → i < row_count → (x : List ℕ) → after_phrase f (phrase i ++ x) ≡ f i x
after_phrase_lem f i l x =
    ap (λ k. f k (drop (length (phrase (leading phrases (phrase i ++ x)))) (phrase i ++ x))) (stands i l x) ∙ ap (f i) (off i l x)

append-nil : (l : List ℕ) → l ++ [] ≡ l
append-nil [] = refl
append-nil (c ∷ l) = ap (λ m. c ∷ m) (append-nil l)

pub ends : (i : ℕ) → i < row_count → leading phrases (phrase i) ≡ i
ends i l = ap (leading phrases) (sym (append-nil (phrase i))) ∙ stands i l []

pub four : (a b c d a₁ b₁ c₁ d₁ : ℕ) → a ≡ a₁ → b ≡ b₁ → c ≡ c₁ → d ≡ d₁
    → ◌≡◌ {A = Reason} (record { number = a; counts = b; place = c; tag = d }) (record { number = a₁; counts = b₁; place = c₁; tag = d₁ })
four a b c d a₁ b₁ c₁ d₁ p q r s = rw (p, q, r, s) refl

pub guessed : (r : Reason) → IsReason r → guess (sentence r) ≡ r
unfolding guess sentence
guessed r g =
    let x = number_in r.number r.counts g.0 in
    let t : r.tag ≤ 9 = tag_in r.number r.counts r.tag g.2 in
    let pl = ending_plain r.tag t in
    after_phrase_lem (λ m s₁. after_phrase (λ c s₂. with_ending m c s₂) s₁) (meaning_row r.number) (omega (arith, x.1))
    (phrase (count_row r.counts) ++ (digits_of 5 r.place ++ phrase r.tag))
    ∙ after_phrase_lem (λ c s₂. with_ending (meaning_row r.number) c s₂) (count_row r.counts) (omega (arith, x.2)) (digits_of 5 r.place ++ phrase r.tag)
    ∙ four (meaning_row r.number - meaning_row 0) (count_row r.counts - count_row 0) (numeral 5 0 (digits_of 5 r.place ++ phrase r.tag)) (leading phrases (past_digits 5 (digits_of 5 r.place ++ phrase r.tag)))
    r.number r.counts r.place r.tag
    (omega arith) (omega arith)
    (numeral_of 5 0 (digits_of 5 r.place) (phrase r.tag) (digits_length 5 r.place) (digits_are 5 r.place) pl
    ∙ digits_value 5 r.place (omega (arith, g.1.1)))
    (ap (leading phrases) (past_of 5 (digits_of 5 r.place) (phrase r.tag) (digits_length 5 r.place) (digits_are 5 r.place) pl)
    ∙ ends r.tag (omega (arith, t)))

same_bytes_self : (p : List ℕ) → same_bytes p p ≡ true
unfolding same_bytes
same_bytes_self [] = refl
same_bytes_self (x ∷ p) = rw (eq-eqb x x refl) (same_bytes_self p)

-- the reader gives back what was written
pub read_back : (r : Reason) → IsReason r → understood (sentence r) ≡ r
unfolding understood
read_back r g =
    let e : guess (sentence r) ≡ r = guessed r g in
    let v : (is_reason (guess (sentence r)) && same_bytes (sentence (guess (sentence r))) (sentence r)) ≡ true =
    (and-eq-true_iff (is_reason (guess (sentence r))) (same_bytes (sentence (guess (sentence r))) (sentence r))).1
    (ap is_reason e ∙ (reason_exactly r).1 g, ap (λ q. same_bytes (sentence q) (sentence r)) e ∙ same_bytes_self (sentence r)) in
    ap (λ b. cond b (guess (sentence r)) no_reason) v ∙ e

-- .. and says yes exactly to the sentences of given reasons
pub record SentenceOf (s : List ℕ) (r : Reason) : Type 0 where
  pub given : IsReason r
  pub written : sentence r ≡ s

pub says_yes : (s : List ℕ) → ((understood s).number ≡ 0 → ⊥) → SentenceOf s (understood s)
unfolding understood
says_yes s un = go (is_reason (guess s) && same_bytes (sentence (guess s)) s) refl un
  where
    go : (b : Bool) → (is_reason (guess s) && same_bytes (sentence (guess s)) s) ≡ b → ((cond b (guess s) no_reason).number ≡ 0 → ⊥) → SentenceOf s (cond b (guess s) no_reason)
    go true e u =
        let x = (and-eq-true_iff (is_reason (guess s)) (same_bytes (sentence (guess s)) s)).0 e in
        record { given = (reason_exactly (guess s)).0 x.0; written = same_bytes_lem (sentence (guess s)) s x.1 }
    go false e u = absurd (u refl)

pub says_no : (s : List ℕ) → (understood s).number ≡ 0 → (r : Reason) → IsReason r → sentence r ≡ s → ⊥
says_no s z r g e =
    let n : 1 ≤ r.number = (number_in r.number r.counts g.0).0 in
    let m : (understood s).number ≡ r.number = ap (λ q. (understood q).number) (sym e) ∙ ap (λ q. q.number) (read_back r g) in
    let none : ⊥ = omega (arith, n, z, m) in
    absurd none

pub no_is_no_reason : (s : List ℕ) → (understood s).number ≡ 0 → understood s ≡ no_reason
unfolding understood
no_is_no_reason s z = go (is_reason (guess s) && same_bytes (sentence (guess s)) s) refl z
  where
    go : (b : Bool) → (is_reason (guess s) && same_bytes (sentence (guess s)) s) ≡ b → (cond b (guess s) no_reason).number ≡ 0 → cond b (guess s) no_reason ≡ no_reason
    go true e u =
        let x = (and-eq-true_iff (is_reason (guess s)) (same_bytes (sentence (guess s)) s)).0 e in
        let n : 1 ≤ (guess s).number = (number_in (guess s).number (guess s).counts ((reason_exactly (guess s)).0 x.0).0).0 in
        let none : ⊥ = omega (arith, n, u) in
        absurd none
    go false e u = refl

-- no two different given reasons share a sentence
pub one_reason : (r q : Reason) → IsReason r → IsReason q → sentence r ≡ sentence q → r ≡ q
one_reason r q g h e = sym (read_back r g) ∙ ap understood e ∙ read_back q h
