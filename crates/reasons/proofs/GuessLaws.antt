-- The guess from the parts that the reader finds, and what is answered for it.
use Prim.Native.Nat.{ℕ, ◌+◌, ◌-◌, ◌<◌}
use mathlib.Core.Path.{◌≡◌, sym, ap, ◌∙◌}
use mathlib.Core.Bool.{Bool, false, cond, ◌&&◌, and-false}
use mathlib.Core.List.{List}
use lib.ListN.{length, drop}
use lib.Seq.{drop-drop}
use borrow.Author.Tests.{lt-leb}
use Rattle.phrases.specs.Table.{count_row, meaning_row}
use Rattle.phrases.specs.Phrases.{phrases, phrase, leading, same_bytes}
use Rattle.reasons.specs.declared.Reason.{Reason}
use Rattle.reasons.specs.Reasons.{reason_of, may_count, place_fits, tag_fits, is_reason, sentence, numeral, digits_at, past_digits, guess, no_reason, is_sentence, understood}
use Rattle.reasons.proofs.ReadBack.{four}

pub guess_is : (s : List ℕ) (m a c l p e t n k : ℕ) → m ≡ leading phrases s → a ≡ length (phrase m) → c ≡ leading phrases (drop a s) → l ≡ length (phrase c)
    → p ≡ numeral 5 0 (drop (a + l) s) → e ≡ (a + l) + digits_at 5 (drop (a + l) s) → t ≡ leading phrases (drop e s) → n ≡ m - meaning_row 0 → k ≡ c - count_row 0
    → guess s ≡ reason_of n k p t
unfolding guess
guess_is s m a c l p e t n k hm ha hc hl hp he ht hn hk =
    let first = leading phrases s in
    let rest = drop (length (phrase first)) s in
    let second = leading phrases rest in
    let end = drop (length (phrase second)) rest in
    let e1 : rest ≡ drop a s = ap (λ (i : ℕ). drop (length (phrase i)) s) (sym hm) ∙ ap (λ (i : ℕ). drop i s) (sym ha) in
    let ec : second ≡ c = ap (leading phrases) e1 ∙ sym hc in
    let e2 : end ≡ drop (a + l) s =
    ap (λ (i : ℕ). drop (length (phrase i)) rest) ec ∙ ap (drop (length (phrase c))) e1 ∙ ap (λ (i : ℕ). drop i (drop a s)) (sym hl) ∙ drop-drop l a s in
    let past : drop e s ≡ past_digits 5 (drop (a + l) s) =
    ap (λ (i : ℕ). drop i s) he ∙ sym (drop-drop (digits_at 5 (drop (a + l) s)) (a + l) s) in
    four (first - meaning_row 0) (second - count_row 0) (numeral 5 0 end) (leading phrases (past_digits 5 end)) n k p t
    (ap (λ (i : ℕ). i - meaning_row 0) (sym hm) ∙ sym hn)
    (ap (λ (i : ℕ). i - count_row 0) ec ∙ sym hk)
    (ap (numeral 5 0) e2 ∙ sym hp)
    (ap (λ (q : List ℕ). leading phrases (past_digits 5 q)) e2 ∙ ap (leading phrases) (sym past) ∙ sym ht)

pub guess_kept : (s : List ℕ) (r : Reason) → guess s ≡ r → cond (is_sentence r s) r no_reason ≡ understood s
unfolding understood
guess_kept s r e = sym (ap (λ (q : Reason). cond (is_sentence q s) q no_reason) e)

-- a place above 65,535 is no reason's
pub guess_dropped : (s : List ℕ) (r : Reason) → guess s ≡ r → 65535 < r.place → no_reason ≡ understood s
unfolding understood is_reason
guess_dropped s r e far =
    let no : is_reason r ≡ false =
    ap (λ (b : Bool). may_count r.number r.counts && place_fits r.counts r.place && tag_fits r.number r.counts r.tag && b) (lt-leb r.place 65535 far)
    ∙ and-false (may_count r.number r.counts && place_fits r.counts r.place && tag_fits r.number r.counts r.tag) in
    sym (ap (λ (q : Reason). cond (is_sentence q s) q no_reason) e ∙ ap (λ (b : Bool). cond (b && same_bytes (sentence r) s) r no_reason) no)
