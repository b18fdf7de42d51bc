-- Every sentence has its parts in the table, and 1 to 120 bytes.
use Prim.Native.Nat.{ℕ, ◌+◌, ◌-◌, ◌≤◌, ◌<◌}
use mathlib.Core.Path.{◌≡◌, refl, ap, ◌∙◌}
use mathlib.Core.Bool.{Bool, true, ◌&&◌, and-eq-true_iff}
use mathlib.Core.List.{◌++◌}
use native.Mathlib.Omega.{arith}
use lib.Dec.{leb}
use lib.ListN.{length, length-append}
use borrow.Author.Tests.{leb-true}
use Rattle.phrases.specs.Table.{in_words, last_count, last_number, row_count, ending_row, count_row, meaning_row}
use Rattle.phrases.specs.Phrases.{phrases, phrase, spelled}
use Rattle.phrases.proofs.PhraseLaws.{at_each, at_each_lem}
use Rattle.reasons.specs.declared.Reason.{Reason}
use Rattle.reasons.specs.IsReason.{MayCount, of_file, of_record, of_start, of_tree, of_step, of_chosen, of_placing, of_placing_node, of_unserved, of_room, of_lent, of_thread, of_pair, of_junior, of_minute, of_row, of_closed, of_joining, of_overfilled, of_unseated, of_notice, of_neither, TagFits, some_tag, no_tag, IsReason}
use Rattle.reasons.specs.Reasons.{digits_of, sentence}
use Rattle.reasons.proofs.DigitLaws.{no_digit_first, digits_length}

-- computed over the table: no ending begins with a digit, and the lengths
abbrev ending : ℕ → Bool
ending i = no_digit_first (phrase i) && (leb 1 (length (phrase i)) && leb (length (phrase i)) 16)

abbrev counting : ℕ → Bool
counting i = leb (length (phrase (count_row i))) 12

abbrev meaning_test : ℕ → Bool
meaning_test i = leb 1 (length (phrase (meaning_row (1 + i)))) && leb (length (phrase (meaning_row (1 + i)))) 87

endings : at_each ending 10 ≡ true
unfolding at_each no_digit_first phrase phrases spelled in_words
endings = refl

countings : at_each counting (last_count + 1) ≡ true
unfolding at_each phrase phrases spelled in_words
countings = refl

meanings : at_each meaning_test last_number ≡ true
unfolding at_each phrase phrases spelled in_words
meanings = refl

pub meaning_room : (n : ℕ) → 1 ≤ n → n ≤ last_number → (1 ≤ length (phrase (meaning_row n))) × (length (phrase (meaning_row n)) ≤ 87)
meaning_room n l u =
    let i = n - 1 in
    let p = phrase (meaning_row (1 + i)) in
    let e : length p ≡ length (phrase (meaning_row n)) = ap (λ (m : ℕ). length (phrase m)) (let k : meaning_row (1 + i) ≡ meaning_row n = omega (arith, l) in k) in
    let x = (and-eq-true_iff (leb 1 (length p)) (leb (length p) 87)).0 (at_each_lem meaning_test last_number meanings i (omega (arith, l, u))) in
    (omega (arith, e, leb-true 1 (length p) x.0), omega (arith, e, leb-true (length p) 87 x.1))

ending_at : (t : ℕ) → t ≤ 9 → ending t ≡ true
ending_at t l = at_each_lem ending 10 endings t (omega (arith, l))

pub ending_plain : (t : ℕ) → t ≤ 9 → no_digit_first (phrase (ending_row t)) ≡ true
ending_plain t l = ((and-eq-true_iff (no_digit_first (phrase t)) (leb 1 (length (phrase t)) && leb (length (phrase t)) 16)).0 (ending_at t l)).0

ending_room : (t : ℕ) → t ≤ 9 → (1 ≤ length (phrase (ending_row t))) × (length (phrase (ending_row t)) ≤ 16)
ending_room t l =
    let x = (and-eq-true_iff (leb 1 (length (phrase t))) (leb (length (phrase t)) 16)).0
    ((and-eq-true_iff (no_digit_first (phrase t)) (leb 1 (length (phrase t)) && leb (length (phrase t)) 16)).0 (ending_at t l)).1 in
    (leb-true 1 (length (phrase t)) x.0, leb-true (length (phrase t)) 16 x.1)

count_room : (c : ℕ) → c ≤ last_count → length (phrase (count_row c)) ≤ 12
count_room c l = leb-true (length (phrase (count_row c))) 12 (at_each_lem counting (last_count + 1) countings c (omega (arith, l)))

-- numbers, counts and tags of given reasons are in the table
pub number_in : (n c : ℕ) → MayCount n c → (1 ≤ n) × (n ≤ last_number) × (c ≤ last_count)
number_in n c (of_file l u e) = (omega (arith, l, u, e), omega (arith, l, u, e), omega (arith, l, u, e))
number_in n c (of_record i e) = (omega (arith, i, e), omega (arith, i, e), omega (arith, i, e))
number_in n c (of_start i e) = (omega (arith, i, e), omega (arith, i, e), omega (arith, i, e))
number_in n c (of_tree l u e) = (omega (arith, l, u, e), omega (arith, l, u, e), omega (arith, l, u, e))
number_in n c (of_step l u e) = (omega (arith, l, u, e), omega (arith, l, u, e), omega (arith, l, u, e))
number_in n c (of_chosen l u e) = (omega (arith, l, u, e), omega (arith, l, u, e), omega (arith, l, u, e))
number_in n c (of_placing i e) = (omega (arith, i, e), omega (arith, i, e), omega (arith, i, e))
number_in n c (of_placing_node i e) = (omega (arith, i, e), omega (arith, i, e), omega (arith, i, e))
number_in n c (of_unserved i e) = (omega (arith, i, e), omega (arith, i, e), omega (arith, i, e))
number_in n c (of_room l u e) = (omega (arith, l, u, e), omega (arith, l, u, e), omega (arith, l, u, e))
number_in n c (of_lent i e) = (omega (arith, i, e), omega (arith, i, e), omega (arith, i, e))
number_in n c (of_thread i e) = (omega (arith, i, e), omega (arith, i, e), omega (arith, i, e))
number_in n c (of_pair l u e) = (omega (arith, l, u, e), omega (arith, l, u, e), omega (arith, l, u, e))
number_in n c (of_junior i e) = (omega (arith, i, e), omega (arith, i, e), omega (arith, i, e))
number_in n c (of_minute i e) = (omega (arith, i, e), omega (arith, i, e), omega (arith, i, e))
number_in n c (of_row i e) = (omega (arith, i, e), omega (arith, i, e), omega (arith, i, e))
number_in n c (of_closed i e) = (omega (arith, i, e), omega (arith, i, e), omega (arith, i, e))
number_in n c (of_joining i e) = (omega (arith, i, e), omega (arith, i, e), omega (arith, i, e))
number_in n c (of_overfilled i e) = (omega (arith, i, e), omega (arith, i, e), omega (arith, i, e))
number_in n c (of_unseated i e) = (omega (arith, i, e), omega (arith, i, e), omega (arith, i, e))
number_in n c (of_notice i e) = (omega (arith, i, e), omega (arith, i, e), omega (arith, i, e))
number_in n c (of_neither i e) = (omega (arith, i, e), omega (arith, i, e), omega (arith, i, e))

pub tag_in : (n c t : ℕ) → TagFits n c t → t ≤ 9
tag_in n c t (some_tag g l) = omega (arith, l)
tag_in n c t (no_tag un e) = omega (arith, e)

pub record InTable (r : Reason) : Type 0 where
  pub number_row : meaning_row r.number < row_count
  pub counts_row : count_row r.counts < row_count
  pub tag_row : ending_row r.tag < row_count
  pub some : 1 ≤ length (phrase (ending_row r.tag))
  pub room : length (phrase (meaning_row r.number)) + (length (phrase (count_row r.counts)) + (5 + length (phrase (ending_row r.tag)))) ≤ 120

pub parts : (r : Reason) → IsReason r → InTable r
parts r g =
    let x = number_in r.number r.counts g.0 in
    let t : r.tag ≤ 9 = tag_in r.number r.counts r.tag g.2 in
    let e = ending_room r.tag t in
    record {
      number_row = omega (arith, x.1);
      counts_row = omega (arith, x.2);
      tag_row = omega (arith, t);
      some = e.0;
      room = omega (arith, (meaning_room r.number x.0 x.1).1, count_room r.counts x.2, e.1);
    }

pub sentence_length : (r : Reason) → IsReason r → (1 ≤ length (sentence r)) × (length (sentence r) ≤ 120)
unfolding sentence
sentence_length r g =
    let w = parts r g in
    let a = phrase (meaning_row r.number) in
    let b = phrase (count_row r.counts) in
    let d = digits_of 5 r.place in
    let e = phrase (ending_row r.tag) in
    let l : length (a ++ (b ++ (d ++ e))) ≡ length a + (length b + (length d + length e)) =
    length-append a (b ++ (d ++ e)) ∙ ap (λ (m : ℕ). length a + m) (length-append b (d ++ e) ∙ ap (λ (m : ℕ). length b + m) (length-append d e)) in
    (omega (arith, l, w.some), omega (arith, l, w.room, digits_length 5 r.place))
