-- Which reasons there are, by tests; the sentence of each, and what bytes say.
use Rattle.std.specs.Prelude.{ℕ, zero, suc, ◌+◌, ◌-◌, ◌*◌, ◌/◌, ◌%◌, Bool, cond, not, ◌&&◌, ◌||◌, List, [], ◌∷◌, ◌++◌, eqb, leb, ltb, length, drop}
use Rattle.phrases.specs.Table.{last_number, ending_row, count_row, meaning_row}
use Rattle.phrases.specs.Phrases.{phrases, phrase, leading, same_bytes}
use Rattle.reasons.specs.declared.Reason.{Reason}

abbrev pub reason_of : ℕ → ℕ → ℕ → ℕ → Reason
reason_of n c p t = record { number = n; counts = c; place = p; tag = t }

-- the numbers by what is counted
unfoldable pub by_none : ℕ → Bool
by_none n = leb 1 n && leb n 5 || leb 16 n && leb n 18 || eqb n 14 || eqb n 22 || eqb n 25 || eqb n 28

unfoldable pub by_node : ℕ → Bool
by_node n = leb 8 n && leb n 15 || eqb n 24

unfoldable pub by_choice : ℕ → Bool
by_choice n = leb 11 n && leb n 13 || leb 18 n && leb n 20 || eqb n 26

unfoldable pub may_count : ℕ → ℕ → Bool
may_count n c =
    eqb c 0 && by_none n || eqb c 1 && (eqb n 6 || eqb n 21) || eqb c 2 && (eqb n 7 || eqb n 26) || eqb c 3 && by_node n || eqb c 4 && by_choice n || eqb c 5 && eqb n 23
    || eqb c 6 && eqb n 27

unfoldable pub place_fits : ℕ → ℕ → Bool
place_fits c p = eqb c 0 && eqb p 0 || ltb 0 c && ltb 0 p

unfoldable pub at_node : ℕ → ℕ → Bool
at_node n c = leb 9 n && leb n 15 && eqb c 3

unfoldable pub tag_fits : ℕ → ℕ → ℕ → Bool
tag_fits n c t = at_node n c && leb t 8 || not (at_node n c) && eqb t 9

unfoldable pub is_reason : Reason → Bool
is_reason r = may_count r.number r.counts && place_fits r.counts r.place && tag_fits r.number r.counts r.tag && leb r.place 65535

-- a place's digits, at most k, none for 0
unfoldable pub digits_of : ℕ → ℕ → List ℕ
digits_of zero n = []
digits_of (suc k) n = cond (eqb n 0) [] (digits_of k (n / 10) ++ ((48 + n % 10) ∷ []))

-- the last of them
unfoldable pub last_digit : ℕ → List ℕ
last_digit n = cond (eqb n 0) [] ((48 + n % 10) ∷ [])

-- the number's meaning, what is counted, the place, the tag's ending
unfoldable pub sentence : Reason → List ℕ
sentence r = phrase (meaning_row r.number) ++ (phrase (count_row r.counts) ++ (digits_of 5 r.place ++ phrase (ending_row r.tag)))

-- The reader takes the phrase at the start, the next, at most five digits and the phrase after them for the four parts of a sentence, and compares with what would be written.
abbrev pub is_digit : ℕ → Bool
is_digit b = leb 48 b && leb b 57

-- the number that at most k digits at the start say after a
unfoldable pub numeral : ℕ → ℕ → List ℕ → ℕ
numeral zero a s = a
numeral (suc k) a [] = a
numeral (suc k) a (b ∷ s) = cond (is_digit b) (numeral k (10 * a + (b - 48)) s) a

-- how many these digits are, and what is past them
unfoldable pub digits_at : ℕ → List ℕ → ℕ
digits_at zero s = 0
digits_at (suc k) [] = 0
digits_at (suc k) (b ∷ s) = cond (is_digit b) (suc (digits_at k s)) 0

abbrev pub past_digits : ℕ → List ℕ → List ℕ
past_digits k s = drop (digits_at k s) s

-- by the row of the phrase at the start, and what is past that phrase
abbrev pub after_phrase : (ℕ → List ℕ → Reason) → List ℕ → Reason
after_phrase f s = f (leading phrases s) (drop (length (phrase (leading phrases s))) s)

-- the rows of a meaning and of what is counted, and what is past both
abbrev pub with_ending : ℕ → ℕ → List ℕ → Reason
with_ending m c s = reason_of (m - meaning_row 0) (c - count_row 0) (numeral 5 0 s) (leading phrases (past_digits 5 s))

unfoldable pub guess : List ℕ → Reason
guess s = after_phrase (λ m s₁. after_phrase (λ c s₂. with_ending m c s₂) s₁) s

-- no number is 0
abbrev pub no_reason : Reason
no_reason = reason_of 0 0 0 0

abbrev pub is_sentence : Reason → List ℕ → Bool
is_sentence r s = is_reason r && same_bytes (sentence r) s

unfoldable pub understood : List ℕ → Reason
understood s = cond (is_sentence (guess s) s) (guess s) no_reason

-- What is answered with room for so many bytes, and what then stands in an output: "length 0 .. nothing past it is written".
unfoldable pub reason_length : Reason → ℕ → ℕ
reason_length r room = cond (leb 120 room && is_reason r) (length (sentence r)) 0

unfoldable pub reason_over : Reason → List ℕ → List ℕ
reason_over r out = cond (leb 120 (length out) && is_reason r) (sentence r ++ drop (length (sentence r)) out) out

-- the meaning of a number alone, no bytes for another number
unfoldable pub has_meaning : ℕ → Bool
has_meaning n = leb 1 n && leb n last_number

unfoldable pub meaning : ℕ → List ℕ
meaning n = cond (has_meaning n) (phrase (meaning_row n)) []

unfoldable pub meaning_length : ℕ → ℕ → ℕ
meaning_length n room = cond (leb 120 room) (length (meaning n)) 0

unfoldable pub meaning_over : ℕ → List ℕ → List ℕ
meaning_over n out = cond (leb 120 (length out)) (meaning n ++ drop (length (meaning n)) out) out
