-- The plan in force: which of two notices is, and which part of it is handed back.
use Rattle.std.specs.Prelude.{ℕ, ◌+◌, Bool, cond, ◌&&◌, ◌||◌, List, eqb, leb, ltb, length, take, drop}
use Rattle.format.specs.Words.{word_at}
use Rattle.checking.specs.Check.{reading_names}
use Rattle.notices.specs.declared.InForce.{InForce}

-- "one word with the first day of validity (days since 1 January 2000), one word with the file's length in bytes, then the file"
abbrev pub first_day : List ℕ → ℕ
first_day n = word_at n 0

abbrev pub length_word : List ℕ → ℕ
length_word n = word_at n 1

abbrev pub file_of : List ℕ → List ℕ
file_of n = drop 4 n

-- the length word is the number of bytes after it, and 1 to 10 refuse nothing of the file
unfoldable pub is_sound : List ℕ → Bool
is_sound n = eqb (length n) (4 + length_word n) && eqb (reading_names (file_of n)).number 0

-- by the first days of two sound notices, the second is in force: it has begun, and the first has not, or begins no later
abbrev pub second_holds : ℕ → ℕ → ℕ → Bool
second_holds a b day = leb b day && (ltb day a || leb a b)

-- a refusal, with the empty part of the first notice
abbrev pub unheld : ℕ → ℕ → InForce
unheld n p = record { number = n; place = p; notice = 1; at = 0; length = 0 }

-- the file of a notice
abbrev pub held : ℕ → ℕ → InForce
held notice length = record { number = 0; place = 0; notice = notice; at = 4; length = length }

-- of two sound notices
abbrev pub by_days : List ℕ → List ℕ → ℕ → InForce
by_days first second day =
    cond (second_holds (first_day first) (first_day second) day) (held 2 (length_word second))
    (cond (leb (first_day first) day) (held 1 (length_word first)) (unheld 28 0))

unfoldable pub plan_in_force : List ℕ → List ℕ → ℕ → InForce
plan_in_force first second day = cond (is_sound first) (cond (is_sound second) (by_days first second day) (unheld 27 2)) (unheld 27 1)

-- of what belongs to the first notice and to the second, that of the one whose part is handed back
abbrev pub of_notice : {A : Type 0} → InForce → A → A → A
of_notice r first second = cond (eqb r.notice 2) second first

-- the bytes of that part, and its place: the block where the notice stands, and the byte of the block at which the part begins
abbrev pub part_of : InForce → List ℕ → List ℕ → List ℕ
part_of r first second = take r.length (drop r.at (of_notice r first second))

abbrev pub place_of : InForce → ℕ × ℕ → ℕ × ℕ → ℕ × ℕ
place_of r first second = ((of_notice r first second).0, r.at + (of_notice r first second).1)
