-- Notices in literal words.
use Rattle.std.specs.Prelude.{ℕ, ◌≡◌, List, [], ◌∷◌, length}
use Rattle.format.specs.Words.{bytes_of}
use Rattle.notices.specs.Notices.{plan_in_force, part_of}

-- two notices by their words, a day, and what is answered
pub data NoticeCase : Type 0 where
  -- the words of the file that is handed back, and of which notice
  hands : List ℕ → List ℕ → ℕ → ℕ → List ℕ → NoticeCase
  -- the refusal: number and place
  is_refused : List ℕ → List ℕ → ℕ → ℕ → ℕ → NoticeCase

abbrev pub NoticeShown : NoticeCase → Type 0
NoticeShown (hands a b day k file) =
    let r = plan_in_force (bytes_of a) (bytes_of b) day in
    (r.number ≡ 0) × (r.place ≡ 0) × (r.notice ≡ k) × (r.at ≡ 4) × (r.length ≡ length (bytes_of file)) × (part_of r (bytes_of a) (bytes_of b) ≡ bytes_of file)
NoticeShown (is_refused a b day n p) = plan_in_force (bytes_of a) (bytes_of b) day ≡ record { number = n; place = p; notice = 1; at = 0; length = 0 }

-- a file of no records but users without a role: 26 bytes, and 2 for each user
abbrev nobody : List ℕ
nobody = 1 ∷ 0 ∷ 0 ∷ 0 ∷ 0 ∷ 0 ∷ 0 ∷ 13 ∷ 13 ∷ 13 ∷ 13 ∷ 13 ∷ 13 ∷ []

abbrev one_user : List ℕ
one_user = 1 ∷ 1 ∷ 0 ∷ 0 ∷ 0 ∷ 0 ∷ 0 ∷ 13 ∷ 14 ∷ 14 ∷ 14 ∷ 14 ∷ 14 ∷ 0 ∷ []

-- a booking of 82 bytes, not placed: user 1 sends on channel 1 and on a channel by its operand, of which there are 257 and 258
abbrev booking : ℕ → List ℕ
booking channel =
    1 ∷ 2 ∷ 2 ∷ 2 ∷ 2 ∷ 1 ∷ 3 ∷ 13 ∷ 15 ∷ 23 ∷ 25 ∷ 29 ∷ 32
    ∷ 3 ∷ 0
    ∷ 1 ∷ 0 ∷ 0 ∷ 0 ∷ 3 ∷ 0 ∷ 0 ∷ 0
    ∷ 0 ∷ 0
    ∷ 2 ∷ 1 ∷ 2 ∷ 2
    ∷ 1 ∷ 0 ∷ 1
    ∷ 6 ∷ 257 ∷ 2 ∷ 6 ∷ channel ∷ 2 ∷ 0 ∷ 0 ∷ 0 ∷ []

-- on 1 January 2026 (day 9,497), on 1 February (9,528), and with zero bytes for a file
abbrev january : List ℕ
january = 9497 ∷ 26 ∷ nobody

abbrev february : List ℕ
february = 9528 ∷ 28 ∷ one_user

abbrev nothing : ℕ → List ℕ
nothing day = day ∷ 0 ∷ []

abbrev pub notice_cases : List NoticeCase
notice_cases =
    is_refused january february 9496 28 0
    ∷ hands january february 9497 1 nobody
    ∷ hands january february 9527 1 nobody
    ∷ hands january february 9528 2 one_user
    ∷ hands january february 65535 2 one_user
    -- whichever stands first
    ∷ hands february january 9497 2 nobody
    ∷ hands february january 9527 2 nobody
    ∷ hands february january 9528 1 one_user
    -- equal first days
    ∷ hands (nothing 9497) january 9497 2 nobody
    ∷ hands january (nothing 9497) 9497 2 []
    ∷ hands (nothing 0) (nothing 65535) 65534 1 []
    -- "checked for 1 to 10 only": the booking, which only the check refuses (13); and one that names a channel out of count (9)
    ∷ hands (9497 ∷ 82 ∷ booking 258) february 9497 1 (booking 258)
    ∷ is_refused (9497 ∷ 82 ∷ booking 259) february 9497 27 1
    -- under 4 bytes, a length word one off either way, a file that is refused; the first before the second, both before the days
    ∷ is_refused [] [] 0 27 1
    ∷ is_refused january [] 9497 27 2
    ∷ is_refused (9497 ∷ []) february 9528 27 1
    ∷ is_refused january (9528 ∷ 27 ∷ one_user) 9528 27 2
    ∷ is_refused (9497 ∷ 27 ∷ nobody) february 9528 27 1
    ∷ is_refused (9497 ∷ 2 ∷ 1 ∷ []) (9528 ∷ []) 0 27 1
    ∷ is_refused january (9528 ∷ 26 ∷ 3 ∷ 0 ∷ 0 ∷ 0 ∷ 0 ∷ 0 ∷ 0 ∷ 13 ∷ 13 ∷ 13 ∷ 13 ∷ 13 ∷ 13 ∷ []) 0 27 2
    ∷ []
