-- Two notices and a day, in the words of document 02, K12.
use Rattle.std.specs.Prelude.{ℕ, ◌≤◌, ◌<◌, ◌≡◌, ◌≢◌, List, length}
use Rattle.reading_exact.specs.Order.{OfFile}
use Rattle.checking_exact.specs.Faults.{Objection}
use Rattle.notices.specs.Notices.{first_day, length_word, file_of}
use Rattle.notices.specs.declared.InForce.{InForce}

-- "A notice is one word with the first day of validity (days since 1 January 2000), one word with the file's length in bytes, then the file, checked for 1 to 10 only."
pub record Sound (n : List ℕ) : Type 0 where
  pub long : 4 ≤ length n
  pub sized : length_word n ≡ length (file_of n)
  pub passes : (k p : ℕ) → OfFile k → Objection (file_of n) k p → ⊥

-- "27, a notice under 4 bytes, or whose length word is not the number of bytes after it, or whose file is refused"
pub data Unsound (n : List ℕ) : Type 0 where
  short : length n < 4 → Unsound n
  another_length : length_word n ≢ length (file_of n) → Unsound n
  file_refused : (k p : ℕ) → OfFile k → Objection (file_of n) k p → Unsound n

-- its first day is "not after that day"
abbrev pub Begun : List ℕ → ℕ → Type 0
Begun n day = first_day n ≤ day

-- "Of two lent notices and a day, the one with the later first day not after that day supersedes; with equal first days, the second."
-- Only those that have begun compete; 1 is the first and 2 the second.
pub data Supersedes (first second : List ℕ) (day : ℕ) : ℕ → Type 0 where
  the-first : Begun first day → (Begun second day → first_day second < first_day first) → Supersedes first second day 1
  the_second : Begun second day → (Begun first day → first_day first ≤ first_day second) → Supersedes first second day 2

-- "A refusal hands back an empty part of the first notice."
abbrev pub nothing_held : ℕ → ℕ → InForce
nothing_held n p = record { number = n; place = p; notice = 1; at = 0; length = 0 }

-- the file of notice k: all its bytes after the first 4
abbrev pub file_held : ℕ → List ℕ → InForce
file_held k n = record { number = 0; place = 0; notice = k; at = 4; length = length (file_of n) }

-- what is answered, each in its turn
pub data Answers (first second : List ℕ) (day : ℕ) : InForce → Type 0 where
  -- "27 .. place 1 or 2 .., the lower first, before anything else"
  first_unsound : Unsound first → Answers first second day (nothing_held 27 1)
  second_unsound : Sound first → Unsound second → Answers first second day (nothing_held 27 2)
  first_holds : Sound first → Sound second → Supersedes first second day 1 → Answers first second day (file_held 1 first)
  second_holds : Sound first → Sound second → Supersedes first second day 2 → Answers first second day (file_held 2 second)
  -- "28, neither has begun, place 0, last"
  none_begun : Sound first → Sound second → (Begun first day → ⊥) → (Begun second day → ⊥) → Answers first second day (nothing_held 28 0)
