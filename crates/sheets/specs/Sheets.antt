-- The sheet of files, from what each of them adds to it.
use Rattle.std.specs.Prelude.{ℕ, zero, suc, ◌+◌, ◌-◌, ◌*◌, ◌/◌, ◌%◌, ◌≤◌, max, ◌≡◌, List, [], ◌∷◌, cond, eqb, length, get_or, set, replicate}
use Rattle.sheets.specs.Files.{whole_files}
use Rattle.sheets.specs.declared.Entry.{Entry}
use Rattle.sheets.specs.declared.Sheet.{Sheet}

-- one more refusal of a number, in place n - 1; 0 is none
abbrev pub counted : List ℕ → ℕ → List ℕ
counted l n = cond (eqb n 0) l (set l (n - 1) (get_or l (n - 1) 0 + 1))

-- one file more
abbrev pub added : Sheet → Entry → Sheet
added s e = record {
  files = s.files + 1;
  refused = counted s.refused e.number;
  sessions = s.sessions + e.sessions;
  on_steps = s.on_steps + e.on_steps;
  most = max s.most e.most;
  quotient = s.quotient;
  remainder = s.remainder;
}

abbrev pub blank : Sheet
blank = record { files = 0; refused = replicate 28 0; sessions = 0; on_steps = 0; most = 0; quotient = 0; remainder = 0 }

-- "on steps per 1,000 sessions as whole quotient and remainder (both 0 without sessions)"
abbrev pub closed : Sheet → Sheet
closed s = record {
  files = s.files;
  refused = s.refused;
  sessions = s.sessions;
  on_steps = s.on_steps;
  most = s.most;
  quotient = cond (eqb s.sessions 0) 0 (1000 * s.on_steps / s.sessions);
  remainder = cond (eqb s.sessions 0) 0 (1000 * s.on_steps % s.sessions);
}

module _ (entry : List ℕ → Entry) where
  unfoldable pub tally : Sheet → List (List ℕ) → Sheet
  tally s [] = s
  tally s (f ∷ fs) = tally (added s (entry f)) fs

  unfoldable pub sheet_for : List (List ℕ) → Sheet
  sheet_for fs = closed (tally blank fs)

  -- the sheet of an input
  unfoldable pub sheet_of : List ℕ → Sheet
  sheet_of l = sheet_for (whole_files l)

-- what a file's entry keeps within, so that the sums fit in 32 bits
pub record Within (e : Entry) : Type 0 where
  pub numbers : e.number ≤ 28
  pub served : e.sessions ≤ 32
  pub ons : e.on_steps ≤ 1024

-- the figures of at most 1,000 files
pub record Small (s : Sheet) : Type 0 where
  pub few : s.files ≤ 1000
  pub room : length s.refused ≡ 28
  pub each : (i : ℕ) → get_or s.refused i 0 ≤ s.files
  pub served : s.sessions ≤ 32 * s.files
  pub ons : s.on_steps ≤ 1024 * s.files
