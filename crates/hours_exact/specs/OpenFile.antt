-- The file as it stands at a minute: the shut roles taken from every user's mask. Grants and starting masks stay.
use Rattle.std.specs.Prelude.{ℕ, ◌<◌, List, map}
use Rattle.masks.specs.Mask.{minus}
use Rattle.hours.specs.Hours.{rows, row_at, RowFits, shut}
use Rattle.reading_exact.specs.File.{File}

-- a file with other users' masks
abbrev pub with_users : List ℕ → File → File
with_users us F = record {
  users = us;
  grants = F.grants;
  kinds = F.kinds;
  channels = F.channels;
  sessions = F.sessions;
}

-- t is the table of hours, m the minute
abbrev pub open_file : List ℕ → ℕ → File → File
open_file t m F = with_users (map (λ mask. minus mask (shut t m)) F.users) F

-- every row of the table names one of so many roles, and minutes of the week, the first below the end
abbrev pub RowsFit : ℕ → List ℕ → Type 0
RowsFit roles t = (i : ℕ) → i < rows t → RowFits roles (row_at t i)
