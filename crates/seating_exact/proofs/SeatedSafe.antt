-- No file that passes the check, and so no placed file, is stopped for a role, with any table: what each function answers.
use Prim.Native.Nat.{ℕ, ◌<◌}
use mathlib.Core.Path.{◌≡◌}
use mathlib.Core.List.{List}
use Rattle.format.specs.Answers.{fine}
use Rattle.checking.specs.Check.{checking}
use Rattle.placing.specs.Placing.{placing, placed_bytes}
use Rattle.placing_exact.proofs.PlacingExact.{placed_well}
use Rattle.reading_exact.specs.Lists.{All}
use Rattle.running_exact.proofs.RunSafe.{NoRole}
use Rattle.seating.specs.SeatedRunning.{seated_running}
use Rattle.seating.specs.SeatsRead.{seats_after}
use Rattle.seating.specs.SeatedRound.{seated_rounding}
use Rattle.seating_exact.proofs.SeatedZeros.{safe_by, answer_safe}
use Rattle.seating_exact.proofs.SeatedRoundAnswers.{seated_round_ends}
use Rattle.seating_exact.proofs.SeatsAnswers.{seats_ends}

pub passed_safe : (f : List ℕ) → checking f ≡ fine → (table ws : List ℕ) (room : ℕ)
    → NoRole (seated_running f ws table room).number × NoRole (seated_rounding f ws table room).number × NoRole (seats_after f ws table).number
passed_safe f passes table ws room = (
  answer_safe f passes table ws room,
  safe_by f passes table ws (seated_round_ends f table ws room),
  safe_by f passes table ws (seats_ends f table ws),
)

pub placed_file_safe : (f : List ℕ) → All (λ b. b < 256) f → (room : ℕ) → (placing f room).number ≡ 0 → (table ws : List ℕ) (room' : ℕ)
    → NoRole (seated_running (placed_bytes f) ws table room').number × NoRole (seated_rounding (placed_bytes f) ws table room').number × NoRole (seats_after (placed_bytes f) ws table).number
placed_file_safe f bytes room placed table ws room' = passed_safe (placed_bytes f) (placed_well f bytes room placed).passes table ws room'
