use Prim.Native.Nat.{◌-◌}
use mathlib.Core.Path.{◌≡◌}
use lib.ListN.{drop}
use Rattle.steps.specs.Records.{threads_in, record_at}
use Rattle.seating.specs.SeatTables.{gathered}
use Rattle.seating.proofs.sessions.sessions_in.Given as goal

-- The invariant: the sessions from here on, put into what is gathered so far, are those of the whole.
abbrev pub invariant-loop-i : goal.invariant-loop-i
invariant-loop-i l = gathered (threads_in l.threads (record_at l.i) (l.count - l.i)) (drop l.i l.owners) l.role.0 l.m ≡ gathered (threads_in l.threads 0 l.count) l.owners l.role.0 0
