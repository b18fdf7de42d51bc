use Prim.Native.Nat.{suc, ◌-◌}
use mathlib.Core.Path.{sym, ap, ◌∙◌}
use native.Mathlib.Omega.{arith}
use lib.ListN.{length}
use Rattle.format.specs.Contents.{contents_at}
use Rattle.seats.specs.Seats.{limited_of}
use Rattle.seating.specs.SeatedRound.{seated_round_of}
use Rattle.seated.specs.SeatedTables.{seated_in}
use Rattle.seated_rounds.proofs.SeatedRoundLaws.{Left, left_begin, length_left, room_for, left_more, left_less, left_ends}
use borrow.Author.Rules.{rules}
use Rattle.seated_rounds.proofs.visits.go_round_seated.Given as goal

-- The invariant: so many choices are written, and what is left from here gives what the whole gives.
abbrev pub invariant-loop-i : goal.invariant-loop-i
invariant-loop-i l = Left (limited_of (contents_at l.file l.head) l.seats) (seated_round_of (limited_of (contents_at l.file l.head) l.seats) (seated_in l.initial.threads l.initial.beside l.initial.owners l.initial.lines)) l.threads l.beside l.owners l.lines l.words l.i l.there l.moved l.n

abbrev pub decreases-loop-i : goal.decreases-loop-i
decreases-loop-i l = suc l.there - l.i
