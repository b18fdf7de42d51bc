use mathlib.Core.Path.{◌≡◌}
use lib.ListN.{take, drop}
use Rattle.rounds.specs.Rounds.{numbers}
use Rattle.seated.proofs.start.number_owners.Given as goal

-- The invariant: the first k threads are the sessions' own, and the words past them stay.
abbrev pub invariant-loop-k : goal.invariant-loop-k
invariant-loop-k l = (take l.k l.owners ≡ numbers 1 l.k) × (drop l.k l.owners ≡ drop l.k l.initial.owners)
