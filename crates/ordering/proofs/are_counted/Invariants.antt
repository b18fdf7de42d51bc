use mathlib.Core.Path.{◌≡◌}
use lib.ListN.{take, drop}
use Rattle.ordering.specs.Order.{all_counted}
use Rattle.ordering.proofs.are_counted.Given as goal

-- The invariant: the first words, so many, are counted.
abbrev pub invariant-loop-owner : goal.invariant-loop-owner
invariant-loop-owner l = all_counted l.n (take l.count l.owners) ≡ all_counted l.n (drop l.owner-index l.owner-items)
