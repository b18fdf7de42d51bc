use mathlib.Core.Path.{◌≡◌}
use lib.ListN.{length}
use Rattle.rules.specs.Kept.{add_role}
use Rattle.rules.proofs.GrantLaws.{add_from}
use Rattle.rules.proofs.grants.add_role.Given as goal

-- The invariant: with the role added from k on, the tables are what they are to be.
abbrev pub invariant-loop-k : goal.invariant-loop-k
invariant-loop-k l = (length l.sends ≡ 33) × (length l.receives ≡ 33)
    × (add_from l.it.sends l.juniors l.role.0 l.k l.sends ≡ add_role l.it.sends l.juniors l.role.0 0 l.initial.sends)
    × (add_from l.it.receives l.juniors l.role.0 l.k l.receives ≡ add_role l.it.receives l.juniors l.role.0 0 l.initial.receives)
