use mathlib.Core.Path.{◌≡◌}
use lib.ListN.{length}
use Rattle.steps.proofs.ThreadLaws.{Passed}
use Rattle.steps.proofs.Thread.bound.Given as goal

-- The invariant: the variables before k are done, and nothing else of the thread changes.
abbrev pub invariant-loop-k : goal.invariant-loop-k
invariant-loop-k l = (length l.initial.self.vars ≡ 8) × (length l.self.vars ≡ 8) × Passed l.initial.self.vars l.given l.k l.open l.self.vars
    × (l.self.user ≡ l.initial.self.user) × (l.self.node ≡ l.initial.self.node) × (l.self.mask ≡ l.initial.self.mask)
