use Rattle.std.proofs.Common.{◌≡◌, ◌+◌}
use Rattle.std.proofs.Math.Seq.{paste}
use Rattle.steps.proofs.records.put_thread.Given as goal

-- the first k variables are stored
abbrev pub invariant-loop-k : goal.invariant-loop-k
invariant-loop-k l = l.threads ≡ paste l.initial.threads (l.at + 3) l.t.vars l.k
