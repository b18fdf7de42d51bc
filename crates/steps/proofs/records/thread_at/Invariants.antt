use Rattle.std.proofs.Common.{◌≡◌, ◌+◌, drop}
use Rattle.std.proofs.Math.Seq.{paste}
use Rattle.std.specs.Prelude.{replicate}
use Rattle.steps.proofs.records.thread_at.Given as goal

-- the first k variables are copied
abbrev pub invariant-loop-k : goal.invariant-loop-k
invariant-loop-k l = l.vars ≡ paste (replicate 8 0) 0 (drop (l.at + 3) l.threads) l.k
