use Rattle.std.proofs.Common.{◌≡◌}
use Rattle.std.proofs.Math.Seq.{paste}
use Rattle.format.specs.Contents.{contents_at}
use Rattle.choices.specs.Choices.{start}
use Rattle.engine.proofs.starting.start_records.Given as goal

-- the first k threads are stored
abbrev pub invariant-loop-k : goal.invariant-loop-k
invariant-loop-k l = l.list ≡ paste l.initial.list 0 (start (contents_at l.file l.head)).threads l.k
