use Rattle.std.proofs.Common.{◌<◌, List, arith, length}
use Rattle.format.specs.Contents.{contents_at}
use Rattle.steps.specs.Threads.{no_thread}
use Rattle.steps.specs.declared.Thread.{Thread}
use Rattle.choices.specs.Choices.{start}
use Rattle.lending.proofs.StartingLaws.{start_long}
use Rattle.engine.proofs.StartLaws.{one_more_lem}
use Rattle.engine.proofs.starting.start_records.Goals as goal

-- one thread more is stored
pub loop-k-preserved : goal.loop-k-preserved
loop-k-preserved c =
    let ts : List Thread = (start (contents_at c.args.file.now c.args.head)).threads in
    let in_list : c.loop-k.k < length c.args.list.now = omega arith in
    let session : c.loop-k.k < length ts = omega (arith, start_long c.args.file.now c.args.head) in
    rw (c.loop-k.invariant, c.opening.ensures) (one_more_lem c.args.list.now ts c.loop-k.k no_thread in_list session)
