use Rattle.std.proofs.Common.{◌≡◌, take, drop}
use Rattle.format.specs.Contents.{contents_at}
use Rattle.steps.specs.Beside.{made_of}
use Rattle.lending.specs.Walk.{no_tally, tally_all}
use Rattle.engine.proofs.walk.records_fit.Given as goal

-- what is found so far, and the records from k on, decide
abbrev pub invariant-loop-k : goal.invariant-loop-k
invariant-loop-k l =
    tally_all (contents_at l.file l.head) l.table (made_of l.beside) l.all (drop l.k (take l.n l.list)) ≡ tally_all (contents_at l.file l.head) l.table (made_of l.beside) no_tally (take l.n l.list)
