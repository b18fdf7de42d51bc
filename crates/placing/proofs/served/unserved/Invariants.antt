use Prim.Native.Nat.{◌+◌, ◌-◌}
use mathlib.Core.Path.{◌≡◌}
use lib.ListN.{drop}
use Rattle.format.specs.Answers.{refused, first_of}
use Rattle.format.specs.Contents.{contents_at}
use Rattle.states.specs.States.{labelled}
use Rattle.placing.specs.Placing.{unserved_from}
use Rattle.placing.proofs.ServedLaws.{served_at}
use Rattle.placing.proofs.served.unserved.Given as goal

abbrev pub invariant-loop-n : goal.invariant-loop-n
invariant-loop-n l = first_of (served_at (contents_at l.file l.head).nodes l.roles) (refused 15) l.n (l.head.count.nodes + 1 - l.n)
    ≡ unserved_from 1 (labelled (contents_at l.file l.head).nodes (drop 1 l.roles))
