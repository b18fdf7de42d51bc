use Prim.Native.Nat.{◌+◌, ◌-◌}
use mathlib.Core.Path.{◌≡◌}
use lib.Dec.{ltb}
use Rattle.format.specs.Answers.{refused, first_of}
use Rattle.format.specs.Contents.{item, no_node, contents_at}
use Rattle.placing.specs.Placing.{switches_answer}
use Rattle.placing.proofs.bare.switches.Given as goal

abbrev pub invariant-loop-n : goal.invariant-loop-n
invariant-loop-n l = first_of (λ k. ltb (item no_node (contents_at l.file l.head).nodes k).tag 7) (λ k. refused 14 k) l.n (l.head.count.nodes + 1 - l.n)
    ≡ switches_answer (contents_at l.file l.head)
