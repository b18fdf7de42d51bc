use Prim.Native.Nat.{◌+◌, ◌-◌}
use mathlib.Core.Bool.{not}
use mathlib.Core.Path.{◌≡◌}
use Rattle.format.specs.Answers.{refused, first_of}
use Rattle.format.specs.Contents.{item, no_node, contents_at}
use Rattle.checking_at.specs.CheckAt.{opens_shut, shut_answer}
use Rattle.checking_at.proofs.shut_on.shut_on.Given as goal

abbrev pub invariant-loop-n : goal.invariant-loop-n
invariant-loop-n l = first_of (λ k. not (opens_shut l.shut (item no_node (contents_at l.file l.head).nodes k))) (λ k. refused 24 k) l.n (l.head.count.nodes + 1 - l.n)
    ≡ shut_answer l.shut (contents_at l.file l.head)
