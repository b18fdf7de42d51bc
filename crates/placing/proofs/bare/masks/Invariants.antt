use Prim.Native.Nat.{◌+◌, ◌-◌}
use mathlib.Core.Path.{◌≡◌}
use lib.Dec.{eqb}
use Rattle.format.specs.Answers.{refused, first_of}
use Rattle.format.specs.Contents.{item, no_session, contents_at}
use Rattle.placing.specs.Placing.{masks_answer}
use Rattle.placing.proofs.bare.masks.Given as goal

abbrev pub invariant-loop-n : goal.invariant-loop-n
invariant-loop-n l = first_of (λ k. eqb (item no_session (contents_at l.file l.head).sessions k).mask 0) (λ k. refused 14 0) l.n (l.head.count.sessions + 1 - l.n)
    ≡ masks_answer (contents_at l.file l.head)
