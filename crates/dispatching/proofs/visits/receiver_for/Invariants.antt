use Prim.Native.Nat.{◌+◌, ◌-◌}
use mathlib.Core.Path.{◌≡◌}
use Rattle.format.specs.Contents.{contents_at}
use Rattle.steps.specs.Choice.{clinic_of}
use Rattle.steps.specs.Kept.{state_in}
use Rattle.rounds.specs.Round.{receiver_for}
use Rattle.dispatching.specs.Dispatch.{threads_of, comes_to}
use Rattle.dispatching.specs.Marks.{marks_from}
use Rattle.dispatching.proofs.visits.receiver_for.Given as goal

-- The invariant: looking from number p on finds what looking from the first finds.
abbrev pub invariant-loop-p : goal.invariant-loop-p
invariant-loop-p l = receiver_for threads_of (comes_to (clinic_of (contents_at l.file l.head))) (state_in l.threads l.beside) l.i l.p (marks_from l.p (l.there + 1 - l.p) l.moved)
    ≡ receiver_for threads_of (comes_to (clinic_of (contents_at l.file l.head))) (state_in l.threads l.beside) l.i 1 (marks_from 1 l.there l.moved)
