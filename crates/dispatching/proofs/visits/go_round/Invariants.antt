use Prim.Native.Nat.{suc, ◌-◌}
use Rattle.format.specs.Contents.{contents_at}
use Rattle.steps.specs.Choice.{clinic_of}
use Rattle.steps.specs.Kept.{state_in}
use Rattle.dispatching.specs.Dispatch.{round_of}
use Rattle.dispatching.proofs.RoundLaws.{Left}
use Rattle.dispatching.proofs.visits.go_round.Given as goal

abbrev pub invariant-loop-i : goal.invariant-loop-i
invariant-loop-i l = Left (clinic_of (contents_at l.file l.head)) (round_of (clinic_of (contents_at l.file l.head)) (state_in l.initial.threads l.initial.beside)) l.threads l.beside l.words l.i l.there l.moved l.n

abbrev pub decreases-loop-i : goal.decreases-loop-i
decreases-loop-i l = suc l.there - l.i
