use Rattle.format.specs.Contents.{contents_at}
use Rattle.naming.specs.Scopes.{awaited_by}
use Rattle.steps.specs.Choice.{clinic_of}
use Rattle.choices.specs.Stored.{untried}
use Rattle.steps.specs.Kept.{state_in, Sized}
use Rattle.choices.proofs.RunLaws.{Left}
use Rattle.choices.proofs.TriedLaws.{LeftTried}
use Rattle.choices.proofs.list.go_through.Given as goal

-- The invariant: k choices are done, and what is left from here gives what the whole gives, in the tables, beside them and for the last answer.
abbrev pub invariant-loop-k : goal.invariant-loop-k
invariant-loop-k l = Sized l.threads l.beside × Left (clinic_of (contents_at l.file l.head)) (state_in l.initial.threads l.initial.beside) l.choices l.k (state_in l.threads l.beside)
    × LeftTried (awaited_by l.table) (clinic_of (contents_at l.file l.head)) (state_in l.initial.threads l.initial.beside) (untried l.initial.beside) l.choices l.k (state_in l.threads l.beside) (record { beside = l.beside; last = l.last })
