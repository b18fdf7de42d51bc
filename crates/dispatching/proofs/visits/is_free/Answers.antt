use mathlib.Core.Path.{sym, ◌∙◌}
use Rattle.format.specs.Contents.{contents_at}
use Rattle.steps.specs.Choice.{clinic_of}
use Rattle.steps.specs.Beside.{made_of}
use Rattle.running.specs.Ways.{in_of}
use Rattle.dispatching.proofs.ReceiverLaws.{moved_is, free_is}
use Rattle.dispatching.proofs.visits.is_free.Goals as goal

pub returns-then-has_moved : goal.returns-then-has_moved
returns-then-has_moved c = moved_is _ _ (sym c.has_moved.ensures ∙ c.if-has_moved.true)

pub returns : goal.returns
returns c =
    let a = c.args in
    free_is (in_of (clinic_of (contents_at a.file.now a.head)) (made_of a.beside.now)) a.threads.now a.over c.from.result a.p c.thread_at-t.result _ c.receives_over.result
    (sym c.has_moved.ensures ∙ c.if-has_moved.false) c.from.ensures c.thread_at-t.ensures c.receives_over.ensures
