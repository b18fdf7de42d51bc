use Prim.Native.Nat.{ℕ}
use mathlib.Core.Path.{ap, ◌∙◌}
use Rattle.format.specs.Contents.{contents_at}
use Rattle.steps.specs.declared.Thread.{Thread}
use Rattle.steps.specs.Choice.{clinic_of}
use Rattle.steps.specs.Records.{thread_in, record_at}
use Rattle.dispatching.proofs.visits.tag_at.Goals as goal

pub returns : goal.returns
returns c =
    let a = c.args in
    c.node_tag.ensures
    ∙ ap (λ (t : Thread). ((clinic_of (contents_at a.file.now a.head)).node t.node).tag)
    (c.thread_at-own.ensures ∙ ap (λ (x : ℕ). thread_in a.threads.now (record_at x)) c.from.ensures)
