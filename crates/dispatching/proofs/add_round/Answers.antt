use Rattle.format.specs.Contents.{contents_at}
use Rattle.steps.specs.Choice.{clinic_of}
use Rattle.dispatching.proofs.EntryLaws.{none_added, round_added}
use Rattle.dispatching.proofs.add_round.Goals as goal

pub returns-then-refusal-ne0 : goal.returns-then-refusal-ne0
returns-then-refusal-ne0 c =
    let a = c.args in
    none_added (clinic_of (contents_at a.file.now a.head)) a.refusal a.threads.now a.beside.now a.words.now c.if-refusal-ne0.true c.requires.3 c.requires.4

pub returns : goal.returns
returns c =
    let a = c.args in
    round_added (clinic_of (contents_at a.file.now a.head)) a.refusal c.go_round.result _ _ _ _ c.if-refusal-ne0.false c.go_round.ensures
