use Rattle.format.specs.Contents.{contents_at}
use Rattle.naming.specs.Scopes.{awaited_by}
use Rattle.steps.specs.Choice.{clinic_of}
use Rattle.choices.specs.Choices.{start}
use Rattle.choices.proofs.TriedLaws.{gone_from}
use Rattle.choices.proofs.list.run_by.Goals as goal

pub returns : goal.returns
returns c =
    let a = c.args in
    let F = contents_at a.file.now a.head in
    let opened = c.open_run.ensures in
    let went = c.go_through-went in
    (gone_from (awaited_by a.table.now) (clinic_of F) (start F) a.beside.now a.choices.now _ _ _ _ went.result opened.0 opened.2 went.ensures, opened.3, opened.4)
