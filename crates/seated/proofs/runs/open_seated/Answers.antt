use mathlib.Core.Path.{◌∙◌}
use Rattle.format.specs.Contents.{contents_at}
use Rattle.format.proofs.ContentsLaws.{sessions_held}
use Rattle.naming.specs.Scopes.{awaited_by}
use native.Mathlib.Omega.{arith}
use Rattle.seated.proofs.StartLaws.{numbered_first, numbered_length}
use Rattle.seated.proofs.OpenLaws.{opened}
use Rattle.seated.proofs.runs.open_seated.Goals as goal

pub returns : goal.returns
returns c =
    let a = c.args in
    let run = c.open_run.ensures in
    let owners = c.number_owners.ensures in
    let pre = c.requires in (
      opened (awaited_by a.table.now) (contents_at a.file.now a.head) a.beside.now _ _ _ run.0 run.1 run.2 a.head.count.sessions (sessions_held a.file.now a.head)
          (numbered_first _ a.owners.now a.head.count.sessions owners)
          (numbered_length _ a.owners.now a.head.count.sessions (omega (arith, pre.7, pre.0)) owners ∙ pre.7),
      run.3,
      run.4,
    )
