use Rattle.format.specs.Contents.{contents_at}
use Rattle.naming.specs.Scopes.{awaited_by}
use Rattle.seated.proofs.OpenLaws.{open_kept, open_through}
use Rattle.seated.proofs.runs.run_seated_by.Goals as goal

pub open_seated-requires : goal.open_seated-requires
open_seated-requires c =
    let p = c.requires in
    (p.0, p.1, p.2, p.3, p.4, p.5, p.6, p.7)

pub go_seated-requires : goal.go_seated-requires
go_seated-requires c =
    let a = c.args in
    let p = c.requires in
    let O = c.open_seated.ensures in
    (p.0, O.1, O.2, p.9, p.10, open_kept (awaited_by a.table.now) (contents_at a.file.now a.head) a.seats.now a.beside.now _ _ _ a.lines.now O.0 p.8 p.11)

pub returns : goal.returns
returns c =
    let a = c.args in
    let p = c.requires in
    let O = c.open_seated.ensures in
    let g = c.go_seated in
    (open_through (awaited_by a.table.now) (contents_at a.file.now a.head) a.seats.now a.beside.now _ _ _ a.lines.now O.0 p.8 a.choices.now g.result _ _ _ _ g.ensures, O.1, O.2)
