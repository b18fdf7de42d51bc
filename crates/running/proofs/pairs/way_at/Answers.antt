use Rattle.format.specs.Contents.{contents_at}
use Rattle.steps.specs.Choice.{clinic_of}
use Rattle.steps.specs.Beside.{made_of}
use Rattle.running.proofs.WayLaws.{way_elsewhere, way_there}
use Rattle.running.proofs.pairs.way_at.Goals as goal

pub returns-then-it-tag : goal.returns-then-it-tag
returns-then-it-tag g c =
    let a = c.args in
    way_elsewhere (clinic_of (contents_at a.file.now a.head)) (made_of a.beside.now) a.t g.way a.table.now a.it a.tag c.if-it-tag.true

pub returns : goal.returns
returns g c =
    let a = c.args in
    way_there (clinic_of (contents_at a.file.now a.head)) (made_of a.beside.now) a.t g.way a.table.now a.it a.tag c.works_on.result c.if-it-tag.false c.requires.1 c.works_on.ensures
