use Rattle.format.specs.Contents.{contents_at}
use Rattle.steps.specs.Beside.{made_of}
use Rattle.running.proofs.WayLaws.{out_held}
use Rattle.running.proofs.pairs.sends_on.Goals as goal

pub returns : goal.returns
returns c =
    let a = c.args in
    out_held (contents_at a.file.now a.head) (made_of a.beside.now) a.t c.node-it.result c.way_at.result c.node-it.ensures c.way_at.ensures
