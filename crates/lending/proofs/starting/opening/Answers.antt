use Rattle.format.specs.Contents.{contents_at}
use Rattle.choices.specs.Choices.{start}
use Rattle.lending.proofs.StartingLaws.{opening-is}
use Rattle.lending.proofs.starting.opening.Goals as goal

pub returns : goal.returns
returns c =
    let a = c.args in
    opening-is (start (contents_at a.file.now a.head)).threads a.k c.narrow.result c.opening.result c.narrow.ensures c.opening.ensures
