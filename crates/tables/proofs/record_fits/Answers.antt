use lib.Dec.{leb}
use mathlib.Core.Path.{ap}
use Rattle.format.proofs.ContentsLaws.{kinds_held}
use Rattle.tables.specs.Records.{record_fits}
use Rattle.tables.proofs.record_fits.Goals as goal

pub returns-in-Kinds : goal.returns-in-Kinds
unfolding record_fits
returns-in-Kinds c =
    let a = c.args in
    rw (c.in-Kinds.is, kinds_held a.file.now a.head) (ap (λ x. leb x a.head.count.kinds) c.carries.ensures)
