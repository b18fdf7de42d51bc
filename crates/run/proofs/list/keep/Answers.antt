use native.Mathlib.Omega.{arith}
use Rattle.streams.proofs.KeptLaws.{keeps}
use Rattle.run.specs.WordList.{enough_bytes}
use Rattle.run.proofs.list.keep.Goals as goal

pub returns-clause-buffer_value : goal.returns-clause-buffer_value
returns-clause-buffer_value c =
    let a = c.args in
    keeps enough_bytes a.buffer.now a.kept a.piece c.enough.result c.requires c.enough.ensures.value (omega arith)
