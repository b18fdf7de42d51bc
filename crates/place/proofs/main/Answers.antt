use mathlib.Core.Path.{sym}
use native.Mathlib.Omega.{arith}
use lib.Seq.{length-take-le}
use Rattle.placing.proofs.PlaceLaws.{answer_short}
use Rattle.place.proofs.main.Goals as goal

pub slice_bounds-out-end : goal.slice_bounds-out-end
slice_bounds-out-end c =
    let p = c.place-placed in
    omega (arith, answer_short _ _ p.result p.ensures.0, c.from-length.ensures)

pub slice_bounds-write_bytes-end-2 : goal.slice_bounds-write_bytes-end-2
slice_bounds-write_bytes-end-2 c =
    let p = c.place-placed in
    sym (length-take-le c.from-length.result p.new.out (omega (arith, answer_short _ _ p.result p.ensures.0, c.from-length.ensures)))
