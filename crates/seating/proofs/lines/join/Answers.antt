use Prim.Native.Nat.{ℕ, ◌+◌, ◌*◌}
use mathlib.Core.Path.{ap}
use native.Mathlib.Omega.{arith}
use lib.ListN.{get_or, set, length-set}
use Rattle.seating.proofs.lines.join.Goals as goal

pub bounds-lines-at-3 : goal.bounds-lines-at-3
bounds-lines-at-3 c =
    let a = c.args in
    omega (arith, length-set a.lines.now (33 * a.row + 1 + c.from.result) a.k, c.requires.0.words)

pub returns : goal.returns
returns c =
    let a = c.args in
    let w = a.lines.now in
    ap (λ (x : ℕ). set (set w (33 * a.row + 1 + x) a.k) (33 * a.row) (get_or w (33 * a.row) 0 + 1)) c.from.ensures
