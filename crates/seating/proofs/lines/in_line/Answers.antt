use Prim.Native.Nat.{ℕ, ◌+◌, ◌*◌, ◌-◌}
use mathlib.Core.Path.{◌≡◌, ap, ◌∙◌}
use native.Mathlib.Omega.{arith}
use lib.ListN.{get_or, take, drop}
use Rattle.seats.specs.Seats.{in_line}
use Rattle.seating.proofs.RowLaws.{any_in_line}
use Rattle.seating.proofs.lines.in_line.Goals as goal

-- the words of the row, counted from its first to its last
pub returns : goal.returns
returns c =
    let a = c.args in
    let n : 33 * a.row + 1 + c.from-n.result - (33 * a.row + 1) ≡ get_or a.lines.now (33 * a.row) 0 = omega (arith, c.from-n.ensures) in
    c.contains.ensures.value ∙ any_in_line a.k _ ∙ ap (λ (x : ℕ). in_line a.k (take x (drop (33 * a.row + 1) a.lines.now))) n
