use native.Mathlib.Omega.{arith}
use mathlib.Core.List.{[], ◌∷◌}
use Prim.Native.Nat.{◌+◌}
use Rattle.format.proofs.PutRuns.{puts_then}
use Rattle.running.proofs.out.put_four.Goals as goal

pub returns : goal.returns
returns c =
    let a = c.args in
    let one = c.put_two in
    let two = c.put_two-2 in
    puts_then a.out.now one.new.out two.new.out a.at (a.at + 2) (a.first ∷ a.second ∷ []) (a.third ∷ a.fourth ∷ []) one.ensures (omega arith) two.ensures
