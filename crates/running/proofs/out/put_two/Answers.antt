use native.Mathlib.Omega.{arith}
use mathlib.Core.List.{[], ◌∷◌}
use Prim.Native.Nat.{◌+◌}
use Rattle.format.proofs.PutRuns.{puts_then}
use Rattle.running.proofs.out.put_two.Goals as goal

pub returns : goal.returns
returns c =
    let a = c.args in
    let one = c.put_word in
    let two = c.put_word-2 in
    puts_then a.out.now one.new.out two.new.out a.at (a.at + 1) (a.first ∷ []) (a.second ∷ []) one.ensures (omega arith) two.ensures
