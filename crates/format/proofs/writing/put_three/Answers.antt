use Prim.Native.Nat.{◌+◌}
use mathlib.Core.List.{[], ◌∷◌}
use native.Mathlib.Omega.{arith}
use Rattle.format.proofs.PutRuns.{puts_then}
use Rattle.format.proofs.writing.put_three.Goals as goal

pub returns : goal.returns
returns c =
    let a = c.args in
    let one = c.put_word in
    let two = c.put_word-2 in
    let three = c.put_word-3 in
    let l = a.out.now in
    let done = puts_then l one.new.out two.new.out a.at (a.at + 1) (a.first ∷ []) (a.second ∷ []) one.ensures (omega arith) two.ensures in
    puts_then l two.new.out three.new.out a.at (a.at + 2) (a.first ∷ a.second ∷ []) (a.third ∷ []) done (omega arith) three.ensures
