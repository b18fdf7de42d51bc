use Prim.Native.Nat.{ℕ}
use mathlib.Core.Path.{ap₂}
use mathlib.Core.Bool.{◌&&◌}
use lib.Dec.{eqb, leb}
use lib.ListN.{length}
use Rattle.lending.proofs.sizes_fit.Goals as goal

pub returns : goal.returns
returns c =
    let a = c.args in
    ap₂ (λ (t m : ℕ). eqb (length a.beside.now) 162 && ((eqb a.records 64 && leb t 64) && leb m 64)) c.thread_count.ensures c.made_count.ensures
