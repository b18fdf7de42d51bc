use Prim.Native.Nat.{◌*◌}
use native.Mathlib.Omega.{arith}
use lib.ListN.{length-set}
use Rattle.dispatching.proofs.visits.put_choice.Goals as goal

pub bounds-words-n-then-seen : goal.bounds-words-n-then-seen
bounds-words-n-then-seen c = let a = c.args in omega (arith, c.requires, length-set a.words.now (2 * a.n) a.i)

pub returns-then-seen : goal.returns-then-seen
returns-then-seen c = let a = c.args in (rw c.if-seen.true, rw c.if-seen.true)
