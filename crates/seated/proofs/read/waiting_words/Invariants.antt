use Prim.Native.Nat.{◌*◌, ◌-◌}
use mathlib.Core.Path.{◌≡◌}
use lib.ListN.{length, get_or, take}
use Rattle.format.specs.Contents.{tabled}
use Rattle.seated.proofs.read.waiting_words.Given as goal

-- The invariant: the first k words are filled.
abbrev pub invariant-loop-k : goal.invariant-loop-k
invariant-loop-k l = (length l.all ≡ 16) × (take l.k l.all ≡ tabled (λ role. get_or l.lines (33 * (role - 1)) 0) 1 l.k)
