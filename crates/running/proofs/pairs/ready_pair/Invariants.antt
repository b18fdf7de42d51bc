use Prim.Native.Nat.{ℕ, ◌<◌}
use mathlib.Core.Path.{◌≡◌}
use lib.ListN.{get_or}
use Rattle.running.proofs.PairLaws.{NoneAlike}
use Rattle.running.proofs.pairs.ready_pair.Given as goal

abbrev pub invariant-loop-j : goal.invariant-loop-j
invariant-loop-j l = (l.sender ≡ 0) × (l.receiver ≡ 0) × (l.j < l.count → l.over ≡ 0 → ⊥) × NoneAlike l.ins l.j l.over

abbrev pub invariant-senders : goal.invariant-senders
invariant-senders l = (l.sender ≡ 0) × (l.receiver ≡ 0) × ((k : ℕ) → k < l.i → NoneAlike l.ins l.count (get_or l.outs k 0))
