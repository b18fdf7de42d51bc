use Prim.Native.Nat.{◌-◌}
use mathlib.Core.Path.{◌≡◌}
use lib.Seq.{sets}
use Rattle.run.specs.WordList.{words_of_bytes}
use Rattle.run.proofs.list.put_words.Given as goal

abbrev pub invariant-loop-i : goal.invariant-loop-i
invariant-loop-i l = sets l.words l.i (words_of_bytes l.bytes l.i (l.i-end - l.i)) ≡ sets l.initial.words 0 (words_of_bytes l.bytes 0 l.i-end)
