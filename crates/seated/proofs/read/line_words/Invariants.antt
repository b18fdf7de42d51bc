use Prim.Native.Nat.{◌/◌, ◌%◌}
use mathlib.Core.Path.{◌≡◌}
use lib.ListN.{length, take}
use Rattle.format.specs.Contents.{tabled}
use Rattle.seated.specs.ReadWords.{line_word}
use Rattle.seated.proofs.read.line_words.Given as goal

-- The invariant: the first k words are filled.
abbrev pub invariant-loop-k : goal.invariant-loop-k
invariant-loop-k l = (length l.all ≡ 512) × (take l.k l.all ≡ tabled (λ x. line_word l.lines (x / 32) (x % 32)) 0 l.k)
