use Prim.Native.Nat.{◌+◌, ◌*◌, ◌-◌}
use mathlib.Core.Path.{◌≡◌}
use lib.ListN.{length}
use lib.Seq.{sets}
use Rattle.format.specs.Words.{bytes_of}
use Rattle.steps.specs.Beside.{made_in, made_words}
use Rattle.running.proofs.out.put_made.Given as goal

abbrev pub invariant-loop-i : goal.invariant-loop-i
invariant-loop-i l = (length l.out ≡ length l.initial.out)
    × (sets l.out (2 * (4 + 2 * l.i)) (bytes_of (made_words (made_in l.beside (2 * l.i + 2) (l.made - l.i)))) ≡ sets l.initial.out 8 (bytes_of (made_words (made_in l.beside 2 l.made))))
