use Prim.Native.Nat.{◌+◌, ◌*◌}
use mathlib.Core.Path.{ap, ◌∙◌}
use mathlib.Core.List.{[], ◌∷◌}
use native.Mathlib.Omega.{arith}
use lib.Seq.{sets}
use Rattle.format.specs.Words.{bytes_of}
use Rattle.format.specs.Writing.{channel_words}
use Rattle.format.proofs.PutRuns.{puts_then}
use Rattle.merging.proofs.writers.put_channel.Goals as goal

pub returns : goal.returns
unfolding channel_words
returns c =
    let a = c.args in
    let at = c.place_of-at in
    let one = c.put_word in
    let two = c.put_word-2 in
    puts_then a.out.now one.new.out two.new.out at.result (at.result + 1) (a.it.owner ∷ []) (a.it.kind.0 ∷ []) one.ensures (omega arith) two.ensures
    ∙ ap (λ p. sets a.out.now (2 * p) (bytes_of (channel_words (a.it ∷ [])))) at.ensures.0
