use Prim.Native.Nat.{◌*◌}
use mathlib.Core.Path.{ap, ◌∙◌}
use mathlib.Core.List.{[], ◌∷◌}
use lib.Seq.{sets}
use Rattle.format.specs.Words.{bytes_of}
use Rattle.format.specs.Writing.{session_words}
use Rattle.format.proofs.writing.put_session.Goals as goal

pub returns : goal.returns
unfolding session_words
returns c =
    let a = c.args in
    c.put_three.ensures ∙ ap (λ p. sets a.out.now (2 * p) (bytes_of (session_words (a.it ∷ [])))) c.place_of.ensures.0
